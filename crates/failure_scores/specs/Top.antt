-- Which component has the greatest score.
use Rattle.std.specs.Prelude.{◌≡◌, ℕ, ◌<◌, ◌≤◌, List, Option, Some, None, All}
use Rattle.crash_base.specs.declared.numbers.ComponentNo.{ComponentNo}
use Rattle.crash_base.specs.declared.numbers.Moment.{Moment}
use Rattle.failure_scores.specs.declared.report.PathReport.{PathReport}
use Rattle.failure_scores.specs.Scores.{score}

-- By these scores d does not come before c, which scores n: it scores no more, and where it scores as much its
-- number is not the lesser.
pub record IsBehind (s : ComponentNo → ℕ) (c : ComponentNo) (n : ℕ) (d : ComponentNo) : Type 0 where
  pub no_more : s d ≤ n
  pub later : s d ≡ n → c.0 ≤ d.0

-- A component has this score, which is not 0, and no component comes before it.
pub record IsTop (reports : List PathReport) (now : Moment) (c : ComponentNo) (n : ℕ) : Type 0 where
  pub scores : score reports c now ≡ n
  pub some : 0 < n
  pub behind : (d : ComponentNo) → IsBehind (λ e. score reports e now) c n d

-- the same among some components, by any scores
pub record IsBestOf (s : ComponentNo → ℕ) (seen : List ComponentNo) (c : ComponentNo) (n : ℕ) : Type 0 where
  pub scores : s c ≡ n
  pub some : 0 < n
  pub behind : All (IsBehind s c n) seen

-- the best of some components, and None where each of them scores 0
abbrev pub IsBest : (ComponentNo → ℕ) → List ComponentNo → Option (ComponentNo × ℕ) → Type 0
IsBest s seen None = All (λ (d : ComponentNo). s d ≡ 0) seen
IsBest s seen (Some best) = IsBestOf s seen best.0 best.1
