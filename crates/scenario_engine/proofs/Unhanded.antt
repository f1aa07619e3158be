-- Steps of connections that hand nothing to the keeper, and those that it fails.
use Rattle.std.proofs.Common.{◌≡◌, ◌≢◌, ℕ, true, false, List, [], ◌∷◌, refl, sym, ap}
use Rattle.crash_base.specs.declared.rows.RowWrite.{RowWrite}
use Rattle.scenario_text.specs.Answer.{Answer, Refused, Done}
use Rattle.scenario_text.specs.declared.seat_line.SeatLine.TheVariants as seats
use Rattle.seat_lines.specs.Handing.{Handed, handed_first, writes_by}
use Rattle.seat_lines.specs.Lines.{step_line}
use Rattle.seat_lines.specs.Site.{SiteState, seat_at}
use Rattle.scenario_engine.specs.KeeperCalls.{Failed}
use Rattle.scenario_engine.specs.Seats.{handed_calls, next_calls_over}
use Rattle.scenario_engine.specs.State.{RunningState, site_of}
use Rattle.scenario_engine.proofs.SeatChanges.{ReplyLaw, unasked_step}
use Rattle.scenario_engine.proofs.SeatRows.{is_done, done_alike}

-- what a step hands by its answer, to a keeper that fails
abbrev hands_by : SiteState → ℕ → Answer SiteState → List Handed
hands_by s n a = elim a [ Refused ↦ [] | Done t out ↦ handed_first (writes_by (seat_at s.seats.seats n) s.boot) false [] ]

no_writes : (writes : List RowWrite) → handed_calls (handed_first writes false []) ≡ [] → writes ≡ []
no_writes [] none = refl
no_writes (w ∷ ws) none = absurd (cc)

-- where a step is refused, it is by each reply
refused_alike : (s : SiteState) (n : ℕ) (a b : Answer SiteState) → step_line s n true ≡ a → step_line s n false ≡ b → is_done a ≡ is_done b → b ≡ Refused → a ≡ b
refused_alike s n Refused b is other alike none = sym none
refused_alike s n (Done t out) b is other alike none = let not : is_done b ≡ false = ap is_done none in absurd (cc)

pub unhanded_alike : ReplyLaw → (r : RunningState) (n : ℕ) → next_calls_over r (seats.Step n) false ≡ [] → step_line (site_of r) n true ≡ step_line (site_of r) n false
unhanded_alike unasked r n none = go (step_line s n false) refl none
  where
    s : SiteState
    s = site_of r

    go : (b : Answer SiteState) → step_line s n false ≡ b → handed_calls (hands_by s n b) ≡ [] → step_line s n true ≡ step_line s n false
    go Refused is none = refused_alike s n (step_line s n true) (step_line s n false) refl refl (done_alike s n true false) is
    go (Done t out) is none = unasked_step unasked s n true false (no_writes (writes_by (seat_at r.seats.seats n) r.boot) none)

pub failed_handed : (r : RunningState) (n : ℕ) → next_calls_over r (seats.Step n) false ≢ [] → next_calls_over r (seats.Step n) false ≡ Failed ∷ []
failed_handed r n some = go (step_line (site_of r) n false) some
  where
    by : (writes : List RowWrite) → handed_calls (handed_first writes false []) ≢ [] → handed_calls (handed_first writes false []) ≡ Failed ∷ []
    by [] some = absurd (some refl)
    by (w ∷ ws) some = refl

    go : (a : Answer SiteState) → handed_calls (hands_by (site_of r) n a) ≢ [] → handed_calls (hands_by (site_of r) n a) ≡ Failed ∷ []
    go Refused some = absurd (some refl)
    go (Done t out) some = by (writes_by (seat_at r.seats.seats n) r.boot) some
