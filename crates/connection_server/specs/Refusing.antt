-- What a seat has seen of windows that were full.
use Rattle.std.specs.Prelude.{◌≡◌, ◌<◌, List, [], ◌∷◌, ◌++◌, All}
use mathlib.Core.List.{IsPrefix}
use Rattle.send_windows.specs.Facts.{full_facts, open_count}
use Rattle.send_windows.specs.Windows.{KeepLimits, WindowsValue}
use Rattle.send_windows.specs.declared.fact.WindowFact.{WindowFact}
use Rattle.send_windows.specs.declared.history.WindowMark.{WindowMark}
use Rattle.send_windows.specs.declared.history.WindowMark.TheVariants as mark

-- Passes were refused at a moment of a history of windows, which so begins with the numbers that these were opened
-- with: fewer of them were open than a write needs, these are all others, and the mark stands behind.
pub record WereRefused (history : List WindowMark) (full : List WindowFact) : Type 0 where
  pub windows : WindowsValue
  pub limits : KeepLimits windows
  pub behind : IsPrefix (windows.history ++ mark.Refused ∷ []) history
  pub few : open_count windows.facts < windows.wq
  pub full_are : full ≡ full_facts windows.facts

-- the same of each of these lists
abbrev pub AllRefused : List WindowMark → List (List WindowFact) → Type 0
AllRefused history lists = All (λ (full : List WindowFact). WereRefused history full) lists
