-- The windows that were full where passes were refused for the requests of a connection.
use Rattle.std.specs.Prelude.{◌≡◌, ◌<◌, List, [], ◌∷◌, ◌++◌, Option, Some, None}
use Rattle.outcome_items.specs.declared.outcome.ItemOutcome.{ItemOutcome}
use Rattle.outcome_items.specs.declared.outcome.ItemOutcome.TheVariants as item
use Rattle.send_windows.specs.Facts.{full_facts, open_count}
use Rattle.send_windows.specs.Windows.{WindowsValue}
use Rattle.send_windows.specs.declared.fact.WindowFact.{WindowFact}
use Rattle.send_windows.specs.declared.history.WindowMark.TheVariants as mark

-- the windows that were full for a request, if passes were refused for it
abbrev pub full_in : ItemOutcome → Option (List WindowFact)
full_in (item.Refused why) = None
full_in (item.SerialsSpent seen) = None
full_in (item.Expired now expiry) = None
full_in (item.Lost causes) = None
full_in (item.Ended end) = None
full_in (item.Overload place again full) = Some full
full_in (item.Missed place again causes) = None

-- Passes were refused: fewer windows were open than a write needs, these are all others, and the mark stands in the
-- history.
pub record IsFoundFull (windows after : WindowsValue) (full : List WindowFact) : Type 0 where
  pub few : open_count windows.facts < windows.wq
  pub full_are : full ≡ full_facts windows.facts
  pub refused : after.history ≡ windows.history ++ mark.Refused ∷ []
