-- What has been done over a connection, from its begin on.
use Rattle.std.specs.Prelude.{ℕ, List, [], length}
use Rattle.container_core.specs.History.{entries_in}
use Rattle.container_core.specs.declared.history.Event.{Event}
use Rattle.outcome_items.specs.declared.item.Item.{Item}
use Rattle.outside.specs.declared.link.LinkCounts.{LinkCounts}
use Rattle.outside.specs.declared.link.LinkEvent.{LinkEvent}
use Rattle.request_decisions.specs.declared.draws.Draw.{Draw}
use Rattle.send_windows.specs.declared.fact.WindowFact.{WindowFact}
use Rattle.send_windows.specs.declared.history.WindowMark.{WindowMark}

-- Where a connection began: behind so many events of the history of its container, so many of them entries, at the
-- clock's last answer before, and behind what its link had counted.
pub record Begun : Type 0 where
  pub events : ℕ
  pub entries : ℕ
  pub moment : ℕ
  pub counts : LinkCounts

-- where a connection begins that is served over this history from now on
abbrev pub begun_behind : List Event → ℕ → LinkCounts → Begun
begun_behind history now counts = record { events = length history; entries = length (entries_in history); moment = now; counts = counts }

-- The course of a connection, each in order: the bytes that were fed to it, what was drawn for its requests, the serial
-- numbers that were looked at for them and found spent, what it put out, its items, the events that it added to the
-- history of the container, the marks that it left in that of the windows, with the numbers of passes left out, the
-- windows that were full where passes were refused, and the calls of its link.
pub record Course : Type 0 where
  pub fed : List ℕ
  pub drawn : List Draw
  pub looked : List ℕ
  pub written : List ℕ
  pub items : List Item
  pub own : List Event
  pub marks : List WindowMark
  pub full : List (List WindowFact)
  pub heard : List LinkEvent

-- the course of a connection that begins
abbrev pub no_course : Course
no_course = record { fed = []; drawn = []; looked = []; written = []; items = []; own = []; marks = []; full = []; heard = [] }
