-- How a container grows to a longer history, and how a connection goes on in it.
use Rattle.std.proofs.Common.{◌≡◌, ◌≤◌, arith, length, length-append, List, [], ◌∷◌, ◌++◌, refl, sym, ap, ◌∙◌}
use Rattle.std.proofs.lemmas.Grind.{flat_map-append}
use mathlib.Core.List.{IsPrefix}
use Rattle.boot_core.specs.Boot.{HasGrown}
use Rattle.boot_core.specs.declared.boot.Start.{Start}
use Rattle.call_ticket.specs.declared.next.Answer.{Answer}
use Rattle.call_ticket.specs.declared.next.Next.{Next}
use Rattle.container_core.specs.Container.{ContainerValue, HasGrownBy, events_of}
use Rattle.container_core.specs.History.{entries_in, entry_in}
use Rattle.container_core.specs.declared.history.Event.{Event}
use Rattle.deployment.specs.declared.parts.Parts.{Parts}
use Rattle.journal_model.specs.declared.entry.Entry.{Entry}
use Rattle.outside.specs.declared.link.LinkEvent.{LinkEvent}
use Rattle.shepherd.specs.Going.{GoesOn}
use Rattle.shepherd.specs.declared.shepherd.Shepherd.{Shepherd}
use Rattle.served_connections.specs.Serving.{GoesOnBehind}

-- a container to which these events were added
abbrev pub longer : ContainerValue → List Event → ContainerValue
longer c more = record c { boot = record (c.boot) { entries = c.boot.entries ++ entries_in more }; since = c.since ++ more }

pub has_grown : (c : ContainerValue) (more : List Event) → HasGrownBy c (longer c more)
has_grown c more = record { boot = record { start = refl; more = entries_in more; entries = refl }; more = more; since = refl }

-- A connection goes on behind a longer history.
pub goes_on_longer : {P L : Type 0} (accepts : P → Parts → Type 0) (asks : P → List Answer → Next) (calls : L → LinkEvent → L → Type 0)
    → ((container after : ContainerValue) (s : Shepherd P) → HasGrownBy container after → GoesOn accepts asks calls container s → GoesOn accepts asks calls after s)
    → (start : Start) (history more : List Event) (s : Shepherd P) → GoesOnBehind accepts asks calls start history s → GoesOnBehind accepts asks calls start (history ++ more) s
goes_on_longer accepts asks calls meanwhile start history more s h = record {
  container = longer h.container more;
  start_is = h.start_is;
  events_are = ap (λ (events : List Event). events ++ more) h.events_are;
  journal = flat_map-append entry_in h.container.since more ∙ ap (λ (es : List Entry). es ++ entries_in more) h.journal;
  goes_on = meanwhile h.container (longer h.container more) s (has_grown h.container more) h.goes_on;
}

-- the events behind a start
abbrev tail_of : List Event → List Event
tail_of [] = []
tail_of (e ∷ events) = events

-- A container whose history begins with that of another has grown from it.
pub grown_from : ((old new : ContainerValue) → entries_in old.since ≡ old.boot.entries → entries_in new.since ≡ new.boot.entries → IsPrefix (events_of old) (events_of new) → HasGrown old.boot new.boot)
    → (old new : ContainerValue) → entries_in old.since ≡ old.boot.entries → entries_in new.since ≡ new.boot.entries → IsPrefix (events_of old) (events_of new) → HasGrownBy old new
grown_from boots old new journal after_journal prefix = record {
  boot = boots old new journal after_journal prefix;
  more = prefix.0;
  since = sym (ap tail_of prefix.1);
}

-- A longer history has no fewer entries.
pub longer_entries : (history more : List Event) → length (entries_in history) ≤ length (entries_in (history ++ more))
longer_entries history more =
    let parts : length (entries_in (history ++ more)) ≡ length (entries_in history ++ entries_in more) = ap length (flat_map-append entry_in history more) in
    omega (arith, parts, length-append (entries_in history) (entries_in more))
