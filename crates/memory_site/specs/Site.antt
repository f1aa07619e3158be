-- The site with its connections, as contracts see it, and what its calls leave of it.
use Rattle.std.specs.Prelude.{◌≡◌, ℕ, ◌≤◌, true, List, length, Option, Some, None, option_map, slice_get, slice_set}
use Rattle.auction_calls.specs.declared.action.ActionCall.{ActionCall}
use Rattle.boot_core.specs.Refusals.{commit_refusal, reboot_refusal}
use Rattle.commit_journal.specs.Journal.{IsScope}
use Rattle.container_core.specs.Container.{ContainerValue}
use Rattle.crash_base.specs.declared.numbers.BrickNo.{BrickNo}
use Rattle.crash_base.specs.declared.numbers.Moment.{Moment}
use Rattle.crash_base.specs.declared.numbers.RequestNo.{RequestNo}
use Rattle.crash_base.specs.declared.numbers.WorkerNo.{WorkerNo}
use Rattle.crash_base.specs.declared.scope.Scope.{Scope}
use Rattle.journal_model.specs.Calls.{Call, begun, entry_of}
use Rattle.journal_model.specs.declared.entry.Entry.{Entry}
use Rattle.journal_model.specs.declared.entry.Entry.TheVariants.{Commit}
use Rattle.link_memory.specs.Script.{ScriptValue}
use Rattle.memory_site.specs.Steps.{IsGivenUp, StepsAt, SurroundingsValue, WantsAt}
use Rattle.memory_site.specs.declared.steps.StepEnd.{StepEnd}
use Rattle.memory_site.specs.declared.steps.StepEnd.TheVariants as ends
use Rattle.outcome_items.specs.declared.item.Item.{Item}
use Rattle.send_windows.specs.Windows.{WindowsValue}
use Rattle.shepherd.specs.Shepherds.{fresh, turn}
use Rattle.shepherd.specs.declared.shepherd.Shepherd.{Shepherd}

-- what the connections go through, and the connections, each by its number
pub record SiteValue : Type 0 where
  pub around : SurroundingsValue
  pub shepherds : List (Shepherd ActionCall)

-- the site with this container
abbrev pub with_container : ContainerValue → SiteValue → SiteValue
with_container container site = record site { around = record (site.around) { container = container } }

-- the site with these windows
abbrev pub with_windows : WindowsValue → SiteValue → SiteValue
with_windows windows site = record site { around = record (site.around) { windows = windows } }

-- the site with this link
abbrev pub with_link : ScriptValue → SiteValue → SiteValue
with_link link site = record site { around = record (site.around) { link = link } }

-- the site after its clock was read, which shows this moment from now on
abbrev pub showing : Moment → SiteValue → SiteValue
showing now site =
    record site { around = record (site.around) { clock = record { shown = now; told = site.around.clock.shown } } }

-- the site with this connection of a number, or as it was
abbrev pub with_shepherd : ℕ → Option (Shepherd ActionCall) → SiteValue → SiteValue
with_shepherd at None site = site
with_shepherd at (Some s) site = record site { shepherds = slice_set site.shepherds at s }

-- the site after the connection of a number changed so, if it has one
abbrev pub on_shepherd : ℕ → (Shepherd ActionCall → Shepherd ActionCall) → SiteValue → SiteValue
on_shepherd at change site = with_shepherd at (option_map change (slice_get site.shepherds at)) site

-- The connection of a number, if there is one, made the step of its turn, and the others are as they were. Where there
-- is none, it waits, and nothing changed.
abbrev pub MakesStep : Option (Shepherd ActionCall) → SiteValue → ℕ → StepEnd → SiteValue → Type 0
MakesStep None old at end new = (end ≡ ends.Waits) × (new ≡ old)
MakesStep (Some s) old at end new =
    (after : Shepherd ActionCall) × StepsAt (turn s) old.around s end new.around after
    × (new.shepherds ≡ slice_set old.shepherds at after)

-- Memory was wanted for the step of the connection of a number: there is one, and it has ended. The others are as they
-- were.
abbrev pub WantsMemory : Option (Shepherd ActionCall) → SiteValue → ℕ → SiteValue → Type 0
WantsMemory None old at new = ⊥
WantsMemory (Some s) old at new =
    (after : Shepherd ActionCall) × (after.wants_memory ≡ true) × WantsAt (turn s) old.around s new.around after
    × (new.shepherds ≡ slice_set old.shepherds at after)

-- The connection of a number, if there is one, was given up, and one of which nothing came yet has its number; the
-- others are as they were. Where there is none, nothing changed.
abbrev pub GivesUp : Option (Shepherd ActionCall) → SiteValue → ℕ → Option Item → SiteValue → Type 0
GivesUp None old at item new = (item ≡ None) × (new ≡ old)
GivesUp (Some s) old at item new =
    IsGivenUp old.around s item new.around × (new.shepherds ≡ slice_set old.shepherds at fresh)

-- there is such a scope, and nothing refuses its reboot
abbrev pub MayGoDown : Scope → ContainerValue → Type 0
MayGoDown scope container =
    IsScope scope × (reboot_refusal container.boot.start.limits container.boot.entries scope ≡ None)

-- the call of a request that did nothing, and began now
abbrev pub idle_call : RequestNo → WorkerNo → ContainerValue → Call
idle_call request worker container = begun request worker (record { 0 = length container.boot.entries })

-- its entry: it made no action
abbrev pub idle_entry : RequestNo → WorkerNo → ContainerValue → Entry
idle_entry request worker container = Commit (entry_of (idle_call request worker container) None)

-- nothing refuses its commit
abbrev pub MayCommit : RequestNo → WorkerNo → ContainerValue → Type 0
MayCommit request worker container =
    commit_refusal container.boot.start.limits container.boot.entries (idle_call request worker container) None ≡ None

-- the link has such a brick
abbrev pub IsBrickOf : ScriptValue → BrickNo → Type 0
IsBrickOf link brick = (1 ≤ brick.0) × (brick.0 ≤ length link.lanes)
