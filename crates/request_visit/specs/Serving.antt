-- A step of a request in the container, and how it leaves that.
use Rattle.std.specs.Prelude.{◌≡◌, Bool, if◌then◌else◌, List, Option, Some, None, option_map}
use Rattle.journal_model.specs.declared.entry.DoneText.{DoneText}
use Rattle.call_ticket.specs.declared.next.Answer.{Answer}
use Rattle.call_ticket.specs.declared.next.Next.{Next}
use Rattle.container_core.specs.Container.{ContainerValue, events_of}
use Rattle.container_core.specs.declared.history.Event.{Event}
use Rattle.request_tries.specs.Ends.{done_of}
use Rattle.request_tries.specs.Serving.{TriesValue}
use Rattle.request_tries.specs.Steps.{Brings, CommitsAs, StepsAs}
use Rattle.request_tries.specs.declared.outcome.Ended.{Ended}
use Rattle.request_tries.specs.declared.outcome.Progress.{Progress}
use Rattle.request_tries.specs.declared.outcome.Progress.TheVariants as progress
use Rattle.request_tries.specs.declared.outcome.RequestOutcome.{RequestOutcome}
use Rattle.request_tries.specs.declared.outcome.RequestOutcome.TheVariants.{Page, Sentinel, Hung, Raised, Revoked, Conflict, JournalFull, KeeperFailed}
use Rattle.session_way.specs.declared.lease.SessionLease.{SessionLease}
use Rattle.outcome_items.specs.declared.item.Holds.{Holds}
use Rattle.outcome_items.specs.declared.outcome.ItemOutcome.TheVariants as item
use Rattle.request_visit.specs.Ready.{ready_of}
use Rattle.request_visit.specs.declared.facts.VisitFacts.{VisitFacts}
use Rattle.request_visit.specs.declared.ready.Ready.{Ready}
use Rattle.request_visit.specs.declared.serving.Closed.{Closed}
use Rattle.request_visit.specs.declared.serving.Closed.TheVariants as closed
use Rattle.request_visit.specs.declared.serving.Closing.{Closing}

-- how far the container had come when it was held for a request that has ended so
abbrev pub holds_of : Ended → Holds
holds_of e = record { from = e.from; front = e.front; held = e.held }

-- how a request leaves the container, by what follows its page
abbrev pub closed_with : (Bool → Ready) → RequestOutcome → Closed
closed_with ready (Page place again) = closed.Page place again (ready again)
closed_with ready (Sentinel group down) = closed.Other (item.Ended (Sentinel group down))
closed_with ready (Hung component fault path) = closed.Other (item.Ended (Hung component fault path))
closed_with ready (Raised component fault path) = closed.Other (item.Ended (Raised component fault path))
closed_with ready (Revoked tries) = closed.Other (item.Ended (Revoked tries))
closed_with ready (Conflict tries) = closed.Other (item.Ended (Conflict tries))
closed_with ready (JournalFull full) = closed.Other (item.Ended (JournalFull full))
closed_with ready KeeperFailed = closed.Other (item.Ended KeeperFailed)

-- How a request leaves the container that has ended so: what follows its page is by what the entry of the page
-- answers in the history.
abbrev pub closing_of : VisitFacts → Option SessionLease → List Event → Ended → Closing
closing_of facts lease events e =
    record { closed = closed_with (λ again. ready_of facts lease (done_of events e)) e.outcome; holds = holds_of e }

-- what follows a page, where this was made before the commit, and an entry that was there already answers that
abbrev pub ready_after : VisitFacts → Option SessionLease → Option Ready → Option DoneText → Bool → Ready
ready_after facts lease (Some ready) done again = if again then ready_of facts lease done else ready
ready_after facts lease None done again = ready_of facts lease done

-- the same as an end
abbrev pub closing_after : VisitFacts → Option SessionLease → Option Ready → Ended → Closing
closing_after facts lease ready e =
    record { closed = closed_with (ready_after facts lease ready e.done) e.outcome; holds = holds_of e }

-- The request of a step goes on: with nothing more; by its commit, where its program was done; or it has ended.
abbrev pub GoesOn : ContainerValue → TriesValue → Progress → Option Ended → ContainerValue → TriesValue → Type 0
GoesOn old mid progress.Went end new after = (end ≡ None) × (new ≡ old) × (after ≡ mid)
GoesOn old mid (progress.Done done) end new after = CommitsAs old mid mid.attempt done end new after
GoesOn old mid (progress.Ended e) end new after = (end ≡ Some e) × (new ≡ old) × (after ≡ mid)

-- A request that is done was committed, and left the container where that has ended it.
pub record Commits (old : ContainerValue) (asks : List Answer → Next) (facts : VisitFacts) (lease : Option SessionLease) (s : TriesValue) (done : DoneText) (closing : Option Closing) (new : ContainerValue) (after : TriesValue) : Type 0 where
  pub end : Option Ended
  pub commits : CommitsAs old s s.attempt done end new after
  pub brings : Brings old new asks s after end
  pub closing_is : closing ≡ option_map (closing_of facts lease (events_of new)) end

-- A request made one step in the container, which may count an entering, and its commit where its program is done; and
-- it left the container where that has ended it.
pub record Serves (old : ContainerValue) (asks : List Answer → Next) (facts : VisitFacts) (lease : Option SessionLease) (s : TriesValue) (closing : Option Closing) (new : ContainerValue) (after : TriesValue) : Type 0 where
  pub to : Progress
  pub between : ContainerValue
  pub mid : TriesValue
  pub end : Option Ended
  pub steps : StepsAs old asks s s.attempt to between mid
  pub goes_on : GoesOn between mid to end new after
  pub brings : Brings old new asks s after end
  pub closing_is : closing ≡ option_map (closing_of facts lease (events_of new)) end
