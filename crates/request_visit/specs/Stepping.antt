-- What each step of a request leaves: of the link, of the windows, and of the container.
use Rattle.std.specs.Prelude.{◌≡◌, ◌⊎◌, ◌++◌, Bool, List, Option, Some, None, option_map}
use Rattle.outside.specs.Link.{Tally}
use Rattle.outside.specs.declared.link.LinkCounts.{LinkCounts}
use Rattle.call_ticket.specs.declared.next.Answer.{Answer}
use Rattle.call_ticket.specs.declared.next.Next.{Next}
use Rattle.container_core.specs.Container.{ContainerValue}
use Rattle.send_windows.specs.declared.fact.WindowFact.{WindowFact}
use Rattle.send_windows.specs.declared.windows.TakeRefusal.TheVariants as refusal
use Rattle.send_windows.specs.Windows.{WindowsValue}
use Rattle.session_way.specs.Marks.{marks_by, refusal_marks}
use Rattle.session_way.specs.Way.{IsRefused, StepsWindows, answer_held}
use Rattle.session_way.specs.Writing.{answer_of_write}
use Rattle.session_way.specs.declared.lease.SessionLease.{SessionLease}
use Rattle.session_way.specs.declared.session_write.WriteOutcome.{WriteOutcome}
use Rattle.session_way.specs.declared.way.SessionWay.TheVariants as way
use Rattle.request_tries.specs.Serving.{TriesValue, closed}
use Rattle.request_tries.specs.declared.outcome.RequestOutcome.TheVariants.{Page}
use Rattle.outcome_items.specs.declared.outcome.ItemOutcome.TheVariants as item
use Rattle.request_visit.specs.Serving.{Serves}
use Rattle.request_visit.specs.Visits.{after_outcome, overloaded}
use Rattle.request_visit.specs.declared.facts.VisitFacts.{VisitFacts}
use Rattle.crash_base.specs.declared.numbers.Place.{Place}
use Rattle.request_visit.specs.declared.ready.Ready.{Ready}
use Rattle.request_visit.specs.declared.ready.Ready.TheVariants.{Respond, Write}
use Rattle.request_visit.specs.declared.serving.Closed.{Closed}
use Rattle.request_visit.specs.declared.serving.Closed.TheVariants as closes
use Rattle.request_visit.specs.declared.serving.Closing.{Closing}
use Rattle.request_visit.specs.declared.visit.Fate.TheVariants.{Known}
use Rattle.request_visit.specs.declared.visit.Visit.{Visit}
use Rattle.request_visit.specs.declared.visit.Work.{Work}
use Rattle.request_visit.specs.declared.visit.Work.TheVariants.{Reading, Opening, Serving, Committed, Decided, Answered, Left}

-- what a link has counted
abbrev pub counted : Tally → LinkCounts
counted tally = record { hushed = tally.hushed; got = tally.got }

-- Passes were taken for a request, and its write has begun; or those that it held were spent, and it was told what
-- its write came to.
pub record IsGiven {P : Type 0} (old : Visit P) (windows : WindowsValue) (new : Visit P) (after : WindowsValue) : Type 0 where
  pub outcome : Option WriteOutcome
  pub is_outcome : option_map answer_of_write outcome ≡ answer_held old.way
  pub step : StepsWindows old.way windows new.way after
  pub marks : after.history ≡ windows.history ++ marks_by old.way new.way
  pub new_is : new ≡ after_outcome outcome (record old { way = new.way })

-- Passes were refused, since too few windows were open.
pub record IsOverloaded {P : Type 0} (old : Visit P) (windows : WindowsValue) (new : Visit P) (after : WindowsValue) : Type 0 where
  pub full : List WindowFact
  pub refused : IsRefused old.way windows new.way after (refusal.Overload full)
  pub marks : after.history ≡ windows.history ++ refusal_marks (refusal.Overload full) old.way new.way
  pub new_is : new ≡ record old { way = new.way; work = overloaded full old.work }

-- A request gave back what it held, and was told what its write came to.
pub record IsGivenBack {P : Type 0} (old new : Visit P) : Type 0 where
  pub outcome : Option WriteOutcome
  pub is_outcome : option_map answer_of_write outcome ≡ answer_held old.way
  pub new_is : new ≡ after_outcome outcome (record old { way = way.Resting })

-- A request made one call of the windows.
abbrev pub VisitsWindows : {P : Type 0} → Visit P → WindowsValue → Visit P → WindowsValue → Type 0
VisitsWindows old windows new after = IsGiven old windows new after ⊎ IsOverloaded old windows new after

-- a request is served in the container, and this is so of its tries and its program
abbrev pub OnServing : {P : Type 0} → Work P → (TriesValue → P → Type 0) → Type 0
OnServing Reading So = ⊥
OnServing Opening So = ⊥
OnServing (Serving tries program) So = So tries program
OnServing (Committed place again shown) So = ⊥
OnServing (Decided became) So = ⊥
OnServing (Answered fate bytes) So = ⊥
OnServing (Left fate) So = ⊥

-- The request of this work made one step in the container; it has the same program still.
pub record ServesBy {P : Type 0} (asks : P → List Answer → Next) (old : ContainerValue) (facts : VisitFacts) (lease : Option SessionLease) (tries : TriesValue) (program : P) (closing : Option Closing) (new : ContainerValue) (work : Work P) : Type 0 where
  pub after : TriesValue
  pub serves : Serves old (asks program) facts lease tries closing new after
  pub work_is : work ≡ Serving after program

-- the same, of any work
abbrev pub ServesWork : {P : Type 0} → (P → List Answer → Next) → ContainerValue → VisitFacts → Option SessionLease → Work P → Option Closing → ContainerValue → Work P → Type 0
ServesWork asks old facts lease work closing new after =
    OnServing work (λ tries program. ServesBy asks old facts lease tries program closing new after)

-- a request that is committed: its response is made; or its session is written first
abbrev pub shown_so : {P : Type 0} → Place → Bool → Ready → Visit P → Visit P
shown_so place again (Respond bytes) v = record v { work = Answered (Known (item.Ended (Page place again))) bytes }
shown_so place again (Write order shown) v = record v { way = way.Ordered order; work = Committed place again shown }

-- a request that has left the container: it is committed; or its response is to be made
abbrev pub left_so : {P : Type 0} → Closed → Visit P → Visit P
left_so (closes.Page place again ready) v = shown_so place again ready v
left_so (closes.Other became) v = record v { work = Decided became }

-- the same, with how far the container had come
abbrev pub after_closing : {P : Type 0} → Closing → Visit P → Visit P
after_closing closing v = left_so closing.closed (record v { holds = closing.holds })

-- the same, if it has left
abbrev pub after_closing_if : {P : Type 0} → Option Closing → Visit P → Visit P
after_closing_if None v = v
after_closing_if (Some closing) v = after_closing closing v

-- A request made one step in the container, and left it where that has ended it.
pub record VisitsInside {P : Type 0} (asks : P → List Answer → Next) (old : Visit P) (container : ContainerValue) (new : Visit P) (after : ContainerValue) : Type 0 where
  pub closing : Option Closing
  pub work : Work P
  pub serves : ServesWork asks container old.facts old.lease old.work closing after work
  pub new_is : new ≡ after_closing_if closing (record old { work = work })

-- the work of a request whose call was given up
abbrev pub dropped : {P : Type 0} → Work P → Work P
dropped Reading = Reading
dropped Opening = Opening
dropped (Serving tries program) = Serving (closed tries) program
dropped (Committed place again shown) = Committed place again shown
dropped (Decided became) = Decided became
dropped (Answered fate bytes) = Answered fate bytes
dropped (Left fate) = Left fate
