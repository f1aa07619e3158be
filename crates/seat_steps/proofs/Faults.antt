-- A keeper that did not keep what it was handed has failed once more.
use Rattle.std.proofs.Common.{◌≡◌, ◌∙◌, ℕ, true, false, List, [], ◌∷◌, ◌++◌, Option, Some, None, Result, Ok, Err, refl, sym, ap, subst}
use Rattle.std.specs.Prelude.{IfErr}
use Rattle.auction_calls.specs.declared.action.ActionCall.{ActionCall}
use Rattle.auction_site.specs.Actions.{steps_of}
use Rattle.boot_core.specs.declared.refusals.CommitRefusal.{CommitRefusal}
use Rattle.boot_core.specs.declared.refusals.CommitRefusal.TheVariants as commits
use Rattle.boot_core.specs.declared.refusals.Refused.{Refused}
use Rattle.call_attempts.specs.Attempt.{AttemptValue}
use Rattle.container_core.specs.Container.{CommitLeaves, ContainerValue, RefusalLeaves}
use Rattle.container_core.specs.declared.history.Event.{Event}
use Rattle.container_core.specs.declared.history.Event.TheVariants.{Added}
use Rattle.crash_base.specs.declared.numbers.Place.{Place}
use Rattle.journal_model.specs.Calls.{Call, entry_of}
use Rattle.journal_model.specs.declared.entry.ActionEntry.{ActionEntry}
use Rattle.journal_model.specs.declared.entry.DoneText.{DoneText}
use Rattle.journal_model.specs.declared.entry.Entry.TheVariants.{Commit}
use Rattle.outside.specs.Faults.{Rose}
use Rattle.request_tries.specs.Serving.{TriesValue}
use Rattle.request_tries.specs.Steps.{CommitsAs, StepsAs, action_of}
use Rattle.request_tries.specs.declared.outcome.Ended.{Ended}
use Rattle.request_tries.specs.declared.outcome.Progress.{Progress}
use Rattle.request_tries.specs.declared.outcome.Progress.TheVariants as progress
use Rattle.request_visit.specs.Serving.{GoesOn}
use Rattle.request_visit.specs.Stepping.{ServesWork, VisitsInside}
use Rattle.request_visit.specs.declared.visit.Visit.{Visit}
use Rattle.request_visit.specs.declared.visit.Work.{Work}
use Rattle.request_visit.specs.declared.visit.Work.TheVariants.{Reading, Opening, Serving, Committed, Decided, Answered, Left}
use Rattle.shepherd_steps.specs.Inside.{added_to, kept_in}
use Rattle.seat_steps.specs.Stepped.{kept_between}

behind : (xs ys : List Event) → added_to xs (xs ++ ys) ≡ ys
behind [] ys = refl
behind (x ∷ xs) ys = behind xs ys

none-behind : (xs : List Event) → added_to xs xs ≡ []
none-behind [] = refl
none-behind (x ∷ xs) = none-behind xs

-- the step of an attempt that is open, if one is, adds no event, and leaves the count of faults
steps-add : (old between : ContainerValue) (program : ActionCall) (s after : TriesValue) (o : Option AttemptValue) (to : Progress) → StepsAs old (steps_of program) s o to between after
    → (between.since ≡ old.since) × (between.faults ≡ old.faults)
steps-add old between program s after None to steps = (ap (λ (c : ContainerValue). c.since) steps.2, ap (λ (c : ContainerValue). c.faults) steps.2)
steps-add old between program s after (Some a) to (came, next, stepped, comes, left) = (ap (λ (c : ContainerValue). c.since) left, ap (λ (c : ContainerValue). c.faults) left)

module _ (old new : ContainerValue) (never : kept_between old new ≡ false) where
  -- the events are not as they were
  not-same : {P : Type 0} → new.since ≡ old.since → P
  not-same same = absurd (
      let kept : kept_between old new ≡ true = ap (λ (s : List Event). kept_in (added_to old.since s)) same ∙ ap kept_in (none-behind old.since) in
      let e : true ≡ false = sym kept ∙ never in cc)

  same-box : {P : Type 0} → new ≡ old → P
  same-box same = not-same (ap (λ (c : ContainerValue). c.since) same)

  refusal-rose : (c : CommitRefusal) (call : Call) → RefusalLeaves c call old new → (c ≡ commits.KeeperFailed → Rose old.faults new.faults) → Rose old.faults new.faults
  refusal-rose commits.KeeperFailed call leaves failed = failed refl
  refusal-rose commits.OutOfMemory call leaves failed = not-same leaves.1
  refusal-rose (commits.Already place) call leaves failed = same-box leaves
  refusal-rose (commits.Revoked s) call leaves failed = same-box leaves
  refusal-rose (commits.Conflict c) call leaves failed = same-box leaves
  refusal-rose (commits.JournalFull full) call leaves failed = same-box leaves

  answer-rose : (call : Call) (action : Option ActionEntry) (answer : Result Place Refused) → CommitLeaves call action answer old new
      → IfErr answer (λ refused. refused.cause ≡ commits.KeeperFailed → Rose old.faults new.faults) → Rose old.faults new.faults
  answer-rose call action (Ok place) leaves failed = absurd (
      let added : new.since ≡ old.since ++ Added (Commit (entry_of call action)) ∷ [] = ap (λ (c : ContainerValue). c.since) leaves.1 in
      let kept : kept_between old new ≡ true =
      ap (λ (s : List Event). kept_in (added_to old.since s)) added ∙ ap kept_in (behind old.since (Added (Commit (entry_of call action)) ∷ [])) in
      let e : true ≡ false = sym kept ∙ never in cc)
  answer-rose call action (Err refused) leaves failed = refusal-rose refused.cause call leaves.0 failed

  commit-rose : (s : TriesValue) (o : Option AttemptValue) (done : DoneText) (end : Option Ended) (after : TriesValue) → CommitsAs old s o done end new after → Rose old.faults new.faults
  commit-rose s None done end after commits = absurd commits
  commit-rose s (Some a) done end after commits = answer-rose a.ticket.call (action_of s done) commits.answer commits.leaves commits.failed

  goes-rose : (mid : TriesValue) (to : Progress) (end : Option Ended) (after : TriesValue) → GoesOn old mid to end new after → Rose old.faults new.faults
  goes-rose mid progress.Went end after goes = same-box goes.1
  goes-rose mid (progress.Done done) end after goes = commit-rose mid mid.attempt done end after goes
  goes-rose mid (progress.Ended e) end after goes = same-box goes.1

module _ (old new : ContainerValue) (never : kept_between old new ≡ false) where
  serves-rose : (s : TriesValue) (o : Option AttemptValue) (program : ActionCall) (to : Progress) (between : ContainerValue) (mid : TriesValue) (end : Option Ended) (after : TriesValue)
      → StepsAs old (steps_of program) s o to between mid → GoesOn between mid to end new after → Rose old.faults new.faults
  serves-rose s o program to between mid end after steps goes =
      let same : (between.since ≡ old.since) × (between.faults ≡ old.faults) = steps-add old between program s mid o to steps in
      let still : kept_between between new ≡ false = subst (λ (xs : List Event). kept_in (added_to xs new.since) ≡ false) (sym same.0) never in
      subst (λ (n : ℕ). Rose n new.faults) same.1 (goes-rose between new still mid to end after goes)

  -- The count of faults rose in the step of a request whose writes the keeper did not keep.
  pub visit-rose : (v w : Visit ActionCall) → VisitsInside steps_of v old w new → Rose old.faults new.faults
  visit-rose v w visits = by v.work visits.serves where
    by : (work : Work ActionCall) → ServesWork steps_of old v.facts v.lease work visits.closing new visits.work → Rose old.faults new.faults
    by Reading serves = absurd serves
    by Opening serves = absurd serves
    by (Serving tries program) serves =
        let it = serves.serves in serves-rose tries tries.attempt program it.to it.between it.mid it.end serves.after it.steps it.goes_on
    by (Committed place again shown) serves = absurd serves
    by (Decided became) serves = absurd serves
    by (Answered fate bytes) serves = absurd serves
    by (Left fate) serves = absurd serves
