-- What the keeper tells where memory runs out for what follows a commit.
use Rattle.std.specs.Prelude.{Result, Ok, Err, OnErr, option_map}
use Rattle.std.proofs.Common.{◌≡◌, ◌⊎◌, Bool, true, inl, inr, Option, Some, None, ap}
use Rattle.crash_base.specs.declared.memory.OutOfMemory.{OutOfMemory}
use Rattle.crash_base.specs.declared.numbers.Place.{Place}
use Rattle.journal_model.specs.declared.entry.DoneText.{DoneText}
use Rattle.boot_core.specs.declared.refusals.CommitRefusal.{CommitRefusal}
use Rattle.boot_core.specs.declared.refusals.CommitRefusal.TheVariants as commits
use Rattle.boot_core.specs.declared.refusals.Refused.{Refused}
use Rattle.container_core.specs.Container.{ContainerValue, CommitLeaves, RefusalLeaves}
use Rattle.call_attempts.specs.Attempt.{AttemptValue}
use Rattle.outcome_items.specs.Traces.{again_in_end}
use Rattle.request_tries.specs.Serving.{TriesValue, closed}
use Rattle.request_tries.specs.Steps.{CommitsAs, HearsCommit, IsRefused, KeepsNothing, action_of, front_at}
use Rattle.request_tries.specs.declared.outcome.Ended.{Ended}
use Rattle.request_visit.specs.declared.ready.Ready.{Ready}

-- whether an earlier call of a request had committed it, where it has ended
abbrev again_of : Option Ended → Option (Option Bool)
again_of end = option_map (λ (e : Ended). again_in_end e.outcome) end

-- a container that is as it was
same : (old new : ContainerValue) → new ≡ old → KeepsNothing old new
same old new is = inl (ap (λ (c : ContainerValue). c.told) is)

by_refusal : (old new : ContainerValue) (s after : TriesValue) (a : AttemptValue) (e : Ended) (why : CommitRefusal) → again_in_end e.outcome ≡ Some true
    → RefusalLeaves why a.ticket.call old new → IsRefused (front_at new) new.boot.entries (closed s) a.ticket.call.at why a.repeats (Some e) after → KeepsNothing old new
by_refusal old new s after a e (commits.Already place) again left hears = same old new left
by_refusal old new s after a e (commits.Revoked shown) again left hears = same old new left
by_refusal old new s after a e (commits.Conflict conflict) again left hears = same old new left
by_refusal old new s after a e (commits.JournalFull full) again left hears = same old new left
by_refusal old new s after a e commits.KeeperFailed again left hears = let told = ap again_of hears in absurd (cc)
by_refusal old new s after a e commits.OutOfMemory again left hears = absurd hears

by_answer : (old new : ContainerValue) (s after : TriesValue) (a : AttemptValue) (done : DoneText) (e : Ended) (answer : Result Place Refused) → again_in_end e.outcome ≡ Some true
    → CommitLeaves a.ticket.call (action_of s done) answer old new → HearsCommit (front_at new) new.boot.entries (closed s) a.ticket.call.at a.repeats answer (Some e) after → KeepsNothing old new
by_answer old new s after a done e (Ok place) again left hears = let told = ap again_of hears in absurd (cc)
by_answer old new s after a done e (Err refused) again left hears = by_refusal old new s after a e refused.cause again left.0 hears

by_commit : (old new : ContainerValue) (s after : TriesValue) (a : Option AttemptValue) (done : DoneText) (e : Ended) → again_in_end e.outcome ≡ Some true
    → CommitsAs old s a done (Some e) new after → KeepsNothing old new
by_commit old new s after None done e again commits = absurd commits
by_commit old new s after (Some a) done e again c = by_answer old new s after a done e c.answer again c.leaves c.hears

-- Where memory runs out for what follows a commit, nothing was kept.
pub unkept_page : {T : Type 0} (old new : ContainerValue) (s after : TriesValue) (done : DoneText) (e : Ended) (ready : Ready) (result : Result T OutOfMemory)
    → (again_in_end e.outcome ≡ Some true) ⊎ (Some ready ≡ None) → CommitsAs old s s.attempt done (Some e) new after → OnErr result (KeepsNothing old new)
unkept_page old new s after done e ready (Ok value) wanted c = tt
unkept_page old new s after done e ready (Err want) (inl again) c = by_commit old new s after s.attempt done e again c
unkept_page old new s after done e ready (Err want) (inr never) c = absurd (cc)
