-- Where a request began and ended that a step in the container has ended, and that it began there where it goes on.
use Rattle.std.specs.Prelude.{Result, Ok, Err}
use Rattle.std.proofs.Common.{◌≡◌, ℕ, Bool, true, List, length, Option, Some, None, refl, sym, ap, ◌∙◌, subst}
use Rattle.boot_core.specs.declared.refusals.CommitRefusal.{CommitRefusal}
use Rattle.boot_core.specs.declared.refusals.CommitRefusal.TheVariants as commits
use Rattle.boot_core.specs.declared.refusals.Refused.{Refused}
use Rattle.call_attempts.specs.Attempt.{AttemptValue}
use Rattle.call_attempts.specs.declared.attempt.Stepped.{Stepped}
use Rattle.call_attempts.specs.declared.attempt.Stepped.TheVariants as coming
use Rattle.call_attempts.specs.declared.stop.Stop.{Stop}
use Rattle.call_attempts.specs.declared.stop.Stop.TheVariants as stops
use Rattle.call_ticket.specs.declared.next.Answer.{Answer}
use Rattle.call_ticket.specs.declared.next.Next.{Next}
use Rattle.container_core.specs.Container.{ContainerValue}
use Rattle.crash_base.specs.declared.numbers.ComponentNo.{ComponentNo}
use Rattle.crash_base.specs.declared.numbers.Place.{Place}
use Rattle.journal_model.specs.declared.entry.DoneText.{DoneText}
use Rattle.journal_model.specs.declared.entry.Entry.{Entry}
use Rattle.request_tries.specs.Serving.{TriesValue, begun_at, closed}
use Rattle.request_tries.specs.Steps.{ComesTo, CommitsAs, EndsTry, HearsCommit, IsRefused, IsStopped, StepsAs, end_of, front_at, progress_of}
use Rattle.request_tries.specs.declared.outcome.Ended.{Ended}
use Rattle.request_tries.specs.declared.outcome.HistoryFront.{HistoryFront}
use Rattle.request_tries.specs.declared.outcome.Progress.{Progress}
use Rattle.request_tries.specs.declared.outcome.Progress.TheVariants as progress
use Rattle.request_tries.specs.declared.outcome.TryCause.{TryCause}
use Rattle.request_tries.specs.declared.outcome.TryCause.TheVariants as cause
use Rattle.request_visit.specs.Serving.{GoesOn}
use Rattle.request_visit.proofs.Between.{step_entries}

-- the law that an end tells where the first try of its request began, and that no step changes that
pub record BeginWithFirstTries : Type 0 where
  pub stopped : (c : ContainerValue) (asks : List Answer → Next) (new : ContainerValue) (s after : TriesValue) (e : Ended)
      → StepsAs c asks s s.attempt (progress.Ended e) new after → e.from.0 ≡ begun_at s (length c.boot.entries)
  pub committed : (old new : ContainerValue) (s after : TriesValue) (done : DoneText) (e : Ended)
      → CommitsAs old s s.attempt done (Some e) new after → e.from.0 ≡ begun_at s (length old.boot.entries)
  pub stepped : (c : ContainerValue) (asks : List Answer → Next) (new : ContainerValue) (s after : TriesValue) (to : Progress) (later : ℕ)
      → StepsAs c asks s s.attempt to new after → end_of to ≡ None → begun_at after later ≡ begun_at s (length c.boot.entries)
  pub tried : (old new : ContainerValue) (s after : TriesValue) (done : DoneText) (later : ℕ)
      → CommitsAs old s s.attempt done None new after → begun_at after later ≡ begun_at s (length old.boot.entries)

some_is : {X : Type 0} {x y : X} → Some x ≡ Some y → x ≡ y
some_is e = cc

-- the end of a step that comes to one, or to none
end_is : (end : Option Ended) → end_of (progress_of end) ≡ end
end_is None = refl
end_is (Some e) = refl

-- an end tells how far the history has come then
try_front : (now : HistoryFront) (s after : TriesValue) (at : Place) (why : TryCause) (repeats : Bool) (e : Ended)
    → EndsTry now s at why repeats (Some e) after → e.front ≡ now.front
try_front now s after at why repeats e ends = ap (λ (x : Ended). x.front) ends.1

refused_front : (now : HistoryFront) (es : List Entry) (s after : TriesValue) (at : Place) (repeats : Bool) (why : CommitRefusal) (e : Ended)
    → IsRefused now es s at why repeats (Some e) after → e.front ≡ now.front
refused_front now es s after at repeats (commits.Already place) e h = ap (λ (x : Ended). x.front) (some_is h)
refused_front now es s after at repeats (commits.Revoked shown) e h = try_front now s after at (cause.Revoked shown) repeats e h
refused_front now es s after at repeats (commits.Conflict c) e h = try_front now s after at (cause.Conflict c.mark c.newest) true e h
refused_front now es s after at repeats (commits.JournalFull full) e h = ap (λ (x : Ended). x.front) (some_is h)
refused_front now es s after at repeats commits.KeeperFailed e h = ap (λ (x : Ended). x.front) (some_is h)
refused_front now es s after at repeats commits.OutOfMemory e h = absurd h

heard_front : (now : HistoryFront) (es : List Entry) (s after : TriesValue) (at : Place) (repeats : Bool) (answer : Result Place Refused) (e : Ended)
    → HearsCommit now es s at repeats answer (Some e) after → e.front ≡ now.front
heard_front now es s after at repeats (Ok place) e hears = ap (λ (x : Ended). x.front) (some_is hears)
heard_front now es s after at repeats (Err refused) e hears = refused_front now es s after at repeats refused.cause e hears

commit_front : (old new : ContainerValue) (s after : TriesValue) (a : Option AttemptValue) (done : DoneText) (e : Ended)
    → CommitsAs old s a done (Some e) new after → e.front.0 ≡ length new.boot.entries
commit_front old new s after None done e c = absurd c
commit_front old new s after (Some a) done e c =
    ap (λ (p : Place). p.0) (heard_front (front_at new) new.boot.entries (closed s) after a.ticket.call.at a.repeats c.answer e c.hears)

stop_front : (now : HistoryFront) (s after : TriesValue) (at : Place) (repeats : Bool) (entered : List ComponentNo) (stop : Stop) (e : Ended)
    → IsStopped now s at repeats entered stop (Some e) after → e.front ≡ now.front
stop_front now s after at repeats entered (stops.Sentinel group down) e h = ap (λ (x : Ended). x.front) (some_is h)
stop_front now s after at repeats entered (stops.Hung component fault) e h = ap (λ (x : Ended). x.front) (some_is h)
stop_front now s after at repeats entered (stops.Raised component fault) e h = ap (λ (x : Ended). x.front) (some_is h)
stop_front now s after at repeats entered (stops.Revoked shown) e h = try_front now s after at (cause.Revoked shown) repeats e h

-- the end that a step came to
told_end : (end : Option Ended) (e : Ended) → progress.Ended e ≡ progress_of end → end ≡ Some e
told_end end e is = sym (end_is end) ∙ sym (ap end_of is)

step_front : (c new : ContainerValue) (asks : List Answer → Next) (s after : TriesValue) (a : Option AttemptValue) (e : Ended)
    → StepsAs c asks s a (progress.Ended e) new after → e.front.0 ≡ length c.boot.entries
step_front c new asks s after None e steps = let never = steps.0 in absurd (cc)
step_front c new asks s after (Some a) e steps = ap (λ (p : Place). p.0) (go steps.0 steps.3) where
  go : (came : Stepped) → ComesTo c asks s a came (progress.Ended e) after → e.front ≡ (front_at c).front
  go coming.Went h = let never = h.0 in absurd (cc)
  go (coming.Done d) h = let never = h.0 in absurd (cc)
  go (coming.Stopped stop) h =
      stop_front (front_at c) (closed s) after a.ticket.call.at a.repeats a.entered stop e
      (subst (λ (o : Option Ended). IsStopped (front_at c) (closed s) a.ticket.call.at a.repeats a.entered stop o after) (told_end h.0 e h.1) h.2)

-- A request that has ended tells how far the journal has come.
pub ended_front : (old between new : ContainerValue) (asks : List Answer → Next) (s mid after : TriesValue) (to : Progress) (e : Ended)
    → StepsAs old asks s s.attempt to between mid → GoesOn between mid to (Some e) new after → e.front.0 ≡ length new.boot.entries
ended_front old between new asks s mid after progress.Went e steps goes = let never = goes.0 in absurd (cc)
ended_front old between new asks s mid after (progress.Done done) e steps goes = commit_front between new mid after mid.attempt done e goes
ended_front old between new asks s mid after (progress.Ended end) e steps goes =
    ap (λ (x : Ended). x.front.0) (some_is goes.0) ∙ step_front old between asks s mid s.attempt end steps
    ∙ sym (ap length (step_entries old between asks s mid s.attempt (progress.Ended end) steps))
    ∙ ap (λ (c : ContainerValue). length c.boot.entries) (sym goes.1)

module _ (first : BeginWithFirstTries) where
  -- It began where its first try did.
  pub ended_from : (old between new : ContainerValue) (asks : List Answer → Next) (s mid after : TriesValue) (to : Progress) (e : Ended)
      → StepsAs old asks s s.attempt to between mid → GoesOn between mid to (Some e) new after → e.from.0 ≡ begun_at s (length old.boot.entries)
  ended_from old between new asks s mid after progress.Went e steps goes = let never = goes.0 in absurd (cc)
  ended_from old between new asks s mid after (progress.Done done) e steps goes =
      first.committed between new mid after done e goes ∙ first.stepped old asks between s mid (progress.Done done) (length between.boot.entries) steps refl
  ended_from old between new asks s mid after (progress.Ended end) e steps goes =
      ap (λ (x : Ended). x.from.0) (some_is goes.0) ∙ first.stopped old asks between s mid end steps

  -- And so does one that goes on.
  pub begun_kept : (old between new : ContainerValue) (asks : List Answer → Next) (s mid after : TriesValue) (to : Progress) (later : ℕ)
      → StepsAs old asks s s.attempt to between mid → GoesOn between mid to None new after → begun_at after later ≡ begun_at s (length old.boot.entries)
  begun_kept old between new asks s mid after progress.Went later steps goes =
      ap (λ (x : TriesValue). begun_at x later) goes.2 ∙ first.stepped old asks between s mid progress.Went later steps refl
  begun_kept old between new asks s mid after (progress.Done done) later steps goes =
      first.tried between new mid after done later goes ∙ first.stepped old asks between s mid (progress.Done done) (length between.boot.entries) steps refl
  begun_kept old between new asks s mid after (progress.Ended end) later steps goes = let never = goes.0 in absurd (cc)
