-- That a request ends early only by a single call, and tells where its first try began.
use Rattle.std.specs.Prelude.{Result, Ok, Err, option_map, unwrap_or}
use Rattle.std.proofs.Common.{◌≡◌, ℕ, ◌<◌, Bool, true, false, List, [], ◌∷◌, ◌++◌, length, take, Option, Some, None, inl, inr, refl, sym, ap, ◌∙◌, subst, arith, length-append}
use Rattle.crash_base.specs.declared.numbers.ComponentNo.{ComponentNo}
use Rattle.crash_base.specs.declared.numbers.Place.{Place}
use Rattle.journal_model.specs.declared.entry.DoneText.{DoneText}
use Rattle.journal_model.specs.declared.entry.Entry.{Entry}
use Rattle.call_ticket.specs.declared.next.Answer.{Answer}
use Rattle.call_ticket.specs.declared.next.Next.{Next}
use Rattle.boot_core.specs.declared.boot.Start.{Start}
use Rattle.boot_core.specs.declared.refusals.CommitRefusal.{CommitRefusal}
use Rattle.boot_core.specs.declared.refusals.CommitRefusal.TheVariants as commits
use Rattle.boot_core.specs.declared.refusals.Refused.{Refused}
use Rattle.container_core.specs.Container.{ContainerValue}
use Rattle.container_core.specs.declared.history.Event.{Event}
use Rattle.call_attempts.specs.Attempt.{AttemptValue, EntersOnce, HasEnteredOnce, IsUnderWay, wanted}
use Rattle.call_attempts.specs.declared.attempt.Stepped.{Stepped}
use Rattle.call_attempts.specs.declared.attempt.Stepped.TheVariants as coming
use Rattle.call_attempts.specs.declared.stop.Stop.{Stop}
use Rattle.call_attempts.specs.declared.stop.Stop.TheVariants as stops
use Rattle.call_attempts.proofs.UnderWay.{same_begin}
use Rattle.request_tries.specs.Ends.{Errand, EndStands, OutcomeStands}
use Rattle.request_tries.specs.Serving.{TriesValue, begun_at, closed}
use Rattle.request_tries.specs.Steps.{ComesTo, CommitsAs, EndsTry, HearsCommit, IsRefused, IsStopped, StepsAs, end_of, front_at, progress_of, try_ended}
use Rattle.request_tries.specs.Tries.{first_begin}
use Rattle.request_tries.specs.declared.outcome.Ended.{Ended}
use Rattle.request_tries.specs.declared.outcome.HistoryFront.{HistoryFront}
use Rattle.request_tries.specs.declared.outcome.Progress.{Progress}
use Rattle.request_tries.specs.declared.outcome.Progress.TheVariants as progress
use Rattle.request_tries.specs.declared.outcome.RequestOutcome.{RequestOutcome}
use Rattle.request_tries.specs.declared.outcome.RequestOutcome.TheVariants as outcomes
use Rattle.request_tries.specs.declared.outcome.Try.{Try}
use Rattle.request_tries.specs.declared.outcome.TryCause.{TryCause}
use Rattle.request_tries.specs.declared.outcome.TryCause.TheVariants as cause
use Rattle.request_tries.proofs.Committing.{some_is}
use Rattle.request_tries.proofs.Serving.{end_is}

-- A history in which a request ended early is of a program that enters once.
pub early_ends : (start : Start) (events : List Event) (a : Errand) (e : Ended) (tries : List Try) → EndStands start events a e → e.outcome ≡ outcomes.Revoked tries → length tries < 3
    → EntersOnce start.deployment a.asks
early_ends start events a e tries stands is few =
    let shows : OutcomeStands start (take e.held events) a e.from.0 (outcomes.Revoked tries) = subst (λ (o : RequestOutcome). OutcomeStands start (take e.held events) a e.from.0 o) is stands.outcome in
    elim shows.2 [ inl all ↦ absurd (omega (arith, all, few)) | inr fewer ↦ fewer.1 ]

-- what the tries of a revoked request are
revoked_tries : (ts us : List Try) → outcomes.Revoked ts ≡ outcomes.Revoked us → ts ≡ us
revoked_tries ts us e = cc

-- a try that ends its request early may not be repeated
early_try : (now : HistoryFront) (s after : TriesValue) (at : Place) (why : TryCause) (repeats : Bool) (e : Ended) (tries : List Try) → EndsTry now s at why repeats (Some e) after → e.outcome ≡ outcomes.Revoked tries → length tries < 3
    → repeats ≡ false
early_try now s after at (cause.Revoked shown) repeats e tries ends is few =
    let t : Try = try_ended now at (cause.Revoked shown) in
    let all : s.tries ++ t ∷ [] ≡ tries = revoked_tries (s.tries ++ t ∷ []) tries (sym (ap (λ (x : Ended). x.outcome) ends.1) ∙ is) in
    let many : length tries ≡ length (s.tries ++ t ∷ []) = sym (ap (λ (ts : List Try). length ts) all) in
    elim ends.0 [ inl le ↦ absurd (omega (arith, le, few, many, length-append s.tries (t ∷ []))) | inr no_more ↦ no_more ]
early_try now s after at (cause.Conflict mark newest) repeats e tries ends is few = let told = ap (λ (x : Ended). x.outcome) ends.1 in absurd (cc)

early_stop : (now : HistoryFront) (s after : TriesValue) (at : Place) (repeats : Bool) (entered : List ComponentNo) (stop : Stop) (e : Ended) (tries : List Try) → IsStopped now s at repeats entered stop (Some e) after → e.outcome ≡ outcomes.Revoked tries → length tries < 3
    → repeats ≡ false
early_stop now s after at repeats entered (stops.Sentinel group down) e tries h is few = let told = ap (λ (x : Ended). x.outcome) (some_is h) in absurd (cc)
early_stop now s after at repeats entered (stops.Hung component fault) e tries h is few = let told = ap (λ (x : Ended). x.outcome) (some_is h) in absurd (cc)
early_stop now s after at repeats entered (stops.Raised component fault) e tries h is few = let told = ap (λ (x : Ended). x.outcome) (some_is h) in absurd (cc)
early_stop now s after at repeats entered (stops.Revoked shown) e tries h is few = early_try now s after at (cause.Revoked shown) repeats e tries h is few

early_commit : (now : HistoryFront) (es : List Entry) (s after : TriesValue) (at : Place) (repeats : Bool) (answer : Result Place Refused) (e : Ended) (tries : List Try) → HearsCommit now es s at repeats answer (Some e) after
    → e.outcome ≡ outcomes.Revoked tries → length tries < 3 → repeats ≡ false
early_commit now es s after at repeats (Ok place) e tries hears is few = let told = ap (λ (x : Ended). x.outcome) (some_is hears) in absurd (cc)
early_commit now es s after at repeats (Err refused) e tries hears is few = go refused.cause hears
  where
    go : (w : CommitRefusal) → IsRefused now es s at w repeats (Some e) after → repeats ≡ false
    go (commits.Already place) h = let told = ap (λ (x : Ended). x.outcome) (some_is h) in absurd (cc)
    go (commits.Revoked shown) h = early_try now s after at (cause.Revoked shown) repeats e tries h is few
    go (commits.Conflict conflict) h = let never = early_try now s after at (cause.Conflict conflict.mark conflict.newest) true e tries h is few in absurd (cc)
    go (commits.JournalFull full) h = let told = ap (λ (x : Ended). x.outcome) (some_is h) in absurd (cc)
    go commits.KeeperFailed h = let told = ap (λ (x : Ended). x.outcome) (some_is h) in absurd (cc)
    go commits.OutOfMemory h = absurd h

-- the end that a step came to
told_end : (end : Option Ended) (e : Ended) → progress.Ended e ≡ progress_of end → end ≡ Some e
told_end end e is = sym (end_is end) ∙ sym (ap end_of is)

pub early_step : (c new : ContainerValue) (asks : List Answer → Next) (s after : TriesValue) (a : AttemptValue) (e : Ended) (tries : List Try) → IsUnderWay c.boot asks a → StepsAs c asks s (Some a) (progress.Ended e) new after
    → e.outcome ≡ outcomes.Revoked tries → length tries < 3 → HasEnteredOnce c.boot.start.deployment asks a.answers
early_step c new asks s after a e tries way steps is few = way.once.0 (go steps.0 steps.3)
  where
    go : (came : Stepped) → ComesTo c asks s a came (progress.Ended e) after → a.repeats ≡ false
    go coming.Went h = let never = h.0 in absurd (cc)
    go (coming.Done d) h = let never = h.0 in absurd (cc)
    go (coming.Stopped stop) h =
        early_stop (front_at c) (closed s) after a.ticket.call.at a.repeats a.entered stop e tries (subst (λ (o : Option Ended). IsStopped (front_at c) (closed s) a.ticket.call.at a.repeats a.entered stop o after) (told_end h.0 e h.1) h.2) is few

pub early_refused : (old new : ContainerValue) (asks : List Answer → Next) (s after : TriesValue) (a : AttemptValue) (done : DoneText) (e : Ended) (tries : List Try) → IsUnderWay old.boot asks a → CommitsAs old s (Some a) done (Some e) new after
    → e.outcome ≡ outcomes.Revoked tries → length tries < 3 → HasEnteredOnce old.boot.start.deployment asks a.answers
early_refused old new asks s after a done e tries way c is few =
    way.once.0 (early_commit (front_at new) new.boot.entries (closed s) after a.ticket.call.at a.repeats c.answer e tries c.hears is few)

-- where the first of tries began, with one more of them
first_more : (ts : List Try) (t : Try) (later : ℕ) → first_begin (ts ++ t ∷ []) later ≡ first_begin ts t.at.0
first_more [] t later = refl
first_more (u ∷ ts) t later = refl

-- the end of a try tells where its request began, and what goes on after it began there
from_try : (now : HistoryFront) (s after : TriesValue) (at : Place) (why : TryCause) (repeats : Bool) (e : Ended) → EndsTry now s at why repeats (Some e) after → e.from.0 ≡ first_begin s.tries at.0
from_try now s after at why repeats e ends = ap (λ (x : Ended). x.from.0) ends.1

later_try : (now : HistoryFront) (s after : TriesValue) (at : Place) (why : TryCause) (repeats : Bool) (later : ℕ) → EndsTry now s at why repeats None after → begun_at after later ≡ first_begin s.tries at.0
later_try now s after at why repeats later ends = ap (λ (x : TriesValue). begun_at x later) ends.2 ∙ first_more s.tries (try_ended now at why) later

-- and so of a commit
from_commit : (now : HistoryFront) (es : List Entry) (s after : TriesValue) (at : Place) (repeats : Bool) (answer : Result Place Refused) (e : Ended) → HearsCommit now es s at repeats answer (Some e) after → e.from.0 ≡ first_begin s.tries at.0
from_commit now es s after at repeats (Ok place) e hears = ap (λ (x : Ended). x.from.0) (some_is hears)
from_commit now es s after at repeats (Err refused) e hears = go refused.cause hears
  where
    go : (w : CommitRefusal) → IsRefused now es s at w repeats (Some e) after → e.from.0 ≡ first_begin s.tries at.0
    go (commits.Already place) h = ap (λ (x : Ended). x.from.0) (some_is h)
    go (commits.Revoked shown) h = from_try now s after at (cause.Revoked shown) repeats e h
    go (commits.Conflict conflict) h = from_try now s after at (cause.Conflict conflict.mark conflict.newest) true e h
    go (commits.JournalFull full) h = ap (λ (x : Ended). x.from.0) (some_is h)
    go commits.KeeperFailed h = ap (λ (x : Ended). x.from.0) (some_is h)
    go commits.OutOfMemory h = absurd h

later_commit : (now : HistoryFront) (es : List Entry) (s after : TriesValue) (at : Place) (repeats : Bool) (answer : Result Place Refused) (later : ℕ) → HearsCommit now es s at repeats answer None after → begun_at after later ≡ first_begin s.tries at.0
later_commit now es s after at repeats (Ok place) later hears = absurd (cc)
later_commit now es s after at repeats (Err refused) later hears = go refused.cause hears
  where
    go : (w : CommitRefusal) → IsRefused now es s at w repeats None after → begun_at after later ≡ first_begin s.tries at.0
    go (commits.Already place) h = absurd (cc)
    go (commits.Revoked shown) h = later_try now s after at (cause.Revoked shown) repeats later h
    go (commits.Conflict conflict) h = later_try now s after at (cause.Conflict conflict.mark conflict.newest) true later h
    go (commits.JournalFull full) h = absurd (cc)
    go commits.KeeperFailed h = absurd (cc)
    go commits.OutOfMemory h = absurd h

-- and of a stop
from_stop : (now : HistoryFront) (s after : TriesValue) (at : Place) (repeats : Bool) (entered : List ComponentNo) (stop : Stop) (e : Ended) → IsStopped now s at repeats entered stop (Some e) after → e.from.0 ≡ first_begin s.tries at.0
from_stop now s after at repeats entered (stops.Sentinel group down) e h = ap (λ (x : Ended). x.from.0) (some_is h)
from_stop now s after at repeats entered (stops.Hung component fault) e h = ap (λ (x : Ended). x.from.0) (some_is h)
from_stop now s after at repeats entered (stops.Raised component fault) e h = ap (λ (x : Ended). x.from.0) (some_is h)
from_stop now s after at repeats entered (stops.Revoked shown) e h = from_try now s after at (cause.Revoked shown) repeats e h

later_stop : (now : HistoryFront) (s after : TriesValue) (at : Place) (repeats : Bool) (entered : List ComponentNo) (stop : Stop) (later : ℕ) → IsStopped now s at repeats entered stop None after → begun_at after later ≡ first_begin s.tries at.0
later_stop now s after at repeats entered (stops.Sentinel group down) later h = absurd (cc)
later_stop now s after at repeats entered (stops.Hung component fault) later h = absurd (cc)
later_stop now s after at repeats entered (stops.Raised component fault) later h = absurd (cc)
later_stop now s after at repeats entered (stops.Revoked shown) later h = later_try now s after at (cause.Revoked shown) repeats later h

-- where a request began whose attempt is open
begun_is : (s : TriesValue) (a : AttemptValue) (later : ℕ) → s.attempt ≡ Some a → begun_at s later ≡ first_begin s.tries a.ticket.call.at.0
begun_is s a later is = ap (λ (o : Option AttemptValue). first_begin s.tries (unwrap_or (option_map (λ (b : AttemptValue). b.ticket.call.at.0) o) later)) is

pub step_from : (c new : ContainerValue) (asks : List Answer → Next) (s after : TriesValue) (o : Option AttemptValue) (e : Ended) (later : ℕ) → s.attempt ≡ o → StepsAs c asks s o (progress.Ended e) new after → e.from.0 ≡ begun_at s later
step_from c new asks s after None e later is steps = let never = steps.0 in absurd (cc)
step_from c new asks s after (Some a) e later is steps = go steps.0 steps.3 ∙ sym (begun_is s a later is)
  where
    go : (came : Stepped) → ComesTo c asks s a came (progress.Ended e) after → e.from.0 ≡ first_begin s.tries a.ticket.call.at.0
    go coming.Went h = let never = h.0 in absurd (cc)
    go (coming.Done d) h = let never = h.0 in absurd (cc)
    go (coming.Stopped stop) h =
        from_stop (front_at c) (closed s) after a.ticket.call.at a.repeats a.entered stop e (subst (λ (x : Option Ended). IsStopped (front_at c) (closed s) a.ticket.call.at a.repeats a.entered stop x after) (told_end h.0 e h.1) h.2)

pub committed_from : (old new : ContainerValue) (s after : TriesValue) (o : Option AttemptValue) (done : DoneText) (e : Ended) (later : ℕ) → s.attempt ≡ o → CommitsAs old s o done (Some e) new after → e.from.0 ≡ begun_at s later
committed_from old new s after None done e later is c = absurd c
committed_from old new s after (Some a) done e later is c =
    from_commit (front_at new) new.boot.entries (closed s) after a.ticket.call.at a.repeats c.answer e c.hears ∙ sym (begun_is s a later is)

pub step_begun : (c new : ContainerValue) (asks : List Answer → Next) (s after : TriesValue) (o : Option AttemptValue) (to : Progress) (later : ℕ) → s.attempt ≡ o → StepsAs c asks s o to new after → end_of to ≡ None
    → begun_at after later ≡ begun_at s (length c.boot.entries)
step_begun c new asks s after None to later is steps goes =
    ap (λ (x : TriesValue). begun_at x later) steps.1 ∙ sym (ap (λ (o : Option AttemptValue). first_begin s.tries (unwrap_or (option_map (λ (b : AttemptValue). b.ticket.call.at.0) o) (length c.boot.entries))) is)
step_begun c new asks s after (Some a) to later is steps goes = go steps.0 steps.3 ∙ sym (begun_is s a (length c.boot.entries) is)
  where
    go : (came : Stepped) → ComesTo c asks s a came to after → begun_at after later ≡ first_begin s.tries a.ticket.call.at.0
    go coming.Went h = ap (λ (x : TriesValue). begun_at x later) h.1 ∙ ap (λ (p : Place). first_begin s.tries p.0) (same_begin c.boot a.ticket (wanted asks a))
    go (coming.Done d) h = ap (λ (x : TriesValue). begun_at x later) h.1 ∙ begun_is s a later is
    go (coming.Stopped stop) h =
        later_stop (front_at c) (closed s) after a.ticket.call.at a.repeats a.entered stop later
        (subst (λ (x : Option Ended). IsStopped (front_at c) (closed s) a.ticket.call.at a.repeats a.entered stop x after) (sym (end_is h.0) ∙ sym (ap end_of h.1) ∙ goes) h.2)

pub commit_begun : (old new : ContainerValue) (s after : TriesValue) (o : Option AttemptValue) (done : DoneText) (later now : ℕ) → s.attempt ≡ o → CommitsAs old s o done None new after → begun_at after later ≡ begun_at s now
commit_begun old new s after None done later now is c = absurd c
commit_begun old new s after (Some a) done later now is c =
    later_commit (front_at new) new.boot.entries (closed s) after a.ticket.call.at a.repeats c.answer later c.hears ∙ sym (begun_is s a now is)
