-- What a request asks for stays while it goes on.
use Rattle.std.specs.Prelude.{Result, Ok, Err}
use Rattle.std.proofs.Common.{◌≡◌, Bool, List, Option, Some, None, refl, sym, ap, ◌∙◌}
use Rattle.crash_base.specs.declared.numbers.ComponentNo.{ComponentNo}
use Rattle.crash_base.specs.declared.numbers.Place.{Place}
use Rattle.boot_core.specs.declared.refusals.CommitRefusal.{CommitRefusal}
use Rattle.boot_core.specs.declared.refusals.CommitRefusal.TheVariants as commits
use Rattle.boot_core.specs.declared.refusals.Refused.{Refused}
use Rattle.journal_model.specs.declared.entry.DoneText.{DoneText}
use Rattle.journal_model.specs.declared.entry.Entry.{Entry}
use Rattle.call_ticket.specs.declared.next.Answer.{Answer}
use Rattle.call_ticket.specs.declared.next.Next.{Next}
use Rattle.container_core.specs.Container.{ContainerValue}
use Rattle.call_attempts.specs.Attempt.{AttemptValue}
use Rattle.call_attempts.specs.declared.attempt.Stepped.{Stepped}
use Rattle.call_attempts.specs.declared.attempt.Stepped.TheVariants as coming
use Rattle.call_attempts.specs.declared.stop.Stop.{Stop}
use Rattle.call_attempts.specs.declared.stop.Stop.TheVariants as stops
use Rattle.request_tries.specs.Serving.{TriesValue, closed, errand_of}
use Rattle.request_tries.specs.Steps.{CommitsAs, ComesTo, EndsTry, HearsCommit, IsRefused, IsStopped, StepsAs, end_of, progress_of}
use Rattle.request_tries.specs.declared.outcome.Ended.{Ended}
use Rattle.request_tries.specs.declared.outcome.HistoryFront.{HistoryFront}
use Rattle.request_tries.specs.declared.outcome.Progress.{Progress}
use Rattle.request_tries.specs.declared.outcome.Progress.TheVariants as progress
use Rattle.request_tries.specs.declared.outcome.TryCause.{TryCause}
use Rattle.request_visit.specs.Serving.{GoesOn}

-- the number and the text are the same
abbrev AreKept : TriesValue → TriesValue → Type 0
AreKept s after = (after.request ≡ s.request) × (after.text ≡ s.text)

from_same : (s after other : TriesValue) → after ≡ other → AreKept s other → AreKept s after
from_same s after other same kept = (ap (λ (t : TriesValue). t.request) same ∙ kept.0, ap (λ (t : TriesValue). t.text) same ∙ kept.1)

by_try : (now : HistoryFront) (s after : TriesValue) (at : Place) (why : TryCause) (repeats : Bool) (end : Option Ended)
    → end ≡ None → EndsTry now (closed s) at why repeats end after → AreKept s after
by_try now s after at why repeats None none ends = from_same s after _ ends.2 (refl, refl)
by_try now s after at why repeats (Some e) none ends = absurd (cc)

by_stop : (now : HistoryFront) (s after : TriesValue) (at : Place) (repeats : Bool) (entered : List ComponentNo) (stop : Stop) (end : Option Ended)
    → end ≡ None → IsStopped now (closed s) at repeats entered stop end after → AreKept s after
by_stop now s after at repeats entered (stops.Sentinel group down) end none stopped = absurd (cc)
by_stop now s after at repeats entered (stops.Hung component fault) end none stopped = absurd (cc)
by_stop now s after at repeats entered (stops.Raised component fault) end none stopped = absurd (cc)
by_stop now s after at repeats entered (stops.Revoked shown) end none stopped = by_try now s after at _ repeats end none stopped

-- a step that did not end the request, as an end
no_end : (end : Option Ended) (to : Progress) → to ≡ progress_of end → end_of to ≡ None → end ≡ None
no_end None to is none = refl
no_end (Some e) to is none = absurd (let n : end_of (progress_of (Some e)) ≡ None = ap end_of (sym is) ∙ none in cc)

by_coming : (c : ContainerValue) (asks : List Answer → Next) (s after : TriesValue) (a : AttemptValue) (came : Stepped) (to : Progress)
    → ComesTo c asks s a came to after → end_of to ≡ None → AreKept s after
by_coming c asks s after a coming.Went to comes none = from_same s after _ comes.1 (refl, refl)
by_coming c asks s after a (coming.Done done) to comes none = from_same s after s comes.1 (refl, refl)
by_coming c asks s after a (coming.Stopped stop) to comes none =
    by_stop _ s after a.ticket.call.at a.repeats a.entered stop comes.0 (no_end comes.0 to comes.1 none) comes.2

by_step : (c new : ContainerValue) (asks : List Answer → Next) (s after : TriesValue) (a : Option AttemptValue) (to : Progress)
    → StepsAs c asks s a to new after → end_of to ≡ None → AreKept s after
by_step c new asks s after None to steps none = from_same s after _ steps.1 (refl, refl)
by_step c new asks s after (Some a) to steps none = by_coming c asks s after a steps.0 to steps.3 none

by_refusal : (now : HistoryFront) (es : List Entry) (s after : TriesValue) (at : Place) (repeats : Bool) (why : CommitRefusal) (end : Option Ended)
    → end ≡ None → IsRefused now es (closed s) at why repeats end after → AreKept s after
by_refusal now es s after at repeats (commits.Revoked shown) end none refused = by_try now s after at _ repeats end none refused
by_refusal now es s after at repeats (commits.Conflict c) end none refused = by_try now s after at _ _ end none refused
by_refusal now es s after at repeats (commits.Already place) end none refused = absurd (cc)
by_refusal now es s after at repeats (commits.JournalFull full) end none refused = absurd (cc)
by_refusal now es s after at repeats commits.KeeperFailed end none refused = absurd (cc)
by_refusal now es s after at repeats commits.OutOfMemory end none refused = absurd refused

by_answer : (now : HistoryFront) (es : List Entry) (s after : TriesValue) (at : Place) (repeats : Bool) (answer : Result Place Refused) (end : Option Ended)
    → end ≡ None → HearsCommit now es (closed s) at repeats answer end after → AreKept s after
by_answer now es s after at repeats (Ok place) end none hears = absurd (cc)
by_answer now es s after at repeats (Err refused) end none hears = by_refusal now es s after at repeats refused.cause end none hears

by_commit : (old new : ContainerValue) (s after : TriesValue) (a : Option AttemptValue) (done : DoneText) (end : Option Ended)
    → end ≡ None → CommitsAs old s a done end new after → AreKept s after
by_commit old new s after None done end none commits = absurd commits
by_commit old new s after (Some a) done end none commits =
    by_answer _ new.boot.entries s after a.ticket.call.at a.repeats commits.answer end none commits.hears

through : (old new : ContainerValue) (mid after : TriesValue) (to : Progress) (end : Option Ended)
    → end ≡ None → GoesOn old mid to end new after → AreKept mid after
through old new mid after progress.Went end none goes = from_same mid after mid goes.2 (refl, refl)
through old new mid after (progress.Done done) end none goes = by_commit old new mid after mid.attempt done end none goes
through old new mid after (progress.Ended e) end none goes = let some = goes.0 in absurd (cc)

unended : (old new : ContainerValue) (mid after : TriesValue) (to : Progress) (end : Option Ended)
    → end ≡ None → GoesOn old mid to end new after → end_of to ≡ None
unended old new mid after progress.Went end none goes = refl
unended old new mid after (progress.Done done) end none goes = refl
unended old new mid after (progress.Ended e) end none goes = let some = goes.0 in absurd (cc)

-- A request that goes on asks for what it asked for.
pub errand_kept : (old between new : ContainerValue) (asks : List Answer → Next) (s mid after : TriesValue) (to : Progress) (end : Option Ended)
    → end ≡ None → StepsAs old asks s s.attempt to between mid → GoesOn between mid to end new after → errand_of after asks ≡ errand_of s asks
errand_kept old between new asks s mid after to end none steps goes =
    let first = by_step old between asks s mid s.attempt to steps (unended between new mid after to end none goes) in
    let then = through between new mid after to end none goes in
    let number : after.request ≡ s.request = then.0 ∙ first.0 in
    let text : after.text ≡ s.text = then.1 ∙ first.1 in
    cc
