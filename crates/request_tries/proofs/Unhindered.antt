-- A request that nothing hinders: it goes on, and its commit ends it by a page.
use Rattle.std.specs.Prelude.{IfErr, Result, Ok, Err}
use Rattle.std.proofs.Common.{◌≡◌, ◌⊎◌, ◌+◌, Bool, true, false, List, [], ◌∷◌, length, Option, Some, None, inl, inr, refl, ap, length-append}
use Rattle.crash_base.specs.declared.numbers.Place.{Place}
use Rattle.journal_model.specs.declared.entry.DoneText.{DoneText}
use Rattle.journal_model.specs.Conflicts.{conflict_of}
use Rattle.journal_model.specs.Stale.{stale_in}
use Rattle.outside.specs.Faults.{Rose}
use Rattle.call_ticket.specs.declared.next.Answer.{Answer}
use Rattle.call_ticket.specs.declared.next.Next.{Next}
use Rattle.boot_core.specs.Refusals.{CommitAnswer, HasRoomFor, IsCause}
use Rattle.boot_core.specs.declared.refusals.CommitRefusal.{CommitRefusal}
use Rattle.boot_core.specs.declared.refusals.CommitRefusal.TheVariants as commits
use Rattle.boot_core.specs.declared.refusals.Refused.{Refused}
use Rattle.container_core.specs.Container.{ContainerValue}
use Rattle.call_attempts.specs.Attempt.{AttemptValue, HasStepped, answer_to, rows_at_begin, stepped, wanted}
use Rattle.call_attempts.specs.declared.attempt.Stepped.{Stepped}
use Rattle.call_attempts.specs.declared.attempt.Stepped.TheVariants as coming
use Rattle.call_attempts.proofs.Lasting.{EntersFreely, nothing_stops}
use Rattle.request_tries.specs.Ends.{done_at}
use Rattle.request_tries.specs.Serving.{TriesValue, closed}
use Rattle.request_tries.specs.Steps.{ComesTo, CommitsAs, HearsCommit, IsRefused, StepsAs, action_of, ended_at, from_of, front_at, refusal_of}
use Rattle.request_tries.specs.declared.outcome.Ended.{Ended}
use Rattle.request_tries.specs.declared.outcome.Progress.{Progress}
use Rattle.request_tries.specs.declared.outcome.Progress.TheVariants as progress
use Rattle.request_tries.specs.declared.outcome.RequestOutcome.TheVariants.{Page, KeeperFailed}
use Rattle.request_tries.proofs.Committing.{cause_of}

-- a step is answered, or finds the program done
abbrev GoesOn : AttemptValue → Progress → TriesValue → Type 0
GoesOn a to after =
    ((done : DoneText) × (to ≡ progress.Done done))
    ⊎ ((to ≡ progress.Went) × (later : AttemptValue) × (after.attempt ≡ Some later) × (length later.answers ≡ length a.answers + 1))

pub step_goes_on : (c new : ContainerValue) (asks : List Answer → Next) (s after : TriesValue) (a : AttemptValue) (to : Progress) → stale_in c.boot.entries a.ticket.call.touched ≡ None → EntersFreely c.boot (wanted asks a)
    → StepsAs c asks s (Some a) to new after → GoesOn a to after
step_goes_on c new asks s after a to fresh free steps = go steps.0 steps.1 steps.2 steps.3
  where
    go : (came : Stepped) (next : AttemptValue) → HasStepped c.boot asks a came next → ComesTo c asks s a came to after → GoesOn a to after
    go coming.Went next made h =
        inr (h.0, stepped c.boot a (wanted asks a), ap (λ (x : TriesValue). x.attempt) h.1, length-append a.answers (answer_to (rows_at_begin c.boot a.ticket.call) a.ticket.call (wanted asks a) ∷ []))
    go (coming.Done d) next made h = inl (d, h.0)
    go (coming.Stopped stop) next made h = absurd (nothing_stops c.boot a.ticket.call (wanted asks a) fresh free stop made.1)

-- a request has ended by a page, or by a keeper that failed
abbrev EndsByPage : ContainerValue → ContainerValue → Option Ended → Type 0
EndsByPage old new end =
    (e : Ended) × (end ≡ Some e)
    × (((place : Place) × (again : Bool) × (e.outcome ≡ Page place again)) ⊎ ((e.outcome ≡ KeeperFailed) × Rose old.faults new.faults))

pub commit_ends_by_page : (old new : ContainerValue) (s after : TriesValue) (a : AttemptValue) (done : DoneText) (end : Option Ended) → stale_in old.boot.entries a.ticket.call.touched ≡ None → conflict_of old.boot.entries a.ticket.call ≡ None
    → HasRoomFor old.boot.start.limits old.boot.entries a.ticket.call (action_of s done) → CommitsAs old s (Some a) done end new after → EndsByPage old new end
commit_ends_by_page old new s after a done end fresh current room made = heard made.answer made.is_answer made.failed made.hears
  where
    from : Place
    from = from_of (closed s) a.ticket.call.at

    refused : (w : CommitRefusal) → IsCause (refusal_of old s a done) w → (w ≡ commits.KeeperFailed → Rose old.faults new.faults)
        → IsRefused (front_at new) new.boot.entries (closed s) a.ticket.call.at w a.repeats end after → EndsByPage old new end
    refused (commits.Already place) why failed h = (ended_at (front_at new) from (Page place true) (done_at new.boot.entries place), h, inl (place, true, refl))
    refused (commits.Revoked x) why failed h = let none = fresh in let some = (cause_of old s a done (commits.Revoked x) why).stale x refl in absurd (cc)
    refused (commits.Conflict x) why failed h = let none = current in let some = (cause_of old s a done (commits.Conflict x) why).conflict x refl in absurd (cc)
    refused (commits.JournalFull full) why failed h = let none = room in let some = (cause_of old s a done (commits.JournalFull full) why).full full refl in absurd (cc)
    refused commits.KeeperFailed why failed h = (ended_at (front_at new) from KeeperFailed None, h, inr (refl, failed refl))
    refused commits.OutOfMemory why failed h = absurd h

    heard : (answer : Result Place Refused) → CommitAnswer (refusal_of old s a done) answer → IfErr answer (λ refused. refused.cause ≡ commits.KeeperFailed → Rose old.faults new.faults)
        → HearsCommit (front_at new) new.boot.entries (closed s) a.ticket.call.at a.repeats answer end after → EndsByPage old new end
    heard (Ok place) why failed h = (ended_at (front_at new) from (Page place false) None, h, inl (place, false, refl))
    heard (Err r) why failed h = refused r.cause why failed h
