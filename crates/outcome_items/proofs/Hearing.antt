-- What a request makes of the answer to its commit: whether its page was there already.
use Rattle.std.specs.Prelude.{Result, Ok, Err}
use Rattle.std.proofs.Common.{◌≡◌, ◌↔◌, Bool, true, false, List, Some, None, refl, ap}
use Rattle.crash_base.specs.declared.numbers.Place.{Place}
use Rattle.boot_core.specs.declared.refusals.CommitRefusal.{CommitRefusal}
use Rattle.boot_core.specs.declared.refusals.CommitRefusal.TheVariants as commits
use Rattle.boot_core.specs.declared.refusals.Refused.{Refused}
use Rattle.journal_model.specs.declared.entry.Entry.{Entry}
use Rattle.request_tries.specs.Serving.{TriesValue}
use Rattle.request_tries.specs.Steps.{HearsCommit, IsRefused}
use Rattle.request_tries.specs.declared.outcome.Ended.{Ended}
use Rattle.request_tries.specs.declared.outcome.HistoryFront.{HistoryFront}
use Rattle.outcome_items.specs.Traces.{IsAlready, again_in_end}

-- what is told of an end that is this one
told : (e other : Ended) → Some e ≡ Some other → again_in_end e.outcome ≡ again_in_end other.outcome
told e other is = let same : e ≡ other = cc in ap (λ (x : Ended). again_in_end x.outcome) same

-- what is told of the end after a commit that was refused for this cause
abbrev AgainBy : CommitRefusal → Ended → Type 0
AgainBy why e = ((again_in_end e.outcome ≡ Some true) ↔ ((place : Place) × (why ≡ commits.Already place))) × ((again_in_end e.outcome ≡ Some false) → ⊥)

-- nothing is told of it
none_told : (why : CommitRefusal) (e : Ended) → again_in_end e.outcome ≡ None → ((place : Place) → why ≡ commits.Already place → ⊥) → AgainBy why e
none_told why e is not_so = ((λ x. absurd (cc), λ x. absurd (not_so x.0 x.1)), λ x. cc)

by_cause : (now : HistoryFront) (es : List Entry) (s after : TriesValue) (at : Place) (repeats : Bool) (why : CommitRefusal) (e : Ended)
    → IsRefused now es s at why repeats (Some e) after → AgainBy why e
by_cause now es s after at repeats (commits.Revoked shown) e h =
    none_told (commits.Revoked shown) e (ap (λ (x : Ended). again_in_end x.outcome) h.1) (λ place x. cc)
by_cause now es s after at repeats (commits.Conflict c) e h =
    none_told (commits.Conflict c) e (ap (λ (x : Ended). again_in_end x.outcome) h.1) (λ place x. cc)
by_cause now es s after at repeats (commits.Already place) e h =
    let is = told e _ h in
    ((λ x. (place, refl), λ x. is), λ x. cc)
by_cause now es s after at repeats (commits.JournalFull full) e h = none_told (commits.JournalFull full) e (told e _ h) (λ place x. cc)
by_cause now es s after at repeats commits.KeeperFailed e h = none_told commits.KeeperFailed e (told e _ h) (λ place x. cc)
by_cause now es s after at repeats commits.OutOfMemory e h = absurd h

pub again : (now : HistoryFront) (es : List Entry) (s after : TriesValue) (at : Place) (repeats : Bool) (answer : Result Place Refused) (e : Ended)
    → HearsCommit now es s at repeats answer (Some e) after → (again_in_end e.outcome ≡ Some true) ↔ IsAlready answer
again now es s after at repeats (Ok place) e h = let is = told e _ h in (λ x. absurd (cc), λ x. absurd x)
again now es s after at repeats (Err refused) e h = (by_cause now es s after at repeats refused.cause e h).0

pub own : (now : HistoryFront) (es : List Entry) (s after : TriesValue) (at : Place) (repeats : Bool) (answer : Result Place Refused) (e : Ended)
    → HearsCommit now es s at repeats answer (Some e) after → (again_in_end e.outcome ≡ Some false) ↔ ((place : Place) × (answer ≡ Ok place))
own now es s after at repeats (Ok place) e h = let is = told e _ h in (λ x. (place, refl), λ x. is)
own now es s after at repeats (Err refused) e h =
    (λ x. absurd ((by_cause now es s after at repeats refused.cause e h).1 x), λ x. let bad = x.1 in absurd (cc))
