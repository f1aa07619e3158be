-- What an outcome adds to the history of the container.
use Rattle.std.proofs.Common.{◌≡◌, ◌≤◌, Bool, true, false, List, [], ◌∷◌, length, slice_get, Option, Some, None, refl, ap, arith}
use Rattle.crash_base.specs.declared.numbers.Place.{Place}
use Rattle.crash_base.specs.declared.numbers.RequestNo.{RequestNo}
use Rattle.journal_model.specs.declared.entry.Entry.{Entry}
use Rattle.container_core.specs.declared.history.Event.{Event}
use Rattle.container_core.specs.declared.history.Event.TheVariants.{Added, KeeperFailed as FailedMark}
use Rattle.request_tries.specs.declared.outcome.RequestOutcome.{RequestOutcome}
use Rattle.request_tries.specs.declared.outcome.RequestOutcome.TheVariants.{Page, Sentinel, Hung, Raised, Revoked, Conflict, JournalFull, KeeperFailed}
use Rattle.outcome_items.specs.Traces.{added_if, again_in, again_in_end, entry_added, events_of_end, events_of_outcome, is_outside, mark_of}
use Rattle.outcome_items.specs.declared.outcome.ItemOutcome.{ItemOutcome}
use Rattle.outcome_items.specs.declared.outcome.ItemOutcome.TheVariants.{Refused, SerialsSpent, Expired, Lost, Ended, Overload, Missed}

one_if : (e : Option Entry) → length (added_if e) ≤ 1
one_if None = omega arith
one_if (Some e) = omega arith

one_entry : (es : List Entry) (place : Place) (again : Bool) → length (entry_added es place again) ≤ 1
one_entry es place true = omega arith
one_entry es place false = one_if (slice_get es place.0)

one_mark : (request : Option RequestNo) → length (mark_of request) ≤ 1
one_mark None = omega arith
one_mark (Some request) = omega arith

one_end : (es : List Entry) (request : Option RequestNo) (end : RequestOutcome) → length (events_of_end es request end) ≤ 1
one_end es request (Page place again) = one_entry es place again
one_end es request (Sentinel group down) = omega arith
one_end es request (Hung component fault path) = omega arith
one_end es request (Raised component fault path) = omega arith
one_end es request (Revoked tries) = omega arith
one_end es request (Conflict tries) = omega arith
one_end es request (JournalFull full) = omega arith
one_end es request KeeperFailed = one_mark request

pub one : (es : List Entry) (request : Option RequestNo) (outcome : ItemOutcome) → length (events_of_outcome es request outcome) ≤ 1
one es request (Refused why) = omega arith
one es request (SerialsSpent seen) = omega arith
one es request (Expired now expiry) = omega arith
one es request (Lost causes) = omega arith
one es request (Ended end) = one_end es request end
one es request (Overload place again full) = one_entry es place again
one es request (Missed place again causes) = one_entry es place again

again_entry : (es : List Entry) (place : Place) (again : Bool) → again ≡ true → entry_added es place again ≡ []
again_entry es place true e = refl
again_entry es place false e = absurd (cc)

same_flag : (a b : Bool) → Some a ≡ Some b → a ≡ b
same_flag a b e = cc

again_end : (es : List Entry) (request : Option RequestNo) (end : RequestOutcome) → again_in_end end ≡ Some true → events_of_end es request end ≡ []
again_end es request (Page place again) e = again_entry es place again (same_flag again true e)
again_end es request (Sentinel group down) e = refl
again_end es request (Hung component fault path) e = refl
again_end es request (Raised component fault path) e = refl
again_end es request (Revoked tries) e = refl
again_end es request (Conflict tries) e = refl
again_end es request (JournalFull full) e = refl
again_end es request KeeperFailed e = absurd (cc)

pub again_adds : (es : List Entry) (request : Option RequestNo) (outcome : ItemOutcome) → again_in outcome ≡ Some true → events_of_outcome es request outcome ≡ []
again_adds es request (Refused why) e = refl
again_adds es request (SerialsSpent seen) e = refl
again_adds es request (Expired now expiry) e = refl
again_adds es request (Lost causes) e = refl
again_adds es request (Ended end) e = again_end es request end e
again_adds es request (Overload place again full) e = again_entry es place again (same_flag again true e)
again_adds es request (Missed place again causes) e = again_entry es place again (same_flag again true e)

own_entry : (es : List Entry) (place : Place) (again : Bool) (one : Event) → entry_added es place again ≡ one ∷ [] → Some again ≡ Some false
own_entry es place true one e = absurd (cc)
own_entry es place false one e = refl

mark_entry : (request : Option RequestNo) (entry : Entry) → mark_of request ≡ Added entry ∷ [] → ⊥
mark_entry None entry e = cc
mark_entry (Some request) entry e = cc

own_end : (es : List Entry) (request : Option RequestNo) (end : RequestOutcome) (entry : Entry) → events_of_end es request end ≡ Added entry ∷ [] → again_in_end end ≡ Some false
own_end es request (Page place again) entry e = own_entry es place again (Added entry) e
own_end es request (Sentinel group down) entry e = absurd (cc)
own_end es request (Hung component fault path) entry e = absurd (cc)
own_end es request (Raised component fault path) entry e = absurd (cc)
own_end es request (Revoked tries) entry e = absurd (cc)
own_end es request (Conflict tries) entry e = absurd (cc)
own_end es request (JournalFull full) entry e = absurd (cc)
own_end es request KeeperFailed entry e = absurd (mark_entry request entry e)

pub own : (es : List Entry) (request : Option RequestNo) (outcome : ItemOutcome) (entry : Entry) → events_of_outcome es request outcome ≡ Added entry ∷ [] → again_in outcome ≡ Some false
own es request (Refused why) entry e = absurd (cc)
own es request (SerialsSpent seen) entry e = absurd (cc)
own es request (Expired now expiry) entry e = absurd (cc)
own es request (Lost causes) entry e = absurd (cc)
own es request (Ended end) entry e = own_end es request end entry e
own es request (Overload place again full) entry e = own_entry es place again (Added entry) e
own es request (Missed place again causes) entry e = own_entry es place again (Added entry) e

if_marks : (e : Option Entry) (request : RequestNo) → added_if e ≡ FailedMark request ∷ [] → ⊥
if_marks None request is = cc
if_marks (Some e) request is = cc

entry_marks : (es : List Entry) (place : Place) (again : Bool) (request : RequestNo) → entry_added es place again ≡ FailedMark request ∷ [] → ⊥
entry_marks es place true request e = cc
entry_marks es place false request e = if_marks (slice_get es place.0) request e

-- whose mark it is
marked : (asked : Option RequestNo) (request : RequestNo) → mark_of asked ≡ FailedMark request ∷ [] → asked ≡ Some request
marked None request e = absurd (cc)
marked (Some asked) request e = let same : asked ≡ request = cc in ap (λ (r : RequestNo). Some r) same

-- the end of a request of this number was that its keeper failed
abbrev HasFailed : Option RequestNo → RequestOutcome → RequestNo → Type 0
HasFailed asked end request = (end ≡ KeeperFailed) × (asked ≡ Some request)

end_marks : (es : List Entry) (asked : Option RequestNo) (end : RequestOutcome) (request : RequestNo) → events_of_end es asked end ≡ FailedMark request ∷ [] → HasFailed asked end request
end_marks es asked (Page place again) request e = absurd (entry_marks es place again request e)
end_marks es asked (Sentinel group down) request e = absurd (cc)
end_marks es asked (Hung component fault path) request e = absurd (cc)
end_marks es asked (Raised component fault path) request e = absurd (cc)
end_marks es asked (Revoked tries) request e = absurd (cc)
end_marks es asked (Conflict tries) request e = absurd (cc)
end_marks es asked (JournalFull full) request e = absurd (cc)
end_marks es asked KeeperFailed request e = (refl, marked asked request e)

pub marks : (es : List Entry) (asked : Option RequestNo) (outcome : ItemOutcome) (request : RequestNo) → events_of_outcome es asked outcome ≡ FailedMark request ∷ [] → (outcome ≡ Ended KeeperFailed) × (asked ≡ Some request)
marks es asked (Refused why) request e = absurd (cc)
marks es asked (SerialsSpent seen) request e = absurd (cc)
marks es asked (Expired now expiry) request e = absurd (cc)
marks es asked (Lost causes) request e = absurd (cc)
marks es asked (Ended end) request e =
    let h = end_marks es asked end request e in
    (ap (λ (o : RequestOutcome). Ended o) h.0, h.1)
marks es asked (Overload place again full) request e = absurd (entry_marks es place again request e)
marks es asked (Missed place again causes) request e = absurd (entry_marks es place again request e)

pub outside_adds : (es : List Entry) (request : Option RequestNo) (outcome : ItemOutcome) → is_outside outcome ≡ true → events_of_outcome es request outcome ≡ []
outside_adds es request (Refused why) e = refl
outside_adds es request (SerialsSpent seen) e = refl
outside_adds es request (Expired now expiry) e = refl
outside_adds es request (Lost causes) e = refl
outside_adds es request (Ended end) e = absurd (cc)
outside_adds es request (Overload place again full) e = absurd (cc)
outside_adds es request (Missed place again causes) e = absurd (cc)
