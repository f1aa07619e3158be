-- What an outcome leaves in the history of the windows.
use Rattle.std.specs.Prelude.{count_by, cond}
use Rattle.std.proofs.Common.{◌≡◌, ◌+◌, Bool, List, [], ◌∷◌, ◌++◌, Option, Some, None, refl, arith}
use Rattle.std.proofs.lemmas.List.Sums.{sum_by-append}
use Rattle.session_cookie.specs.declared.cookie.Cookie.{Cookie}
use Rattle.send_windows.specs.declared.history.WindowMark.{WindowMark}
use Rattle.outcome_items.specs.Traces.{again_in, is_spent, is_taken, marks_of_outcome, marks_of_write, window_trace, window_traces}
use Rattle.outcome_items.specs.declared.item.Item.{Item}
use Rattle.outcome_items.specs.declared.outcome.ItemOutcome.{ItemOutcome}
use Rattle.outcome_items.specs.declared.outcome.ItemOutcome.TheVariants.{Refused, SerialsSpent, Expired, Lost, Ended, Overload, Missed}

-- as many were taken as were spent
abbrev AreEven : List WindowMark → Type 0
AreEven marks = count_by is_taken marks ≡ count_by is_spent marks

write_even : (cookie : Option Cookie) → AreEven (marks_of_write cookie)
write_even None = refl
write_even (Some cookie) = refl

even : (cookie : Option Cookie) (outcome : ItemOutcome) → AreEven (marks_of_outcome cookie outcome)
even cookie (Refused why) = refl
even cookie (SerialsSpent seen) = refl
even cookie (Expired now expiry) = refl
even cookie (Lost causes) = refl
even cookie (Ended end) = write_even cookie
even cookie (Overload place again full) = refl
even cookie (Missed place again causes) = refl

count_append : (f : WindowMark → Bool) (xs ys : List WindowMark) → count_by f (xs ++ ys) ≡ count_by f xs + count_by f ys
count_append f xs ys = sum_by-append (λ (m : WindowMark). cond (f m) 1 0) xs ys

even_append : (xs ys : List WindowMark) → AreEven xs → AreEven ys → AreEven (xs ++ ys)
even_append xs ys a b = rw (count_append is_taken xs ys, count_append is_spent xs ys) (omega arith)

pub all_even : (items : List Item) → AreEven (window_traces items)
all_even [] = refl
all_even (item ∷ items) = even_append (window_trace item) (window_traces items) (even item.cookie item.outcome) (all_even items)

none_written : (cookie : Option Cookie) → cookie ≡ None → marks_of_write cookie ≡ []
none_written None e = refl
none_written (Some cookie) e = absurd (cc)

pub leaves_none : (cookie : Option Cookie) (outcome : ItemOutcome) → again_in outcome ≡ None → cookie ≡ None → marks_of_outcome cookie outcome ≡ []
leaves_none cookie (Refused why) e none = refl
leaves_none cookie (SerialsSpent seen) e none = refl
leaves_none cookie (Expired now expiry) e none = refl
leaves_none cookie (Lost causes) e none = refl
leaves_none cookie (Ended end) e none = none_written cookie none
leaves_none cookie (Overload place again full) e none = absurd (cc)
leaves_none cookie (Missed place again causes) e none = absurd (cc)
