-- The marks that a call has left in the history of windows: passes that it took it spent.
use Rattle.std.proofs.Common.{◌≡◌, ◌⊎◌, inl, inr, ◌∙◌, ℕ, zero, suc, List, [], ◌∷◌, ◌++◌, Option, Some, None, map, slice_get, ap, refl, subst, sym}
use Rattle.std.proofs.lemmas.List.{map-append}
use Rattle.outcome_items.specs.Traces.{marks_of_outcome, marks_of_write, uncounted, window_trace, window_traces}
use Rattle.outcome_items.specs.declared.item.Item.{Item}
use Rattle.outcome_items.specs.declared.outcome.ItemOutcome.{ItemOutcome}
use Rattle.outcome_items.specs.declared.outcome.ItemOutcome.TheVariants as item
use Rattle.send_windows.specs.declared.history.WindowMark.{WindowMark}
use Rattle.send_windows.specs.declared.history.WindowMark.TheVariants as mark
use Rattle.session_cookie.specs.declared.cookie.Cookie.{Cookie}

-- the marks of one request: none, passes refused, or taken and spent
abbrev pub AreOfRequest : List WindowMark → Type 0
AreOfRequest marks = (marks ≡ []) ⊎ ((marks ≡ mark.Refused ∷ []) ⊎ (marks ≡ mark.Taken 0 ∷ mark.Spent ∷ []))

-- behind passes that were taken, the next mark is that they were spent
abbrev pub TakenAreSpent : List WindowMark → Type 0
TakenAreSpent marks =
    (first behind : List WindowMark) (passes : ℕ) → marks ≡ first ++ mark.Taken passes ∷ behind
    → (rest : List WindowMark) × (behind ≡ mark.Spent ∷ rest)

of_none : (first behind : List WindowMark) (passes : ℕ) → [] ≡ first ++ mark.Taken passes ∷ behind → (rest : List WindowMark) × (behind ≡ mark.Spent ∷ rest)
of_none [] behind passes is = absurd (cc)
of_none (m ∷ first) behind passes is = absurd (cc)

of_refused : (first behind : List WindowMark) (passes : ℕ) → mark.Refused ∷ [] ≡ first ++ mark.Taken passes ∷ behind → (rest : List WindowMark) × (behind ≡ mark.Spent ∷ rest)
of_refused [] behind passes is = absurd (cc)
of_refused (m ∷ first) behind passes is = of_none first behind passes (cc)

of_taken : (first behind : List WindowMark) (passes : ℕ) → mark.Taken 0 ∷ mark.Spent ∷ [] ≡ first ++ mark.Taken passes ∷ behind → (rest : List WindowMark) × (behind ≡ mark.Spent ∷ rest)
of_taken [] behind passes is =
    let follows : mark.Spent ∷ [] ≡ behind = cc in
    ([], sym follows)
of_taken (m ∷ []) behind passes is = absurd (cc)
of_taken (m ∷ k ∷ first) behind passes is = of_none first behind passes (cc)

of_request : (marks : List WindowMark) → AreOfRequest marks → TakenAreSpent marks
of_request marks (inl is) = subst (λ (l : List WindowMark). TakenAreSpent l) (sym is) of_none
of_request marks (inr (inl is)) = subst (λ (l : List WindowMark). TakenAreSpent l) (sym is) of_refused
of_request marks (inr (inr is)) = subst (λ (l : List WindowMark). TakenAreSpent l) (sym is) of_taken

spent_on : (xs ys first behind : List WindowMark) (passes : ℕ) → TakenAreSpent xs → TakenAreSpent ys → xs ++ ys ≡ first ++ mark.Taken passes ∷ behind → (rest : List WindowMark) × (behind ≡ mark.Spent ∷ rest)
spent_on [] ys first behind passes a b is = b first behind passes is
spent_on (x ∷ xs) ys [] behind passes a b is =
    let here : x ≡ mark.Taken passes = cc in
    let follow : xs ++ ys ≡ behind = cc in
    let next = a [] xs passes (ap (λ (m : WindowMark). m ∷ xs) here) in
    (next.0 ++ ys, sym follow ∙ ap (λ (l : List WindowMark). l ++ ys) next.1)
spent_on (x ∷ xs) ys (y ∷ first) behind passes a b is =
    let same : xs ++ ys ≡ first ++ mark.Taken passes ∷ behind = cc in
    spent_on xs ys first behind passes (λ f g n h. a (x ∷ f) g n (ap (λ (l : List WindowMark). x ∷ l) h)) b same

write_marks : (cookie : Option Cookie) → AreOfRequest (marks_of_write cookie)
write_marks None = inl refl
write_marks (Some cookie) = inr (inr refl)

outcome_marks : (cookie : Option Cookie) (outcome : ItemOutcome) → AreOfRequest (marks_of_outcome cookie outcome)
outcome_marks cookie (item.Refused why) = inl refl
outcome_marks cookie (item.SerialsSpent seen) = inl refl
outcome_marks cookie (item.Expired now expiry) = inl refl
outcome_marks cookie (item.Lost causes) = inl refl
outcome_marks cookie (item.Ended end) = write_marks cookie
outcome_marks cookie (item.Overload place again full) = inr (inl refl)
outcome_marks cookie (item.Missed place again causes) = inr (inr refl)

items_spent : (items : List Item) → TakenAreSpent (window_traces items)
items_spent [] = of_none
items_spent (i ∷ items) = λ first behind passes is.
    spent_on (window_trace i) (window_traces items) first behind passes (of_request (window_trace i) (outcome_marks i.cookie i.outcome)) (items_spent items) is

spent_mark : (m : WindowMark) → uncounted m ≡ mark.Spent → m ≡ mark.Spent
spent_mark (mark.Opened bricks w wq holds) is = absurd (cc)
spent_mark (mark.Taken passes) is = absurd (cc)
spent_mark mark.Refused is = absurd (cc)
spent_mark mark.Spent is = refl

next_spent : (behind told : List WindowMark) → map uncounted behind ≡ mark.Spent ∷ told → (rest : List WindowMark) × (behind ≡ mark.Spent ∷ rest)
next_spent [] told is = absurd (cc)
next_spent (m ∷ behind) told is =
    let here : uncounted m ≡ mark.Spent = cc in
    (behind, ap (λ (k : WindowMark). k ∷ behind) (spent_mark m here))

-- what is so with the numbers of passes left out is so with them
with_numbers : (marks : List WindowMark) → TakenAreSpent (map uncounted marks) → TakenAreSpent marks
with_numbers marks told = λ first behind passes is.
    let here : map uncounted marks ≡ map uncounted first ++ mark.Taken 0 ∷ map uncounted behind =
    ap (λ (l : List WindowMark). map uncounted l) is ∙ map-append uncounted first (mark.Taken passes ∷ behind) in
    let next = told (map uncounted first) (map uncounted behind) 0 here in
    next_spent behind next.0 next.1

-- Marks that are told by items, and then those of one request: passes that were taken were spent.
pub taken_are_spent : (marks more : List WindowMark) (items : List Item) → map uncounted marks ≡ window_traces items ++ more → AreOfRequest more → TakenAreSpent marks
taken_are_spent marks more items is of_one =
    with_numbers marks (subst (λ (l : List WindowMark). TakenAreSpent l) (sym is)
    (λ first behind passes at. spent_on (window_traces items) more first behind passes (items_spent items) (of_request more of_one) at))

-- a mark is as it is told, but for a number of passes
abbrev pub IsToldAs : WindowMark → WindowMark → Type 0
IsToldAs m t = (t ≡ m) ⊎ ((passes : ℕ) × (m ≡ mark.Taken passes) × (t ≡ mark.Taken 0))

told_as : (m t : WindowMark) → t ≡ uncounted m → IsToldAs m t
told_as (mark.Opened bricks w wq holds) t is = inl is
told_as (mark.Taken passes) t is = inr (passes, refl, is)
told_as mark.Refused t is = inl is
told_as mark.Spent t is = inl is

-- so is each
pub each_told : (marks : List WindowMark) (n : ℕ) (m t : WindowMark) → slice_get marks n ≡ Some m → slice_get (map uncounted marks) n ≡ Some t → IsToldAs m t
each_told [] n m t is tells = absurd (cc)
each_told (x ∷ marks) zero m t is tells =
    let here : x ≡ m = cc in
    let told : uncounted x ≡ t = cc in
    told_as m t (sym told ∙ ap uncounted here)
each_told (x ∷ marks) (suc n) m t is tells = each_told marks n m t is tells
