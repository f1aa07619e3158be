-- Commits that came late are merged into the others.
use Rattle.std.proofs.Common.{◌≡◌, ℕ, ◌+◌, ◌≤◌, Bool, true, false, cond, List, [], ◌∷◌, ◌++◌, length, Option, Some, None, refl, sym, ap, ◌∙◌, subst, arith, append_assoc}
use Rattle.std.proofs.lemmas.List.Elements.{All-nil, All-head, All-tail, All-append, All-push, All-weaker}
use Rattle.crash_base.specs.declared.numbers.RequestNo.{RequestNo}
use Rattle.journal_model.specs.Requests.{same_request}
use Rattle.commit_journal.specs.declared.made.Made.{Made}
use Rattle.commit_journal.specs.Made.{request_before, is_earlier, AreSorted, AllBefore, place_in, with_made, or_else, made_if}
use Rattle.commit_journal.proofs.Halving.{before_both}
use Rattle.commit_journal.proofs.Making.{or_none, placed, sorted_with, few_with}

pub or_assoc : (a b c : Option ℕ) → or_else (or_else a b) c ≡ or_else a (or_else b c)
or_assoc None b c = refl
or_assoc (Some n) b c = refl

if_or : (own : Bool) (p : ℕ) (o : Option ℕ) → or_else (made_if own p) o ≡ cond own (Some p) o
if_or true p o = refl
if_or false p o = refl

-- what is before one is before each later one
pub before_later : (a b : RequestNo) (ms : List Made) → request_before a b ≡ true → AllBefore a ms → AllBefore b ms
before_later a b ms ab all = All-weaker (λ (m : Made). is_earlier a m ≡ true) (λ (m : Made). is_earlier b m ≡ true) (λ m ma. before_both m.request a b ma ab) ms all

-- one more comes after all that are before it
with_after : (r : RequestNo) (p : ℕ) (out ms : List Made) → AllBefore r out → with_made r p (out ++ ms) ≡ out ++ with_made r p ms
with_after r p [] ms all = refl
with_after r p (m ∷ out) ms all =
    let is : request_before m.request r ≡ true = All-head (λ (m : Made). is_earlier r m ≡ true) m out all in
    rw is (ap (λ xs. m ∷ xs) (with_after r p out ms (All-tail (λ (m : Made). is_earlier r m ≡ true) m out all)))

sorted_back : (xs ys : List Made) → AreSorted (xs ++ ys) → AreSorted ys
sorted_back [] ys sorted = sorted
sorted_back (x ∷ xs) ys sorted = sorted_back xs ys sorted.1

-- those that are merged come before the first of the rest
abbrev pub BeforeFirst : List Made → List Made → Type 0
BeforeFirst out [] = Unit {0}
BeforeFirst out (m ∷ ms) = AllBefore m.request out

-- Some of two lists are merged, and what is left of both is to come.
pub record IsMerging (made others out left rest : List Made) : Type 0 where
  pub sorted : AreSorted (out ++ left)
  pub rest_sorted : AreSorted rest
  pub before : BeforeFirst out rest
  pub places : (q : RequestNo) → or_else (place_in q (out ++ left)) (place_in q rest) ≡ or_else (place_in q made) (place_in q others)
  pub few : length (out ++ left) + length rest ≤ length made + length others

none_merged : (ms : List Made) → BeforeFirst [] ms
none_merged [] = tt
none_merged (m ∷ ms) = All-nil (λ (n : Made). is_earlier m.request n ≡ true)

pub merging_first : (made others out : List Made) → out ≡ [] → AreSorted made → AreSorted others → IsMerging made others out made others
merging_first made others out none sorted sorted_others =
    let P : List Made → Type 0 = λ xs. IsMerging made others xs made others in
    subst P (sym none) (record { sorted = sorted; rest_sorted = sorted_others; before = none_merged others; places = λ q. refl; few = omega arith })

-- what is left of the first list is in order
pub left_sorted : (made others out left rest : List Made) → IsMerging made others out left rest → AreSorted left
left_sorted made others out left rest merging = sorted_back out left merging.sorted

abbrev Passes : RequestNo → List Made → List Made → Type 0
Passes a out more = (r : RequestNo) → request_before a r ≡ true → AllBefore a out → AllBefore r more

before_rest : (one : Made) (out more rest : List Made) → AreSorted (one ∷ rest) → AllBefore one.request out → Passes one.request out more → BeforeFirst more rest
before_rest one out more [] sorted all passes = tt
before_rest one out more (n ∷ rest) sorted all passes = passes n.request (All-head (λ (m : Made). request_before one.request m.request ≡ true) n rest sorted.0) all

-- one of the second list is merged
merging_step : (made others out left rest : List Made) (one : Made) (more still : List Made) → IsMerging made others out left (one ∷ rest) → more ++ still ≡ out ++ with_made one.request one.place left → Passes one.request out more
    → IsMerging made others more still rest
merging_step made others out left rest one more still merging is passes =
    let r = one.request in
    let p = one.place in
    let whole : more ++ still ≡ with_made r p (out ++ left) = is ∙ sym (with_after r p out left merging.before) in
    record {
      sorted = subst AreSorted (sym whole) (sorted_with r p (out ++ left) merging.sorted);
      rest_sorted = merging.rest_sorted.1;
      before = before_rest one out more rest merging.rest_sorted merging.before passes;
      places = λ q.
          (ap (λ xs. or_else (place_in q xs) (place_in q rest)) whole
          ∙ ap (λ o. or_else o (place_in q rest)) (placed r q p (out ++ left) merging.sorted)
          ∙ or_assoc (place_in q (out ++ left)) (made_if (same_request r q) p) (place_in q rest)
          ∙ ap (λ o. or_else (place_in q (out ++ left)) o) (if_or (same_request r q) p (place_in q rest))
          ∙ merging.places q);
      few = omega (arith, ap (λ (xs : List Made). length xs) whole, few_with r p (out ++ left), merging.few);
    }

-- what is left of the second list is named by its place
pub merging_next : (made others out left rest after later : List Made) (one : Made) (more still : List Made) → IsMerging made others out left rest → rest ≡ one ∷ after → after ≡ later → more ++ still ≡ out ++ with_made one.request one.place left
    → Passes one.request out more → IsMerging made others more still later
merging_next made others out left rest after later one more still merging first is whole passes =
    subst (IsMerging made others more still) is (merging_step made others out left after one more still (subst (IsMerging made others out left) first merging) whole passes)

-- all of the second list is merged
pub merging_last : (made others out left rest : List Made) (q : RequestNo) → IsMerging made others out left rest → rest ≡ [] → place_in q (out ++ left) ≡ or_else (place_in q made) (place_in q others)
merging_last made others out left rest q merging none =
    let last = subst (IsMerging made others out left) none merging in
    sym (or_none (place_in q (out ++ left))) ∙ last.places q

-- one is put after those that come before it
pub merged_whole : (out first : List Made) (one : Made) (left all : List Made) → first ++ one ∷ left ≡ all → ((out ++ first) ++ one ∷ []) ++ left ≡ out ++ all
merged_whole out first one left all is = append_assoc (out ++ first) (one ∷ []) left ∙ append_assoc out first (one ∷ left) ∙ ap (λ xs. out ++ xs) is

pub merged_before : (r : RequestNo) (out first : List Made) (one : Made) → request_before one.request r ≡ true → AllBefore one.request out → AllBefore one.request first → AllBefore r ((out ++ first) ++ one ∷ [])
merged_before r out first one later before here =
    All-push (λ (m : Made). is_earlier r m ≡ true) (out ++ first) one (All-append (λ (m : Made). is_earlier r m ≡ true) out first (before_later one.request r out later before) (before_later one.request r first later here)) later
