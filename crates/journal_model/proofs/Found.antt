-- The touch that an enter leaves, and the commit that is found for a request.
use Rattle.std.proofs.Common.{◌≡◌, ◌≢◌, ◌↔◌, ℕ, zero, suc, ◌==◌, Bool, true, false, cond, List, [], ◌∷◌, ◌++◌, Option, Some, None, All, option_map, refl, sym, ap, ◌∙◌, subst, slice_get}
use Rattle.std.specs.List.{Any, position}
use Rattle.std.proofs.lemmas.Bool.{eqb-true, false_from_ne_true}
use Rattle.std.proofs.lemmas.List.Elements.{All-weaker}
use Rattle.std.proofs.lemmas.List.Folds.{Any-from_list_any, list_any_none}
use Rattle.std.proofs.lemmas.List.Quantifiers.{Any-push}
use Rattle.crash_base.specs.declared.numbers.Place.{Place}
use Rattle.crash_base.specs.declared.numbers.RequestNo.{RequestNo}
use Rattle.crash_base.proofs.Positions.{position-cons}
use Rattle.journal_model.specs.declared.entry.CommitEntry.{CommitEntry}
use Rattle.journal_model.specs.declared.entry.Entry.{Entry}
use Rattle.journal_model.specs.declared.entry.Entry.TheVariants.{Commit, Down, Up}
use Rattle.journal_model.specs.declared.entry.Touch.{Touch}
use Rattle.journal_model.specs.Calls.{is_touched, touched_with}
use Rattle.journal_model.specs.Requests.{same_request, is_commit_of, commit_of, place_no}
use Rattle.journal_model.specs.Stale.{new_touch}
use Rattle.journal_model.proofs.Exactly.{same_request-is}
use Rattle.journal_model.proofs.Serially.{not_committed}

-- a touch is of a group
abbrev IsOfGroup : ℕ → Touch → Type 0
IsOfGroup g t = t.group.0 ≡ g

pub touches_have : (es : List Entry) (g : ℕ) (touched : List Touch) → Any (λ (t : Touch). t.group.0 ≡ g) (touched_with es g touched)
touches_have es g touched = go (is_touched touched g) refl
  where
    go : (b : Bool) → is_touched touched g ≡ b → Any (IsOfGroup g) (cond b touched (touched ++ new_touch es g ∷ []))
    go true is =
        let found = Any-from_list_any (λ (t : Touch). t.group.0 == g) touched is in
        (found.0, found.1, found.2, found.3, eqb-true found.1.group.0 g found.4)
    go false is = Any-push (IsOfGroup g) touched (new_touch es g) refl

pub touches_first : (es : List Entry) (g : ℕ) (touched : List Touch) → All (λ (t : Touch). t.group.0 ≢ g) touched → touched_with es g touched ≡ touched ++ new_touch es g ∷ []
touches_first es g touched none =
    let test : Touch → Bool = λ t. t.group.0 == g in
    let new : is_touched touched g ≡ false = list_any_none test touched (All-weaker (λ (t : Touch). t.group.0 ≢ g) (λ t. test t ≡ false) (λ t other. false_from_ne_true (test t) (λ is. other (eqb-true t.group.0 g is))) touched none) in
    ap (λ b. cond b touched (touched ++ new_touch es g ∷ [])) new

-- what passes the test is at the place
abbrev Passes : {A : Type 0} → (A → Bool) → List A → ℕ → Type 0
Passes {A} p xs i = (x : A) × (slice_get xs i ≡ Some x) × (p x ≡ true)

-- where a place is found, what is there passes the test
passes_there : {A : Type 0} (p : A → Bool) (xs : List A) (i : ℕ) → position p xs ≡ Some i → Passes p xs i
passes_there p [] i found = absurd (cc)
passes_there {A} p (y ∷ ys) i found = go (p y) refl (position p ys) refl (passes_there p ys) i (sym (position-cons p y ys) ∙ found)
  where
    go : (b : Bool) → p y ≡ b → (o : Option ℕ) → position p ys ≡ o → ((k : ℕ) → position p ys ≡ Some k → Passes p ys k) → (k : ℕ) → cond b (Some 0) (option_map suc o) ≡ Some k → Passes p (y ∷ ys) k
    go true is o later rest zero h = (y, refl, is)
    go true is o later rest (suc k) h = absurd (cc)
    go false is None later rest k h = absurd (cc)
    go false is (Some n) later rest zero h = absurd (cc)
    go false is (Some n) later rest (suc k) h = let same : n ≡ k = cc in rest k (later ∙ ap Some same)

-- a commit of the request is at the place
abbrev CommitsAt : List Entry → RequestNo → ℕ → Type 0
CommitsAt es r i = (e : CommitEntry) × (slice_get es i ≡ Some (Commit e)) × (e.request ≡ r)

commits_at : (es : List Entry) (r : RequestNo) (i : ℕ) (e : Entry) → slice_get es i ≡ Some e → is_commit_of r e ≡ true → CommitsAt es r i
commits_at es r i (Commit d) at is = (d, at, (same_request-is d.request r).0 is)
commits_at es r i (Down s) at is = absurd (cc)
commits_at es r i (Up s) at is = absurd (cc)

pub commit_there : (es : List Entry) (r : RequestNo) (place : Place) → commit_of es r ≡ Some place → CommitsAt es r place.0
commit_there es r place found = go (position (is_commit_of r) es) refl found
  where
    go : (o : Option ℕ) → position (is_commit_of r) es ≡ o → option_map place_no o ≡ Some place → CommitsAt es r place.0
    go None is h = absurd (cc)
    go (Some n) is h =
        let same : n ≡ place.0 = cc in
        let there = passes_there (is_commit_of r) es n is in
        subst (CommitsAt es r) same (commits_at es r n there.0 there.1 there.2)

none_there : (es : List Entry) (r : RequestNo) → commit_of es r ≡ None → (i : ℕ) (e : CommitEntry) → slice_get es i ≡ Some (Commit e) → e.request ≢ r
none_there es r none i e at is =
    let other : same_request e.request r ≡ false = not_committed es r i e none at in
    let same : same_request e.request r ≡ true = (same_request-is e.request r).1 is in
    cc

none_found : (es : List Entry) (r : RequestNo) → ((i : ℕ) (e : CommitEntry) → slice_get es i ≡ Some (Commit e) → e.request ≢ r) → commit_of es r ≡ None
none_found es r none = go (commit_of es r) refl
  where
    go : (o : Option Place) → commit_of es r ≡ o → o ≡ None
    go None is = refl
    go (Some place) is = let there = commit_there es r place is in absurd (none place.0 there.0 there.1 there.2)

pub none_is : (es : List Entry) (r : RequestNo) → (commit_of es r ≡ None) ↔ ((i : ℕ) (e : CommitEntry) → slice_get es i ≡ Some (Commit e) → e.request ≢ r)
none_is es r = (none_there es r, none_found es r)
