-- The steps keep the rule.
use Rattle.std.proofs.Common.{◌≡◌, ◌≢◌, inl, inr, ℕ, zero, suc, ◌+◌, ◌-◌, ◌%◌, ◌^◌, ◌<◌, ◌≤◌, ◌==◌, nat_lt, max, List, [], ◌∷◌, ◌++◌, length, replicate, set, All, Bool, true, false, if◌then◌else◌, arith, refl, sym, ap, ◌∙◌, ⊎_elim, subst, get_or}
use Rattle.std.proofs.lemmas.List.{length-set, length-append, length-replicate, get_or-replicate}
use Rattle.std.proofs.lemmas.List.Elements.{All-weaker, All-append, All-push, All-nil, All-cons, All-head, All-tail}
use Rattle.std.proofs.lemmas.Bool.Decides.{nat_tests}
use mathlib.Core.Option.{some, some-injective, some-ne-none}
use mathlib.Core.Logic.{dite}
use native.Mathlib.Decide.{ℕ_discrete}
use lib.ListN.{get_elem?}
use Rattle.atomic_table.proofs.Lists.{at_set, at_snoc, at_longer, set_here, set_else}
use Rattle.atomic_table.specs.Table.{State, opening, Splits, Joins, Allows, keeps, Step}
use Rattle.outside.specs.declared.serials.TheConstants.{SERIALS_END}
use Rattle.outside.specs.Serials.{AllDiffer}
use Rattle.shared_words.specs.declared.view.View.{View}
use Rattle.shared_words.specs.declared.view.Sight.{Sight}
use Rattle.shared_words.specs.Words.{greatest}
use Rattle.shared_words.specs.Rule.{Kept, Knows, Stays, IsRaised, Finds, sight_of, total, times, once_below, counted, weight, MeOf, Sees, Draws, Looks, Raises, Compares}

-- the total after a change of one
total_set : {X : Type 0} (f : X → ℕ) (xs : List X) (i : ℕ) (v w : X) → get_elem? xs i ≡ some v → total f (set xs i w) + f v ≡ total f xs + f w
total_set f [] i v w e = absurd (some-ne-none v (sym e))
total_set f (x ∷ xs) zero v w e = let same : f x ≡ f v = ap f (some-injective x v e) in omega arith
total_set f (x ∷ xs) (suc i) v w e = let h = total_set f xs i v w e in omega arith

total_append : {X : Type 0} (f : X → ℕ) (xs ys : List X) → total f (xs ++ ys) ≡ total f xs + total f ys
total_append f [] ys = omega arith
total_append f (x ∷ xs) ys = let h = total_append f xs ys in omega arith

total_le : {X : Type 0} (f g : X → ℕ) (xs : List X) → ((i : ℕ) (v : X) → get_elem? xs i ≡ some v → f v ≤ g v) → total f xs ≤ total g xs
total_le f g [] h = omega arith
total_le f g (x ∷ xs) h = let a = h 0 x refl in let b = total_le f g xs (λ i v e. h (suc i) v e) in omega arith

one_le : {X : Type 0} (f : X → ℕ) (xs : List X) (i : ℕ) (v : X) → get_elem? xs i ≡ some v → f v ≤ total f xs
one_le f [] i v e = absurd (some-ne-none v (sym e))
one_le f (x ∷ xs) zero v e = let same : f x ≡ f v = ap f (some-injective x v e) in omega arith
one_le f (x ∷ xs) (suc i) v e = let h = one_le f xs i v e in omega arith

is_there : {X : Type 0} (xs : List X) (i : ℕ) (v : X) → get_elem? xs i ≡ some v → i < length xs
is_there [] i v e = absurd (some-ne-none v (sym e))
is_there (x ∷ xs) zero v e = omega arith
is_there (x ∷ xs) (suc i) v e = let h = is_there xs i v e in omega arith

-- two of a list count no more than all
two_le : {X : Type 0} (f : X → ℕ) (xs : List X) (i j : ℕ) (v u : X) → get_elem? xs i ≡ some v → get_elem? xs j ≡ some u → j ≢ i → f v + f u ≤ total f xs
two_le f [] i j v u a b differ = absurd (some-ne-none v (sym a))
two_le f (x ∷ xs) zero zero v u a b differ = absurd (differ refl)
two_le f (x ∷ xs) zero (suc j) v u a b differ = let same : f x ≡ f v = ap f (some-injective x v a) in let h = one_le f xs j u b in omega arith
two_le f (x ∷ xs) (suc i) zero v u a b differ = let same : f x ≡ f u = ap f (some-injective x u b) in let h = one_le f xs i v a in omega arith
two_le f (x ∷ xs) (suc i) (suc j) v u a b differ = let h = two_le f xs i j v u a b (λ e. differ (ap suc e)) in omega arith

-- where each other counts nothing, one counts as much as all
none_counts : {X : Type 0} (f : X → ℕ) (xs : List X) → ((j : ℕ) (u : X) → get_elem? xs j ≡ some u → f u ≡ 0) → total f xs ≡ 0
none_counts f [] none = refl
none_counts f (x ∷ xs) none = let a = none 0 x refl in let b = none_counts f xs (λ j u e. none (suc j) u e) in omega arith

one_counts : {X : Type 0} (f : X → ℕ) (xs : List X) (i : ℕ) (v : X) → get_elem? xs i ≡ some v → ((j : ℕ) (u : X) → get_elem? xs j ≡ some u → j ≢ i → f u ≡ 0) → total f xs ≡ f v
one_counts f [] i v at others = absurd (some-ne-none v (sym at))
one_counts f (x ∷ xs) zero v at others =
    let same : f x ≡ f v = ap f (some-injective x v at) in
    let rest = none_counts f xs (λ j u e. others (suc j) u e (λ z. omega arith)) in
    omega arith
one_counts f (x ∷ xs) (suc i) v at others =
    let first = others 0 x refl (λ z. omega arith) in
    let rest = one_counts f xs i v at (λ j u e differ. others (suc j) u e (λ z. differ (omega arith))) in
    omega arith

times_append : (x : ℕ) (xs ys : List ℕ) → times x (xs ++ ys) ≡ times x xs + times x ys
times_append x [] ys = omega arith
times_append x (n ∷ xs) ys = let h = times_append x xs ys in omega arith

-- a number that does not stand in a list differs from each
absent : (n : ℕ) (ns : List ℕ) → times n ns ≡ 0 → All (λ m. n ≢ m) ns
absent n [] not_there = All-nil (λ m. n ≢ m)
absent n (m ∷ ns) not_there = All-cons (λ k. n ≢ k) m ns (λ e. differ m n (sym e) not_there) (absent n ns (rest m n ns (m == n) not_there))
  where
    differ : (m n : ℕ) → m ≡ n → (if m == n then 1 else 0) + times n ns ≡ 0 → ⊥
    differ m n e h = grind (arith, nat_tests)

    rest : (m n : ℕ) (ns : List ℕ) (b : Bool) → (if b then 1 else 0) + times n ns ≡ 0 → times n ns ≡ 0
    rest m n ns true h = omega arith
    rest m n ns false h = omega arith

-- where no number stands twice, all differ
differ_once : (ns : List ℕ) → ((x : ℕ) → times x ns ≤ 1) → AllDiffer ns
differ_once [] h = tt
differ_once (n ∷ ns) h = (absent n ns (let a = h n in grind (arith, nat_tests)), differ_once ns (λ x. let a = h x in omega arith))

-- words after one was set
here : (ws : List ℕ) (i n : ℕ) → i < length ws → get_or (set ws i n) i 0 ≡ n
here [] i n h = absurd (omega arith)
here (w ∷ ws) zero n h = refl
here (w ∷ ws) (suc i) n h = here ws i n (omega arith)

up : (ws : List ℕ) (i n : ℕ) → get_or ws i 0 ≤ n → (k : ℕ) → get_or ws k 0 ≤ get_or (set ws i n) k 0
up [] i n h k = omega arith
up (w ∷ ws) zero n h zero = h
up (w ∷ ws) zero n h (suc k) = omega arith
up (w ∷ ws) (suc i) n h zero = omega arith
up (w ∷ ws) (suc i) n h (suc k) = up ws i n h k

elsewhere : (ws : List ℕ) (i n k : ℕ) → k ≢ i → get_or (set ws i n) k 0 ≡ get_or ws k 0
elsewhere [] i n k differ = refl
elsewhere (w ∷ ws) zero n zero differ = absurd (differ refl)
elsewhere (w ∷ ws) zero n (suc k) differ = refl
elsewhere (w ∷ ws) (suc i) n zero differ = refl
elsewhere (w ∷ ws) (suc i) n (suc k) differ = elsewhere ws i n k (λ e. differ (ap suc e))

first_stays : (ws : List ℕ) (i n : ℕ) → get_or (set ws (1 + i) n) 0 0 ≡ get_or ws 0 0
first_stays ws i n = elsewhere ws (1 + i) n 0 (λ e. omega arith)

-- the greatest generation that was seen
greatest_append : (g : ℕ) (xs ys : List Sight) → greatest g (xs ++ ys) ≡ max (greatest g xs) (greatest g ys)
greatest_append g [] ys = omega arith
greatest_append g (s ∷ ss) ys = let h = greatest_append g ss ys in omega arith

newest : (g n : ℕ) → n ≤ greatest g (sight_of g n ∷ [])
newest g n = by (g == g) refl
  where
    by : (b : Bool) → (g == g) ≡ b → n ≤ max (if b then n else 0) 0
    by true is = omega arith
    by false is = grind (arith, nat_tests)

at_most_word : (ws : List ℕ) (g : ℕ) (ss : List Sight) → All (Stays ws) ss → greatest g ss ≤ get_or ws (1 + g) 0
at_most_word ws g [] all = omega arith
at_most_word ws g (s ∷ ss) all =
    let a = by (s.group == g) refl (All-head (Stays ws) s ss all) in
    let b = at_most_word ws g ss (All-tail (Stays ws) s ss all) in
    omega arith
  where
    by : (b : Bool) → (s.group == g) ≡ b → s.generation ≤ get_or ws (1 + s.group) 0 → (if b then s.generation else 0) ≤ get_or ws (1 + g) 0
    by true is h = let e : s.group ≡ g = grind (arith, nat_tests) in subst (λ k. s.generation ≤ get_or ws (1 + k) 0) e h
    by false is h = omega arith

-- a generation stays raised where its word stays, and where the seat that changed saw no less
stays_raised : (g n m id : ℕ) (v w : View) (views : List View) → get_elem? views id ≡ some v → m ≡ n → greatest g v.sights ≤ greatest g w.sights
    → IsRaised g n views → IsRaised g m (set views id w)
stays_raised g n m id v w views at same more raised = ⊎_elim
    (λ none. inl (same ∙ none))
    (λ h. dite (ℕ_discrete h.0 id)
    (λ e.
    let mine : h.1 ≡ v = some-injective h.1 v (sym h.2 ∙ ap (get_elem? views) e ∙ at) in
    let a : greatest g h.1.sights ≡ greatest g v.sights = ap (λ (u : View). greatest g u.sights) mine in
    let b = h.3 in
    inr (id, w, set_here views id w (is_there views id v at), omega arith))
    (λ differ. let b = h.3 in inr (h.0, h.1, set_else views id h.0 w differ ∙ h.2, omega arith)))
    raised

grow : (ws ws' : List ℕ) → ((k : ℕ) → get_or ws k 0 ≤ get_or ws' k 0) → (v : View) → Knows ws v → Knows ws' v
grow ws ws' more v k = record {
  light = k.light;
  spare = k.spare;
  seen = (let a = more 0 in let b = k.seen in omega arith);
  sights = All-weaker (Stays ws) (Stays ws') (λ s h. let a = more (1 + s.group) in omega arith) v.sights k.sights;
}

-- one word has grown, and one view has changed
moved : (groups all id i n : ℕ) (v w : View) (s : State (Unit {0}) View) → Kept groups all s → get_elem? s.views id ≡ some v
    → get_or s.words i 0 ≤ n → get_or (set s.words i n) 0 0 + total weight (set s.views id w) ≤ 2 ^ 62 + all → w.parts ≡ v.parts → Knows (set s.words i n) w
    → ((x : ℕ) → times x w.drawn + once_below x (get_or s.words 0 0) ≤ times x v.drawn + once_below x (get_or (set s.words i n) 0 0))
    → length w.drawn + get_or s.words 0 0 ≡ length v.drawn + get_or (set s.words i n) 0 0
    → ((g : ℕ) → g < groups → IsRaised g (get_or (set s.words i n) (1 + g) 0) (set s.views id w))
    → Kept groups all record { words = set s.words i n; homes = s.homes; views = set s.views id w }
moved groups all id i n v w s kept at more room same knows once drew raised = record {
  few = kept.few;
  size = length-set s.words i n ∙ kept.size;
  room = room;
  parts = (let a = total_set (λ (u : View). u.parts) s.views id v w at in let b = kept.parts in omega arith);
  knows = (λ by u there. ⊎_elim
      (λ h. subst (Knows (set s.words i n)) h.1 knows)
      (λ h. grow s.words (set s.words i n) (up s.words i n more) u (kept.knows by u h.1))
      (at_set s.views id by w u there));
  once = (λ x. let a = total_set (λ (u : View). times x u.drawn) s.views id v w at in let b = kept.once x in let c = once x in omega arith);
  all_drawn = (let a = total_set (λ (u : View). length u.drawn) s.views id v w at in let b = kept.all_drawn in omega arith);
  raised = raised;
}

-- the serial word moved, and the seat saw generations as before
serial_moved : (groups id n : ℕ) (v w : View) (s : State (Unit {0}) View) → get_elem? s.views id ≡ some v → w.sights ≡ v.sights
    → ((g : ℕ) → g < groups → IsRaised g (get_or s.words (1 + g) 0) s.views)
    → (g : ℕ) → g < groups → IsRaised g (get_or (set s.words 0 n) (1 + g) 0) (set s.views id w)
serial_moved groups id n v w s at same raised g within =
    let a : greatest g w.sights ≡ greatest g v.sights = ap (greatest g) same in
    stays_raised g (get_or s.words (1 + g) 0) (get_or (set s.words 0 n) (1 + g) 0) id v w s.views at (elsewhere s.words 0 n (1 + g) (λ e. omega arith)) (omega arith) (raised g within)

-- A seat with all parts: each other has none. So it drew as many numbers as are below the serial word, and saw each
-- generation as it is.
others_bare : (groups all id j : ℕ) (v u : View) (s : State (Unit {0}) View) → Kept groups all s → get_elem? s.views id ≡ some v → v.parts ≡ all
    → get_elem? s.views j ≡ some u → j ≢ id → (u.drawn ≡ []) × (u.sights ≡ [])
others_bare groups all id j v u s kept at whole there differ =
    (kept.knows j u there).spare (let a = two_le (λ (x : View). x.parts) s.views id j v u at there differ in let b = kept.parts in omega arith)

whole_drew : (groups all id : ℕ) (v : View) (s : State (Unit {0}) View) → Kept groups all s → get_elem? s.views id ≡ some v → v.parts ≡ all
    → get_or s.words 0 0 ≡ length v.drawn
whole_drew groups all id v s kept at whole =
    sym kept.all_drawn ∙ one_counts (λ (u : View). length u.drawn) s.views id v at (λ j u there differ. ap (λ (ns : List ℕ). length ns) (others_bare groups all id j v u s kept at whole there differ).0)

whole_saw : (groups all id g : ℕ) (v : View) (s : State (Unit {0}) View) → g < groups → Kept groups all s → get_elem? s.views id ≡ some v → v.parts ≡ all
    → get_or s.words (1 + g) 0 ≡ greatest g v.sights
whole_saw groups all id g v s within kept at whole =
    let up = at_most_word s.words g v.sights (kept.knows id v at).sights in
    let down : get_or s.words (1 + g) 0 ≤ greatest g v.sights = ⊎_elim
    (λ none. omega arith)
    (λ h. dite (ℕ_discrete h.0 id)
    (λ e.
    let mine : h.1 ≡ v = some-injective h.1 v (sym h.2 ∙ ap (get_elem? s.views) e ∙ at) in
    let a : greatest g h.1.sights ≡ greatest g v.sights = ap (λ (u : View). greatest g u.sights) mine in
    let b = h.3 in
    omega arith)
    (λ differ.
    let a : greatest g h.1.sights ≡ greatest g [] = ap (greatest g) (others_bare groups all id h.0 v h.1 s kept at whole h.2 differ).1 in
    let b = h.3 in
    omega arith))
    (kept.raised g within) in
    omega arith

-- room for a seat that takes flight below the end
flies : (n all t t' : ℕ) (b : Bool) → nat_lt n SERIALS_END ≡ b → t' ≡ t + counted b → t' ≤ all → n + t ≤ 2 ^ 62 + all → n + t' ≤ 2 ^ 62 + all
flies n all t t' true is e most room = grind (arith, nat_tests)
flies n all t t' false is e most room = omega arith

at_most_one : (b : Bool) → counted b ≤ 1
at_most_one true = omega arith
at_most_one false = omega arith

pub sees : (groups all whole count id : ℕ) (me : MeOf) (st : Step (Unit {0})) → whole ≡ all → 0 < me.0.parts → me.0.flying ≡ false
    → Allows (Kept groups all) count id me 0 (λ n. n) (Sees whole st me)
sees groups all whole count id me st whole_is some_parts still s kept slots at small =
    let v = me.0 in
    let n = get_or s.words 0 0 in
    let b = nat_lt n SERIALS_END in
    let w : View = record v { flying = b; seen = n } in
    let mine = kept.knows id v at in
    let one = at_most_one b in
    let size = kept.size in
    let is : get_or (set s.words 0 n) 0 0 ≡ n = here s.words 0 n (omega arith) in
    let knows : Knows (set s.words 0 n) w = record {
      light = omega arith;
      spare = mine.spare;
      seen = omega arith;
      sights = All-weaker (Stays s.words) (Stays (set s.words 0 n)) (λ t h. let a = up s.words 0 n (omega arith) (1 + t.group) in omega arith) v.sights mine.sights;
    } in
    let weights = total_set weight s.views id v w at in
    let shares = total_set (λ (u : View). u.parts) s.views id v w at in
    let light : weight v ≡ 0 = ap counted still in
    let few = total_le weight (λ (u : View). u.parts) (set s.views id w) (λ i u ui. ⊎_elim (λ h. subst (λ (x : View). weight x ≤ x.parts) h.1 knows.light) (λ h. (kept.knows i u h.1).light) (at_set s.views id i w u ui)) in
    let shared = kept.parts in
    let room = flies n all (total weight s.views) (total weight (set s.views id w)) b refl (omega arith) (omega arith) kept.room in (
      w,
      keeps,
      tt,
      moved groups all id 0 n v w s kept at (omega arith) (omega arith) refl knows (λ x. let a : once_below x (get_or s.words 0 0) ≡ once_below x (get_or (set s.words 0 n) 0 0) = ap (once_below x) (sym is) in omega arith)
          (omega arith) (serial_moved groups id n v w s at refl kept.raised),
      (refl, mine.seen, (λ e. whole_drew groups all id v s kept at (e ∙ whole_is))),
    )

-- a number more may be drawn
next_once : (x n : ℕ) → (if n == x then 1 else 0) + once_below x n ≤ once_below x (n + 1)
next_once x n = cases x n (n == x) (nat_lt x n) (nat_lt x (n + 1)) refl refl refl
  where
    cases : (x n : ℕ) (a b c : Bool) → (n == x) ≡ a → nat_lt x n ≡ b → nat_lt x (n + 1) ≡ c → (if a then 1 else 0) + (if b then 1 else 0) ≤ (if c then 1 else 0)
    cases x n true true true p q r = grind (arith, nat_tests)
    cases x n true true false p q r = grind (arith, nat_tests)
    cases x n true false true p q r = omega arith
    cases x n true false false p q r = grind (arith, nat_tests)
    cases x n false true true p q r = omega arith
    cases x n false true false p q r = grind (arith, nat_tests)
    cases x n false false true p q r = omega arith
    cases x n false false false p q r = omega arith

once_small : (x n : ℕ) → once_below x n ≤ 1
once_small x n = small (nat_lt x n)
  where
    small : (b : Bool) → (if b then 1 else 0) ≤ 1
    small true = omega arith
    small false = omega arith

-- the numbers of a view differ
view_differs : (groups all id : ℕ) (v : View) (s : State (Unit {0}) View) → Kept groups all s → get_elem? s.views id ≡ some v → AllDiffer v.drawn
view_differs groups all id v s kept at = differ_once v.drawn (λ x. let a = one_le (λ (u : View). times x u.drawn) s.views id v at in let b = kept.once x in let c = once_small x (get_or s.words 0 0) in omega arith)

pub draws : (groups all whole count id : ℕ) (me : MeOf) (st : Step (Unit {0})) → whole ≡ all → me.0.flying ≡ true
    → Allows (Kept groups all) count id me 0 (λ n. (n + 1) % 2 ^ 64) (Draws whole st me)
draws groups all whole count id me st whole_is flying s kept slots at small =
    let v = me.0 in
    let n = get_or s.words 0 0 in
    let w : View = record v { flying = false; drawn = v.drawn ++ n ∷ []; seen = n } in
    let mine = kept.knows id v at in
    let heavy : weight v ≡ 1 = ap counted flying in
    let mass = one_le weight s.views id v at in
    let size = kept.size in
    let few = kept.few in
    let full = kept.room in
    let wraps : (n + 1) % 2 ^ 64 ≡ n + 1 = omega arith in
    let is : get_or (set s.words 0 (n + 1)) 0 0 ≡ n + 1 = here s.words 0 (n + 1) (omega arith) in
    let knows : Knows (set s.words 0 (n + 1)) w = record {
      light = omega arith;
      spare = (λ none. absurd (let a = mine.light in omega arith));
      seen = omega arith;
      sights = All-weaker (Stays s.words) (Stays (set s.words 0 (n + 1))) (λ t h. let a = up s.words 0 (n + 1) (omega arith) (1 + t.group) in omega arith) v.sights mine.sights;
    } in
    let weights = total_set weight s.views id v w at in
    let kept' : Kept groups all record { words = set s.words 0 (n + 1); homes = s.homes; views = set s.views id w } =
    moved groups all id 0 (n + 1) v w s kept at (omega arith) (omega arith) refl knows (λ x.
    let a : once_below x (n + 1) ≡ once_below x (get_or (set s.words 0 (n + 1)) 0 0) = ap (once_below x) (sym is) in
    let b = times_append x v.drawn (n ∷ []) in
    let c = next_once x n in
    let d : times x (n ∷ []) ≡ (if n == x then 1 else 0) + 0 = refl in
    omega arith)
    (let e = length-append v.drawn (n ∷ []) in omega arith) (serial_moved groups id (n + 1) v w s at refl kept.raised) in (
      w,
      keeps,
      tt,
      subst (λ k. Kept groups all record { words = set s.words 0 k; homes = s.homes; views = set s.views id w }) (sym wraps) kept',
      (refl, mine.seen, omega arith, view_differs groups all id w record { words = set s.words 0 (n + 1); homes = s.homes; views = set s.views id w } kept' (set_here s.views id w (is_there s.views id v at)), (λ e. whole_drew groups all id v s kept at (e ∙ whole_is))),
    )

-- the same number behind one more
the_group : (g h : ℕ) → 1 + g ≡ 1 + h → g ≡ h
the_group g h e = omega arith

-- a word of a group was seen, and has perhaps grown
pub sighted : (groups all id g n : ℕ) (v : View) (s : State (Unit {0}) View) → g < groups → 0 < v.parts → Kept groups all s → get_elem? s.views id ≡ some v
    → get_or s.words (1 + g) 0 ≤ n
    → Kept groups all record { words = set s.words (1 + g) n; homes = s.homes; views = set s.views id (record v { sights = v.sights ++ sight_of g n ∷ [] }) }
sighted groups all id g n v s within some_parts kept at more =
    let w : View = record v { sights = v.sights ++ sight_of g n ∷ [] } in
    let mine = kept.knows id v at in
    let size = kept.size in
    let full = kept.room in
    let is : get_or (set s.words (1 + g) n) (1 + g) 0 ≡ n = here s.words (1 + g) n (omega arith) in
    let first = first_stays s.words g n in
    let knows : Knows (set s.words (1 + g) n) w = record {
      light = mine.light;
      spare = (λ none. absurd (omega arith));
      seen = (let a = mine.seen in omega arith);
      sights = All-push (Stays (set s.words (1 + g) n)) v.sights (sight_of g n)
          (All-weaker (Stays s.words) (Stays (set s.words (1 + g) n)) (λ t h. let a = up s.words (1 + g) n more (1 + t.group) in omega arith) v.sights mine.sights)
          (omega arith);
    } in
    let weights = total_set weight s.views id v w at in
    moved groups all id (1 + g) n v w s kept at more (omega arith) refl knows (λ x. let a : once_below x (get_or s.words 0 0) ≡ once_below x (get_or (set s.words (1 + g) n) 0 0) = ap (once_below x) (sym first) in omega arith)
    (omega arith)
    (λ h less. dite (ℕ_discrete h g)
    (λ e. subst (λ k. IsRaised k (get_or (set s.words (1 + g) n) (1 + k) 0) (set s.views id w)) (sym e)
    (inr (id, w, set_here s.views id w (is_there s.views id v at), (let a = greatest_append g v.sights (sight_of g n ∷ []) in let b = newest g n in omega arith))))
    (λ differ. stays_raised h (get_or s.words (1 + h) 0) (get_or (set s.words (1 + g) n) (1 + h) 0) id v w s.views at
    (elsewhere s.words (1 + g) n (1 + h) (λ e. differ (the_group h g e)))
    (let a = greatest_append h v.sights (sight_of g n ∷ []) in omega arith)
    (kept.raised h less)))

pub looks : (groups all whole count id g : ℕ) (me : MeOf) (st : Step (Unit {0})) → whole ≡ all → g < groups → 0 < me.0.parts → st.word ≡ 1 + g
    → Allows (Kept groups all) count id me (1 + g) (λ n. n) (Looks whole st me)
looks groups all whole count id g me st whole_is within some_parts word s kept slots at small =
    let v = me.0 in
    let n = get_or s.words (1 + g) 0 in (
      record v { sights = v.sights ++ sight_of g n ∷ [] },
      keeps,
      tt,
      sighted groups all id g n v s within some_parts kept at (omega arith),
      (λ h e. subst (λ k. ◌≡◌ {A = MeOf} (record v { sights = v.sights ++ sight_of g n ∷ [] }, me.1) (record v { sights = v.sights ++ sight_of k n ∷ [] }, me.1) × Finds whole k n v)
          (the_group g h (sym word ∙ e)) (refl, (at_most_word s.words g v.sights (kept.knows id v at).sights, (λ e. whole_saw groups all id g v s within kept at (e ∙ whole_is))))),
    )

pub raises : (groups all whole count id g : ℕ) (me : MeOf) (st : Step (Unit {0})) → whole ≡ all → g < groups → 0 < me.0.parts → st.word ≡ 1 + g
    → Allows (Kept groups all) count id me (1 + g) (λ n. max n st.first) (Raises whole st me)
raises groups all whole count id g me st whole_is within some_parts word s kept slots at small =
    let v = me.0 in
    let n = get_or s.words (1 + g) 0 in (
      record v { sights = v.sights ++ sight_of g (max n st.first) ∷ [] },
      keeps,
      tt,
      sighted groups all id g (max n st.first) v s within some_parts kept at (omega arith),
      (λ h e. subst (λ k. ◌≡◌ {A = MeOf} (record v { sights = v.sights ++ sight_of g (max n st.first) ∷ [] }, me.1) (record v { sights = v.sights ++ sight_of k (max n st.first) ∷ [] }, me.1) × Finds whole k n v)
          (the_group g h (sym word ∙ e)) (refl, (at_most_word s.words g v.sights (kept.knows id v at).sights, (λ e. whole_saw groups all id g v s within kept at (e ∙ whole_is))))),
    )

pub compares : (groups all count id : ℕ) (me : MeOf) (st : Step (Unit {0}))
    → Allows (Kept groups all) count id me 0 (λ n. n) (Compares st me)
compares groups all count id me st s kept slots at small =
    let v = me.0 in
    let n = get_or s.words 0 0 in
    let size = kept.size in
    let full = kept.room in
    let is : get_or (set s.words 0 n) 0 0 ≡ n = here s.words 0 n (omega arith) in
    let weights = total_set weight s.views id v v at in (
      v,
      keeps,
      tt,
      moved groups all id 0 n v v s kept at (omega arith) (omega arith) refl (grow s.words (set s.words 0 n) (up s.words 0 n (omega arith)) v (kept.knows id v at))
          (λ x. let a : once_below x (get_or s.words 0 0) ≡ once_below x (get_or (set s.words 0 n) 0 0) = ap (once_below x) (sym is) in omega arith)
          (omega arith) (serial_moved groups id n v v s at refl kept.raised),
      (refl, view_differs groups all id v s kept at),
    )

-- a seat is cut in two
pub splits : (groups all id n : ℕ) (v : View) → v.flying ≡ false → 0 < n → n < v.parts
    → Splits (Kept groups all) id v (record v { parts = v.parts - n }) (record v { parts = n; drawn = [] })
splits groups all id n v still some_parts fewer s kept at =
    let left : View = record v { parts = v.parts - n } in
    let right : View = record v { parts = n; drawn = [] } in
    let light : weight v ≡ 0 = ap counted still in
    let shares = total_set (λ (u : View). u.parts) s.views id v left at in
    let weights = total_set weight s.views id v left at in
    let more = total_append (λ (u : View). u.parts) (set s.views id left) (right ∷ []) in
    let more' = total_append weight (set s.views id left) (right ∷ []) in
    let mine = kept.knows id v at in
    let full = kept.room in
    let whole = kept.parts in
    record {
      few = kept.few;
      size = kept.size;
      room = omega arith;
      parts = omega arith;
      knows = (λ by u found. ⊎_elim
          (λ old. ⊎_elim (λ h. subst (Knows s.words) h.1 record { light = omega arith; spare = (λ none. absurd (omega arith)); seen = mine.seen; sights = mine.sights }) (λ h. kept.knows by u h.1) (at_set s.views id by left u old))
          (λ new. subst (Knows s.words) new record { light = omega arith; spare = (λ none. absurd (omega arith)); seen = mine.seen; sights = mine.sights })
          (at_snoc (set s.views id left) right u by found));
      once = (λ x.
          let a = total_set (λ (u : View). times x u.drawn) s.views id v left at in
          let b = total_append (λ (u : View). times x u.drawn) (set s.views id left) (right ∷ []) in
          let c = kept.once x in
          omega arith);
      all_drawn = (
          let a = total_set (λ (u : View). length u.drawn) s.views id v left at in
          let b = total_append (λ (u : View). length u.drawn) (set s.views id left) (right ∷ []) in
          let c = kept.all_drawn in
          omega arith);
      raised = (λ g within. ⊎_elim
          (λ none. inl none)
          (λ h. inr (h.0, h.1, at_longer (set s.views id left) (right ∷ []) h.0 h.1 h.2, h.3))
          (stays_raised g (get_or s.words (1 + g) 0) (get_or s.words (1 + g) 0) id v left s.views at refl (omega arith) (kept.raised g within)));
    }

abbrev joined : View → View → View
joined v w = record v { parts = v.parts + w.parts; drawn = v.drawn ++ w.drawn; seen = max v.seen w.seen; sights = v.sights ++ w.sights }

abbrev spent : View
spent = record { parts = 0; flying = false; drawn = []; seen = 0; sights = [] }

-- a seat takes in another
pub joins : (groups all id other : ℕ) (v w : View) → v.flying ≡ false → w.flying ≡ false → Joins (Kept groups all) id v other w (joined v w) spent
joins groups all id other v w still still' s kept at differ at' =
    let both = joined v w in
    let light : weight v ≡ 0 = ap counted still in
    let light' : weight w ≡ 0 = ap counted still' in
    let shares = total_set (λ (u : View). u.parts) s.views id v both at in
    let shares' = total_set (λ (u : View). u.parts) (set s.views id both) other w spent at' in
    let weights = total_set weight s.views id v both at in
    let weights' = total_set weight (set s.views id both) other w spent at' in
    let there' : get_elem? s.views other ≡ some w = sym (set_else s.views id other both differ) ∙ at' in
    let mine = kept.knows id v at in
    let theirs = kept.knows other w there' in
    let full = kept.room in
    let whole = kept.parts in
    let saw = mine.seen in
    let saw' = theirs.seen in
    let bare : both.parts ≡ 0 → (both.drawn ≡ []) × (both.sights ≡ []) = (λ none.
    let a = mine.spare (omega arith) in
    let b = theirs.spare (omega arith) in
    (ap (λ (ns : List ℕ). ns ++ w.drawn) a.0 ∙ b.0, ap (λ (ss : List Sight). ss ++ w.sights) a.1 ∙ b.1)) in
    let here : get_elem? (set (set s.views id both) other spent) id ≡ some both =
    set_else (set s.views id both) other id spent (λ e. differ (sym e)) ∙ set_here s.views id both (is_there s.views id v at) in
    record {
      few = kept.few;
      size = kept.size;
      room = omega arith;
      parts = omega arith;
      knows = (λ by u found. ⊎_elim
          (λ h. subst (Knows s.words) h.1 record { light = omega arith; spare = (λ none. (refl, refl)); seen = omega arith; sights = All-nil (Stays s.words) })
          (λ h. ⊎_elim
          (λ g. subst (Knows s.words) g.1 record { light = omega arith; spare = bare; seen = omega arith; sights = All-append (Stays s.words) v.sights w.sights mine.sights theirs.sights })
          (λ g. kept.knows by u g.1)
          (at_set s.views id by both u h.1))
          (at_set (set s.views id both) other by spent u found));
      once = (λ x.
          let a = total_set (λ (u : View). times x u.drawn) s.views id v both at in
          let b = total_set (λ (u : View). times x u.drawn) (set s.views id both) other w spent at' in
          let c = kept.once x in
          let d = times_append x v.drawn w.drawn in
          omega arith);
      all_drawn = (
          let a = total_set (λ (u : View). length u.drawn) s.views id v both at in
          let b = total_set (λ (u : View). length u.drawn) (set s.views id both) other w spent at' in
          let c = kept.all_drawn in
          let d = length-append v.drawn w.drawn in
          omega arith);
      raised = (λ g within. ⊎_elim
          (λ none. inl none)
          (λ h.
          let more = greatest_append g v.sights w.sights in
          let b = h.3 in
          dite (ℕ_discrete h.0 id)
          (λ e.
          let a : greatest g h.1.sights ≡ greatest g v.sights = ap (λ (u : View). greatest g u.sights) (some-injective h.1 v (sym h.2 ∙ ap (get_elem? s.views) e ∙ at)) in
          inr (id, both, here, omega arith))
          (λ ne. dite (ℕ_discrete h.0 other)
          (λ e.
          let a : greatest g h.1.sights ≡ greatest g w.sights = ap (λ (u : View). greatest g u.sights) (some-injective h.1 w (sym h.2 ∙ ap (get_elem? s.views) e ∙ there')) in
          inr (id, both, here, omega arith))
          (λ ne'. inr (h.0, h.1, set_else (set s.views id both) other h.0 spent ne' ∙ set_else s.views id h.0 both ne ∙ h.2, h.3))))
          (kept.raised g within));
    }

-- new words
pub starts : (groups all : ℕ) (words : List ℕ) → all < 2 ^ 32 → words ≡ replicate (1 + groups) 0
    → Kept groups all (opening words [] record { parts = all; flying = false; drawn = []; seen = 0; sights = [] })
starts groups all words small zeros =
    let size : length words ≡ 1 + groups = ap (λ (ws : List ℕ). length ws) zeros ∙ length-replicate (1 + groups) 0 in
    let zero_first : get_or words 0 0 ≡ 0 = ap (λ (ws : List ℕ). get_or ws 0 0) zeros ∙ get_or-replicate (1 + groups) 0 0 0 (omega arith) in
    let first : View = record { parts = all; flying = false; drawn = []; seen = 0; sights = [] } in
    let only : (by : ℕ) (u : View) → get_elem? (first ∷ []) by ≡ some u → first ≡ u = alone first in
    record {
      few = small;
      size = size;
      room = omega arith;
      parts = omega arith;
      knows = (λ by u there. subst (Knows words) (only by u there) record { light = omega arith; spare = (λ none. (refl, refl)); seen = omega arith; sights = All-nil (Stays words) });
      once = (λ x. omega arith);
      all_drawn = sym zero_first;
      raised = (λ g within. inl (ap (λ (ws : List ℕ). get_or ws (1 + g) 0) zeros ∙ get_or-replicate (1 + groups) (1 + g) 0 0 (omega arith)));
    }
  where
    alone : (v : View) (by : ℕ) (u : View) → get_elem? (v ∷ []) by ≡ some u → v ≡ u
    alone v zero u e = some-injective v u e
    alone v (suc by) u e = absurd (some-ne-none u (sym e))
