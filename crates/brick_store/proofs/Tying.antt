-- The pairs of a map and the items of a wheel, when a lease is put or taken out.
use Rattle.std.proofs.Common.{◌≡◌, ℕ, Bool, true, false, cond, ◌==◌, ◌&&◌, ◌||◌, nat_lt, List, [], ◌∷◌, ◌++◌, Some, None, refl, sym, ap, subst, ◌∙◌, ◌⊎◌, inl, inr, ⊎_elim, arith}
use Rattle.std.specs.List.{AllByRecursion}
use Rattle.std.proofs.lemmas.Bool.Decides.{nat_tests}
use Rattle.std.proofs.lemmas.Cmp.{tied_itself}
use Rattle.std.specs.Ordering.{is_eq}
use Rattle.std.specs.BTreeMap.{BTreeMap, Updates}
use Rattle.std.specs.declared.cmp.Ordering.{Ordering}
use Rattle.std.specs.declared.cmp.Ordering.TheVariants.{Less, Equal, Greater}
use Rattle.lease_wheel.specs.declared.wheel.WheelItem.{WheelItem}
use Rattle.lease_wheel.specs.declared.wheel.WheelNode.{WheelNode}
use Rattle.lease_wheel.specs.Leased.{Leased}
use Rattle.lease_wheel.specs.Wheels.{named, with_leased, is_before, AreInOrder, Leaves, Stands}
use Rattle.lease_wheel.proofs.Adding.{added}
use Rattle.brick_store.specs.declared.kept_map.Pair.{Pair}
use Rattle.brick_store.specs.declared.kept_map.Lease.{Lease}
use Rattle.brick_store.specs.Pairs.{kept_at}
use Rattle.brick_store.specs.Tied.{pair_order, is_pair, value_at, item_of, pair_at, leased_by, Has, AreTied}
use Rattle.brick_store.proofs.KeptOrder.{pair_exact, kept_total}

abbrev pub Entries : Type 0
Entries = List (Pair × Lease)

-- ---- pairs

equal_from_is_eq : (o : Ordering) → is_eq o ≡ true → o ≡ Equal
equal_from_is_eq Less h = cc
equal_from_is_eq Equal h = refl
equal_from_is_eq Greater h = cc

pub pair_is : (p q : Pair) → is_pair p q ≡ true → p ≡ q
pair_is p q here = pair_exact p q (equal_from_is_eq (pair_order p q) here)

pub pair_itself : (p : Pair) (lease : Lease) → is_pair p p ≡ true
pair_itself p lease = ap is_eq (tied_itself kept_total (kept_at (p, lease)))

some_same : {X : Type 0} (x y : X) → Some x ≡ Some y → x ≡ y
some_same x y is = cc

none_some : {X : Type 0} (x : X) → None ≡ Some x → ⊥
none_some x is = cc

true_false : true ≡ false → ⊥
true_false is = cc

-- ---- elements of lists

module _ {X : Type 0} where
  first_same : (x y : X) (xs ys : List X) → x ∷ xs ≡ y ∷ ys → x ≡ y
  first_same x y xs ys is = cc

  rest_same : (x y : X) (xs ys : List X) → x ∷ xs ≡ y ∷ ys → xs ≡ ys
  rest_same x y xs ys is = cc

  -- an element of a list with one more is that one, or one of the others
  other_at : (xs : List X) (c : X) (ys : List X) (d : X) (us vs : List X) → xs ++ c ∷ ys ≡ us ++ d ∷ vs → (d ≡ c) ⊎ Has (xs ++ ys) d
  other_at [] c ys d [] vs is = inl (sym (first_same c d ys vs is))
  other_at [] c ys d (u ∷ us) vs is = inr (us, vs, rest_same c u ys (us ++ d ∷ vs) is)
  other_at (x ∷ xs) c ys d [] vs is = inr ([], xs ++ ys, ap (λ z. z ∷ (xs ++ ys)) (first_same x d (xs ++ c ∷ ys) vs is))
  other_at (x ∷ xs) c ys d (u ∷ us) vs is =
      ⊎_elim (λ same. inl same) (λ has. inr (x ∷ has.0, has.1, ap (λ zs. x ∷ zs) has.2)) (other_at xs c ys d us vs (rest_same x u (xs ++ c ∷ ys) (us ++ d ∷ vs) is))

  has_other : (xs : List X) (c : X) (ys : List X) (d : X) → Has (xs ++ c ∷ ys) d → (d ≡ c) ⊎ Has (xs ++ ys) d
  has_other xs c ys d has = other_at xs c ys d has.0 has.1 has.2

  more_at : (xs : List X) (c : X) (ys : List X) (d : X) (us vs : List X) → xs ++ ys ≡ us ++ d ∷ vs → Has (xs ++ c ∷ ys) d
  more_at [] c ys d us vs is = (c ∷ us, vs, ap (λ zs. c ∷ zs) is)
  more_at (x ∷ xs) c ys d [] vs is = ([], xs ++ c ∷ ys, ap (λ z. z ∷ (xs ++ c ∷ ys)) (first_same x d (xs ++ ys) vs is))
  more_at (x ∷ xs) c ys d (u ∷ us) vs is =
      let r = more_at xs c ys d us vs (rest_same x u (xs ++ ys) (us ++ d ∷ vs) is) in
      (x ∷ r.0, r.1, ap (λ zs. x ∷ zs) r.2)

  has_more : (xs : List X) (c : X) (ys : List X) (d : X) → Has (xs ++ ys) d → Has (xs ++ c ∷ ys) d
  has_more xs c ys d has = more_at xs c ys d has.0 has.1 has.2

  pub no_element : (d : X) → Has [] d → ⊥
  no_element d has = none has.0 has.2
    where
      none : (us : List X) → [] ≡ us ++ d ∷ has.1 → ⊥
      none [] is = cc
      none (u ∷ us) is = cc

pub all_at : {X : Type 0} (P : X → Type 0) (xs : List X) (d : X) (ys : List X) → AllByRecursion P (xs ++ d ∷ ys) → P d
all_at P [] d ys all = all.0
all_at P (x ∷ xs) d ys all = all_at P xs d ys all.1

-- ---- names of items

abbrev SameName : Leased → Leased → Type 0
SameName c d = (c.expiry.0 ≡ d.expiry.0) × (c.number ≡ d.number)

not_itself : (e n : ℕ) → (nat_lt e e || (e == e && nat_lt n n)) ≡ false
not_itself e n = grind (arith, nat_tests)

not_before : (c d : Leased) → SameName c d → is_before c d ≡ true → ⊥
not_before c d same before =
    let is : is_before c d ≡ is_before d d = λ i. nat_lt (same.0 i) d.expiry.0 || (same.0 i == d.expiry.0 && nat_lt (same.1 i) d.number) in
    true_false (sym before ∙ is ∙ not_itself d.expiry.0 d.number)

-- one item alone has a name
one_place : (bs : List Leased) (c : Leased) (cs xs : List Leased) (d : Leased) (ys : List Leased) → AreInOrder (bs ++ c ∷ cs) → bs ++ c ∷ cs ≡ xs ++ d ∷ ys → SameName c d
    → (bs ≡ xs) × (c ≡ d) × (cs ≡ ys)
one_place [] c cs [] d ys ordered is same = (refl, first_same c d cs ys is, rest_same c d cs ys is)
one_place [] c cs (x ∷ xs) d ys ordered is same =
    let rest = rest_same c x cs (xs ++ d ∷ ys) is in
    absurd (not_before c d same (all_at (λ y. is_before c y ≡ true) xs d ys (subst (λ zs. AllByRecursion (λ y. is_before c y ≡ true) zs) rest ordered.0)))
one_place (b ∷ bs) c cs [] d ys ordered is same =
    let first = first_same b d (bs ++ c ∷ cs) ys is in
    absurd (not_before d c (sym same.0, sym same.1) (subst (λ y. is_before y c ≡ true) first (all_at (λ y. is_before b y ≡ true) bs c cs ordered.0)))
one_place (b ∷ bs) c cs (x ∷ xs) d ys ordered is same =
    let first = first_same b x (bs ++ c ∷ cs) (xs ++ d ∷ ys) is in
    let r = one_place bs c cs xs d ys ordered.1 (rest_same b x (bs ++ c ∷ cs) (xs ++ d ∷ ys) is) same in
    ((λ i. first i ∷ r.0 i), r.1, r.2)

-- no item stands twice
twice_at : (xs : List Leased) (c : Leased) (ys us vs : List Leased) → AreInOrder (xs ++ c ∷ ys) → xs ++ ys ≡ us ++ c ∷ vs → ⊥
twice_at [] c ys us vs ordered is = not_before c c (refl, refl) (all_at (λ y. is_before c y ≡ true) us c vs (subst (λ zs. AllByRecursion (λ y. is_before c y ≡ true) zs) is ordered.0))
twice_at (x ∷ xs) c ys [] vs ordered is =
    let first = first_same x c (xs ++ ys) vs is in
    not_before c c (refl, refl) (subst (λ y. is_before y c ≡ true) first (all_at (λ y. is_before x y ≡ true) xs c ys ordered.0))
twice_at (x ∷ xs) c ys (u ∷ us) vs ordered is = twice_at xs c ys us vs ordered.1 (rest_same x u (xs ++ ys) (us ++ c ∷ vs) is)

not_twice : (xs : List Leased) (c : Leased) (ys : List Leased) → AreInOrder (xs ++ c ∷ ys) → Has (xs ++ ys) c → ⊥
not_twice xs c ys ordered has = twice_at xs c ys has.0 has.1 ordered has.2

-- ---- the calls

-- what stands on the wheel stands there still where an item is added
pub stands_still : (node : WheelNode) (item : WheelItem) (c : Leased) (ds mid : List Leased) → mid ≡ with_leased c ds → Has ds (named node item) → Stands mid node
stands_still node item c ds mid is has =
    let a = added c ds in
    let r = has_more a.before c a.after (named node item) (subst (λ zs. Has zs (named node item)) a.old has) in
    (item, (r.0, r.1, is ∙ a.new ∙ r.2))

-- what follows where it is this pair, and where it is another
by_pair : {Y : Type 0} (p q : Pair) → (is_pair p q ≡ true → Y) → (is_pair p q ≡ false → Y) → Y
by_pair {Y = Y} p q same other = go (is_pair p q) refl
  where
    go : (b : Bool) → is_pair p q ≡ b → Y
    go true on = same on
    go false off = other off

-- the lease of an item
abbrev Backed : Entries → Leased → Type 0
Backed es d = (l : Lease) × (value_at (pair_at d.item) es ≡ Some l) × (leased_by (pair_at d.item, l) ≡ d)

-- a lease is put at a pair, and its item on the wheel
pub record IsPut (es fs : Entries) (ds mid : List Leased) (p : Pair) (lease : Lease) : Type 0 where
  pub set : (q : Pair) → value_at q fs ≡ cond (is_pair p q) (Some lease) (value_at q es)
  pub here : value_at p fs ≡ Some lease
  pub is : mid ≡ with_leased (leased_by (p, lease)) ds

-- what a wheel and a map say of a lease that is put
pub is_put : (m n : BTreeMap Pair Lease) (ds mid : List Leased) (p q : Pair) (lease : Lease) → Updates pair_order m n p (Some lease) → p ≡ q → mid ≡ with_leased (named lease.node (item_of q)) ds
    → IsPut m.entries n.entries ds mid p lease
is_put m n ds mid p q lease updates pair is = record {
  set = updates.0;
  here = updates.1;
  is = is ∙ ap (λ r. with_leased (named lease.node (item_of r)) ds) (sym pair);
}

module _ (es fs : Entries) (ds mid : List Leased) (p : Pair) (lease : Lease) (put : IsPut es fs ds mid p lease) where
  abbrev c : Leased
  c = leased_by (p, lease)

  -- what stood on the wheel stands on it still
  stays : (d : Leased) → Has ds d → Has mid d
  stays d has = let a = added c ds in subst (λ zs. Has zs d) (sym (put.is ∙ a.new)) (has_more a.before c a.after d (subst (λ zs. Has zs d) a.old has))

  new_stands : Has mid c
  new_stands = let a = added c ds in (a.before, a.after, put.is ∙ a.new)

  either : (d : Leased) → Has mid d → (d ≡ c) ⊎ Has ds d
  either d has =
      let a = added c ds in
      ⊎_elim (λ same. inl same) (λ r. inr (subst (λ zs. Has zs d) (sym a.old) r)) (has_other a.before c a.after d (subst (λ zs. Has zs d) (put.is ∙ a.new) has))

  backs_new : (d : Leased) → d ≡ c → Backed fs d
  backs_new d same = subst (Backed fs) (sym same) (lease, put.here, refl)

  -- the lease at the pair is the new one
  own : (q : Pair) (l : Lease) → value_at q fs ≡ Some l → is_pair p q ≡ true → c ≡ leased_by (q, l)
  own q l found on =
      let same = some_same lease l (sym (put.set q ∙ ap (λ y. cond y (Some lease) (value_at q es)) on) ∙ found) in
      λ i. leased_by (pair_is p q on i, same i)

  was : (q : Pair) → is_pair p q ≡ false → value_at q fs ≡ value_at q es
  was q off = put.set q ∙ ap (λ y. cond y (Some lease) (value_at q es)) off

  backs_old : (tied : AreTied es ds) (d : Leased) → Has ds d → (is_pair p (pair_at d.item) ≡ true → Backed fs d) → Backed fs d
  backs_old tied d has on_it =
      let r = tied.back d has in
      by_pair p (pair_at d.item) on_it (λ off. (r.0, was (pair_at d.item) off ∙ r.1, r.2))

  -- where the pair had no lease
  pub tied_new : AreTied es ds → value_at p es ≡ None → AreTied fs mid
  tied_new tied none = record {
    there = λ q l found. by_pair p q (λ on. subst (Has mid) (own q l found on) new_stands) (λ off. stays (leased_by (q, l)) (tied.there q l (sym (was q off) ∙ found)));
    back = λ d has. ⊎_elim (backs_new d) (λ stood. backs_old tied d stood (λ on.
        let r = tied.back d stood in absurd (none_some r.0 (sym none ∙ ap (λ q. value_at q es) (pair_is p (pair_at d.item) on) ∙ r.1)))) (either d has);
  }

  -- where the pair had a lease, which then leaves the wheel
  module _ (tied : AreTied es ds) (old : Lease) (had : value_at p es ≡ Some old) (ordered : AreInOrder mid) where
    abbrev o : Leased
    o = leased_by (p, old)

    old_stands : Has mid o
    old_stands = stays o (tied.there p old had)

    pub stands_old : Stands mid old.node
    stands_old = let r = old_stands in (item_of p, (r.0, r.1, r.2))

    module _ (item : WheelItem) (new : List Leased) (left : Leaves mid old.node item new) where
      -- what leaves is the old lease's item
      goes : named old.node item ≡ o
      goes = (one_place left.0 (named old.node item) left.1 old_stands.0 o old_stands.1 (subst AreInOrder left.2 ordered) (sym left.2 ∙ old_stands.2) (refl, refl)).1

      mid_is : mid ≡ left.0 ++ o ∷ left.1
      mid_is = left.2 ∙ ap (λ x. left.0 ++ x ∷ left.1) goes

      gone : Has new o → ⊥
      gone has = not_twice left.0 o left.1 (subst AreInOrder mid_is ordered) (subst (λ zs. Has zs o) left.3 has)

      others : (d : Leased) → Has mid d → (d ≡ o) ⊎ Has new d
      others d has = ⊎_elim (λ same. inl same) (λ r. inr (subst (λ zs. Has zs d) (sym left.3) r)) (has_other left.0 o left.1 d (subst (λ zs. Has zs d) mid_is has))

      back_in : (d : Leased) → Has new d → Has mid d
      back_in d has = subst (λ zs. Has zs d) (sym mid_is) (has_more left.0 o left.1 d (subst (λ zs. Has zs d) left.3 has))

      -- the new item is not the old one
      new_other : c ≡ o → ⊥
      new_other same =
          let a = added c ds in
          not_twice a.before c a.after (subst AreInOrder (put.is ∙ a.new) ordered) (subst (λ zs. Has zs c) a.old (subst (Has ds) (sym same) (tied.there p old had)))

      new_left : Has new c
      new_left = ⊎_elim (λ same. absurd (new_other same)) (λ has. has) (others c new_stands)

      old_left : (q : Pair) (l : Lease) → is_pair p q ≡ false → Has mid (leased_by (q, l)) → Has new (leased_by (q, l))
      old_left q l off has = ⊎_elim (λ same.
          let one : p ≡ q = ap (λ d. pair_at d.item) (sym same) in
          absurd (true_false (sym (pair_itself p lease) ∙ ap (is_pair p) one ∙ off))) (λ r. r) (others (leased_by (q, l)) has)

      pub tied_replaced : AreTied fs new
      tied_replaced = record {
        there = λ q l found. by_pair p q (λ on. subst (Has new) (own q l found on) new_left) (λ off. old_left q l off (stays (leased_by (q, l)) (tied.there q l (sym (was q off) ∙ found))));
        back = λ d has. ⊎_elim (backs_new d) (λ stood. backs_old tied d stood (λ on.
            let r = tied.back d stood in
            let one : p ≡ pair_at d.item = pair_is p (pair_at d.item) on in
            let same : old ≡ r.0 = some_same old r.0 (sym had ∙ ap (λ q. value_at q es) one ∙ r.1) in
            let is : o ≡ d = (λ i. leased_by (one i, same i)) ∙ r.2 in
            absurd (gone (subst (Has new) (sym is) has)))) (either d (back_in d has));
      }

-- where there is no lease, nothing is on the wheel
pub tied_none : AreTied [] []
tied_none = record { there = λ p lease found. absurd (none_some lease found); back = λ d has. absurd (no_element d has) }

-- the first item of the wheel goes, and its lease
module _ (es fs : Entries) (d : Leased) (ds : List Leased) (tied : AreTied es (d ∷ ds)) (ordered : AreInOrder (d ∷ ds)) where
  pub first_lease : Backed es d
  first_lease = tied.back d ([], ds, refl)

  pub tied_popped : ((q : Pair) → value_at q fs ≡ cond (is_pair (pair_at d.item) q) None (value_at q es)) → AreTied fs ds
  tied_popped set = record {
    there = λ q l found. by_pair (pair_at d.item) q
        (λ on. absurd (none_some l (sym (set q ∙ ap (λ y. cond y None (value_at q es)) on) ∙ found)))
        (λ off.
        let was : value_at q fs ≡ value_at q es = set q ∙ ap (λ y. cond y None (value_at q es)) off in
        ⊎_elim (λ same.
        let one : pair_at d.item ≡ q = ap (λ x. pair_at x.item) (sym same) in
        absurd (true_false (sym (pair_itself (pair_at d.item) l) ∙ ap (is_pair (pair_at d.item)) one ∙ off))) (λ r. r) (has_other [] d ds (leased_by (q, l)) (tied.there q l (sym was ∙ found))));
    back = λ x has.
        let r = tied.back x (has_more [] d ds x has) in
        by_pair (pair_at d.item) (pair_at x.item)
        (λ on.
        let one : pair_at d.item ≡ pair_at x.item = pair_is (pair_at d.item) (pair_at x.item) on in
        let f = first_lease in
        let same : f.0 ≡ r.0 = some_same f.0 r.0 (sym f.1 ∙ ap (λ q. value_at q es) one ∙ r.1) in
        let is : d ≡ x = sym f.2 ∙ (λ i. leased_by (one i, same i)) ∙ r.2 in
        absurd (not_twice [] d ds ordered (subst (Has ds) (sym is) has)))
        (λ off. (r.0, set (pair_at x.item) ∙ ap (λ y. cond y None (value_at (pair_at x.item) es)) off ∙ r.1, r.2));
  }
