-- The list of an expiry among the lists, and the items before and after its own.
use Rattle.std.proofs.Common.{◌≡◌, ℕ, Bool, true, false, cond, List, [], ◌∷◌, ◌++◌, Some, None, refl, sym, ap, subst, ◌∙◌, append_assoc, ◌⊎◌, inl, inr, ⊎_elim, true≢false, arith}
use mathlib.Core.List.{map-append}
use denote.RawPtr.{Ptr}
use Rattle.std.specs.Map.{lookup, set_value, remove_entry, keys_of}
use Rattle.std.specs.List.{AllByRecursion}
use Rattle.std.specs.List.Sorted.{IsStrictlySortedBy}
use Rattle.std.specs.Ordering.{nat_cmp, is_eq}
use Rattle.std.specs.declared.cmp.Ordering.{Ordering}
use Rattle.std.specs.declared.cmp.Ordering.TheVariants.{Less, Equal, Greater}
use Rattle.std.proofs.lemmas.Map.Keys.{sorted_head, sorted_tail}
use Rattle.std.proofs.lemmas.Bool.Decides.{nat_tests}
use Rattle.std.proofs.lemmas.Map.Lookups.{exact_unsigned}
use Rattle.lease_list.specs.Leases.{Lease, LeaseListValue, lease, Leaves}
use Rattle.lease_wheel.specs.declared.wheel.WheelItem.{WheelItem}
use Rattle.lease_wheel.specs.Leased.{Leased}
use Rattle.lease_wheel.specs.Lists.{leased_at, leased_of, leased_in, is_filled, IsSound, AreSound, at}
use Rattle.lease_wheel.specs.Wheels.{placed, HasItemAt, LeavesPlace}

abbrev pub Items : Type 0
Items = LeaseListValue WheelItem

abbrev pub Lists : Type 0
Lists = List (ℕ × Items)

equal_from_is_eq : (o : Ordering) → is_eq o ≡ true → o ≡ Equal
equal_from_is_eq Less h = absurd (true≢false (sym h))
equal_from_is_eq Equal h = refl
equal_from_is_eq Greater h = absurd (true≢false (sym h))

pub at_is : (e k : ℕ) → at e k ≡ true → e ≡ k
at_is e k here = exact_unsigned e k (equal_from_is_eq (nat_cmp e k) here)

-- what the items are when the list of an expiry is written, and when it is then taken away
pub record Found (e : ℕ) (es : Lists) (l : Items) : Type 0 where
  pub before : List Leased
  pub after : List Leased
  pub old : leased_in es ≡ before ++ (leased_of e l.nodes ++ after)
  pub set : (w : Items) → leased_in (set_value (at e) es w) ≡ before ++ (leased_of e w.nodes ++ after)
  pub left : (w : Items) → leased_in (remove_entry (at e) (set_value (at e) es w)) ≡ before ++ after

module _ (e k : ℕ) (m l : Items) (es : Lists) where
  later : Found e es l → (b : Bool) → b ≡ false → at e k ≡ b → Found e ((k, m) ∷ es) l
  later f b not is =
      let off : at e k ≡ false = is ∙ not in
      let shift : (xs ys zs : List Leased) → xs ++ (ys ++ zs) ≡ (xs ++ ys) ++ zs = λ xs ys zs. sym (append_assoc xs ys zs) in
      let own = leased_of k m.nodes in
      record {
        before = own ++ f.before;
        after = f.after;
        old = ap (λ ds. own ++ ds) f.old ∙ shift own f.before (leased_of e l.nodes ++ f.after);
        set = λ w. ap (λ y. leased_in (cond y ((k, w) ∷ es) ((k, m) ∷ set_value (at e) es w))) off ∙ ap (λ ds. own ++ ds) (f.set w) ∙ shift own f.before (leased_of e w.nodes ++ f.after);
        left = λ w.
            ap (λ y. leased_in (remove_entry (at e) (cond y ((k, w) ∷ es) ((k, m) ∷ set_value (at e) es w)))) off
            ∙ ap (λ y. leased_in (cond y (set_value (at e) es w) ((k, m) ∷ remove_entry (at e) (set_value (at e) es w)))) off
            ∙ ap (λ ds. own ++ ds) (f.left w)
            ∙ shift own f.before f.after;
      }

  here : Some m ≡ Some l → at e k ≡ true → Found e ((k, m) ∷ es) l
  here same on =
      let is : e ≡ k = at_is e k on in
      let one : m ≡ l = cc in
      record {
        before = [];
        after = leased_in es;
        old = (λ i. leased_of (sym is i) ((one i).nodes) ++ leased_in es);
        set = λ w. ap (λ y. leased_in (cond y ((k, w) ∷ es) ((k, m) ∷ set_value (at e) es w))) on ∙ ap (λ j. leased_of j w.nodes ++ leased_in es) (sym is);
        left = λ w.
            ap (λ y. leased_in (remove_entry (at e) (cond y ((k, w) ∷ es) ((k, m) ∷ set_value (at e) es w)))) on
            ∙ ap (λ y. leased_in (cond y es ((k, w) ∷ remove_entry (at e) es))) on;
      }

pub found : (e : ℕ) (es : Lists) (l : Items) → lookup (at e) es ≡ Some l → Found e es l
found e [] l is = absurd (cc)
found e (x ∷ es) l is = go (at e x.0) refl (found e es l)
  where
    go : (b : Bool) → at e x.0 ≡ b → (lookup (at e) es ≡ Some l → Found e es l) → Found e (x ∷ es) l
    go true on rest = here e x.0 x.1 l es (sym (ap (λ y. cond y (Some x.1) (lookup (at e) es)) on) ∙ is) on
    go false off rest = later e x.0 x.1 l es (rest (sym (ap (λ y. cond y (Some x.1) (lookup (at e) es)) off) ∙ is)) false refl off

-- a list that is written as it is changes nothing
pub set_same : (e : ℕ) (es : Lists) (l : Items) → lookup (at e) es ≡ Some l → set_value (at e) es l ≡ es
set_same e [] l is = refl
set_same e (x ∷ es) l is = go (at e x.0) refl (set_same e es l)
  where
    go : (b : Bool) → at e x.0 ≡ b → (lookup (at e) es ≡ Some l → set_value (at e) es l ≡ es) → set_value (at e) (x ∷ es) l ≡ x ∷ es
    go true on rest =
        let same : Some x.1 ≡ Some l = sym (ap (λ y. cond y (Some x.1) (lookup (at e) es)) on) ∙ is in
        let one : x.1 ≡ l = cc in
        ap (λ y. cond y ((x.0, l) ∷ es) (x ∷ set_value (at e) es l)) on ∙ ap (λ w. (x.0, w) ∷ es) (sym one)
    go false off rest =
        ap (λ y. cond y ((x.0, l) ∷ es) (x ∷ set_value (at e) es l)) off
        ∙ ap (λ fs. x ∷ fs) (rest (sym (ap (λ y. cond y (Some x.1) (lookup (at e) es)) off) ∙ is))

-- a list among sound ones is sound
pub sound_at : (e : ℕ) (es : Lists) (l : Items) → AreSound es → lookup (at e) es ≡ Some l → IsSound l
sound_at e [] l all is = absurd (cc)
sound_at e (x ∷ es) l all is = go (at e x.0) refl (sound_at e es l all.1)
  where
    go : (b : Bool) → at e x.0 ≡ b → (lookup (at e) es ≡ Some l → IsSound l) → IsSound l
    go true on rest =
        let same : Some x.1 ≡ Some l = sym (ap (λ y. cond y (Some x.1) (lookup (at e) es)) on) ∙ is in
        let one : x.1 ≡ l = cc in
        subst IsSound one all.0
    go false off rest = rest (sym (ap (λ y. cond y (Some x.1) (lookup (at e) es)) off) ∙ is)

-- lists that are sound stay so
pub sound_set : (e : ℕ) (es : Lists) (w : Items) → IsSound w → AreSound es → AreSound (set_value (at e) es w)
sound_set e [] w full all = tt
sound_set e (x ∷ es) w full all = go (at e x.0) (sound_set e es w full all.1)
  where
    go : (b : Bool) → AreSound (set_value (at e) es w) → AreSound (cond b ((x.0, w) ∷ es) (x ∷ set_value (at e) es w))
    go true rest = (full, all.1)
    go false rest = (all.0, rest)

pub sound_left : (e : ℕ) (es : Lists) (w : Items) → AreSound es → AreSound (remove_entry (at e) (set_value (at e) es w))
sound_left e [] w all = tt
sound_left e (x ∷ es) w all = go (at e x.0) refl (sound_left e es w all.1)
  where
    P : Lists → Type 0
    P fs = AreSound (remove_entry (at e) fs)

    go : (b : Bool) → at e x.0 ≡ b → P (set_value (at e) es w) → P (set_value (at e) (x ∷ es) w)
    go true on rest =
        subst (λ y. P (cond y ((x.0, w) ∷ es) (x ∷ set_value (at e) es w))) (sym on)
        (subst (λ y. AreSound (cond y es ((x.0, w) ∷ remove_entry (at e) es))) (sym on) all.1)
    go false off rest =
        subst (λ y. P (cond y ((x.0, w) ∷ es) (x ∷ set_value (at e) es w))) (sym off)
        (subst (λ y. AreSound (cond y (set_value (at e) es w) (x ∷ remove_entry (at e) (set_value (at e) es w)))) (sym off) (all.0, rest))

-- a list that was written before it goes leaves the others
pub remove_set : (e : ℕ) (es : Lists) (w : Items) → remove_entry (at e) (set_value (at e) es w) ≡ remove_entry (at e) es
remove_set e [] w = refl
remove_set e (x ∷ es) w = go (at e x.0) refl (remove_set e es w)
  where
    go : (b : Bool) → at e x.0 ≡ b → remove_entry (at e) (set_value (at e) es w) ≡ remove_entry (at e) es
        → remove_entry (at e) (cond b ((x.0, w) ∷ es) (x ∷ set_value (at e) es w)) ≡ cond b es (x ∷ remove_entry (at e) es)
    go true on rest = ap (λ y. cond y es ((x.0, w) ∷ remove_entry (at e) es)) on
    go false off rest = ap (λ y. cond y (set_value (at e) es w) (x ∷ remove_entry (at e) (set_value (at e) es w))) off ∙ ap (λ fs. x ∷ fs) rest

-- an element of two lists, one behind the other, stands in one of them
pub in_either : {X : Type 0} (cs bs xs : List X) (d : X) (ys : List X) → cs ++ bs ≡ xs ++ d ∷ ys
    → ((zs : List X) × (cs ≡ xs ++ d ∷ zs)) ⊎ ((zs : List X) × (bs ≡ zs ++ d ∷ ys))
in_either [] bs xs d ys is = inr (xs, is)
in_either (a ∷ cs) bs [] d ys is =
    let first : a ≡ d = cc in
    inl (cs, ap (λ x. x ∷ cs) first)
in_either (a ∷ cs) bs (x ∷ xs) d ys is =
    let first : a ≡ x = cc in
    let rest : cs ++ bs ≡ xs ++ d ∷ ys = cc in
    ⊎_elim (λ f. inl (f.0, (λ i. first i ∷ f.1 i))) (λ f. inr f) (in_either cs bs xs d ys rest)

-- an item of the list of an expiry is that of a node
pub node_of : (k : ℕ) (ns : List (Lease WheelItem)) (e n : ℕ) (p : Ptr) (item : WheelItem) (xs ys : List Leased) → leased_of k ns ≡ xs ++ placed e n p item ∷ ys
    → (k ≡ e) × (cs : List (Lease WheelItem)) × (bs : List (Lease WheelItem)) × (ns ≡ cs ++ lease n p item ∷ bs)
node_of k [] e n p item [] ys is = absurd (cc)
node_of k [] e n p item (x ∷ xs) ys is = absurd (cc)
node_of k (m ∷ ns) e n p item [] ys is =
    let same : leased_at k m ≡ placed e n p item = cc in
    (ap (λ d. d.expiry.0) same, [], ns, (λ i. lease ((same i).number) ((same i).at) ((same i).item) ∷ ns))
node_of k (m ∷ ns) e n p item (x ∷ xs) ys is =
    let rest : leased_of k ns ≡ xs ++ placed e n p item ∷ ys = cc in
    let f = node_of k ns e n p item xs ys rest in
    (f.0, m ∷ f.1, f.2, ap (λ ms. m ∷ ms) f.3)

apart : (k e : ℕ) → nat_cmp k e ≡ Less → at e k ≡ false
apart k e less = grind (arith, nat_tests)

-- an expiry that is found among lists behind another one is later
pub under : (k e : ℕ) (es : Lists) (l : Items) → AllByRecursion (λ y. nat_cmp k y ≡ Less) (keys_of es) → lookup (at e) es ≡ Some l → nat_cmp k e ≡ Less
under k e [] l all is = absurd (cc)
under k e (x ∷ es) l all is = go (at e x.0) refl (under k e es l all.1)
  where
    go : (b : Bool) → at e x.0 ≡ b → (lookup (at e) es ≡ Some l → nat_cmp k e ≡ Less) → nat_cmp k e ≡ Less
    go true on rest = subst (λ j. nat_cmp k j ≡ Less) (sym (at_is e x.0 on)) all.0
    go false off rest = rest (sym (ap (λ y. cond y (Some x.1) (lookup (at e) es)) off) ∙ is)

-- the list in which an item stands
pub record InList (es : Lists) (e n : ℕ) (p : Ptr) (item : WheelItem) : Type 0 where
  pub list : Items
  pub is : lookup (at e) es ≡ Some list
  pub before : List (Lease WheelItem)
  pub after : List (Lease WheelItem)
  pub nodes : list.nodes ≡ before ++ lease n p item ∷ after

pub at_same : (e : ℕ) → at e e ≡ true
at_same e = grind (arith, nat_tests)

pub in_list : (es : Lists) (e n : ℕ) (p : Ptr) (item : WheelItem) → IsStrictlySortedBy nat_cmp (keys_of es) → HasItemAt (leased_in es) e n p item → InList es e n p item
in_list [] e n p item sorted has = absurd (none has.0 has.2)
  where
    none : (xs : List Leased) → [] ≡ xs ++ placed e n p item ∷ has.1 → ⊥
    none [] is = cc
    none (x ∷ xs) is = cc
in_list (x ∷ es) e n p item sorted has = ⊎_elim own (λ f. other f (in_list es e n p item (sorted_tail nat_cmp x.0 (keys_of es) sorted) (f.0, has.1, f.1))) (in_either (leased_of x.0 x.1.nodes) (leased_in es) has.0 (placed e n p item) has.1 has.2)
  where
    own : (zs : List Leased) × (leased_of x.0 x.1.nodes ≡ has.0 ++ placed e n p item ∷ zs) → InList (x ∷ es) e n p item
    own f =
        let node = node_of x.0 x.1.nodes e n p item has.0 f.0 f.1 in
        record {
          list = x.1;
          is = ap (λ y. cond y (Some x.1) (lookup (at e) es)) (ap (at e) node.0 ∙ at_same e);
          before = node.1;
          after = node.2;
          nodes = node.3;
        }

    other : (zs : List Leased) × (leased_in es ≡ zs ++ placed e n p item ∷ has.1) → InList es e n p item → InList (x ∷ es) e n p item
    other f r =
        let off = apart x.0 e (under x.0 e es r.list (sorted_head nat_cmp x.0 (keys_of es) sorted) r.is) in
        record {
          list = r.list;
          is = ap (λ y. cond y (Some x.1) (lookup (at e) es)) off ∙ r.is;
          before = r.before;
          after = r.after;
          nodes = r.nodes;
        }

-- the items where a node leaves its list
pub left_without : (e n : ℕ) (p : Ptr) (item : WheelItem) (before after : List Leased) (old new : List (Lease WheelItem)) (xs ys : List (Lease WheelItem))
    → old ≡ xs ++ lease n p item ∷ ys → new ≡ xs ++ ys
    → LeavesPlace (before ++ (leased_of e old ++ after)) e n p item (before ++ (leased_of e new ++ after))
left_without e n p item before after old new xs ys was is =
    let split : leased_of e old ≡ leased_of e xs ++ placed e n p item ∷ leased_of e ys = ap (leased_of e) was ∙ map-append (leased_at e) xs (lease n p item ∷ ys) in
    let rest : leased_of e new ≡ leased_of e xs ++ leased_of e ys = ap (leased_of e) is ∙ map-append (leased_at e) xs ys in (
      before ++ leased_of e xs,
      leased_of e ys ++ after,
      ap (λ ds. before ++ (ds ++ after)) split ∙ ap (λ ds. before ++ ds) (append_assoc (leased_of e xs) (placed e n p item ∷ leased_of e ys) after) ∙ sym (append_assoc before (leased_of e xs) (placed e n p item ∷ (leased_of e ys ++ after))),
      ap (λ ds. before ++ (ds ++ after)) rest ∙ ap (λ ds. before ++ ds) (append_assoc (leased_of e xs) (leased_of e ys) after) ∙ sym (append_assoc before (leased_of e xs) (leased_of e ys ++ after)),
    )

pub some_same : {X : Type 0} (x y : X) → Some x ≡ Some y → x ≡ y
some_same x y is = cc

-- an item leaves, where its list is written without its node, and goes with it
module _ (e n : ℕ) (p : Ptr) (item : WheelItem) (es : Lists) (l w : Items) (here : lookup (at e) es ≡ Some l) (left : Leaves l.nodes n p item w.nodes) where
  pub unlinked : (new : Lists) → new ≡ set_value (at e) es w → LeavesPlace (leased_in es) e n p item (leased_in new)
  unlinked new set =
      let f = found e es l here in
      let r = left_without e n p item f.before f.after l.nodes w.nodes left.0 left.1 left.2 left.3 in
      (r.0, r.1, f.old ∙ r.2, ap leased_in set ∙ f.set w ∙ r.3)

  pub unlinked_out : (mid new : Lists) → mid ≡ set_value (at e) es w → new ≡ remove_entry (at e) mid → w.nodes ≡ [] → LeavesPlace (leased_in es) e n p item (leased_in new)
  unlinked_out mid new set gone none =
      let f = found e es l here in
      let r = left_without e n p item f.before f.after l.nodes w.nodes left.0 left.1 left.2 left.3 in
      let empty : leased_of e w.nodes ++ f.after ≡ f.after = ap (λ ns. leased_of e ns ++ f.after) none in
      (r.0, r.1, f.old ∙ r.2, ap leased_in (gone ∙ ap (remove_entry (at e)) set) ∙ f.left w ∙ ap (λ ds. f.before ++ ds) (sym empty) ∙ r.3)

pub none_some : {X : Type 0} (x : X) → None ≡ Some x → ⊥
none_some x is = cc

pub not_empty : true ≡ false → ⊥
not_empty is = cc

pub filled_from : (ns : List (Lease WheelItem)) → (ns ≡ [] → ⊥) → is_filled ns ≡ true
filled_from [] some = absurd (some refl)
filled_from (n ∷ ns) some = refl
