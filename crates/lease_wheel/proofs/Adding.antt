-- The items where one is added.
use Rattle.std.proofs.Common.{◌≡◌, ℕ, Bool, true, false, cond, List, [], ◌∷◌, ◌++◌, Some, None, refl, sym, ap, subst, ◌∙◌, append_assoc, nat_lt, arith}
use mathlib.Core.List.{map-append}
use Rattle.std.specs.Map.{lookup, set_value, keys_of}
use Rattle.std.specs.List.{AllByRecursion}
use Rattle.std.specs.List.Sorted.{IsStrictlySortedBy}
use Rattle.std.specs.Ordering.{nat_cmp, is_eq, match_ordering}
use Rattle.std.specs.BTreeMap.{insert_entry}
use Rattle.std.specs.declared.cmp.Ordering.{Ordering}
use Rattle.std.specs.declared.cmp.Ordering.TheVariants.{Less, Equal, Greater}
use Rattle.std.proofs.lemmas.Map.Keys.{sorted_head, sorted_tail}
use Rattle.std.proofs.lemmas.Bool.Decides.{nat_tests}
use Rattle.lease_list.specs.Leases.{Lease}
use Rattle.lease_wheel.specs.declared.wheel.WheelItem.{WheelItem}
use Rattle.lease_wheel.specs.declared.wheel.WheelNode.{WheelNode}
use Rattle.lease_wheel.specs.Leased.{Leased}
use Rattle.lease_wheel.specs.Lists.{leased_at, leased_of, leased_in, is_filled, IsSound, AreSound, at}
use Rattle.lease_wheel.specs.Wheels.{named, with_leased, Stands}
use Rattle.lease_wheel.proofs.Finding.{Items, Lists, at_is, under, some_same}

not_under_itself : (e : ℕ) → nat_lt e e ≡ false
not_under_itself e = grind (arith, nat_tests)

not_over : (k e : ℕ) → nat_cmp k e ≡ Less → nat_lt e k ≡ false
not_over k e less = grind (arith, nat_tests)

not_over_greater : (e k : ℕ) → nat_cmp e k ≡ Greater → nat_lt e k ≡ false
not_over_greater e k more = grind (arith, nat_tests)

is_under : (e k : ℕ) → nat_cmp e k ≡ Less → nat_lt e k ≡ true
is_under e k less = grind (arith, nat_tests)

over_both : (e k y : ℕ) → nat_cmp e k ≡ Less → nat_cmp k y ≡ Less → nat_cmp e y ≡ Less
over_both e k y one two = grind (arith, nat_tests)

all_over : (e k : ℕ) (ks : List ℕ) → nat_cmp e k ≡ Less → AllByRecursion (λ y. nat_cmp k y ≡ Less) ks → AllByRecursion (λ y. nat_cmp e y ≡ Less) ks
all_over e k [] less all = tt
all_over e k (y ∷ ks) less all = (over_both e k y less all.0, all_over e k ks less all.1)

module _ (e : ℕ) (n : Lease WheelItem) where
  abbrev d : Leased
  d = leased_at e n

  -- it comes behind the items of an expiry that is not later
  skip : (k : ℕ) (ns : List (Lease WheelItem)) (rest : List Leased) → nat_lt e k ≡ false → with_leased d (leased_of k ns ++ rest) ≡ leased_of k ns ++ with_leased d rest
  skip k [] rest off = refl
  skip k (m ∷ ns) rest off =
      ap (λ y. cond y (d ∷ leased_at k m ∷ (leased_of k ns ++ rest)) (leased_at k m ∷ with_leased d (leased_of k ns ++ rest))) off
      ∙ ap (λ ds. leased_at k m ∷ ds) (skip k ns rest off)

  -- and before all that are later
  front : (es : Lists) → AllByRecursion (λ y. nat_cmp e y ≡ Less) (keys_of es) → with_leased d (leased_in es) ≡ d ∷ leased_in es
  front [] all = refl
  front (x ∷ es) all = go x.1.nodes (front es all.1)
    where
      go : (ns : List (Lease WheelItem)) → with_leased d (leased_in es) ≡ d ∷ leased_in es → with_leased d (leased_of x.0 ns ++ leased_in es) ≡ d ∷ (leased_of x.0 ns ++ leased_in es)
      go [] rest = rest
      go (m ∷ ns) rest = ap (λ y. cond y (d ∷ leased_at x.0 m ∷ (leased_of x.0 ns ++ leased_in es)) (leased_at x.0 m ∷ with_leased d (leased_of x.0 ns ++ leased_in es))) (is_under e x.0 all.0)

  pub added_there : (es : Lists) (l w : Items) → IsStrictlySortedBy nat_cmp (keys_of es) → lookup (at e) es ≡ Some l → w.nodes ≡ l.nodes ++ n ∷ []
      → leased_in (set_value (at e) es w) ≡ with_leased d (leased_in es)
  added_there [] l w sorted is more = absurd (cc)
  added_there (x ∷ es) l w sorted is more = go (at e x.0) refl (λ there. added_there es l w (sorted_tail nat_cmp x.0 (keys_of es) sorted) there more)
    where
      head : AllByRecursion (λ y. nat_cmp x.0 y ≡ Less) (keys_of es)
      head = sorted_head nat_cmp x.0 (keys_of es) sorted

      own : e ≡ x.0 → x.1 ≡ l → leased_of x.0 w.nodes ++ leased_in es ≡ with_leased d (leased_of x.0 x.1.nodes ++ leased_in es)
      own same one =
          let after : AllByRecursion (λ y. nat_cmp e y ≡ Less) (keys_of es) = subst (λ k. AllByRecursion (λ y. nat_cmp k y ≡ Less) (keys_of es)) (sym same) head in
          let not : nat_lt e x.0 ≡ false = subst (λ k. nat_lt e k ≡ false) same (not_under_itself e) in
          let nodes : w.nodes ≡ x.1.nodes ++ n ∷ [] = more ∙ ap (λ m. m.nodes ++ n ∷ []) (sym one) in
          let last : leased_of x.0 (n ∷ []) ≡ d ∷ [] = ap (λ k. leased_of k (n ∷ [])) (sym same) in
          ap (λ ms. leased_of x.0 ms ++ leased_in es) nodes
          ∙ ap (λ ds. ds ++ leased_in es) (map-append (leased_at x.0) x.1.nodes (n ∷ []))
          ∙ append_assoc (leased_of x.0 x.1.nodes) (leased_of x.0 (n ∷ [])) (leased_in es)
          ∙ ap (λ ds. leased_of x.0 x.1.nodes ++ (ds ++ leased_in es)) last
          ∙ ap (λ ds. leased_of x.0 x.1.nodes ++ ds) (sym (front es after))
          ∙ sym (skip x.0 x.1.nodes (leased_in es) not)

      go : (b : Bool) → at e x.0 ≡ b → (lookup (at e) es ≡ Some l → leased_in (set_value (at e) es w) ≡ with_leased d (leased_in es))
          → leased_in (set_value (at e) (x ∷ es) w) ≡ with_leased d (leased_of x.0 x.1.nodes ++ leased_in es)
      go true on rest =
          let one = some_same x.1 l (sym (ap (λ y. cond y (Some x.1) (lookup (at e) es)) on) ∙ is) in
          ap (λ y. leased_in (cond y ((x.0, w) ∷ es) (x ∷ set_value (at e) es w))) on ∙ own (at_is e x.0 on) one
      go false off rest =
          let there : lookup (at e) es ≡ Some l = sym (ap (λ y. cond y (Some x.1) (lookup (at e) es)) off) ∙ is in
          let not = not_over x.0 e (under x.0 e es l head there) in
          ap (λ y. leased_in (cond y ((x.0, w) ∷ es) (x ∷ set_value (at e) es w))) off
          ∙ ap (λ ds. leased_of x.0 x.1.nodes ++ ds) (rest there)
          ∙ sym (skip x.0 x.1.nodes (leased_in es) not)

  pub added_new : (es : Lists) (w : Items) → IsStrictlySortedBy nat_cmp (keys_of es) → lookup (at e) es ≡ None → w.nodes ≡ n ∷ []
      → leased_in (insert_entry nat_cmp es e w) ≡ with_leased d (leased_in es)
  added_new [] w sorted is one = ap (λ ms. leased_of e ms ++ []) one
  added_new (x ∷ es) w sorted is one = go (nat_cmp e x.0) refl (λ there. added_new es w (sorted_tail nat_cmp x.0 (keys_of es) sorted) there one)
    where
      head : AllByRecursion (λ y. nat_cmp x.0 y ≡ Less) (keys_of es)
      head = sorted_head nat_cmp x.0 (keys_of es) sorted

      some_none : {X : Type 0} (y : X) → Some y ≡ None → ⊥
      some_none y is' = cc

      go : (o : Ordering) → nat_cmp e x.0 ≡ o → (lookup (at e) es ≡ None → leased_in (insert_entry nat_cmp es e w) ≡ with_leased d (leased_in es))
          → leased_in (match_ordering o ((e, w) ∷ x ∷ es) ((x.0, w) ∷ es) (x ∷ insert_entry nat_cmp es e w)) ≡ with_leased d (leased_in (x ∷ es))
      go Less less rest = ap (λ ms. leased_of e ms ++ leased_in (x ∷ es)) one ∙ sym (front (x ∷ es) (less, all_over e x.0 (keys_of es) less head))
      go Equal same rest = absurd (some_none x.1 (sym (ap (λ o. cond (is_eq o) (Some x.1) (lookup (at e) es)) same) ∙ is))
      go Greater more rest =
          let there : lookup (at e) es ≡ None = sym (ap (λ o. cond (is_eq o) (Some x.1) (lookup (at e) es)) more) ∙ is in
          ap (λ ds. leased_of x.0 x.1.nodes ++ ds) (rest there)
          ∙ sym (skip x.0 x.1.nodes (leased_in es) (not_over_greater e x.0 more))

pub sound_new : (e : ℕ) (es : Lists) (w : Items) → IsSound w → AreSound es → AreSound (insert_entry nat_cmp es e w)
sound_new e [] w full all = (full, tt)
sound_new e (x ∷ es) w full all = go (nat_cmp e x.0) (sound_new e es w full all.1)
  where
    go : (o : Ordering) → AreSound (insert_entry nat_cmp es e w) → AreSound (match_ordering o ((e, w) ∷ x ∷ es) ((x.0, w) ∷ es) (x ∷ insert_entry nat_cmp es e w))
    go Less rest = (full, all)
    go Equal rest = (full, all.1)
    go Greater rest = (all.0, rest)

below_not : (e k : ℕ) → nat_cmp k e ≡ Less → nat_cmp e k ≡ Less → ⊥
below_not e k one two = grind (arith, nat_tests)

-- where an expiry has a list, an entry of it takes the place of that one
pub insert_there : (e : ℕ) (es : Lists) (l w : Items) → IsStrictlySortedBy nat_cmp (keys_of es) → lookup (at e) es ≡ Some l → insert_entry nat_cmp es e w ≡ set_value (at e) es w
insert_there e [] l w sorted is = absurd (cc)
insert_there e (x ∷ es) l w sorted is = go (nat_cmp e x.0) refl (λ there. insert_there e es l w (sorted_tail nat_cmp x.0 (keys_of es) sorted) there)
  where
    found : (o : Ordering) → is_eq o ≡ false → nat_cmp e x.0 ≡ o → lookup (at e) es ≡ Some l
    found o off same = sym (ap (λ y. cond (is_eq y) (Some x.1) (lookup (at e) es)) same ∙ ap (λ b. cond b (Some x.1) (lookup (at e) es)) off) ∙ is

    go : (o : Ordering) → nat_cmp e x.0 ≡ o → (lookup (at e) es ≡ Some l → insert_entry nat_cmp es e w ≡ set_value (at e) es w)
        → match_ordering o ((e, w) ∷ x ∷ es) ((x.0, w) ∷ es) (x ∷ insert_entry nat_cmp es e w) ≡ cond (is_eq o) ((x.0, w) ∷ es) (x ∷ set_value (at e) es w)
    go Less less rest = absurd (below_not e x.0 (under x.0 e es l (sorted_head nat_cmp x.0 (keys_of es) sorted) (found Less refl less)) less)
    go Equal same rest = refl
    go Greater more rest = ap (λ fs. x ∷ fs) (rest (found Greater refl more))

pub filled_push : (ns : List (Lease WheelItem)) (n : Lease WheelItem) → is_filled (ns ++ n ∷ []) ≡ true
filled_push [] n = refl
filled_push (m ∷ ns) n = refl

-- where an item is added
pub record Added (d : Leased) (ds : List Leased) : Type 0 where
  pub before : List Leased
  pub after : List Leased
  pub old : ds ≡ before ++ after
  pub new : with_leased d ds ≡ before ++ d ∷ after

pub added : (d : Leased) (ds : List Leased) → Added d ds
added d [] = record { before = []; after = []; old = refl; new = refl }
added d (x ∷ ds) = go (nat_lt d.expiry.0 x.expiry.0) refl (added d ds)
  where
    go : (b : Bool) → nat_lt d.expiry.0 x.expiry.0 ≡ b → Added d ds → Added d (x ∷ ds)
    go true less r = record { before = []; after = x ∷ ds; old = refl; new = ap (λ y. cond y (d ∷ x ∷ ds) (x ∷ with_leased d ds)) less }
    go false off r = record {
      before = x ∷ r.before;
      after = r.after;
      old = ap (λ zs. x ∷ zs) r.old;
      new = ap (λ y. cond y (d ∷ x ∷ ds) (x ∷ with_leased d ds)) off ∙ ap (λ zs. x ∷ zs) r.new;
    }

-- the name of an item that is added stands
pub stands_added : (node : WheelNode) (item : WheelItem) (ds mid : List Leased) → mid ≡ with_leased (named node item) ds → Stands mid node
stands_added node item ds mid is = let a = added (named node item) ds in (item, (a.before, a.after, is ∙ a.new))
