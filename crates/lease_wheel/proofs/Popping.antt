-- The first item, and what is due.
use Rattle.std.proofs.Common.{◌≡◌, ℕ, ◌+◌, false, cond, List, [], ◌∷◌, ◌++◌, Some, slice_get, sym, ap, subst, ◌∙◌, nat_lt, arith}
use denote.RawPtr.{Ptr}
use Rattle.std.specs.Map.{lookup, set_value, remove_entry, keys_of}
use Rattle.std.specs.List.{All, AllByRecursion}
use Rattle.std.specs.List.Sorted.{IsStrictlySortedBy}
use Rattle.std.specs.Ordering.{nat_cmp}
use Rattle.std.specs.declared.cmp.Ordering.TheVariants.{Less}
use Rattle.std.proofs.lemmas.Map.Keys.{sorted_head}
use Rattle.std.proofs.lemmas.Bool.Decides.{nat_tests}
use Rattle.std.proofs.lemmas.List.Elements.{All-from_recursion}
use Rattle.crash_base.specs.declared.numbers.Moment.{Moment}
use Rattle.ssm_frames.specs.declared.frame.TheConstants.{SWEEP_GRACE}
use Rattle.lease_list.specs.Leases.{Lease, lease}
use Rattle.lease_wheel.specs.declared.wheel.WheelItem.{WheelItem}
use Rattle.lease_wheel.specs.Leased.{Leased}
use Rattle.lease_wheel.specs.Lists.{leased_of, leased_in, at}
use Rattle.lease_wheel.specs.Wheels.{placed, is_due}
use Rattle.lease_wheel.proofs.Finding.{Items, Lists, at_same, some_same}

-- the first entry and the others
pub first_entry : (e : ℕ) (l : Items) (es : Lists) → slice_get es 0 ≡ Some (e, l) → (rest : Lists) × (es ≡ (e, l) ∷ rest)
first_entry e l [] is = absurd (cc)
first_entry e l (x ∷ es) is =
    let same : x ≡ (e, l) = cc in
    (es, ap (λ y. y ∷ es) same)

module _ (e : ℕ) (l : Items) (rest : Lists) where
  pub first_found : lookup (at e) ((e, l) ∷ rest) ≡ Some l
  first_found = ap (λ y. cond y (Some l) (lookup (at e) rest)) (at_same e)

  module _ (w : Items) (k : ℕ) (p : Ptr) (item : WheelItem) (nodes : l.nodes ≡ lease k p item ∷ w.nodes) where
    pub popped_one : leased_in ((e, l) ∷ rest) ≡ placed e k p item ∷ leased_in (set_value (at e) ((e, l) ∷ rest) w)
    popped_one =
        ap (λ ns. leased_of e ns ++ leased_in rest) nodes
        ∙ ap (λ y. placed e k p item ∷ leased_in (cond y ((e, w) ∷ rest) ((e, l) ∷ set_value (at e) rest w))) (sym (at_same e))

    pub popped_last : w.nodes ≡ [] → leased_in ((e, l) ∷ rest) ≡ placed e k p item ∷ leased_in (remove_entry (at e) (set_value (at e) ((e, l) ∷ rest) w))
    popped_last none =
        ap (λ ns. leased_of e ns ++ leased_in rest) (nodes ∙ ap (λ ns. lease k p item ∷ ns) none)
        ∙ ap (λ y. placed e k p item ∷ leased_in (cond y rest ((e, w) ∷ remove_entry (at e) rest))) (sym (at_same e))
        ∙ ap (λ y. placed e k p item ∷ leased_in (remove_entry (at e) (cond y ((e, w) ∷ rest) ((e, l) ∷ set_value (at e) rest w)))) (sym (at_same e))

-- the first item goes, where its list is written without it, and goes with it
module _ (e : ℕ) (l m w : Items) (rest es : Lists) (k : ℕ) (p : Ptr) (item : WheelItem) (is : es ≡ (e, l) ∷ rest) (here : lookup (at e) es ≡ Some m) (nodes : m.nodes ≡ lease k p item ∷ w.nodes) where
  first_nodes : l.nodes ≡ lease k p item ∷ w.nodes
  first_nodes = ap (λ v. v.nodes) (some_same l m (sym (first_found e l rest) ∙ ap (lookup (at e)) (sym is) ∙ here)) ∙ nodes

  pub popped : (new : Lists) → new ≡ set_value (at e) es w → leased_in es ≡ placed e k p item ∷ leased_in new
  popped new set =
      ap leased_in is
      ∙ popped_one e l rest w k p item first_nodes
      ∙ ap (λ fs. placed e k p item ∷ leased_in fs) (sym (set ∙ ap (λ fs. set_value (at e) fs w) is))

  pub popped_out : (mid new : Lists) → mid ≡ set_value (at e) es w → new ≡ remove_entry (at e) mid → w.nodes ≡ [] → leased_in es ≡ placed e k p item ∷ leased_in new
  popped_out mid new set gone none =
      ap leased_in is
      ∙ popped_last e l rest w k p item first_nodes none
      ∙ ap (λ fs. placed e k p item ∷ leased_in fs) (sym (gone ∙ ap (remove_entry (at e)) (set ∙ ap (λ fs. set_value (at e) fs w) is)))

not_later : (g m e y : ℕ) → nat_lt (e + g) m ≡ false → nat_cmp e y ≡ Less → nat_lt (y + g) m ≡ false
not_later g m e y off less = grind (arith, nat_tests)

none_of : (moment : Moment) (k : ℕ) (ns : List (Lease WheelItem)) (rest : List Leased) → nat_lt (k + SWEEP_GRACE) moment.0 ≡ false
    → AllByRecursion (λ d. is_due moment d ≡ false) rest → AllByRecursion (λ d. is_due moment d ≡ false) (leased_of k ns ++ rest)
none_of moment k [] rest off all = all
none_of moment k (n ∷ ns) rest off all = (off, none_of moment k ns rest off all)

none_behind : (moment : Moment) (e : ℕ) (es : Lists) → nat_lt (e + SWEEP_GRACE) moment.0 ≡ false → AllByRecursion (λ y. nat_cmp e y ≡ Less) (keys_of es)
    → AllByRecursion (λ d. is_due moment d ≡ false) (leased_in es)
none_behind moment e [] off all = tt
none_behind moment e (x ∷ es) off all =
    none_of moment x.0 x.1.nodes (leased_in es) (not_later SWEEP_GRACE moment.0 e x.0 off all.0) (none_behind moment e es off all.1)

-- where the first expiry is not due, none is
pub none_due : (moment : Moment) (e : ℕ) (l : Items) (rest es : Lists) → es ≡ (e, l) ∷ rest → IsStrictlySortedBy nat_cmp (keys_of es) → nat_lt (e + SWEEP_GRACE) moment.0 ≡ false
    → All (λ d. is_due moment d ≡ false) (leased_in es)
none_due moment e l rest es is sorted off =
    subst (λ fs. All (λ d. is_due moment d ≡ false) (leased_in fs)) (sym is)
    (All-from_recursion (λ d. is_due moment d ≡ false) (leased_in ((e, l) ∷ rest))
    (none_of moment e l.nodes (leased_in rest) off (none_behind moment e rest off (sorted_head nat_cmp e (keys_of rest) (subst (λ fs. IsStrictlySortedBy nat_cmp (keys_of fs)) is sorted)))))
