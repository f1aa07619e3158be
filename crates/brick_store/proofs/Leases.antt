-- Kept values at the pairs of a map, when one is put or looked for, or some are removed.
use Rattle.std.proofs.Common.{◌≡◌, ◌+◌, Bool, true, false, cond, not, List, [], ◌∷◌, ◌++◌, Option, Some, option_map, filter, length, All, refl, sym, ap, subst, ◌∙◌, arith}
use Rattle.std.specs.Ordering.{is_eq, match_ordering, ordering_reverse}
use Rattle.std.specs.Map.{lookup, remove_entry, keys_of}
use Rattle.std.specs.List.{AllByRecursion}
use Rattle.std.specs.List.Sorted.{IsStrictlySortedBy}
use Rattle.std.specs.BTreeMap.{insert_entry, is_at}
use Rattle.std.specs.declared.cmp.Ordering.{Ordering}
use Rattle.std.specs.declared.cmp.Ordering.TheVariants.{Less, Equal, Greater}
use Rattle.std.proofs.lemmas.Map.Keys.{sorted_head, sorted_tail}
use Rattle.std.proofs.lemmas.List.Elements.{recursion_from_All}
use Rattle.crash_base.specs.declared.numbers.Moment.{Moment}
use Rattle.crash_base.specs.declared.numbers.SessionKey.{SessionKey}
use Rattle.crash_base.specs.declared.numbers.Version.{Version}
use Rattle.lease_wheel.specs.Leased.{Leased}
use Rattle.lease_wheel.specs.Wheels.{is_due}
use Rattle.brick_store.specs.declared.kept.Kept.{Kept}
use Rattle.brick_store.specs.declared.kept_map.Pair.{Pair}
use Rattle.brick_store.specs.declared.kept_map.Lease.{Lease}
use Rattle.brick_store.specs.Kept.{kept_under, with_kept, bytes_of, is_late, outlives}
use Rattle.brick_store.specs.Pairs.{pair_of, kept_at, kept_in}
use Rattle.brick_store.specs.Tied.{pair_order, is_pair, value_at, leased_by, Has, AreTied}
use Rattle.brick_store.proofs.KeptOrder.{pair_exact, kept_total, is_eq-kept_order, query}
use Rattle.brick_store.proofs.Tying.{pair_itself, all_at}

abbrev Entry : Type 0
Entry = Pair × Lease

put_step : (p : Pair) (lease : Lease) (e : Entry) (es : List Entry) (o : Ordering) → pair_order p e.0 ≡ o
    → kept_in (insert_entry pair_order es p lease) ≡ with_kept (kept_at (p, lease)) (kept_in es)
    → kept_in (match_ordering o ((p, lease) ∷ e ∷ es) ((e.0, lease) ∷ es) (e ∷ insert_entry pair_order es p lease))
    ≡ match_ordering o (kept_at (p, lease) ∷ kept_at e ∷ kept_in es) (kept_at (p, lease) ∷ kept_in es) (kept_at e ∷ with_kept (kept_at (p, lease)) (kept_in es))
put_step p lease e es Less order later = refl
put_step p lease e es Equal order later = ap (λ q. kept_at (q, lease) ∷ kept_in es) (sym (pair_exact p e.0 order))
put_step p lease e es Greater order later = ap (λ rest. kept_at e ∷ rest) later

-- a value that is put at its pair is put among the values
pub kept_in-put : (p : Pair) (lease : Lease) (es : List Entry) → kept_in (insert_entry pair_order es p lease) ≡ with_kept (kept_at (p, lease)) (kept_in es)
kept_in-put p lease [] = refl
kept_in-put p lease (e ∷ es) = put_step p lease e es (pair_order p e.0) refl (kept_in-put p lease es)

-- the key of an element is one of the keys
key_in : (P : Pair → Type 0) (us : List Entry) (e : Entry) (vs : List Entry) → AllByRecursion P (keys_of (us ++ e ∷ vs)) → P e.0
key_in P [] e vs all = all.0
key_in P (u ∷ us) e vs all = key_in P us e vs all.1

-- the same of a value that is put with its lease
pub kept_put : (kept : Kept) (p : Pair) (lease : Lease) (es : List Entry) → p ≡ pair_of kept.key kept.version → lease.node.expiry ≡ kept.expiry → lease.value ≡ kept.value
    → kept_in (insert_entry pair_order es p lease) ≡ with_kept kept (kept_in es)
kept_put kept p lease es pair when what =
    let same : kept_at (p, lease) ≡ kept = λ i. record {
      key = record { 0 = (pair i).key };
      version = record { node = (pair i).node; boot = (pair i).boot; serial = (pair i).serial };
      expiry = when i;
      value = what i;
    } in
    kept_in-put p lease es ∙ ap (λ s. with_kept s (kept_in es)) same

found_step : (p : Pair) (e : Entry) (rest : Option Lease) (o : Ordering) → pair_order p e.0 ≡ o
    → option_map (λ lease. kept_at (p, lease)) (cond (is_eq o) (Some e.1) rest) ≡ cond (is_eq o) (Some (kept_at e)) (option_map (λ lease. kept_at (p, lease)) rest)
found_step p e rest Less order = refl
found_step p e rest Equal order = ap (λ q. Some (kept_at (q, e.1))) (pair_exact p e.0 order)
found_step p e rest Greater order = refl

-- the value at a pair is the one under its key and version
pub kept_in-found : (key : SessionKey) (version : Version) (es : List Entry)
    → option_map (λ lease. kept_at (pair_of key version, lease)) (lookup (is_at (pair_order (pair_of key version))) es) ≡ kept_under key version (kept_in es)
kept_in-found key version [] = refl
kept_in-found key version (e ∷ es) =
    let p = pair_of key version in
    found_step p e (lookup (is_at (pair_order p)) es) (pair_order p e.0) refl
    ∙ (λ l. cond (is_eq-kept_order (query key version) (kept_at e) l) (Some (kept_at e)) (kept_in-found key version es l))

-- the bytes of the others, where a lease goes
pub bytes_out : (p : Pair) (es : List Entry) (lease : Lease) → value_at p es ≡ Some lease → bytes_of (kept_in es) ≡ length lease.value + bytes_of (kept_in (remove_entry (is_pair p) es))
bytes_out p [] lease is = absurd (cc)
bytes_out p (e ∷ es) lease is = go (is_pair p e.0) refl (bytes_out p es lease)
  where
    go : (b : Bool) → is_pair p e.0 ≡ b → (value_at p es ≡ Some lease → bytes_of (kept_in es) ≡ length lease.value + bytes_of (kept_in (remove_entry (is_pair p) es)))
        → length e.1.value + bytes_of (kept_in es) ≡ length lease.value + bytes_of (kept_in (remove_entry (is_pair p) (e ∷ es)))
    go true on rest =
        let both : Some e.1 ≡ Some lease = sym (ap (λ y. cond y (Some e.1) (value_at p es)) on) ∙ is in
        let same : e.1 ≡ lease = cc in
        ap (λ l. length l.value + bytes_of (kept_in es)) same ∙ ap (λ y. length lease.value + bytes_of (kept_in (cond y es (e ∷ remove_entry (is_pair p) es)))) (sym on)
    go false off rest =
        let later = rest (sym (ap (λ y. cond y (Some e.1) (value_at p es)) off) ∙ is) in
        let left : bytes_of (kept_in (remove_entry (is_pair p) (e ∷ es))) ≡ length e.1.value + bytes_of (kept_in (remove_entry (is_pair p) es)) = ap (λ y. bytes_of (kept_in (cond y es (e ∷ remove_entry (is_pair p) es)))) off in
        omega (arith, later, left)

-- a sweep leaves the same, whether a lease that it takes is gone before
pub sweep_out : (moment : Moment) (p : Pair) (es : List Entry) (lease : Lease) → value_at p es ≡ Some lease → is_late moment lease.node.expiry ≡ true
    → filter (outlives moment) (kept_in (remove_entry (is_pair p) es)) ≡ filter (outlives moment) (kept_in es)
sweep_out moment p [] lease is late = refl
sweep_out moment p (e ∷ es) lease is late = go (is_pair p e.0) refl (sweep_out moment p es lease)
  where
    go : (b : Bool) → is_pair p e.0 ≡ b
        → (value_at p es ≡ Some lease → is_late moment lease.node.expiry ≡ true → filter (outlives moment) (kept_in (remove_entry (is_pair p) es)) ≡ filter (outlives moment) (kept_in es))
        → filter (outlives moment) (kept_in (remove_entry (is_pair p) (e ∷ es))) ≡ filter (outlives moment) (kept_in (e ∷ es))
    go true on rest =
        let both : Some e.1 ≡ Some lease = sym (ap (λ y. cond y (Some e.1) (value_at p es)) on) ∙ is in
        let same : e.1 ≡ lease = cc in
        let taken : outlives moment (kept_at e) ≡ false = ap (λ l. not (is_late moment l.node.expiry)) same ∙ ap not late in
        ap (λ y. filter (outlives moment) (kept_in (cond y es (e ∷ remove_entry (is_pair p) es)))) on
        ∙ ap (λ y. cond y (kept_at e ∷ filter (outlives moment) (kept_in es)) (filter (outlives moment) (kept_in es))) (sym taken)
    go false off rest =
        let later = rest (sym (ap (λ y. cond y (Some e.1) (value_at p es)) off) ∙ is) late in
        ap (λ y. filter (outlives moment) (kept_in (cond y es (e ∷ remove_entry (is_pair p) es)))) off
        ∙ ap (λ ss. cond (outlives moment (kept_at e)) (kept_at e ∷ ss) ss) later

-- where no lease is late, a sweep leaves all
pub sweep_none : (moment : Moment) (es : List Entry) → ((e : Entry) → Has es e → is_late moment e.1.node.expiry ≡ false) → filter (outlives moment) (kept_in es) ≡ kept_in es
sweep_none moment [] none = refl
sweep_none moment (e ∷ es) none =
    let left : outlives moment (kept_at e) ≡ true = ap not (none e ([], es, refl)) in
    ap (λ y. cond y (kept_at e ∷ filter (outlives moment) (kept_in es)) (filter (outlives moment) (kept_in es))) left
    ∙ ap (λ ss. kept_at e ∷ ss) (sweep_none moment es (λ x has. none x (e ∷ has.0, has.1, ap (λ zs. e ∷ zs) has.2)))

-- where nothing is kept, a sweep leaves it so
pub sweep_empty : (moment : Moment) (es : List Entry) → length es ≡ 0 → kept_in es ≡ filter (outlives moment) (kept_in es)
sweep_empty moment [] none = refl
sweep_empty moment (e ∷ es) none = absurd (omega (arith, none))

-- each lease of a map in order is found at its pair
found_at : (es : List Entry) (e : Entry) (us vs : List Entry) → IsStrictlySortedBy pair_order (keys_of es) → es ≡ us ++ e ∷ vs → value_at e.0 es ≡ Some e.1
found_at [] e [] vs sorted is = absurd (cc)
found_at [] e (u ∷ us) vs sorted is = absurd (cc)
found_at (x ∷ es) e [] vs sorted is =
    let same : x ≡ e = cc in
    ap (λ y. cond y (Some x.1) (value_at e.0 es)) (ap (λ z. is_pair e.0 z.0) same ∙ pair_itself e.0 e.1) ∙ ap (λ z. Some z.1) same
found_at (x ∷ es) e (u ∷ us) vs sorted is =
    let rest : es ≡ us ++ e ∷ vs = cc in
    let head : AllByRecursion (λ q. pair_order x.0 q ≡ Less) (keys_of es) = sorted_head pair_order x.0 (keys_of es) sorted in
    let less : pair_order x.0 e.0 ≡ Less = key_in (λ q. pair_order x.0 q ≡ Less) us e vs (subst (λ zs. AllByRecursion (λ q. pair_order x.0 q ≡ Less) (keys_of zs)) rest head) in
    let off : is_pair e.0 x.0 ≡ false = ap is_eq (kept_total.antisymm (kept_at e) (kept_at x) ∙ ap ordering_reverse less) in
    ap (λ y. cond y (Some x.1) (value_at e.0 es)) off ∙ found_at es e us vs (sorted_tail pair_order x.0 (keys_of es) sorted) rest

-- at the end of a sweep nothing that is kept is late
pub none_late : (moment : Moment) (es : List Entry) (ds : List Leased) → IsStrictlySortedBy pair_order (keys_of es) → AreTied es ds → All (λ d. is_due moment d ≡ false) ds
    → (e : Entry) → Has es e → is_late moment e.1.node.expiry ≡ false
none_late moment es ds sorted tied none e has =
    let stands = tied.there e.0 e.1 (found_at es e has.0 has.1 sorted has.2) in
    all_at (λ d. is_due moment d ≡ false) stands.0 (leased_by e) stands.1 (subst (λ zs. AllByRecursion (λ d. is_due moment d ≡ false) zs) stands.2 (recursion_from_All (λ d. is_due moment d ≡ false) ds none))
