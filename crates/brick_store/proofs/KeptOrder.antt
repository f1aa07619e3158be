-- What the order of kept values says of their keys and versions.
use Rattle.std.proofs.Common.{◌≡◌, ℕ, Bool, true, false, cond, ◌&&◌, ◌==◌, nat_lt, [], refl, sym, ap, ◌∙◌, arith}
use Rattle.std.proofs.lemmas.Bool.Decides.{nat_tests}
use Rattle.std.proofs.lemmas.Cmp.{on_total, then_total, nat_cmp_total, nat_list_cmp_total, alike_right}
use Rattle.std.proofs.lemmas.Map.Text.{is_eq-slice_cmp}
use Rattle.std.proofs.lemmas.Map.Lookups.{exact_bytes, exact_unsigned}
use Rattle.std.specs.Cmp.{IsTotalOrder}
use Rattle.std.specs.Ordering.{is_eq, nat_cmp, ordering_then}
use Rattle.std.specs.Cmp.Lexicographic.{slice_cmp}
use Rattle.std.specs.declared.cmp.Ordering.{Ordering}
use Rattle.std.specs.declared.cmp.Ordering.TheVariants.{Less, Equal, Greater}
use Rattle.crash_base.specs.declared.numbers.SessionKey.{SessionKey}
use Rattle.crash_base.specs.declared.numbers.Version.{Version}
use Rattle.brick_store.specs.declared.kept.Kept.{Kept}
use Rattle.brick_store.specs.declared.kept_map.Pair.{Pair}
use Rattle.crash_base.specs.Same.{same_version}
use Rattle.brick_store.specs.Kept.{is_under, kept_order, version_order}
use Rattle.brick_store.specs.Tied.{pair_order}

pub kept_total : IsTotalOrder kept_order
kept_total =
    then_total (on_total (λ (s : Kept). s.key.0) nat_list_cmp_total)
    (then_total (on_total (λ (s : Kept). s.version.node) nat_cmp_total)
    (then_total (on_total (λ (s : Kept). s.version.boot) nat_cmp_total)
    (on_total (λ (s : Kept). s.version.serial) nat_cmp_total)))

is_eq-then : (a b : Ordering) → is_eq (ordering_then a b) ≡ (is_eq a && is_eq b)
is_eq-then Less b = refl
is_eq-then Equal b = refl
is_eq-then Greater b = refl

is_eq-nat_cmp : (x y : ℕ) → is_eq (nat_cmp x y) ≡ (x == y)
is_eq-nat_cmp x y = go (nat_lt x y) (x == y) refl refl
  where
    go : (less same : Bool) → nat_lt x y ≡ less → (x == y) ≡ same → is_eq (cond less Less (cond same Equal Greater)) ≡ same
    go true true l s = absurd (grind (arith, nat_tests))
    go true false l s = refl
    go false true l s = refl
    go false false l s = refl

pub is_eq-version : (a b : Version) → is_eq (version_order a b) ≡ same_version a b
is_eq-version a b =
    is_eq-then (nat_cmp a.node b.node) (ordering_then (nat_cmp a.boot b.boot) (nat_cmp a.serial b.serial))
    ∙ (λ l. is_eq-nat_cmp a.node b.node l && is_eq-then (nat_cmp a.boot b.boot) (nat_cmp a.serial b.serial) l)
    ∙ (λ l. (a.node == b.node) && (is_eq-nat_cmp a.boot b.boot l && is_eq-nat_cmp a.serial b.serial l))

-- a value with only this key and version
abbrev pub query : SessionKey → Version → Kept
query key version = record { key = key; version = version; expiry = record { 0 = 0 }; value = [] }

-- two values are under one key and version exactly where neither is before the other
pub is_eq-kept_order : (s t : Kept) → is_eq (kept_order s t) ≡ is_under s.key s.version t
is_eq-kept_order s t =
    is_eq-then (slice_cmp nat_cmp s.key.0 t.key.0) (version_order s.version t.version)
    ∙ (λ l. is_eq-slice_cmp s.key.0 t.key.0 l && is_eq-version s.version t.version l)

equal_from_is_eq : (o : Ordering) → is_eq o ≡ true → o ≡ Equal
equal_from_is_eq Less h = cc
equal_from_is_eq Equal h = refl
equal_from_is_eq Greater h = cc

tied : (key : SessionKey) (version : Version) (s : Kept) → is_under key version s ≡ true → kept_order (query key version) s ≡ Equal
tied key version s here = equal_from_is_eq (kept_order (query key version) s) (is_eq-kept_order (query key version) s ∙ here)

-- values of one key and version are under the same key and version
pub under_alike : (key : SessionKey) (version : Version) (s t : Kept) → kept_order s t ≡ Equal → is_under key version s ≡ is_under key version t
under_alike key version s t same =
    sym (is_eq-kept_order (query key version) s)
    ∙ ap is_eq (alike_right kept_total s t (query key version) same)
    ∙ is_eq-kept_order (query key version) t

-- values under a key and version are of one
pub under_both : (key : SessionKey) (version : Version) (s t : Kept) → is_under key version s ≡ true → is_under key version t ≡ true → kept_order s t ≡ Equal
under_both key version s t here there =
    sym (kept_total.congr (query key version) s t (tied key version s here)) ∙ tied key version t there

-- a value after the one under a key and version is not under them
pub under_after : (key : SessionKey) (version : Version) (s t : Kept) → is_under key version s ≡ true → kept_order s t ≡ Less → is_under key version t ≡ false
under_after key version s t here after =
    sym (is_eq-kept_order (query key version) t)
    ∙ ap is_eq (kept_total.congr (query key version) s t (tied key version s here) ∙ after)

both_equal : (a b : Ordering) → ordering_then a b ≡ Equal → (a ≡ Equal) × (b ≡ Equal)
both_equal Less b h = absurd (cc)
both_equal Equal b h = (refl, h)
both_equal Greater b h = absurd (cc)

-- pairs of which neither is before the other are one
pub pair_exact : (p q : Pair) → pair_order p q ≡ Equal → p ≡ q
pair_exact p q same =
    let keys = both_equal (slice_cmp nat_cmp p.key q.key) (ordering_then (nat_cmp p.node q.node) (ordering_then (nat_cmp p.boot q.boot) (nat_cmp p.serial q.serial))) same in
    let nodes = both_equal (nat_cmp p.node q.node) (ordering_then (nat_cmp p.boot q.boot) (nat_cmp p.serial q.serial)) keys.1 in
    let boots = both_equal (nat_cmp p.boot q.boot) (nat_cmp p.serial q.serial) nodes.1 in
    λ l. record {
      key = exact_bytes p.key q.key keys.0 l;
      node = exact_unsigned p.node q.node nodes.0 l;
      boot = exact_unsigned p.boot q.boot boots.0 l;
      serial = exact_unsigned p.serial q.serial boots.1 l;
    }
