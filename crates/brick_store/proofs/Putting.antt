-- Whether there is room for a value, and what is kept then, where its pair has a lease and where it has none.
use Rattle.std.proofs.Common.{◌≡◌, ℕ, suc, ◌+◌, ◌-◌, ◌≤◌, ◌<◌, true, false, nat_lt, nat_le, ◌||◌, cond, Bool, List, [], ◌∷◌, length, IfOk, Option, Some, None, option_map, Result, Ok, Err, OnErr, refl, sym, ap, subst, ◌∙◌, arith}
use Rattle.std.proofs.lemmas.Bool.Decides.{nat_tests}
use Rattle.std.proofs.lemmas.Map.Keys.{sorted_head, sorted_tail}
use Rattle.std.specs.BTreeMap.{BTreeMap, IsOrdered, Updates, insert_entry}
use Rattle.std.specs.List.{AllByRecursion}
use Rattle.std.specs.List.Sorted.{IsStrictlySortedBy}
use Rattle.std.specs.Map.{keys_of, set_value}
use Rattle.std.specs.Ordering.{is_eq, match_ordering, ordering_reverse}
use Rattle.std.specs.declared.cmp.Ordering.{Ordering}
use Rattle.std.specs.declared.cmp.Ordering.TheVariants.{Less, Equal, Greater}
use Rattle.crash_base.specs.declared.memory.OutOfMemory.{OutOfMemory}
use Rattle.crash_base.specs.declared.numbers.Moment.{Moment}
use Rattle.crash_base.specs.declared.numbers.SessionKey.{SessionKey}
use Rattle.crash_base.specs.declared.numbers.Version.{Version}
use Rattle.lease_wheel.specs.declared.wheel.WheelItem.{WheelItem}
use Rattle.lease_wheel.specs.Leased.{Leased}
use Rattle.brick_store.specs.declared.kept.Kept.{Kept}
use Rattle.brick_store.specs.declared.kept.TheConstants.{MAX_BRICK_VALUES, MAX_BRICK_BYTES}
use Rattle.brick_store.specs.declared.kept_map.Pair.{Pair}
use Rattle.brick_store.specs.declared.kept_map.Lease.{Lease}
use Rattle.brick_store.specs.Bricks.{put_value}
use Rattle.brick_store.specs.Kept.{kept_under, with_kept, bytes_of, size_of, is_full}
use Rattle.brick_store.specs.Pairs.{pair_of, kept_at, kept_in}
use Rattle.brick_store.specs.Puts.{CanPut, PutEnds, IsRenewed, RenewEnds}
use Rattle.brick_store.specs.Tied.{pair_order, is_pair, value_at, AreTied}
use Rattle.brick_store.proofs.Keeping.{bytes_put}
use Rattle.brick_store.proofs.KeptOrder.{kept_total}
use Rattle.brick_store.proofs.Leases.{bytes_out, kept_in-found, kept_put}
use Rattle.brick_store.proofs.Limits.{full_new, full_over}
use Rattle.brick_store.proofs.Tying.{Entries, pair_is, is_put, tied_replaced}

-- what holds anyhow holds at an error
pub at_err : {T X : Type 0} (r : Result T X) (P : Type 0) → P → OnErr r P
at_err (Ok x) P p = tt
at_err (Err y) P p = p

count_kept : (es : Entries) → length (kept_in es) ≡ length es
count_kept [] = refl
count_kept (e ∷ es) = ap suc (count_kept es)

past : (a b : ℕ) → a < b → nat_lt a b ≡ true
past a b more = grind (arith, nat_tests)

within : (a b : ℕ) → b ≤ a → nat_lt a b ≡ false
within a b less = grind (arith, nat_tests)

few : (a b : ℕ) → (nat_le MAX_BRICK_VALUES a || nat_lt MAX_BRICK_BYTES b) ≡ false → b ≤ MAX_BRICK_BYTES
few a b room = grind (arith, nat_tests)

module _ (key : SessionKey) (version : Version) (expiry : Moment) (value : List ℕ) (es : Entries) (ds : List Leased) (bytes size : ℕ) (can : CanPut es ds bytes) (added : size ≡ length value) where
  abbrev s : Kept
  s = put_value key version expiry value

  abbrev p : Pair
  p = pair_of key version

  found : (l : Option Lease) → value_at p es ≡ l → kept_under key version (kept_in es) ≡ option_map (λ lease. kept_at (p, lease)) l
  found l is = sym (kept_in-found key version es) ∙ ap (option_map (λ lease. kept_at (p, lease))) is

  -- the pair has a lease
  module _ (l : Lease) (less : ℕ) (there : value_at p es ≡ Some l) (taken : less ≡ length l.value) where
    full : is_full (kept_in es) s ≡ nat_lt (MAX_BRICK_BYTES + less) (bytes + size)
    full = full_over s (kept_at (p, l)) (kept_in es) can.in_order can.values (found (Some l) there) ∙ (λ i. nat_lt (MAX_BRICK_BYTES + sym taken i) (sym can.bytes_is i + sym added i))

    sum : bytes_of (with_kept s (kept_in es)) + less ≡ bytes + size
    sum = bytes_put s (kept_in es) (kept_in es) bytes less size refl can.in_order can.bytes_is (taken ∙ ap size_of (sym (found (Some l) there))) added

    full_there : MAX_BRICK_BYTES + less < bytes + size → is_full (kept_in es) s ≡ true
    full_there over = full ∙ past (MAX_BRICK_BYTES + less) (bytes + size) over

    room_there : bytes + size ≤ MAX_BRICK_BYTES + less → is_full (kept_in es) s ≡ false
    room_there under = full ∙ within (MAX_BRICK_BYTES + less) (bytes + size) under

    put_there : (fs : Entries) → bytes + size ≤ MAX_BRICK_BYTES + less → kept_in fs ≡ with_kept s (kept_in es) → PutEnds s (kept_in es) (kept_in fs) (Some (bytes + size - less))
    put_there fs under put =
        let left : bytes + size - less ≡ bytes_of (with_kept s (kept_in es)) = omega (arith, sum) in
        (room_there under, put, left ∙ ap bytes_of (sym put), omega (arith, under))

  -- the pair has none
  module _ (none : value_at p es ≡ None) (values : ℕ) (count : values ≡ length es) where
    pub full_none : is_full (kept_in es) s ≡ (nat_le MAX_BRICK_VALUES values || nat_lt MAX_BRICK_BYTES (bytes + size))
    full_none =
        let all : length (kept_in es) ≡ values = count_kept es ∙ sym count in
        full_new s (kept_in es) can.in_order (found None none) ∙ (λ i. nat_le MAX_BRICK_VALUES (all i) || nat_lt MAX_BRICK_BYTES (sym can.bytes_is i + sym added i))

    pub put_none : (fs : Entries) → (nat_le MAX_BRICK_VALUES values || nat_lt MAX_BRICK_BYTES (bytes + size)) ≡ false → kept_in fs ≡ with_kept s (kept_in es) → PutEnds s (kept_in es) (kept_in fs) (Some (bytes + size))
    put_none fs room put =
        let sum : bytes_of (with_kept s (kept_in es)) + 0 ≡ bytes + size = bytes_put s (kept_in es) (kept_in es) bytes 0 size refl can.in_order can.bytes_is (ap size_of (sym (found None none))) added in
        let all : bytes + size ≡ bytes_of (with_kept s (kept_in es)) = omega (arith, sum) in
        (full_none ∙ room, put, all ∙ ap bytes_of (sym put), few values (bytes + size) room)

-- ---- a lease takes the place of another

-- it has no more bytes than are kept
pub less_there : (es : Entries) (ds : List Leased) (bytes : ℕ) (can : CanPut es ds bytes) (q : Pair) (l : Lease) → value_at q es ≡ Some l → length l.value ≤ bytes
less_there es ds bytes can q l had = omega (arith, can.bytes_is, bytes_out q es l had)

some_same : {X : Type 0} (x y : X) → Some x ≡ Some y → x ≡ y
some_same x y is = cc

-- a pair that has a lease among those behind another is behind it
behind : (q x : Pair) (es : Entries) (l : Lease) → AllByRecursion (λ y. pair_order x y ≡ Less) (keys_of es) → value_at q es ≡ Some l → pair_order x q ≡ Less
behind q x [] l all is = absurd (cc)
behind q x (e ∷ es) l all is = go (is_pair q e.0) refl (behind q x es l all.1)
  where
    go : (b : Bool) → is_pair q e.0 ≡ b → (value_at q es ≡ Some l → pair_order x q ≡ Less) → pair_order x q ≡ Less
    go true on rest = subst (λ y. pair_order x y ≡ Less) (sym (pair_is q e.0 on)) all.0
    go false off rest = rest (sym (ap (λ y. cond y (Some e.1) (value_at q es)) off) ∙ is)

not_both : (q x : Pair) (l : Lease) → pair_order q x ≡ Less → pair_order x q ≡ Less → ⊥
not_both q x l one two =
    let other : pair_order q x ≡ Greater = kept_total.antisymm (kept_at (q, l)) (kept_at (x, l)) ∙ ap ordering_reverse two in
    cc

-- where a pair has a lease, one that is put takes its place
pub put_over : (q : Pair) (es : Entries) (l w : Lease) → IsStrictlySortedBy pair_order (keys_of es) → value_at q es ≡ Some l → insert_entry pair_order es q w ≡ set_value (is_pair q) es w
put_over q [] l w sorted is = absurd (cc)
put_over q (e ∷ es) l w sorted is = go (pair_order q e.0) refl (λ there. put_over q es l w (sorted_tail pair_order e.0 (keys_of es) sorted) there)
  where
    later : (o : Ordering) → is_eq o ≡ false → pair_order q e.0 ≡ o → value_at q es ≡ Some l
    later o off same = sym (ap (λ y. cond (is_eq y) (Some e.1) (value_at q es)) same ∙ ap (λ b. cond b (Some e.1) (value_at q es)) off) ∙ is

    go : (o : Ordering) → pair_order q e.0 ≡ o → (value_at q es ≡ Some l → insert_entry pair_order es q w ≡ set_value (is_pair q) es w)
        → match_ordering o ((q, w) ∷ e ∷ es) ((e.0, w) ∷ es) (e ∷ insert_entry pair_order es q w) ≡ cond (is_eq o) ((e.0, w) ∷ es) (e ∷ set_value (is_pair q) es w)
    go Less less rest = absurd (not_both q e.0 l less (behind q e.0 es l (sorted_head pair_order e.0 (keys_of es) sorted) (later Less refl less)))
    go Equal same rest = refl
    go Greater more rest = ap (λ fs. e ∷ fs) (rest (later Greater refl more))

-- a lease that takes its own place changes nothing
set_same : (q : Pair) (es : Entries) (l : Lease) → value_at q es ≡ Some l → set_value (is_pair q) es l ≡ es
set_same q [] l is = refl
set_same q (e ∷ es) l is = go (is_pair q e.0) refl (set_same q es l)
  where
    go : (b : Bool) → is_pair q e.0 ≡ b → (value_at q es ≡ Some l → set_value (is_pair q) es l ≡ es) → set_value (is_pair q) (e ∷ es) l ≡ e ∷ es
    go true on rest =
        let one = some_same e.1 l (sym (ap (λ y. cond y (Some e.1) (value_at q es)) on) ∙ is) in
        ap (λ y. cond y ((e.0, l) ∷ es) (e ∷ set_value (is_pair q) es l)) on ∙ ap (λ v. (e.0, v) ∷ es) (sym one)
    go false off rest =
        ap (λ y. cond y ((e.0, l) ∷ es) (e ∷ set_value (is_pair q) es l)) off
        ∙ ap (λ fs. e ∷ fs) (rest (sym (ap (λ y. cond y (Some e.1) (value_at q es)) off) ∙ is))

-- the map after a lease took the place of the one at a pair, as `RenewEnds` says
module _ (m n : BTreeMap Pair Lease) (item : WheelItem) (expiry : Moment) (value : List ℕ) (ds new : List Leased) (bytes : ℕ) (can : CanPut m.entries ds bytes)
    (q : Pair) (pair : q ≡ pair_of item.key item.version) (l w : Lease) (had : value_at q m.entries ≡ Some l)
    (updates : Updates pair_order m n q (Some w)) (put : n.entries ≡ insert_entry pair_order m.entries q w) (ordered : IsOrdered pair_order m) where
  abbrev t : Kept
  t = put_value item.key item.version expiry value

  there : value_at (pair_of item.key item.version) m.entries ≡ Some l
  there = ap (λ r. value_at r m.entries) (sym pair) ∙ had

  same : w ≡ l → n.entries ≡ m.entries
  same is = put ∙ put_over q m.entries l w ordered had ∙ ap (set_value (is_pair q) m.entries) is ∙ set_same q m.entries l had

  unchanged : w ≡ l → new ≡ ds → AreTied n.entries new
  unchanged is stood = subst (λ fs. AreTied fs new) (sym (same is)) (subst (AreTied m.entries) (sym stood) can.tied)

  renewed : IsRenewed l w ds new item → AreTied n.entries new
  renewed r = tied_replaced m.entries n.entries ds r.mid q w (is_put m n ds r.mid q (pair_of item.key item.version) w updates pair r.is) can.tied l had r.in_turn r.gone new r.left

  pub renewed_tied : (r : Result (Option ℕ) OutOfMemory) → RenewEnds l w ds new bytes item expiry value r → AreTied n.entries new
  renewed_tied (Ok None) e = unchanged e.1 e.2
  renewed_tied (Ok (Some left)) e = renewed e.4
  renewed_tied (Err x) e = unchanged e.1 e.2

  pub renewed_ends : (r : Result (Option ℕ) OutOfMemory) → RenewEnds l w ds new bytes item expiry value r → IfOk r (PutEnds t (kept_in m.entries) (kept_in n.entries))
  renewed_ends (Ok None) e = (full_there item.key item.version expiry value m.entries ds bytes (length value) can refl l (length l.value) there refl e.0, ap kept_in (same e.1))
  renewed_ends (Ok (Some left)) e =
      let all = ap kept_in put ∙ kept_put t q w m.entries pair e.2 e.3 in
      subst (λ b. PutEnds t (kept_in m.entries) (kept_in n.entries) (Some b)) (sym e.1) (put_there item.key item.version expiry value m.entries ds bytes (length value) can refl l (length l.value) there refl n.entries e.0 all)
  renewed_ends (Err x) e = tt

  pub renewed_err : (r : Result (Option ℕ) OutOfMemory) → RenewEnds l w ds new bytes item expiry value r → OnErr r (n.entries ≡ m.entries)
  renewed_err (Ok x) e = tt
  renewed_err (Err x) e = same e.1

  pub renewed_room : (r : Result (Option ℕ) OutOfMemory) → RenewEnds l w ds new bytes item expiry value r → OnErr r (is_full (kept_in m.entries) t ≡ false)
  renewed_room (Ok x) e = tt
  renewed_room (Err x) e = room_there item.key item.version expiry value m.entries ds bytes (length value) can refl l (length l.value) there refl e.0
