-- The items of lists are in order.
use Rattle.std.proofs.Common.{◌≡◌, ℕ, true, List, [], ◌∷◌, ◌++◌, IsTrue, nat_lt, ◌==◌, ◌&&◌, ◌||◌, arith}
use Rattle.std.specs.Map.{keys_of}
use Rattle.std.specs.List.{AllByRecursion}
use Rattle.std.specs.List.Sorted.{IsStrictlySortedBy}
use Rattle.std.specs.Ordering.{nat_cmp}
use Rattle.std.specs.declared.cmp.Ordering.TheVariants.{Less}
use Rattle.std.proofs.lemmas.Map.Keys.{sorted_head, sorted_tail}
use Rattle.std.proofs.lemmas.Bool.Decides.{nat_tests}
use Rattle.lease_list.specs.Leases.{Lease, all_above, rises}
use Rattle.lease_list.proofs.Facts.{and_out}
use Rattle.lease_wheel.specs.declared.wheel.WheelItem.{WheelItem}
use Rattle.lease_wheel.specs.Leased.{Leased}
use Rattle.lease_wheel.specs.Lists.{leased_at, leased_of, leased_in, AreSound}
use Rattle.lease_wheel.specs.Wheels.{is_before, AreInOrder}
use Rattle.lease_wheel.proofs.Finding.{Lists}

earlier : (e k i j : ℕ) → nat_cmp e k ≡ Less → (nat_lt e k || (e == k && nat_lt i j)) ≡ true
earlier e k i j less = grind (arith, nat_tests)

lower : (e i j : ℕ) → nat_lt i j ≡ true → (nat_lt e e || (e == e && nat_lt i j)) ≡ true
lower e i j less = grind (arith, nat_tests)

-- an item of an expiry comes before the later ones of its list, and before those of later lists
own_after : (e : ℕ) (m : Lease WheelItem) (ns : List (Lease WheelItem)) (rest : List Leased) → IsTrue (all_above m.number ns) → AllByRecursion (λ x. is_before (leased_at e m) x ≡ true) rest
    → AllByRecursion (λ x. is_before (leased_at e m) x ≡ true) (leased_of e ns ++ rest)
own_after e m [] rest above all = all
own_after e m (n ∷ ns) rest above all =
    let on = and_out (nat_lt m.number n.number) (all_above m.number ns) above in
    (lower e m.number n.number on.0, own_after e m ns rest on.1 all)

all_later : (e : ℕ) (m : Lease WheelItem) (es : Lists) → AllByRecursion (λ y. nat_cmp e y ≡ Less) (keys_of es) → AllByRecursion (λ x. is_before (leased_at e m) x ≡ true) (leased_in es)
all_later e m [] all = tt
all_later e m (x ∷ es) all = go x.1.nodes (all_later e m es all.1)
  where
    go : (ns : List (Lease WheelItem)) → AllByRecursion (λ y. is_before (leased_at e m) y ≡ true) (leased_in es) → AllByRecursion (λ y. is_before (leased_at e m) y ≡ true) (leased_of x.0 ns ++ leased_in es)
    go [] rest = rest
    go (n ∷ ns) rest = (earlier e x.0 m.number n.number all.0, go ns rest)

in_order_with : (e next : ℕ) (ns : List (Lease WheelItem)) (es : Lists) → IsTrue (rises next ns) → AllByRecursion (λ y. nat_cmp e y ≡ Less) (keys_of es) → AreInOrder (leased_in es)
    → AreInOrder (leased_of e ns ++ leased_in es)
in_order_with e next [] es rising all rest = rest
in_order_with e next (m ∷ ns) es rising all rest =
    let on = and_out (nat_lt m.number next) (all_above m.number ns && rises next ns) rising in
    let more = and_out (all_above m.number ns) (rises next ns) on.1 in
    (own_after e m ns (leased_in es) more.0 (all_later e m es all), in_order_with e next ns es more.1 all rest)

pub in_order : (es : Lists) → IsStrictlySortedBy nat_cmp (keys_of es) → AreSound es → AreInOrder (leased_in es)
in_order [] sorted sound = tt
in_order (x ∷ es) sorted sound =
    in_order_with x.0 x.1.next x.1.nodes es sound.0.1 (sorted_head nat_cmp x.0 (keys_of es) sorted) (in_order es (sorted_tail nat_cmp x.0 (keys_of es) sorted) sound.1)
