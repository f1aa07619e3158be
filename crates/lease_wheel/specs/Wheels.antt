-- What the calls of a wheel do with its items.
use Rattle.std.specs.Prelude.{◌≡◌, ◌==◌, ◌&&◌, ◌||◌, true, ℕ, ◌+◌, nat_lt, if◌then◌else◌, Bool, List, [], ◌∷◌, ◌++◌}
use Rattle.std.specs.List.{AllByRecursion}
use denote.RawPtr.{Ptr}
use Rattle.crash_base.specs.declared.numbers.Moment.{Moment}
use Rattle.ssm_frames.specs.declared.frame.TheConstants.{SWEEP_GRACE}
use Rattle.lease_wheel.specs.declared.wheel.WheelItem.{WheelItem}
use Rattle.lease_wheel.specs.declared.wheel.WheelNode.{WheelNode}
use Rattle.lease_wheel.specs.Leased.{Leased}

-- the item at a place: of this expiry, in the node of this number, which lies here
abbrev pub placed : ℕ → ℕ → Ptr → WheelItem → Leased
placed e k p item = record { expiry = record { 0 = e }; number = k; at = p; item = item }

-- the item that has this name
abbrev pub named : WheelNode → WheelItem → Leased
named node = placed node.expiry.0 node.node.number node.node.at

-- one item more, behind those that end no later
abbrev pub with_leased : Leased → List Leased → List Leased
with_leased d [] = d ∷ []
with_leased d (x ∷ xs) = if nat_lt d.expiry.0 x.expiry.0 then d ∷ x ∷ xs else x ∷ with_leased d xs

-- whether an item comes before another: its lease ends earlier, or at the same moment, and its number is less
abbrev pub is_before : Leased → Leased → Bool
is_before d x = nat_lt d.expiry.0 x.expiry.0 || (d.expiry.0 == x.expiry.0 && nat_lt d.number x.number)

-- each item comes before all that follow it, so no name stands twice
abbrev pub AreInOrder : List Leased → Type 0
AreInOrder [] = Unit {0}
AreInOrder (d ∷ ds) = AllByRecursion (λ x. is_before d x ≡ true) ds × AreInOrder ds

-- the item stands at the place
abbrev pub HasItemAt : List Leased → ℕ → ℕ → Ptr → WheelItem → Type 0
HasItemAt ds e k p item = (xs : List Leased) × (ys : List Leased) × (ds ≡ xs ++ placed e k p item ∷ ys)

-- some item stands at the place
abbrev pub HasPlace : List Leased → ℕ → ℕ → Ptr → Type 0
HasPlace ds e k p = (item : WheelItem) × HasItemAt ds e k p item

-- new is old without the item at the place
abbrev pub LeavesPlace : List Leased → ℕ → ℕ → Ptr → WheelItem → List Leased → Type 0
LeavesPlace old e k p item new =
    (xs : List Leased) × (ys : List Leased) × (old ≡ xs ++ placed e k p item ∷ ys) × (new ≡ xs ++ ys)

-- some item has the name
abbrev pub Stands : List Leased → WheelNode → Type 0
Stands ds node = HasPlace ds node.expiry.0 node.node.number node.node.at

-- new is old without the item of the name
abbrev pub Leaves : List Leased → WheelNode → WheelItem → List Leased → Type 0
Leaves old node = LeavesPlace old node.expiry.0 node.node.number node.node.at

-- whether a sweep at a moment takes an item: the moment is past its expiry by more than the grace of 60,000 ms
abbrev pub is_due : Moment → Leased → Bool
is_due moment d = nat_lt (d.expiry.0 + SWEEP_GRACE) moment.0
