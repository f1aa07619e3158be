-- Lanes by the places where they stand.
use Rattle.std.proofs.Common.{arith, ◌≡◌, ◌∙◌, ap, sym, ℕ, ◌+◌, ◌-◌, ◌<◌, true, nat_lt, if◌then◌else◌, List, length, Some, None, get_or, lt-ltb, refl}
use Rattle.std.specs.List.{slice_get, slice_set}
use Rattle.std.specs.Option.{option_map}
use Rattle.std.proofs.lemmas.List.{set-get_or}
use Rattle.std.proofs.lemmas.Option.{slice_get_read}
use Rattle.crash_base.specs.declared.numbers.BrickNo.{BrickNo}
use Rattle.outside.specs.Faults.{counted}
use Rattle.link_lanes.specs.Lanes.{LanesValue, lane_in, lane_of, with_lane, on_lane, more_unknown, hushed_with}

-- the lane that stands at a place
pub lane_here : {L : Type 0} (lanes : List L) (brick at : ℕ) (lane : L) → at + 1 ≡ brick → at < length lanes → lane ≡ get_or lanes at lane → lane_in lanes brick ≡ Some lane
lane_here lanes brick at lane number within here =
    let place : brick - 1 ≡ at = omega arith in
    let some : nat_lt 0 brick ≡ true = lt-ltb 0 brick (omega arith) in
    ap (λ b. if b then slice_get lanes (brick - 1) else None) some
    ∙ (ap (slice_get lanes) place ∙ slice_get_read lanes (length lanes) at lane refl within here)

-- the link after the lane at a place changed
pub changed_here : {L : Type 0} (link : LanesValue L) (brick : BrickNo) (change : L → L) (at : ℕ) (lane : L) → at + 1 ≡ brick.0 → at < length link.lanes → lane ≡ get_or link.lanes at lane → record link { lanes = slice_set link.lanes at (change lane) } ≡ on_lane brick change link
changed_here link brick change at lane number within here =
    let place : at ≡ brick.0 - 1 = omega arith in
    ap (λ i. record link { lanes = slice_set link.lanes i (change lane) }) place
    ∙ sym (ap (λ o. with_lane link brick.0 (option_map change o)) (lane_here link.lanes brick.0 at lane number within here))

-- a silence of a number without a brick
pub unknown_hushed : {L : Type 0} (silent : L → L) (link : LanesValue L) (brick : BrickNo) → lane_of link brick.0 ≡ None → record link { unknown = counted link.unknown; hushed = counted link.hushed } ≡ hushed_with silent brick link
unknown_hushed silent link brick none = sym (ap (λ o. more_unknown o (with_lane (record link { hushed = counted link.hushed }) brick.0 (option_map silent o))) none)

-- a silence of the brick whose lane stands at a place
pub lane_hushed : {L : Type 0} (silent : L → L) (link : LanesValue L) (brick : BrickNo) (at : ℕ) (lane : L) → at + 1 ≡ brick.0 → at < length link.lanes → lane ≡ get_or link.lanes at lane → record link { lanes = slice_set link.lanes at (silent lane); hushed = counted link.hushed } ≡ hushed_with silent brick link
lane_hushed silent link brick at lane number within here =
    let place : at ≡ brick.0 - 1 = omega arith in
    ap (λ i. record link { lanes = slice_set link.lanes i (silent lane); hushed = counted link.hushed }) place
    ∙ sym (ap (λ o. more_unknown o (with_lane (record link { hushed = counted link.hushed }) brick.0 (option_map silent o))) (lane_here link.lanes brick.0 at lane number within here))

-- an unchanged lane is put back
pub set_back : {L : Type 0} (lanes : List L) (at : ℕ) (lane : L) → lane ≡ get_or lanes at lane → slice_set lanes at lane ≡ lanes
set_back lanes at lane here = ap (slice_set lanes at) here ∙ set-get_or lanes at lane
