-- Numbers that are read off bytes are in their ranges.
use Rattle.std.proofs.Common.{arith, ◌<◌, ◌^◌, ℕ, ◌+◌, List, drop}
use Rattle.std.proofs.lemmas.List.{get_or-drop}
use Rattle.std.specs.Int.{w16, w32, w64, from_be_bytes}
use Rattle.base64.specs.GeneralPurpose.{IsBytes}

pub behind_bytes : (k : ℕ) (bytes : List ℕ) → IsBytes bytes → IsBytes (drop k bytes)
behind_bytes k bytes small i = rw (get_or-drop k bytes i 0) (small (k + i))

pub below_2 : (bytes : List ℕ) → IsBytes bytes → from_be_bytes w16 bytes < 2 ^ 16
below_2 bytes small = let a = small 0 in let b = small 1 in omega (arith, a, b)

pub below_4 : (bytes : List ℕ) → IsBytes bytes → from_be_bytes w32 bytes < 2 ^ 32
below_4 bytes small =
    let a = small 0 in let b = small 1 in let c = small 2 in let d = small 3 in
    omega (arith, a, b, c, d)

pub below_8 : (bytes : List ℕ) → IsBytes bytes → from_be_bytes w64 bytes < 2 ^ 64
below_8 bytes small =
    let a = small 0 in let b = small 1 in let c = small 2 in let d = small 3 in
    let e = small 4 in let f = small 5 in let g = small 6 in let h = small 7 in
    omega (arith, a, b, c, d, e, f, g, h)
