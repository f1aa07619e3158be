-- Lists of bytes that are compared by their differences.
use Rattle.std.proofs.Common.{arith, ◌≡◌, ◌↔◌, ◌<◌, ℕ, ◌+◌, ◌%◌, List, [], ◌∷◌, ◌++◌, length, take, get_or, bit_or, bit_xor, sym, ap, ◌∙◌}
use Rattle.std.proofs.lemmas.List.{take_more, take_more_same, length-take-le}
use Rattle.std.proofs.lemmas.Nat.{le_or_l, le_or_r}
use Rattle.std.proofs.lemmas.Nat.Bits.{bit_at_xor, bit_at-zero, bit_at-lt, same_from_bits}
use Rattle.std.specs.Int.{bit_at}
use Rattle.session_cookie.proofs.Unique.{split_same}

-- two numbers have no difference just where they are the same
xor_zero : (a b : ℕ) → bit_xor a b ≡ 0 → a ≡ b
xor_zero a b e = same_from_bits a b (λ i.
    let both : (bit_at a i + bit_at b i) % 2 ≡ 0 = sym (bit_at_xor a b i) ∙ ap (λ n. bit_at n i) e ∙ bit_at-zero i in
    let x = bit_at-lt a i in
    let y = bit_at-lt b i in
    omega (arith, both, x, y))

xor_same : (a b : ℕ) → a ≡ b → bit_xor a b ≡ 0
xor_same a b e = ap (λ n. bit_xor n b) e ∙ same_from_bits (bit_xor b b) 0 (λ i.
    let both = bit_at_xor b b i in
    let zero = bit_at-zero i in
    let x = bit_at-lt b i in
    omega (arith, both, zero, x))

or_zero : (a b : ℕ) → bit_or a b ≡ 0 → (a ≡ 0) × (b ≡ 0)
or_zero a b e = (let l = le_or_l a b in omega (arith, l, e), let r = le_or_r a b in omega (arith, r, e))

zero_or : (a b : ℕ) → a ≡ 0 → b ≡ 0 → bit_or a b ≡ 0
zero_or a b e f = ap (λ n. bit_or n b) e ∙ ap (λ n. bit_or 0 n) f

-- one more byte
pub differing_more : (d i : ℕ) (a b : List ℕ) → i < length a → i < length b → (d ≡ 0) ↔ (take i a ≡ take i b)
    → (bit_or d (bit_xor (get_or a i 0) (get_or b i 0)) ≡ 0) ↔ (take (i + 1) a ≡ take (i + 1) b)
differing_more d i a b p q so_far = (
  λ e.
      let (none, last) = or_zero d (bit_xor (get_or a i 0) (get_or b i 0)) e in
      take_more_same a b i 0 p q (so_far.0 none) (xor_zero (get_or a i 0) (get_or b i 0) last),
  λ e.
      let one : take i a ++ get_or a i 0 ∷ [] ≡ take i b ++ get_or b i 0 ∷ [] = sym (take_more a i 0 p) ∙ e ∙ take_more b i 0 q in
      let m = length-take-le i a (omega arith) in
      let n = length-take-le i b (omega arith) in
      let s = split_same (take i a) (take i b) (get_or a i 0 ∷ []) (get_or b i 0 ∷ []) (m ∙ sym n) one in
      zero_or d (bit_xor (get_or a i 0) (get_or b i 0)) (so_far.1 s.0) (xor_same (get_or a i 0) (get_or b i 0) (ap (λ l. get_or l 0 0) s.1)),
)
