-- One more byte masked, and all of them.
use Rattle.std.proofs.Common.{set, ◌≡◌, ◌+◌, ◌∷◌, [], ℕ, List, take, get_or, length, bit_xor, ◌<◌, ◌≤◌, refl, sym, ◌∙◌, ap}
use Rattle.std.proofs.lemmas.List.{take_more_set, take_more, map-append, take_all}
use Rattle.session_cookie.specs.Hmac.{masked}

pub masked_more : (mask : ℕ) (out block : List ℕ) (i : ℕ) → i < length out → i < length block
    → take i out ≡ masked mask (take i block)
    → take (i + 1) (set out i (bit_xor (get_or block i 0) mask)) ≡ masked mask (take (i + 1) block)
masked_more mask out block i a b h =
    rw (take_more_set out i (bit_xor (get_or block i 0) mask) a, take_more block i 0 b, map-append (λ x. bit_xor x mask) (take i block) (get_or block i 0 ∷ []), h) refl

pub masked_all : (mask : ℕ) (out block : List ℕ) (i : ℕ) → length out ≤ i → length block ≤ i
    → take i out ≡ masked mask (take i block) → out ≡ masked mask block
masked_all mask out block i a b h = sym (take_all i out a) ∙ h ∙ ap (masked mask) (take_all i block b)
