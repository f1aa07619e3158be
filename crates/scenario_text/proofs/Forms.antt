-- How bytes go on by two digits.
use Rattle.std.proofs.Common.{◌≡◌, ℕ, List, [], ◌∷◌, length, drop, slice_index, ◌++◌, ◌≤◌, Option, Some, None, option_and_then, refl, ap, append_assoc, arith}
use Rattle.std.specs.Option.{option_map}
use Rattle.scenario_text.specs.Fields.{hex_byte, bytes_of_digits}

-- bytes before what follows, one more of them
byte_more : (before : List ℕ) (byte : ℕ) (rest : Option (List ℕ)) (r : Option ℕ) → Some byte ≡ r → option_map (λ more. (before ++ byte ∷ []) ++ more) rest ≡ option_map (λ more. before ++ more) (option_and_then (λ b. option_map (λ more. b ∷ more) rest) r)
byte_more before byte None r e = rw (← e) refl
byte_more before byte (Some bs) r e = rw (← e) (ap Some (append_assoc before (byte ∷ []) bs))

-- two digits more
pub digits_more : (before rest : List ℕ) (byte : ℕ) → 2 ≤ length rest → Some byte ≡ hex_byte (slice_index rest 0) (slice_index rest 1) → option_map (λ more. (before ++ byte ∷ []) ++ more) (bytes_of_digits (drop 2 rest)) ≡ option_map (λ more. before ++ more) (bytes_of_digits rest)
digits_more before [] byte h e = absurd (omega arith)
digits_more before (a ∷ []) byte h e = absurd (omega arith)
digits_more before (a ∷ b ∷ bs) byte h e = byte_more before byte (bytes_of_digits bs) (hex_byte a b) e
