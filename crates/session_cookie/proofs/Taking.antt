-- Fields that are taken off bytes.
use Rattle.std.proofs.Common.{arith, ◌≡◌, ℕ, ◌+◌, ◌-◌, ◌≤◌, List, ◌++◌, length, take, drop, subst, sym, ap, ◌∙◌}
use Rattle.std.proofs.lemmas.List.{take-append-drop, length-take-le, length-drop, length-append, append_assoc}
use Rattle.std.proofs.lemmas.Nat.{be_bytes_2, be_bytes_4, be_bytes_8}
use Rattle.std.specs.Int.{w16, w32, w64, to_be_bytes, from_be_bytes}
use Rattle.base64.specs.GeneralPurpose.{IsBytes}
use Rattle.base64.proofs.EngineFacts.{front_bytes}
use Rattle.crash_base.specs.BigEndian.{TakesField}
use Rattle.session_cookie.specs.Reading.{IsTaken}

-- the first of bytes are bytes
first_bytes : (size : ℕ) (bytes : List ℕ) → IsBytes bytes → IsBytes (take size bytes)
first_bytes size bytes small =
    let P : List ℕ → Type 0 = λ b. IsBytes b in
    front_bytes (take size bytes) (drop size bytes) (subst P (sym (take-append-drop size bytes)) small)

-- a field of this size is what was written for its number
taken : (size : ℕ) (field bytes rest : List ℕ) → field ≡ take size bytes → size ≤ length bytes → rest ≡ drop size bytes → IsTaken field bytes rest
taken size field bytes rest same there left = record {
  parts = sym (take-append-drop size bytes) ∙ ap (λ f. f ++ drop size bytes) (sym same) ∙ ap (λ r. field ++ r) (sym left);
  sizes =
      let f : length field ≡ size = ap length same ∙ length-take-le size bytes there in
      let r : length rest ≡ length bytes - size = ap length left ∙ length-drop size bytes in
      omega arith;
}

pub two_taken : (bytes : List ℕ) (number : ℕ) (rest : List ℕ) → IsBytes bytes → TakesField 2 bytes (from_be_bytes w16 (take 2 bytes)) number rest → IsTaken (to_be_bytes w16 number) bytes rest
two_taken bytes number rest small t =
    taken 2 (to_be_bytes w16 number) bytes rest (be_bytes_2 (take 2 bytes) number (length-take-le 2 bytes t.there) (first_bytes 2 bytes small) t.taken_is) t.there t.rest_is

pub four_taken : (bytes : List ℕ) (number : ℕ) (rest : List ℕ) → IsBytes bytes → TakesField 4 bytes (from_be_bytes w32 (take 4 bytes)) number rest → IsTaken (to_be_bytes w32 number) bytes rest
four_taken bytes number rest small t =
    taken 4 (to_be_bytes w32 number) bytes rest (be_bytes_4 (take 4 bytes) number (length-take-le 4 bytes t.there) (first_bytes 4 bytes small) t.taken_is) t.there t.rest_is

pub eight_taken : (bytes : List ℕ) (number : ℕ) (rest : List ℕ) → IsBytes bytes → TakesField 8 bytes (from_be_bytes w64 (take 8 bytes)) number rest → IsTaken (to_be_bytes w64 number) bytes rest
eight_taken bytes number rest small t =
    taken 8 (to_be_bytes w64 number) bytes rest (be_bytes_8 (take 8 bytes) number (length-take-le 8 bytes t.there) (first_bytes 8 bytes small) t.taken_is) t.there t.rest_is

-- two fields, one after the other
pub taken_more : (one other bytes rest after : List ℕ) → IsTaken one bytes rest → IsTaken other rest after → IsTaken (one ++ other) bytes after
taken_more one other bytes rest after t u = record {
  parts = t.parts ∙ ap (λ r. one ++ r) u.parts ∙ sym (append_assoc one other after);
  sizes = let l = length-append one other in omega (arith, l, t.sizes, u.sizes);
}

-- a field that is the first bytes
pub first_taken : (size : ℕ) (field bytes rest : List ℕ) → field ≡ take size bytes → rest ≡ drop size bytes → length rest + size ≡ length bytes → IsTaken field bytes rest × (length field ≡ size)
first_taken size field bytes rest same left sizes = (taken size field bytes rest same (omega arith) left, ap length same ∙ length-take-le size bytes (omega arith))
