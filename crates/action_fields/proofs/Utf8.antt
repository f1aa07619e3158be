-- A text with U+FFFD for what is no UTF-8 is UTF-8.
use Rattle.std.proofs.Common.{◌≡◌, ℕ, zero, suc, ◌+◌, ◌≤◌, ◌<◌, ◌==◌, Bool, true, false, cond, List, [], ◌∷◌, length, take, drop, slice_index, nat_lt, Option, Some, None, refl, sym, ap, subst, ◌∙◌, arith, length-drop}
use Rattle.std.specs.Prelude.{unwrap_or}
use Rattle.std.specs.Char.{encode_utf8}
use Rattle.std.specs.Int.{is_in_range}
use Rattle.std.specs.Str.{IsUtf8, is_utf8}
use Rattle.std.specs.Str.Lossy.{after_first_chunk, error_len_after_one, error_len_after_two, error_len_of_some, replacement_bytes, second_byte_max, second_byte_min, utf8_error_len, utf8_invalid_len, utf8_lossy, utf8_valid_len, valid_len_up_to}
use Rattle.std.proofs.lemmas.Bool.{eqb-true, eqb-false}
use Rattle.std.proofs.lemmas.List.{take_all}
use Rattle.std.proofs.lemmas.Str.{IsUtf8-append, IsUtf8-from_is_utf8, IsUtf8-nil, is_utf8-from_IsUtf8, utf8_lossy_empty, utf8_lossy_step, utf8_lossy-IsUtf8, utf8_valid_len_le}

either : {A : Type 0} (P : A → Type 0) (test : Bool) (x y : A) → P x → P y → P (cond test x y)
either P true x y p q = p
either P false x y p q = q

-- what is no character has a byte, where there is one
invalid_positive : (bs : List ℕ) → 0 < length bs → 0 < utf8_invalid_len bs
unfolding utf8_error_len
invalid_positive bs some =
    let P : Option ℕ → Type 0 = λ o. 0 < unwrap_or o (length bs) in
    let one : P (Some 1) = omega arith in
    let two : P (Some 2) = omega arith in
    let three : P (Some 3) = omega arith in
    let x = slice_index bs 0 in
    let third = is_in_range 0x80 0xBF (slice_index bs 2) in
    let fourth = either P (nat_lt (length bs) 4) None (Some 3) some three in
    let after_two : P (error_len_after_two bs) =
    either P (nat_lt (length bs) 3) None (cond third (cond (nat_lt (length bs) 4) None (Some 3)) (Some 2)) some
    (either P third (cond (nat_lt (length bs) 4) None (Some 3)) (Some 2) fourth two) in
    let second = is_in_range (second_byte_min x) (second_byte_max x) (slice_index bs 1) in
    let after_one : P (error_len_after_one bs) =
    either P (nat_lt (length bs) 2) None (cond second (error_len_after_two bs) (Some 1)) some
    (either P second (error_len_after_two bs) (Some 1) after_two one) in
    either P (length bs == 0) None (error_len_of_some bs) some
    (either P (is_in_range 0xC2 0xF4 x) (error_len_after_one bs) (Some 1) after_one one)

-- behind the first fault less is left
shorter : (bs : List ℕ) → (utf8_valid_len bs ≡ length bs → ⊥) → length (after_first_chunk bs) < length bs
shorter bs faulty =
    let n = utf8_valid_len bs in
    let within = utf8_valid_len_le bs in
    let invalid = invalid_positive (drop n bs) (omega (arith, length-drop n bs)) in
    omega (arith, length-drop (n + utf8_invalid_len (drop n bs)) bs)

front_is : (bs : List ℕ) (n : ℕ) → IsUtf8 (take (valid_len_up_to bs n) bs)
front_is bs zero = IsUtf8-nil
front_is bs (suc n) = by (is_utf8 (take (suc n) bs)) refl (front_is bs n)
  where
    by : (test : Bool) → is_utf8 (take (suc n) bs) ≡ test → IsUtf8 (take (valid_len_up_to bs n) bs)
        → IsUtf8 (take (cond test (suc n) (valid_len_up_to bs n)) bs)
    by true e less = IsUtf8-from_is_utf8 (take (suc n) bs) e
    by false e less = less

front_valid : (bs : List ℕ) → IsUtf8 (take (utf8_valid_len bs) bs)
unfolding utf8_valid_len
front_valid bs = front_is bs (length bs)

replacement : IsUtf8 replacement_bytes
unfolding encode_utf8
replacement = (0xFFFD ∷ [], (refl, refl))

-- the text of bytes that are UTF-8, and of those that are not, given that of what stands behind the first fault
whole : (bs : List ℕ) → utf8_valid_len bs ≡ length bs → IsUtf8 (utf8_lossy bs)
whole bs same =
    let all : take (utf8_valid_len bs) bs ≡ bs = ap (λ n. take n bs) same ∙ take_all (length bs) bs (omega arith) in
    let valid : IsUtf8 bs = subst (λ (text : List ℕ). IsUtf8 text) all (front_valid bs) in
    subst (λ (text : List ℕ). IsUtf8 text) (sym (utf8_lossy-IsUtf8 bs valid)) valid

broken : (bs : List ℕ) → (utf8_valid_len bs ≡ length bs → ⊥) → IsUtf8 (utf8_lossy (after_first_chunk bs)) → IsUtf8 (utf8_lossy bs)
broken bs differs later =
    subst (λ (text : List ℕ). IsUtf8 text) (sym (utf8_lossy_step bs differs))
    (IsUtf8-append _ _ (front_valid bs) (IsUtf8-append _ _ replacement later))

lossy_within : (k : ℕ) (bs : List ℕ) → length bs ≤ k → IsUtf8 (utf8_lossy bs)
lossy_within zero bs few = subst (λ (text : List ℕ). IsUtf8 text) (sym (utf8_lossy_empty bs (omega arith))) IsUtf8-nil
lossy_within (suc k) bs few = by (utf8_valid_len bs == length bs) refl (lossy_within k (after_first_chunk bs))
  where
    by : (test : Bool) → (utf8_valid_len bs == length bs) ≡ test
        → (length (after_first_chunk bs) ≤ k → IsUtf8 (utf8_lossy (after_first_chunk bs))) → IsUtf8 (utf8_lossy bs)
    by true e later = whole bs (eqb-true (utf8_valid_len bs) (length bs) e)
    by false e later =
        let differs = eqb-false (utf8_valid_len bs) (length bs) e in
        let less = shorter bs differs in
        broken bs differs (later (omega arith))

pub lossy_is_utf8 : (bs : List ℕ) → is_utf8 (utf8_lossy bs) ≡ true
lossy_is_utf8 bs = is_utf8-from_IsUtf8 (utf8_lossy bs) (lossy_within (length bs) bs (omega arith))
