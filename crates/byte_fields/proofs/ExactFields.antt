-- The fields are exact.
use Rattle.std.proofs.Common.{◌≡◌, ℕ, zero, suc, ◌^◌, ◌<◌, ◌≤◌, Bool, true, false, cond, nat_lt, List, [], ◌∷◌, ◌++◌, length, get_or, take, drop, Option, Some, None, refl, sym, ap, subst, ◌∙◌, append_assoc, arith, inl, inr}
use Rattle.std.specs.Int.{Width, w16, w32, w64, byte_len, from_be_bytes, to_be_bytes}
use Rattle.std.specs.Str.{is_utf8}
use Rattle.std.proofs.lemmas.Grind.{common_steps}
use Rattle.std.proofs.lemmas.Bool.{cases_lt}
use Rattle.std.proofs.lemmas.Bool.Decides.{nat_tests}
use Rattle.std.proofs.lemmas.List.{take_at, drop_at, take-append-drop, length-append, length-take-le, get_or_past}
use Rattle.std.proofs.lemmas.List.Elements.{All-get_or, All-take, All-drop, All-tail}
use Rattle.std.proofs.lemmas.Nat.{be_bytes_2, be_bytes_4, be_bytes_8, from_be_bytes-to_be_bytes_2, from_be_bytes-to_be_bytes_4, from_be_bytes-to_be_bytes_8}
use Rattle.byte_fields.specs.Reading.{◌>>=◌, bytes_at, number_at, u8_at, id_at, text_at, byte_as, flag_of}
use Rattle.byte_fields.specs.Spelling.{AreBytes, u8_bytes, u16_bytes, u32_bytes, u64_bytes, text16, flag}
use Rattle.byte_fields.proofs.Exact.{bound, unless_some, if_some, Takes, Takes-then, IsExact}

-- bytes, so many of them
pub bytes_exact : (size : ℕ) → IsExact (bytes_at size) (λ bytes. bytes) (λ bytes. length bytes ≡ size)
unfolding bytes_at
bytes_exact size = record {
  takes = λ bytes x rest are e.
      let g = unless_some (nat_lt (length bytes) size) (Some (take size bytes, drop size bytes)) (x, rest) e in
      let long : size ≤ length bytes = grind (arith, nat_tests) in
      let same : (take size bytes, drop size bytes) ≡ (x, rest) = cc in
      let P : List ℕ × List ℕ → Type 0 = λ z. Takes bytes z.0 z.1 × (length z.0 ≡ size) in
      subst P same (record { parts = sym (take-append-drop size bytes); rest_are = All-drop (λ b. b < 2 ^ 8) size bytes are }, length-take-le size bytes long);
  again = λ x rest h.
      let n = length-append x rest in
      let long : nat_lt (length (x ++ rest)) size ≡ false = grind (arith, nat_tests) in
      rw (long, take_at x rest size h, drop_at x rest size h) refl;
}

-- what each byte is
each_byte : (bytes : List ℕ) → AreBytes bytes → (i : ℕ) → get_or bytes i 0 < 256
each_byte bytes are i =
    elim (cases_lt i (length bytes)) [
      | inl lt ↦ All-get_or (λ b. b < 2 ^ 8) bytes i 0 lt are
      | inr le ↦ rw (get_or_past bytes i 0 le) (omega arith)
    ]

-- how numbers of a width are spelled
record IsWide (width : Width) (limit : ℕ) : Type 0 where
  size : (n : ℕ) → length (to_be_bytes width n) ≡ byte_len width
  spelled : (bytes : List ℕ) → length bytes ≡ byte_len width → AreBytes bytes → to_be_bytes width (from_be_bytes width bytes) ≡ bytes
  again : (n : ℕ) → n < limit → from_be_bytes width (to_be_bytes width n) ≡ n
  below : (bytes : List ℕ) → AreBytes bytes → from_be_bytes width bytes < limit

wide16 : IsWide w16 (2 ^ 16)
wide16 = record {
  size = λ n. refl;
  spelled = λ bytes size are. be_bytes_2 bytes _ size (each_byte bytes are) refl;
  again = from_be_bytes-to_be_bytes_2;
  below = λ bytes are. let fits = each_byte bytes are in omega (arith, fits 0, fits 1);
}

wide32 : IsWide w32 (2 ^ 32)
wide32 = record {
  size = λ n. refl;
  spelled = λ bytes size are. be_bytes_4 bytes _ size (each_byte bytes are) refl;
  again = from_be_bytes-to_be_bytes_4;
  below = λ bytes are. let fits = each_byte bytes are in omega (arith, fits 0, fits 1, fits 2, fits 3);
}

wide64 : IsWide w64 (2 ^ 64)
wide64 = record {
  size = λ n. refl;
  spelled = λ bytes size are. be_bytes_8 bytes _ size (each_byte bytes are) refl;
  again = from_be_bytes-to_be_bytes_8;
  below = λ bytes are. let fits = each_byte bytes are in omega (arith, fits 0, fits 1, fits 2, fits 3, fits 4, fits 5, fits 6, fits 7);
}

-- a number
number_exact : (width : Width) (limit : ℕ) → IsWide width limit → IsExact (number_at width) (to_be_bytes width) (λ n. n < limit)
unfolding number_at
number_exact width limit wide = record {
  takes = λ bytes n rest are e.
      let size = byte_len width in
      let g = unless_some (nat_lt (length bytes) size) (Some (from_be_bytes width (take size bytes), drop size bytes)) (n, rest) e in
      let long : size ≤ length bytes = grind (arith, nat_tests) in
      let same : (from_be_bytes width (take size bytes), drop size bytes) ≡ (n, rest) = cc in
      let front_are = All-take (λ b. b < 2 ^ 8) size bytes are in
      let front = wide.spelled (take size bytes) (length-take-le size bytes long) front_are in
      let P : ℕ × List ℕ → Type 0 = λ z. Takes bytes (to_be_bytes width z.0) z.1 × (z.0 < limit) in
      subst P same (record { parts = sym (take-append-drop size bytes) ∙ ap (λ t. t ++ drop size bytes) (sym front); rest_are = All-drop (λ b. b < 2 ^ 8) size bytes are }, wide.below (take size bytes) front_are);
  again = λ n rest h.
      let size = byte_len width in
      let m = length-append (to_be_bytes width n) rest in
      let k = wide.size n in
      let long : nat_lt (length (to_be_bytes width n ++ rest)) size ≡ false = grind (arith, nat_tests) in
      rw (long, take_at (to_be_bytes width n) rest size k, drop_at (to_be_bytes width n) rest size k, wide.again n h) refl;
}

pub u16_exact : IsExact (number_at w16) u16_bytes (λ n. n < 2 ^ 16)
unfolding u16_bytes
u16_exact = number_exact w16 (2 ^ 16) wide16

pub u32_exact : IsExact (number_at w32) u32_bytes (λ n. n < 2 ^ 32)
unfolding u32_bytes
u32_exact = number_exact w32 (2 ^ 32) wide32

pub u64_exact : IsExact (number_at w64) u64_bytes (λ n. n < 2 ^ 64)
unfolding u64_bytes
u64_exact = number_exact w64 (2 ^ 64) wide64

u8_exact : IsExact u8_at u8_bytes (λ n. Unit {0})
unfolding u8_at u8_bytes
u8_exact = record { takes = u8_takes; again = λ n rest h. refl }
  where
    u8_takes : (bytes : List ℕ) (n : ℕ) (rest : List ℕ) → AreBytes bytes → u8_at bytes ≡ Some (n, rest) → Takes bytes (u8_bytes n) rest × Unit {0}
    u8_takes [] n rest are e = absurd cc
    u8_takes (b ∷ bs) n rest are e =
        let same : (b, bs) ≡ (n, rest) = cc in
        let P : ℕ × List ℕ → Type 0 = λ z. Takes (b ∷ bs) (z.0 ∷ []) z.1 × Unit {0} in
        subst P same (record { parts = refl; rest_are = All-tail (λ b. b < 2 ^ 8) b bs are }, tt)

-- an id
pub id_exact : IsExact id_at u64_bytes (λ n. n < 2 ^ 32)
unfolding id_at
id_exact = record {
  takes = λ bytes n rest are e.
      let b = bound (number_at w64 bytes) (λ (x : ℕ × List ℕ). cond (nat_lt x.0 (2 ^ 32)) (Some x) None) (n, rest) e in
      let g = if_some (nat_lt b.value.0 (2 ^ 32)) (Some b.value) (n, rest) b.next in
      let few : b.value.0 < 2 ^ 32 = grind (arith, nat_tests) in
      let same : b.value ≡ (n, rest) = cc in
      let t = u64_exact.takes bytes b.value.0 b.value.1 are b.is in
      let P : ℕ × List ℕ → Type 0 = λ z. Takes bytes (u64_bytes z.0) z.1 × (z.0 < 2 ^ 32) in
      subst P same (t.0, few);
  again = λ n rest h.
      let few : nat_lt n (2 ^ 32) ≡ true = grind (arith, nat_tests) in
      let wide : n < 2 ^ 64 = omega arith in
      rw (u64_exact.again n rest wide, few) refl;
}

-- a text whose length has two bytes
pub record IsText (text : List ℕ) : Type 0 where
  pub utf8 : is_utf8 text ≡ true
  pub few : length text < 2 ^ 16

pub text_exact : IsExact text_at text16 IsText
unfolding text_at text16
text_exact = record {
  takes = λ bytes x rest are e.
      let last = λ (text : List ℕ × List ℕ). cond (is_utf8 text.0) (Some text) None in
      let n = bound (number_at w16 bytes) (λ (size : ℕ × List ℕ). bytes_at size.0 size.1 >>= last) (x, rest) e in
      let b = bound (bytes_at n.value.0 n.value.1) last (x, rest) n.next in
      let g = if_some (is_utf8 b.value.0) (Some b.value) (x, rest) b.next in
      let same : b.value ≡ (x, rest) = cc in
      let t = u16_exact.takes bytes n.value.0 n.value.1 are n.is in
      let u = (bytes_exact n.value.0).takes n.value.1 b.value.0 b.value.1 t.0.rest_are b.is in
      let both = Takes-then bytes (u16_bytes n.value.0) n.value.1 b.value.0 b.value.1 t.0 u.0 in
      let Q : ℕ → Type 0 = λ k. Takes bytes (u16_bytes k ++ b.value.0) b.value.1 × (k < 2 ^ 16) in
      let q = subst Q (sym u.1) (both, t.1) in
      let P : List ℕ × List ℕ → Type 0 = λ z. Takes bytes (u16_bytes (length z.0) ++ z.0) z.1 × IsText z.0 in
      subst P same (q.0, record { utf8 = g.0; few = q.1 });
  again = λ x rest h.
      let n = u16_exact.again (length x) (x ++ rest) h.few in
      let v = (bytes_exact (length x)).again x rest refl in
      let utf8 = h.utf8 in
      ap text_at (append_assoc (u16_bytes (length x)) x rest) ∙ rw (n, v, utf8) refl;
}

-- a value that a number of one byte stands for
pub byte_exact : {A : Type 0} (make : ℕ → Option A) (number : A → ℕ) → ((n : ℕ) (x : A) → make n ≡ Some x → n ≡ number x) → ((x : A) → make (number x) ≡ Some x) → IsExact (byte_as make) (λ x. u8_bytes (number x)) (λ x. Unit {0})
byte_exact {A} make number from back = record {
  takes = λ bytes x rest are e.
      let b = bound (u8_at bytes) (λ (byte : ℕ × List ℕ). make byte.0 >>= λ (value : A). Some (value, byte.1)) (x, rest) e in
      let v = bound (make b.value.0) (λ (value : A). Some (value, b.value.1)) (x, rest) b.next in
      let same : (v.value, b.value.1) ≡ (x, rest) = cc in
      let t = u8_exact.takes bytes b.value.0 b.value.1 are b.is in
      let Q : ℕ → Type 0 = λ k. Takes bytes (u8_bytes k) b.value.1 in
      let P : A × List ℕ → Type 0 = λ z. Takes bytes (u8_bytes (number z.0)) z.1 × Unit {0} in
      subst P same (subst Q (from b.value.0 v.value v.is) t.0, tt);
  again = λ x rest h. rw (u8_exact.again (number x) rest tt, back x) refl;
}

-- the number that a truth value was found of, and that it is found of
pub flag_from : (n : ℕ) (x : Bool) → flag_of n ≡ Some x → n ≡ flag x
flag_from zero x e = let same : false ≡ x = cc in ap flag same
flag_from (suc zero) x e = let same : true ≡ x = cc in ap flag same
flag_from (suc (suc n)) x e = absurd (grind (arith, common_steps))

pub flag_back : (x : Bool) → flag_of (flag x) ≡ Some x
flag_back true = refl
flag_back false = refl

pub flag_exact : IsExact (byte_as flag_of) (λ x. u8_bytes (flag x)) (λ x. Unit {0})
flag_exact = byte_exact flag_of flag flag_from flag_back
