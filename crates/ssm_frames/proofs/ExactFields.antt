-- The fields of frames are exact.
use Rattle.std.proofs.Common.{◌≡◌, ℕ, ◌^◌, ◌<◌, ◌≤◌, false, cond, nat_lt, List, ◌++◌, length, take, Some, None, refl, sym, ap, subst, ◌∙◌, append_assoc, arith}
use Rattle.std.specs.Int.{w16}
use Rattle.std.proofs.lemmas.Bool.Decides.{nat_tests}
use Rattle.std.proofs.lemmas.List.{take_at}
use Rattle.std.proofs.lemmas.List.Elements.{All-take}
use Rattle.crash_base.specs.declared.bounded.TheConstants.{MAX_SESSION_BYTES}
use Rattle.byte_fields.specs.Reading.{bytes_at, number_at}
use Rattle.byte_fields.specs.Spelling.{AreBytes, u16_bytes}
use Rattle.byte_fields.proofs.Exact.{IsExact, Takes, Takes-then, bound, unless_some}
use Rattle.byte_fields.proofs.ExactFields.{bytes_exact, u16_exact, u32_exact, u64_exact}
use Rattle.byte_fields.proofs.MadeFields.{made_exact, both_exact}
use Rattle.ssm_frames.specs.declared.fields.Subject.{Subject}
use Rattle.ssm_frames.specs.declared.fields.Sender.{Sender}
use Rattle.ssm_frames.specs.Reading.{version_at, key_at, subject_at, sender_at, moment_at, value_at}
use Rattle.ssm_frames.specs.Spelling.{version_bytes, subject_bytes, sender_bytes, moment_bytes, value_bytes, IsVersion, IsKey, IsValue, IsMoment, IsSubject, IsSender}

-- bytes, so many of them
bytes_in_range : (size : ℕ) → IsExact (bytes_at size) (λ bytes. bytes) (λ bytes. (length bytes ≡ size) × AreBytes bytes)
bytes_in_range size = record {
  takes = λ bytes x rest are e.
      let t = (bytes_exact size).takes bytes x rest are e in
      let front : take size bytes ≡ x = ap (take size) t.0.parts ∙ take_at x rest size t.1 in
      (t.0, (t.1, subst AreBytes front (All-take (λ b. b < 2 ^ 8) size bytes are)));
  again = λ x rest h. (bytes_exact size).again x rest h.0;
}

pub version_exact : IsExact version_at version_bytes IsVersion
unfolding version_at version_bytes
version_exact = made_exact (λ n. record { node = n.0; boot = n.1.0; serial = n.1.1 }) (λ v. (v.node, (v.boot, v.serial))) version_bytes IsVersion (both_exact u16_exact (both_exact u32_exact u64_exact)) (record {
  spelled = λ x h. refl;
  is_in = λ x h. record { node = h.0; boot = h.1.0; serial = h.1.1 };
  found = λ v h. refl;
  found_spelled = λ v h. refl;
  found_in = λ v h. (h.node, (h.boot, h.serial));
})

pub key_exact : IsExact key_at (λ key. key.0) IsKey
unfolding key_at
key_exact = made_exact (λ key. record { 0 = key }) (λ key. key.0) (λ key. key.0) IsKey (bytes_in_range 16) (record {
  spelled = λ x h. refl;
  is_in = λ x h. record { size = h.0; bytes = h.1 };
  found = λ key h. refl;
  found_spelled = λ key h. refl;
  found_in = λ key h. (h.size, h.bytes);
})

-- what spells a subject, and which are in range
abbrev pub spell_subject : Subject → List ℕ
spell_subject s = subject_bytes s.nonce s.key s.version

abbrev pub SubjectIsIn : Subject → Type 0
SubjectIsIn s = IsSubject s.nonce s.key s.version

pub subject_exact : IsExact subject_at spell_subject SubjectIsIn
unfolding subject_at subject_bytes
subject_exact = made_exact (λ s. record { nonce = s.0; key = s.1.0; version = s.1.1 }) (λ s. (s.nonce, (s.key, s.version))) spell_subject SubjectIsIn (both_exact version_exact (both_exact key_exact version_exact)) (record {
  spelled = λ x h. refl;
  is_in = λ x h. (h.0, h.1.0, h.1.1);
  found = λ s h. refl;
  found_spelled = λ s h. refl;
  found_in = λ s h. (h.0, (h.1, h.2));
})

-- what spells a sender, and which are in range
abbrev pub spell_sender : Sender → List ℕ
spell_sender s = sender_bytes s.brick s.incarnation

abbrev pub SenderIsIn : Sender → Type 0
SenderIsIn s = IsSender s.brick s.incarnation

pub sender_exact : IsExact sender_at spell_sender SenderIsIn
unfolding sender_at sender_bytes
sender_exact = made_exact (λ s. record { brick = record { 0 = s.0 }; incarnation = s.1 }) (λ s. (s.brick.0, s.incarnation)) spell_sender SenderIsIn (both_exact u16_exact u64_exact) (record {
  spelled = λ x h. refl;
  is_in = λ x h. h;
  found = λ s h. refl;
  found_spelled = λ s h. refl;
  found_in = λ s h. h;
})

pub moment_exact : IsExact moment_at moment_bytes IsMoment
unfolding moment_at moment_bytes
moment_exact = made_exact (λ n. record { 0 = n }) (λ m. m.0) moment_bytes IsMoment u64_exact (record {
  spelled = λ x h. refl;
  is_in = λ x h. h;
  found = λ m h. refl;
  found_spelled = λ m h. refl;
  found_in = λ m h. h;
})

value_takes : (bytes value rest : List ℕ) → AreBytes bytes → value_at bytes ≡ Some (value, rest) → Takes bytes (value_bytes value) rest × IsValue value
unfolding value_at value_bytes
value_takes bytes value rest are e =
    let b = bound (number_at w16 bytes) (λ (n : ℕ × List ℕ). cond (nat_lt MAX_SESSION_BYTES n.0) None (bytes_at n.0 n.1)) (value, rest) e in
    let n = b.value in
    let g = unless_some (nat_lt MAX_SESSION_BYTES n.0) (bytes_at n.0 n.1) (value, rest) b.next in
    let t = u16_exact.takes bytes n.0 n.1 are b.is in
    let u = (bytes_in_range n.0).takes n.1 value rest t.0.rest_are g.1 in
    let both = Takes-then bytes (u16_bytes n.0) n.1 value rest t.0 u.0 in
    let P : ℕ → Type 0 = λ k. Takes bytes (u16_bytes k ++ value) rest in
    let few : n.0 ≤ MAX_SESSION_BYTES = grind (arith, nat_tests) in
    (subst P (sym u.1.0) both, record { few = rw u.1.0 few; bytes = u.1.1 })

value_again : (value rest : List ℕ) → IsValue value → value_at (value_bytes value ++ rest) ≡ Some (value, rest)
unfolding value_at value_bytes
value_again value rest h =
    let few = h.few in
    let short : nat_lt MAX_SESSION_BYTES (length value) ≡ false = grind (arith, nat_tests) in
    let below : length value < 2 ^ 16 = omega arith in
    let n = u16_exact.again (length value) (value ++ rest) below in
    let v = (bytes_exact (length value)).again value rest refl in
    ap value_at (append_assoc (u16_bytes (length value)) value rest) ∙ rw (n, short, v) refl

pub value_exact : IsExact value_at value_bytes IsValue
value_exact = record { takes = value_takes; again = value_again }
