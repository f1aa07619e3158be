-- The laws of frames: what is decoded spells the frame, and what spells a frame is decoded to it.
use Rattle.std.proofs.Common.{◌≡◌, ◌↔◌, ℕ, ◌==◌, ◌^◌, ◌<◌, Bool, true, false, cond, List, [], ◌∷◌, ◌++◌, length, Option, Some, None, refl, sym, ap, subst, ◌∙◌, arith}
use Rattle.std.specs.Option.{option_map}
use Rattle.std.proofs.lemmas.Bool.Decides.{nat_tests}
use Rattle.std.proofs.lemmas.List.{append-nil, nil_from_length}
use Rattle.std.proofs.lemmas.List.Elements.{All-tail}
use Rattle.std.proofs.lemmas.Option.{cond_some}
use Rattle.byte_fields.specs.Reading.{Field, made}
use Rattle.byte_fields.specs.Spelling.{AreBytes}
use Rattle.byte_fields.proofs.Exact.{IsExact, Takes}
use Rattle.byte_fields.proofs.ExactFields.{u32_exact, u64_exact}
use Rattle.crash_base.proofs.Options.{then_some, map_some}
use Rattle.byte_fields.proofs.MadeFields.{both_exact}
use Rattle.ssm_frames.specs.declared.frame.Frame.{Frame}
use Rattle.ssm_frames.specs.declared.frame.Frame.TheVariants.{Put, Get, Sweep, Stored, Found, Absent, BrickFull, Swept}
use Rattle.ssm_frames.specs.Reading.{whole, put_at, get_at, sweep_at, stored_at, found_at, absent_at, brick_full_at, swept_at, frame_behind, frame_at, decode_of}
use Rattle.ssm_frames.specs.Spelling.{encode_of, IsInRange, Spells}
use Rattle.ssm_frames.proofs.ExactFields.{version_exact, subject_exact, sender_exact, moment_exact, value_exact}

-- a first byte and bytes behind it spell a frame in its ranges, before a rest
abbrev Begins : ℕ → List ℕ → Frame → List ℕ → Type 0
Begins first bytes frame rest = Takes (first ∷ bytes) (encode_of frame) rest × IsInRange frame

-- a frame made of exact fields
made_takes : {A : Type 0} {field : Field A} {spell : A → List ℕ} {IsIn : A → Type 0} (tag : ℕ) (make : A → Frame) → IsExact field spell IsIn → ((x : A) → tag ∷ spell x ≡ encode_of (make x)) → ((x : A) → IsIn x → IsInRange (make x)) → (bytes : List ℕ) (frame : Frame) (rest : List ℕ) → AreBytes bytes → made make field bytes ≡ Some (frame, rest) → Begins tag bytes frame rest
made_takes {A} {field} {spell} {IsIn} tag make exact spelled is_in bytes frame rest are e =
    let (x, xe, fe) = map_some (λ (x : A × List ℕ). (make x.0, x.1)) (field bytes) (frame, rest) e in
    let t = exact.takes bytes x.0 x.1 are xe in
    let P : Frame × List ℕ → Type 0 = λ z. Begins tag bytes z.0 z.1 in
    let parts : tag ∷ bytes ≡ encode_of (make x.0) ++ x.1 = ap (λ s. tag ∷ s) t.0.parts ∙ ap (λ s. s ++ x.1) (spelled x.0) in
    subst P fe (record { parts = parts; rest_are = t.0.rest_are }, is_in x.0 t.1)

-- one first byte more
form : (tag first : ℕ) (bytes : List ℕ) (frame : Frame) (rest : List ℕ) (here later : Option (Frame × List ℕ)) → (here ≡ Some (frame, rest) → Begins tag bytes frame rest) → (later ≡ Some (frame, rest) → Begins first bytes frame rest) → cond (first == tag) here later ≡ Some (frame, rest) → Begins first bytes frame rest
form tag first bytes frame rest here later f g h =
    let go : (b : Bool) → (first == tag) ≡ b → cond b here later ≡ Some (frame, rest) → Begins first bytes frame rest = elim [
      | true ↦ λ e k.
          let same : tag ≡ first = grind (arith, nat_tests) in
          let P : ℕ → Type 0 = λ n. Begins n bytes frame rest in
          subst P same (f k)
      | false ↦ λ e k. g k
    ] in
    go (first == tag) refl h

put_takes : (bytes : List ℕ) (frame : Frame) (rest : List ℕ) → AreBytes bytes → put_at bytes ≡ Some (frame, rest) → Begins 0x01 bytes frame rest
unfolding put_at encode_of
put_takes = made_takes 0x01 (λ f. Put f.0.nonce f.0.key f.0.version f.1.0 f.1.1) (both_exact subject_exact (both_exact moment_exact value_exact)) (λ x. refl) (λ x h. (h.0, h.1.0, h.1.1))

get_takes : (bytes : List ℕ) (frame : Frame) (rest : List ℕ) → AreBytes bytes → get_at bytes ≡ Some (frame, rest) → Begins 0x02 bytes frame rest
unfolding get_at encode_of
get_takes = made_takes 0x02 (λ f. Get f.nonce f.key f.version) subject_exact (λ x. refl) (λ x h. h)

sweep_takes : (bytes : List ℕ) (frame : Frame) (rest : List ℕ) → AreBytes bytes → sweep_at bytes ≡ Some (frame, rest) → Begins 0x03 bytes frame rest
unfolding sweep_at encode_of
sweep_takes = made_takes 0x03 (λ f. Sweep f.0 f.1) (both_exact version_exact moment_exact) (λ x. refl) (λ x h. h)

stored_takes : (bytes : List ℕ) (frame : Frame) (rest : List ℕ) → AreBytes bytes → stored_at bytes ≡ Some (frame, rest) → Begins 0x81 bytes frame rest
unfolding stored_at encode_of
stored_takes = made_takes 0x81 (λ f. Stored f.0.nonce f.0.key f.0.version f.1.brick f.1.incarnation) (both_exact subject_exact sender_exact) (λ x. refl) (λ x h. h)

found_takes : (bytes : List ℕ) (frame : Frame) (rest : List ℕ) → AreBytes bytes → found_at bytes ≡ Some (frame, rest) → Begins 0x82 bytes frame rest
unfolding found_at encode_of
found_takes = made_takes 0x82 (λ f. Found f.0.nonce f.0.key f.0.version f.1.0.brick f.1.0.incarnation f.1.1.0 f.1.1.1) (both_exact subject_exact (both_exact sender_exact (both_exact moment_exact value_exact))) (λ x. refl) (λ x h. (h.0, h.1.0, h.1.1.0, h.1.1.1))

absent_takes : (bytes : List ℕ) (frame : Frame) (rest : List ℕ) → AreBytes bytes → absent_at bytes ≡ Some (frame, rest) → Begins 0x83 bytes frame rest
unfolding absent_at encode_of
absent_takes = made_takes 0x83 (λ f. Absent f.0.nonce f.0.key f.0.version f.1.0.brick f.1.0.incarnation f.1.1) (both_exact subject_exact (both_exact sender_exact moment_exact)) (λ x. refl) (λ x h. (h.0, h.1.0, h.1.1))

brick_full_takes : (bytes : List ℕ) (frame : Frame) (rest : List ℕ) → AreBytes bytes → brick_full_at bytes ≡ Some (frame, rest) → Begins 0x84 bytes frame rest
unfolding brick_full_at encode_of
brick_full_takes = made_takes 0x84 (λ f. BrickFull f.0.nonce f.0.key f.0.version f.1.0.brick f.1.0.incarnation f.1.1.0 f.1.1.1) (both_exact subject_exact (both_exact sender_exact (both_exact u32_exact u64_exact))) (λ x. refl) (λ x h. (h.0, h.1.0, h.1.1.0, h.1.1.1))

swept_takes : (bytes : List ℕ) (frame : Frame) (rest : List ℕ) → AreBytes bytes → swept_at bytes ≡ Some (frame, rest) → Begins 0x85 bytes frame rest
unfolding swept_at encode_of
swept_takes = made_takes 0x85 (λ f. Swept f.0 f.1.0.brick f.1.0.incarnation f.1.1) (both_exact version_exact (both_exact sender_exact moment_exact)) (λ x. refl) (λ x h. (h.0, h.1.0, h.1.1))

behind_takes : (first : ℕ) (bytes : List ℕ) (frame : Frame) (rest : List ℕ) → AreBytes bytes → frame_behind first bytes ≡ Some (frame, rest) → Begins first bytes frame rest
behind_takes first bytes frame rest are h =
    form 0x01 first bytes frame rest (put_at bytes) _ (put_takes bytes frame rest are) (
    form 0x02 first bytes frame rest (get_at bytes) _ (get_takes bytes frame rest are) (
    form 0x03 first bytes frame rest (sweep_at bytes) _ (sweep_takes bytes frame rest are) (
    form 0x81 first bytes frame rest (stored_at bytes) _ (stored_takes bytes frame rest are) (
    form 0x82 first bytes frame rest (found_at bytes) _ (found_takes bytes frame rest are) (
    form 0x83 first bytes frame rest (absent_at bytes) _ (absent_takes bytes frame rest are) (
    form 0x84 first bytes frame rest (brick_full_at bytes) _ (brick_full_takes bytes frame rest are) (
    form 0x85 first bytes frame rest (swept_at bytes) None (swept_takes bytes frame rest are) (λ k. cc)))))))) h

-- what is read off the front of bytes spells the frame
frame_takes : (bytes : List ℕ) (frame : Frame) (rest : List ℕ) → AreBytes bytes → frame_at bytes ≡ Some (frame, rest) → (bytes ≡ encode_of frame ++ rest) × IsInRange frame
unfolding frame_at
frame_takes [] frame rest are h = absurd cc
frame_takes (first ∷ bytes) frame rest are h = let b = behind_takes first bytes frame rest (All-tail (λ b. b < 2 ^ 8) first bytes are) h in (b.0.parts, b.1)

-- a frame made of exact fields, read again
made_again : {A : Type 0} {field : Field A} {spell : A → List ℕ} {IsIn : A → Type 0} (make : A → Frame) → IsExact field spell IsIn → (x : A) (rest : List ℕ) → IsIn x → made make field (spell x ++ rest) ≡ Some (make x, rest)
made_again {A} make exact x rest h = ap (option_map (λ (x : A × List ℕ). (make x.0, x.1))) (exact.again x rest h)

-- what spells a frame is read as it, whatever follows
pub frame_again : (frame : Frame) (rest : List ℕ) → IsInRange frame → frame_at (encode_of frame ++ rest) ≡ Some (frame, rest)
unfolding frame_at encode_of put_at get_at sweep_at stored_at found_at absent_at brick_full_at swept_at
frame_again (Put nonce key version expiry value) rest h = made_again (λ f. Put f.0.nonce f.0.key f.0.version f.1.0 f.1.1) (both_exact subject_exact (both_exact moment_exact value_exact)) (record { nonce = nonce; key = key; version = version }, (expiry, value)) rest (h.0, (h.1, h.2))
frame_again (Get nonce key version) rest h = made_again (λ f. Get f.nonce f.key f.version) subject_exact (record { nonce = nonce; key = key; version = version }) rest h
frame_again (Sweep nonce moment) rest h = made_again (λ f. Sweep f.0 f.1) (both_exact version_exact moment_exact) (nonce, moment) rest h
frame_again (Stored nonce key version brick incarnation) rest h = made_again (λ f. Stored f.0.nonce f.0.key f.0.version f.1.brick f.1.incarnation) (both_exact subject_exact sender_exact) (record { nonce = nonce; key = key; version = version }, record { brick = brick; incarnation = incarnation }) rest h
frame_again (Found nonce key version brick incarnation expiry value) rest h = made_again (λ f. Found f.0.nonce f.0.key f.0.version f.1.0.brick f.1.0.incarnation f.1.1.0 f.1.1.1) (both_exact subject_exact (both_exact sender_exact (both_exact moment_exact value_exact))) (record { nonce = nonce; key = key; version = version }, (record { brick = brick; incarnation = incarnation }, (expiry, value))) rest (h.0, (h.1, (h.2, h.3)))
frame_again (Absent nonce key version brick incarnation swept) rest h = made_again (λ f. Absent f.0.nonce f.0.key f.0.version f.1.0.brick f.1.0.incarnation f.1.1) (both_exact subject_exact (both_exact sender_exact moment_exact)) (record { nonce = nonce; key = key; version = version }, (record { brick = brick; incarnation = incarnation }, swept)) rest (h.0, (h.1, h.2))
frame_again (BrickFull nonce key version brick incarnation entries bytes) rest h = made_again (λ f. BrickFull f.0.nonce f.0.key f.0.version f.1.0.brick f.1.0.incarnation f.1.1.0 f.1.1.1) (both_exact subject_exact (both_exact sender_exact (both_exact u32_exact u64_exact))) (record { nonce = nonce; key = key; version = version }, (record { brick = brick; incarnation = incarnation }, (entries, bytes))) rest (h.0, (h.1, (h.2, h.3)))
frame_again (Swept nonce brick incarnation moment) rest h = made_again (λ f. Swept f.0 f.1.0.brick f.1.0.incarnation f.1.1) (both_exact version_exact (both_exact sender_exact moment_exact)) (nonce, (record { brick = brick; incarnation = incarnation }, moment)) rest (h.0, (h.1, h.2))

-- what bytes are decoded to, they spell
pub decoded_spells : (bytes : List ℕ) (frame : Frame) → AreBytes bytes → decode_of bytes ≡ Some frame → Spells bytes frame
unfolding decode_of
decoded_spells bytes frame are h =
    let (x, xe, he) = then_some (λ (x : Frame × List ℕ). cond (length x.1 == 0) (Some x.0) None) (frame_at bytes) frame h in
    let g = cond_some (length x.1 == 0) x.0 frame he in
    let none : length x.1 ≡ 0 = grind (arith, nat_tests) in
    let t = frame_takes bytes x.0 x.1 are xe in
    let is : bytes ≡ encode_of x.0 = t.0 ∙ ap (λ rest. encode_of x.0 ++ rest) (nil_from_length x.1 none) ∙ append-nil (encode_of x.0) in
    subst (Spells bytes) g.1 (record { in_range = t.1; bytes_are = is })

-- what spells a frame is read as it, and nothing is left
frame_alone : (frame : Frame) → IsInRange frame → frame_at (encode_of frame) ≡ Some (frame, [])
frame_alone frame h = ap frame_at (sym (append-nil (encode_of frame))) ∙ frame_again frame [] h

-- it is decoded to it
pub decoded_back : (frame : Frame) → IsInRange frame → decode_of (encode_of frame) ≡ Some frame
unfolding decode_of
decoded_back frame h = ap whole (frame_alone frame h)

-- what spells a frame is decoded to it
pub spelled_decodes : (bytes : List ℕ) (frame : Frame) → Spells bytes frame → decode_of bytes ≡ Some frame
spelled_decodes bytes frame s = ap decode_of s.bytes_are ∙ decoded_back frame s.in_range

-- where bytes spell no frame
pub none_spelled : (bytes : List ℕ) → AreBytes bytes → (decode_of bytes ≡ None) ↔ ((frame : Frame) → Spells bytes frame → ⊥)
none_spelled bytes are =
    let go : (o : Option Frame) → decode_of bytes ≡ o → ((frame : Frame) → Spells bytes frame → ⊥) → o ≡ None = elim [
      | None ↦ λ e h. refl
      | Some frame ↦ λ e h. absurd (h frame (decoded_spells bytes frame are e))
    ] in
    (λ e frame s. let back = spelled_decodes bytes frame s in cc, go (decode_of bytes) refl)

-- what follows a spelling in another is nothing
pub none_begins : (bytes more : List ℕ) (frame other : Frame) → Spells bytes frame → Spells (bytes ++ more) other → more ≡ []
none_begins bytes more frame other s t =
    let first : frame_at (bytes ++ more) ≡ Some (frame, more) = ap (λ b. frame_at (b ++ more)) s.bytes_are ∙ frame_again frame more s.in_range in
    let second : frame_at (bytes ++ more) ≡ Some (other, []) = ap frame_at t.bytes_are ∙ frame_alone other t.in_range in
    let same : Some (frame, more) ≡ Some (other, []) = sym first ∙ second in
    let parts : (frame, more) ≡ (other, []) = cc in
    ap (λ (x : Frame × List ℕ). x.1) parts
