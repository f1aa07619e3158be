-- Where a brick of the cookie can serve a fetch, and where none can.
use Rattle.std.proofs.Common.{◌≡◌, inl, inr, ℕ, zero, suc, ◌==◌, Bool, true, false, ◌<◌, ◌≤◌, List, [], ◌∷◌, ◌++◌, length, Some, codes, refl, sym, ap, ◌∙◌, subst, arith, append_assoc}
use Rattle.std.specs.Prelude.{slice_get}
use Rattle.std.specs.Fmt.{decimal}
use Rattle.std.specs.List.{flat_map}
use Rattle.crash_base.specs.declared.numbers.Moment.{Moment}
use Rattle.scenario_text.specs.Texts.{hex_text}
use Rattle.session_cookie.specs.declared.cookie.Holder.{Holder}
use Rattle.ssm_stub.specs.declared.cause.BrickCause.{BrickCause}
use Rattle.ssm_stub.specs.declared.cause.Cause.{Cause}
use Rattle.ssm_stub.specs.declared.cause.Cause.TheVariants as cause
use Rattle.session_lanes.specs.Lane.{LaneState}
use Rattle.session_steps.specs.Promise.{crashes, FetchMade, WasHeard, WasSweptLate, IsCause, AreCauses, CanServe, FindsValue, IsLost, IsRight, HasCrashedOrWasUnheard, NoneSweptLate}
use Rattle.session_steps.specs.Texts.{key_text, found_text, expired_text, cause_text, lost_text}

-- a brick that can serve has no cause
served_no_cause : (fetch : FetchMade) (holder : Holder) (c : Cause) → crashes holder.brick.0 fetch.since ≡ 0 → (WasSweptLate fetch holder → ⊥) → WasHeard fetch holder → IsCause fetch holder c → ⊥
served_no_cause fetch holder cause.Silent uncrashed kept heard silent =
    let one : Some heard.lane ≡ Some silent.lane = sym heard.has_lane ∙ silent.has_lane in
    let same : silent.lane ≡ heard.lane = cc in
    let drops : silent.lane.to_drop ≡ 0 = ap (λ (l : LaneState). l.to_drop) same ∙ heard.undropped in
    let loses : silent.lane.to_lose ≡ 0 = ap (λ (l : LaneState). l.to_lose) same ∙ heard.unlost in
    elim silent.lost [ inl more ↦ omega (arith, more, drops) | inr more ↦ omega (arith, more, loses) ]
served_no_cause fetch holder cause.Strayed uncrashed kept heard strayed =
    let one : Some heard.lane ≡ Some strayed.lane = sym heard.has_lane ∙ strayed.has_lane in
    let same : heard.lane ≡ strayed.lane = cc in
    let count : length heard.lane.queue ≡ length strayed.lane.queue = ap (λ (l : LaneState). length l.queue) same in
    omega (arith, heard.few, strayed.many, count)
served_no_cause fetch holder (cause.Full entries bytes) uncrashed kept heard none = none
served_no_cause fetch holder (cause.Crashed incarnation) uncrashed kept heard by = omega (arith, by.1, uncrashed)
served_no_cause fetch holder (cause.Swept moment) uncrashed kept heard by = kept by.2

-- each brick has a cause where all have
cause_at : (fetch : FetchMade) (holders : List Holder) (causes : List BrickCause) (place : ℕ) (holder : Holder) → AreCauses fetch holders causes → slice_get holders place ≡ Some holder → (c : Cause) × IsCause fetch holder c
cause_at fetch [] causes place holder each there = absurd (cc)
cause_at fetch (h ∷ holders) [] place holder each there = absurd each
cause_at fetch (h ∷ holders) (c ∷ causes) zero holder each there = let same : h ≡ holder = cc in (c.cause, subst (λ x. IsCause fetch x c.cause) same each.1)
cause_at fetch (h ∷ holders) (c ∷ causes) (suc place) holder each there = cause_at fetch holders causes place holder each.2 there

-- a value that a brick can serve is found in time
pub served_found : (fetch : FetchMade) (text : List ℕ) → IsRight fetch text → fetch.now.0 ≤ fetch.cookie.expiry.0 → CanServe fetch → text ≡ found_text fetch.key fetch.value
served_found fetch text (inl found) in_time serves = found.text_is
served_found fetch text (inr (inl expired)) in_time serves = absurd (omega (arith, expired.past, in_time))
served_found fetch text (inr (inr lost)) in_time serves =
    let by : (c : Cause) × IsCause fetch serves.holder c = cause_at fetch fetch.cookie.bricks lost.causes serves.place serves.holder lost.each serves.there in
    absurd (served_no_cause fetch serves.holder by.0 serves.uncrashed serves.kept serves.heard by.1)

pub past_expired : (fetch : FetchMade) (text : List ℕ) → IsRight fetch text → fetch.cookie.expiry.0 < fetch.now.0 → text ≡ expired_text fetch.key fetch.now fetch.cookie.expiry
past_expired fetch text (inl found) past = absurd (omega (arith, found.in_time, past))
past_expired fetch text (inr (inl expired)) past = expired.text_is
past_expired fetch text (inr (inr lost)) past = absurd (omega (arith, lost.in_time, past))

-- the texts tell which it was
cancel : (xs ys zs : List ℕ) → xs ++ ys ≡ xs ++ zs → ys ≡ zs
cancel [] ys zs is = is
cancel (x ∷ xs) ys zs is = cancel xs ys zs (cc)

-- what these texts say behind the word of the key
abbrev newline : List ℕ
newline = codes "\n"

abbrev found_rest : List ℕ → List ℕ
found_rest value = codes " found " ++ (hex_text value ++ newline)

found_parts : (key : ℕ) (value : List ℕ) → found_text key value ≡ key_text key ++ found_rest value
found_parts key value =
    append_assoc (key_text key ++ codes " found ") (hex_text value) newline ∙ append_assoc (key_text key) (codes " found ") (hex_text value ++ newline)

abbrev expired_rest : Moment → Moment → List ℕ
expired_rest now expiry = codes " expired " ++ (decimal now.0 ++ (codes " " ++ (decimal expiry.0 ++ newline)))

expired_parts : (key : ℕ) (now expiry : Moment) → expired_text key now expiry ≡ key_text key ++ expired_rest now expiry
expired_parts key now expiry =
    append_assoc (key_text key ++ codes " expired " ++ decimal now.0 ++ codes " ") (decimal expiry.0) newline
    ∙ append_assoc (key_text key ++ codes " expired " ++ decimal now.0) (codes " ") (decimal expiry.0 ++ newline)
    ∙ append_assoc (key_text key ++ codes " expired ") (decimal now.0) (codes " " ++ (decimal expiry.0 ++ newline))
    ∙ append_assoc (key_text key) (codes " expired ") (decimal now.0 ++ (codes " " ++ (decimal expiry.0 ++ newline)))

abbrev lost_rest : List BrickCause → List ℕ
lost_rest causes = codes " lost" ++ (flat_map cause_text causes ++ newline)

lost_parts : (key : ℕ) (causes : List BrickCause) → lost_text key causes ≡ key_text key ++ lost_rest causes
lost_parts key causes =
    append_assoc (key_text key ++ codes " lost") (flat_map cause_text causes) newline ∙ append_assoc (key_text key) (codes " lost") (flat_map cause_text causes ++ newline)

-- whether this is the first letter, behind a space
first_is : ℕ → List ℕ → Bool
first_is letter [] = false
first_is letter (x ∷ []) = false
first_is letter (x ∷ y ∷ xs) = y == letter

-- texts of one key differ where their first letters do
texts_differ : (key letter : ℕ) (a b x y : List ℕ) → a ≡ key_text key ++ x → b ≡ key_text key ++ y → first_is letter x ≡ false → first_is letter y ≡ true → a ≡ b → ⊥
texts_differ key letter a b x y a_is b_is first_x first_y same =
    let clash : false ≡ true = sym first_x ∙ ap (first_is letter) (cancel (key_text key) x y (sym a_is ∙ same ∙ b_is)) ∙ first_y in
    cc

found_not_expired : (key : ℕ) (value : List ℕ) (now expiry : Moment) → expired_text key now expiry ≡ found_text key value → ⊥
unfolding first_is
found_not_expired key value now expiry = texts_differ key 102 (expired_text key now expiry) (found_text key value) (expired_rest now expiry) (found_rest value) (expired_parts key now expiry) (found_parts key value) refl refl

found_not_lost : (key : ℕ) (value : List ℕ) (causes : List BrickCause) → lost_text key causes ≡ found_text key value → ⊥
unfolding first_is
found_not_lost key value causes = texts_differ key 102 (lost_text key causes) (found_text key value) (lost_rest causes) (found_rest value) (lost_parts key causes) (found_parts key value) refl refl

expired_not_lost : (key : ℕ) (now expiry : Moment) (causes : List BrickCause) → lost_text key causes ≡ expired_text key now expiry → ⊥
unfolding first_is
expired_not_lost key now expiry causes = texts_differ key 101 (lost_text key causes) (expired_text key now expiry) (lost_rest causes) (expired_rest now expiry) (lost_parts key causes) (expired_parts key now expiry) refl refl

pub says_found : (fetch : FetchMade) (text value : List ℕ) → IsRight fetch text → text ≡ found_text fetch.key value → FindsValue fetch text
says_found fetch text value (inl found) is = found
says_found fetch text value (inr (inl expired)) is = absurd (found_not_expired fetch.key value fetch.now fetch.cookie.expiry (sym expired.text_is ∙ is))
says_found fetch text value (inr (inr lost)) is = absurd (found_not_lost fetch.key value lost.causes (sym lost.text_is ∙ is))

pub says_lost : (fetch : FetchMade) (text : List ℕ) (causes : List BrickCause) → IsRight fetch text → text ≡ lost_text fetch.key causes → IsLost fetch text
says_lost fetch text causes (inl found) is = absurd (found_not_lost fetch.key fetch.value causes (sym is ∙ found.text_is))
says_lost fetch text causes (inr (inl expired)) is = absurd (expired_not_lost fetch.key fetch.now fetch.cookie.expiry causes (sym is ∙ expired.text_is))
says_lost fetch text causes (inr (inr lost)) is = lost

-- within the lease what is lost has crashed at each brick, or was silent to the fetch, or strayed
cause_crashed_or_unheard : (fetch : FetchMade) (holder : Holder) (c : Cause) → (WasSweptLate fetch holder → ⊥) → IsCause fetch holder c → HasCrashedOrWasUnheard fetch holder
cause_crashed_or_unheard fetch holder cause.Silent kept by = inr (inl by)
cause_crashed_or_unheard fetch holder cause.Strayed kept by = inr (inr by)
cause_crashed_or_unheard fetch holder (cause.Full entries bytes) kept by = absurd by
cause_crashed_or_unheard fetch holder (cause.Crashed incarnation) kept by = inl by.1
cause_crashed_or_unheard fetch holder (cause.Swept moment) kept by = absurd (kept by.2)

pub lost_crashed_or_unheard : (fetch : FetchMade) (text : List ℕ) (place : ℕ) (holder : Holder) → IsLost fetch text → NoneSweptLate fetch → slice_get fetch.cookie.bricks place ≡ Some holder → HasCrashedOrWasUnheard fetch holder
lost_crashed_or_unheard fetch text place holder lost within there =
    let by : (c : Cause) × IsCause fetch holder c = cause_at fetch fetch.cookie.bricks lost.causes place holder lost.each there in
    cause_crashed_or_unheard fetch holder by.0 (within place holder there) by.1
