-- What is written of a text that is presented as a cookie is told by what decoding it answers, and the other way round.
use Rattle.std.proofs.Common.{arith, ◌≡◌, ◌≢◌, ◌↔◌, ℕ, List, get_or, codes, Result, Ok, Err, ap}
use Rattle.session_cookie.specs.Text.{HasForm, HasNoForm, IsAnswer, IsTextOf, Spells, SpellsNoBytes, tag_of}
use Rattle.session_cookie.specs.declared.codec.CookieRefusal.{CookieRefusal}
use Rattle.session_cookie.specs.declared.codec.CookieRefusal.TheVariants.{NotBase64, Form, Tag, OutOfMemory}
use Rattle.session_cookie.specs.declared.cookie.Cookie.{Cookie}
use Rattle.text_readings.specs.CookieTexts.{answer_to}
use Rattle.text_readings.proofs.CookieAnswers.{answered, is_answer}
use Rattle.session_steps.specs.Present.{answer_text, presented_text}

-- What is written of a text is what is written of the answer that decoding it gives, where memory suffices.
pub presented : (key text : List ℕ) (answer : Result Cookie CookieRefusal) → IsAnswer key text answer → answer ≢ Err OutOfMemory
    → presented_text key text ≡ answer_text answer
presented key text answer is memory = ap answer_text (answered key text answer is memory)

-- the first letter of the word that tells an answer
letter : List ℕ → ℕ
letter text = get_or text 7 0

told_ok : (key text : List ℕ) (answer : Result Cookie CookieRefusal) → IsAnswer key text answer → answer_text answer ≡ codes "cookie ok\n"
    → (cookie : Cookie) × IsTextOf key cookie text
unfolding letter
told_ok key text (Ok c) is e = (c, is)
told_ok key text (Err NotBase64) is e = let w = ap letter e in absurd (omega (arith, w))
told_ok key text (Err Form) is e = let w = ap letter e in absurd (omega (arith, w))
told_ok key text (Err Tag) is e = let w = ap letter e in absurd (omega (arith, w))
told_ok key text (Err OutOfMemory) is e = let w = ap letter e in absurd (omega (arith, w))

told_notbase64 : (key text : List ℕ) (answer : Result Cookie CookieRefusal) → IsAnswer key text answer → answer_text answer ≡ codes "cookie notbase64\n"
    → SpellsNoBytes text
unfolding letter
told_notbase64 key text (Err NotBase64) is e = is
told_notbase64 key text other is e = let w = ap letter e in absurd (omega (arith, w))

told_form : (key text : List ℕ) (answer : Result Cookie CookieRefusal) → IsAnswer key text answer → answer_text answer ≡ codes "cookie form\n"
    → (bytes : List ℕ) × Spells text bytes × HasNoForm bytes
unfolding letter
told_form key text (Err Form) is e = is
told_form key text other is e = let w = ap letter e in absurd (omega (arith, w))

told_tag : (key text : List ℕ) (answer : Result Cookie CookieRefusal) → IsAnswer key text answer → answer_text answer ≡ codes "cookie tag\n"
    → (bytes : List ℕ) × Spells text bytes × (cookie : Cookie) × (tag : List ℕ) × HasForm bytes cookie tag × (tag ≢ tag_of key cookie)
unfolding letter
told_tag key text (Err Tag) is e = is
told_tag key text other is e = let w = ap letter e in absurd (omega (arith, w))

-- `ok` is written exactly of the text of a cookie under the key.
pub presented_ok : (key text : List ℕ) → (presented_text key text ≡ codes "cookie ok\n") ↔ ((cookie : Cookie) × IsTextOf key cookie text)
presented_ok key text =
    (told_ok key text (answer_to key text) (is_answer key text), λ (c, is). presented key text (Ok c) is (λ e. cc))

-- `notbase64` is written exactly of a text that spells no bytes.
pub presented_notbase64 : (key text : List ℕ) → (presented_text key text ≡ codes "cookie notbase64\n") ↔ SpellsNoBytes text
presented_notbase64 key text =
    (told_notbase64 key text (answer_to key text) (is_answer key text), λ is. presented key text (Err NotBase64) is (λ e. cc))

-- `form` is written exactly of a text that spells bytes which are no fields and tag.
pub presented_form : (key text : List ℕ) → (presented_text key text ≡ codes "cookie form\n") ↔ ((bytes : List ℕ) × Spells text bytes × HasNoForm bytes)
presented_form key text =
    (told_form key text (answer_to key text) (is_answer key text), λ is. presented key text (Err Form) is (λ e. cc))

-- `tag` is written exactly of a text that spells fields and a tag, which is another one than that of the fields.
pub presented_tag : (key text : List ℕ) → (presented_text key text ≡ codes "cookie tag\n")
    ↔ ((bytes : List ℕ) × Spells text bytes × (cookie : Cookie) × (tag : List ℕ) × HasForm bytes cookie tag × (tag ≢ tag_of key cookie))
presented_tag key text =
    (told_tag key text (answer_to key text) (is_answer key text), λ is. presented key text (Err Tag) is (λ e. cc))
