-- What a text calls for is the answer that is made of it, and no other.
use Rattle.std.proofs.Common.{arith, ◌≡◌, ◌≢◌, ◌<◌, ◌↔◌, ◌^◌, ℕ, zero, suc, ◌++◌, nat_lt, Bool, true, false, List, [], ◌∷◌, length, bytes_eq, Option, Some, None, Result, Ok, Err, refl, sym, subst, ap, ◌∙◌}
use Rattle.std.proofs.lemmas.Bool.{and_from, and_parts, both_ways, false_from_ne_true, ltb-true, lt-ltb}
use Rattle.std.proofs.lemmas.Bool.Decides.{not_from_Decides}
use Rattle.std.proofs.lemmas.Slice.Eq.{bytes_eq-Decides}
use Rattle.std.specs.Result.{result_ok}
use Rattle.base64.specs.Engines.{url_safe_no_pad}
use Rattle.base64.specs.GeneralPurpose.{decoded_of, encode_of, IsBytes, IsConsistent}
use Rattle.base64.proofs.EngineFacts.{decode_of-encode_of}
use Rattle.sha2.proofs.Facts256.{length-sha256}
use Rattle.session_cookie.specs.Cookie.{cookie_fields, IsCookie}
use Rattle.session_cookie.specs.Hmac.{hmac}
use Rattle.session_cookie.specs.Text.{HasForm, IsAnswer, IsTextOf, Spells, SpellsNoBytes, tag_of}
use Rattle.session_cookie.specs.declared.codec.CookieRefusal.{CookieRefusal}
use Rattle.session_cookie.specs.declared.codec.CookieRefusal.TheVariants.{NotBase64, Form, Tag, OutOfMemory}
use Rattle.session_cookie.specs.declared.cookie.Cookie.{Cookie}
use Rattle.session_cookie.specs.declared.cookie.TheConstants.{TAG_BYTES}
use Rattle.text_readings.specs.CookieTexts.{answer_by_bytes, answer_by_tests, answer_to, are_bytes, cookie_in, cookie_of_text, is_form, is_spelling, is_tagged, tag_in}
use Rattle.text_readings.proofs.CookieFields.{cookie_read, form_tested, tag_read, tested_form}

-- the test of bytes is exact
bytes_tested : (bytes : List ℕ) → IsBytes bytes → are_bytes bytes ≡ true
bytes_tested [] small = refl
bytes_tested (b ∷ bs) small =
    and_from (nat_lt b (2 ^ 8)) (are_bytes bs) (lt-ltb b (2 ^ 8) (small 0)) (bytes_tested bs (λ i. small (suc i)))

byte_at : (b : ℕ) (bs : List ℕ) → b < 256 → IsBytes bs → IsBytes (b ∷ bs)
byte_at b bs first later zero = first
byte_at b bs first later (suc i) = later i

tested_bytes : (bytes : List ℕ) → are_bytes bytes ≡ true → IsBytes bytes
tested_bytes [] test = λ i. omega arith
tested_bytes (b ∷ bs) test =
    let (first, later) = and_parts (nat_lt b (2 ^ 8)) (are_bytes bs) test in
    byte_at b bs (ltb-true b (2 ^ 8) first) (tested_bytes bs later)

-- the tests of a text that spells bytes
spelling_tested : (text bytes : List ℕ) → Spells text bytes → is_spelling text bytes ≡ true
spelling_tested text bytes spells =
    and_from (are_bytes bytes) (bytes_eq text (encode_of url_safe_no_pad bytes)) (bytes_tested bytes spells.are_bytes)
    ((bytes_eq-Decides text (encode_of url_safe_no_pad bytes)).1 spells.text_is)

tested_spelling : (text bytes : List ℕ) → is_spelling text bytes ≡ true → Spells text bytes
tested_spelling text bytes test =
    let (small, same) = and_parts (are_bytes bytes) (bytes_eq text (encode_of url_safe_no_pad bytes)) test in
    record { are_bytes = tested_bytes bytes small; text_is = (bytes_eq-Decides text (encode_of url_safe_no_pad bytes)).0 same }

decoded : (text bytes : List ℕ) → Spells text bytes → decoded_of url_safe_no_pad text ≡ Some bytes
unfolding decoded_of
decoded text bytes spells =
    let consistent : IsConsistent url_safe_no_pad = refl in
    ap (decoded_of url_safe_no_pad) spells.text_is ∙ ap result_ok (decode_of-encode_of url_safe_no_pad bytes consistent spells.are_bytes)

-- what a text calls for that spells bytes
answer_tested : (key text bytes : List ℕ) → Spells text bytes → answer_to key text ≡ answer_by_tests true (is_form bytes) (is_tagged key bytes) (cookie_in bytes)
unfolding answer_to
answer_tested key text bytes spells =
    ap (answer_by_bytes key text) (decoded text bytes spells)
    ∙ ap (λ s. answer_by_tests s (is_form bytes) (is_tagged key bytes) (cookie_in bytes)) (spelling_tested text bytes spells)

-- what a text calls for that spells the fields of a cookie and a tag
form_answer : (key text bytes : List ℕ) (c : Cookie) (tag : List ℕ) → Spells text bytes → HasForm bytes c tag
    → answer_to key text ≡ answer_by_tests true true (bytes_eq tag (tag_of key c)) c
form_answer key text bytes c tag spells form =
    answer_tested key text bytes spells
    ∙ ap (λ f. answer_by_tests true f (is_tagged key bytes) (cookie_in bytes)) (form_tested bytes c tag form)
    ∙ ap (λ t. answer_by_tests true true (bytes_eq t (tag_of key (cookie_in bytes))) (cookie_in bytes)) (tag_read bytes c tag form)
    ∙ ap (λ d. answer_by_tests true true (bytes_eq tag (tag_of key d)) d) (cookie_read bytes c tag form)

length-hmac : (key text : List ℕ) → length (hmac key text) ≡ TAG_BYTES
unfolding hmac
length-hmac key text = length-sha256 _

-- a cookie with its tag
signed : (key : List ℕ) (c : Cookie) → IsCookie c → HasForm (cookie_fields c ++ tag_of key c) c (tag_of key c)
signed key c is = record { is_cookie = is; tag_size = length-hmac key (cookie_fields c); bytes_are = refl }

-- what a text calls for that spells no bytes
unspelled : (key text : List ℕ) (found : Option (List ℕ)) → SpellsNoBytes text → answer_by_bytes key text found ≡ Err NotBase64
unspelled key text None none = refl
unspelled key text (Some bytes) none =
    ap (λ s. answer_by_tests s (is_form bytes) (is_tagged key bytes) (cookie_in bytes))
    (false_from_ne_true (is_spelling text bytes) (λ e. none bytes (tested_spelling text bytes e)))

-- what decoding answers, where memory suffices, is what the text calls for
pub answered : (key text : List ℕ) (answer : Result Cookie CookieRefusal) → IsAnswer key text answer → answer ≢ Err OutOfMemory → answer_to key text ≡ answer
unfolding answer_to
answered key text (Ok c) (is, spells) memory =
    form_answer key text (cookie_fields c ++ tag_of key c) c (tag_of key c) spells (signed key c is)
    ∙ ap (λ t. answer_by_tests true true t c) ((bytes_eq-Decides (tag_of key c) (tag_of key c)).1 refl)
answered key text (Err NotBase64) none memory = unspelled key text (decoded_of url_safe_no_pad text) none
answered key text (Err Form) (bytes, spells, none) memory =
    answer_tested key text bytes spells ∙ ap (λ f. answer_by_tests true f (is_tagged key bytes) (cookie_in bytes))
    (false_from_ne_true (is_form bytes) (λ e. none (cookie_in bytes) (tag_in bytes) (tested_form bytes spells.are_bytes e)))
answered key text (Err Tag) (bytes, spells, c, tag, form, other) memory =
    form_answer key text bytes c tag spells form ∙ ap (λ t. answer_by_tests true true t c)
    (false_from_ne_true (bytes_eq tag (tag_of key c)) (λ e. other ((bytes_eq-Decides tag (tag_of key c)).0 e)))
answered key text (Err OutOfMemory) is memory = absurd (memory refl)

-- what a text calls for, by the tests, is an answer to it
by_tag : (key text bytes : List ℕ) (tagged : Bool) → Spells text bytes → HasForm bytes (cookie_in bytes) (tag_in bytes)
    → is_tagged key bytes ≡ tagged → IsAnswer key text (answer_by_tests true true tagged (cookie_in bytes))
by_tag key text bytes true spells form e =
    let c = cookie_in bytes in
    let same : tag_in bytes ≡ tag_of key c = (bytes_eq-Decides (tag_in bytes) (tag_of key c)).0 e in
    (form.is_cookie, subst (Spells text) (form.bytes_are ∙ ap (λ t. cookie_fields c ++ t) same) spells)
by_tag key text bytes false spells form e =
    let c = cookie_in bytes in
    (bytes, spells, c, tag_in bytes, form, not_from_Decides (is_tagged key bytes) (bytes_eq-Decides (tag_in bytes) (tag_of key c)) e)

by_form : (key text bytes : List ℕ) (formed : Bool) → Spells text bytes → is_form bytes ≡ formed
    → IsAnswer key text (answer_by_tests true formed (is_tagged key bytes) (cookie_in bytes))
by_form key text bytes true spells e = by_tag key text bytes (is_tagged key bytes) spells (tested_form bytes spells.are_bytes e) refl
by_form key text bytes false spells e = (bytes, spells, λ c tag form. both_ways (is_form bytes) e (form_tested bytes c tag form))

by_spelling : (key text bytes : List ℕ) (spelled : Bool) → decoded_of url_safe_no_pad text ≡ Some bytes → is_spelling text bytes ≡ spelled
    → IsAnswer key text (answer_by_tests spelled (is_form bytes) (is_tagged key bytes) (cookie_in bytes))
by_spelling key text bytes true is e = by_form key text bytes (is_form bytes) (tested_spelling text bytes e) refl
by_spelling key text bytes false is e = λ other spells.
    let found : Some bytes ≡ Some other = sym is ∙ decoded text other spells in
    let same : bytes ≡ other = cc in
    both_ways (is_spelling text bytes) e (ap (is_spelling text) same ∙ spelling_tested text other spells)

by_decoding : (key text : List ℕ) (found : Option (List ℕ)) → decoded_of url_safe_no_pad text ≡ found → IsAnswer key text (answer_by_bytes key text found)
by_decoding key text None is = λ bytes spells.
    let none : None ≡ Some bytes = sym is ∙ decoded text bytes spells in
    cc
by_decoding key text (Some bytes) is = by_spelling key text bytes (is_spelling text bytes) is refl

pub is_answer : (key text : List ℕ) → IsAnswer key text (answer_to key text)
unfolding answer_to
is_answer key text = by_decoding key text (decoded_of url_safe_no_pad text) refl

-- no text calls for want of memory
by_tests : (spelled formed tagged : Bool) (cookie : Cookie) → answer_by_tests spelled formed tagged cookie ≢ Err OutOfMemory
by_tests false formed tagged cookie = λ e. cc
by_tests true false tagged cookie = λ e. cc
by_tests true true false cookie = λ e. cc
by_tests true true true cookie = λ e. cc

by_found : (key text : List ℕ) (found : Option (List ℕ)) → answer_by_bytes key text found ≢ Err OutOfMemory
by_found key text None = λ e. cc
by_found key text (Some bytes) = by_tests (is_spelling text bytes) (is_form bytes) (is_tagged key bytes) (cookie_in bytes)

pub no_want : (key text : List ℕ) → answer_to key text ≢ Err OutOfMemory
unfolding answer_to
no_want key text = by_found key text (decoded_of url_safe_no_pad text)

-- what decoding answers is the answer to the text
pub only_answer : (key text : List ℕ) (answer : Result Cookie CookieRefusal) → IsAnswer key text answer → answer ≢ Err OutOfMemory → answer ≡ answer_to key text
only_answer key text answer is memory = sym (answered key text answer is memory)

-- a cookie is accepted of its text
accepted_of : (key text : List ℕ) (cookie : Cookie) (answer : Result Cookie CookieRefusal) → IsAnswer key text answer → result_ok answer ≡ Some cookie → IsTextOf key cookie text
accepted_of key text cookie (Ok c) is e =
    let same : c ≡ cookie = cc in
    subst (λ d. IsTextOf key d text) same is
accepted_of key text cookie (Err refusal) is e = absurd (cc)

pub accepted : (key text : List ℕ) (cookie : Cookie) → (cookie_of_text key text ≡ Some cookie) ↔ IsTextOf key cookie text
accepted key text cookie = (
  accepted_of key text cookie (answer_to key text) (is_answer key text),
  λ is. ap result_ok (answered key text (Ok cookie) is (λ e. cc)),
)

-- and none of what is the text of none
none_is : (key text : List ℕ) (found : Option Cookie) → cookie_of_text key text ≡ found → ((cookie : Cookie) → ¬ IsTextOf key cookie text) → found ≡ None
none_is key text None is none = refl
none_is key text (Some cookie) is none = absurd (none cookie ((accepted key text cookie).0 is))

pub none_accepted : (key text : List ℕ) → (cookie_of_text key text ≡ None) ↔ ((cookie : Cookie) → ¬ IsTextOf key cookie text)
none_accepted key text = (
  λ e cookie is. let there = (accepted key text cookie).1 is in cc,
  λ none. none_is key text (cookie_of_text key text) refl none,
)
