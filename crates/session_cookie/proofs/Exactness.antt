-- Besides out of memory, each text has one answer at most.
use Rattle.std.proofs.Common.{◌≡◌, ◌≢◌, ◌∙◌, sym, subst, ap, refl, ℕ, List, ◌++◌, length, Result, Ok, Err}
use Rattle.std.proofs.lemmas.List.{append_assoc}
use Rattle.std.specs.List.{flat_map}
use Rattle.base64.specs.declared.decode.DecodeError.{DecodeError}
use Rattle.base64.specs.Engines.{url_safe_no_pad}
use Rattle.base64.specs.GeneralPurpose.{decode_of, IsConsistent}
use Rattle.base64.proofs.EngineFacts.{decode_of-encode_of}
use Rattle.session_cookie.specs.Cookie.{cookie_fields, head_bytes, holder_bytes, IsCookie}
use Rattle.session_cookie.specs.Text.{HasForm, HasNoForm, IsAnswer, IsTextOf, Spells, tag_of}
use Rattle.session_cookie.specs.declared.codec.CookieRefusal.{CookieRefusal}
use Rattle.session_cookie.specs.declared.codec.CookieRefusal.TheVariants.{NotBase64, Form, Tag, OutOfMemory}
use Rattle.session_cookie.specs.declared.cookie.Cookie.{Cookie}
use Rattle.session_cookie.proofs.Digits.{length-hmac}
use Rattle.session_cookie.proofs.Unique.{bricks_same, head_same}

-- the bytes that are decoded
found_same : (a b : List ℕ) (found : Result (List ℕ) DecodeError) → found ≡ Ok a → found ≡ Ok b → a ≡ b
found_same a b found e f = cc

-- a text spells one list of bytes at most
spells_one : (text a b : List ℕ) → Spells text a → Spells text b → a ≡ b
spells_one text a b x y =
    let consistent : IsConsistent url_safe_no_pad = refl in
    found_same a b (decode_of url_safe_no_pad text)
    (ap (decode_of url_safe_no_pad) x.text_is ∙ decode_of-encode_of url_safe_no_pad a consistent x.are_bytes)
    (ap (decode_of url_safe_no_pad) y.text_is ∙ decode_of-encode_of url_safe_no_pad b consistent y.are_bytes)

-- bytes are one cookie at most, and one tag
form_one : (bytes : List ℕ) (cookie other : Cookie) (tag other_tag : List ℕ) → HasForm bytes cookie tag → HasForm bytes other other_tag → (cookie ≡ other) × (tag ≡ other_tag)
form_one bytes c d t u x y =
    let head = head_bytes c.key c.version c.expiry (length c.bricks) in
    let other_head = head_bytes d.key d.version d.expiry (length d.bricks) in
    let both : head ++ (flat_map holder_bytes c.bricks ++ t) ≡ other_head ++ (flat_map holder_bytes d.bricks ++ u) =
    sym (append_assoc head (flat_map holder_bytes c.bricks) t) ∙ sym x.bytes_are ∙ y.bytes_are ∙ append_assoc other_head (flat_map holder_bytes d.bricks) u in
    let (heads, rest) = head_same c.key d.key c.version d.version c.expiry d.expiry (length c.bricks) (length d.bricks) (flat_map holder_bytes c.bricks ++ t) (flat_map holder_bytes d.bricks ++ u) x.is_cookie.head y.is_cookie.head both in
    let (bricks, tags) = bricks_same c.bricks d.bricks t u heads.counts x.is_cookie.each y.is_cookie.each rest in
    let e1 : c ≡ record c { key = d.key } = ap (λ k. record c { key = k }) heads.keys in
    let e2 = ap (λ v. record c { key = d.key; version = v }) heads.versions in
    let e3 = ap (λ m. record c { key = d.key; version = d.version; expiry = m }) heads.expiries in
    let e4 = ap (λ hs. record c { key = d.key; version = d.version; expiry = d.expiry; bricks = hs }) bricks in
    (e1 ∙ e2 ∙ e3 ∙ e4, tags)

pub one_cookie : (text bytes other_bytes : List ℕ) (cookie other : Cookie) (tag other_tag : List ℕ) → Spells text bytes → HasForm bytes cookie tag
    → Spells text other_bytes → HasForm other_bytes other other_tag → (cookie ≡ other) × (tag ≡ other_tag)
one_cookie text bytes other_bytes cookie other tag other_tag a x b y =
    let P : List ℕ → Type 0 = λ l. HasForm l other other_tag in
    form_one bytes cookie other tag other_tag x (subst P (spells_one text other_bytes bytes b a) y)

-- the form of a cookie with its tag
signed : (key : List ℕ) (cookie : Cookie) → IsCookie cookie → HasForm (cookie_fields cookie ++ tag_of key cookie) cookie (tag_of key cookie)
signed key cookie is = record { is_cookie = is; tag_size = length-hmac key (cookie_fields cookie); bytes_are = refl }

-- a text that spells a form is not refused as one without, nor a cookie for its tag
formed : (text bytes other : List ℕ) (cookie : Cookie) (tag : List ℕ) → Spells text bytes → HasForm bytes cookie tag → Spells text other → HasNoForm other → ⊥
formed text bytes other cookie tag spells form too none =
    let P : List ℕ → Type 0 = λ l. HasForm l cookie tag in
    none cookie tag (subst P (spells_one text bytes other spells too) form)

tagged : (key text : List ℕ) (cookie other : Cookie) (tag bytes : List ℕ) → IsCookie cookie → Spells text (cookie_fields cookie ++ tag_of key cookie)
    → Spells text bytes → HasForm bytes other tag → tag ≢ tag_of key other → ⊥
tagged key text cookie other tag bytes is spells too form differs =
    let (same, tags) = one_cookie text (cookie_fields cookie ++ tag_of key cookie) bytes cookie other (tag_of key cookie) tag spells (signed key cookie is) too form in
    differs (sym tags ∙ ap (tag_of key) same)

pub one_answer : (key text : List ℕ) (a b : Result Cookie CookieRefusal) → IsAnswer key text a → IsAnswer key text b → a ≢ Err OutOfMemory → b ≢ Err OutOfMemory → a ≡ b
one_answer key text (Err OutOfMemory) b x y p q = absurd (p refl)
one_answer key text a (Err OutOfMemory) x y p q = absurd (q refl)
one_answer key text (Ok c) (Ok d) (is, spells) (also, too) p q =
    ap (λ k. Ok k) (one_cookie text _ _ c d (tag_of key c) (tag_of key d) spells (signed key c is) too (signed key d also)).0
one_answer key text (Ok c) (Err NotBase64) (is, spells) none p q = absurd (none _ spells)
one_answer key text (Ok c) (Err Form) (is, spells) (bytes, too, none) p q = absurd (formed text _ bytes c (tag_of key c) spells (signed key c is) too none)
one_answer key text (Ok c) (Err Tag) (is, spells) (bytes, too, d, tag, form, other) p q = absurd (tagged key text c d tag bytes is spells too form other)
one_answer key text (Err NotBase64) (Ok d) none (is, spells) p q = absurd (none _ spells)
one_answer key text (Err NotBase64) (Err NotBase64) x y p q = refl
one_answer key text (Err NotBase64) (Err Form) none (bytes, spells, y) p q = absurd (none bytes spells)
one_answer key text (Err NotBase64) (Err Tag) none (bytes, spells, c, tag, form, other) p q = absurd (none bytes spells)
one_answer key text (Err Form) (Ok d) (bytes, too, none) (is, spells) p q = absurd (formed text _ bytes d (tag_of key d) spells (signed key d is) too none)
one_answer key text (Err Form) (Err NotBase64) (bytes, spells, y) none p q = absurd (none bytes spells)
one_answer key text (Err Form) (Err Form) x y p q = refl
one_answer key text (Err Form) (Err Tag) (bytes, too, none) (more, spells, d, tag, form, other) p q = absurd (formed text more bytes d tag spells form too none)
one_answer key text (Err Tag) (Ok c) (bytes, too, d, tag, form, other) (is, spells) p q = absurd (tagged key text c d tag bytes is spells too form other)
one_answer key text (Err Tag) (Err NotBase64) (bytes, spells, c, tag, form, other) none p q = absurd (none bytes spells)
one_answer key text (Err Tag) (Err Form) (more, spells, d, tag, form, other) (bytes, too, none) p q = absurd (formed text more bytes d tag spells form too none)
one_answer key text (Err Tag) (Err Tag) x y p q = refl

pub decodes_back : (key text : List ℕ) (cookie : Cookie) (a : Result Cookie CookieRefusal) → IsTextOf key cookie text → IsAnswer key text a → a ≢ Err OutOfMemory → a ≡ Ok cookie
decodes_back key text cookie a is answer found = one_answer key text a (Ok cookie) answer is found (λ e. cc)
