-- The fields that are read off bytes are those of the cookie that was written as these bytes.
use Rattle.std.proofs.Common.{arith, ◌≡◌, ◌<◌, ◌^◌, ℕ, zero, suc, ◌+◌, ◌-◌, ◌==◌, ◌&&◌, true, List, [], ◌∷◌, ◌++◌, length, take, drop, get_or, slice_index, bytes_eq, min, All, refl, sym, subst, ap, ◌∙◌}
use Rattle.std.proofs.lemmas.Bool.{and_from, and_parts, eqb-true, eq-eqb}
use Rattle.std.proofs.lemmas.List.{append_assoc, take-append-drop, take_at, drop_at, drop-drop, get_or-drop, length-append, length-drop, length-take}
use Rattle.std.proofs.lemmas.List.Elements.{All-nil, All-cons, All-head, All-tail, All-from_get_or}
use Rattle.std.proofs.lemmas.Nat.{from_be_bytes-to_be_bytes_2, from_be_bytes-to_be_bytes_4, from_be_bytes-to_be_bytes_8}
use Rattle.std.proofs.lemmas.Slice.Eq.{bytes_eq-Decides}
use Rattle.std.specs.Int.{w16, w32, w64, to_be_bytes, from_be_bytes}
use Rattle.std.specs.List.{flat_map}
use Rattle.base64.specs.GeneralPurpose.{IsBytes}
use Rattle.base64.proofs.EngineFacts.{front_bytes}
use Rattle.session_cookie.specs.Cookie.{cookie_fields, head_bytes, holder_bytes, version_bytes, IsHolder, IsKey, IsVersion}
use Rattle.session_cookie.specs.Text.{HasForm}
use Rattle.session_cookie.specs.declared.cookie.Cookie.{Cookie}
use Rattle.session_cookie.specs.declared.cookie.Holder.{Holder}
use Rattle.session_cookie.specs.declared.cookie.TheConstants.{HEAD_BYTES, HOLDER_BYTES, TAG_BYTES}
use Rattle.text_readings.specs.CookieTexts.{are_holders, cookie_in, holder_in, holders_in, is_form, tag_in}
use Rattle.text_readings.proofs.HolderTests.{holders_tested}
use Rattle.text_readings.proofs.Numbers.{behind_bytes, below_2, below_4, below_8}

-- what a cookie is written as, behind its key
after_key : Cookie → List ℕ → List ℕ
after_key c tag = version_bytes c.version ++ (to_be_bytes w64 c.expiry.0 ++ (length c.bricks ∷ (flat_map holder_bytes c.bricks ++ tag)))

key_first : (c : Cookie) (tag : List ℕ) → cookie_fields c ++ tag ≡ (1 ∷ c.key.0) ++ after_key c tag
unfolding head_bytes after_key
key_first c tag =
    let k = 1 ∷ c.key.0 in
    let v = version_bytes c.version in
    let e = to_be_bytes w64 c.expiry.0 in
    let n = length c.bricks ∷ [] in
    let bricks = flat_map holder_bytes c.bricks in
    append_assoc (k ++ v ++ e ++ n) bricks tag ∙ append_assoc (k ++ v ++ e) n (bricks ++ tag)
    ∙ append_assoc (k ++ v) e (n ++ (bricks ++ tag)) ∙ append_assoc k v (e ++ (n ++ (bricks ++ tag)))

-- bricks that were written are read again
holders_read : (hs : List Holder) (tag : List ℕ) → All IsHolder hs → holders_in (length hs) (flat_map holder_bytes hs ++ tag) ≡ hs
unfolding holder_bytes
holders_read [] tag each = refl
holders_read (h ∷ hs) tag each =
    let (brick, incarnation) = All-head IsHolder h hs each in
    let b : from_be_bytes w16 (to_be_bytes w16 h.brick.0) ≡ h.brick.0 = from_be_bytes-to_be_bytes_2 h.brick.0 brick in
    let n : from_be_bytes w64 (to_be_bytes w64 h.incarnation) ≡ h.incarnation = from_be_bytes-to_be_bytes_8 h.incarnation incarnation in
    let later : holders_in (length hs) (flat_map holder_bytes hs ++ tag) ≡ hs = holders_read hs tag (All-tail IsHolder h hs each) in
    λ i. record { brick = record { 0 = b i }; incarnation = n i } ∷ later i

-- so is the cookie
pub cookie_read : (bytes : List ℕ) (c : Cookie) (tag : List ℕ) → HasForm bytes c tag → cookie_in bytes ≡ c
unfolding cookie_in version_bytes after_key
cookie_read bytes c tag form =
    let (is_key, (node, boot, serial), expiry) = form.is_cookie.head in
    let rest = after_key c tag in
    let whole : bytes ≡ (1 ∷ c.key.0) ++ rest = form.bytes_are ∙ key_first c tag in
    let behind : drop 17 bytes ≡ rest = ap (drop 17) whole ∙ drop_at (1 ∷ c.key.0) rest 17 (omega (arith, is_key.size)) in
    let at : (k : ℕ) → drop (17 + k) bytes ≡ drop k rest = λ k. sym (drop-drop k 17 bytes) ∙ ap (drop k) behind in
    let key : take 16 (drop 1 bytes) ≡ c.key.0 = ap (λ b. take 16 (drop 1 b)) whole ∙ take_at c.key.0 rest 16 is_key.size in
    let v0 = ap (from_be_bytes w16) behind ∙ from_be_bytes-to_be_bytes_2 c.version.node node in
    let v1 = ap (from_be_bytes w32) (at 2) ∙ from_be_bytes-to_be_bytes_4 c.version.boot boot in
    let v2 = ap (from_be_bytes w64) (at 6) ∙ from_be_bytes-to_be_bytes_8 c.version.serial serial in
    let m = ap (from_be_bytes w64) (at 14) ∙ from_be_bytes-to_be_bytes_8 c.expiry.0 expiry in
    let count : slice_index bytes 39 ≡ length c.bricks = sym (get_or-drop 17 bytes 22 0) ∙ ap (λ b. get_or b 22 0) behind in
    let bricks : holders_in (slice_index bytes 39) (drop 40 bytes) ≡ c.bricks =
    ap (λ n. holders_in n (drop 40 bytes)) count ∙ ap (holders_in (length c.bricks)) (at 23) ∙ holders_read c.bricks tag form.is_cookie.each in
    λ i. record {
      key = record { 0 = key i };
      version = record { node = v0 i; boot = v1 i; serial = v2 i };
      expiry = record { 0 = m i };
      bricks = bricks i;
    }

-- and the tag
pub tag_read : (bytes : List ℕ) (c : Cookie) (tag : List ℕ) → HasForm bytes c tag → tag_in bytes ≡ tag
tag_read bytes c tag form =
    ap (λ (d : Cookie). drop (length (cookie_fields d)) bytes) (cookie_read bytes c tag form) ∙ ap (drop (length (cookie_fields c))) form.bytes_are
    ∙ drop_at (cookie_fields c) tag (length (cookie_fields c)) refl

-- the form of a cookie passes the test
pub form_tested : (bytes : List ℕ) (c : Cookie) (tag : List ℕ) → HasForm bytes c tag → is_form bytes ≡ true
unfolding is_form
form_tested bytes c tag form =
    let same : cookie_in bytes ≡ c = cookie_read bytes c tag form in
    let tags : tag_in bytes ≡ tag = tag_read bytes c tag form in
    let bricks = ap (λ (d : Cookie). are_holders d.bricks) same ∙ (holders_tested c.bricks).1 form.is_cookie.bricks in
    let size = eq-eqb (length (tag_in bytes)) TAG_BYTES (ap length tags ∙ form.tag_size) in
    let again : bytes ≡ cookie_fields (cookie_in bytes) ++ tag_in bytes =
    form.bytes_are ∙ ap (λ (d : Cookie). cookie_fields d ++ tag) (sym same) ∙ ap (λ t. cookie_fields (cookie_in bytes) ++ t) (sym tags) in
    and_from (are_holders (cookie_in bytes).bricks && (length (tag_in bytes) == TAG_BYTES)) (bytes_eq bytes (cookie_fields (cookie_in bytes) ++ tag_in bytes))
    (and_from (are_holders (cookie_in bytes).bricks) (length (tag_in bytes) == TAG_BYTES) bricks size)
    ((bytes_eq-Decides bytes (cookie_fields (cookie_in bytes) ++ tag_in bytes)).1 again)

-- the fields of bytes are in their ranges
each_holder : (count : ℕ) (bytes : List ℕ) → IsBytes bytes → All IsHolder (holders_in count bytes)
each_holder zero bytes small = All-nil IsHolder
each_holder (suc count) bytes small =
    let rest = drop HOLDER_BYTES bytes in
    All-cons IsHolder (holder_in bytes) (holders_in count rest) (below_2 bytes small, below_8 (drop 2 bytes) (behind_bytes 2 bytes small))
    (each_holder count rest (behind_bytes HOLDER_BYTES bytes small))

version_fits : (bytes : List ℕ) → IsBytes bytes → IsVersion (cookie_in bytes).version
unfolding cookie_in
version_fits bytes small =
    (below_2 (drop 17 bytes) (behind_bytes 17 bytes small), below_4 (drop 19 bytes) (behind_bytes 19 bytes small), below_8 (drop 23 bytes) (behind_bytes 23 bytes small))

expiry_fits : (bytes : List ℕ) → IsBytes bytes → (cookie_in bytes).expiry.0 < 2 ^ 64
unfolding cookie_in
expiry_fits bytes small = below_8 (drop 31 bytes) (behind_bytes 31 bytes small)

bricks_fit : (bytes : List ℕ) → IsBytes bytes → All IsHolder (cookie_in bytes).bricks
unfolding cookie_in
bricks_fit bytes small = each_holder (slice_index bytes 39) (drop HEAD_BYTES bytes) (behind_bytes HEAD_BYTES bytes small)

key_bytes : (bytes : List ℕ) → IsBytes bytes → All (λ b. b < 2 ^ 8) (cookie_in bytes).key.0
unfolding cookie_in
key_bytes bytes small =
    let behind = drop 1 bytes in
    let whole : IsBytes (take 16 behind ++ drop 16 behind) = subst IsBytes (sym (take-append-drop 16 behind)) (behind_bytes 1 bytes small) in
    let front = front_bytes (take 16 behind) (drop 16 behind) whole in
    All-from_get_or (λ b. b < 2 ^ 8) (take 16 behind) 0 (λ i within. front i)

-- A key that is read is of 16 bytes, since behind it there are as many bytes as follow a key.
longer : (c : Cookie) (tag : List ℕ) → (rest : ℕ) × (length (cookie_fields c ++ tag) ≡ 1 + length c.key.0 + 23 + rest)
unfolding after_key version_bytes
longer c tag =
    let last = flat_map holder_bytes c.bricks ++ tag in
    let e = ap length (key_first c tag) ∙ length-append (1 ∷ c.key.0) (after_key c tag) in
    (length last, omega (arith, e))

key_size : (bytes : List ℕ) → bytes ≡ cookie_fields (cookie_in bytes) ++ tag_in bytes → length (cookie_in bytes).key.0 ≡ 16
unfolding cookie_in
key_size bytes again =
    let (rest, sizes) = longer (cookie_in bytes) (tag_in bytes) in
    let whole : length bytes ≡ 1 + length (cookie_in bytes).key.0 + 23 + rest = ap length again ∙ sizes in
    let key : length (cookie_in bytes).key.0 ≡ min 16 (length bytes - 1) = length-take 16 (drop 1 bytes) ∙ ap (min 16) (length-drop 1 bytes) in
    omega (arith, whole, key)

-- bytes that pass the test have the form of the cookie that is read
pub tested_form : (bytes : List ℕ) → IsBytes bytes → is_form bytes ≡ true → HasForm bytes (cookie_in bytes) (tag_in bytes)
unfolding is_form
tested_form bytes small test =
    let c = cookie_in bytes in
    let fields = cookie_fields c ++ tag_in bytes in
    let (first, same) = and_parts (are_holders c.bricks && (length (tag_in bytes) == TAG_BYTES)) (bytes_eq bytes fields) test in
    let (bricks, size) = and_parts (are_holders c.bricks) (length (tag_in bytes) == TAG_BYTES) first in
    let again : bytes ≡ fields = (bytes_eq-Decides bytes fields).0 same in
    let is_key : IsKey c.key = record { size = key_size bytes again; bytes = key_bytes bytes small } in
    record {
      is_cookie = record {
        head = (is_key, version_fits bytes small, expiry_fits bytes small);
        each = bricks_fit bytes small;
        bricks = (holders_tested c.bricks).0 bricks;
      };
      tag_size = eqb-true (length (tag_in bytes)) TAG_BYTES size;
      bytes_are = again;
    }
