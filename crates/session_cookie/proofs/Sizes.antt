-- How many bytes the parts of a cookie have.
use Rattle.std.proofs.Common.{arith, ◌≡◌, ℕ, ◌*◌, List, [], ◌∷◌, ◌++◌, length, refl}
use Rattle.std.proofs.lemmas.List.{length-append}
use Rattle.std.specs.Int.{w64, to_be_bytes}
use Rattle.std.specs.List.{flat_map}
use Rattle.crash_base.specs.declared.numbers.Moment.{Moment}
use Rattle.crash_base.specs.declared.numbers.SessionKey.{SessionKey}
use Rattle.crash_base.specs.declared.numbers.Version.{Version}
use Rattle.session_cookie.specs.Cookie.{version_bytes, holder_bytes, head_bytes}
use Rattle.session_cookie.specs.declared.cookie.Holder.{Holder}

pub length-version : (v : Version) → length (version_bytes v) ≡ 14
unfolding version_bytes
length-version v = refl

pub length-holder : (h : Holder) → length (holder_bytes h) ≡ 10
unfolding holder_bytes
length-holder h = refl

pub length-holders : (hs : List Holder) → length (flat_map holder_bytes hs) ≡ 10 * length hs
length-holders [] = refl
length-holders (h ∷ hs) =
    let more = length-append (holder_bytes h) (flat_map holder_bytes hs) in
    omega (arith, more, length-holder h, length-holders hs)

pub length-head : (key : SessionKey) (version : Version) (expiry : Moment) (count : ℕ) → length key.0 ≡ 16 → length (head_bytes key version expiry count) ≡ 40
unfolding head_bytes
length-head key version expiry count size =
    let three = length-append (1 ∷ key.0 ++ version_bytes version ++ to_be_bytes w64 expiry.0) (count ∷ []) in
    let two = length-append (1 ∷ key.0 ++ version_bytes version) (to_be_bytes w64 expiry.0) in
    let one = length-append (1 ∷ key.0) (version_bytes version) in
    omega (arith, one, two, three, length-version version, size)
