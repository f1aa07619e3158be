-- The test of 1 to 16 distinct bricks is exact.
use Rattle.std.proofs.Common.{◌≡◌, ◌≢◌, ◌==◌, ◌&&◌, nat_le, ℕ, true, false, not, List, [], ◌∷◌, length, All, refl}
use Rattle.std.proofs.lemmas.Bool.{and_from, and_parts, or_parts, or_from, not-true, not_from_false, eqb-false, ne_eqb, leb-true, le-leb}
use Rattle.std.proofs.lemmas.List.Elements.{All-nil, All-cons, All-head, All-tail}
use Rattle.std.specs.Bool.{Decides}
use Rattle.std.specs.List.{list_any}
use Rattle.session_cookie.specs.Cookie.{AreDistinct, AreHolders}
use Rattle.session_cookie.specs.Reading.{are_distinct}
use Rattle.session_cookie.specs.declared.cookie.Holder.{Holder}
use Rattle.session_cookie.specs.declared.cookie.TheConstants.{MAX_HOLDERS}
use Rattle.text_readings.specs.CookieTexts.{are_holders}

-- a brick that is not among others differs from each, and the other way round
apart : (b : ℕ) (hs : List Holder) → list_any (λ (h : Holder). b == h.brick.0) hs ≡ false → All (λ (h : Holder). b ≢ h.brick.0) hs
apart b [] e = All-nil (λ (h : Holder). b ≢ h.brick.0)
apart b (x ∷ xs) e =
    let (here, later) = or_parts (b == x.brick.0) (list_any (λ (h : Holder). b == h.brick.0) xs) e in
    All-cons (λ (h : Holder). b ≢ h.brick.0) x xs (eqb-false b x.brick.0 here) (apart b xs later)

among : (b : ℕ) (hs : List Holder) → All (λ (h : Holder). b ≢ h.brick.0) hs → list_any (λ (h : Holder). b == h.brick.0) hs ≡ false
among b [] h = refl
among b (x ∷ xs) h =
    or_from (b == x.brick.0) (list_any (λ (h : Holder). b == h.brick.0) xs)
    (ne_eqb b x.brick.0 (All-head (λ (h : Holder). b ≢ h.brick.0) x xs h)) (among b xs (All-tail (λ (h : Holder). b ≢ h.brick.0) x xs h))

distinct : (hs : List Holder) → are_distinct hs ≡ true → AreDistinct hs
distinct [] e = tt
distinct (x ∷ xs) e =
    let (here, later) = and_parts (not (list_any (λ (h : Holder). x.brick.0 == h.brick.0) xs)) (are_distinct xs) e in
    (apart x.brick.0 xs (not-true (list_any (λ (h : Holder). x.brick.0 == h.brick.0) xs) here), distinct xs later)

tested : (hs : List Holder) → AreDistinct hs → are_distinct hs ≡ true
tested [] h = refl
tested (x ∷ xs) (here, later) =
    and_from (not (list_any (λ (h : Holder). x.brick.0 == h.brick.0) xs)) (are_distinct xs)
    (not_from_false (list_any (λ (h : Holder). x.brick.0 == h.brick.0) xs) (among x.brick.0 xs here)) (tested xs later)

tested_are_holders : (hs : List Holder) → are_holders hs ≡ true → AreHolders hs
tested_are_holders hs e =
    let n = length hs in
    let (counts, apart_from) = and_parts (nat_le 1 n && nat_le n MAX_HOLDERS) (are_distinct hs) e in
    let (some, few) = and_parts (nat_le 1 n) (nat_le n MAX_HOLDERS) counts in
    (leb-true 1 n some, leb-true n MAX_HOLDERS few, distinct hs apart_from)

holders_are_tested : (hs : List Holder) → AreHolders hs → are_holders hs ≡ true
holders_are_tested hs (some, few, apart_from) =
    let n = length hs in
    and_from (nat_le 1 n && nat_le n MAX_HOLDERS) (are_distinct hs)
    (and_from (nat_le 1 n) (nat_le n MAX_HOLDERS) (le-leb 1 n some) (le-leb n MAX_HOLDERS few)) (tested hs apart_from)

-- bricks pass the test exactly where a cookie may have them
pub holders_tested : (hs : List Holder) → Decides (are_holders hs) (AreHolders hs)
holders_tested hs = (tested_are_holders hs, holders_are_tested hs)
