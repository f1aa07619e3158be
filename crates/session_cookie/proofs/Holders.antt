-- Bytes that are holders, and distinct bricks.
use Rattle.std.proofs.Common.{arith, ◌≡◌, ◌≢◌, ◌≤◌, ℕ, ◌+◌, ◌*◌, ◌==◌, true, false, not, List, [], ◌∷◌, ◌++◌, length, All, refl, sym, ap, ◌∙◌}
use Rattle.std.proofs.lemmas.Bool.{and_parts, or_parts, or_from, not-true, eqb-false, ne_eqb}
use Rattle.std.proofs.lemmas.List.{append_assoc, flat_map_more, length-append}
use Rattle.std.proofs.lemmas.List.Elements.{All-nil, All-cons, All-head, All-tail}
use Rattle.std.specs.List.{flat_map, list_any}
use Rattle.session_cookie.specs.Cookie.{holder_bytes, AreDistinct}
use Rattle.session_cookie.specs.Reading.{IsTaken, HasBricks, are_distinct}
use Rattle.session_cookie.specs.declared.cookie.Holder.{Holder}
use Rattle.session_cookie.specs.declared.cookie.TheConstants.{MAX_HOLDERS}
use Rattle.session_cookie.proofs.Sizes.{length-holder, length-holders}

-- a holder was taken off, after some others
pub holder_taken : (bytes left rest : List ℕ) (holders more : List Holder) (holder : Holder) → bytes ≡ flat_map holder_bytes holders ++ left
    → IsTaken (holder_bytes holder) left rest → more ≡ holders ++ holder ∷ [] → bytes ≡ flat_map holder_bytes more ++ rest
holder_taken bytes left rest holders more holder so_far taken is =
    so_far ∙ ap (λ l. flat_map holder_bytes holders ++ l) taken.parts
    ∙ sym (append_assoc (flat_map holder_bytes holders) (holder_bytes holder) rest)
    ∙ ap (λ b. b ++ rest) (flat_map_more holder_bytes [] holders holder)
    ∙ ap (λ hs. flat_map holder_bytes hs ++ rest) (sym is)

pub smaller : (left rest : List ℕ) (holder : Holder) → IsTaken (holder_bytes holder) left rest → length left ≡ 10 + length rest
smaller left rest holder taken = omega (arith, taken.sizes, length-holder holder)

pub sizes_more : (size : ℕ) (left rest : List ℕ) (holders more : List Holder) (holder : Holder) → size ≡ 10 * length holders + length left
    → IsTaken (holder_bytes holder) left rest → more ≡ holders ++ holder ∷ [] → size ≡ 10 * length more + length rest
sizes_more size left rest holders more holder so_far taken is =
    let n : length more ≡ length holders + 1 = ap length is ∙ length-append holders (holder ∷ []) in
    omega (arith, n, so_far, smaller left rest holder taken)

-- a brick that is not among others differs from each, and the other way round
apart : (b : ℕ) (hs : List Holder) → list_any (λ (h : Holder). b == h.brick.0) hs ≡ false → All (λ (h : Holder). b ≢ h.brick.0) hs
apart b [] h = All-nil (λ (h : Holder). b ≢ h.brick.0)
apart b (x ∷ xs) h =
    let (here, later) = or_parts (b == x.brick.0) (list_any (λ (h : Holder). b == h.brick.0) xs) h in
    All-cons (λ (h : Holder). b ≢ h.brick.0) x xs (eqb-false b x.brick.0 here) (apart b xs later)

among : (b : ℕ) (hs : List Holder) → All (λ (h : Holder). b ≢ h.brick.0) hs → list_any (λ (h : Holder). b == h.brick.0) hs ≡ false
among b [] h = refl
among b (x ∷ xs) h =
    or_from (b == x.brick.0) (list_any (λ (h : Holder). b == h.brick.0) xs)
    (ne_eqb b x.brick.0 (All-head (λ (h : Holder). b ≢ h.brick.0) x xs h)) (among b xs (All-tail (λ (h : Holder). b ≢ h.brick.0) x xs h))

-- the test of distinct bricks is exact
pub distinct : (hs : List Holder) → are_distinct hs ≡ true → AreDistinct hs
distinct [] h = tt
distinct (x ∷ xs) h =
    let (here, later) = and_parts (not (list_any (λ (h : Holder). x.brick.0 == h.brick.0) xs)) (are_distinct xs) h in
    (apart x.brick.0 xs (not-true (list_any (λ (h : Holder). x.brick.0 == h.brick.0) xs) here), distinct xs later)

pub tested : (hs : List Holder) → AreDistinct hs → are_distinct hs ≡ true
tested [] h = refl
tested (x ∷ xs) (here, later) = rw (among x.brick.0 xs here) (tested xs later)

-- how many bricks and bytes there are
pub sizes_of : (count : ℕ) (bytes : List ℕ) (bricks : List Holder) (tag : List ℕ) → HasBricks count bytes bricks tag
    → (1 ≤ count) × (count ≤ MAX_HOLDERS) × (length bytes ≡ 10 * count + 32)
sizes_of count bytes bricks tag h =
    let n = ap length h.bytes_are in
    let p = length-append (flat_map holder_bytes bricks) tag in
    let l = length-holders bricks in
    (omega (arith, h.count_is, h.are_holders.0), omega (arith, h.count_is, h.are_holders.1), omega (arith, n, p, l, h.tag_size, h.count_is))
