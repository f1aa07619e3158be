-- Bytes are the fields of one cookie at most.
use Rattle.std.proofs.Common.{arith, ◌≡◌, ◌<◌, ◌^◌, ℕ, ◌*◌, List, [], ◌∷◌, ◌++◌, length, take, drop, get_or, All, refl, sym, ap, ◌∙◌}
use Rattle.std.proofs.lemmas.List.{take_at, drop_at, length-append}
use Rattle.std.proofs.lemmas.List.Elements.{All-head, All-tail}
use Rattle.std.proofs.lemmas.Nat.{from_be_bytes-to_be_bytes_2, from_be_bytes-to_be_bytes_4, from_be_bytes-to_be_bytes_8}
use Rattle.std.specs.Int.{w16, w32, w64, to_be_bytes, from_be_bytes}
use Rattle.std.specs.List.{flat_map}
use Rattle.crash_base.specs.declared.numbers.Moment.{Moment}
use Rattle.crash_base.specs.declared.numbers.SessionKey.{SessionKey}
use Rattle.crash_base.specs.declared.numbers.Version.{Version}
use Rattle.session_cookie.specs.Cookie.{version_bytes, holder_bytes, head_bytes, IsVersion, IsHolder, IsHead}
use Rattle.session_cookie.specs.declared.cookie.Holder.{Holder}
use Rattle.session_cookie.proofs.Sizes.{length-version, length-holder, length-holders, length-head}

-- lists that begin with after many items are one only where both parts are
pub split_same : (xs ys after behind : List ℕ) → length xs ≡ length ys → xs ++ after ≡ ys ++ behind → (xs ≡ ys) × (after ≡ behind)
split_same xs ys after behind l e = (
  sym (take_at xs after (length xs) refl) ∙ ap (take (length xs)) e ∙ take_at ys behind (length xs) (sym l),
  sym (drop_at xs after (length xs) refl) ∙ ap (drop (length xs)) e ∙ drop_at ys behind (length xs) (sym l),
)

-- a number of 2, 4 or 8 bytes
pub two_same : (m n : ℕ) → m < 2 ^ 16 → n < 2 ^ 16 → to_be_bytes w16 m ≡ to_be_bytes w16 n → m ≡ n
two_same m n a b e = sym (from_be_bytes-to_be_bytes_2 m a) ∙ ap (from_be_bytes w16) e ∙ from_be_bytes-to_be_bytes_2 n b

pub four_same : (m n : ℕ) → m < 2 ^ 32 → n < 2 ^ 32 → to_be_bytes w32 m ≡ to_be_bytes w32 n → m ≡ n
four_same m n a b e = sym (from_be_bytes-to_be_bytes_4 m a) ∙ ap (from_be_bytes w32) e ∙ from_be_bytes-to_be_bytes_4 n b

pub eight_same : (m n : ℕ) → m < 2 ^ 64 → n < 2 ^ 64 → to_be_bytes w64 m ≡ to_be_bytes w64 n → m ≡ n
eight_same m n a b e = sym (from_be_bytes-to_be_bytes_8 m a) ∙ ap (from_be_bytes w64) e ∙ from_be_bytes-to_be_bytes_8 n b

-- a version
version_of : ℕ → ℕ → ℕ → Version
version_of node boot serial = record { node = node; boot = boot; serial = serial }

version_same : (v w : Version) → IsVersion v → IsVersion w → version_bytes v ≡ version_bytes w → v ≡ w
unfolding version_bytes version_of
version_same v w (vn, vb, vs) (wn, wb, ws) e =
    let a = split_same (to_be_bytes w16 v.node ++ to_be_bytes w32 v.boot) (to_be_bytes w16 w.node ++ to_be_bytes w32 w.boot) (to_be_bytes w64 v.serial) (to_be_bytes w64 w.serial) refl e in
    let b = split_same (to_be_bytes w16 v.node) (to_be_bytes w16 w.node) (to_be_bytes w32 v.boot) (to_be_bytes w32 w.boot) refl a.0 in
    ap (λ n. version_of n v.boot v.serial) (two_same v.node w.node vn wn b.0)
    ∙ ap (λ n. version_of w.node n v.serial) (four_same v.boot w.boot vb wb b.1)
    ∙ ap (λ n. version_of w.node w.boot n) (eight_same v.serial w.serial vs ws a.1)

-- a holder, and holders
holder_of : ℕ → ℕ → Holder
holder_of brick incarnation = record { brick = record { 0 = brick }; incarnation = incarnation }

holder_same : (h g : Holder) → IsHolder h → IsHolder g → holder_bytes h ≡ holder_bytes g → h ≡ g
unfolding holder_bytes holder_of
holder_same h g (hb, hi) (gb, gi) e =
    let a = split_same (to_be_bytes w16 h.brick.0) (to_be_bytes w16 g.brick.0) (to_be_bytes w64 h.incarnation) (to_be_bytes w64 g.incarnation) refl e in
    ap (λ n. holder_of n h.incarnation) (two_same h.brick.0 g.brick.0 hb gb a.0)
    ∙ ap (λ n. holder_of g.brick.0 n) (eight_same h.incarnation g.incarnation hi gi a.1)

holders_same : (hs gs : List Holder) → length hs ≡ length gs → All IsHolder hs → All IsHolder gs → flat_map holder_bytes hs ≡ flat_map holder_bytes gs → hs ≡ gs
holders_same [] [] l a b e = refl
holders_same [] (g ∷ gs) l a b e = absurd (omega (arith, l))
holders_same (h ∷ hs) [] l a b e = absurd (omega (arith, l))
holders_same (h ∷ hs) (g ∷ gs) l a b e =
    let s = split_same (holder_bytes h) (holder_bytes g) (flat_map holder_bytes hs) (flat_map holder_bytes gs) (length-holder h ∙ sym (length-holder g)) e in
    let n : length hs ≡ length gs = omega (arith, l) in
    ap (λ x. x ∷ hs) (holder_same h g (All-head IsHolder h hs a) (All-head IsHolder g gs b) s.0)
    ∙ ap (λ xs. g ∷ xs) (holders_same hs gs n (All-tail IsHolder h hs a) (All-tail IsHolder g gs b) s.1)

-- holders, whatever follows them
pub bricks_same : (hs gs : List Holder) (after behind : List ℕ) → length hs ≡ length gs → All IsHolder hs → All IsHolder gs
    → flat_map holder_bytes hs ++ after ≡ flat_map holder_bytes gs ++ behind → (hs ≡ gs) × (after ≡ behind)
bricks_same hs gs after behind l a b e =
    let n : length (flat_map holder_bytes hs) ≡ length (flat_map holder_bytes gs) = length-holders hs ∙ ap (λ k. 10 * k) l ∙ sym (length-holders gs) in
    let s = split_same (flat_map holder_bytes hs) (flat_map holder_bytes gs) after behind n e in
    (holders_same hs gs l a b s.0, s.1)

-- a head
pub record SameHead (k l : SessionKey) (v w : Version) (m n : Moment) (count other : ℕ) : Type 0 where
  pub keys : k ≡ l
  pub versions : v ≡ w
  pub expiries : m ≡ n
  pub counts : count ≡ other

heads_are : (k l : SessionKey) (v w : Version) (m n : Moment) (count other : ℕ) → IsHead k v m → IsHead l w n
    → head_bytes k v m count ≡ head_bytes l w n other → SameHead k l v w m n count other
unfolding head_bytes
heads_are k l v w m n count other (ks, vs, ms) (ls, ws, ns) e =
    let one : length (1 ∷ k.0) ≡ length (1 ∷ l.0) = omega (arith, ks.size, ls.size) in
    let two : length (1 ∷ k.0 ++ version_bytes v) ≡ length (1 ∷ l.0 ++ version_bytes w) =
    omega (arith, one, length-append (1 ∷ k.0) (version_bytes v), length-append (1 ∷ l.0) (version_bytes w), length-version v, length-version w) in
    let three : length (1 ∷ k.0 ++ version_bytes v ++ to_be_bytes w64 m.0) ≡ length (1 ∷ l.0 ++ version_bytes w ++ to_be_bytes w64 n.0) =
    omega (arith, two, length-append (1 ∷ k.0 ++ version_bytes v) (to_be_bytes w64 m.0), length-append (1 ∷ l.0 ++ version_bytes w) (to_be_bytes w64 n.0)) in
    let a = split_same (1 ∷ k.0 ++ version_bytes v ++ to_be_bytes w64 m.0) (1 ∷ l.0 ++ version_bytes w ++ to_be_bytes w64 n.0) (count ∷ []) (other ∷ []) three e in
    let b = split_same (1 ∷ k.0 ++ version_bytes v) (1 ∷ l.0 ++ version_bytes w) (to_be_bytes w64 m.0) (to_be_bytes w64 n.0) two a.0 in
    let c = split_same (1 ∷ k.0) (1 ∷ l.0) (version_bytes v) (version_bytes w) one b.0 in
    record {
      keys = ap (λ bytes. record { 0 = bytes }) (ap (drop 1) c.0);
      versions = version_same v w vs ws c.1;
      expiries = ap (λ number. record { 0 = number }) (eight_same m.0 n.0 ms ns b.1);
      counts = ap (λ bytes. get_or bytes 0 0) a.1;
    }

pub head_same : (k l : SessionKey) (v w : Version) (m n : Moment) (count other : ℕ) (after behind : List ℕ) → IsHead k v m → IsHead l w n
    → head_bytes k v m count ++ after ≡ head_bytes l w n other ++ behind → SameHead k l v w m n count other × (after ≡ behind)
head_same k l v w m n count other after behind h g e =
    let s = split_same (head_bytes k v m count) (head_bytes l w n other) after behind (length-head k v m count h.0.size ∙ sym (length-head l w n other g.0.size)) e in
    (heads_are k l v w m n count other h g s.0, s.1)
