-- What the tests of versions, keys, bricks and replies tell.
use Rattle.std.proofs.Common.{◌≡◌, ℕ, ◌==◌, ◌&&◌, Bool, true, false, refl, arith}
use Rattle.std.proofs.lemmas.Bool.Decides.{nat_tests}
use Rattle.std.proofs.lemmas.Slice.Eq.{bytes_eq-Decides}
use Rattle.crash_base.specs.declared.numbers.BrickNo.{BrickNo}
use Rattle.crash_base.specs.declared.numbers.SessionKey.{SessionKey}
use Rattle.crash_base.specs.declared.numbers.Version.{Version}
use Rattle.crash_base.specs.Same.{same_version, same_key}
use Rattle.ssm_stub.specs.declared.reply.Reference.{Reference}
use Rattle.ssm_stub.specs.Replies.{is_reply}

pub both : (a b : Bool) → (a && b) ≡ true → (a ≡ true) × (b ≡ true)
both true b h = (refl, h)
both false b h = absurd (cc)

all_of : (a b : Bool) → a ≡ true → b ≡ true → (a && b) ≡ true
all_of true b h k = k
all_of false b h k = absurd (cc)

pub same_number : (a b : ℕ) → (a == b) ≡ true → a ≡ b
same_number a b h = grind (arith, nat_tests)

pub number_same : (a : ℕ) → (a == a) ≡ true
number_same a = grind (arith, nat_tests)

pub number_other : (a b : ℕ) → (a ≡ b → ⊥) → (a == b) ≡ false
number_other a b h = grind (arith, nat_tests)

pub version_is : (a b : Version) → same_version a b ≡ true → a ≡ b
version_is a b h =
    let outer : ((a.node == b.node) ≡ true) × (((a.boot == b.boot) && (a.serial == b.serial)) ≡ true) = both _ _ h in
    let inner : ((a.boot == b.boot) ≡ true) × ((a.serial == b.serial) ≡ true) = both _ _ outer.1 in
    let node : a.node ≡ b.node = same_number _ _ outer.0 in
    let boot : a.boot ≡ b.boot = same_number _ _ inner.0 in
    let serial : a.serial ≡ b.serial = same_number _ _ inner.1 in
    λ i. record { node = node i; boot = boot i; serial = serial i }

pub version_same : (a : Version) → same_version a a ≡ true
version_same a = rw (number_same a.node, number_same a.boot, number_same a.serial) refl

pub key_is : (a b : SessionKey) → same_key a b ≡ true → a ≡ b
key_is a b h =
    let keys : a.0 ≡ b.0 = (bytes_eq-Decides a.0 b.0).0 h in
    λ i. record { 0 = keys i }

pub key_same : (a : SessionKey) → same_key a a ≡ true
key_same a = (bytes_eq-Decides a.0 a.0).1 refl

pub brick_is : (a b : BrickNo) → (a.0 == b.0) ≡ true → a ≡ b
brick_is a b h =
    let numbers : a.0 ≡ b.0 = same_number _ _ h in
    λ i. record { 0 = numbers i }

-- a frame that refers to a call refers to just what the call wants
pub reply_is : (wanted to : Reference) → is_reply wanted to ≡ true → to ≡ wanted
reply_is wanted to h =
    let first = both (same_version to.nonce wanted.nonce) (same_key to.key wanted.key && (same_version to.version wanted.version && (to.brick.0 == wanted.brick.0))) h in
    let second = both (same_key to.key wanted.key) (same_version to.version wanted.version && (to.brick.0 == wanted.brick.0)) first.1 in
    let third = both (same_version to.version wanted.version) (to.brick.0 == wanted.brick.0) second.1 in
    let nonce : to.nonce ≡ wanted.nonce = version_is _ _ first.0 in
    let key : to.key ≡ wanted.key = key_is _ _ second.0 in
    let version : to.version ≡ wanted.version = version_is _ _ third.0 in
    let brick : to.brick ≡ wanted.brick = brick_is _ _ third.1 in
    λ i. record { nonce = nonce i; key = key i; version = version i; brick = brick i }

-- and what it wants is a reply to it
pub reply_same : (to : Reference) → is_reply to to ≡ true
reply_same to =
    all_of (same_version to.nonce to.nonce) (same_key to.key to.key && (same_version to.version to.version && (to.brick.0 == to.brick.0))) (version_same to.nonce)
    (all_of (same_key to.key to.key) (same_version to.version to.version && (to.brick.0 == to.brick.0)) (key_same to.key)
    (all_of (same_version to.version to.version) (to.brick.0 == to.brick.0) (version_same to.version) (number_same to.brick.0)))
