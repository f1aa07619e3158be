-- The nonces of calls, as calls are told things and as more begin.
use Rattle.std.proofs.Common.{◌≡◌, ℕ, zero, suc, ◌||◌, Bool, true, false, cond, List, [], ◌∷◌, ◌++◌, Some, Result, Ok, Err, OnOk, OnErr, refl, sym, ap, ◌∙◌}
use Rattle.std.specs.Prelude.{slice_get, slice_set}
use Rattle.std.specs.BTreeMap.{is_at}
use Rattle.std.specs.BTreeSet.{BTreeSet, Updates}
use Rattle.std.specs.List.{list_any}
use Rattle.std.proofs.lemmas.List.Folds.{list_any-append}
use Rattle.brick_store.proofs.KeptOrder.{is_eq-version}
use Rattle.crash_base.specs.declared.numbers.Version.{Version}
use Rattle.crash_base.specs.Same.{same_version}
use Rattle.ssm_stub.specs.declared.event.Told.{Told}
use Rattle.ssm_world.specs.declared.call.Call.{Call}
use Rattle.ssm_world.specs.declared.call.Call.TheVariants as call
use Rattle.ssm_world.specs.declared.ordered_nonces.Nonce.{Nonce}
use Rattle.ssm_world.specs.Nonces.{nonce_order, key_of, is_among, AreNonces}
use Rattle.ssm_world.specs.Worlds.{nonce_of, hear}

pub among_more : (old new : BTreeSet Nonce) (key : Nonce) (version : Version) → key ≡ key_of version → Updates nonce_order old new key true
    → (other : Version) → is_among new other ≡ (same_version version other || is_among old other)
among_more old new key version is updates = λ other.
    updates.0 (key_of other)
    ∙ ap (λ k. cond (is_at (nonce_order k) (key_of other)) true (is_among old other)) is
    ∙ go (is_at (nonce_order (key_of version)) (key_of other)) (same_version version other) (is_among old other) (is_eq-version version other)
  where
    go : (a b rest : Bool) → a ≡ b → cond a true rest ≡ (b || rest)
    go a true rest same = ap (λ x. cond x true rest) same
    go a false rest same = ap (λ x. cond x true rest) same

last : (a b : Bool) → (a || b) ≡ (b || (a || false))
last true true = refl
last true false = refl
last false true = refl
last false false = refl

-- one call more
pub nonces_more : (old new : BTreeSet Nonce) (calls : List Call) (c : Call) → AreNonces old calls
    → ((other : Version) → is_among new other ≡ (same_version (nonce_of c) other || is_among old other)) → AreNonces new (calls ++ c ∷ [])
nonces_more old new calls c are more = λ version.
    let test : Call → Bool = λ (d : Call). same_version (nonce_of d) version in
    more version ∙ ap (λ b. test c || b) (are version) ∙ last (test c) (list_any test calls) ∙ sym (list_any-append test calls (c ∷ []))

pub any_set : (test : Call → Bool) (calls : List Call) (i : ℕ) (c d : Call) → slice_get calls i ≡ Some c → test d ≡ test c → list_any test (slice_set calls i d) ≡ list_any test calls
any_set test [] i c d there same = refl
any_set test (e ∷ calls) zero c d there same = let one : e ≡ c = cc in ap (λ b. b || list_any test calls) (same ∙ ap test (sym one))
any_set test (e ∷ calls) (suc i) c d there same = ap (λ b. test e || b) (any_set test calls i c d there same)

pub hear_nonce : (c : Call) (told : Told) → nonce_of (hear c told) ≡ nonce_of c
hear_nonce (call.Write s) told = refl
hear_nonce (call.Read s) told = refl

-- a call that was told something
pub nonces_set : (nonces : BTreeSet Nonce) (calls : List Call) (i : ℕ) (c d : Call) → slice_get calls i ≡ Some c → nonce_of d ≡ nonce_of c → AreNonces nonces calls → AreNonces nonces (slice_set calls i d)
nonces_set nonces calls i c d there same are = λ version.
    are version ∙ sym (any_set (λ (e : Call). same_version (nonce_of e) version) calls i c d there (ap (λ v. same_version v version) same))

-- a call keeps its nonce whether it was told something or memory ran out
pub told_nonce : {A X : Type 0} (result : Result A X) (c d : Call) (told : Told) → OnOk result (d ≡ hear c told) → OnErr result (d ≡ c) → nonce_of d ≡ nonce_of c
told_nonce (Ok a) c d told ok err = ap nonce_of ok ∙ hear_nonce c told
told_nonce (Err x) c d told ok err = ap nonce_of err

pub told_set : {A X : Type 0} (result : Result A X) (calls seen : List Call) (i : ℕ) (c d : Call) (told : Told) → calls ≡ seen → slice_get calls i ≡ Some c → OnOk result (d ≡ hear c told)
    → OnOk result ((e : Call) → slice_get seen i ≡ Some e → slice_set calls i d ≡ slice_set seen i (hear e told))
told_set (Ok a) calls seen i c d told same there ok = λ e at.
    let one : Some c ≡ Some e = sym there ∙ ap (λ l. slice_get l i) same ∙ at in
    let called : c ≡ e = cc in
    let new : d ≡ hear e told = ok ∙ ap (λ x. hear x told) called in
    λ l. slice_set (same l) i (new l)
told_set (Err x) calls seen i c d told same there ok = tt
