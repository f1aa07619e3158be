-- What a call that goes on adds to the histories of bricks.
use Rattle.std.proofs.Common.{◌≡◌, ℕ, zero, suc, ◌||◌, Bool, true, false, not, List, [], ◌∷◌, ◌++◌, Some, refl, sym, ap, ◌∙◌}
use Rattle.std.specs.Prelude.{slice_get}
use Rattle.std.specs.List.{list_any}
use Rattle.crash_base.specs.declared.numbers.BrickNo.{BrickNo}
use Rattle.crash_base.specs.declared.numbers.Version.{Version}
use Rattle.crash_base.specs.Same.{same_version}
use Rattle.brick_store.specs.declared.kept.Kept.{Kept}
use Rattle.brick_store.specs.declared.event.BrickEvent.{BrickEvent}
use Rattle.brick_store.specs.declared.event.BrickEvent.TheVariants as happened
use Rattle.ssm_world.specs.declared.call.Call.{Call}
use Rattle.ssm_world.specs.Sound.{untold, Grows}
use Rattle.ssm_world.specs.Worlds.{WorldValue, nonce_of, history, is_new}
use Rattle.ssm_world.proofs.Growing.{same_nonce}
use Rattle.ssm_world.proofs.Lists.{none_passes}
use Rattle.session_lanes.proofs.Ending.{OnlyStores}
use Rattle.session_lanes.proofs.Storing.{OnlyUnder, Adds, AddsUnder}

-- each value that was stored among these events has a version that no call of a world has had
abbrev pub AreNew : WorldValue → List BrickEvent → Type 0
AreNew w newer = (i : ℕ) (s : Kept) → slice_get newer i ≡ Some (happened.Stored s) → is_new w s.version ≡ true

-- a history, to which values were added at most that were stored under new versions
pub record OnlyGrew (w : WorldValue) (brick : BrickNo) (g : List BrickEvent) : Type 0 where
  pub earlier : List BrickEvent
  pub newer : List BrickEvent
  pub history_is : history w brick ≡ Some earlier
  pub parts : g ≡ newer ++ earlier
  pub only : OnlyStores newer
  pub new : AreNew w newer

-- each history is so
pub record Stores (w v : WorldValue) : Type 0 where
  pub each : (brick : BrickNo) (g : List BrickEvent) → history v brick ≡ Some g → OnlyGrew w brick g

pub stores_same : (w v : WorldValue) → v.histories ≡ w.histories → Stores w v
stores_same w v same = record {
  each = λ brick g is. record {
    earlier = g;
    newer = [];
    history_is = ap (λ hs. history (record { histories = hs; packets = []; calls = [] }) brick) (sym same) ∙ is;
    parts = refl;
    only = tt;
    new = λ i s at. absurd (cc);
  };
}

only_stores : (version : Version) (newer : List BrickEvent) → OnlyUnder version newer → OnlyStores newer
only_stores version [] only = tt
only_stores version (happened.Stored s ∷ newer) only = only_stores version newer only.1
only_stores version (happened.Sweep moment ∷ newer) only = only
only_stores version (happened.Crash ∷ newer) only = only

version_at : (version : Version) (newer : List BrickEvent) (i : ℕ) (s : Kept) → OnlyUnder version newer → slice_get newer i ≡ Some (happened.Stored s) → s.version ≡ version
version_at version [] i s only at = absurd (cc)
version_at version (happened.Stored t ∷ newer) zero s only at = let same : t ≡ s = cc in ap (λ (x : Kept). x.version) (sym same) ∙ only.0
version_at version (happened.Stored t ∷ newer) (suc i) s only at = version_at version newer i s only.1 at
version_at version (happened.Sweep moment ∷ newer) i s only at = absurd only
version_at version (happened.Crash ∷ newer) i s only at = absurd only

-- a call with a new nonce that goes on
pub adds_stores : (w begun v : WorldValue) (version : Version) → begun.histories ≡ w.histories → is_new w version ≡ true → AddsUnder begun version v → Stores w v
adds_stores w begun v version same new adds = record {
  each = λ brick g is. (
      let added : Adds begun version brick g = adds brick g is in
      record {
        earlier = added.earlier;
        newer = added.newer;
        history_is = ap (λ hs. history (record { histories = hs; packets = []; calls = [] }) brick) (sym same) ∙ added.history_is;
        parts = added.parts;
        only = only_stores version added.newer added.only;
        new = λ i s at. ap (is_new w) (version_at version added.newer i s added.only at) ∙ new;
      });
}

-- what passes a test, where one does
pub record PassesAt {A : Type 0} (test : A → Bool) (xs : List A) : Type 0 where
  pub place : ℕ
  pub item : A
  pub there : slice_get xs place ≡ Some item
  pub passes : test item ≡ true

pub any_passes : {A : Type 0} (test : A → Bool) (xs : List A) → list_any test xs ≡ true → PassesAt test xs
any_passes test [] any = absurd (cc)
any_passes {A} test (x ∷ xs) any = go (test x) refl any (any_passes test xs)
  where
    go : (b : Bool) → test x ≡ b → (b || list_any test xs) ≡ true → (list_any test xs ≡ true → PassesAt test xs) → PassesAt test (x ∷ xs)
    go true is e later = record { place = 0; item = x; there = refl; passes = is }
    go false is e later = let found : PassesAt test xs = later e in record { place = suc found.place; item = found.item; there = found.there; passes = found.passes }

-- a version that is new was new before
pub new_before : (w v : WorldValue) (version : Version) → Grows w v → is_new v version ≡ true → is_new w version ≡ true
new_before w v version grows new = go (list_any (λ (c : Call). same_version (nonce_of c) version) w.calls) refl
  where
    had : PassesAt (λ (c : Call). same_version (nonce_of c) version) w.calls → ⊥
    had found =
        let now : (d : Call) × (slice_get v.calls found.place ≡ Some d) × (untold d ≡ untold found.item) = grows.calls found.place found.item found.there in
        let none : same_version (nonce_of now.0) version ≡ false = none_passes (λ (c : Call). same_version (nonce_of c) version) v.calls found.place now.0 new now.1 in
        let some : same_version (nonce_of now.0) version ≡ true = ap (λ n. same_version n version) (same_nonce found.item now.0 now.2) ∙ found.passes in
        let clash : true ≡ false = sym some ∙ none in
        cc

    go : (b : Bool) → list_any (λ (c : Call). same_version (nonce_of c) version) w.calls ≡ b → not b ≡ true
    go false is = refl
    go true is = absurd (had (any_passes (λ (c : Call). same_version (nonce_of c) version) w.calls is))
