-- Bricks by their numbers.
use Rattle.std.proofs.Common.{◌≡◌, inl, inr, ℕ, zero, suc, ◌+◌, ◌-◌, true, List, [], ◌∷◌, ◌++◌, add-one, length, length-append, ◌^◌, ◌<◌, Option, Some, None, refl, sym, ap, ◌∙◌, arith, get_or}
use Rattle.std.specs.Prelude.{slice_get, slice_set, is_some, option_map}
use Rattle.std.proofs.lemmas.Option.{slice_get-map, slice_get-get_or}
use Rattle.std.proofs.lemmas.List.{map-append, length-set}
use lib.ListN.{replicate}
use Rattle.crash_base.specs.declared.numbers.BrickNo.{BrickNo}
use Rattle.brick_store.specs.declared.event.BrickEvent.{BrickEvent}
use Rattle.ssm_world.specs.Logged.{LoggedValue, histories_of, AreNumbered}
use Rattle.ssm_world.specs.Worlds.{history_at, with_history_at}
use Rattle.ssm_world.proofs.Lists.{get_last, get_set}

pub some_is : {A : Type 0} (o : Option A) → is_some o ≡ true → (x : A) × (o ≡ Some x)
some_is None e = absurd (cc)
some_is (Some x) e = (x, refl)

-- a brick that has a history stands at its number's place
pub record StandsAt (bricks : List LoggedValue) (n : ℕ) (h : List BrickEvent) (s : LoggedValue) : Type 0 where
  pub there : slice_get bricks (n - 1) ≡ Some s
  pub history_is : s.history ≡ h
  pub number_is : n ≡ (n - 1) + 1

stands_in : (bricks : List LoggedValue) (i : ℕ) (h : List BrickEvent) (d : LoggedValue) → slice_get (histories_of bricks) i ≡ Some h → (slice_get bricks i ≡ Some (get_or bricks i d)) × ((get_or bricks i d).history ≡ h)
stands_in [] i h d is = absurd (cc)
stands_in (s ∷ bricks) zero h d is = (refl, cc)
stands_in (s ∷ bricks) (suc i) h d is = stands_in bricks i h d is

pub stands_at : (bricks : List LoggedValue) (n : ℕ) (h : List BrickEvent) (s : LoggedValue) → history_at (histories_of bricks) n ≡ Some h → s ≡ get_or bricks (n - 1) s → StandsAt bricks n h s
stands_at bricks zero h s is read = absurd (cc)
stands_at bricks (suc i) h s is read =
    let place : suc i - 1 ≡ i = omega arith in
    let inside : (slice_get bricks i ≡ Some (get_or bricks i s)) × ((get_or bricks i s).history ≡ h) = stands_in bricks i h s is in
    let same : get_or bricks i s ≡ s = ap (λ k. get_or bricks k s) (sym place) ∙ sym read in
    record {
      there = ap (slice_get bricks) place ∙ inside.0 ∙ ap (λ t. Some t) same;
      history_is = ap (λ (t : LoggedValue). t.history) (sym same) ∙ inside.1;
      number_is = omega arith;
    }

set_in : (bricks : List LoggedValue) (i : ℕ) (t : LoggedValue) → histories_of (slice_set bricks i t) ≡ slice_set (histories_of bricks) i t.history
set_in [] i t = refl
set_in (s ∷ bricks) zero t = refl
set_in (s ∷ bricks) (suc i) t = ap (λ l. s.history ∷ l) (set_in bricks i t)

pub set_at : (bricks : List LoggedValue) (n : ℕ) (t : LoggedValue) → n ≡ (n - 1) + 1 → histories_of (slice_set bricks (n - 1) t) ≡ with_history_at (histories_of bricks) n t.history
set_at bricks zero t is = absurd (omega (arith, is))
set_at bricks (suc i) t is =
    let place : suc i - 1 ≡ i = omega arith in
    ap (λ k. histories_of (slice_set bricks k t)) place ∙ set_in bricks i t

pub numbered_set : (bricks : List LoggedValue) (i : ℕ) (s t : LoggedValue) → AreNumbered bricks → slice_get bricks i ≡ Some s → t.number ≡ s.number → AreNumbered (slice_set bricks i t)
numbered_set bricks i s t numbered there same = record {
  each = λ j u is. elim (get_set bricks i t j u is) [
    | inl old ↦ numbered.each j u old
    | inr new ↦ ap (λ (v : LoggedValue). v.number.0) (sym new.1) ∙ ap (λ (b : BrickNo). b.0) same ∙ numbered.each i s there ∙ ap (λ k. k + 1) (sym new.0)
  ];
  few = omega (arith, length-set bricks i t, numbered.few);
}

-- a brick has the number that it stands at
pub number_at : (bricks : List LoggedValue) (brick : BrickNo) (h : List BrickEvent) (s : LoggedValue) → AreNumbered bricks → StandsAt bricks brick.0 h s → s.number ≡ brick
number_at bricks brick h s numbered at =
    let number : s.number.0 ≡ brick.0 = numbered.each (brick.0 - 1) s at.there ∙ sym at.number_is in
    λ l. record { 0 = number l }

-- one brick more that has gone through nothing
replicate_more : (n : ℕ) (h : List BrickEvent) → replicate n h ++ h ∷ [] ≡ replicate (suc n) h
replicate_more zero h = refl
replicate_more (suc n) h = ap (λ l. h ∷ l) (replicate_more n h)

pub numbered_push : (bricks : List LoggedValue) (b : LoggedValue) → AreNumbered bricks → b.number.0 ≡ length bricks + 1 → length bricks + 1 < 2 ^ 16 → AreNumbered (bricks ++ b ∷ [])
numbered_push bricks b numbered number few = record {
  each = λ i s is. elim (get_last bricks b i s is) [
    | inl old ↦ numbered.each i s old
    | inr new ↦ ap (λ (t : LoggedValue). t.number.0) (sym new.1) ∙ number ∙ ap (λ k. k + 1) (sym new.0)
  ];
  few = omega (arith, length-append bricks (b ∷ []), few);
}

pub blank_push : (bricks : List LoggedValue) (b : LoggedValue) (n : ℕ) → histories_of bricks ≡ replicate n [] → b.history ≡ [] → histories_of (bricks ++ b ∷ []) ≡ replicate (n + 1) []
blank_push bricks b n blank new =
    map-append (λ (t : LoggedValue). t.history) bricks (b ∷ []) ∙ (λ l. blank l ++ new l ∷ []) ∙ replicate_more n [] ∙ ap (λ k. replicate k []) (sym (add-one n))

-- the history of a brick that stands at a place
pub there_at : (bricks : List LoggedValue) (n i : ℕ) (s : LoggedValue) → n ≡ i + 1 → i < length bricks → s ≡ get_or bricks i s → history_at (histories_of bricks) n ≡ Some s.history
there_at bricks n i s number within read =
    let place : n ≡ suc i = omega (arith, number) in
    ap (history_at (histories_of bricks)) place ∙ slice_get-map (λ (t : LoggedValue). t.history) bricks i
    ∙ ap (option_map (λ (t : LoggedValue). t.history)) (slice_get-get_or bricks i s within ∙ ap (λ t. Some t) (sym read))
