-- Counts never fall.
use Rattle.std.proofs.Common.{arith, ◌≡◌, ◌⊎◌, inl, inr, refl, sym, ap, subst, ◌∙◌, ℕ, zero, suc, ◌+◌, ◌-◌, ◌<◌, ◌≤◌, ◌^◌, min, Bool, true, false, nat_lt, if◌then◌else◌, List, [], ◌∷◌, length, Option, Some, None}
use Rattle.std.specs.Prelude.{slice_get, slice_set}
use Rattle.std.proofs.lemmas.Bool.Decides.{nat_tests}
use lib.ListN.{replicate}
use Rattle.crash_base.specs.declared.numbers.BrickNo.{BrickNo}
use Rattle.outside.specs.Faults.{NeverFalls, Rose, counted}
use Rattle.ssm_stub.specs.declared.event.StubNext.{StubNext}
use Rattle.ssm_stub.specs.declared.event.StubNext.TheVariants as next
use Rattle.ssm_world.specs.declared.event.WorldEvent.TheVariants.{Send, Deliver}
use Rattle.ssm_world.specs.Worlds.{next_of}
use Rattle.ssm_world.proofs.Lists.{get_set_same}
use Rattle.session_lanes.specs.Counts.{CountsState, new_counts, CountsFit, CountsGrow, SilenceRose, or_unknown, silences_of, silent_at, silent_by, frame_got}
use Rattle.session_lanes.specs.Lane.{LaneState, lane_at, with_reply}
use Rattle.session_lanes.specs.Lanes.{LanesState, after_event, with_lane, asks, hears, listens, turn_to}
use Rattle.session_lanes.specs.Steps.{LanesStep, after_step}
use Rattle.session_lanes.proofs.StepCases.{step_cases}

-- a count that is one more, or the same
abbrev pub Raised : ℕ → ℕ → Type 0
Raised old new = (new ≡ old) ⊎ (new ≡ counted old)

raised_grows : (old new : ℕ) → old < 2 ^ 64 → Raised old new → NeverFalls old new
raised_grows old new fit (inl same) = record { least = omega (arith, same); stays = λ last. same ∙ last }
raised_grows old new fit (inr more) = record { least = (let e : new ≡ min (old + 1) (2 ^ 64 - 1) = more in omega (arith, e, fit)); stays = λ last. (let e : new ≡ min (old + 1) (2 ^ 64 - 1) = more in omega (arith, e, last)) }

raised_fits : (old new : ℕ) → old < 2 ^ 64 → Raised old new → new < 2 ^ 64
raised_fits old new fit (inl same) = omega (arith, same, fit)
raised_fits old new fit (inr more) = (let e : new ≡ min (old + 1) (2 ^ 64 - 1) = more in omega (arith, e))

-- the counts are each one more, or the same
pub record Rises (old new : CountsState) : Type 0 where
  pub silences : (brick : ℕ) → Raised (silences_of old brick) (silences_of new brick)
  pub hushed : Raised old.hushed new.hushed
  pub got : Raised old.got new.got

pub same_rises : (c : CountsState) → Rises c c
same_rises c = record { silences = λ brick. inl refl; hushed = inl refl; got = inl refl }

pub frame_rises : (c : CountsState) → Rises c (frame_got c)
frame_rises c = record { silences = same; hushed = inl refl; got = inr refl } where
  same : (brick : ℕ) → Raised (silences_of c brick) (silences_of (frame_got c) brick)
  same zero = inl refl
  same (suc place) = inl refl

unknown_rises : (c : CountsState) (place : ℕ) → Rises c (silent_at place None c)
unknown_rises c place = record { silences = each; hushed = inr refl; got = inl refl } where
  here : (o : Option ℕ) → Raised (or_unknown o c.unknown) (or_unknown o (counted c.unknown))
  here None = inr refl
  here (Some n) = inl refl

  each : (brick : ℕ) → Raised (silences_of c brick) (silences_of (silent_at place None c) brick)
  each zero = inr refl
  each (suc other) = here (slice_get c.silences other)

set_either : (xs : List ℕ) (k n other unknown : ℕ) → slice_get xs k ≡ Some n → Raised (or_unknown (slice_get xs other) unknown) (or_unknown (slice_get (slice_set xs k (counted n)) other) unknown)
set_either [] k n other unknown there = inl refl
set_either (x ∷ xs) zero n zero unknown there = inr (ap counted (let e : Some n ≡ Some x = sym there in cc))
set_either (x ∷ xs) zero n (suc other) unknown there = inl refl
set_either (x ∷ xs) (suc k) n zero unknown there = inl refl
set_either (x ∷ xs) (suc k) n (suc other) unknown there = set_either xs k n other unknown there

pub silent_rises : (c : CountsState) (brick : ℕ) → Rises c (silent_by brick c)
silent_rises c zero = unknown_rises c 0
silent_rises c (suc place) = go (slice_get c.silences place) refl where
  go : (o : Option ℕ) → slice_get c.silences place ≡ o → Rises c (silent_at place o c)
  go None is = unknown_rises c place
  go (Some n) is = record { silences = each; hushed = inr refl; got = inl refl } where
    each : (brick : ℕ) → Raised (silences_of c brick) (silences_of (silent_at place (Some n) c) brick)
    each zero = inl refl
    each (suc other) = set_either c.silences place n other c.unknown is

pub turn_rises : (st : LanesState) (n : ℕ) (x : StubNext) → Rises st.counts (turn_to st n x).counts
turn_rises st n (next.Send brick) = go (lane_at st.lanes brick.0) where
  go : (o : Option LaneState) → Rises st.counts (asks st n brick o).counts
  go None = silent_rises st.counts brick.0
  go (Some lane) = drops (nat_lt 0 lane.to_drop) where
    drops : (b : Bool) → Rises st.counts (if b then with_lane (after_event st (Send n false true)) brick.0 (record lane { to_drop = lane.to_drop - 1 })
        else with_lane (after_event (after_event st (Send n false true)) (Deliver (length st.world.packets))) brick.0 (with_reply (length st.world.packets + 1) lane)).counts
    drops true = same_rises st.counts
    drops false = same_rises st.counts
turn_rises st n (next.Receive brick) = go (lane_at st.lanes brick.0) where
  heard : (lane : LaneState) (queue : List ℕ) → Rises st.counts (hears st n brick lane queue).counts
  heard lane [] = silent_rises st.counts brick.0
  heard lane (packet ∷ rest) = frame_rises st.counts

  go : (o : Option LaneState) → Rises st.counts (listens st n brick o).counts
  go None = silent_rises st.counts brick.0
  go (Some lane) = heard lane lane.queue
turn_rises st n next.Ended = same_rises st.counts

-- a call of lanes
step_rises : (st : LanesState) (s : LanesStep) → Rises st.counts (after_step st s).counts
step_rises st s = step_cases (λ later. Rises st.counts later.counts) st s (record {
  same = same_rises st.counts;
  windowed = λ windows. same_rises st.counts;
  happens = λ e untold begun. same_rises st.counts;
  turned = λ n c is there. turn_rises st n (next_of c);
  changed = λ windows brick lane new at names. same_rises st.counts;
})

-- no count falls over a call of lanes
pub step_grows : (st : LanesState) (s : LanesStep) → CountsFit st.counts → CountsGrow st.counts (after_step st s).counts
step_grows st s fit =
    let rises : Rises st.counts (after_step st s).counts = step_rises st s in
    record {
      silences = λ brick. raised_grows _ _ (fit.silences brick) (rises.silences brick);
      hushed = raised_grows _ _ fit.hushed rises.hushed;
      got = raised_grows _ _ fit.got rises.got;
    }

-- and each stays below 2^64
pub step_fits : (st : LanesState) (s : LanesStep) → CountsFit st.counts → CountsFit (after_step st s).counts
step_fits st s fit =
    let rises : Rises st.counts (after_step st s).counts = step_rises st s in
    record {
      silences = λ brick. raised_fits _ _ (fit.silences brick) (rises.silences brick);
      hushed = raised_fits _ _ fit.hushed rises.hushed;
      got = raised_fits _ _ fit.got rises.got;
    }

none_yet : (n place : ℕ) → or_unknown (slice_get (replicate n 0) place) 0 ≡ 0
none_yet zero place = refl
none_yet (suc n) zero = refl
none_yet (suc n) (suc place) = none_yet n place

pub new_fit : (bricks : ℕ) → CountsFit (new_counts bricks)
new_fit bricks = record { silences = each; hushed = omega arith; got = omega arith } where
  each : (brick : ℕ) → silences_of (new_counts bricks) brick < 2 ^ 64
  each zero = omega arith
  each (suc place) = (let none : or_unknown (slice_get (replicate bricks 0) place) 0 ≡ 0 = none_yet bricks place in omega (arith, none))

rose_counted : (n : ℕ) → n < 2 ^ 64 → Rose n (counted n)
rose_counted n fit = go (nat_lt n (2 ^ 64 - 1)) refl where
  go : (b : Bool) → nat_lt n (2 ^ 64 - 1) ≡ b → Rose n (counted n)
  go true is = inl (let less : n < 2 ^ 64 - 1 = grind (arith, nat_tests) in omega (arith, less))
  go false is = inr (let most : 2 ^ 64 - 1 ≤ n = grind (arith, nat_tests) in omega (arith, most))

silence_rose : (c : CountsState) (brick : ℕ) → CountsFit c → SilenceRose brick c (silent_by brick c)
silence_rose c zero fit = record { silences = rose_counted c.unknown (fit.silences 0); hushed = rose_counted c.hushed fit.hushed }
silence_rose c (suc place) fit = go (slice_get c.silences place) refl where
  go : (o : Option ℕ) → slice_get c.silences place ≡ o → SilenceRose (suc place) c (silent_at place o c)
  go None is = record {
    silences = subst (λ (o : Option ℕ). Rose (or_unknown o c.unknown) (or_unknown o (counted c.unknown))) (sym is) (rose_counted c.unknown (fit.silences 0));
    hushed = rose_counted c.hushed fit.hushed;
  }
  go (Some n) is = record {
    silences =
        let few : n < 2 ^ 64 = subst (λ (o : Option ℕ). or_unknown o c.unknown < 2 ^ 64) is (fit.silences (suc place)) in
        let R : Option ℕ → Option ℕ → Type 0 = λ a b. Rose (or_unknown a c.unknown) (or_unknown b c.unknown) in
        subst (λ a. R a (slice_get (slice_set c.silences place (counted n)) place)) (sym is) (subst (λ b. R (Some n) b) (sym (get_set_same c.silences place (counted n) n is)) (rose_counted n few));
    hushed = rose_counted c.hushed fit.hushed;
  }

pub unsent_rose : (st : LanesState) (n : ℕ) (brick : BrickNo) → CountsFit st.counts → lane_at st.lanes brick.0 ≡ None → SilenceRose brick.0 st.counts (turn_to st n (next.Send brick)).counts
unsent_rose st n brick fit none = subst (λ (o : Option LaneState). SilenceRose brick.0 st.counts (asks st n brick o).counts) (sym none) (silence_rose st.counts brick.0 fit)

pub unheard_rose : (st : LanesState) (n : ℕ) (brick : BrickNo) → CountsFit st.counts → lane_at st.lanes brick.0 ≡ None → SilenceRose brick.0 st.counts (turn_to st n (next.Receive brick)).counts
unheard_rose st n brick fit none = subst (λ (o : Option LaneState). SilenceRose brick.0 st.counts (listens st n brick o).counts) (sym none) (silence_rose st.counts brick.0 fit)

pub empty_rose : (st : LanesState) (n : ℕ) (brick : BrickNo) (lane : LaneState) → CountsFit st.counts → lane_at st.lanes brick.0 ≡ Some lane → lane.queue ≡ [] → SilenceRose brick.0 st.counts (turn_to st n (next.Receive brick)).counts
empty_rose st n brick lane fit at empty =
    subst (λ (o : Option LaneState). SilenceRose brick.0 st.counts (listens st n brick o).counts) (sym at)
    (subst (λ (q : List ℕ). SilenceRose brick.0 st.counts (hears st n brick lane q).counts) (sym empty) (silence_rose st.counts brick.0 fit))

pub got_rose : (st : LanesState) (n : ℕ) (brick : BrickNo) (lane : LaneState) (packet : ℕ) (rest : List ℕ) → CountsFit st.counts → lane_at st.lanes brick.0 ≡ Some lane → lane.queue ≡ packet ∷ rest → Rose st.counts.got (turn_to st n (next.Receive brick)).counts.got
got_rose st n brick lane packet rest fit at queue =
    subst (λ (o : Option LaneState). Rose st.counts.got (listens st n brick o).counts.got) (sym at)
    (subst (λ (q : List ℕ). Rose st.counts.got (hears st n brick lane q).counts.got) (sym queue) (rose_counted st.counts.got fit.got))
