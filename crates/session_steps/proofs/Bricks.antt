-- What a crash and a sweep add to the histories of bricks.
use Rattle.std.proofs.Common.{◌≡◌, inl, inr, ℕ, zero, suc, ◌-◌, ◌^◌, ◌==◌, Bool, true, false, cond, if◌then◌else◌, nat_lt, List, [], ◌∷◌, Option, Some, None, refl, sym, ap, ◌∙◌, arith}
use Rattle.std.specs.Prelude.{slice_get}
use Rattle.crash_base.specs.declared.numbers.BrickNo.{BrickNo}
use Rattle.crash_base.specs.declared.numbers.Moment.{Moment}
use Rattle.scenario_text.specs.declared.session_line.SessionLine.TheVariants as lines
use Rattle.brick_store.specs.declared.event.BrickEvent.{BrickEvent}
use Rattle.brick_store.specs.declared.event.BrickEvent.TheVariants as happened
use Rattle.brick_store.specs.History.{incarnation_after, swept_after}
use Rattle.ssm_world.specs.declared.event.WorldEvent.TheVariants.{Crash, Sweep}
use Rattle.ssm_world.specs.Worlds.{WorldValue, history, with_history, crashed, swept, may_crash, step}
use Rattle.ssm_world.proofs.Lists.{history_set_same}
use Rattle.ssm_world.proofs.Tests.{same_number, number_same}
use Rattle.session_steps.specs.Promise.{SessionTurn, Does, is_crash_of, sweep_by, Sweeps, later_of}
use Rattle.session_lanes.proofs.LaneLists.{history_set_other}
use Rattle.session_steps.proofs.Went.{AreUnended, Went, Gone, Goes, crashes_one, no_sweep, uncrashed_swept}
use Rattle.session_lanes.specs.Lane.{brick_no}

-- what a change of the history of one brick leaves of the history of another, and what its own is
other_history : (w : WorldValue) (k : ℕ) (x : List BrickEvent) (brick : BrickNo) (g : List BrickEvent) → (k == brick.0) ≡ false → history (with_history w (brick_no k) x) brick ≡ Some g → history w brick ≡ Some g
other_history w k x brick g apart is =
    sym (history_set_other w.histories k x brick.0 (λ same. let equal : (k == brick.0) ≡ true = ap (λ n. k == n) same ∙ number_same k in let clash : true ≡ false = sym equal ∙ apart in cc)) ∙ is

own_history : (w : WorldValue) (k : ℕ) (x h : List BrickEvent) (brick : BrickNo) (g : List BrickEvent) → (k == brick.0) ≡ true → history w (brick_no k) ≡ Some h → history (with_history w (brick_no k) x) brick ≡ Some g
    → (history w brick ≡ Some h) × (g ≡ x)
own_history w k x h brick g same there is =
    let number : k ≡ brick.0 = same_number k brick.0 same in
    let one : brick_no k ≡ brick = (λ l. record { 0 = number l }) in
    let now : history (with_history w (brick_no k) x) brick ≡ Some x = ap (history (with_history w (brick_no k) x)) (sym one) ∙ history_set_same w.histories k x h there in
    let equal : Some g ≡ Some x = sym is ∙ now in
    (ap (history w) (sym one) ∙ there, cc)

-- nothing is stored by a crash or a sweep
none_stored : (w : WorldValue) → AreUnended w []
none_stored w i s at had = absurd (cc)

crash_stores : (w : WorldValue) → AreUnended w (happened.Crash ∷ [])
crash_stores w zero s at had = absurd (cc)
crash_stores w (suc i) s at had = absurd (cc)

sweep_stores : (w : WorldValue) (moment : Moment) → AreUnended w (happened.Sweep moment ∷ [])
sweep_stores w moment zero s at had = absurd (cc)
sweep_stores w moment (suc i) s at had = absurd (cc)

-- what a turn adds that crashes the brick of a number, or another
went_crash : (now : Moment) (k brick : ℕ) (text : List ℕ) → (k == brick) ≡ true → Went now brick (Does (lines.Crash k) text ∷ []) (happened.Crash ∷ [])
went_crash now k brick text same =
    let count : Bool → ℕ = λ b. cond b 1 0 in
    let one : count (k == brick) ≡ count true = ap count same in
    record {
      crashed = λ h. omega (arith, crashes_one brick (Does (lines.Crash k) text), one);
      swept = λ moment i is. absurd (no_crash moment i is);
      sweeps = λ moment does. absurd (no_sweep now brick moment (Does (lines.Crash k) text) refl does);
      greatest = λ h. ap (λ b. if b then record { 0 = 0 } else swept_after h) (sym same);
    }
  where
    no_crash : (moment : Moment) (i : ℕ) → slice_get (happened.Crash ∷ []) i ≡ Some (happened.Sweep moment) → ⊥
    no_crash moment zero is = cc
    no_crash moment (suc i) is = cc

-- a turn adds nothing to the history of a brick that it neither crashes nor sweeps
went_other : (now : Moment) (brick : ℕ) (turn : SessionTurn) → is_crash_of brick turn ≡ false → sweep_by now brick turn ≡ [] → Went now brick (turn ∷ []) []
went_other now brick turn uncrashed unswept =
    let count : Bool → ℕ = λ b. cond b 1 0 in
    let none : count (is_crash_of brick turn) ≡ count false = ap count uncrashed in
    record {
      crashed = λ h. omega (arith, crashes_one brick turn, none);
      swept = λ moment i is. absurd (cc);
      sweeps = λ moment does. absurd (no_sweep now brick moment turn unswept does);
      greatest = λ h. sym (uncrashed_swept now brick turn (swept_after h) uncrashed ∙ ap (later_of (swept_after h)) unswept);
    }

went_sweep : (now moment : Moment) (brick : ℕ) (turn : SessionTurn) → is_crash_of brick turn ≡ false → sweep_by now brick turn ≡ moment ∷ [] → Went now brick (turn ∷ []) (happened.Sweep moment ∷ [])
went_sweep now moment brick turn uncrashed swept_at =
    let count : Bool → ℕ = λ b. cond b 1 0 in
    let none : count (is_crash_of brick turn) ≡ count false = ap count uncrashed in
    record {
      crashed = λ h. omega (arith, crashes_one brick turn, none);
      swept = λ m i is. inl (swept_at ∙ ap (λ x. x ∷ []) (swept_is m i is));
      sweeps = λ m does. (0, ap (λ x. Some (happened.Sweep x)) (sweeps_is m does));
      greatest = λ h. sym (uncrashed_swept now brick turn (swept_after h) uncrashed ∙ ap (later_of (swept_after h)) swept_at);
    }
  where
    swept_is : (m : Moment) (i : ℕ) → slice_get (happened.Sweep moment ∷ []) i ≡ Some (happened.Sweep m) → moment ≡ m
    swept_is m zero is = cc
    swept_is m (suc i) is = absurd (cc)

    sweeps_is : (m : Moment) → Sweeps now brick m (turn ∷ []) → moment ≡ m
    sweeps_is m (inl is) = let same : moment ∷ [] ≡ m ∷ [] = sym swept_at ∙ is in cc
    sweeps_is m (inr later) = absurd later

-- a crash that may happen
pub goes_crash : (now : Moment) (k : ℕ) (text : List ℕ) (w : WorldValue) → may_crash (history w (brick_no k)) ≡ true → Goes now (Does (lines.Crash k) text ∷ []) w (step w (Crash (brick_no k)))
goes_crash now k text w may = record {
  by = (Crash (brick_no k) ∷ [], refl);
  each = λ brick g is. there (history w (brick_no k)) refl may brick g is;
}
  where
    turn : SessionTurn
    turn = Does (lines.Crash k) text

    by : (h : List BrickEvent) → history w (brick_no k) ≡ Some h → (brick : BrickNo) (g : List BrickEvent) → (b : Bool) → (k == brick.0) ≡ b → history (with_history w (brick_no k) (happened.Crash ∷ h)) brick ≡ Some g → Gone now (turn ∷ []) w brick g
    by h at brick g true same is =
        let own = own_history w k (happened.Crash ∷ h) h brick g same at is in
        record { earlier = h; newer = happened.Crash ∷ []; history_is = own.0; parts = own.1; went = went_crash now k brick.0 text same; unended = crash_stores w }
    by h at brick g false apart is =
        record { earlier = g; newer = []; history_is = other_history w k (happened.Crash ∷ h) brick g apart is; parts = refl; went = went_other now brick.0 turn apart refl; unended = none_stored w }

    at_limit : (h : List BrickEvent) → history w (brick_no k) ≡ Some h → (b : Bool) → b ≡ true → (brick : BrickNo) (g : List BrickEvent) → history (if b then with_history w (brick_no k) (happened.Crash ∷ h) else w) brick ≡ Some g → Gone now (turn ∷ []) w brick g
    at_limit h at true allowed brick g is = by h at brick g (k == brick.0) refl is
    at_limit h at false allowed brick g is = absurd (cc)

    there : (o : Option (List BrickEvent)) → history w (brick_no k) ≡ o → may_crash o ≡ true → (brick : BrickNo) (g : List BrickEvent) → history (crashed w (brick_no k) o) brick ≡ Some g → Gone now (turn ∷ []) w brick g
    there None at allowed brick g is = absurd (cc)
    there (Some h) at allowed brick g is = at_limit h at (nat_lt (incarnation_after 1 h) (2 ^ 64 - 1)) allowed brick g is

-- a turn that sweeps the brick of a number, and no other
pub record SweepsBrick (now : Moment) (k : ℕ) (moment : Moment) (turn : SessionTurn) : Type 0 where
  pub crash : (brick : ℕ) → is_crash_of brick turn ≡ false
  pub sweep : (brick : ℕ) → sweep_by now brick turn ≡ (if k == brick then moment ∷ [] else [])

pub goes_sweep : (now : Moment) (k : ℕ) (moment : Moment) (turn : SessionTurn) (w : WorldValue) → SweepsBrick now k moment turn → Goes now (turn ∷ []) w (step w (Sweep (brick_no k) moment))
goes_sweep now k moment turn w sweeps = record {
  by = (Sweep (brick_no k) moment ∷ [], refl);
  each = λ brick g is. there (history w (brick_no k)) refl brick g is;
}
  where
    swept_by : Bool → List Moment
    swept_by b = if b then moment ∷ [] else []

    unswept : (brick : BrickNo) → (k == brick.0) ≡ false → sweep_by now brick.0 turn ≡ []
    unswept brick apart = sweeps.sweep brick.0 ∙ ap swept_by apart

    by : (h : List BrickEvent) → history w (brick_no k) ≡ Some h → (brick : BrickNo) (g : List BrickEvent) → (b : Bool) → (k == brick.0) ≡ b → history (with_history w (brick_no k) (happened.Sweep moment ∷ h)) brick ≡ Some g → Gone now (turn ∷ []) w brick g
    by h at brick g true same is =
        let own = own_history w k (happened.Sweep moment ∷ h) h brick g same at is in
        record {
          earlier = h;
          newer = happened.Sweep moment ∷ [];
          history_is = own.0;
          parts = own.1;
          went = went_sweep now moment brick.0 turn (sweeps.crash brick.0) (sweeps.sweep brick.0 ∙ ap swept_by same);
          unended = sweep_stores w moment;
        }
    by h at brick g false apart is =
        record { earlier = g; newer = []; history_is = other_history w k (happened.Sweep moment ∷ h) brick g apart is; parts = refl; went = went_other now brick.0 turn (sweeps.crash brick.0) (unswept brick apart); unended = none_stored w }

    absent : (brick : BrickNo) (g : List BrickEvent) → history w (brick_no k) ≡ None → history w brick ≡ Some g → (b : Bool) → (k == brick.0) ≡ b → Gone now (turn ∷ []) w brick g
    absent brick g at is true same =
        absurd (
        let number : k ≡ brick.0 = same_number k brick.0 same in
        let one : brick_no k ≡ brick = (λ l. record { 0 = number l }) in
        let clash : None ≡ Some g = sym at ∙ ap (history w) one ∙ is in
        cc)
    absent brick g at is false apart = record { earlier = g; newer = []; history_is = is; parts = refl; went = went_other now brick.0 turn (sweeps.crash brick.0) (unswept brick apart); unended = none_stored w }

    there : (o : Option (List BrickEvent)) → history w (brick_no k) ≡ o → (brick : BrickNo) (g : List BrickEvent) → history (swept w (brick_no k) moment o) brick ≡ Some g → Gone now (turn ∷ []) w brick g
    there None at brick g is = absent brick g at is (k == brick.0) refl
    there (Some h) at brick g is = by h at brick g (k == brick.0) refl is
