-- A call ends, whatever is done with the lanes between its turns.
use Rattle.std.proofs.Common.{arith, ◌≡◌, ◌⊎◌, inl, inr, refl, sym, ap, subst, ◌∙◌, ℕ, ◌+◌, ◌*◌, ◌-◌, ◌<◌, ◌≤◌, ◌==◌, ◌^◌, Bool, true, false, nat_lt, if◌then◌else◌, List, [], ◌∷◌, cond, Option, Some, None}
use Rattle.std.specs.Prelude.{slice_get}
use Rattle.std.proofs.lemmas.List.Sums.{sum_by-cons}
use Rattle.crash_base.specs.declared.numbers.BrickNo.{BrickNo}
use Rattle.crash_base.specs.declared.numbers.Moment.{Moment}
use Rattle.brick_store.specs.declared.event.BrickEvent.{BrickEvent}
use Rattle.brick_store.specs.declared.event.BrickEvent.TheVariants as happened
use Rattle.brick_store.specs.History.{incarnation_after}
use Rattle.ssm_stub.proofs.Weights.{weight_within}
use Rattle.ssm_stub.specs.declared.event.StubNext.TheVariants as next
use Rattle.ssm_world.specs.declared.call.Call.{Call}
use Rattle.ssm_world.specs.declared.call.Call.TheVariants as call
use Rattle.ssm_world.specs.declared.event.WorldEvent.{WorldEvent}
use Rattle.ssm_world.specs.declared.event.WorldEvent.TheVariants as event
use Rattle.ssm_world.specs.Worlds.{WorldValue, next_of, hear, history, with_history, with_new_call, may_write, may_read, crashed, swept, step}
use Rattle.ssm_world.proofs.Lists.{get_front}
use Rattle.ssm_world.proofs.Tests.{same_number, number_same}
use Rattle.session_lanes.specs.declared.lanes.TheConstants.{TURNS_PER_BRICK}
use Rattle.session_lanes.specs.Ends.{bricks_asked, IsAnswered, HasEnded}
use Rattle.session_lanes.specs.Lanes.{LanesState, turn_of, turn_to, gone_on}
use Rattle.session_lanes.specs.Sound.{LanesAreSound}
use Rattle.session_lanes.specs.Steps.{LanesStep, Takes, BeginsWrite, BeginsRead, TakesTurn, Settles, Loses, DropsAsks, Repeats, Crashes, Sweeps, Holds, Frees, after_step, after_steps, is_turn_of, turns_of}
use Rattle.session_lanes.proofs.Ending.{goes_on, call_weight, call_falls, none_left, ended_or, turn_tells, turn_keeps, made_is_sound, write_ends, read_ends}
use Rattle.session_lanes.proofs.Keeping.{step_keeps}
use Rattle.session_lanes.proofs.StepCases.{TellsNoCall, step_cases}

-- what is left of a call is at most 66 events of each brick that it asks
weight_asked : (c : Call) → call_weight c ≤ TURNS_PER_BRICK * bricks_asked c
weight_asked (call.Write s) = weight_within s.asks
weight_asked (call.Read s) = weight_within s.asks

-- an event that tells no call anything leaves each as it was
module _ (w : WorldValue) (n : ℕ) (c : Call) (there : slice_get w.calls n ≡ Some c) where
  begun : (d : Call) (b : Bool) → slice_get (if b then with_new_call w d else w).calls n ≡ Some c
  begun d true = get_front w.calls (d ∷ []) n c there
  begun d false = there

  crashes : (brick : BrickNo) (o : Option (List BrickEvent)) → slice_get (crashed w brick o).calls n ≡ Some c
  crashes brick None = there
  crashes brick (Some h) = go (nat_lt (incarnation_after 1 h) (2 ^ 64 - 1)) where
    go : (b : Bool) → slice_get (if b then with_history w brick (happened.Crash ∷ h) else w).calls n ≡ Some c
    go true = there
    go false = there

  sweeps : (brick : BrickNo) (moment : Moment) (o : Option (List BrickEvent)) → slice_get (swept w brick moment o).calls n ≡ Some c
  sweeps brick moment None = there
  sweeps brick moment (Some h) = there

  untold : (e : WorldEvent) → TellsNoCall e → slice_get (step w e).calls n ≡ Some c
  untold (event.Write nonce key value expiry bricks least) none = begun _ (may_write w nonce bricks least)
  untold (event.Read nonce now cookie) none = begun _ (may_read w nonce cookie.bricks)
  untold (event.Send k silent is_sent) none = absurd none
  untold (event.Deliver packet) none = absurd none
  untold (event.Hear k packet) none = absurd none
  untold (event.Hush k) none = absurd none
  untold (event.Crash brick) none = crashes brick (history w brick)
  untold (event.Sweep brick moment) none = sweeps brick moment (history w brick)

-- what is no turn of a call leaves it as it was
pub left_alone : (st : LanesState) (s : LanesStep) (n : ℕ) (c : Call) → LanesAreSound st → slice_get st.world.calls n ≡ Some c → is_turn_of n s ≡ false → slice_get (after_step st s).world.calls n ≡ Some c
left_alone st s n c sound there other = step_cases (λ later. slice_get later.world.calls n ≡ Some c) st s (record {
  same = there;
  windowed = λ windows. there;
  happens = λ e none begun. untold st.world n c there e none;
  turned = λ m d is at. (
      let apart : (n ≡ m → ⊥) = λ same. absurd (let test : (m == n) ≡ false = sym (ap (is_turn_of n) is) ∙ other in let again : (n == n) ≡ false = subst (λ k. (k == n) ≡ false) (sym same) test in let one : (n == n) ≡ true = number_same n in cc) in
      (turn_keeps st m d sound.lanes (made_is_sound st.world sound.made) at).others n apart ∙ there);
  changed = λ windows brick lane new at names. there;
})

-- what is a turn of a call is that
turn_is : (s : LanesStep) (n : ℕ) → is_turn_of n s ≡ true → s ≡ TakesTurn n
turn_is s n is = step_is s is where
  step_is : (s : LanesStep) → is_turn_of n s ≡ true → s ≡ TakesTurn n
  step_is (TakesTurn m) same = ap TakesTurn (same_number m n same)
  step_is (Takes first) same = absurd (cc)
  step_is (BeginsWrite nonce key value expiry passes) same = absurd (cc)
  step_is (BeginsRead nonce now cookie) same = absurd (cc)
  step_is (Settles k passes) same = absurd (cc)
  step_is (Loses brick more) same = absurd (cc)
  step_is (DropsAsks brick more) same = absurd (cc)
  step_is (Repeats brick number) same = absurd (cc)
  step_is (Crashes brick) same = absurd (cc)
  step_is (Sweeps brick moment) same = absurd (cc)
  step_is (Holds brick) same = absurd (cc)
  step_is (Frees brick mark) same = absurd (cc)

module _ (n : ℕ) where
  -- a call that has ended, or of which no more is left than turns are to come
  abbrev Nears : Call → ℕ → Type 0
  Nears c turns = (next_of c ≡ next.Ended) ⊎ (call_weight c ≤ turns)

  one_turn : (st : LanesState) (c : Call) (turns : ℕ) → LanesAreSound st → slice_get st.world.calls n ≡ Some c → Nears c (1 + turns)
      → (d : Call) × (slice_get (after_step st (TakesTurn n)).world.calls n ≡ Some d) × Nears d turns
  one_turn st c turns sound there nears = subst (λ (o : Option Call). (d : Call) × (slice_get (turn_of st n o).world.calls n ≡ Some d) × Nears d turns) (sym there) (elim (ended_or (next_of c)) [
    | inl over ↦ (c, ap (λ x. slice_get (turn_to st n x).world.calls n) over ∙ there, inl over)
    | inr more ↦ (
        let t = turn_tells st n c sound.lanes (made_is_sound st.world sound.made) there more in
        let less : call_weight (hear c t.event) < call_weight c = call_falls c t.event t.fitting in (
          hear c t.event,
          t.call_is,
          elim nears [
            | inl over ↦ absurd (more over)
            | inr few ↦ inr (omega (arith, less, few))
          ],
        ))
  ])

  -- the call has ended after these calls of lanes
  abbrev Ends : LanesState → List LanesStep → Type 0
  Ends st steps = (end : Call) × (slice_get (after_steps st steps).world.calls n ≡ Some end) × (next_of end ≡ next.Ended)

  -- one call of lanes before others, after which a call that nears its end ends
  first_step : (s : LanesStep) (steps : List LanesStep) (st : LanesState) (c : Call) → LanesAreSound st → slice_get st.world.calls n ≡ Some c → Nears c (turns_of n (s ∷ steps))
      → ((later : LanesState) (d : Call) → LanesAreSound later → slice_get later.world.calls n ≡ Some d → Nears d (turns_of n steps) → Ends later steps) → Ends (after_step st s) steps
  first_step s steps st c sound there nears rest = go (is_turn_of n s) refl where
    count : turns_of n (s ∷ steps) ≡ cond (is_turn_of n s) 1 0 + turns_of n steps
    count = sum_by-cons (λ (x : LanesStep). cond (is_turn_of n x) 1 0) s steps

    later : LanesAreSound (after_step st s)
    later = step_keeps st s sound

    go : (b : Bool) → is_turn_of n s ≡ b → Ends (after_step st s) steps
    go false is =
        let none : turns_of n (s ∷ steps) ≡ 0 + turns_of n steps = count ∙ ap (λ b. cond b 1 0 + turns_of n steps) is in
        let same : turns_of n (s ∷ steps) ≡ turns_of n steps = omega (arith, none) in
        rest (after_step st s) c later (left_alone st s n c sound there is) (subst (λ k. Nears c k) same nears)
    go true is =
        let more : turns_of n (s ∷ steps) ≡ 1 + turns_of n steps = count ∙ ap (λ b. cond b 1 0 + turns_of n steps) is in
        let turn : (d : Call) × (slice_get (after_step st (TakesTurn n)).world.calls n ≡ Some d) × Nears d (turns_of n steps) = one_turn st c (turns_of n steps) sound there (subst (λ k. Nears c k) more nears) in
        rest (after_step st s) turn.0 later (ap (λ (x : LanesStep). slice_get (after_step st x).world.calls n) (turn_is s n is) ∙ turn.1) turn.2

  nears_end : (steps : List LanesStep) (st : LanesState) (c : Call) → LanesAreSound st → slice_get st.world.calls n ≡ Some c → Nears c (turns_of n steps) → Ends st steps
  nears_end [] st c sound there (inl over) = (c, there, over)
  nears_end [] st c sound there (inr few) = (c, there, none_left c few)
  nears_end (s ∷ steps) st c sound there nears = first_step s steps st c sound there nears (nears_end steps)

answered : (c : Call) → next_of c ≡ next.Ended → IsAnswered c
answered (call.Write s) over = write_ends s over
answered (call.Read s) over = read_ends s over

pub ends : (st : LanesState) (steps : List LanesStep) (n : ℕ) (c : Call) → LanesAreSound st → slice_get st.world.calls n ≡ Some c → TURNS_PER_BRICK * bricks_asked c ≤ turns_of n steps → HasEnded (after_steps st steps) n
ends st steps n c sound there enough =
    let few : call_weight c ≤ TURNS_PER_BRICK * bricks_asked c = weight_asked c in
    let end = nears_end n steps st c sound there (inr (omega (arith, few, enough))) in
    record { end = end.0; there = end.1; over = end.2; answered = answered end.0 end.2 }

pub ends_gone : (st : LanesState) (n : ℕ) (c : Call) → LanesAreSound st → slice_get st.world.calls n ≡ Some c → HasEnded (gone_on st n) n
ends_gone st n c sound there =
    let gone = goes_on st n c sound.made sound.lanes there in
    record { end = gone.end; there = gone.there; over = gone.over; answered = answered gone.end gone.over }
