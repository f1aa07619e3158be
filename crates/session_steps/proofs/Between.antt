-- What is known to who lends the bricks to connections: events go on, and lines, and what others do with the bricks,
-- leave calls and nonces as they are.
use Rattle.std.proofs.Common.{◌≡◌, ◌≢◌, inl, inr, All, [], ◌∷◌, map, None, ◌∙◌, refl, sym, ap, subst, arith, ℕ, ◌+◌, ◌<◌, ◌≤◌, ◌%◌, Bool, true, false, if◌then◌else◌, nat_lt, List, ◌++◌, filter, take, drop, length, length-append, length-take, Option, Some}
use Rattle.std.specs.Prelude.{slice_get}
use Rattle.std.proofs.lemmas.Bool.{lt-ltb, ltb-true}
use Rattle.std.proofs.lemmas.List.{length-map, take-append-drop}
use Rattle.std.proofs.lemmas.List.Elements.{All-head, All-tail, filter-append}
use Rattle.crash_base.specs.declared.numbers.Version.{Version}
use Rattle.scenario_text.specs.Answer.{Done}
use Rattle.scenario_text.specs.Setup.{SetupState}
use Rattle.scenario_text.specs.declared.session_line.SessionLine.{SessionLine}
use Rattle.send_windows.specs.Calls.{Take, after_call}
use Rattle.send_windows.specs.Facts.{is_open, open_count, open_passes, round_from}
use Rattle.send_windows.specs.Passes.{unheard}
use Rattle.send_windows.specs.Windows.{WindowsValue, chosen, refused, taken}
use Rattle.send_windows.specs.declared.fact.WindowFact.{WindowFact}
use Rattle.send_windows.specs.declared.pass.Pass.{Pass}
use Rattle.ssm_stub.specs.Reads.{read_start}
use Rattle.ssm_stub.specs.Writes.{write_start}
use Rattle.ssm_world.specs.declared.call.Call.{Call}
use Rattle.ssm_world.specs.declared.call.Call.TheVariants as call
use Rattle.ssm_world.specs.Worlds.{WorldValue, is_new, may_read, may_write, with_new_call}
use Rattle.ssm_world.proofs.Lists.{get_front}
use Rattle.session_lanes.specs.Lanes.{LanesState, turn_of}
use Rattle.session_lanes.specs.Sound.{LanesAreSound}
use Rattle.session_lanes.proofs.Ending.{MadeBy, made_is_sound, turn_keeps}
use Rattle.session_steps.specs.Kept.{HasSoundStore}
use Rattle.session_steps.specs.Lent.{LentStep, BeginsRead, BeginsWrite, TakesTurn, CallsWindows, HearsNone, BeginsSo, IsNoTurnOf, after_lent, after_lent_step}
use Rattle.session_steps.specs.Promise.{SessionTurn, Does, Lead}
use Rattle.session_steps.specs.Sessions.{SessionsState, session_line}
use Rattle.session_steps.specs.Setup.{set_up}
use Rattle.session_steps.proofs.Ended.{new_unhad, unhad_new}
use Rattle.session_steps.proofs.LentGone.{LentGone, lent_gone, lent_step_sound}
use Rattle.session_steps.proofs.LanesKept.{SoundIfAny, lead_keeps, set_up_sound}
use Rattle.session_steps.proofs.TurnsMade.{CallAt, GoOn, TurnGoes, turn_goes, turns_go}

-- turns lead from the bricks to others by events of their world
pub turns_by_events : (setup : SetupState) (boot : ℕ) (before turns : List SessionTurn) (s t : SessionsState) (st later : LanesState) → Lead (set_up setup boot) before s → Lead s turns t → s.store ≡ Some st → t.store ≡ Some later
    → MadeBy st.world later.world
turns_by_events setup boot before turns s t st later to_s to_t store_is later_is =
    let sound : SoundIfAny s.store = lead_keeps (set_up setup boot) s before (set_up_sound setup boot) to_s in
    let goes : GoOn s.moment turns s.store t.store = (turns_go turns s t sound to_t).store in
    let between : GoOn s.moment turns (Some st) (Some later) =
    subst (λ x. GoOn s.moment turns x (Some later)) store_is (subst (λ x. GoOn s.moment turns s.store x) later_is goes) in
    between.by

-- a line leaves each call that had begun as it is
pub lines_leave : (setup : SetupState) (boot : ℕ) (turns : List SessionTurn) (s t : SessionsState) (line : SessionLine) (text : List ℕ) (st later : LanesState) (number : ℕ) (c : Call) → Lead (set_up setup boot) turns s
    → session_line s line ≡ Done t text → s.store ≡ Some st → t.store ≡ Some later → slice_get st.world.calls number ≡ Some c → slice_get later.world.calls number ≡ Some c
lines_leave setup boot turns s t line text st later number c leads is store_is later_is at =
    let goes : TurnGoes s (Does line text) t = turn_goes s (Does line text) t (lead_keeps (set_up setup boot) s turns (set_up_sound setup boot) leads) is in
    subst (λ o. CallAt o number c) later_is (goes.calls number c (subst (λ o. CallAt o number c) (sym store_is) at))

-- steps leave a nonce new with which none begins
pub lent_new : (st : LanesState) (steps : List LentStep) (other : Version) → HasSoundStore (Some st) → All (BeginsSo (λ (nonce : Version). nonce ≢ other)) steps → is_new st.world other ≡ true → is_new (after_lent st steps).world other ≡ true
lent_new st steps other sound apart new =
    let gone : LentGone (λ (nonce : Version). nonce ≢ other) st (after_lent st steps) = lent_gone (λ (nonce : Version). nonce ≢ other) steps st (record { made = sound.0; lanes = sound.1 }) apart in
    unhad_new (after_lent st steps).world other (λ had. elim (gone.calls had.0 had.1 had.2) [
      | inl old ↦ new_unhad st.world other new (old.0, old.1, old.2, old.3 ∙ had.3)
      | inr begun ↦ begun had.3
    ])

-- and a call as it is of which none is a turn
begun_leaves : (w : WorldValue) (d : Call) (may : Bool) (number : ℕ) (c : Call) → slice_get w.calls number ≡ Some c → slice_get (if may then with_new_call w d else w).calls number ≡ Some c
begun_leaves w d true number c at = get_front w.calls (d ∷ []) number c at
begun_leaves w d false number c at = at

step_leaves : (st : LanesState) (s : LentStep) (number : ℕ) (c : Call) → LanesAreSound st → IsNoTurnOf number s → slice_get st.world.calls number ≡ Some c → slice_get (after_lent_step st s).world.calls number ≡ Some c
step_leaves st (BeginsRead nonce now cookie) number c sound other at = begun_leaves st.world (call.Read (read_start now nonce cookie)) (may_read st.world nonce cookie.bricks) number c at
step_leaves st (BeginsWrite nonce key value expiry passes) number c sound other at =
    let bricks = map (λ (pass : Pass). pass.brick) passes in
    begun_leaves st.world (call.Write (write_start bricks st.windows.wq nonce key value expiry)) (may_write st.world nonce bricks st.windows.wq) number c at
step_leaves st (TakesTurn n) number c sound other at = go (slice_get st.world.calls n) refl
  where
    go : (o : Option Call) → slice_get st.world.calls n ≡ o → slice_get (turn_of st n o).world.calls number ≡ Some c
    go None there = at
    go (Some d) there = (turn_keeps st n d sound.lanes (made_is_sound st.world sound.made) there).others number (λ e. other (sym e)) ∙ at
step_leaves st (CallsWindows calls) number c sound other at = at
step_leaves st (HearsNone brick) number c sound other at = at

steps_leave : (steps : List LentStep) (st : LanesState) (number : ℕ) (c : Call) → LanesAreSound st → All (IsNoTurnOf number) steps → slice_get st.world.calls number ≡ Some c → slice_get (after_lent st steps).world.calls number ≡ Some c
steps_leave [] st number c sound others at = at
steps_leave (s ∷ steps) st number c sound others at =
    steps_leave steps (after_lent_step st s) number c (lent_step_sound st s sound) (All-tail (IsNoTurnOf number) s steps others)
    (step_leaves st s number c sound (All-head (IsNoTurnOf number) s steps others) at)

pub lent_leaves : (st : LanesState) (steps : List LentStep) (number : ℕ) (c : Call) → HasSoundStore (Some st) → All (IsNoTurnOf number) steps → slice_get st.world.calls number ≡ Some c → slice_get (after_lent st steps).world.calls number ≡ Some c
lent_leaves st steps number c sound others at = steps_leave steps st number c (record { made = sound.0; lanes = sound.1 }) others at

-- no more passes are chosen than windows are open
round_open : (at : ℕ) (facts : List WindowFact) → length (filter is_open (drop at facts ++ take at facts)) ≡ open_count facts
round_open at facts = parts (drop at facts) (take at facts) ∙ swap ∙ sym (parts (take at facts) (drop at facts)) ∙ ap open_count (take-append-drop at facts)
  where
    parts : (xs ys : List WindowFact) → open_count (xs ++ ys) ≡ open_count xs + open_count ys
    parts xs ys = ap length (filter-append is_open xs ys) ∙ length-append (filter is_open xs) (filter is_open ys)

    swap : open_count (drop at facts) + open_count (take at facts) ≡ open_count (take at facts) + open_count (drop at facts)
    swap = omega arith

few_chosen : (windows : WindowsValue) (first : ℕ) → length (chosen windows first) ≤ open_count windows.facts
few_chosen windows first =
    let round = length-map (filter is_open (round_from first windows.facts)) (λ (fact : WindowFact). unheard fact.brick) in
    let all = round_open (first % length windows.facts) windows.facts in
    let size = length-take windows.w (open_passes (round_from first windows.facts)) in
    omega arith

-- passes that were taken are those of a call of the windows, and so is a refusal
pub taken_called : (windows : WindowsValue) (first : ℕ) → windows.wq ≤ length (chosen windows first) → after_call windows (Take first) ≡ taken windows (chosen windows first)
taken_called windows first enough = go (nat_lt (open_count windows.facts) windows.wq) refl
  where
    go : (b : Bool) → nat_lt (open_count windows.facts) windows.wq ≡ b → (if b then refused windows else taken windows (chosen windows first)) ≡ taken windows (chosen windows first)
    go false is = refl
    go true is =
        let few : open_count windows.facts < windows.wq = ltb-true (open_count windows.facts) windows.wq is in
        let most = few_chosen windows first in
        absurd (omega arith)

pub refused_called : (windows : WindowsValue) (first : ℕ) → open_count windows.facts < windows.wq → after_call windows (Take first) ≡ refused windows
refused_called windows first few =
    ap (λ b. if b then refused windows else taken windows (chosen windows first)) (lt-ltb (open_count windows.facts) windows.wq few)
