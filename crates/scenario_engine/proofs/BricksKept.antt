-- What each call of the windows keeps of bricks, and all that leaves the windows as they are, all turns of sessions
-- keep: so they keep the limits of the windows, and there are bricks only where there were.
use Rattle.std.proofs.Common.{◌≡◌, ℕ, zero, suc, ◌+◌, ◌*◌, ◌-◌, ◌∙◌, ◌&&◌, ◌≤◌, Bool, true, false, not, nat_lt, if◌then◌else◌, List, [], ◌∷◌, length, Option, unwrap_or, Some, None, Result, Ok, Err, refl, sym, subst, arith}
use Rattle.std.specs.Prelude.{nat_le, slice_get}
use Rattle.std.specs.Option.{option_map}
use Rattle.std.proofs.lemmas.Bool.Decides.{nat_tests}
use Rattle.crash_base.specs.declared.numbers.BrickNo.{BrickNo}
use Rattle.scenario_text.specs.Answer.{Answer, Done, within}
use Rattle.scenario_text.specs.Setup.{HasCounts, SetupState}
use Rattle.scenario_text.specs.declared.session_line.Freed.{Freed}
use Rattle.scenario_text.specs.declared.session_line.Freed.TheVariants as freed
use Rattle.scenario_text.specs.declared.session_line.SessionLine.{SessionLine}
use Rattle.scenario_text.specs.declared.session_line.SessionLine.TheVariants as lines
use Rattle.scenario_text.specs.declared.setup.BrickCounts.{BrickCounts}
use Rattle.scenario_text.proofs.Leaving.{Leaves, leaves-or_refused, leaves-refused_if}
use Rattle.send_windows.specs.Calls.{Answered, Silent, Spend, Take, TryPass, WindowCall, after_call}
use Rattle.send_windows.specs.Facts.{full_facts, open_count}
use Rattle.send_windows.specs.Passes.{unheard}
use Rattle.send_windows.specs.Windows.{KeepLimits, WindowsValue, after_pass, chosen, new_windows, pass_tried, refused, taken}
use Rattle.send_windows.specs.declared.fact.TheConstants.{MAX_BRICKS}
use Rattle.send_windows.specs.declared.pass.Pass.{Pass}
use Rattle.session_cookie.specs.declared.cookie.Cookie.{Cookie}
use Rattle.session_cookie.specs.declared.cookie.TheConstants.{MAX_HOLDERS}
use Rattle.session_lanes.specs.Lane.{LaneState, brick_no, lane_at, reply_made, waiting, with_reply}
use Rattle.session_lanes.specs.Lanes.{LanesState, after_event, asks, begun_write, gone_on, hears, listens, silent_once, turn_of, turn_to, turns, with_lane}
use Rattle.session_lanes.specs.declared.lanes.TheConstants.{TURNS_PER_BRICK}
use Rattle.session_steps.specs.Lent.{BeginsRead, BeginsWrite, CallsWindows, HearsNone, LentStep, TakesTurn, after_lent, after_lent_step}
use Rattle.session_steps.specs.Promise.{Boots, Does, Lead, Lends, Makes, SessionTurn}
use Rattle.session_steps.specs.Sessions.{SessionsState, answered_write, cookie_line, cookie_of, crash_line, drawn, expiry, fetch_line, free_line, freed_pass, hold_line, holds, lose_line, mute_line, nonce, now_line, on_lane, read_of, repeat_line, session_key, session_line, spent_by, store_read, store_written, sweep_line, values_line, windows_line, with_store, write_line, write_of, written_as}
use Rattle.session_steps.specs.Setup.{set_up, store_of}
use Rattle.session_steps.specs.Texts.{overload_text}
use Rattle.session_steps.specs.declared.sessions.TheConstants.{MAX_MOMENT}
use Rattle.ssm_stub.specs.Reads.{read_answer}
use Rattle.ssm_stub.specs.Writes.{heard_passes, write_answer}
use Rattle.ssm_stub.specs.declared.event.StubNext.{StubNext}
use Rattle.ssm_stub.specs.declared.event.StubNext.TheVariants as next
use Rattle.ssm_stub.specs.declared.write_call.WriteRefusal.{WriteRefusal}
use Rattle.ssm_stub.specs.declared.write_call.WriteRefusal.TheVariants as missing
use Rattle.ssm_world.specs.Worlds.{history, is_new, may_happen, may_read, next_of}
use Rattle.ssm_world.specs.declared.call.Call.{Call}
use Rattle.ssm_world.specs.declared.event.WorldEvent.TheVariants.{Crash, Deliver, Send}

-- a turn of a call leaves the windows as they are

asks_windows : (st : LanesState) (call : ℕ) (brick : BrickNo) (o : Option LaneState) → (asks st call brick o).windows ≡ st.windows
asks_windows st call brick None = refl
asks_windows st call brick (Some lane) = go (nat_lt 0 lane.to_drop)
  where
    go : (b : Bool) → (if b then with_lane (after_event st (Send call false true)) brick.0 (record lane { to_drop = lane.to_drop - 1 })
        else with_lane (after_event (after_event st (Send call false true)) (Deliver (length st.world.packets))) brick.0 (with_reply (length st.world.packets + 1) lane)).windows ≡ st.windows
    go true = refl
    go false = refl

hears_windows : (st : LanesState) (call : ℕ) (brick : BrickNo) (lane : LaneState) (queue : List ℕ) → (hears st call brick lane queue).windows ≡ st.windows
hears_windows st call brick lane [] = refl
hears_windows st call brick lane (packet ∷ rest) = refl

listens_windows : (st : LanesState) (call : ℕ) (brick : BrickNo) (o : Option LaneState) → (listens st call brick o).windows ≡ st.windows
listens_windows st call brick None = refl
listens_windows st call brick (Some lane) = hears_windows st call brick lane lane.queue

turn_to_windows : (st : LanesState) (call : ℕ) (x : StubNext) → (turn_to st call x).windows ≡ st.windows
turn_to_windows st call (next.Send brick) = asks_windows st call brick (lane_at st.lanes brick.0)
turn_to_windows st call (next.Receive brick) = listens_windows st call brick (lane_at st.lanes brick.0)
turn_to_windows st call next.Ended = refl

turn_windows : (st : LanesState) (call : ℕ) (o : Option Call) → (turn_of st call o).windows ≡ st.windows
turn_windows st call None = refl
turn_windows st call (Some c) = turn_to_windows st call (next_of c)

turns_windows : (n : ℕ) (st : LanesState) (call : ℕ) → (turns n st call).windows ≡ st.windows
turns_windows zero st call = refl
turns_windows (suc n) st call =
    let on : LanesState = turn_of st call (slice_get st.world.calls call) in
    turns_windows n on call ∙ turn_windows st call (slice_get st.world.calls call)

gone_windows : (st : LanesState) (call : ℕ) → (gone_on st call).windows ≡ st.windows
unfolding gone_on
gone_windows st call = turns_windows (TURNS_PER_BRICK * MAX_HOLDERS) st call

module _ (K : Option LanesState → Type 0) (same : (st later : LanesState) → later.windows ≡ st.windows → K (Some st) → K (Some later)) (calls : (st : LanesState) (call : WindowCall) → K (Some st) → K (Some (record st { windows = after_call st.windows call }))) where
  -- it holds of the bricks of sessions
  abbrev Of : SessionsState → Type 0
  Of s = K s.store

  here : (s : SessionsState) (st : LanesState) → Of s → s.store ≡ Some st → K (Some st)
  here s st k is = subst K is k

  at_lane : (s : SessionsState) (brick : ℕ) (line : LanesState → LaneState → Answer SessionsState) → Of s → ((st : LanesState) (lane : LaneState) → K (Some st) → Leaves Of (line st lane)) → Leaves Of (on_lane s brick line)
  at_lane s brick line k leaves =
      leaves-or_refused Of s.store _ (λ st is. leaves-or_refused Of (lane_at st.lanes brick) (λ lane. line st lane) (λ lane at. leaves st lane (here s st k is)))

  now_keeps : (s : SessionsState) (moment : ℕ) → Of s → Leaves Of (now_line s moment)
  unfolding now_line
  now_keeps s moment k = leaves-refused_if Of (nat_lt moment s.moment.0) _ (λ later. leaves-refused_if Of (nat_lt MAX_MOMENT moment) _ (λ in_time. k))

  written_keeps : (s : SessionsState) (key : ℕ) (answer : Result Cookie WriteRefusal) → Of s → Leaves Of (written_as s key answer)
  written_keeps s key (Ok cookie) k = k
  written_keeps s key (Err (missing.Missed causes)) k = k
  written_keeps s key (Err missing.OutOfMemory) k = tt

  answered_keeps : (s : SessionsState) (key : ℕ) (passes : List Pass) (number : ℕ) (st : LanesState) → K (Some st) → Leaves Of (answered_write s key passes number st)
  answered_keeps s key passes number st k =
      leaves-or_refused Of (write_of (slice_get st.world.calls number)) _ (λ write is.
      leaves-or_refused Of (write_answer write) _ (λ answer answers.
      written_keeps (with_store s (spent_by write passes st)) key answer (calls st (Spend (heard_passes write passes)) k)))

  write_keeps : (s : SessionsState) (key : ℕ) (value : List ℕ) → Of s → Leaves Of (write_line s key value)
  unfolding write_line
  write_keeps s key value k =
      leaves-or_refused Of s.store _ (λ st is.
      leaves-refused_if Of (not (is_new st.world (nonce s))) _ (λ new. go st (here s st k is) (nat_lt (open_count st.windows.facts) st.windows.wq) refl))
    where
      took : (st : LanesState) → K (Some st) → (b : Bool) → nat_lt (open_count st.windows.facts) st.windows.wq ≡ b → K (Some (record st { windows = if b then refused st.windows else taken st.windows (chosen st.windows s.serial) }))
      took st k b is =
          subst (λ (x : Bool). K (Some (record st { windows = if x then refused st.windows else taken st.windows (chosen st.windows s.serial) }))) is (calls st (Take s.serial) k)

      go : (st : LanesState) → K (Some st) → (b : Bool) → nat_lt (open_count st.windows.facts) st.windows.wq ≡ b
          → Leaves Of (if b then Done (with_store (drawn s) (record st { windows = refused st.windows })) (overload_text key (full_facts st.windows.facts))
          else answered_write (drawn s) key (chosen st.windows s.serial) (length st.world.calls) (store_written s key value (chosen st.windows s.serial) st))
      go st k true is = took st k true is
      go st k false is =
          let passes : List Pass = chosen st.windows s.serial in
          let before : LanesState = record st { windows = taken st.windows passes } in
          answered_keeps (drawn s) key passes (length st.world.calls) (store_written s key value passes st)
          (same before (store_written s key value passes st) (gone_windows (begun_write before (nonce s) (session_key key) value (expiry s) passes) (length st.world.calls)) (took st k false is))

  fetch_keeps : (s : SessionsState) (key : ℕ) → Of s → Leaves Of (fetch_line s key)
  unfolding fetch_line
  fetch_keeps s key k =
      leaves-or_refused Of (cookie_of s key) _ (λ cookie has.
      leaves-or_refused Of s.store _ (λ st is.
      leaves-refused_if Of (not (may_read st.world (nonce s) cookie.bricks)) _ (λ may.
      leaves-or_refused Of (read_of (slice_get (store_read s cookie st).world.calls (length st.world.calls))) _ (λ read at.
      leaves-or_refused Of (read_answer read) _ (λ answer answers.
      same st (store_read s cookie st) (gone_windows _ (length st.world.calls)) (here s st k is))))))

  cookie_keeps : (s : SessionsState) (key : ℕ) → Of s → Leaves Of (cookie_line s key)
  unfolding cookie_line
  cookie_keeps s key k = leaves-or_refused Of (cookie_of s key) _ (λ cookie has. k)

  lose_keeps : (s : SessionsState) (brick more : ℕ) → Of s → Leaves Of (lose_line s brick more)
  unfolding lose_line
  lose_keeps s brick more k = at_lane s brick _ k (λ st lane its. same st _ refl its)

  mute_keeps : (s : SessionsState) (brick more : ℕ) → Of s → Leaves Of (mute_line s brick more)
  unfolding mute_line
  mute_keeps s brick more k = at_lane s brick _ k (λ st lane its. same st _ refl its)

  repeat_keeps : (s : SessionsState) (brick number : ℕ) → Of s → Leaves Of (repeat_line s brick number)
  unfolding repeat_line
  repeat_keeps s brick number k = at_lane s brick _ k (λ st lane its. leaves-or_refused Of (reply_made lane number) _ (λ packet is. same st (with_lane st brick (waiting packet lane)) refl its))

  crash_keeps : (s : SessionsState) (brick : ℕ) → Of s → Leaves Of (crash_line s brick)
  unfolding crash_line
  crash_keeps s brick k = at_lane s brick _ k (λ st lane its. leaves-refused_if Of (not (may_happen st.world (Crash (brick_no brick)))) _ (λ may. same st (after_event st (Crash (brick_no brick))) refl its))

  sweep_keeps : (s : SessionsState) (brick moment : ℕ) → Of s → Leaves Of (sweep_line s brick moment)
  unfolding sweep_line
  sweep_keeps s brick moment k = at_lane s brick _ k (λ st lane its. leaves-refused_if Of (nat_lt MAX_MOMENT moment) _ (λ in_time. same st _ refl its))

  values_keep : (s : SessionsState) (brick : ℕ) → Of s → Leaves Of (values_line s brick)
  unfolding values_line
  values_keep s brick k = at_lane s brick _ k (λ st lane its. leaves-or_refused Of (history st.world (brick_no brick)) _ (λ h is. k))

  texts_keep : (s : SessionsState) → Of s → Leaves Of (windows_line s)
  unfolding windows_line
  texts_keep s k = leaves-or_refused Of s.store _ (λ st is. k)

  hold_keeps : (s : SessionsState) (brick : ℕ) → Of s → Leaves Of (hold_line s brick)
  unfolding hold_line
  hold_keeps s brick k = at_lane s brick _ k (λ st lane its. go st lane its (pass_tried st.windows (brick_no brick)))
    where
      go : (st : LanesState) (lane : LaneState) → K (Some st) → (o : Option Pass) → Leaves Of (within (with_store s) (holds st brick lane o))
      go st lane its None = its
      go st lane its (Some pass) = same (record st { windows = after_call st.windows (TryPass (brick_no brick)) }) _ refl (calls st (TryPass (brick_no brick)) its)

  free_keeps : (s : SessionsState) (brick : ℕ) (how : Freed) → Of s → Leaves Of (free_line s brick how)
  unfolding free_line
  free_keeps s brick how k = at_lane s brick _ k (λ st lane its. leaves-refused_if Of (not (nat_lt 0 lane.held)) _ (λ some. same (record st { windows = after_pass st.windows (freed_pass brick how) }) _ refl (spent st how its)))
    where
      spent : (st : LanesState) (how : Freed) → K (Some st) → K (Some (record st { windows = after_pass st.windows (freed_pass brick how) }))
      spent st freed.Answered its = calls st (Answered (unheard (brick_no brick))) its
      spent st freed.Silent its = calls st (Silent (unheard (brick_no brick))) its

  line_keeps : (s : SessionsState) (line : SessionLine) → Of s → Leaves Of (session_line s line)
  line_keeps s (lines.Now moment) k = now_keeps s moment k
  line_keeps s (lines.Write key value) k = write_keeps s key value k
  line_keeps s (lines.Fetch key) k = fetch_keeps s key k
  line_keeps s (lines.Cookie key) k = cookie_keeps s key k
  line_keeps s (lines.Present text) k = k
  line_keeps s (lines.Lose brick more) k = lose_keeps s brick more k
  line_keeps s (lines.Mute brick more) k = mute_keeps s brick more k
  line_keeps s (lines.Repeat brick number) k = repeat_keeps s brick number k
  line_keeps s (lines.Crash brick) k = crash_keeps s brick k
  line_keeps s (lines.Sweep brick moment) k = sweep_keeps s brick (unwrap_or moment s.moment.0) k
  line_keeps s (lines.Values brick) k = values_keep s brick k
  line_keeps s lines.Windows k = texts_keep s k
  line_keeps s (lines.Hold brick) k = hold_keeps s brick k
  line_keeps s (lines.Free brick how) k = free_keeps s brick how k

  lent_step_keeps : (st : LanesState) (step : LentStep) → K (Some st) → K (Some (after_lent_step st step))
  lent_step_keeps st (BeginsRead n now cookie) k = same st _ refl k
  lent_step_keeps st (BeginsWrite n key value end passes) k = same st _ refl k
  lent_step_keeps st (TakesTurn call) k = same st (turn_of st call (slice_get st.world.calls call)) (turn_windows st call (slice_get st.world.calls call)) k
  lent_step_keeps st (CallsWindows call) k = calls st call k
  lent_step_keeps st (HearsNone brick) k = same st (silent_once st brick) refl k

  lent_keeps : (steps : List LentStep) (st : LanesState) → K (Some st) → K (Some (after_lent st steps))
  lent_keeps [] st k = k
  lent_keeps (step ∷ steps) st k = lent_keeps steps (after_lent_step st step) (lent_step_keeps st step k)

  turn_keeps : (s t : SessionsState) (turn : SessionTurn) → Of s → Makes s turn t → Of t
  turn_keeps s t (Does line text) k makes = subst (Leaves Of) makes (line_keeps s line k)
  turn_keeps s t (Boots number) k makes = subst Of (sym makes) k
  turn_keeps s t (Lends steps serial) k makes = subst Of (sym makes.state_is) (by s.store k)
    where
      by : (o : Option LanesState) → K o → K (option_map (λ (st : LanesState). after_lent st steps) o)
      by None none = none
      by (Some st) its = lent_keeps steps st its

  -- All turns keep it.
  lead_keeps : (s t : SessionsState) (turns : List SessionTurn) → Of s → Lead s turns t → Of t
  lead_keeps s t [] k lead = subst Of (sym lead) k
  lead_keeps s t (turn ∷ turns) k lead = lead_keeps lead.0 t turns (turn_keeps s lead.0 turn k lead.1) lead.2

-- the limits of windows

abbrev pub LimitsLaw : Type 0
LimitsLaw = (s : WindowsValue) (call : WindowCall) → KeepLimits s → KeepLimits (after_call s call)

abbrev pub NewLaw : Type 0
NewLaw = (bricks w wq : ℕ) (holds : Bool) → 1 ≤ wq → wq ≤ w → w ≤ bricks → bricks ≤ MAX_BRICKS → KeepLimits (new_windows bricks w wq holds)

-- the windows of the bricks, if there are some, keep their limits
abbrev Limits : Option LanesState → Type 0
Limits None = Unit {0}
Limits (Some st) = KeepLimits st.windows

same_limits : (st later : LanesState) → later.windows ≡ st.windows → KeepLimits st.windows → KeepLimits later.windows
same_limits st later is keeps = subst KeepLimits (sym is) keeps

both : (a b : Bool) → (a && b) ≡ true → (a ≡ true) × (b ≡ true)
both true true is = (refl, refl)
both true false is = absurd (cc)
both false b is = absurd (cc)

at_least : (a b : ℕ) → nat_le a b ≡ true → a ≤ b
at_least a b is = grind (arith, nat_tests)

setup_limits : NewLaw → (counts : Option BrickCounts) → HasCounts counts → Limits (store_of counts)
setup_limits new None allowed = tt
setup_limits new (Some c) allowed =
    let outer = both (nat_le 1 c.least && nat_le c.least c.most) (nat_le c.most c.bricks && nat_le c.bricks MAX_BRICKS) allowed in
    let first = both (nat_le 1 c.least) (nat_le c.least c.most) outer.0 in
    let second = both (nat_le c.most c.bricks) (nat_le c.bricks MAX_BRICKS) outer.1 in
    new c.bricks c.most c.least true (at_least 1 c.least first.0) (at_least c.least c.most first.1) (at_least c.most c.bricks second.0) (at_least c.bricks MAX_BRICKS second.1)

-- Turns from a setup with as many bricks as head lines allow leave windows that keep their limits.
pub lead_limits : LimitsLaw → NewLaw → (setup : SetupState) (boot : ℕ) (turns : List SessionTurn) (t : SessionsState) (st : LanesState) → HasCounts setup.counts → Lead (set_up setup boot) turns t → t.store ≡ Some st → KeepLimits st.windows
lead_limits law new setup boot turns t st allowed lead is =
    subst Limits is (lead_keeps Limits same_limits (λ st call keeps. law st.windows call keeps) (set_up setup boot) t turns (setup_limits new setup.counts allowed) lead)

-- where there were no bricks, there are none

abbrev NoBricks : Option LanesState → Type 0
NoBricks None = Unit {0}
NoBricks (Some st) = ⊥

-- Where a turn leaves bricks, there were some before.
pub turn_bricks : (s t : SessionsState) (turn : SessionTurn) (later : LanesState) → Makes s turn t → t.store ≡ Some later → (st : LanesState) × (s.store ≡ Some st)
turn_bricks s t turn later makes is = go s.store refl
  where
    go : (o : Option LanesState) → s.store ≡ o → (st : LanesState) × (s.store ≡ Some st)
    go (Some st) there = (st, there)
    go None none =
        let after : NoBricks t.store = turn_keeps NoBricks (λ st later same no. absurd no) (λ st call no. absurd no) s t turn (subst NoBricks (sym none) tt) makes in
        absurd (subst NoBricks is after)
