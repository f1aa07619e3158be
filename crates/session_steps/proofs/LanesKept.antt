-- Each line, and each boot, leaves worlds that events made, and lanes that name replies of their bricks.
use Rattle.std.proofs.Common.{◌≡◌, ℕ, ◌-◌, Bool, true, false, not, nat_lt, if◌then◌else◌, List, [], ◌∷◌, length, map, Option, unwrap_or, Some, None, Result, Ok, Err, sym, subst}
use Rattle.std.specs.Prelude.{slice_get}
use Rattle.std.specs.Option.{option_map}
use Rattle.std.proofs.lemmas.List.Elements.{All-push}
use Rattle.session_cookie.specs.declared.cookie.Cookie.{Cookie}
use Rattle.scenario_text.specs.Answer.{Answer, Done, within}
use Rattle.scenario_text.proofs.Leaving.{Leaves, leaves-refused_if, leaves-or_refused}
use Rattle.scenario_text.specs.declared.session_line.Freed.{Freed}
use Rattle.scenario_text.specs.declared.session_line.SessionLine.{SessionLine}
use Rattle.scenario_text.specs.declared.session_line.SessionLine.TheVariants as lines
use Rattle.send_windows.specs.Facts.{open_count, full_facts}
use Rattle.send_windows.specs.Windows.{WindowsValue, chosen, taken, refused, after_pass, pass_tried, after_try}
use Rattle.send_windows.specs.declared.pass.Pass.{Pass}
use Rattle.ssm_stub.specs.declared.write_call.WriteRefusal.{WriteRefusal}
use Rattle.ssm_stub.specs.declared.write_call.WriteRefusal.TheVariants as missing
use Rattle.ssm_stub.specs.Writes.{write_answer}
use Rattle.ssm_stub.specs.Reads.{read_answer}
use Rattle.ssm_world.specs.declared.event.WorldEvent.{WorldEvent}
use Rattle.ssm_world.specs.declared.event.WorldEvent.TheVariants.{Write, Read, Crash, Sweep}
use Rattle.ssm_world.specs.Worlds.{history, may_read, may_happen, is_new}
use Rattle.session_lanes.specs.Lane.{LaneState, raised, losing, dropping, waiting, reply_made, lane_at, brick_no}
use Rattle.session_steps.specs.Lent.{after_lent}
use Rattle.session_steps.specs.Promise.{SessionTurn, Does, Boots, Lends, Makes, Lead}
use Rattle.session_lanes.specs.Sound.{IsReplyOf, LanesAreSound}
use Rattle.session_steps.specs.Sessions.{SessionsState, with_store, nonce, drawn, session_key, expiry, cookie_of, write_of, read_of, spent_by, written_as, store_written, answered_write, write_line, store_read, fetch_line, cookie_line, now_line, on_lane, lose_line, mute_line, repeat_line, crash_line, sweep_line, values_line, windows_line, holds, hold_line, freed_pass, free_line, session_line}
use Rattle.scenario_text.specs.Setup.{SetupState}
use Rattle.session_steps.specs.Setup.{set_up, store_of}
use Rattle.session_lanes.specs.Lanes.{LanesState, after_event}
use Rattle.session_steps.specs.Texts.{overload_text}
use Rattle.scenario_text.specs.declared.setup.BrickCounts.{BrickCounts}
use Rattle.session_steps.specs.declared.sessions.TheConstants.{MAX_MOMENT}
use Rattle.session_lanes.proofs.Keeping.{event_keeps, windows_keep, lane_keeps, gone_keeps, new_is_sound, made_named}
use Rattle.session_steps.proofs.LentGone.{lent_sound}

abbrev pub SoundIfAny : Option LanesState → Type 0
SoundIfAny None = Unit {0}
SoundIfAny (Some st) = LanesAreSound st

-- what holds of sessions
abbrev pub AreSound : SessionsState → Type 0
AreSound s = SoundIfAny s.store

-- What a line leaves is sound, where it is not refused.
abbrev LeavesSound : Answer SessionsState → Type 0
LeavesSound answer = Leaves AreSound answer

-- the store of sound sessions
store_sound : (s : SessionsState) (st : LanesState) → AreSound s → s.store ≡ Some st → LanesAreSound st
store_sound s st sound is = (let P : Option LanesState → Type 0 = λ o. SoundIfAny o in subst P is sound)

-- a line about a brick's lane
at_lane : (s : SessionsState) (brick : ℕ) (line : LanesState → LaneState → Answer SessionsState) → AreSound s → ((st : LanesState) (lane : LaneState) → LanesAreSound st → lane_at st.lanes brick ≡ Some lane → LeavesSound (line st lane)) → LeavesSound (on_lane s brick line)
at_lane s brick line sound leaves =
    leaves-or_refused AreSound s.store _ (λ st is. leaves-or_refused AreSound (lane_at st.lanes brick) (λ lane. line st lane) (λ lane at. leaves st lane (store_sound s st sound is) at))

now_keeps : (s : SessionsState) (moment : ℕ) → AreSound s → LeavesSound (now_line s moment)
unfolding now_line
now_keeps s moment sound = leaves-refused_if AreSound (nat_lt moment s.moment.0) _ (λ later. leaves-refused_if AreSound (nat_lt MAX_MOMENT moment) _ (λ in_time. sound))

written_keeps : (s : SessionsState) (key : ℕ) (answer : Result Cookie WriteRefusal) → AreSound s → LeavesSound (written_as s key answer)
written_keeps s key (Ok cookie) sound = sound
written_keeps s key (Err (missing.Missed causes)) sound = sound
written_keeps s key (Err missing.OutOfMemory) sound = tt

answered_keeps : (s : SessionsState) (key : ℕ) (passes : List Pass) (number : ℕ) (st : LanesState) → LanesAreSound st → LeavesSound (answered_write s key passes number st)
answered_keeps s key passes number st sound =
    leaves-or_refused AreSound (write_of (slice_get st.world.calls number)) _ (λ write is.
    leaves-or_refused AreSound (write_answer write) _ (λ answer answers.
    written_keeps (with_store s (spent_by write passes st)) key answer (windows_keep st _ sound)))

store_written_sound : (s : SessionsState) (key : ℕ) (value : List ℕ) (passes : List Pass) (st : LanesState) → LanesAreSound st → LanesAreSound (store_written s key value passes st)
store_written_sound s key value passes st sound =
    let write : WorldEvent = Write (nonce s) (session_key key) value (expiry s) (map (λ (pass : Pass). pass.brick) passes) st.windows.wq in
    let before : LanesState = record st { windows = taken st.windows passes } in
    gone_keeps (after_event before write) (length st.world.calls) (event_keeps before write (windows_keep st (taken st.windows passes) sound))

write_keeps : (s : SessionsState) (key : ℕ) (value : List ℕ) → AreSound s → LeavesSound (write_line s key value)
unfolding write_line
write_keeps s key value sound =
    leaves-or_refused AreSound s.store _ (λ st is.
    leaves-refused_if AreSound (not (is_new st.world (nonce s))) _ (λ new. go st (store_sound s st sound is) (nat_lt (open_count st.windows.facts) st.windows.wq))) where
      go : (st : LanesState) → LanesAreSound st → (b : Bool) → LeavesSound (if b then Done (with_store (drawn s) (record st { windows = refused st.windows })) (overload_text key (full_facts st.windows.facts))
          else answered_write (drawn s) key (chosen st.windows s.serial) (length st.world.calls) (store_written s key value (chosen st.windows s.serial) st))
      go st sound true = windows_keep st (refused st.windows) sound
      go st sound false =
          answered_keeps (drawn s) key (chosen st.windows s.serial) (length st.world.calls) (store_written s key value (chosen st.windows s.serial) st)
          (store_written_sound s key value (chosen st.windows s.serial) st sound)

fetch_keeps : (s : SessionsState) (key : ℕ) → AreSound s → LeavesSound (fetch_line s key)
unfolding fetch_line
fetch_keeps s key sound =
    leaves-or_refused AreSound (cookie_of s key) _ (λ cookie has.
    leaves-or_refused AreSound s.store _ (λ st is.
    leaves-refused_if AreSound (not (may_read st.world (nonce s) cookie.bricks)) _ (λ may.
    leaves-or_refused AreSound (read_of (slice_get (store_read s cookie st).world.calls (length st.world.calls))) _ (λ read at.
    leaves-or_refused AreSound (read_answer read) _ (λ answer answers.
    gone_keeps _ (length st.world.calls) (event_keeps st (Read (nonce s) s.moment cookie) (store_sound s st sound is)))))))

cookie_keeps : (s : SessionsState) (key : ℕ) → AreSound s → LeavesSound (cookie_line s key)
unfolding cookie_line
cookie_keeps s key sound = leaves-or_refused AreSound (cookie_of s key) _ (λ cookie has. sound)

lose_keeps : (s : SessionsState) (brick more : ℕ) → AreSound s → LeavesSound (lose_line s brick more)
unfolding lose_line
lose_keeps s brick more sound = at_lane s brick _ sound (λ st lane its at. lane_keeps st brick (losing more lane) its (its.lanes.queue brick lane at) (its.lanes.made brick lane at))

mute_keeps : (s : SessionsState) (brick more : ℕ) → AreSound s → LeavesSound (mute_line s brick more)
unfolding mute_line
mute_keeps s brick more sound = at_lane s brick _ sound (λ st lane its at. lane_keeps st brick (dropping more lane) its (its.lanes.queue brick lane at) (its.lanes.made brick lane at))

repeat_keeps : (s : SessionsState) (brick number : ℕ) → AreSound s → LeavesSound (repeat_line s brick number)
unfolding repeat_line
repeat_keeps s brick number sound = at_lane s brick _ sound (λ st lane its at.
    leaves-or_refused AreSound (reply_made lane number) _ (λ packet is.
    lane_keeps st brick (waiting packet lane) its
    (All-push (IsReplyOf st.world brick) lane.queue packet (its.lanes.queue brick lane at) (made_named st.world brick number packet lane (its.lanes.made brick lane at) is))
    (its.lanes.made brick lane at)))

crash_keeps : (s : SessionsState) (brick : ℕ) → AreSound s → LeavesSound (crash_line s brick)
unfolding crash_line
crash_keeps s brick sound = at_lane s brick _ sound (λ st lane its at. leaves-refused_if AreSound (not (may_happen st.world (Crash (brick_no brick)))) _ (λ may. event_keeps st (Crash (brick_no brick)) its))

sweep_keeps : (s : SessionsState) (brick moment : ℕ) → AreSound s → LeavesSound (sweep_line s brick moment)
unfolding sweep_line
sweep_keeps s brick moment sound = at_lane s brick _ sound (λ st lane its at. leaves-refused_if AreSound (nat_lt MAX_MOMENT moment) _ (λ in_time. event_keeps st (Sweep (brick_no brick) (record { 0 = moment })) its))

values_keep : (s : SessionsState) (brick : ℕ) → AreSound s → LeavesSound (values_line s brick)
unfolding values_line
values_keep s brick sound = at_lane s brick _ sound (λ st lane its at. leaves-or_refused AreSound (history st.world (brick_no brick)) _ (λ h is. sound))

window_texts_keep : (s : SessionsState) → AreSound s → LeavesSound (windows_line s)
unfolding windows_line
window_texts_keep s sound = leaves-or_refused AreSound s.store _ (λ st is. sound)

hold_keeps : (s : SessionsState) (brick : ℕ) → AreSound s → LeavesSound (hold_line s brick)
unfolding hold_line
hold_keeps s brick sound = at_lane s brick _ sound (λ st lane its at. go st lane its at (pass_tried st.windows (brick_no brick))) where
  go : (st : LanesState) (lane : LaneState) → LanesAreSound st → lane_at st.lanes brick ≡ Some lane → (o : Option Pass) → LeavesSound (within (with_store s) (holds st brick lane o))
  go st lane its at None = its
  go st lane its at (Some pass) =
      let windows : WindowsValue = after_try st.windows (brick_no brick) in
      lane_keeps (record st { windows = windows }) brick (record lane { held = raised lane.held 1 }) (windows_keep st windows its) (its.lanes.queue brick lane at) (its.lanes.made brick lane at)

free_keeps : (s : SessionsState) (brick : ℕ) (how : Freed) → AreSound s → LeavesSound (free_line s brick how)
unfolding free_line
free_keeps s brick how sound = at_lane s brick _ sound (λ st lane its at.
    let windows : WindowsValue = after_pass st.windows (freed_pass brick how) in
    leaves-refused_if AreSound (not (nat_lt 0 lane.held)) _ (λ some.
    lane_keeps (record st { windows = windows }) brick (record lane { held = lane.held - 1 }) (windows_keep st windows its) (its.lanes.queue brick lane at) (its.lanes.made brick lane at)))

-- each line keeps what holds of sessions
line_keeps : (s : SessionsState) (line : SessionLine) → AreSound s → LeavesSound (session_line s line)
line_keeps s (lines.Now moment) sound = now_keeps s moment sound
line_keeps s (lines.Write key value) sound = write_keeps s key value sound
line_keeps s (lines.Fetch key) sound = fetch_keeps s key sound
line_keeps s (lines.Cookie key) sound = cookie_keeps s key sound
line_keeps s (lines.Present text) sound = sound
line_keeps s (lines.Lose brick more) sound = lose_keeps s brick more sound
line_keeps s (lines.Mute brick more) sound = mute_keeps s brick more sound
line_keeps s (lines.Repeat brick number) sound = repeat_keeps s brick number sound
line_keeps s (lines.Crash brick) sound = crash_keeps s brick sound
line_keeps s (lines.Sweep brick moment) sound = sweep_keeps s brick (unwrap_or moment s.moment.0) sound
line_keeps s (lines.Values brick) sound = values_keep s brick sound
line_keeps s lines.Windows sound = window_texts_keep s sound
line_keeps s (lines.Hold brick) sound = hold_keeps s brick sound
line_keeps s (lines.Free brick how) sound = free_keeps s brick how sound

pub one_turn_keeps : (s t : SessionsState) (turn : SessionTurn) → AreSound s → Makes s turn t → AreSound t
one_turn_keeps s t (Does line text) sound leads = subst LeavesSound leads (line_keeps s line sound)
one_turn_keeps s t (Boots number) sound leads = subst AreSound (sym leads) sound
one_turn_keeps s t (Lends steps serial) sound leads = subst AreSound (sym leads.state_is) (lent_keeps s.store sound) where
  lent_keeps : (o : Option LanesState) → SoundIfAny o → SoundIfAny (option_map (λ (st : LanesState). after_lent st steps) o)
  lent_keeps None none = tt
  lent_keeps (Some st) its = lent_sound steps st its

pub lead_keeps : (s t : SessionsState) (turns : List SessionTurn) → AreSound s → Lead s turns t → AreSound t
lead_keeps s t [] sound lead = subst AreSound (sym lead) sound
lead_keeps s t (turn ∷ turns) sound lead = lead_keeps lead.0 t turns (one_turn_keeps s lead.0 turn sound lead.1) lead.2

-- sessions that were set up, after turns
pub set_up_sound : (setup : SetupState) (boot : ℕ) → AreSound (set_up setup boot)
set_up_sound setup boot = go setup.counts where
  go : (o : Option BrickCounts) → SoundIfAny (store_of o)
  go None = tt
  go (Some counts) = new_is_sound counts.bricks counts.most counts.least

pub all_sound : (setup : SetupState) (boot : ℕ) (turns : List SessionTurn) (t : SessionsState) (st : LanesState) → Lead (set_up setup boot) turns t → t.store ≡ Some st → LanesAreSound st
all_sound setup boot turns t st lead is = store_sound t st (lead_keeps (set_up setup boot) t turns (set_up_sound setup boot) lead) is
