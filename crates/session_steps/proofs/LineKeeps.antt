-- Each line keeps what holds of sessions between two lines.
use Rattle.std.proofs.Common.{◌≡◌, ◌≤◌, not, Bool, true, false, if◌then◌else◌, nat_lt, All, ℕ, List, [], length, map, Option, unwrap_or, Some, None, Result, Ok, Err, refl, sym, ap, subst, ◌∙◌, arith}
use Rattle.std.specs.Prelude.{slice_get}
use Rattle.std.proofs.lemmas.Bool.Decides.{nat_tests}
use Rattle.std.proofs.lemmas.List.Elements.{All-nil}
use Rattle.scenario_text.specs.Answer.{Answer, Done, within, KeepsRefused, answer_of}
use Rattle.scenario_text.specs.declared.answer.LineAnswer.{LineAnswer}
use Rattle.scenario_text.specs.declared.answer.LineAnswer.TheVariants as answers
use Rattle.scenario_text.proofs.Leaving.{Leaves, leaves-refused_if, leaves-or_refused}
use Rattle.scenario_text.specs.declared.session_line.Freed.{Freed}
use Rattle.scenario_text.specs.declared.session_line.SessionLine.{SessionLine}
use Rattle.scenario_text.specs.declared.session_line.SessionLine.TheVariants as lines
use Rattle.session_cookie.specs.Cookie.{AreHolders}
use Rattle.session_cookie.specs.declared.cookie.Cookie.{Cookie}
use Rattle.send_windows.specs.Facts.{open_count, full_facts}
use Rattle.send_windows.specs.Windows.{chosen, taken, refused, pass_tried}
use Rattle.send_windows.specs.declared.pass.Pass.{Pass}
use Rattle.ssm_stub.specs.declared.write_call.WriteRefusal.{WriteRefusal}
use Rattle.ssm_stub.specs.declared.write_call.WriteRefusal.TheVariants as missing
use Rattle.ssm_stub.specs.Writes.{WriteState, write_answer}
use Rattle.ssm_stub.specs.Reads.{read_answer}
use Rattle.ssm_world.specs.declared.call.Call.{Call}
use Rattle.ssm_world.specs.declared.call.Call.TheVariants as call
use Rattle.ssm_world.specs.declared.event.WorldEvent.TheVariants.{Write, Crash}
use Rattle.ssm_world.specs.Worlds.{is_new, may_read, may_happen, history}
use Rattle.session_steps.specs.Kept.{HasHolders, HasSoundStore, IsSessions}
use Rattle.session_lanes.specs.Lane.{LaneState, reply_made, lane_at, brick_no}
use Rattle.session_steps.specs.Promise.{Does}
use Rattle.session_steps.specs.Sessions.{SessionsState, with_store, nonce, drawn, session_key, expiry, cookie_of, write_of, read_of, spent_by, written_as, store_written, answered_write, write_line, store_read, fetch_line, cookie_line, now_line, on_lane, lose_line, mute_line, repeat_line, crash_line, sweep_line, values_line, windows_line, holds, hold_line, free_line, session_line}
use Rattle.scenario_text.specs.Setup.{SetupState}
use Rattle.session_steps.specs.Setup.{set_up}
use Rattle.session_lanes.specs.Lanes.{LanesState}
use Rattle.session_steps.specs.Texts.{overload_text}
use Rattle.session_steps.specs.declared.sessions.TheConstants.{MAX_MOMENT}
use Rattle.session_steps.proofs.KeptCookies.{holders_kept}
use Rattle.session_steps.proofs.LanesKept.{SoundIfAny, AreSound, one_turn_keeps, set_up_sound}
use Rattle.session_lanes.proofs.Keeping.{event_keeps, windows_keep, gone_keeps}
use Rattle.session_lanes.specs.Sound.{LanesAreSound}
use Rattle.session_steps.proofs.SettledWrites.{names_holders}

-- the present moment is one of the clock, and each cookie names holders
record AreTimely (s : SessionsState) : Type 0 where
  in_time : s.moment.0 ≤ MAX_MOMENT
  cookies : All HasHolders s.cookies

abbrev LeavesTimely : Answer SessionsState → Type 0
LeavesTimely answer = Leaves AreTimely answer

-- another store changes nothing of that
other : (s : SessionsState) (st : LanesState) → AreTimely s → AreTimely (with_store s st)
other s st are = record { in_time = are.in_time; cookies = are.cookies }

at_lane : (s : SessionsState) (brick : ℕ) (line : LanesState → LaneState → Answer SessionsState) → ((st : LanesState) (lane : LaneState) → LeavesTimely (line st lane)) → LeavesTimely (on_lane s brick line)
at_lane s brick line leaves = leaves-or_refused AreTimely s.store _ (λ st is. leaves-or_refused AreTimely (lane_at st.lanes brick) (λ lane. line st lane) (λ lane at. leaves st lane))

not_past : (a b : ℕ) → nat_lt b a ≡ false → a ≤ b
not_past a b is = grind (arith, nat_tests)

now_leaves : (s : SessionsState) (moment : ℕ) → AreTimely s → LeavesTimely (now_line s moment)
unfolding now_line
now_leaves s moment are = leaves-refused_if AreTimely (nat_lt moment s.moment.0) _ (λ later. leaves-refused_if AreTimely (nat_lt MAX_MOMENT moment) _ (λ in_time. record { in_time = not_past moment MAX_MOMENT in_time; cookies = are.cookies }))

is_write : (o : Option Call) (write : WriteState) → write_of o ≡ Some write → o ≡ Some (call.Write write)
is_write None write is = absurd (cc)
is_write (Some (call.Write w)) write is = (let same : w ≡ write = cc in ap (λ (x : WriteState). Some (call.Write x)) same)
is_write (Some (call.Read r)) write is = absurd (cc)

write_leaves : (s : SessionsState) (key : ℕ) (value : List ℕ) → AreTimely s → AreSound s → LeavesTimely (write_line s key value)
unfolding write_line
write_leaves s key value are sound =
    leaves-or_refused AreTimely s.store _ (λ st is.
    leaves-refused_if AreTimely (not (is_new st.world (nonce s))) _ (λ new. go st (subst (λ o. SoundIfAny o) is sound) (nat_lt (open_count st.windows.facts) st.windows.wq))) where
      as_said : (st : LanesState) (write : WriteState) → (answer : Result Cookie WriteRefusal) → ((cookie : Cookie) → answer ≡ Ok cookie → AreHolders cookie.bricks) → LeavesTimely (written_as (with_store (drawn s) st) key answer)
      as_said st write (Ok cookie) names = record { in_time = are.in_time; cookies = holders_kept s.cookies key cookie are.cookies (names cookie refl) }
      as_said st write (Err (missing.Missed causes)) names = record { in_time = are.in_time; cookies = are.cookies }
      as_said st write (Err missing.OutOfMemory) names = tt

      go : (st : LanesState) → LanesAreSound st → (b : Bool) → LeavesTimely (if b then Done (with_store (drawn s) (record st { windows = refused st.windows })) (overload_text key (full_facts st.windows.facts))
          else answered_write (drawn s) key (chosen st.windows s.serial) (length st.world.calls) (store_written s key value (chosen st.windows s.serial) st))
      go st its true = record { in_time = are.in_time; cookies = are.cookies }
      go st its false =
          let passes : List Pass = chosen st.windows s.serial in
          let before : LanesState = record st { windows = taken st.windows passes } in
          let n : ℕ = length st.world.calls in
          let gone : LanesState = store_written s key value passes st in
          let ended : LanesAreSound gone = gone_keeps _ n (event_keeps before (Write (nonce s) (session_key key) value (expiry s) (map (λ (pass : Pass). pass.brick) passes) st.windows.wq) (windows_keep st (taken st.windows passes) its)) in
          leaves-or_refused AreTimely (write_of (slice_get gone.world.calls n)) _ (λ write at.
          leaves-or_refused AreTimely (write_answer write) _ (λ answer answers.
          as_said (spent_by write passes gone) write answer (λ cookie same.
          names_holders gone.world n write cookie ended.made (is_write (slice_get gone.world.calls n) write at) (answers ∙ ap (λ (r : Result Cookie WriteRefusal). Some r) same))))

fetch_leaves : (s : SessionsState) (key : ℕ) → AreTimely s → LeavesTimely (fetch_line s key)
unfolding fetch_line
fetch_leaves s key are =
    leaves-or_refused AreTimely (cookie_of s key) _ (λ cookie has.
    leaves-or_refused AreTimely s.store _ (λ st is.
    leaves-refused_if AreTimely (not (may_read st.world (nonce s) cookie.bricks)) _ (λ may.
    leaves-or_refused AreTimely (read_of (slice_get (store_read s cookie st).world.calls (length st.world.calls))) _ (λ read at.
    leaves-or_refused AreTimely (read_answer read) _ (λ answer answers. record { in_time = are.in_time; cookies = are.cookies })))))

cookie_leaves : (s : SessionsState) (key : ℕ) → AreTimely s → LeavesTimely (cookie_line s key)
unfolding cookie_line
cookie_leaves s key are = leaves-or_refused AreTimely (cookie_of s key) _ (λ cookie has. are)

lose_leaves : (s : SessionsState) (brick more : ℕ) → AreTimely s → LeavesTimely (lose_line s brick more)
unfolding lose_line
lose_leaves s brick more are = at_lane s brick _ (λ st lane. other s _ are)

mute_leaves : (s : SessionsState) (brick more : ℕ) → AreTimely s → LeavesTimely (mute_line s brick more)
unfolding mute_line
mute_leaves s brick more are = at_lane s brick _ (λ st lane. other s _ are)

repeat_leaves : (s : SessionsState) (brick number : ℕ) → AreTimely s → LeavesTimely (repeat_line s brick number)
unfolding repeat_line
repeat_leaves s brick number are = at_lane s brick _ (λ st lane. leaves-or_refused AreTimely (reply_made lane number) _ (λ packet is. other s _ are))

crash_leaves : (s : SessionsState) (brick : ℕ) → AreTimely s → LeavesTimely (crash_line s brick)
unfolding crash_line
crash_leaves s brick are = at_lane s brick _ (λ st lane. leaves-refused_if AreTimely (not (may_happen st.world (Crash (brick_no brick)))) _ (λ may. other s _ are))

sweep_leaves : (s : SessionsState) (brick moment : ℕ) → AreTimely s → LeavesTimely (sweep_line s brick moment)
unfolding sweep_line
sweep_leaves s brick moment are = at_lane s brick _ (λ st lane. leaves-refused_if AreTimely (nat_lt MAX_MOMENT moment) _ (λ in_time. other s _ are))

values_leave : (s : SessionsState) (brick : ℕ) → AreTimely s → LeavesTimely (values_line s brick)
unfolding values_line
values_leave s brick are = at_lane s brick _ (λ st lane. leaves-or_refused AreTimely (history st.world (brick_no brick)) _ (λ h is. are))

windows_leave : (s : SessionsState) → AreTimely s → LeavesTimely (windows_line s)
unfolding windows_line
windows_leave s are = leaves-or_refused AreTimely s.store _ (λ st is. are)

hold_leaves : (s : SessionsState) (brick : ℕ) → AreTimely s → LeavesTimely (hold_line s brick)
unfolding hold_line
hold_leaves s brick are = at_lane s brick _ (λ st lane. go st lane (pass_tried st.windows (brick_no brick))) where
  go : (st : LanesState) (lane : LaneState) (o : Option Pass) → LeavesTimely (within (with_store s) (holds st brick lane o))
  go st lane None = other s _ are
  go st lane (Some pass) = other s _ are

free_leaves : (s : SessionsState) (brick : ℕ) (how : Freed) → AreTimely s → LeavesTimely (free_line s brick how)
unfolding free_line
free_leaves s brick how are = at_lane s brick _ (λ st lane. leaves-refused_if AreTimely (not (nat_lt 0 lane.held)) _ (λ some. other s _ are))

line_leaves : (s : SessionsState) (line : SessionLine) → AreTimely s → AreSound s → LeavesTimely (session_line s line)
line_leaves s (lines.Now moment) are sound = now_leaves s moment are
line_leaves s (lines.Write key value) are sound = write_leaves s key value are sound
line_leaves s (lines.Fetch key) are sound = fetch_leaves s key are
line_leaves s (lines.Cookie key) are sound = cookie_leaves s key are
line_leaves s (lines.Present text) are sound = are
line_leaves s (lines.Lose brick more) are sound = lose_leaves s brick more are
line_leaves s (lines.Mute brick more) are sound = mute_leaves s brick more are
line_leaves s (lines.Repeat brick number) are sound = repeat_leaves s brick number are
line_leaves s (lines.Crash brick) are sound = crash_leaves s brick are
line_leaves s (lines.Sweep brick moment) are sound = sweep_leaves s brick (unwrap_or moment s.moment.0) are
line_leaves s (lines.Values brick) are sound = values_leave s brick are
line_leaves s lines.Windows are sound = windows_leave s are
line_leaves s (lines.Hold brick) are sound = hold_leaves s brick are
line_leaves s (lines.Free brick how) are sound = free_leaves s brick how are

to_sound : (o : Option LanesState) → HasSoundStore o → SoundIfAny o
to_sound None is = tt
to_sound (Some st) is = record { made = is.0; lanes = is.1 }

from_sound : (o : Option LanesState) → SoundIfAny o → HasSoundStore o
from_sound None is = tt
from_sound (Some st) is = (is.made, is.lanes)

-- a line that is done leaves sessions so
pub line_keeps_sessions : (s t : SessionsState) (line : SessionLine) (text : List ℕ) → IsSessions s → session_line s line ≡ Done t text → IsSessions t
line_keeps_sessions s t line text are is =
    let sound : AreSound s = to_sound s.store are.store in
    let left : AreTimely t = subst LeavesTimely is (line_leaves s line (record { in_time = are.in_time; cookies = are.cookies }) sound) in
    record { in_time = left.in_time; cookies = left.cookies; store = from_sound t.store (one_turn_keeps s t (Does line text) sound is) }

-- a line leaves sessions so, by its answer
pub answer_keeps : (s t : SessionsState) (line : SessionLine) (a : LineAnswer) → IsSessions s → answer_of a t ≡ session_line s line → KeepsRefused a s t → IsSessions t
answer_keeps s t line answers.Refused are is same = subst IsSessions (sym same) are
answer_keeps s t line answers.Done are is same = line_keeps_sessions s t line [] are (sym is)
answer_keeps s t line (answers.Wrote text) are is same = line_keeps_sessions s t line _ are (sym is)

-- sessions that were set up
pub set_up_sessions : (setup : SetupState) (boot : ℕ) → IsSessions (set_up setup boot)
set_up_sessions setup boot = record { in_time = omega arith; cookies = All-nil HasHolders; store = from_sound (set_up setup boot).store (set_up_sound setup boot) }
