-- The sessions of a scenario, and what each line about them does and writes.
use Rattle.std.specs.Prelude.{ℕ, suc, Bool, true, false, ◌+◌, ◌-◌, ◌^◌, min, nat_lt, not, if◌then◌else◌, List, [], ◌++◌, length, slice_get, slice_set, Option, unwrap_or, Some, None, Result, Ok, Err}
use Rattle.std.specs.Int.{w128, to_be_bytes}
use Rattle.std.specs.Option.{option_and_then}
use lib.ListN.{replicate}
use Rattle.crash_base.specs.declared.numbers.Moment.{Moment}
use Rattle.crash_base.specs.declared.numbers.SessionKey.{SessionKey}
use Rattle.crash_base.specs.declared.numbers.Version.{Version}
use Rattle.base64.specs.Engines.{url_safe_no_pad}
use Rattle.base64.specs.GeneralPurpose.{encode_of}
use Rattle.scenario_text.specs.Answer.{Answer, Refused, Done, refused_if, or_refused, within}
use Rattle.scenario_text.specs.declared.answer.LineAnswer.{LineAnswer}
use Rattle.scenario_text.specs.declared.answer.LineAnswer.TheVariants as answers
use Rattle.scenario_text.specs.declared.session_line.Freed.{Freed}
use Rattle.scenario_text.specs.declared.session_line.Freed.TheVariants as freed
use Rattle.scenario_text.specs.declared.session_line.SessionLine.{SessionLine}
use Rattle.scenario_text.specs.declared.session_line.SessionLine.TheVariants as lines
use Rattle.session_cookie.specs.Cookie.{cookie_fields}
use Rattle.session_cookie.specs.Text.{tag_of}
use Rattle.session_cookie.specs.declared.cookie.Cookie.{Cookie}
use Rattle.brick_store.specs.History.{all_held}
use Rattle.send_windows.specs.Facts.{open_count, full_facts}
use Rattle.send_windows.specs.Passes.{unheard, with_mark}
use Rattle.send_windows.specs.Windows.{chosen, taken, refused, after_pass, pass_tried}
use Rattle.send_windows.specs.declared.pass.Pass.{Pass}
use Rattle.send_windows.specs.declared.pass.PassMark.{PassMark}
use Rattle.send_windows.specs.declared.pass.PassMark.TheVariants as mark
use Rattle.ssm_stub.specs.Writes.{WriteState, write_answer, heard_passes}
use Rattle.ssm_stub.specs.Reads.{ReadState, read_answer}
use Rattle.ssm_stub.specs.declared.read_call.ReadRefusal.{ReadRefusal}
use Rattle.ssm_stub.specs.declared.read_call.ReadRefusal.TheVariants.{Expired, Lost, OutOfMemory}
use Rattle.ssm_stub.specs.declared.write_call.WriteRefusal.{WriteRefusal}
use Rattle.ssm_stub.specs.declared.write_call.WriteRefusal.TheVariants as missing
use Rattle.ssm_world.specs.declared.call.Call.{Call}
use Rattle.ssm_world.specs.declared.call.Call.TheVariants as call
use Rattle.ssm_world.specs.declared.event.WorldEvent.TheVariants.{Crash, Sweep}
use Rattle.ssm_world.specs.Worlds.{history, is_new, may_read, may_happen}
use Rattle.session_lanes.specs.Calls.{held_by, answer_by}
use Rattle.session_lanes.specs.Lane.{LaneState, brick_no, losing, dropping, waiting, reply_made, lane_at}
use Rattle.session_steps.specs.Present.{presented_text}
use Rattle.session_lanes.specs.Lanes.{LanesState, after_event, with_lane, spent_as, written_out, read_out}
use Rattle.session_steps.specs.Texts.{version_text, overload_text, missed_text, found_text, expired_text, lost_text, cookie_text, values_text, windows_text, hold_text}
use Rattle.session_steps.specs.declared.sessions.TheConstants.{LEASE, MAX_MOMENT, NODE}

-- The sessions of a scenario: the present moment; the number of the boot, and the serial that the boot's next write or
-- fetch draws; the key of the service; the cookie of each key, by its number, if it has one; and the bricks, if there
-- are some.
pub record SessionsState : Type 0 where
  pub moment : Moment
  pub boot : ℕ
  pub serial : ℕ
  pub key : List ℕ
  pub cookies : List (Option Cookie)
  pub store : Option LanesState

-- sessions before the first line about them: no cookie, and the present moment is 0
abbrev pub opened : ℕ → List ℕ → Option LanesState → SessionsState
opened boot key store =
    record { moment = record { 0 = 0 }; boot = boot; serial = 0; key = key; cookies = []; store = store }

-- sessions when the next boot has started: its serials begin at 0, and all else stays
abbrev pub reopened : SessionsState → ℕ → SessionsState
reopened s boot = record s { boot = boot; serial = 0 }

-- sessions with this store
abbrev pub with_store : SessionsState → LanesState → SessionsState
with_store s st = record s { store = Some st }

-- the nonce that the next write or fetch draws
abbrev pub nonce : SessionsState → Version
nonce s = record { node = NODE; boot = s.boot; serial = s.serial }

-- sessions after a serial was drawn; the last one that there is stays
abbrev pub drawn : SessionsState → SessionsState
drawn s = record s { serial = min (s.serial + 1) (2 ^ 64 - 1) }

-- the session key of a number: its 16 bytes are the number
abbrev pub session_key : ℕ → SessionKey
session_key key = record { 0 = to_be_bytes w128 key }

-- the cookie of a key, if it has one
abbrev pub cookie_of : SessionsState → ℕ → Option Cookie
cookie_of s key = option_and_then (λ (cookie : Option Cookie). cookie) (slice_get s.cookies key)

-- cookies with a place for each key up to this one
abbrev pub padded : List (Option Cookie) → ℕ → List (Option Cookie)
padded cookies key = cookies ++ replicate (suc key - length cookies) None

-- sessions where this is the cookie of a key
abbrev pub with_cookie : SessionsState → ℕ → Cookie → SessionsState
with_cookie s key cookie = record s { cookies = slice_set (padded s.cookies key) key (Some cookie) }

-- the moment after which a cookie that is made now has expired
abbrev pub expiry : SessionsState → Moment
expiry s = record { 0 = s.moment.0 + LEASE }

-- the write of a number, if it is one
abbrev pub write_of : Option Call → Option WriteState
write_of None = None
write_of (Some (call.Write write)) = Some write
write_of (Some (call.Read read)) = None

-- the read of a number, if it is one
abbrev pub read_of : Option Call → Option ReadState
read_of None = None
read_of (Some (call.Write write)) = None
read_of (Some (call.Read read)) = Some read

-- the store after a write spent its passes
abbrev pub spent_by : WriteState → List Pass → LanesState → LanesState
spent_by write passes st = spent_as st (heard_passes write passes)

-- a write by its answer: its cookie is kept as that of its key, or too few bricks have stored its value
abbrev pub written_as : SessionsState → ℕ → Result Cookie WriteRefusal → Answer SessionsState
written_as s key (Ok cookie) = Done (with_cookie s key cookie) (version_text key cookie)
written_as s key (Err (missing.Missed causes)) = Done s (missed_text key causes)
written_as s key (Err missing.OutOfMemory) = Refused

-- what a write that has gone on to its end comes to under a key
abbrev pub told_write : SessionsState → ℕ → WriteState → Answer SessionsState
told_write s key write = or_refused (write_answer write) (λ answer. written_as s key answer)

-- the store after passes were taken, and a write with them has begun and has gone on to its end
abbrev pub store_written : SessionsState → ℕ → List ℕ → List Pass → LanesState → LanesState
store_written s key value passes st =
    written_out (record st { windows = taken st.windows passes }) (nonce s) (session_key key) value (expiry s) passes

-- the answer of the write of a number, which has gone on to its end with these passes, and spends them
abbrev pub answered_write : SessionsState → ℕ → List Pass → ℕ → LanesState → Answer SessionsState
answered_write s key passes number st =
    or_refused (write_of (slice_get st.world.calls number)) (λ write.
    told_write (with_store s (spent_by write passes st)) key write)

-- A value is written under a key, with passes from the serial that is drawn on, and the passes are spent. Where too few
-- windows are open, nothing is sent. Refused is a write where there are no bricks, or where a call has had its nonce.
unfoldable pub write_line : SessionsState → ℕ → List ℕ → Answer SessionsState
write_line s key value =
    or_refused s.store (λ st.
    refused_if (not (is_new st.world (nonce s)))
    (if nat_lt (open_count st.windows.facts) st.windows.wq
    then Done (with_store (drawn s) (record st { windows = refused st.windows })) (overload_text key (full_facts st.windows.facts))
    else answered_write (drawn s) key (chosen st.windows s.serial) (length st.world.calls)
    (store_written s key value (chosen st.windows s.serial) st)))

-- what a fetch writes, by its answer
abbrev pub fetched_text : ℕ → Result (List ℕ) ReadRefusal → List ℕ
fetched_text key (Ok value) = found_text key value
fetched_text key (Err (Expired now expiry)) = expired_text key now expiry
fetched_text key (Err (Lost causes)) = lost_text key causes
fetched_text key (Err OutOfMemory) = []

-- the store after a read of a cookie has begun and has gone on to its answer
abbrev pub store_read : SessionsState → Cookie → LanesState → LanesState
store_read s cookie st = read_out st (nonce s) s.moment cookie

-- what a read that has gone on to its answer comes to under a key
abbrev pub told_read : SessionsState → ℕ → ReadState → Answer SessionsState
told_read s key read = or_refused (read_answer read) (λ answer. Done s (fetched_text key answer))

-- the sessions after a fetch, by the answer of the read of a number, which has gone on to its answer
abbrev pub answered_read : SessionsState → ℕ → ℕ → LanesState → Answer SessionsState
answered_read s key number st =
    or_refused (read_of (slice_get st.world.calls number)) (λ read.
    told_read (with_store s st) key read)

-- The value under a key is read by the key's cookie. Refused is a fetch of a key without a cookie, and one whose nonce
-- a call has had.
unfoldable pub fetch_line : SessionsState → ℕ → Answer SessionsState
fetch_line s key =
    or_refused (cookie_of s key) (λ cookie.
    or_refused s.store (λ st.
    refused_if (not (may_read st.world (nonce s) cookie.bricks))
    (answered_read (drawn s) key (length st.world.calls) (store_read s cookie st))))

-- the text of a cookie under the key of the service (RFC 4648, section 5)
abbrev pub text_of_cookie : List ℕ → Cookie → List ℕ
text_of_cookie key cookie = encode_of url_safe_no_pad (cookie_fields cookie ++ tag_of key cookie)

-- The cookie of a key is shown. Refused is a key without one.
unfoldable pub cookie_line : SessionsState → ℕ → Answer SessionsState
cookie_line s key =
    or_refused (cookie_of s key) (λ cookie.
    Done s (cookie_text key (text_of_cookie s.key cookie)))

-- The present moment goes on, or stays. Refused are a moment before it, and one of 2^62 or more.
unfoldable pub now_line : SessionsState → ℕ → Answer SessionsState
now_line s moment =
    refused_if (nat_lt moment s.moment.0)
    (refused_if (nat_lt MAX_MOMENT moment)
    (Done (record s { moment = record { 0 = moment } }) []))

-- the answer of a line that writes nothing: whether it was done
abbrev pub done_or_refused : Bool → LineAnswer
done_or_refused true = answers.Done
done_or_refused false = answers.Refused

-- the sessions after a change of the store and its lane of the brick of a number; refused where there is none
abbrev pub on_lane : SessionsState → ℕ → (LanesState → LaneState → Answer SessionsState) → Answer SessionsState
on_lane s brick line =
    or_refused s.store (λ st.
    or_refused (lane_at st.lanes brick) (λ lane.
    line st lane))

-- sessions with this lane of a brick
abbrev pub with_lane_of : SessionsState → ℕ → LanesState → LaneState → SessionsState
with_lane_of s brick st lane = with_store s (with_lane st brick lane)

-- More of a brick's next replies are to be lost. Refused is an unknown brick.
unfoldable pub lose_line : SessionsState → ℕ → ℕ → Answer SessionsState
lose_line s brick more = on_lane s brick (λ st lane. Done (with_lane_of s brick st (losing more lane)) [])

-- More of the next asks to a brick are to be dropped. Refused is an unknown brick.
unfoldable pub mute_line : SessionsState → ℕ → ℕ → Answer SessionsState
mute_line s brick more = on_lane s brick (λ st lane. Done (with_lane_of s brick st (dropping more lane)) [])

-- A reply of a brick waits once more, behind the others. Refused are an unknown brick, and a reply that it never made.
unfoldable pub repeat_line : SessionsState → ℕ → ℕ → Answer SessionsState
repeat_line s brick number =
    on_lane s brick (λ st lane.
    or_refused (reply_made lane number) (λ packet.
    Done (with_lane_of s brick st (waiting packet lane)) []))

-- A brick crashes. Refused are an unknown brick, and one whose incarnation is the last.
unfoldable pub crash_line : SessionsState → ℕ → Answer SessionsState
crash_line s brick =
    on_lane s brick (λ st lane.
    refused_if (not (may_happen st.world (Crash (brick_no brick))))
    (Done (with_store s (after_event st (Crash (brick_no brick)))) []))

-- A brick is swept at a moment. Refused are an unknown brick, and a moment of 2^62 or more.
unfoldable pub sweep_line : SessionsState → ℕ → ℕ → Answer SessionsState
sweep_line s brick moment =
    on_lane s brick (λ st lane.
    refused_if (nat_lt MAX_MOMENT moment)
    (Done (with_store s (after_event st (Sweep (brick_no brick) (record { 0 = moment })))) []))

-- How many values a brick keeps is told. Refused is an unknown brick.
unfoldable pub values_line : SessionsState → ℕ → Answer SessionsState
values_line s brick =
    on_lane s brick (λ st lane.
    or_refused (history st.world (brick_no brick)) (λ h.
    Done s (values_text brick (length (all_held h)))))

-- The windows are told. Refused is the line where there are no bricks.
unfoldable pub windows_line : SessionsState → Answer SessionsState
windows_line s = or_refused s.store (λ st. Done s (windows_text st.windows.facts))

-- this pass to a brick is held, if its window is open, so that the pass was given
abbrev pub holds : LanesState → ℕ → LaneState → Option Pass → Answer LanesState
holds st brick lane pass = Done (held_by st brick lane pass) (hold_text brick (answer_by st.windows (brick_no brick) pass))

-- A pass to a brick is held. Refused is an unknown brick.
unfoldable pub hold_line : SessionsState → ℕ → Answer SessionsState
hold_line s brick =
    on_lane s brick (λ st lane. within (with_store s) (holds st brick lane (pass_tried st.windows (brick_no brick))))

-- the mark with which a held pass is spent
abbrev pub mark_of : Freed → PassMark
mark_of freed.Answered = mark.Answered
mark_of freed.Silent = mark.Silent

-- a pass to the brick of a number, with a mark
abbrev pub freed_pass : ℕ → Freed → Pass
freed_pass brick how = with_mark (unheard (brick_no brick)) (mark_of how)

-- The last pass that is held of a brick is spent. Refused are an unknown brick, and one of which none is held.
unfoldable pub free_line : SessionsState → ℕ → Freed → Answer SessionsState
free_line s brick how =
    on_lane s brick (λ st lane.
    refused_if (not (nat_lt 0 lane.held))
    (Done (with_lane_of s brick (record st { windows = after_pass st.windows (freed_pass brick how) })
    (record lane { held = lane.held - 1 })) []))

-- What a line about sessions does and writes.
abbrev pub session_line : SessionsState → SessionLine → Answer SessionsState
session_line s (lines.Now moment) = now_line s moment
session_line s (lines.Write key value) = write_line s key value
session_line s (lines.Fetch key) = fetch_line s key
session_line s (lines.Cookie key) = cookie_line s key
session_line s (lines.Present text) = Done s (presented_text s.key text)
session_line s (lines.Lose brick more) = lose_line s brick more
session_line s (lines.Mute brick more) = mute_line s brick more
session_line s (lines.Repeat brick number) = repeat_line s brick number
session_line s (lines.Crash brick) = crash_line s brick
session_line s (lines.Sweep brick moment) = sweep_line s brick (unwrap_or moment s.moment.0)
session_line s (lines.Values brick) = values_line s brick
session_line s lines.Windows = windows_line s
session_line s (lines.Hold brick) = hold_line s brick
session_line s (lines.Free brick how) = free_line s brick how
