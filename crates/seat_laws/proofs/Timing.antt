-- No line about sessions comes past the last moment.
use Rattle.std.proofs.Common.{◌≡◌, ◌≤◌, not, ℕ, Bool, true, false, if◌then◌else◌, nat_lt, List, length, Option, unwrap_or, Some, None, Result, Ok, Err, arith, subst}
use Rattle.std.specs.Prelude.{slice_get}
use Rattle.std.proofs.lemmas.Bool.Decides.{nat_tests}
use Rattle.scenario_text.proofs.Leaving.{Leaves, leaves-or_refused, leaves-refused_if}
use Rattle.scenario_text.specs.Answer.{Answer, Done, or_refused, within}
use Rattle.scenario_text.specs.declared.session_line.Freed.{Freed}
use Rattle.scenario_text.specs.declared.session_line.SessionLine.{SessionLine}
use Rattle.scenario_text.specs.declared.session_line.SessionLine.TheVariants as lines
use Rattle.send_windows.specs.Facts.{full_facts, open_count}
use Rattle.send_windows.specs.Windows.{chosen, pass_tried, refused}
use Rattle.send_windows.specs.declared.pass.Pass.{Pass}
use Rattle.session_cookie.specs.declared.cookie.Cookie.{Cookie}
use Rattle.session_lanes.specs.Lane.{LaneState, brick_no, lane_at, reply_made}
use Rattle.session_lanes.specs.Lanes.{LanesState}
use Rattle.session_steps.specs.Sessions.{SessionsState, answered_write, cookie_line, cookie_of, crash_line, drawn, fetch_line, free_line, hold_line, holds, lose_line, mute_line, nonce, now_line, on_lane, read_of, repeat_line, session_line, spent_by, store_read, store_written, sweep_line, values_line, windows_line, with_store, write_line, write_of, written_as}
use Rattle.session_steps.specs.Texts.{overload_text}
use Rattle.session_steps.specs.declared.sessions.TheConstants.{MAX_MOMENT}
use Rattle.ssm_stub.specs.Reads.{read_answer}
use Rattle.ssm_stub.specs.Writes.{write_answer}
use Rattle.ssm_stub.specs.declared.write_call.WriteRefusal.{WriteRefusal}
use Rattle.ssm_stub.specs.declared.write_call.WriteRefusal.TheVariants as missing
use Rattle.ssm_world.specs.Worlds.{history, is_new, may_happen, may_read}
use Rattle.ssm_world.specs.declared.event.WorldEvent.TheVariants.{Crash}

-- the present moment is one of the clock
abbrev InTime : SessionsState → Type 0
InTime s = s.moment.0 ≤ MAX_MOMENT

not-past : (a b : ℕ) → nat_lt b a ≡ false → a ≤ b
not-past a b is = grind (arith, nat_tests)

module _ (s : SessionsState) (early : s.moment.0 ≤ MAX_MOMENT) where
  abbrev Early : Answer SessionsState → Type 0
  Early answer = Leaves InTime answer

  at-lane : (brick : ℕ) (line : LanesState → LaneState → Answer SessionsState) → ((st : LanesState) (lane : LaneState) → Early (line st lane)) → Early (on_lane s brick line)
  at-lane brick line leaves =
      leaves-or_refused InTime s.store (λ st. or_refused (lane_at st.lanes brick) (λ lane. line st lane)) (λ st is. leaves-or_refused InTime (lane_at st.lanes brick) (λ lane. line st lane) (λ lane at. leaves st lane))

  now-early : (moment : ℕ) → Early (now_line s moment)
  unfolding now_line
  now-early moment = leaves-refused_if InTime (nat_lt moment s.moment.0) _ (λ later. leaves-refused_if InTime (nat_lt MAX_MOMENT moment) _ (λ within. not-past moment MAX_MOMENT within))

  write-early : (key : ℕ) (value : List ℕ) → Early (write_line s key value)
  unfolding write_line
  write-early key value = leaves-or_refused InTime s.store _ (λ st is. leaves-refused_if InTime (not (is_new st.world (nonce s))) _ (λ new. go st (nat_lt (open_count st.windows.facts) st.windows.wq))) where
    said : (st : LanesState) (answer : Result Cookie WriteRefusal) → Early (written_as (with_store (drawn s) st) key answer)
    said st (Ok cookie) = early
    said st (Err (missing.Missed causes)) = early
    said st (Err missing.OutOfMemory) = tt

    go : (st : LanesState) (b : Bool) → Early (if b then Done (with_store (drawn s) (record st { windows = refused st.windows })) (overload_text key (full_facts st.windows.facts))
        else answered_write (drawn s) key (chosen st.windows s.serial) (length st.world.calls) (store_written s key value (chosen st.windows s.serial) st))
    go st true = early
    go st false =
        let gone : LanesState = store_written s key value (chosen st.windows s.serial) st in
        leaves-or_refused InTime (write_of (slice_get gone.world.calls (length st.world.calls))) _ (λ write at.
        leaves-or_refused InTime (write_answer write) _ (λ answer answers. said (spent_by write (chosen st.windows s.serial) gone) answer))

  fetch-early : (key : ℕ) → Early (fetch_line s key)
  unfolding fetch_line
  fetch-early key =
      leaves-or_refused InTime (cookie_of s key) _ (λ cookie has.
      leaves-or_refused InTime s.store _ (λ st is.
      leaves-refused_if InTime (not (may_read st.world (nonce s) cookie.bricks)) _ (λ may.
      leaves-or_refused InTime (read_of (slice_get (store_read s cookie st).world.calls (length st.world.calls))) _ (λ read at.
      leaves-or_refused InTime (read_answer read) _ (λ answer answers. early)))))

  cookie-early : (key : ℕ) → Early (cookie_line s key)
  unfolding cookie_line
  cookie-early key = leaves-or_refused InTime (cookie_of s key) _ (λ cookie has. early)

  lose-early : (brick more : ℕ) → Early (lose_line s brick more)
  unfolding lose_line
  lose-early brick more = at-lane brick _ (λ st lane. early)

  mute-early : (brick more : ℕ) → Early (mute_line s brick more)
  unfolding mute_line
  mute-early brick more = at-lane brick _ (λ st lane. early)

  repeat-early : (brick number : ℕ) → Early (repeat_line s brick number)
  unfolding repeat_line
  repeat-early brick number = at-lane brick _ (λ st lane. leaves-or_refused InTime (reply_made lane number) _ (λ packet is. early))

  crash-early : (brick : ℕ) → Early (crash_line s brick)
  unfolding crash_line
  crash-early brick = at-lane brick _ (λ st lane. leaves-refused_if InTime (not (may_happen st.world (Crash (brick_no brick)))) _ (λ may. early))

  sweep-early : (brick moment : ℕ) → Early (sweep_line s brick moment)
  unfolding sweep_line
  sweep-early brick moment = at-lane brick _ (λ st lane. leaves-refused_if InTime (nat_lt MAX_MOMENT moment) _ (λ within. early))

  values-early : (brick : ℕ) → Early (values_line s brick)
  unfolding values_line
  values-early brick = at-lane brick _ (λ st lane. leaves-or_refused InTime (history st.world (brick_no brick)) _ (λ h is. early))

  windows-early : Early (windows_line s)
  unfolding windows_line
  windows-early = leaves-or_refused InTime s.store _ (λ st is. early)

  hold-early : (brick : ℕ) → Early (hold_line s brick)
  unfolding hold_line
  hold-early brick = at-lane brick _ (λ st lane. go st lane (pass_tried st.windows (brick_no brick))) where
    go : (st : LanesState) (lane : LaneState) (o : Option Pass) → Early (within (with_store s) (holds st brick lane o))
    go st lane None = early
    go st lane (Some pass) = early

  free-early : (brick : ℕ) (how : Freed) → Early (free_line s brick how)
  unfolding free_line
  free-early brick how = at-lane brick _ (λ st lane. leaves-refused_if InTime (not (nat_lt 0 lane.held)) _ (λ some. early))

  line-early : (line : SessionLine) → Early (session_line s line)
  line-early (lines.Now moment) = now-early moment
  line-early (lines.Write key value) = write-early key value
  line-early (lines.Fetch key) = fetch-early key
  line-early (lines.Cookie key) = cookie-early key
  line-early (lines.Present text) = early
  line-early (lines.Lose brick more) = lose-early brick more
  line-early (lines.Mute brick more) = mute-early brick more
  line-early (lines.Repeat brick number) = repeat-early brick number
  line-early (lines.Crash brick) = crash-early brick
  line-early (lines.Sweep brick moment) = sweep-early brick (unwrap_or moment s.moment.0)
  line-early (lines.Values brick) = values-early brick
  line-early lines.Windows = windows-early
  line-early (lines.Hold brick) = hold-early brick
  line-early (lines.Free brick how) = free-early brick how

-- A line that is done leaves the present moment one of the clock.
pub line-in-time : (s t : SessionsState) (line : SessionLine) (text : List ℕ) → s.moment.0 ≤ MAX_MOMENT → session_line s line ≡ Done t text → t.moment.0 ≤ MAX_MOMENT
line-in-time s t line text early is = subst (Leaves InTime) is (line-early s early line)
