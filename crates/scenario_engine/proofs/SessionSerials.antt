-- A line about sessions leaves the number of their boot and the key, and their serial and their moment never fall.
use Rattle.std.proofs.Common.{◌≡◌, ◌⊎◌, inl, inr, ℕ, ◌+◌, ◌-◌, ◌^◌, ◌≤◌, Bool, true, false, nat_lt, if◌then◌else◌, not, List, [], length, Option, Some, None, Result, Ok, Err, refl, sym, ap, subst, arith}
use Rattle.std.specs.Prelude.{min, slice_get, unwrap_or}
use Rattle.std.proofs.lemmas.Bool.Decides.{nat_tests}
use Rattle.brick_store.specs.History.{all_held}
use Rattle.crash_base.specs.declared.numbers.Moment.{Moment}
use Rattle.scenario_text.specs.Answer.{Answer, Done, or_refused, refused_if}
use Rattle.scenario_text.specs.declared.session_line.Freed.{Freed}
use Rattle.scenario_text.specs.declared.session_line.SessionLine.{SessionLine}
use Rattle.scenario_text.specs.declared.session_line.SessionLine.TheVariants as lines
use Rattle.scenario_text.proofs.Leaving.{Leaves, leaves-or_refused, leaves-refused_if, leaves-weaker}
use Rattle.send_windows.specs.Facts.{full_facts, open_count}
use Rattle.send_windows.specs.Windows.{after_pass, chosen, refused}
use Rattle.send_windows.specs.declared.pass.Pass.{Pass}
use Rattle.session_cookie.specs.declared.cookie.Cookie.{Cookie}
use Rattle.session_lanes.specs.Lane.{LaneState, brick_no, reply_made, waiting}
use Rattle.session_lanes.specs.Lanes.{LanesState, after_event}
use Rattle.session_steps.specs.Sessions.{SessionsState, answered_read, answered_write, cookie_line, cookie_of, crash_line, drawn, fetch_line, fetched_text, free_line, freed_pass, hold_line, lose_line, mute_line, nonce, now_line, on_lane, read_of, repeat_line, session_line, spent_by, store_read, store_written, sweep_line, text_of_cookie, told_read, told_write, values_line, windows_line, with_lane_of, with_store, write_line, write_of, written_as}
use Rattle.session_steps.specs.Texts.{cookie_text, overload_text, values_text}
use Rattle.session_steps.specs.declared.sessions.TheConstants.{MAX_MOMENT}
use Rattle.ssm_stub.specs.Reads.{ReadState, read_answer}
use Rattle.ssm_stub.specs.Writes.{WriteState, write_answer}
use Rattle.ssm_stub.specs.declared.read_call.ReadRefusal.{ReadRefusal}
use Rattle.ssm_world.specs.Worlds.{history, is_new, may_happen, may_read}
use Rattle.ssm_world.specs.declared.event.WorldEvent.TheVariants.{Crash, Sweep}
use Rattle.ssm_stub.specs.declared.write_call.WriteRefusal.{WriteRefusal}
use Rattle.ssm_stub.specs.declared.write_call.WriteRefusal.TheVariants as missing

-- sessions of the same boot, whose serial is the same, or the next one
abbrev pub Drew : SessionsState → SessionsState → Type 0
Drew s t = (t.boot ≡ s.boot) × ((t.serial ≡ s.serial) ⊎ (t.serial ≡ (drawn s).serial))

-- sessions that go on: they drew so, the key is the same, and the moment is none before
pub record GoesOn (s t : SessionsState) : Type 0 where
  pub drew : Drew s t
  pub key : t.key ≡ s.key
  pub later : s.moment.0 ≤ t.moment.0

same_moment : (s t : SessionsState) → t.moment ≡ s.moment → s.moment.0 ≤ t.moment.0
same_moment s t is = let same : t.moment.0 ≡ s.moment.0 = ap (λ (m : Moment). m.0) is in omega (arith, same)

not_before : (a b : ℕ) → nat_lt a b ≡ false → b ≤ a
not_before a b is = grind (arith, nat_tests)

module _ (s : SessionsState) where
  abbrev So : Answer SessionsState → Type 0
  So a = Leaves (GoesOn s) a

  -- they drew none, or one, and all else of this is the same
  none_more : (t : SessionsState) → t.boot ≡ s.boot → t.serial ≡ s.serial → t.key ≡ s.key → t.moment ≡ s.moment → GoesOn s t
  none_more t boot serial key moment = record { drew = (boot, inl serial); key = key; later = same_moment s t moment }

  one_more : (t : SessionsState) → t.boot ≡ s.boot → t.serial ≡ (drawn s).serial → t.key ≡ s.key → t.moment ≡ s.moment → GoesOn s t
  one_more t boot serial key moment = record { drew = (boot, inr serial); key = key; later = same_moment s t moment }

  on_each : (brick : ℕ) (line : LanesState → LaneState → Answer SessionsState) → ((st : LanesState) (lane : LaneState) → So (line st lane)) → So (on_lane s brick line)
  on_each brick line each = leaves-or_refused (GoesOn s) s.store _ (λ st there. leaves-or_refused (GoesOn s) _ _ (λ lane has. each st lane))

  written : (st : LanesState) (key : ℕ) (o : Result Cookie WriteRefusal) → So (written_as (with_store (drawn s) st) key o)
  written st key (Ok cookie) = one_more _ refl refl refl refl
  written st key (Err (missing.Missed causes)) = one_more _ refl refl refl refl
  written st key (Err missing.OutOfMemory) = tt

  write_drew : (key : ℕ) (passes : List Pass) (number : ℕ) (st : LanesState) → So (answered_write (drawn s) key passes number st)
  write_drew key passes number st = go (write_of (slice_get st.world.calls number))
    where
      told : (after : LanesState) (o : Option (Result Cookie WriteRefusal)) → So (or_refused o (λ answer. written_as (with_store (drawn s) after) key answer))
      told after None = tt
      told after (Some answer) = written after key answer

      go : (o : Option WriteState) → So (or_refused o (λ write. told_write (with_store (drawn s) (spent_by write passes st)) key write))
      go None = tt
      go (Some write) = told (spent_by write passes st) (write_answer write)

  drew_write : (key : ℕ) (value : List ℕ) → So (write_line s key value)
  unfolding write_line
  drew_write key value = by s.store
    where
      at : (st : LanesState) (had few : Bool) → So (refused_if had (if few
          then Done (with_store (drawn s) (record st { windows = refused st.windows })) (overload_text key (full_facts st.windows.facts))
          else answered_write (drawn s) key (chosen st.windows s.serial) (length st.world.calls) (store_written s key value (chosen st.windows s.serial) st)))
      at st true few = tt
      at st false true = one_more _ refl refl refl refl
      at st false false = write_drew key (chosen st.windows s.serial) (length st.world.calls) (store_written s key value (chosen st.windows s.serial) st)

      by : (o : Option LanesState) → So (or_refused o (λ st. refused_if (not (is_new st.world (nonce s))) (if nat_lt (open_count st.windows.facts) st.windows.wq
          then Done (with_store (drawn s) (record st { windows = refused st.windows })) (overload_text key (full_facts st.windows.facts))
          else answered_write (drawn s) key (chosen st.windows s.serial) (length st.world.calls) (store_written s key value (chosen st.windows s.serial) st))))
      by None = tt
      by (Some st) = at st (not (is_new st.world (nonce s))) (nat_lt (open_count st.windows.facts) st.windows.wq)

  read_drew : (key number : ℕ) (st : LanesState) → So (answered_read (drawn s) key number st)
  read_drew key number st = go (read_of (slice_get st.world.calls number))
    where
      told : (o : Option (Result (List ℕ) ReadRefusal)) → So (or_refused o (λ answer. Done (with_store (drawn s) st) (fetched_text key answer)))
      told None = tt
      told (Some answer) = one_more _ refl refl refl refl

      go : (o : Option ReadState) → So (or_refused o (λ read. told_read (with_store (drawn s) st) key read))
      go None = tt
      go (Some read) = told (read_answer read)

  drew_fetch : (key : ℕ) → So (fetch_line s key)
  unfolding fetch_line
  drew_fetch key = by (cookie_of s key)
    where
      at : (cookie : Cookie) (st : LanesState) (had : Bool) → So (refused_if had (answered_read (drawn s) key (length st.world.calls) (store_read s cookie st)))
      at cookie st true = tt
      at cookie st false = read_drew key (length st.world.calls) (store_read s cookie st)

      over : (cookie : Cookie) (o : Option LanesState) → So (or_refused o (λ st. refused_if (not (may_read st.world (nonce s) cookie.bricks)) (answered_read (drawn s) key (length st.world.calls) (store_read s cookie st))))
      over cookie None = tt
      over cookie (Some st) = at cookie st (not (may_read st.world (nonce s) cookie.bricks))

      by : (o : Option Cookie) → So (or_refused o (λ cookie. or_refused s.store (λ st. refused_if (not (may_read st.world (nonce s) cookie.bricks)) (answered_read (drawn s) key (length st.world.calls) (store_read s cookie st)))))
      by None = tt
      by (Some cookie) = over cookie s.store

  drew_cookie : (key : ℕ) → So (cookie_line s key)
  unfolding cookie_line
  drew_cookie key = leaves-or_refused (GoesOn s) (cookie_of s key) (λ cookie. Done s (cookie_text key (text_of_cookie s.key cookie))) (λ cookie has. none_more _ refl refl refl refl)

  drew_now : (moment : ℕ) → So (now_line s moment)
  unfolding now_line
  drew_now moment =
      leaves-refused_if (GoesOn s) (nat_lt moment s.moment.0) (refused_if (nat_lt MAX_MOMENT moment) (Done (record s { moment = record { 0 = moment } }) [])) (λ early.
      leaves-refused_if (GoesOn s) (nat_lt MAX_MOMENT moment) (Done (record s { moment = record { 0 = moment } }) []) (λ late.
      record { drew = (refl, inl refl); key = refl; later = not_before moment s.moment.0 early }))

  drew_lose : (brick more : ℕ) → So (lose_line s brick more)
  unfolding lose_line
  drew_lose brick more = on_each brick _ (λ st lane. none_more _ refl refl refl refl)

  drew_mute : (brick more : ℕ) → So (mute_line s brick more)
  unfolding mute_line
  drew_mute brick more = on_each brick _ (λ st lane. none_more _ refl refl refl refl)

  drew_repeat : (brick number : ℕ) → So (repeat_line s brick number)
  unfolding repeat_line
  drew_repeat brick number = on_each brick _ (λ st lane. leaves-or_refused (GoesOn s) (reply_made lane number) (λ packet. Done (with_lane_of s brick st (waiting packet lane)) []) (λ packet has. none_more _ refl refl refl refl))

  drew_crash : (brick : ℕ) → So (crash_line s brick)
  unfolding crash_line
  drew_crash brick = on_each brick _ (λ st lane. leaves-refused_if (GoesOn s) (not (may_happen st.world (Crash (brick_no brick)))) (Done (with_store s (after_event st (Crash (brick_no brick)))) []) (λ may. none_more _ refl refl refl refl))

  drew_sweep : (brick moment : ℕ) → So (sweep_line s brick moment)
  unfolding sweep_line
  drew_sweep brick moment = on_each brick _ (λ st lane. leaves-refused_if (GoesOn s) (nat_lt MAX_MOMENT moment) (Done (with_store s (after_event st (Sweep (brick_no brick) (record { 0 = moment })))) []) (λ may. none_more _ refl refl refl refl))

  drew_values : (brick : ℕ) → So (values_line s brick)
  unfolding values_line
  drew_values brick = on_each brick _ (λ st lane. leaves-or_refused (GoesOn s) (history st.world (brick_no brick)) (λ h. Done s (values_text brick (length (all_held h)))) (λ h has. none_more _ refl refl refl refl))

  drew_windows : So (windows_line s)
  unfolding windows_line
  drew_windows = leaves-or_refused (GoesOn s) s.store _ (λ st has. none_more _ refl refl refl refl)

  drew_hold : (brick : ℕ) → So (hold_line s brick)
  unfolding hold_line
  drew_hold brick = on_each brick _ (λ st lane. none_more _ refl refl refl refl)

  drew_free : (brick : ℕ) (how : Freed) → So (free_line s brick how)
  unfolding free_line
  drew_free brick how =
      on_each brick _ (λ st lane. leaves-refused_if (GoesOn s) (not (nat_lt 0 lane.held))
      (Done (with_lane_of s brick (record st { windows = after_pass st.windows (freed_pass brick how) }) (record lane { held = lane.held - 1 })) []) (λ held. none_more _ refl refl refl refl))

  -- A line about sessions draws one serial at most, keeps the key, and sets no earlier moment.
  pub session_goes : (line : SessionLine) → So (session_line s line)
  session_goes (lines.Now moment) = drew_now moment
  session_goes (lines.Write key value) = drew_write key value
  session_goes (lines.Fetch key) = drew_fetch key
  session_goes (lines.Cookie key) = drew_cookie key
  session_goes (lines.Present text) = none_more _ refl refl refl refl
  session_goes (lines.Lose brick more) = drew_lose brick more
  session_goes (lines.Mute brick more) = drew_mute brick more
  session_goes (lines.Repeat brick number) = drew_repeat brick number
  session_goes (lines.Crash brick) = drew_crash brick
  session_goes (lines.Sweep brick moment) = drew_sweep brick (unwrap_or moment s.moment.0)
  session_goes (lines.Values brick) = drew_values brick
  session_goes lines.Windows = drew_windows
  session_goes (lines.Hold brick) = drew_hold brick
  session_goes (lines.Free brick how) = drew_free brick how

  pub session_drew : (line : SessionLine) → Leaves (Drew s) (session_line s line)
  session_drew line = leaves-weaker (GoesOn s) (Drew s) (session_line s line) (λ t goes. goes.drew) (session_goes line)

up : (n : ℕ) → n ≤ 2 ^ 64 - 1 → n ≤ min (n + 1) (2 ^ 64 - 1)
up n small = grind (arith, small)

most : (n : ℕ) → min (n + 1) (2 ^ 64 - 1) ≤ 2 ^ 64 - 1
most n = grind arith

same_up : (n m : ℕ) → m ≡ n → n ≤ m
same_up n m is = omega (arith, is)

-- The serial never falls, nor passes the last one.
pub serial_up : (s t : SessionsState) → s.serial ≤ 2 ^ 64 - 1 → Drew s t → s.serial ≤ t.serial
serial_up s t small (boot, inl same) = same_up s.serial t.serial same
serial_up s t small (boot, inr next) = subst (λ (n : ℕ). s.serial ≤ n) (sym next) (up s.serial small)

pub serial_last : (s t : SessionsState) → s.serial ≤ 2 ^ 64 - 1 → Drew s t → t.serial ≤ 2 ^ 64 - 1
serial_last s t small (boot, inl same) = subst (λ (n : ℕ). n ≤ 2 ^ 64 - 1) (sym same) small
serial_last s t small (boot, inr next) = subst (λ (n : ℕ). n ≤ 2 ^ 64 - 1) (sym next) (most s.serial)
