-- What a scenario promises of its sessions, by its lines and what they wrote.
use Rattle.std.specs.Prelude.{◌≡◌, ℕ, ◌+◌, ◌<◌, ◌≤◌, ◌==◌, ◌⊎◌, Bool, true, false, if◌then◌else◌, List, [], ◌∷◌, ◌++◌, length, slice_get, Option, unwrap_or, Some, None}
use Rattle.std.specs.List.{count_by}
use Rattle.crash_base.specs.declared.numbers.Moment.{Moment}
use Rattle.brick_store.specs.History.{later}
use Rattle.scenario_text.specs.Answer.{Done}
use Rattle.scenario_text.specs.declared.session_line.SessionLine.{SessionLine}
use Rattle.scenario_text.specs.declared.session_line.SessionLine.TheVariants as lines
use Rattle.session_cookie.specs.declared.cookie.Cookie.{Cookie}
use Rattle.session_cookie.specs.declared.cookie.Holder.{Holder}
use Rattle.ssm_frames.specs.declared.frame.TheConstants.{SWEEP_GRACE}
use Rattle.send_windows.specs.Facts.{open_count, full_facts}
use Rattle.send_windows.specs.Windows.{chosen}
use Rattle.send_windows.specs.declared.pass.Pass.{Pass}
use Rattle.ssm_stub.specs.declared.cause.BrickCause.{BrickCause}
use Rattle.ssm_stub.specs.declared.cause.Cause.{Cause}
use Rattle.ssm_stub.specs.declared.cause.Cause.TheVariants as cause
use Rattle.ssm_stub.specs.declared.ear.TheConstants.{MAX_STRAYS}
use Rattle.ssm_stub.specs.Ends.{bricks_of as bricks_of_passes}
use Rattle.ssm_stub.specs.Writes.{WriteState}
use Rattle.ssm_world.specs.declared.event.WorldEvent.{WorldEvent}
use Rattle.ssm_world.specs.Claims.{WasMissed as WasMissedInWorld}
use Rattle.ssm_world.specs.Worlds.{new_world, after, bricks_of, may_be_asked}
use Rattle.session_lanes.specs.Lane.{LaneState, lane_at}
use Rattle.session_steps.specs.Lent.{LentStep, GoesLent}
use Rattle.session_steps.specs.Sessions.{SessionsState, session_line, reopened, nonce, session_key, cookie_of, expiry}
use Rattle.scenario_text.specs.Setup.{SetupState}
use Rattle.session_steps.specs.Setup.{set_up}
use Rattle.session_lanes.specs.Lanes.{LanesState}
use Rattle.session_steps.specs.Texts.{version_text, overload_text, missed_text, found_text, expired_text, lost_text}

-- What happens to sessions: a line about them was done and wrote this text; the boot of this number has started; or
-- connections drew serials up to one, and did this with the bricks, which were lent to them.
pub data SessionTurn : Type 0 where
  Does : (line : SessionLine) (text : List ℕ) → SessionTurn
  Boots : (number : ℕ) → SessionTurn
  Lends : (steps : List LentStep) (serial : ℕ) → SessionTurn

-- a turn makes these sessions of others
abbrev pub Makes : SessionsState → SessionTurn → SessionsState → Type 0
Makes s (Does line text) t = session_line s line ≡ Done t text
Makes s (Boots number) t = t ≡ reopened s number
Makes s (Lends steps serial) t = GoesLent s steps serial t

-- Turns lead from sessions to others, one after the other: each line was done, and wrote its text.
abbrev pub Lead : SessionsState → List SessionTurn → SessionsState → Type 0
Lead s [] t = t ≡ s
Lead s (turn ∷ turns) t = (between : SessionsState) × Makes s turn between × Lead between turns t

-- whether a turn is a crash of the brick of a number
abbrev pub is_crash_of : ℕ → SessionTurn → Bool
is_crash_of brick (Does (lines.Crash b) text) = b == brick
is_crash_of brick (Does line text) = false
is_crash_of brick (Boots number) = false
is_crash_of brick (Lends steps serial) = false

-- how often a brick crashed in turns
abbrev pub crashes : ℕ → List SessionTurn → ℕ
crashes brick turns = count_by (is_crash_of brick) turns

-- the present moment after a turn
abbrev pub moment_after : Moment → SessionTurn → Moment
moment_after now (Does (lines.Now moment) text) = record { 0 = moment }
moment_after now (Does line text) = now
moment_after now (Boots number) = now
moment_after now (Lends steps serial) = now

-- the moment at which a turn sweeps the brick of a number, where it does
abbrev pub sweep_by : Moment → ℕ → SessionTurn → List Moment
sweep_by now brick (Does (lines.Sweep b moment) text) =
    if b == brick then record { 0 = unwrap_or moment now.0 } ∷ [] else []
sweep_by now brick (Does line text) = []
sweep_by now brick (Boots number) = []
sweep_by now brick (Lends steps serial) = []

-- a turn among these, from this present moment on, sweeps the brick of a number at a moment
abbrev pub Sweeps : Moment → ℕ → Moment → List SessionTurn → Type 0
Sweeps now brick moment [] = ⊥
Sweeps now brick moment (turn ∷ turns) =
    (sweep_by now brick turn ≡ moment ∷ []) ⊎ Sweeps (moment_after now turn) brick moment turns

-- the later of a moment and of one at which a turn sweeps, if it does
abbrev pub later_of : Moment → List Moment → Moment
later_of so_far [] = so_far
later_of so_far (moment ∷ moments) = later so_far moment

-- The greatest moment at which the brick of a number was swept since it last crashed, or 0: after turns from this
-- present moment on, where it was so far this one.
abbrev pub swept_over : Moment → ℕ → Moment → List SessionTurn → Moment
swept_over now brick so_far [] = so_far
swept_over now brick so_far (turn ∷ turns) =
    swept_over (moment_after now turn) brick
    (if is_crash_of brick turn then record { 0 = 0 } else later_of so_far (sweep_by now brick turn)) turns

-- a moment is past the lease and the grace of a cookie
abbrev pub IsLate : Cookie → Moment → Type 0
IsLate cookie moment = cookie.expiry.0 + SWEEP_GRACE < moment.0

-- A fetch of a key: the moment and the turns before the value was written under the key, with which cookie, the turns
-- since, and the lanes of the bricks and the present moment when the fetch is made.
pub record FetchMade : Type 0 where
  pub key : ℕ
  pub value : List ℕ
  pub cookie : Cookie
  pub before : List SessionTurn
  pub written_at : Moment
  pub since : List SessionTurn
  pub lanes : List LaneState
  pub now : Moment

-- the lane of a holder's brick is this
abbrev pub HasLane : FetchMade → Holder → LaneState → Type 0
HasLane fetch holder lane = lane_at fetch.lanes holder.brick.0 ≡ Some lane

-- A brick was silent to a fetch: asks to it were still to be dropped, or replies of it still to be lost, and fewer than
-- 64 replies to other calls waited before the one that did not come.
pub record WasSilent (fetch : FetchMade) (holder : Holder) : Type 0 where
  pub lane : LaneState
  pub has_lane : HasLane fetch holder lane
  pub lost : (0 < lane.to_drop) ⊎ (0 < lane.to_lose)
  pub few : length lane.queue < MAX_STRAYS

-- A brick strayed to a fetch: 64 or more replies to other calls waited before any to the fetch.
pub record WasStrayed (fetch : FetchMade) (holder : Holder) : Type 0 where
  pub lane : LaneState
  pub has_lane : HasLane fetch holder lane
  pub many : MAX_STRAYS ≤ length lane.queue

-- a brick was heard by a fetch: it was neither silent to it nor strayed
pub record WasHeard (fetch : FetchMade) (holder : Holder) : Type 0 where
  pub lane : LaneState
  pub has_lane : HasLane fetch holder lane
  pub undropped : lane.to_drop ≡ 0
  pub unlost : lane.to_lose ≡ 0
  pub few : length lane.queue < MAX_STRAYS

-- a brick has crashed since the value was written
abbrev pub HasCrashed : FetchMade → Holder → Type 0
HasCrashed fetch holder = 1 ≤ crashes holder.brick.0 fetch.since

-- a brick was swept past the lease and the grace since the value was written
pub record WasSweptLate (fetch : FetchMade) (holder : Holder) : Type 0 where
  pub moment : Moment
  pub sweeps : Sweeps fetch.written_at holder.brick.0 moment fetch.since
  pub late : IsLate fetch.cookie moment

-- the greatest moment at which a brick has been swept since it last crashed, or 0
abbrev pub last_swept : FetchMade → Holder → Moment
last_swept fetch holder =
    swept_over fetch.written_at holder.brick.0
    (swept_over (record { 0 = 0 }) holder.brick.0 (record { 0 = 0 }) fetch.before) fetch.since

-- Why a brick of the cookie did not serve a fetch. Crashed: it has crashed since the value was written, and tells how
-- often it has crashed so far, and 1 more. Swept: it has not, but was swept past the lease and the grace since, and
-- tells the greatest moment at which it has been swept since it last crashed.
abbrev pub IsCause : FetchMade → Holder → Cause → Type 0
IsCause fetch holder cause.Silent = WasSilent fetch holder
IsCause fetch holder cause.Strayed = WasStrayed fetch holder
IsCause fetch holder (cause.Full entries bytes) = ⊥
IsCause fetch holder (cause.Crashed incarnation) =
    WasHeard fetch holder × HasCrashed fetch holder
    × (incarnation ≡ 1 + crashes holder.brick.0 fetch.before + crashes holder.brick.0 fetch.since)
IsCause fetch holder (cause.Swept moment) =
    WasHeard fetch holder × (crashes holder.brick.0 fetch.since ≡ 0) × WasSweptLate fetch holder
    × IsLate fetch.cookie moment × (moment ≡ last_swept fetch holder)

-- each brick has its cause, in the cookie's order
abbrev pub AreCauses : FetchMade → List Holder → List BrickCause → Type 0
AreCauses fetch [] [] = Unit {0}
AreCauses fetch (holder ∷ holders) (c ∷ causes) =
    (c.brick ≡ holder.brick) × IsCause fetch holder c.cause × AreCauses fetch holders causes
AreCauses fetch [] (c ∷ causes) = ⊥
AreCauses fetch (holder ∷ holders) [] = ⊥

-- A brick of the cookie can serve a fetch: it has not crashed since the value was written, was not swept past the lease
-- and the grace since, and was heard.
pub record CanServe (fetch : FetchMade) : Type 0 where
  pub place : ℕ
  pub holder : Holder
  pub there : slice_get fetch.cookie.bricks place ≡ Some holder
  pub uncrashed : crashes holder.brick.0 fetch.since ≡ 0
  pub kept : WasSweptLate fetch holder → ⊥
  pub heard : WasHeard fetch holder

-- the fetch found the value that was written, not past the expiry, and a brick of the cookie could serve it
pub record FindsValue (fetch : FetchMade) (text : List ℕ) : Type 0 where
  pub in_time : fetch.now.0 ≤ fetch.cookie.expiry.0
  pub serves : CanServe fetch
  pub text_is : text ≡ found_text fetch.key fetch.value

-- the cookie had expired
pub record HasExpired (fetch : FetchMade) (text : List ℕ) : Type 0 where
  pub past : fetch.cookie.expiry.0 < fetch.now.0
  pub text_is : text ≡ expired_text fetch.key fetch.now fetch.cookie.expiry

-- the value was lost, not past the expiry: each brick of the cookie has its cause
pub record IsLost (fetch : FetchMade) (text : List ℕ) : Type 0 where
  pub in_time : fetch.now.0 ≤ fetch.cookie.expiry.0
  pub causes : List BrickCause
  pub text_is : text ≡ lost_text fetch.key causes
  pub each : AreCauses fetch fetch.cookie.bricks causes

-- What a fetch writes of a value that was written under its key: the value; or that the cookie had expired; or that the
-- value was lost, and why at each brick of the cookie.
abbrev pub IsRight : FetchMade → List ℕ → Type 0
IsRight fetch text = FindsValue fetch text ⊎ (HasExpired fetch text ⊎ IsLost fetch text)

-- the lanes of the bricks, if there are some
abbrev pub lanes_of : Option LanesState → List LaneState
lanes_of None = []
lanes_of (Some st) = st.lanes

-- each holder is of a brick of these passes
abbrev pub AreAmong : List Holder → List Pass → Type 0
AreAmong holders passes =
    (place : ℕ) (holder : Holder) → slice_get holders place ≡ Some holder
    → (i : ℕ) × (slice_get (bricks_of_passes passes) i ≡ Some holder.brick)

-- A write line that was acknowledged: the key has a cookie whose version is the nonce that the write drew, which
-- expires a lease after the write, and names 1 to 16 distinct bricks, just as many as are to store a value, all of them
-- of the passes that are chosen from the nonce's serial on; each other key has the cookie that it had; and the line
-- wrote the version.
pub record IsAcknowledged (s : SessionsState) (key : ℕ) (t : SessionsState) (text : List ℕ) : Type 0 where
  pub cookie : Cookie
  pub cookie_is : cookie_of t key ≡ Some cookie
  pub version_is : cookie.version ≡ nonce s
  pub key_is : cookie.key ≡ session_key key
  pub expiry_is : cookie.expiry ≡ expiry s
  pub askable : may_be_asked (bricks_of cookie.bricks) ≡ true
  pub enough : (st : LanesState) → s.store ≡ Some st → length cookie.bricks ≡ st.windows.wq
  pub among : (st : LanesState) → s.store ≡ Some st → AreAmong cookie.bricks (chosen st.windows (nonce s).serial)
  pub others : (other : ℕ) → (other ≡ key → ⊥) → cookie_of t other ≡ cookie_of s other
  pub text_is : text ≡ version_text key cookie

-- fewer windows were open than bricks are to store a value, and a write line told which were full
pub record WasFull (s : SessionsState) (key : ℕ) (text : List ℕ) : Type 0 where
  pub store : LanesState
  pub store_is : s.store ≡ Some store
  pub few_open : open_count store.windows.facts < store.windows.wq
  pub text_is : text ≡ overload_text key (full_facts store.windows.facts)

-- Too few bricks stored a value, and a write line told why: its write, with the nonce that the line drew, at the bricks
-- of the passes that are chosen from the nonce's serial on, was missed in the world of the bricks with these causes.
pub record WasMissed (s : SessionsState) (key : ℕ) (value : List ℕ) (t : SessionsState) (text : List ℕ) : Type 0 where
  pub before : LanesState
  pub before_is : s.store ≡ Some before
  pub later : LanesState
  pub later_is : t.store ≡ Some later
  pub bricks : ℕ
  pub events : List WorldEvent
  pub made : later.world ≡ after (new_world bricks) events
  pub write : WriteState
  pub causes : List BrickCause
  pub missed : WasMissedInWorld bricks events (length before.world.calls) write causes
  pub order_is : missed.order ≡ record { nonce = nonce s; key = session_key key; value = value; expiry = expiry s; bricks = bricks_of_passes (chosen before.windows (nonce s).serial); least = before.windows.wq }
  pub text_is : text ≡ missed_text key causes

-- what a write line writes that is not acknowledged: that too few windows were open, or why too few bricks stored the
-- value
abbrev pub SaysWhy : SessionsState → ℕ → List ℕ → SessionsState → List ℕ → Type 0
SaysWhy s key value t text = WasFull s key text ⊎ WasMissed s key value t text

-- A write line that was done and not acknowledged: each key has the cookie that it had, none of which has the nonce
-- that the write drew as its version, and the line wrote why.
pub record IsUnacknowledged (s : SessionsState) (key : ℕ) (value : List ℕ) (t : SessionsState) (text : List ℕ) : Type 0 where
  pub same : (other : ℕ) → cookie_of t other ≡ cookie_of s other
  pub unlike : (other : ℕ) (cookie : Cookie) → cookie_of t other ≡ Some cookie → cookie.version ≡ nonce s → ⊥
  pub says : SaysWhy s key value t text

-- A cookie of a key comes from turns: one among them is a write line that was acknowledged with it.
pub record ComesFrom (s : SessionsState) (turns : List SessionTurn) (u : SessionsState) (key : ℕ) (cookie : Cookie) : Type 0 where
  pub value : List ℕ
  pub text : List ℕ
  pub before : List SessionTurn
  pub since : List SessionTurn
  pub turns_are : turns ≡ before ++ Does (lines.Write key value) text ∷ since
  pub at_write : SessionsState
  pub to_write : Lead s before at_write
  pub after_write : SessionsState
  pub writes : session_line at_write (lines.Write key value) ≡ Done after_write text
  pub acknowledged : IsAcknowledged at_write key after_write text
  pub cookie_is : acknowledged.cookie ≡ cookie
  pub from_write : Lead after_write since u

-- each boot that starts has a greater number than the one before it
abbrev pub BootsRise : ℕ → List SessionTurn → Type 0
BootsRise boot [] = Unit {0}
BootsRise boot (Does line text ∷ turns) = BootsRise boot turns
BootsRise boot (Boots number ∷ turns) = (boot < number) × BootsRise number turns
BootsRise boot (Lends steps serial ∷ turns) = BootsRise boot turns

-- A fetch of what was written, in a scenario of this setup and boot: the turns before a write line that was
-- acknowledged with a cookie; the turns since, after which this is still the cookie of the key; and a fetch line, which
-- wrote a text.
pub record FetchedWrite (setup : SetupState) (boot : ℕ) : Type 0 where
  pub key : ℕ
  pub value : List ℕ
  pub cookie : Cookie
  pub before : List SessionTurn
  pub at_write : SessionsState
  pub to_write : Lead (set_up setup boot) before at_write
  pub after_write : SessionsState
  pub written : List ℕ
  pub writes : session_line at_write (lines.Write key value) ≡ Done after_write written
  pub cookie_is : cookie_of after_write key ≡ Some cookie
  pub version_is : cookie.version ≡ nonce at_write
  pub since : List SessionTurn
  pub at_fetch : SessionsState
  pub to_fetch : Lead after_write since at_fetch
  pub still : cookie_of at_fetch key ≡ Some cookie
  pub after_fetch : SessionsState
  pub text : List ℕ
  pub fetches : session_line at_fetch (lines.Fetch key) ≡ Done after_fetch text

-- A fetch line of a key that was done after turns, and wrote a text, is of a write line among these turns.
pub record IsOfWrite (setup : SetupState) (boot : ℕ) (turns : List SessionTurn) (u : SessionsState) (key : ℕ) (text : List ℕ) : Type 0 where
  pub story : FetchedWrite setup boot
  pub key_is : story.key ≡ key
  pub turns_are : turns ≡ story.before ++ Does (lines.Write story.key story.value) story.written ∷ story.since
  pub at_fetch : story.at_fetch ≡ u
  pub text_is : story.text ≡ text

-- the fetch of what was written
abbrev pub fetch_of : {setup : SetupState} {boot : ℕ} → FetchedWrite setup boot → FetchMade
fetch_of story =
    record {
      key = story.key;
      value = story.value;
      cookie = story.cookie;
      before = story.before;
      written_at = story.at_write.moment;
      since = story.since;
      lanes = lanes_of story.at_fetch.store;
      now = story.at_fetch.moment;
    }

-- a brick of the cookie has crashed since the value was written, or was not heard by the fetch: it was silent or
-- strayed to it
abbrev pub HasCrashedOrWasUnheard : FetchMade → Holder → Type 0
HasCrashedOrWasUnheard fetch holder = HasCrashed fetch holder ⊎ (WasSilent fetch holder ⊎ WasStrayed fetch holder)

-- no brick of the cookie was swept past the lease and the grace since the value was written
abbrev pub NoneSweptLate : FetchMade → Type 0
NoneSweptLate fetch =
    (place : ℕ) (holder : Holder) → slice_get fetch.cookie.bricks place ≡ Some holder → WasSweptLate fetch holder → ⊥
