-- Sessions whose bricks and serials are lent to connections: what is left of them, what connections do with what is
-- lent, and how it is put back.
use Rattle.std.specs.Prelude.{◌≡◌, ◌≢◌, ℕ, ◌<◌, ◌≤◌, All, List, [], ◌∷◌, Option, slice_get}
use Rattle.std.specs.Option.{option_map}
use Rattle.crash_base.specs.declared.numbers.Moment.{Moment}
use Rattle.crash_base.specs.declared.numbers.SessionKey.{SessionKey}
use Rattle.crash_base.specs.declared.numbers.Version.{Version}
use Rattle.session_cookie.specs.declared.cookie.Cookie.{Cookie}
use Rattle.send_windows.specs.Calls.{WindowCall, after_call}
use Rattle.send_windows.specs.declared.pass.Pass.{Pass}
use Rattle.session_lanes.specs.Lanes.{LanesState, begun_read, begun_write, silent_once, turn_of}
use Rattle.session_steps.specs.Sessions.{SessionsState}

-- Sessions whose bricks and serials are lent: the present moment, the number of the boot, the key of the service, and
-- the cookie of each session key, by its number, if it has one.
pub record LentSessionsState : Type 0 where
  pub moment : Moment
  pub boot : ℕ
  pub key : List ℕ
  pub cookies : List (Option Cookie)

-- sessions without their bricks and serials
abbrev pub lent_out : SessionsState → LentSessionsState
lent_out s = record { moment = s.moment; boot = s.boot; key = s.key; cookies = s.cookies }

-- sessions to which these bricks are put back, if there are some, and the serial that is drawn next
abbrev pub put_back : LentSessionsState → Option LanesState → ℕ → SessionsState
put_back lent store serial =
    record {
      moment = lent.moment;
      boot = lent.boot;
      serial = serial;
      key = lent.key;
      cookies = lent.cookies;
      store = store;
    }

-- What a connection does with bricks that are lent to it: a read or a write begins, with its nonce; a call takes a
-- turn; a call of the windows is made; or the brick of a number is silent to it, where no call wanted to speak to it.
pub data LentStep : Type 0 where
  BeginsRead : (nonce : Version) (now : Moment) (cookie : Cookie) → LentStep
  BeginsWrite : (nonce : Version) (key : SessionKey) (value : List ℕ) (expiry : Moment) (passes : List Pass) → LentStep
  TakesTurn : (call : ℕ) → LentStep
  CallsWindows : (call : WindowCall) → LentStep
  HearsNone : (brick : ℕ) → LentStep

-- bricks after such a step
abbrev pub after_lent_step : LanesState → LentStep → LanesState
after_lent_step st (BeginsRead nonce now cookie) = begun_read st nonce now cookie
after_lent_step st (BeginsWrite nonce key value expiry passes) = begun_write st nonce key value expiry passes
after_lent_step st (TakesTurn call) = turn_of st call (slice_get st.world.calls call)
after_lent_step st (CallsWindows call) = record st { windows = after_call st.windows call }
after_lent_step st (HearsNone brick) = silent_once st brick

-- bricks after such steps, the first first
abbrev pub after_lent : LanesState → List LentStep → LanesState
after_lent st [] = st
after_lent st (step ∷ steps) = after_lent (after_lent_step st step) steps

-- a nonce was drawn in a boot whose next serial is this
abbrev pub WasDrawn : ℕ → ℕ → Version → Type 0
WasDrawn boot serial nonce = (nonce.boot ≡ boot) × (nonce.serial < serial)

-- this is so of the nonce with which a step begins a read or a write, if it begins one
abbrev pub BeginsSo : (Version → Type 0) → LentStep → Type 0
BeginsSo So (BeginsRead nonce now cookie) = So nonce
BeginsSo So (BeginsWrite nonce key value expiry passes) = So nonce
BeginsSo So (TakesTurn call) = Unit {0}
BeginsSo So (CallsWindows call) = Unit {0}
BeginsSo So (HearsNone brick) = Unit {0}

-- a step is no turn of the call of a number
abbrev pub IsNoTurnOf : ℕ → LentStep → Type 0
IsNoTurnOf number (BeginsRead nonce now cookie) = Unit {0}
IsNoTurnOf number (BeginsWrite nonce key value expiry passes) = Unit {0}
IsNoTurnOf number (TakesTurn call) = call ≢ number
IsNoTurnOf number (CallsWindows call) = Unit {0}
IsNoTurnOf number (HearsNone brick) = Unit {0}

-- Sessions lent their bricks and serials, and had them put back: serials up to this one were drawn, these steps were
-- done with the bricks, if there are some, and each call that began has a nonce that was drawn. All else stays.
pub record GoesLent (s : SessionsState) (steps : List LentStep) (serial : ℕ) (t : SessionsState) : Type 0 where
  pub state_is : t ≡ put_back (lent_out s) (option_map (λ (st : LanesState). after_lent st steps) s.store) serial
  pub serials : s.serial ≤ serial
  pub nonces : All (BeginsSo (WasDrawn s.boot serial)) steps
