-- A request that is being served: its tries that ended, and the attempt that is open.
use Rattle.std.specs.Prelude.{◌≡◌, ◌<◌, ◌≤◌, ℕ, List, [], ◌∷◌, ◌++◌, length, Option, Some, None, IfSome, option_map, unwrap_or}
use Rattle.std.specs.Option.{option_and_then}
use Rattle.crash_base.specs.declared.numbers.ComponentNo.{ComponentNo}
use Rattle.crash_base.specs.declared.numbers.RequestNo.{RequestNo}
use Rattle.crash_base.specs.declared.numbers.WorkerNo.{WorkerNo}
use Rattle.call_ticket.specs.declared.next.Answer.{Answer}
use Rattle.call_ticket.specs.declared.next.Next.{Next}
use Rattle.boot_core.specs.Boot.{BootValue}
use Rattle.call_attempts.specs.Attempt.{AttemptValue, IsUnderWay, attempt_begun, last_entered as attempt_entered, wanted}
use Rattle.request_tries.specs.Ends.{Errand}
use Rattle.request_tries.specs.Tries.{AreTries, first_begin, last_front}
use Rattle.request_tries.specs.declared.outcome.Try.{Try}
use Rattle.request_tries.specs.declared.outcome.TheConstants.{MAX_TRIES}

-- the number of the request, who serves it, the text of its action, its tries that ended, and the attempt that is open
pub record TriesValue : Type 0 where
  pub request : RequestNo
  pub worker : WorkerNo
  pub text : List ℕ
  pub tries : List Try
  pub attempt : Option AttemptValue

-- a request that was not begun
abbrev pub unbegun : RequestNo → WorkerNo → List ℕ → TriesValue
unbegun request worker text =
    record { request = request; worker = worker; text = text; tries = []; attempt = None }

-- what it asks of a container by a program
abbrev pub errand_of : TriesValue → (List Answer → Next) → Errand
errand_of s asks = record { request = s.request; text = s.text; asks = asks }

-- An open attempt is under way for the request, and began where the try before ended, or later.
pub record IsOpen (boot : BootValue) (asks : List Answer → Next) (s : TriesValue) (a : AttemptValue) : Type 0 where
  pub way : IsUnderWay boot asks a
  pub request : a.ticket.call.request ≡ s.request
  pub after : last_front 0 s.tries ≤ a.ticket.call.at.0

-- A request is being served in a boot: it had fewer tries than it may have, which stand in the journal, and the open
-- attempt is under way. So it is in each boot that has grown from this one.
pub record IsServing (boot : BootValue) (asks : List Answer → Next) (s : TriesValue) : Type 0 where
  pub few : length s.tries < MAX_TRIES
  pub tries : AreTries boot.start.deployment asks boot.entries 0 s.tries
  pub attempt : IfSome s.attempt (λ a. IsOpen boot asks s a)

-- the step that the open attempt asks for, if one is open
abbrev pub wanted_by : (List Answer → Next) → TriesValue → Option Next
wanted_by asks s = option_map (λ (a : AttemptValue). wanted asks a) s.attempt

-- the component that the last step of the open attempt entered, if one is open and its last step entered one
abbrev pub last_entered : TriesValue → Option ComponentNo
last_entered s = option_and_then (λ (a : AttemptValue). attempt_entered a) s.attempt

-- where its first try began, or else a place
abbrev pub begun_at : TriesValue → ℕ → ℕ
begun_at s at = first_begin s.tries (unwrap_or (option_map (λ (a : AttemptValue). a.ticket.call.at.0) s.attempt) at)

-- a request whose next attempt has begun
abbrev pub has_begun : BootValue → TriesValue → TriesValue
has_begun boot s =
    record s { attempt = Some (attempt_begun s.request s.worker (record { 0 = length boot.entries })) }

-- a request whose open attempt has ended
abbrev pub closed : TriesValue → TriesValue
closed s = record s { attempt = None }

-- a request that had one try more
abbrev pub with_try : TriesValue → Try → TriesValue
with_try s t = record s { tries = s.tries ++ t ∷ []; attempt = None }
