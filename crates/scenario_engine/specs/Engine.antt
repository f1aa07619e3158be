-- What a line does to the state of a scenario, and what it asks of the keeper.
use Rattle.std.specs.Prelude.{◌≡◌, ℕ, Bool, true, false, List, [], ◌∷◌, ◌++◌, Option, Some, None}
use Rattle.boot_core.specs.Boot.{BootValue}
use Rattle.component_pool.specs.Plans.{left_by_process}
use Rattle.scenario_engine.specs.declared.failure.UnstartedCause.{UnstartedCause}
use Rattle.deployment.specs.Refusals.{deploy_refusal}
use Rattle.outside.specs.Keeper.{KeeperTold}
use Rattle.line_steps.specs.declared.head.Head.{Head}
use Rattle.scenario_text.specs.Answer.{Answer, Refused, Done, within}
use Rattle.line_steps.specs.Callers.{call_step}
use Rattle.line_steps.specs.Head.{no_head, head_line, IsOfSite}
use Rattle.line_steps.specs.Texts.{boot_text}
use Rattle.scenario_text.specs.declared.line.Line.{Line}
use Rattle.scenario_text.specs.declared.line.Line.TheVariants as lines
use Rattle.scenario_text.specs.Line.{is_event}
use Rattle.session_steps.specs.Sessions.{session_line}
use Rattle.session_steps.specs.Setup.{set_up}
use Rattle.scenario_engine.specs.declared.engine.Stage.{Stage}
use Rattle.scenario_engine.specs.declared.engine.Stage.TheVariants as stages
use Rattle.scenario_engine.specs.KeeperCalls.{KeeperCall, seen}
use Rattle.scenario_engine.specs.Opening.{StartReplies, Opening, Opened, UnstartedBoot, opening, start_calls}
use Rattle.scenario_engine.specs.Running.{started, reopened_over, with_called, with_sessions, commit_step, commit_calls, boot_line}
use Rattle.scenario_engine.specs.Seats.{in_boot, seat_over, seat_calls, next_calls_over}
use Rattle.scenario_engine.specs.State.{RunningState, EngineValue, State, Heading, Running, Outcome, RefusedIn, DoneTo, UnstartedIn}
use Rattle.seat_lines.specs.Site.{no_seats}

-- What the keeper replies while one line is done: to the start that the first event line makes, to the start that a
-- `reopen` makes, and whether it keeps what it is handed: by a commit, for which the first such reply counts, or by the
-- steps of a connection, one after the other. A line asks only for some of it.
pub record Replies : Type 0 where
  pub first : StartReplies
  pub again : StartReplies
  pub keeps : List Bool

-- the same replies, and one more to what the keeper is handed
abbrev pub with_reply : Replies → Bool → Replies
with_reply replies keeps = record replies { keeps = replies.keeps ++ keeps ∷ [] }

-- the first reply to what the keeper is handed; where it has none, it does not keep it
abbrev pub first_keeps : List Bool → Bool
first_keeps [] = false
first_keeps (keeps ∷ more) = keeps

-- what a stage of the engine holds, of whose keeper this is seen
abbrev pub value_of : {K : Type 0} → (K → Option KeeperTold) → (K → ℕ) → Stage K → EngineValue
value_of told faults (stages.Head head keeper) =
    record { state = Heading head; keeper = seen (told keeper) (faults keeper) }
value_of told faults (stages.Run r) = record { state = Running r.running; keeper = r.keeper }
value_of told faults stages.Away = record { state = Heading no_head; keeper = seen None 0 }

-- no line is being done, and the parts that head lines have declared are those of a deployment, and those of the site
-- where that is said
abbrev pub IsAccepted : {K : Type 0} → Stage K → Type 0
IsAccepted (stages.Head head keeper) = (deploy_refusal head.parts ≡ None) × IsOfSite head
IsAccepted (stages.Run r) = Unit {0}
IsAccepted stages.Away = ⊥

-- whether a state is that of a head
abbrev pub is_heading : State → Bool
is_heading (Heading head) = true
is_heading (Running r) = false

-- what a line is done to: the head, a boot, or nothing, since the boot that it needs was left unstarted
pub data Target : Type 0 where
  TheHead : (head : Head) → Target
  TheBoot : (running : RunningState) → Target
  TheUnstarted : (head : Head) (cause : UnstartedCause) → Target

-- what a line is done to in a state that does not change before it
abbrev pub target_in : State → Target
target_in (Heading head) = TheHead head
target_in (Running r) = TheBoot r

-- the boot over a head that opens so
abbrev pub opened_target : Head → Opening → Target
opened_target head (Opened start) = TheBoot (started (set_up head.setup 0) (no_seats head.parts) head.site start)
opened_target head (UnstartedBoot cause) = TheUnstarted head cause

-- what a line is done to that is an event line, or is none
abbrev pub target_of : State → Bool → StartReplies → Target
target_of (Running r) event replies = TheBoot r
target_of (Heading head) false replies = TheHead head
target_of (Heading head) true replies =
    opened_target head (opening head.parts head.plans head.limits replies)

-- the calls of the keeper until a line has what it is done to
abbrev pub target_calls : State → Bool → StartReplies → List KeeperCall
target_calls (Running r) event replies = []
target_calls (Heading head) false replies = []
target_calls (Heading head) true replies = start_calls replies

-- a line of the head, by its answer
abbrev pub in_head : Head → Answer Head → Outcome
in_head head Refused = RefusedIn (Heading head)
in_head head (Done next text) = DoneTo (Heading next) text

-- how the next boot of the same deployment and limits opens, with the fault plans that a reboot of the process leaves
abbrev pub next_opening : RunningState → StartReplies → Opening
next_opening r replies =
    opening r.boot.start.deployment (left_by_process r.boot.start.plans) r.boot.start.limits replies

-- the next boot, where it opens so; the callers and the connections of the boot before are gone, and the sessions stay
abbrev pub reopens : RunningState → Opening → Outcome
reopens r (Opened start) = DoneTo (Running (reopened_over r start)) (boot_text start.boot)
reopens r (UnstartedBoot cause) = UnstartedIn (Running r) cause

-- a line over a boot; a line of the head is refused there
abbrev pub line_over : RunningState → Line → Replies → Outcome
line_over r lines.Pass replies = DoneTo (Running r) []
line_over r (lines.Head line) replies = RefusedIn (Running r)
line_over r (lines.Call caller line) replies =
    in_boot r (within (with_called r) (call_step r.boot r.callers caller line))
line_over r (lines.Commit caller) replies = in_boot r (commit_step r caller (first_keeps replies.keeps))
line_over r (lines.Boot line) replies = in_boot r (boot_line r line)
line_over r lines.Reopen replies = reopens r (next_opening r replies.again)
line_over r (lines.Session line) replies =
    in_boot r (within (with_sessions r) (session_line r.sessions line))
line_over r (lines.Seat line) replies = seat_over r line replies.keeps

-- a line that is done to a target
abbrev pub line_on : Target → Line → Replies → Outcome
line_on (TheHead head) line replies = in_head head (head_line head line)
line_on (TheBoot r) line replies = line_over r line replies
line_on (TheUnstarted head cause) line replies = UnstartedIn (Heading head) cause

-- What a line answers, where the keeper replies so. The first event line starts the boot before it is itself judged.
unfoldable pub step : State → Line → Replies → Outcome
step s line replies = line_on (target_of s (is_event line) replies.first) line replies

-- the calls of the keeper that a line over a boot makes
abbrev pub calls_over : RunningState → Line → Replies → List KeeperCall
calls_over r lines.Pass replies = []
calls_over r (lines.Head line) replies = []
calls_over r (lines.Call caller line) replies = []
calls_over r (lines.Commit caller) replies = commit_calls r caller (first_keeps replies.keeps)
calls_over r (lines.Boot line) replies = []
calls_over r lines.Reopen replies = start_calls replies.again
calls_over r (lines.Session line) replies = []
calls_over r (lines.Seat line) replies = seat_calls r line replies.keeps

-- the calls of the keeper that a line makes which is done to a target
abbrev pub calls_on : Target → Line → Replies → List KeeperCall
calls_on (TheHead head) line replies = []
calls_on (TheBoot r) line replies = calls_over r line replies
calls_on (TheUnstarted head cause) line replies = []

-- The calls of the keeper that a line makes: those of a start, one for each commit with writes that the boot does not
-- refuse, and none else.
unfoldable pub line_calls : State → Line → Replies → List KeeperCall
line_calls s line replies =
    target_calls s (is_event line) replies.first
    ++ calls_on (target_of s (is_event line) replies.first) line replies

-- the boot that a start of the next one ends
abbrev pub ended_by : RunningState → Opening → List BootValue
ended_by r (Opened start) = r.boot ∷ []
ended_by r (UnstartedBoot cause) = []

-- the boot that a line over it ends
abbrev pub ends_over : RunningState → Line → Replies → List BootValue
ends_over r lines.Pass replies = []
ends_over r (lines.Head line) replies = []
ends_over r (lines.Call caller line) replies = []
ends_over r (lines.Commit caller) replies = []
ends_over r (lines.Boot line) replies = []
ends_over r lines.Reopen replies = ended_by r (next_opening r replies.again)
ends_over r (lines.Session line) replies = []
ends_over r (lines.Seat line) replies = []

-- the boot that a line ends which is done to a target
abbrev pub ends_on : Target → Line → Replies → List BootValue
ends_on (TheHead head) line replies = []
ends_on (TheBoot r) line replies = ends_over r line replies
ends_on (TheUnstarted head cause) line replies = []

-- The boot that a line ends: `reopen` ends one where the next one starts.
unfoldable pub ended_boots : State → Line → Replies → List BootValue
ended_boots s line replies = ends_on (target_of s (is_event line) replies.first) line replies

-- the calls of the keeper by the next step of a connection that a line makes in a state, where the keeper replies so
abbrev pub next_calls_in : RunningState → Line → Bool → List KeeperCall
next_calls_in r lines.Pass keeps = []
next_calls_in r (lines.Head line) keeps = []
next_calls_in r (lines.Call caller line) keeps = []
next_calls_in r (lines.Commit caller) keeps = []
next_calls_in r (lines.Boot line) keeps = []
next_calls_in r lines.Reopen keeps = []
next_calls_in r (lines.Session line) keeps = []
next_calls_in r (lines.Seat line) keeps = next_calls_over r line keeps

-- The calls of the keeper by the next step of a connection that a line makes in a state, where the keeper replies so.
unfoldable pub next_calls : State → Option Line → Bool → List KeeperCall
next_calls s None keeps = []
next_calls (Heading head) (Some line) keeps = []
next_calls (Running r) (Some line) keeps = next_calls_in r line keeps
