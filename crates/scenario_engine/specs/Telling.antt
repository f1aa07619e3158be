-- What a line answers and asks of the keeper: that there are replies of the keeper by which it is so. Where memory runs
-- out, what a line has asked of the keeper by then.
use Rattle.std.specs.Prelude.{◌≡◌, ◌⊎◌, ℕ, All, Bool, false, List, [], ◌∷◌, ◌++◌, map, Option, Some, IfSome, string_bytes}
use Rattle.boot_core.specs.declared.refusals.StartRefusal.{StartRefusal}
use Rattle.boot_core.specs.declared.refusals.StartRefusal.TheVariants as refusals
use Rattle.container_core.specs.Start.{boot_row}
use Rattle.crash_base.specs.Rows.{put_all}
use Rattle.crash_base.specs.declared.fault_plans.FaultPlan.{FaultPlan}
use Rattle.deployment.specs.declared.parts.Parts.{Parts}
use Rattle.journal_model.specs.declared.limits.JournalLimits.{JournalLimits}
use Rattle.outside.specs.Keeper.{KeeperTold}
use Rattle.scenario_text.specs.Answer.{Answer}
use Rattle.scenario_text.specs.declared.answer.LineAnswer.{LineAnswer}
use Rattle.scenario_text.specs.declared.answer.LineAnswer.TheVariants as answers
use Rattle.line_steps.specs.declared.head.Head.{Head}
use Rattle.scenario_text.specs.declared.line.Line.{Line}
use Rattle.scenario_text.specs.declared.seat_line.SeatLine.{SeatLine}
use Rattle.scenario_engine.specs.declared.failure.UnstartedCause.TheVariants as causes
use Rattle.scenario_engine.specs.declared.failure.LineFailure.{LineFailure}
use Rattle.scenario_engine.specs.declared.failure.LineFailure.TheVariants as failures
use Rattle.seat_lines.specs.Making.{StepHearsSpelled, StepMade, WasMade}
use Rattle.scenario_engine.specs.Connections.{makes_on, makes_to, seat_makes}
use Rattle.scenario_engine.specs.Engine.{Replies, Target, TheUnstarted, target_of, target_calls, line_on, calls_on, next_calls, with_reply}
use Rattle.scenario_engine.specs.KeeperCalls.{KeeperSeen, AreMade, AreSomeMade, AreSomeAsked}
use Rattle.scenario_engine.specs.Opening.{StartReplies, Opening, UnstartedBoot, opening, start_calls}
use Rattle.scenario_engine.specs.Running.{commit_step, commit_calls}
use Rattle.scenario_engine.specs.Seats.{in_boot, seat_over, seat_calls, next_calls_over}
use Rattle.scenario_engine.specs.State.{RunningState, State, Running, Outcome, RefusedIn, DoneTo, UnstartedIn, UnderWayIn}
use Rattle.scenario_engine.specs.Transcript.{answer_to, calls_to}

-- A boot opened so.
pub record Opens (parts : Parts) (plans : List FaultPlan) (limits : JournalLimits) (how : Opening) (old new : KeeperSeen) : Type 0 where
  pub replies : StartReplies
  pub opens : how ≡ opening parts plans limits replies
  pub made : AreMade (start_calls replies) old new

-- Memory ran out while a boot was opened.
pub record OpensPartly (old new : KeeperSeen) : Type 0 where
  pub replies : StartReplies
  pub made : AreSomeMade (start_calls replies) old new

-- A boot was not opened: it was left unstarted, or memory ran out.
abbrev pub FailsToOpen : LineFailure → Parts → List FaultPlan → JournalLimits
    → KeeperSeen → KeeperSeen → Type 0
FailsToOpen (failures.Unstarted cause) parts plans limits old new =
    Opens parts plans limits (UnstartedBoot cause) old new
FailsToOpen failures.OutOfMemory parts plans limits old new = OpensPartly old new

-- The call of a caller committed, or was refused, with this answer.
pub record Commits (r : RunningState) (caller : ℕ) (answer : Answer RunningState) (old new : KeeperSeen) : Type 0 where
  pub keeps : Bool
  pub answers : answer ≡ commit_step r caller keeps
  pub made : AreMade (commit_calls r caller keeps) old new

-- Memory ran out before the commit of a caller was answered: the keeper has not kept its writes.
abbrev pub CommitsPartly : RunningState → ℕ → KeeperSeen → KeeperSeen → Type 0
CommitsPartly r caller old new = AreSomeMade (commit_calls r caller false) old new

-- What these steps heard is spelled by its bytes, and they were made by their calls.
pub record WereMade (steps : List StepMade) : Type 0 where
  pub spelled : All StepHearsSpelled steps
  pub made : All WasMade steps

-- A line about connections came to this answer, where what its steps heard is spelled, and they were made by their
-- calls.
pub record AnswersSeat (r : RunningState) (line : SeatLine) (answer : Answer RunningState) (old new : KeeperSeen) : Type 0 where
  pub keeps : List Bool
  pub answers : in_boot r answer ≡ seat_over r line keeps
  pub made : AreMade (seat_calls r line keeps) old new
  pub steps : WereMade (seat_makes r line keeps)

-- Memory ran out in a step of a connection that a line makes over a boot: the whole steps before it led to this boot;
-- then the first calls of the keeper by that step were made. What the whole steps heard is spelled; and what that step
-- heard, too, but where the keeper was asked nothing by it, or had no memory.
pub record BreaksSeat (r : RunningState) (line : SeatLine) (old new : KeeperSeen) : Type 0 where
  pub keeps : List Bool
  pub mid : RunningState
  pub comes : seat_over r line keeps ≡ UnderWayIn (Running mid)
  pub between : KeeperSeen
  pub whole : AreMade (seat_calls r line keeps) old between
  pub next : Bool
  pub last : AreSomeAsked (next_calls_over mid line next) between new
  pub steps : WereMade (seat_makes r line keeps)
  pub last_heard : AreSomeAsked [] between new ⊎ All StepHearsSpelled (seat_makes r line (keeps ++ next ∷ []))

-- Memory ran out in a line about connections over a boot: the keeper was handed nothing, or in a step.
abbrev pub EndsSeat : RunningState → SeatLine → KeeperSeen → KeeperSeen → Type 0
EndsSeat r line old new = AreMade [] old new ⊎ BreaksSeat r line old new

-- A line, which is an event line or not, has this to be done to.
pub record Reaches (s : State) (event : Bool) (target : Target) (old new : KeeperSeen) : Type 0 where
  pub replies : StartReplies
  pub is : target ≡ target_of s event replies
  pub made : AreMade (target_calls s event replies) old new

-- Memory ran out before a line had what it is done to.
pub record ReachesPartly (s : State) (event : Bool) (old new : KeeperSeen) : Type 0 where
  pub replies : StartReplies
  pub made : AreSomeMade (target_calls s event replies) old new

-- A line has no boot to be done to: it was left unstarted, or memory ran out.
abbrev pub FailsToReach : LineFailure → State → Bool
    → KeeperSeen → KeeperSeen → Type 0
FailsToReach (failures.Unstarted cause) s event old new =
    (head : Head) × Reaches s event (TheUnstarted head cause) old new
FailsToReach failures.OutOfMemory s event old new = ReachesPartly s event old new

-- A line was done to a target, with this outcome, by steps of connections that were made by their calls.
pub record DoesOn (target : Target) (line : Line) (outcome : Outcome) (old new : KeeperSeen) : Type 0 where
  pub replies : Replies
  pub answers : outcome ≡ line_on target line replies
  pub made : AreMade (calls_on target line replies) old new
  pub steps : WereMade (makes_on target line replies)

-- A line was done to a target, which leaves this state: it was refused, or writes what the code answers.
abbrev pub AnswersOn : LineAnswer → State → Target → Line
    → KeeperSeen → KeeperSeen → Type 0
AnswersOn answers.Refused after target line old new = DoesOn target line (RefusedIn after) old new
AnswersOn answers.Done after target line old new = DoesOn target line (DoneTo after []) old new
AnswersOn (answers.Wrote text) after target line old new =
    DoesOn target line (DoneTo after (string_bytes text)) old new

-- Memory ran out while a line was done to a target: the keeper has not kept the writes of a commit, and a step of a
-- connection has handed nothing to it.
pub record DoesPartlyOn (target : Target) (line : Line) (old new : KeeperSeen) : Type 0 where
  pub replies : Replies
  pub unkept : replies.keeps ≡ []
  pub made : AreSomeMade (calls_on target line replies) old new

-- Memory ran out in a step of a connection, which a line made that was done to a target: the whole steps before it led
-- to this state; then the first calls of the keeper by that step were made. What they heard is spelled, as above.
pub record BreaksOffOn (target : Target) (line : Line) (old new : KeeperSeen) : Type 0 where
  pub replies : Replies
  pub mid : State
  pub comes : line_on target line replies ≡ UnderWayIn mid
  pub between : KeeperSeen
  pub whole : AreMade (calls_on target line replies) old between
  pub next : Bool
  pub last : AreSomeAsked (next_calls mid (Some line) next) between new
  pub steps : WereMade (makes_on target line replies)
  pub last_heard : AreSomeAsked [] between new ⊎ All StepHearsSpelled (makes_on target line (with_reply replies next))

-- why a line was not done, whose boot was refused so
abbrev pub failure_of : StartRefusal → LineFailure
failure_of refusals.KeeperFailed = failures.Unstarted causes.KeeperFailed
failure_of (refusals.BadRow id) = failures.Unstarted (causes.BadRow id)
failure_of refusals.BootsSpent = failures.Unstarted causes.BootsSpent
failure_of refusals.OutOfMemory = failures.OutOfMemory

-- A line was not done to a target: the boot that it needs was left unstarted, or memory ran out.
abbrev pub EndsOn : LineFailure → Target → Line → KeeperSeen → KeeperSeen → Type 0
EndsOn (failures.Unstarted cause) target line old new =
    (state : State) × DoesOn target line (UnstartedIn state cause) old new
EndsOn failures.OutOfMemory target line old new = DoesPartlyOn target line old new ⊎ BreaksOffOn target line old new

-- A text that spells this line, or none, was done, with this outcome, by steps of connections that were made by their
-- calls.
pub record Does (s : State) (line : Option Line) (outcome : Outcome) (old new : KeeperSeen) : Type 0 where
  pub replies : Replies
  pub answers : outcome ≡ answer_to s line replies
  pub made : AreMade (calls_to s line replies) old new
  pub steps : WereMade (makes_to s line replies)

-- A text that spells this line, or none, was done, which leaves this state: it was refused, or writes what the code
-- answers.
abbrev pub Answers : LineAnswer → State → State → Option Line
    → KeeperSeen → KeeperSeen → Type 0
Answers answers.Refused after s line old new = Does s line (RefusedIn after) old new
Answers answers.Done after s line old new = Does s line (DoneTo after []) old new
Answers (answers.Wrote text) after s line old new =
    Does s line (DoneTo after (string_bytes text)) old new

-- Memory ran out while a text was done that spells this line, or none: the first of its calls of the keeper were made.
-- The keeper has not kept the writes of a commit, and a step of a connection has handed nothing to it.
pub record DoesPartly (s : State) (line : Option Line) (old new : KeeperSeen) : Type 0 where
  pub replies : Replies
  pub unkept : replies.keeps ≡ []
  pub made : AreSomeMade (calls_to s line replies) old new

-- Memory ran out in a step of a connection, which a text made that spells this line: the whole steps before it led to
-- this state, by calls of the keeper as they say; then the first calls of the keeper by that step were made, which may
-- have been kept. What the whole steps heard is spelled; and what that step heard, too, but where the keeper was asked
-- nothing by it, or had no memory.
pub record BreaksOff (s : State) (line : Option Line) (old new : KeeperSeen) : Type 0 where
  pub replies : Replies
  pub mid : State
  pub comes : answer_to s line replies ≡ UnderWayIn mid
  pub between : KeeperSeen
  pub whole : AreMade (calls_to s line replies) old between
  pub next : Bool
  pub last : AreSomeAsked (next_calls mid line next) between new
  pub steps : WereMade (makes_to s line replies)
  pub last_heard : AreSomeAsked [] between new ⊎ All StepHearsSpelled (makes_to s line (with_reply replies next))

-- Of the rows that the keeper held, where it tells, at most that of the boot's number is another.
abbrev pub HoldsRowsButNumber : Option KeeperTold → Option KeeperTold → Type 0
HoldsRowsButNumber old new =
    IfSome old (λ o. IfSome new (λ n.
    (numbers : List ℕ) × (n.rows ≡ put_all (map boot_row numbers) o.rows)))

-- A text that spells this line, or none, was not done: the boot that it needs was left unstarted, or memory ran out.
abbrev pub Ends : LineFailure → State → Option Line → KeeperSeen → KeeperSeen → Type 0
Ends (failures.Unstarted cause) s line old new =
    (state : State) × Does s line (UnstartedIn state cause) old new
Ends failures.OutOfMemory s line old new = DoesPartly s line old new ⊎ BreaksOff s line old new
