-- What is read, written and asked of the keeper until a scenario ends.
use Rattle.std.specs.Prelude.{◌≡◌, ◌≢◌, ℕ, ◌+◌, ◌<◌, ◌≤◌, ◌⊎◌, Bool, List, [], ◌∷◌, ◌++◌, length, Some, All}
use mathlib.Core.List.{IsPrefix}
use Rattle.outside.specs.Keeper.{KeeperTold}
use Rattle.outside.specs.Source.{prepended}
use Rattle.boot_core.specs.Sound.{IsSound}
use Rattle.scenario_engine.specs.declared.failure.UnstartedCause.{UnstartedCause}
use Rattle.scenario_engine.specs.declared.failure.UnstartedCause.TheVariants as causes
use Rattle.crash_base.specs.declared.row_id.RowId.{RowId}
use Rattle.scenario_text.specs.Cutting.{lines_of, text_of_lines, IsOneLine, IsCut}
use Rattle.scenario_text.specs.Reading.{line_of}
use Rattle.scenario_text.specs.declared.line.TheConstants.{MAX_LINE_BYTES}
use Rattle.scenario_engine.specs.Connections.{HasBrowsers}
use Rattle.scenario_engine.specs.Engine.{with_reply}
use Rattle.scenario_engine.specs.Hearing.{AllHeardSpelled, AllMade}
use Rattle.scenario_engine.specs.KeeperCalls.{KeeperSeen, TellsCalls, AreCounted, AreMade, AreSomeAsked}
use Rattle.scenario_engine.specs.Reports.{HasDecided}
use Rattle.scenario_engine.specs.Serving.{AllServed}
use Rattle.scenario_engine.specs.Sessions.{HasSessions}
use Rattle.scenario_engine.specs.Sound.{CommitsUnrebooted, RunsSerially, CommitsOwnRequests, CommitsAsMeant}
use Rattle.scenario_engine.specs.State.{State, RefusedIn, DoneTo, UnstartedIn, UnderWayIn}
use Rattle.scenario_engine.specs.Telling.{DoesPartly, HoldsRowsButNumber}
use Rattle.scenario_engine.specs.Told.{Tells}
use Rattle.scenario_engine.specs.Transcript.{Turn, lines_in, first, Ended, end_from, turn_outcome, transcript, calls_from, boots_from}
use Rattle.drive_engine.specs.declared.drive.TheConstants.{MAX_SCENARIO_BYTES}
use Rattle.drive_engine.specs.Exchange.{Exchange, IsRead, IsWritten}

-- These lines were read, each with its line feed and all within the limit, and then maybe more.
pub record AreReadWithFeeds (x : Exchange) (lines : List (List ℕ)) : Type 0 where
  pub rest : List ℕ
  pub taken : x.left_before ≡ prepended (text_of_lines lines ++ rest) x.left_after
  pub plain : All IsOneLine lines
  pub within : length (text_of_lines lines) ≤ MAX_SCENARIO_BYTES

-- The input was read to its end, and these are its lines.
pub record AreReadToEnd (x : Exchange) (lines : List (List ℕ)) : Type 0 where
  pub text : List ℕ
  pub read : IsRead MAX_SCENARIO_BYTES x text
  pub cut : lines ≡ lines_of text

-- These lines were read to their ends: each with its line feed, or up to the end of the input.
abbrev pub AreRead : Exchange → List (List ℕ) → Type 0
AreRead x lines = AreReadWithFeeds x lines ⊎ AreReadToEnd x lines

-- These turns were done, in order, which leaves this state, and what they write was written.
pub record HasDone (x : Exchange) (turns : List Turn) (state : State) : Type 0 where
  pub done : end_from first 1 turns ≡ Ended state
  pub written : IsWritten x (transcript first turns)

-- Turns were done over a keeper: it was called as they say and not more, and what connections heard in them is spelled
-- by its bytes. It may be so also where memory ran out in the last step of a connection, to which the keeper had
-- replied.
pub record WereAsked (turns : List Turn) (old new : KeeperSeen) : Type 0 where
  pub made : AreMade (calls_from first turns) old new
  pub spelled : AllHeardSpelled first turns

-- Turns were done over a keeper, and each step of a connection was made by its calls, to its end.
pub record WereAskedWhole (turns : List Turn) (old new : KeeperSeen) : Type 0 where
  pub done : WereAsked turns old new
  pub steps : AllMade first turns

-- What turns did stands: the keeper was called as they say and holds the rows that they leave; its count of faults rose
-- where it failed at a call, as that of a commit which was told `keeper failed`, also where it does not tell; each boot
-- is sound; no commit comes after a reboot of a group that its call entered; each journal is a serial execution of its
-- calls; each commit is of a request of its own boot; each commit of an action wrote and answered what the site means
-- by the action; each fetch answers what was written, or says why it does not; what connections heard in each turn is
-- spelled by its bytes; and, over a keeper that tells, what browsers read of their sessions was written.
pub record TurnsStand (turns : List Turn) (old new : KeeperSeen) : Type 0 where
  pub calls : TellsCalls (calls_from first turns) old.told new.told
  pub told : Tells turns old.told new.told
  pub faults : AreCounted (calls_from first turns) old.faults new.faults
  pub sound : All IsSound (boots_from first turns)
  pub unrebooted : All CommitsUnrebooted (boots_from first turns)
  pub serial : All RunsSerially (boots_from first turns)
  pub own : All CommitsOwnRequests (boots_from first turns)
  pub meant : All CommitsAsMeant (boots_from first turns)
  pub sessions : HasSessions turns
  pub spelled : AllHeardSpelled first turns
  pub browsers : (t u : KeeperTold) → old.told ≡ Some t → new.told ≡ Some u → HasBrowsers turns

-- What the turns of a scenario did stands, each step of them whole; each connection of a browser served its requests:
-- each of its items stands; and on each report of a request that failed it was decided from scratch by all reports so
-- far, over all boots. A turn that ended the scenario is the last of them, since it may have called the keeper, too.
pub record ScenarioStands (turns : List Turn) (old new : KeeperSeen) : Type 0 where
  pub did : TurnsStand turns old new
  pub served : AllServed turns
  pub decided : HasDecided turns

-- A scenario was read and came to its end, and its transcript was written.
pub record WritesTranscript (x : Exchange) : Type 0 where
  pub text : List ℕ
  pub read : IsRead MAX_SCENARIO_BYTES x text
  pub turns : List Turn
  pub lines : lines_in turns ≡ lines_of text
  pub state : State
  pub done : HasDone x turns state
  pub stands : ScenarioStands turns x.keeper_before x.keeper_after

-- The line of this number was read to its end and was refused, after the lines before it were done.
pub record StopsAtLine (n : ℕ) (x : Exchange) : Type 0 where
  pub before : List Turn
  pub turn : Turn
  pub state : State
  pub after : State
  pub read : AreRead x (lines_in before ++ turn.line ∷ [])
  pub number : n ≡ length before + 1
  pub done : HasDone x before state
  pub short : length turn.line ≤ MAX_LINE_BYTES
  pub refused : turn_outcome state turn ≡ RefusedIn after
  pub stands : ScenarioStands (before ++ turn ∷ []) x.keeper_before x.keeper_after

-- A line was read to its end and needs a boot that was left unstarted for this cause, after the lines before it
-- were done.
pub record StopsUnstarted (cause : UnstartedCause) (x : Exchange) : Type 0 where
  pub before : List Turn
  pub turn : Turn
  pub state : State
  pub after : State
  pub read : AreRead x (lines_in before ++ turn.line ∷ [])
  pub done : HasDone x before state
  pub short : length turn.line ≤ MAX_LINE_BYTES
  pub unstarted : turn_outcome state turn ≡ UnstartedIn after cause
  pub stands : ScenarioStands (before ++ turn ∷ []) x.keeper_before x.keeper_after

-- More bytes than a line may have were read of the line of this number, after the lines before it were done.
pub record StopsAtLongLine (n : ℕ) (x : Exchange) : Type 0 where
  pub before : List Turn
  pub line : List ℕ
  pub rest : List ℕ
  pub state : State
  pub taken : x.left_before
      ≡ prepended (text_of_lines (lines_in before) ++ (line ++ rest)) x.left_after
  pub plain : All IsOneLine (lines_in before)
  pub one : IsOneLine line
  pub within : length (text_of_lines (lines_in before) ++ line) ≤ MAX_SCENARIO_BYTES
  pub number : n ≡ length before + 1
  pub done : HasDone x before state
  pub long : MAX_LINE_BYTES < length line
  pub stands : ScenarioStands before x.keeper_before x.keeper_after

-- A read failed, after the lines that had ended by then were done.
pub record StopsAtFailedRead (x : Exchange) : Type 0 where
  pub text : List ℕ
  pub turns : List Turn
  pub part : List ℕ
  pub state : State
  pub taken : x.left_before ≡ prepended text x.left_after
  pub cut : IsCut text (lines_in turns) part
  pub within : length text ≤ MAX_SCENARIO_BYTES
  pub short : length part ≤ MAX_LINE_BYTES
  pub done : HasDone x turns state
  pub stands : ScenarioStands turns x.keeper_before x.keeper_after

-- A line was read to its end and done, and a prefix of what it writes was written, after the lines before it were done.
pub record StopsAtFailedWrite (x : Exchange) : Type 0 where
  pub before : List Turn
  pub turn : Turn
  pub state : State
  pub after : State
  pub wrote : List ℕ
  pub prefix : List ℕ
  pub read : AreRead x (lines_in before ++ turn.line ∷ [])
  pub done : end_from first 1 before ≡ Ended state
  pub short : length turn.line ≤ MAX_LINE_BYTES
  pub answer : turn_outcome state turn ≡ DoneTo after wrote
  pub begins : IsPrefix prefix wrote
  pub written : IsWritten x (transcript first before ++ prefix)
  pub stands : ScenarioStands (before ++ turn ∷ []) x.keeper_before x.keeper_after

-- A line was read to its end after these lines, and memory ran out while it was done: the first of its calls of the
-- keeper were made. No commit was kept: of the keeper's rows, where it tells, at most that of the boot's number is
-- another.
pub record RunsOutAtLine (x : Exchange) (lines : List (List ℕ)) (state : State) (between : KeeperSeen) : Type 0 where
  pub line : List ℕ
  pub read : AreRead x (lines ++ line ∷ [])
  pub short : length line ≤ MAX_LINE_BYTES
  pub partly : DoesPartly state (line_of line) between x.keeper_after
  pub rows : HoldsRowsButNumber between.told x.keeper_after.told

-- the same turn, where the keeper replied so to one step more
abbrev pub one_more : Turn → Bool → Turn
one_more turn keeps = record turn { replies = with_reply turn.replies keeps }

-- What these turns did stands with one step more of the last, to which the keeper replied.
pub record StandsOneMore (x : Exchange) (before : List Turn) (turn : Turn) : Type 0 where
  pub keeps : Bool
  pub stands : TurnsStand (before ++ one_more turn keeps ∷ []) x.keeper_before x.keeper_after

-- A line was read to its end after these turns, and memory ran out in a step of a connection that it made. What the
-- turns and the whole steps before that one did stands. Of that step the keeper was asked nothing, or had no memory
-- itself; or it replied, so that it may have kept a commit, and what was done up to then stands, too.
pub record BreaksOffAtLine (x : Exchange) (before : List Turn) (state : State) : Type 0 where
  pub turn : Turn
  pub mid : State
  pub between : KeeperSeen
  pub read : AreRead x (lines_in before ++ turn.line ∷ [])
  pub short : length turn.line ≤ MAX_LINE_BYTES
  pub under_way : turn_outcome state turn ≡ UnderWayIn mid
  pub stands : ScenarioStands (before ++ turn ∷ []) x.keeper_before between
  pub last : AreSomeAsked [] between x.keeper_after ⊎ StandsOneMore x before turn

-- The keeper was not called after these turns, which left it so; or memory ran out while the next line was done.
abbrev pub EndsPartly : Exchange → List Turn → State → KeeperSeen → Type 0
EndsPartly x before state between =
    (x.keeper_after ≡ between) ⊎ (RunsOutAtLine x (lines_in before) state between ⊎ BreaksOffAtLine x before state)

-- Memory ran out after these lines were read and done. The keeper was called for these lines alone, or for a part of
-- the next one, too: for no commit of it, but for those of whole steps of a connection, and of the step that broke off.
pub record StopsOutOfMemory (x : Exchange) : Type 0 where
  pub before : List Turn
  pub state : State
  pub between : KeeperSeen
  pub read : AreReadWithFeeds x (lines_in before)
  pub done : HasDone x before state
  pub stands : ScenarioStands before x.keeper_before between
  pub last : EndsPartly x before state between

-- There is no memory for the numbers of a report: that of a line which was refused or is too long, or those of a bad
-- row.
abbrev pub HasNoReport : Exchange → Type 0
HasNoReport x =
    ((n : ℕ) × StopsAtLine n x)
    ⊎ (((n : ℕ) × StopsAtLongLine n x)
    ⊎ ((id : RowId) × StopsUnstarted (causes.BadRow id) x))

-- More bytes were read than a scenario may have, after the lines that end within its limit were done.
pub record StopsPastLimit (x : Exchange) : Type 0 where
  pub text : List ℕ
  pub more : List ℕ
  pub turns : List Turn
  pub part : List ℕ
  pub state : State
  pub taken : x.left_before ≡ prepended (text ++ more) x.left_after
  pub past : more ≢ []
  pub whole : length text ≡ MAX_SCENARIO_BYTES
  pub cut : IsCut text (lines_in turns) part
  pub short : length part ≤ MAX_LINE_BYTES
  pub done : HasDone x turns state
  pub stands : ScenarioStands turns x.keeper_before x.keeper_after
