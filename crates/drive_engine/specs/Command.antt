-- What a command reads, writes and asks of its keeper until it ends, and which status words, text and keeper call for.
use Rattle.std.specs.Prelude.{◌≡◌, ℕ, ◌<◌, ◌≤◌, nat_lt, ◌⊎◌, if◌then◌else◌, Bool, true, false, List, [], ◌∷◌, length, take, Option, Some, None}
use Rattle.scenario_engine.specs.declared.failure.UnstartedCause.{UnstartedCause}
use Rattle.scenario_engine.specs.declared.failure.UnstartedCause.TheVariants as causes
use Rattle.crash_base.specs.declared.row_id.RowId.{RowId}
use Rattle.deployment.specs.declared.parts.Parts.{Parts}
use Rattle.outside.specs.Keeper.{KeeperTold}
use Rattle.scenario_text.specs.Cutting.{lines_of, IsCut}
use Rattle.scenario_text.specs.declared.line.TheConstants.{MAX_LINE_BYTES}
use Rattle.scenario_engine.specs.KeeperCalls.{TellsCalls}
use Rattle.scenario_engine.specs.Opening.{StartReplies, Opening, Opened, UnstartedBoot}
use Rattle.scenario_engine.specs.Transcript.{Turn, lines_in, End, Ended, RefusedAt, TooLong, Unstarted, UnderWay, first, end_from, calls_from}
use Rattle.drive_engine.specs.declared.drive.TheConstants.{MAX_SCENARIO_BYTES}
use Rattle.drive_engine.specs.declared.groups.TheConstants.{MAX_DESCRIPTOR_BYTES}
use Rattle.drive_engine.specs.declared.ending.Ending.{Ending}
use Rattle.drive_engine.specs.declared.ending.Ending.TheVariants.{Done, UnknownCommand, LineRefused, ReadFailed, WriteFailed, KeeperFailed, BadRow, LineTooLong, OutOfMemory, DescriptorsRefused, BootsSpent, ScenarioTooLong}
use Rattle.drive_engine.specs.declared.words.Command.{Command}
use Rattle.drive_engine.specs.declared.words.Command.TheVariants.{Drive, Groups, Workload}
use Rattle.drive_engine.specs.Drive.{WritesTranscript, StopsAtLine, StopsUnstarted, StopsAtLongLine, StopsAtFailedRead, StopsAtFailedWrite, StopsOutOfMemory, HasNoReport, StopsPastLimit}
use Rattle.drive_engine.specs.Exchange.{Exchange, WritesNothing}
use Rattle.drive_engine.specs.Groups.{WritesGroups, WritesGroupsPrefix, RefusesDescriptors, HasTooManyBytes, IsDeployment, IsRefused}
use Rattle.drive_engine.specs.Work.{WritesSummary, WritesSummaryPrefix, WorksUnstarted, WorksOutOfMemory, work_opening, TellsWork}

-- The input was read to its end, or for a workload nothing of it, and all was written that the command writes.
abbrev pub WritesAll : Command → Exchange → Type 0
WritesAll Drive x = WritesTranscript x
WritesAll Groups x = WritesGroups x
WritesAll (Workload number count) x = WritesSummary number count x

-- A read failed: a scenario was done as far as its lines had ended; for descriptors nothing was written. A workload
-- reads nothing.
abbrev pub FailsToRead : Command → Exchange → Type 0
FailsToRead Drive x = StopsAtFailedRead x
FailsToRead Groups x = WritesNothing x
FailsToRead (Workload number count) x = ⊥

-- A write failed: a scenario was done up to a line, and of what this line writes, of the lines of groups, or of the
-- summary of a workload, a prefix was written.
abbrev pub FailsToWrite : Command → Exchange → Type 0
FailsToWrite Drive x = StopsAtFailedWrite x
FailsToWrite Groups x = WritesGroupsPrefix x
FailsToWrite (Workload number count) x = WritesSummaryPrefix number count x

-- A boot was left unstarted for this cause: that which a line of a scenario needs, or that of a workload. Descriptors
-- have none.
abbrev pub LeavesUnstarted : Command → UnstartedCause → Exchange → Type 0
LeavesUnstarted Drive cause x = StopsUnstarted cause x
LeavesUnstarted Groups cause x = ⊥
LeavesUnstarted (Workload number count) cause x = WorksUnstarted cause x

-- The line of this number is too long, or a descriptor text is, which counts as its first line.
abbrev pub HasLongLine : Command → ℕ → Exchange → Type 0
HasLongLine Drive n x = StopsAtLongLine n x
HasLongLine Groups n x = (n ≡ 1) × HasTooManyBytes x
HasLongLine (Workload number count) n x = ⊥

-- Memory ran out: a scenario was done up to a line; for descriptors and for a workload nothing was written, and of the
-- turns of a workload some were taken, or none.
abbrev pub RunsOutOfMemory : Command → Exchange → Type 0
RunsOutOfMemory Drive x = StopsOutOfMemory x
RunsOutOfMemory Groups x = WritesNothing x
RunsOutOfMemory (Workload number count) x = WorksOutOfMemory number count x

-- Memory ran out, while a command ran or for its report.
abbrev pub EndsOutOfMemory : Command → Exchange → Type 0
EndsOutOfMemory Drive x = StopsOutOfMemory x ⊎ HasNoReport x
EndsOutOfMemory Groups x = WritesNothing x
EndsOutOfMemory (Workload number count) x =
    WorksOutOfMemory number count x ⊎ ((id : RowId) × WorksUnstarted (causes.BadRow id) x)

-- Whether a command asks its keeper, if words spell one: a scenario and a workload do.
abbrev pub asks_keeper : Option Command → Bool
asks_keeper None = false
asks_keeper (Some Drive) = true
asks_keeper (Some Groups) = false
asks_keeper (Some (Workload number count)) = true

-- What a command that ends so has read, written and asked of its keeper.
abbrev pub Runs : Command → Ending → Exchange → Type 0
Runs command Done x = WritesAll command x
Runs command UnknownCommand x = ⊥
Runs command (LineRefused n) x = (command ≡ Drive) × StopsAtLine n x
Runs command ReadFailed x = FailsToRead command x
Runs command WriteFailed x = FailsToWrite command x
Runs command KeeperFailed x = LeavesUnstarted command causes.KeeperFailed x
Runs command (BadRow id) x = LeavesUnstarted command (causes.BadRow id) x
Runs command (LineTooLong n) x = HasLongLine command n x
Runs command OutOfMemory x = RunsOutOfMemory command x
Runs command DescriptorsRefused x = (command ≡ Groups) × RefusesDescriptors x
Runs command BootsSpent x = LeavesUnstarted command causes.BootsSpent x
Runs command ScenarioTooLong x = (command ≡ Drive) × StopsPastLimit x

-- The words spell no command, or their command ends so.
abbrev pub Ends : Option Command → Ending → Exchange → Type 0
Ends None ending x = ending ≡ UnknownCommand
Ends (Some command) ending x = Runs command ending x

-- the status that a boot calls for that was left unstarted
abbrev pub status_of_unstarted : UnstartedCause → ℕ
status_of_unstarted causes.KeeperFailed = 6
status_of_unstarted (causes.BadRow id) = 7
status_of_unstarted causes.BootsSpent = 11

-- the status that the end of a scenario calls for; none, where a line is under way
abbrev pub status_of_end : End → Option ℕ
status_of_end (Ended state) = Some 0
status_of_end (RefusedAt state n) = Some 3
status_of_end (TooLong state n) = Some 8
status_of_end (Unstarted state cause) = Some (status_of_unstarted cause)
status_of_end (UnderWay state n) = None

-- the status of a scenario that goes on past the limit, by the end of its lines within it and the bytes of the next
-- line; none, where a line is under way
abbrev pub status_past_limit : End → ℕ → Option ℕ
status_past_limit (Ended state) bytes = if nat_lt MAX_LINE_BYTES bytes then Some 8 else Some 12
status_past_limit (RefusedAt state n) bytes = Some 3
status_past_limit (TooLong state n) bytes = Some 8
status_past_limit (Unstarted state cause) bytes = Some (status_of_unstarted cause)
status_past_limit (UnderWay state n) bytes = None

-- A scenario has no more bytes than one may have; these are its lines with what the keeper replies, which call for this
-- status.
pub record CallsWithinLimit (text : List ℕ) (turns : List Turn) (status : ℕ) : Type 0 where
  pub short : length text ≤ MAX_SCENARIO_BYTES
  pub lines : lines_in turns ≡ lines_of text
  pub called : Some status ≡ status_of_end (end_from first 1 turns)

-- A scenario has more bytes than one may have; these are its lines that end within the limit with what the keeper
-- replies, which call for this status.
pub record CallsPastLimit (text : List ℕ) (turns : List Turn) (status : ℕ) : Type 0 where
  pub long : MAX_SCENARIO_BYTES < length text
  pub part : List ℕ
  pub cut : IsCut (take MAX_SCENARIO_BYTES text) (lines_in turns) part
  pub called : Some status ≡ status_past_limit (end_from first 1 turns) (length part)

-- the status that a descriptor text calls for, which describes a deployment or is refused
abbrev pub DescriptorsCallFor : List ℕ → ℕ → Type 0
DescriptorsCallFor text status =
    ((status ≡ 8) × (MAX_DESCRIPTOR_BYTES < length text))
    ⊎ (((status ≡ 0)
    × ((length text ≤ MAX_DESCRIPTOR_BYTES) × ((parts : Parts) × IsDeployment text parts)))
    ⊎ ((status ≡ 10) × ((length text ≤ MAX_DESCRIPTOR_BYTES) × IsRefused text)))

-- the status that the boot of a workload calls for, by how it opens
abbrev pub status_of_opening : Opening → ℕ
status_of_opening (Opened start) = 0
status_of_opening (UnstartedBoot cause) = status_of_unstarted cause

-- the keeper fails at a start to which no turn has replies
abbrev pub no_start : StartReplies
no_start = record { rows = None; keeps = false }

-- what the keeper replies to a start in the first of these turns
abbrev pub start_replies : List Turn → StartReplies
start_replies [] = no_start
start_replies (turn ∷ turns) = turn.replies.first

-- what the keeper replies in the first of these turns to what it is handed
abbrev pub kept_replies : List Turn → List Bool
kept_replies [] = []
kept_replies (turn ∷ turns) = turn.replies.keeps

-- The status that a text calls for where the keeper replies as these turns say, neither input nor output fails, and
-- memory does not run out. A descriptor text has no turns. A workload reads no text, and has the turn of one empty
-- line, in which the keeper replies to the start of its boot, and to the commits of its turns.
abbrev pub CallsFor : Command → List ℕ → List Turn → ℕ → Type 0
CallsFor Drive text turns status =
    CallsWithinLimit text turns status ⊎ CallsPastLimit text turns status
CallsFor Groups text turns status = (turns ≡ []) × DescriptorsCallFor text status
CallsFor (Workload number count) text turns status =
    (lines_in turns ≡ [] ∷ []) × (status ≡ status_of_opening (work_opening (start_replies turns)))

-- What the keeper tells before and after these turns of a command.
abbrev pub TellsReplies : Command → List Turn → Option KeeperTold → Option KeeperTold → Type 0
TellsReplies Drive turns old new = TellsCalls (calls_from first turns) old new
TellsReplies Groups turns old new = TellsCalls (calls_from first turns) old new
TellsReplies (Workload number count) turns old new =
    TellsWork number count (start_replies turns) (kept_replies turns) old new

-- A text calls for this status by what a keeper replies that tells this before and after.
pub record IsCalledFor (command : Command) (text : List ℕ) (old new : Option KeeperTold) (status : ℕ) : Type 0 where
  pub turns : List Turn
  pub calls : CallsFor command text turns status
  pub told : TellsReplies command turns old new
