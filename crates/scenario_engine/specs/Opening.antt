-- How a boot of a scenario opens over the rows of its keeper, by what the keeper replies.
use Rattle.std.specs.Prelude.{◌+◌, nat_le, Bool, if◌then◌else◌, List, [], ◌∷◌, Option, Some, None}
use Rattle.crash_base.specs.declared.fault_plans.FaultPlan.{FaultPlan}
use Rattle.crash_base.specs.declared.row_id.RowId.{RowId}
use Rattle.crash_base.specs.declared.rows.RowWrite.{RowWrite}
use Rattle.deployment.specs.declared.parts.Parts.{Parts}
use Rattle.journal_model.specs.declared.limits.JournalLimits.{JournalLimits}
use Rattle.boot_core.specs.declared.boot.Start.{Start}
use Rattle.container_core.specs.Start.{first_bad, last_boot, greatest_boot, boot_row, start_over}
use Rattle.scenario_engine.specs.declared.failure.UnstartedCause.{UnstartedCause}
use Rattle.scenario_engine.specs.declared.failure.UnstartedCause.TheVariants as causes
use Rattle.scenario_engine.specs.KeeperCalls.{KeeperCall, Gave, Failed, apply_calls}

-- What the keeper replies to a start: the rows that it gives, unless it fails, and whether it keeps the number of the
-- boot.
pub record StartReplies : Type 0 where
  pub rows : Option (List RowWrite)
  pub keeps : Bool

-- a boot opens so, or is left unstarted for this cause
pub data Opening : Type 0 where
  Opened : (start : Start) → Opening
  UnstartedBoot : (cause : UnstartedCause) → Opening

-- whether the last boot of these rows leaves no number for a next one
abbrev pub is_spent : List RowWrite → Bool
is_spent rows = nat_le greatest_boot (last_boot rows)

-- over rows of which this is the id of the first bad one: it takes the number after that of the last boot
abbrev pub opening_over : Parts → List FaultPlan → JournalLimits → List RowWrite → Bool → Option RowId → Opening
opening_over parts plans limits rows keeps (Some id) = UnstartedBoot (causes.BadRow id)
opening_over parts plans limits rows keeps None =
    if is_spent rows then UnstartedBoot causes.BootsSpent else (
    if keeps then Opened (start_over parts plans limits rows) else UnstartedBoot causes.KeeperFailed)

-- over the rows that the keeper gives, if it does
abbrev pub opening_of : Parts → List FaultPlan → JournalLimits → Option (List RowWrite) → Bool → Opening
opening_of parts plans limits None keeps = UnstartedBoot causes.KeeperFailed
opening_of parts plans limits (Some rows) keeps = opening_over parts plans limits rows keeps (first_bad rows)

-- How a boot of these parts, fault plans and limits opens, where the keeper replies so.
abbrev pub opening : Parts → List FaultPlan → JournalLimits → StartReplies → Opening
opening parts plans limits replies = opening_of parts plans limits replies.rows replies.keeps

-- the calls after rows were given, of which this is the id of the first bad one
abbrev pub calls_over_rows : List RowWrite → Bool → Option RowId → List KeeperCall
calls_over_rows rows keeps (Some id) = []
calls_over_rows rows keeps None =
    if is_spent rows then [] else apply_calls (boot_row (last_boot rows + 1) ∷ []) keeps

-- the calls of a start that is given rows, if it is
abbrev pub start_calls_of : Option (List RowWrite) → Bool → List KeeperCall
start_calls_of None keeps = Failed ∷ []
start_calls_of (Some rows) keeps = Gave rows ∷ calls_over_rows rows keeps (first_bad rows)

-- The calls that a start makes: one `load`, and one `apply` where the rows are good and a number is left.
abbrev pub start_calls : StartReplies → List KeeperCall
start_calls replies = start_calls_of replies.rows replies.keeps
