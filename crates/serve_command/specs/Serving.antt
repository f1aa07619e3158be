-- What a server did that was started, and what its operator was told.
use Rattle.std.specs.Prelude.{◌≡◌, ◌≢◌, ◌⊎◌, ◌≤◌, ℕ, List, []}
use Rattle.container_server.specs.Running.{KeeperSeen, RanOver, server_seen}
use Rattle.crash_base.specs.declared.fault_plans.FaultPlan.{FaultPlan}
use Rattle.outside.specs.Sink.{AppendsOrFails, appended}
use Rattle.service_log.specs.Ending.{status_of}
use Rattle.service_log.specs.Logging.{Log, log_of}
use Rattle.service_log.specs.declared.ending.ServiceEnd.{ServiceEnd}
use Rattle.serve_command.specs.Ending.{report_of}
use Rattle.serve_command.specs.Ending as start
use Rattle.serve_command.specs.LastLine.{LastLineValue, ending}
use Rattle.serve_command.specs.Opening.{TellsServing}
use Rattle.serve_command.specs.Words.{ServeValue}
use Rattle.serve_command.specs.declared.ending.StartFault.{StartFault}

-- A server ran over this keeper and left it so, through a gate that gives such fault plans, and ended with this status.
-- What it told was handed on, all but what the sink between kept; then came that, and before it a reason, if it is the
-- line of an end. The sink between counted no more faults than came of the one below.
pub record HasRun (gives : List FaultPlan → Type 0) (status : ℕ) (keeper left : KeeperSeen) (before after : Log) : Type 0 where
  pub end : ServiceEnd
  pub status_is : status ≡ status_of end
  pub sink : LastLineValue
  pub ran : RanOver gives end (server_seen keeper before) (server_seen left (log_of (appended sink.handed sink.kept) sink.faults))
  pub reason : List ℕ
  pub told : AppendsOrFails sink.handed after.written sink.faults after.faults (ending reason sink.kept)
  pub count : sink.faults ≤ after.faults

-- That no more connections come was told with a reason, if that is why a server ended.
abbrev pub TellsClosed : ℕ → Log → Log → Type 0
TellsClosed status before after =
    (reason : List ℕ) × AppendsOrFails before.written after.written before.faults after.faults reason
    × (before.faults ≤ after.faults) × (status ≢ 0 → after ≡ before)

-- A server ran so over this keeper and left it in some way, and then it was told that no more connections come, if so.
abbrev pub RanToEnd : (List FaultPlan → Type 0) → ℕ → KeeperSeen → Log → Log → Type 0
RanToEnd gives status keeper before after =
    (left : KeeperSeen) × (ended : Log) × HasRun gives status keeper left before ended × TellsClosed status ended after

-- A server was not started, for this fault, which was told; or what it serves was told, and it ran over this keeper,
-- with no fault plans.
abbrev pub HasServedShop : ServeValue → ℕ → KeeperSeen → Log → Log → Type 0
HasServedShop words status keeper before after =
    ((fault : StartFault) × (status ≡ start.status_of fault)
    × AppendsOrFails before.written after.written before.faults after.faults (report_of fault))
    ⊎ ((serving : Log) × TellsServing words before serving
    × RanToEnd (λ plans. plans ≡ []) status keeper serving after)
