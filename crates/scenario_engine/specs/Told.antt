-- What a scenario leaves of its keeper, over all its boots.
use Rattle.std.specs.Prelude.{◌≡◌, ◌+◌, ◌<◌, List, [], ◌∷◌, Option, None, IfSome}
use Rattle.crash_base.specs.declared.rows.RowWrite.{RowWrite}
use Rattle.journal_model.specs.Rows.{rows_after}
use Rattle.outside.specs.Keeper.{KeeperTold}
use Rattle.component_pool.specs.Plans.{left_by_process}
use Rattle.boot_core.specs.declared.boot.Start.{Start}
use Rattle.boot_core.specs.Boot.{BootValue}
use Rattle.container_core.specs.Container.{HoldsRows}
use Rattle.container_core.specs.Start.{first_bad, last_boot, greatest_boot, start_over}
use Rattle.scenario_engine.specs.State.{State, Heading, Running}
use Rattle.scenario_engine.specs.Transcript.{Turn, first, end_from, last_state, boots_from}

-- The keeper holds the rows that it held first, where it tells.
abbrev pub HoldsSameRows : Option KeeperTold → Option KeeperTold → Type 0
HoldsSameRows old new = IfSome old (λ o. IfSome new (λ n. n.rows ≡ o.rows))

-- The keeper holds the rows that the journal of the boot leaves, or those that it held first where no boot is started.
abbrev pub HoldsStateRows : Option KeeperTold → Option KeeperTold → State → Type 0
HoldsStateRows old new (Heading head) = HoldsSameRows old new
HoldsStateRows old new (Running r) = HoldsRows new r.boot

-- A boot is started over these rows: they are good, a number is left, and the boot takes the one after the last that
-- they have, which stands over them.
pub record IsOver (rows : List RowWrite) (start : Start) : Type 0 where
  pub over : start ≡ start_over start.deployment start.plans start.limits rows
  pub good : first_bad rows ≡ None
  pub unspent : last_boot rows < greatest_boot

-- A start is that of the next boot: over the rows that this one leaves, of the same deployment and limits, with the
-- fault plans that a reboot of the process leaves, and the next number.
pub record Follows (b : BootValue) (start : Start) : Type 0 where
  pub over : IsOver (rows_after b.start.base b.entries) start
  pub deployment : start.deployment ≡ b.start.deployment
  pub plans : start.plans ≡ left_by_process b.start.plans
  pub limits : start.limits ≡ b.start.limits
  pub number : start.boot ≡ b.start.boot + 1

-- The first boot is started so, and each other one follows the one before.
abbrev pub AreChained : (Start → Type 0) → List BootValue → Type 0
AreChained StartsSo [] = Unit {0}
AreChained StartsSo (b ∷ bs) = StartsSo b.start × AreChained (Follows b) bs

-- The boots are chained, the first over the rows that the keeper told first, where it still tells.
abbrev pub IsChained : Option KeeperTold → Option KeeperTold → List BootValue → Type 0
IsChained old new boots = IfSome old (λ o. IfSome new (λ n. AreChained (IsOver o.rows) boots))

-- Turns leave this of a keeper that was called as they say and not more: it holds just the rows of the commits that
-- were answered, and each boot follows the one before.
pub record Tells (turns : List Turn) (old new : Option KeeperTold) : Type 0 where
  pub rows : HoldsStateRows old new (last_state (end_from first 1 turns))
  pub chained : IsChained old new (boots_from first turns)
