use Rattle.std.proofs.Common.{None, subst}
use Rattle.scenario_engine.specs.KeeperCalls.{KeeperSeen, seen}
use Rattle.drive_engine.specs.declared.ending.Ending.{Ending}
use Rattle.drive_engine.specs.declared.words.Command.TheVariants.{Groups, Workload}
use Rattle.drive_engine.specs.Command.{Runs}
use Rattle.drive_engine.specs.Exchange.{exchange}
use Rattle.drive_engine.proofs.command.run.Goals as goal

-- groups need no boot, and a workload reads nothing

pub returns-in-Groups-clause-keeper_failed : goal.returns-in-Groups-clause-keeper_failed
returns-in-Groups-clause-keeper_failed g c =
    let left = g.S.Source.left in
    let written = g.T.Sink.written in
    let keeper : KeeperSeen = seen (g.K.Keeper.told c.args.keeper) (g.K.Keeper.faults c.args.keeper) in
    let P : Ending → Type 0 = λ e. Runs Groups e (exchange (left c.args.input.now) (left c.groups.new.input) (written c.args.out.now) (written c.groups.new.out) keeper keeper) in
    λ is. absurd (subst P is (c.groups.ensures.runs keeper))

pub returns-in-Workload-clause-read_failed : goal.returns-in-Workload-clause-read_failed
returns-in-Workload-clause-read_failed g c =
    let written = g.T.Sink.written in
    let old : KeeperSeen = seen (g.K.Keeper.told c.args.keeper) (g.K.Keeper.faults c.args.keeper) in
    let new : KeeperSeen = seen (g.K.Keeper.told c.work.result.1) (g.K.Keeper.faults c.work.result.1) in
    let P : Ending → Type 0 = λ e. Runs (Workload c.in-Workload.number c.in-Workload.count) e (exchange None None (written c.args.out.now) (written c.work.new.out) old new) in
    λ is. absurd (subst P is (c.work.ensures.runs None))
