use Rattle.std.proofs.Common.{refl, sym, subst}
use Rattle.scenario_engine.specs.KeeperCalls.{seen}
use Rattle.drive_engine.specs.declared.ending.Ending.{Ending}
use Rattle.drive_engine.specs.declared.words.Command.TheVariants.{Workload}
use Rattle.drive_engine.specs.Command.{Runs}
use Rattle.drive_engine.specs.Exchange.{Exchange, exchange}
use Rattle.drive_engine.proofs.Working.{ends_without_summary}
use Rattle.drive_engine.proofs.work.work.Goals as goal

pub returns-in-Err-clause-runs : goal.returns-in-Err-clause-runs
returns-in-Err-clause-runs g c =
    λ left.
    let written = g.T.Sink.written c.args.out.now in
    let old = c.args.keeper in
    let new = c.run_workload-keeper.result.0 in
    let x : Exchange = exchange left left written written (seen (g.K.Keeper.told old) (g.K.Keeper.faults old)) (seen (g.K.Keeper.told new) (g.K.Keeper.faults new)) in
    let P : Ending → Type 0 = λ e. Runs (Workload c.args.number c.args.count) e x in
    let fails = rw c.in-Err.is at c.run_workload-keeper.ensures.answer in
    let ends = ends_without_summary c.args.number c.args.count c.in-Err.failure x (record { unread = refl; unwritten = refl }) c.run_workload-keeper.ensures.count fails in
    subst P (sym c.ending_of.ensures) ends
