use Rattle.std.proofs.Common.{◌≡◌, ap, sym, subst, arith}
use Rattle.scenario_engine.specs.KeeperCalls.{KeeperSeen, seen}
use Rattle.drive_engine.specs.declared.ending.Ending.TheVariants.{OutOfMemory}
use Rattle.drive_engine.specs.declared.words.Command.TheVariants.{Drive}
use Rattle.drive_engine.specs.Command.{Runs}
use Rattle.drive_engine.specs.Exchange.{exchange}
use Rattle.drive_engine.proofs.Coming.{stops_at_first}
use Rattle.drive_engine.proofs.drive.drive.Goals as goal

pub returns-in-Err-clause-runs : goal.returns-in-Err-clause-runs
returns-in-Err-clause-runs g c =
    let left = g.S.Source.left c.args.input.now in
    let written = g.T.Sink.written c.args.out.now in
    let before : KeeperSeen = seen (g.K.Keeper.told c.args.keeper) (g.K.Keeper.faults c.args.keeper) in
    let after : KeeperSeen = seen (g.K.Keeper.told c.in-Err.keeper) (g.K.Keeper.faults c.in-Err.keeper) in
    let same : after ≡ before = ap (λ k. seen (g.K.Keeper.told k) (g.K.Keeper.faults k)) c.in-Err.ensures.made in
    let P : KeeperSeen → Type 0 = λ k. Runs Drive OutOfMemory (exchange left left written written before k) in
    subst P (sym same) (stops_at_first left written before c.scenarios_stand.ensures)

pub returns-in-Ok-clause-runs : goal.returns-in-Ok-clause-runs
returns-in-Ok-clause-runs g c =
    let left = g.S.Source.left in
    let written = g.T.Sink.written in
    let after : KeeperSeen = seen (g.K.Keeper.told c.into_keeper.result) (g.K.Keeper.faults c.into_keeper.result) in
    let P : KeeperSeen → Type 0 = λ k. Runs Drive c.play_on-ending.result (exchange (left c.args.input.now) (left c.play_on-ending.new.input) (written c.args.out.now) (written c.play_on-ending.new.out) k after) in
    let Q : KeeperSeen → Type 0 = λ k. Runs Drive c.play_on-ending.result (exchange (left c.args.input.now) (left c.play_on-ending.new.input) (written c.args.out.now) (written c.play_on-ending.new.out) c.in-Ok.play.keeper k) in
    subst P c.in-Ok.ensures.keeper (subst Q (sym c.into_keeper.ensures) c.play_on-ending.ensures.runs)

pub returns-in-Ok-clause-keeper_count : goal.returns-in-Ok-clause-keeper_count
returns-in-Ok-clause-keeper_count g c =
    let old = ap (λ (k : KeeperSeen). k.faults) c.in-Ok.ensures.keeper in
    let new = ap (λ (k : KeeperSeen). k.faults) c.into_keeper.ensures in
    omega (arith, old, new, c.play_on-ending.ensures.keeper_count)
