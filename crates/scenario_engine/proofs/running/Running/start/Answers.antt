use Rattle.scenario_engine.specs.KeeperCalls.{seen}
use Rattle.scenario_engine.proofs.Starting.{unopened_at_once}
use Rattle.scenario_engine.proofs.running.Running.start.Goals as goal

pub returns-in_default-clause-opens : goal.returns-in_default-clause-opens
returns-in_default-clause-opens g c = unopened_at_once (seen (g.K.Keeper.told c.args.keeper) (g.K.Keeper.faults c.args.keeper))

pub returns-in_default-router_for-clause-opens : goal.returns-in_default-router_for-clause-opens
returns-in_default-router_for-clause-opens g c = unopened_at_once (seen (g.K.Keeper.told c.args.keeper) (g.K.Keeper.faults c.args.keeper))
