use Rattle.std.proofs.Common.{◌≡◌, ◌<◌, ◌+◌, ◌-◌, ◌^◌, true, false, cond, ap, ◌∙◌, rules}
use Rattle.outside.specs.declared.keeper.KeeperFault.TheVariants.{Failed}
use Rattle.outside.specs.Faults.{counted}
use Rattle.outside.specs.Memory.{fails}
use Rattle.outside.specs.MapKeeper.{MapKeeperState, call_fails, after_load, after_refusal}
use Rattle.outside.proofs.FailedCalls.{counted_failure, counted_success}
use Rattle.outside.proofs.map_keeper.MapKeeper.count_call.Goals as goal

abbrev after_count : MapKeeperState → MapKeeperState
after_count keeper = cond (call_fails keeper) (after_refusal Failed keeper) (after_load keeper)

pub returns-then-fails-clause-after : goal.returns-then-fails-clause-after
returns-then-fails-clause-after c =
    let k = c.self.inside in
    let few : k.calls < 2 ^ 64 - 1 = search rules in
    let listed : fails k.failing (k.calls + 1) ≡ true = search rules in
    let faults : c.saturating_add-self-inside.result ≡ counted k.faults = search rules in
    rw faults (counted_failure k.rows k.failing k.calls k.faults few listed ∙ ap after_count c.self.view_is)

pub returns-else-fails-clause-after : goal.returns-else-fails-clause-after
returns-else-fails-clause-after c =
    let k = c.self.inside in
    let few : k.calls < 2 ^ 64 - 1 = search rules in
    let unlisted : fails k.failing (k.calls + 1) ≡ false = search rules in
    counted_success k.rows k.failing k.calls k.faults few unlisted ∙ ap after_count c.self.view_is
