use Rattle.std.proofs.Common.{◌≡◌, ◌∙◌, rules}
use Rattle.component_pool.specs.Pool.{active_now}
use Rattle.component_pool.proofs.Standing.{active_stands}
use Rattle.component_pool.proofs.pool.Pool.active.Goals as goal

pub returns-clause-stands : goal.returns-clause-stands
returns-clause-stands c = λ parts given enterings reboots stands.
    let value : c.first_active-found.result ≡ active_now c.args.self.now c.args.c.0 = search rules in
    value ∙ active_stands c.args.self.now c.args.c.0 c.requires parts given enterings reboots stands
