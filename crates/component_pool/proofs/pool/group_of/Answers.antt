use Rattle.std.proofs.Common.{◌≤◌, length, sym, ap, arith}
use Rattle.deployment.specs.declared.parts.Parts.{Parts}
use Rattle.component_pool.proofs.Standing.{unlinked}
use Rattle.component_pool.proofs.pool.group_of.Goals as goal

pub returns-else-number-len : goal.returns-else-number-len
returns-else-number-len c =
    let parts = c.args.deployment.now in
    let past : length parts.components ≤ c.args.number = omega (arith, c.if-number-len.false, c.len.ensures, ap (λ (p : Parts). length p.components) c.parts.ensures.value) in
    sym (c.components_are_alone.ensures.number parts c.args.number (unlinked parts c.args.number c.parts.ensures.sound past))
