use Rattle.std.proofs.Common.{◌≡◌, ◌<◌, ◌≤◌, length, arith, is_some, false}
use Rattle.crash_base.specs.declared.scope.TheConstants.{MAX_GROUPS}
use Rattle.deployment.specs.declared.parts.TablePart.{TablePart}
use Rattle.deployment.specs.Parts.{owner_of}
use Rattle.deployment.proofs.Soundness.{sound_from_none}
use Rattle.line_steps.proofs.Heading.{table_accepted}
use Rattle.line_steps.proofs.Numbering.{table_of-positive}
use Rattle.line_steps.proofs.head.owns_step.Goals as goal

pub overflow_cast-owner : goal.overflow_cast-owner
overflow_cast-owner c =
    let few : length c.args.parts.now.components ≤ MAX_GROUPS = (sound_from_none c.args.parts.now c.requires).few in
    omega (arith, c.in-Some.ensures.within)

pub returns-clause-accepted : goal.returns-clause-accepted
returns-clause-accepted c =
    let table = c.in-Some-table_of.table in
    let t : TablePart = record { table = table; owner = record { 0 = c.in-Some.c } } in
    let own : 0 < table = table_of-positive c.args.number table c.in-Some-table_of.ensures in
    let new : is_some (owner_of c.args.parts.now.tables table) ≡ false = cc (c.owner_of.ensures) in
    table_accepted c.args.parts.now t c.push.new.self c.requires own new c.in-Some.ensures.within c.in_ok-push.ensures.ok
