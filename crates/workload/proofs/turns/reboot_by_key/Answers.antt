use Rattle.workload.proofs.Inside.{a_known, c_known}
use Rattle.workload.proofs.turns.reboot_by_key.Goals as goal

pub reboot_step-requires-clause-component : goal.reboot_step-requires-clause-component
reboot_step-requires-clause-component g c κs within = a_known c.args.container.now.boot.start.deployment c.requires.parts

pub reboot_step-requires-then-key-lt8-clause-component : goal.reboot_step-requires-then-key-lt8-clause-component
reboot_step-requires-then-key-lt8-clause-component g c κs within = c_known c.args.container.now.boot.start.deployment c.requires.parts
