use Rattle.recovery_manager.proofs.Blaming.{groups_more}
use Rattle.recovery_manager.proofs.paths.groups_of.Goals as goal

pub loop-c-preserved : goal.loop-c-preserved
loop-c-preserved c = groups_more c.args.deployment.now c.loop-c.c c.loop-c.groups.items c.push.new.self.items c.group_of.result c.loop-c.invariant c.group_of.ensures.number c.in_ok-push.ensures.items
