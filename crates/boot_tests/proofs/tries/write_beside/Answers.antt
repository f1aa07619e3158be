use Rattle.std.proofs.Common.{refl}
use Rattle.boot_tests.specs.Notes.{note}
use Rattle.boot_tests.proofs.tries.write_beside.Goals as goal

pub loop-turn-init : goal.loop-turn-init
loop-turn-init g c = (c.begin-other.ensures c.args.container.now.boot (note 0), c.requires)

pub returns-in-Done : goal.returns-in-Done
returns-in-Done g c =
    c.ends_stay_true.ensures.serving c.step.new.container.boot c.commit_beside.new.container.boot (note c.args.program.method) c.args.tries.now c.commit_beside.ensures
    (c.ends_stay_true.ensures.serving c.loop-turn.container.boot c.step.new.container.boot (note c.args.program.method) c.args.tries.now c.in-Done.ensures.grown c.loop-turn.invariant.1)

pub loop-turn-preserved : goal.loop-turn-preserved
loop-turn-preserved g c = (
  c.in-Went.ensures.serving refl,
  c.ends_stay_true.ensures.serving c.loop-turn.container.boot c.step.new.container.boot (note c.args.program.method) c.args.tries.now c.in-Went.ensures.grown c.loop-turn.invariant.1,
)
