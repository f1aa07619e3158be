use Rattle.boot_tests.specs.Notes.{note}
use Rattle.boot_tests.proofs.tries.serve.Goals as goal

pub loop-before-init : goal.loop-before-init
loop-before-init g c = c.begin-tries.ensures c.args.container.now.boot (note c.args.program.method)
