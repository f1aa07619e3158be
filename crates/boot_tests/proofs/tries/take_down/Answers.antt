use Rattle.boot_tests.specs.Notes.{note}
use Rattle.boot_tests.proofs.tries.take_down.Goals as goal

pub returns : goal.returns
returns g c = c.ends_stay_true.ensures.serving c.args.container.now.boot c.begin_reboot.new.self.boot (note c.args.program.method) c.args.tries.now c.in-Ok.ensures.grown.boot c.requires
