use Rattle.boot_tests.specs.Notes.{note}
use Rattle.boot_tests.proofs.tries.reboot.Goals as goal

pub returns : goal.returns
returns g c =
    c.ends_stay_true.ensures.serving c.begin_reboot.new.self.boot c.end_reboot.new.self.boot (note c.args.program.method) c.args.tries.now c.end_reboot.ensures.grown.boot
    (c.ends_stay_true.ensures.serving c.args.container.now.boot c.begin_reboot.new.self.boot (note c.args.program.method) c.args.tries.now c.in-Ok.ensures.grown.boot c.requires)
