use Rattle.std.specs.Prelude.{◌≡◌}
use Rattle.request_tries.specs.Serving.{IsServing}
use Rattle.boot_tests.specs.Notes.{note}
use Rattle.boot_tests.proofs.tries.write_beside.Given as goal

abbrev pub invariant-loop-turn : goal.invariant-loop-turn
invariant-loop-turn g l =
    IsServing l.container.boot (note 0) l.other × IsServing l.container.boot (note l.fn.program.method) l.fn.tries
