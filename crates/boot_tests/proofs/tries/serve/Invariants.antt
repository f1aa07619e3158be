use Rattle.request_tries.specs.Serving.{IsServing}
use Rattle.boot_tests.specs.Notes.{note}
use Rattle.boot_tests.proofs.tries.serve.Given as goal

abbrev pub invariant-loop-before : goal.invariant-loop-before
invariant-loop-before g l = IsServing l.container.boot (note l.fn.program.method) l.tries
