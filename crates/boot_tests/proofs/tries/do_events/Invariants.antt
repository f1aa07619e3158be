use Rattle.request_tries.specs.Serving.{IsServing}
use Rattle.boot_tests.specs.Notes.{note}
use Rattle.boot_tests.proofs.tries.do_events.Given as goal

abbrev pub invariant-loop-event : goal.invariant-loop-event
invariant-loop-event g l = IsServing l.container.boot (note l.fn.program.method) l.fn.tries
