use Rattle.std.proofs.Common.{List}
use Rattle.ssm_stub.specs.declared.event.StubEvent.{StubEvent}
use Rattle.ssm_stub.specs.Runs.{Ran}
use Rattle.ssm_stub.specs.Reads.{read_machine}
use Rattle.ssm_stub.proofs.Weights.{weight}
use Rattle.ssm_stub.proofs.exchange.read_out.Given as goal

abbrev pub invariant-steps : goal.invariant-steps
invariant-steps g l =
    (events : List StubEvent) × Ran read_machine g.L.Link.makes l.ask l.fn.call l.fn.link events l.call l.link

abbrev pub decreases-steps : goal.decreases-steps
decreases-steps g l = weight l.call.asks
