use Rattle.std.proofs.Common.{List}
use Rattle.ssm_stub.specs.declared.event.StubEvent.{StubEvent}
use Rattle.ssm_stub.specs.Runs.{Ran}
use Rattle.ssm_stub.specs.Writes.{write_until}
use Rattle.ssm_stub.proofs.Weights.{weight}
use Rattle.ssm_stub.proofs.exchange.write_out.Given as goal

abbrev pub invariant-steps : goal.invariant-steps
invariant-steps g l =
    (events : List StubEvent) × Ran write_until g.L.Link.makes l.ask l.fn.call l.fn.link events l.call l.link

abbrev pub decreases-steps : goal.decreases-steps
decreases-steps g l = weight l.call.asks
