use Rattle.std.proofs.lemmas.Result.{on_ok_weaker}
use Rattle.ssm_stub.specs.Writes.{write_machine}
use Rattle.ssm_stub.proofs.Running.{stepped}
use Rattle.ssm_stub.proofs.stepping.write_step.Goals as goal

pub returns-clause-step : goal.returns-clause-step
returns-clause-step g c =
    on_ok_weaker c.write_once.result
    (λ one. stepped write_machine g.L.Link.makes c.args.ask.now c.next-next.result c.args.call.now c.args.link.now c.write_once.new.call c.write_once.new.link c.next-next.ensures one)
    c.write_once.ensures.ok
