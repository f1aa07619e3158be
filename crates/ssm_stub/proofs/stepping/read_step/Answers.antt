use Rattle.std.proofs.lemmas.Result.{on_ok_weaker}
use Rattle.ssm_stub.specs.Reads.{read_machine}
use Rattle.ssm_stub.proofs.Running.{stepped}
use Rattle.ssm_stub.proofs.stepping.read_step.Goals as goal

pub returns-clause-step : goal.returns-clause-step
returns-clause-step g c =
    on_ok_weaker c.read_once.result
    (λ one. stepped read_machine g.L.Link.makes c.args.ask.now c.next-next.result c.args.call.now c.args.link.now c.read_once.new.call c.read_once.new.link c.next-next.ensures one)
    c.read_once.ensures.ok
