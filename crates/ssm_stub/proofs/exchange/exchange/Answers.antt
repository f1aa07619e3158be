use Rattle.std.proofs.lemmas.Result.{IfOk-weaker, on_err_weaker}
use Rattle.ssm_stub.proofs.Running.{broke_receiving}
use Rattle.ssm_stub.proofs.exchange.exchange.Goals as goal

pub returns-in-Receive-clause-told : goal.returns-in-Receive-clause-told
returns-in-Receive-clause-told g c =
    rw c.in-Receive.is (IfOk-weaker c.receive_from.result _ _ (λ told h. (h.0, h.1, h.2, h.3 c.args.ask.now)) c.receive_from.ensures.told)

pub returns-in-Receive-clause-want : goal.returns-in-Receive-clause-want
returns-in-Receive-clause-want g c =
    rw c.in-Receive.is (on_err_weaker c.receive_from.result (broke_receiving g.L.Link.makes c.args.ask.now c.in-Receive.brick c.args.link.now c.receive_from.new.link) c.receive_from.ensures.want)
