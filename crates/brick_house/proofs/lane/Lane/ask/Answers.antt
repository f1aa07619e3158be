use Rattle.std.proofs.Common.{◌∙◌, sym}
use Rattle.brick_house.proofs.Asked.{none_asked, reply_asked}
use Rattle.brick_house.proofs.lane.Lane.ask.Goals as goal

pub returns-in-None-clause-ok : goal.returns-in-None-clause-ok
returns-in-None-clause-ok g c = none_asked c.args.house.now c.args.to c.args.bytes.now c.args.self.now (sym c.in_ok-decode.ensures.value ∙ c.in-None.is)

pub returns-clause-ok : goal.returns-clause-ok
returns-clause-ok g c = reply_asked c.args.house.now c.args.to c.args.bytes.now c.in-Some.frame c.args.self.now (sym c.in_ok-decode.ensures.value ∙ c.in-Some.is) (sym c.is_request.ensures ∙ c.if-is_request.false)
