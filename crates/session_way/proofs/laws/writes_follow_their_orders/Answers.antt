use Rattle.std.proofs.Common.{◌∙◌, ap, sym, map}
use Rattle.crash_base.specs.declared.numbers.BrickNo.{BrickNo}
use Rattle.ssm_stub.specs.declared.ask.Ask.{Ask}
use Rattle.ssm_stub.specs.declared.reply.WriteReply.{WriteReply}
use Rattle.ssm_stub.specs.Ends.{bricks_of}
use Rattle.ssm_stub.proofs.Concluding.{none_asked-whos}
use Rattle.session_way.specs.Way.{passes_for}
use Rattle.session_way.specs.Writing.{WritingState}
use Rattle.session_way.proofs.PassesKept.{begun_of}
use Rattle.session_way.proofs.laws.writes_follow_their_orders.Goals as goal

pub returns-clause-sent : goal.returns-clause-sent
returns-clause-sent c = λ order old new w h. ap (λ (v : WritingState). v.write.ask) (begun_of order old new w h)

pub returns-clause-passes : goal.returns-clause-passes
returns-clause-passes c = λ order old new w h. ap (λ (v : WritingState). v.passes) (begun_of order old new w h)

pub returns-clause-bricks : goal.returns-clause-bricks
returns-clause-bricks c = λ order old new w h.
    let same = begun_of order old new w h in
    ap (λ (v : WritingState). map (λ (ask : Ask BrickNo WriteReply). ask.who) v.write.asks) same
    ∙ (none_asked-whos WriteReply (bricks_of (passes_for order old)) ∙ sym (ap (λ (v : WritingState). bricks_of v.passes) same))
