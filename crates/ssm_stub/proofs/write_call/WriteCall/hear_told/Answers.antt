use Rattle.std.proofs.Common.{◌≡◌, ◌∙◌, ap, Some}
use Rattle.ssm_stub.specs.declared.ear.Ear.TheVariants.{Open}
use Rattle.ssm_stub.specs.Turns.{turn_after_asks, with_ear}
use Rattle.ssm_stub.proofs.Places.{taken_back, turn_after_asks-stands}
use Rattle.ssm_stub.proofs.write_call.WriteCall.hear_told.Goals as goal

pub invariant_of-self-in-Err : goal.invariant_of-self-in-Err
invariant_of-self-in-Err c =
    let t = c.in-Some.turn in
    let found : turn_after_asks c.self.inside.asks.items ≡ Some t = cc in
    let back : c.put_ear-in-Err.new.asks.items ≡ c.self.inside.asks.items =
    c.put_ear-in-Err.ensures ∙ (ap (λ asks. with_ear asks t.at (Open t.stage)) c.put_ear.ensures ∙ taken_back c.self.inside.asks.items t c.put_heard-ear.result (turn_after_asks-stands c.self.inside.asks.items t found)) in
    rw back c.self.invariant

pub returns-in-Err-clause-err : goal.returns-in-Err-clause-err
returns-in-Err-clause-err c =
    let t = c.in-Some.turn in
    let found : turn_after_asks c.self.inside.asks.items ≡ Some t = cc in
    let back : c.put_ear-in-Err.new.asks.items ≡ c.self.inside.asks.items =
    c.put_ear-in-Err.ensures ∙ (ap (λ asks. with_ear asks t.at (Open t.stage)) c.put_ear.ensures ∙ taken_back c.self.inside.asks.items t c.put_heard-ear.result (turn_after_asks-stands c.self.inside.asks.items t found)) in
    rw back c.self.view_is
