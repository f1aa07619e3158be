use Rattle.std.proofs.Common.{◌≡◌, ◌∙◌, ap, sym, Some, slice_get}
use Rattle.ssm_stub.specs.declared.ear.Ear.TheVariants.{Open}
use Rattle.ssm_stub.specs.Turns.{with_ear}
use Rattle.ssm_stub.specs.Reads.{turn_of_read}
use Rattle.ssm_stub.proofs.Places.{taken_back, turn_of_read-stands}
use Rattle.ssm_stub.proofs.read_call.ReadCall.hear_told.Goals as goal

pub invariant_of-self-in-Err : goal.invariant_of-self-in-Err
invariant_of-self-in-Err c =
    let t = c.in-Some.turn in
    let turn : turn_of_read c.args.self.now ≡ Some t = sym c.turn.ensures ∙ c.in-Some.is in
    let stands : slice_get c.self.inside.asks.items t.at ≡ Some (record { who = t.who; ear = Open t.stage }) =
    ap (λ s. slice_get s.asks t.at) c.self.view_is ∙ turn_of_read-stands c.args.self.now t turn in
    let back : c.put_ear-in-Err.new.asks.items ≡ c.self.inside.asks.items =
    c.put_ear-in-Err.ensures ∙ (ap (λ asks. with_ear asks t.at (Open t.stage)) c.put_ear.ensures ∙ taken_back c.self.inside.asks.items t c.get_heard-ear.result stands) in
    rw back c.self.invariant

pub returns-in-Err-clause-err : goal.returns-in-Err-clause-err
returns-in-Err-clause-err c =
    let t = c.in-Some.turn in
    let turn : turn_of_read c.args.self.now ≡ Some t = sym c.turn.ensures ∙ c.in-Some.is in
    let stands : slice_get c.self.inside.asks.items t.at ≡ Some (record { who = t.who; ear = Open t.stage }) =
    ap (λ s. slice_get s.asks t.at) c.self.view_is ∙ turn_of_read-stands c.args.self.now t turn in
    let back : c.put_ear-in-Err.new.asks.items ≡ c.self.inside.asks.items =
    c.put_ear-in-Err.ensures ∙ (ap (λ asks. with_ear asks t.at (Open t.stage)) c.put_ear.ensures ∙ taken_back c.self.inside.asks.items t c.get_heard-ear.result stands) in
    rw back c.self.view_is
