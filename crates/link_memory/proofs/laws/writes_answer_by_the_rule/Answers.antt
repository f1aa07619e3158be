use Rattle.std.proofs.Common.{◌∙◌, ap, sym, refl, map}
use Rattle.crash_base.specs.declared.numbers.BrickNo.{BrickNo}
use Rattle.ssm_frames.specs.Spelling.{encode_of}
use Rattle.ssm_stub.specs.Turns.{turn_after_asks, wanted, next_unless}
use Rattle.ssm_stub.specs.Writes.{WriteState, write_start, write_answer, pass_of}
use Rattle.link_memory.proofs.WritesOver.{write_by_rule}
use Rattle.link_memory.proofs.laws.writes_answer_by_the_rule.Goals as goal

pub returns-clause-run : goal.returns-clause-run
returns-clause-run c = λ bricks least nonce key value expiry ask events end old new ran over.
    let by = write_by_rule (write_start bricks least nonce key value expiry) bricks ask events end old new refl ran over in
    (ap (λ (s : WriteState). s.asks) by.0, by.1)

pub returns-clause-answer : goal.returns-clause-answer
returns-clause-answer c = λ bricks least nonce key value expiry old new passes answer ends.
    let start = write_start bricks least nonce key value expiry in
    let over = ap (λ o. next_unless o (wanted (λ (brick : BrickNo). brick) (turn_after_asks ends.end.asks))) ends.answers in
    let by = write_by_rule start bricks (encode_of start.ask) ends.events ends.end old new refl ends.ran over in
    (sym (ap write_answer by.0) ∙ ends.answers, ends.marks ∙ ap (λ (s : WriteState). map pass_of s.asks) by.0, by.1)
