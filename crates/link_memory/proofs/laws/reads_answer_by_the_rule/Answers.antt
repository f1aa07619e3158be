use Rattle.std.proofs.Common.{◌∙◌, ap, sym, refl}
use Rattle.ssm_frames.specs.Spelling.{encode_of}
use Rattle.ssm_stub.specs.Turns.{turn_in_order, wanted}
use Rattle.ssm_stub.specs.Reads.{ReadState, read_start, read_ask, read_answer, turn_unless}
use Rattle.session_cookie.specs.declared.cookie.Holder.{Holder}
use Rattle.link_memory.proofs.ReadsOver.{read_by_rule}
use Rattle.link_memory.proofs.laws.reads_answer_by_the_rule.Goals as goal

pub returns-clause-run : goal.returns-clause-run
returns-clause-run c = λ now nonce cookie ask events end old new ran over.
    let by = read_by_rule (read_start now nonce cookie) cookie.bricks ask events end old new refl ran over in
    (ap (λ (s : ReadState). s.asks) by.0, by.1)

pub returns-clause-answer : goal.returns-clause-answer
returns-clause-answer c = λ now nonce cookie old new answer ends.
    let over = ap (λ o. wanted (λ (holder : Holder). holder.brick) (turn_unless o (turn_in_order ends.end.asks))) ends.answers in
    let by = read_by_rule (read_start now nonce cookie) cookie.bricks (encode_of (read_ask (read_start now nonce cookie))) ends.events ends.end old new refl ends.ran over in
    (sym (ap read_answer by.0) ∙ ends.answers, by.1)
