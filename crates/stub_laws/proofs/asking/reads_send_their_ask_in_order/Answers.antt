use Rattle.std.proofs.Common.{◌∙◌, ap, map, length}
use Rattle.session_cookie.specs.declared.cookie.Holder.{Holder}
use Rattle.ssm_stub.specs.declared.reply.ReadReply.{ReadReply}
use Rattle.ssm_stub.specs.Runs.{told_of, after, calls}
use Rattle.ssm_stub.specs.Reads.{read_machine, read_start}
use Rattle.stub_laws.specs.Sends.{bricks_of_holders, each_sent, sends_in}
use Rattle.stub_laws.proofs.Asked.{first_sent}
use Rattle.ssm_stub.proofs.Unasked.{all_unasked}
use Rattle.ssm_stub.proofs.ReadEnding.{ended_by_answer}
use Rattle.stub_laws.proofs.ReadSending.{left_of, read_sent}
use Rattle.stub_laws.proofs.asking.reads_send_their_ask_in_order.Goals as goal

pub returns-clause-first : goal.returns-clause-first
returns-clause-first c = λ ask events now nonce cookie fitting.
    let start = read_start now nonce cookie in
    let sent = sends_in (calls read_machine ask start events) in
    let left = left_of (after read_machine start (map told_of events)).asks in
    (length sent, first_sent ask sent left (bricks_of_holders cookie.bricks) (read_sent ask events start fitting ∙ ap (each_sent ask) (all_unasked ReadReply (λ (h : Holder). h.brick) cookie.bricks)))

pub returns-clause-answered : goal.returns-clause-answered
returns-clause-answered c = λ s answer h. ended_by_answer s answer h
