use Rattle.std.proofs.Common.{◌∙◌, ap, map, length}
use Rattle.ssm_stub.specs.Runs.{told_of, after, calls}
use Rattle.ssm_stub.specs.Writes.{write_machine, write_start}
use Rattle.stub_laws.specs.Sends.{each_sent, sends_in}
use Rattle.stub_laws.proofs.Asked.{first_sent}
use Rattle.ssm_stub.proofs.Patience.{all_bricks, left_of}
use Rattle.stub_laws.proofs.WriteSending.{write_sent, sent_at_the_answer, sent_to_the_end}
use Rattle.stub_laws.proofs.asking.writes_send_their_ask_once.Goals as goal

pub returns-clause-first : goal.returns-clause-first
returns-clause-first c = λ ask events bricks least nonce key value expiry fitting.
    let start = write_start bricks least nonce key value expiry in
    let sent = sends_in (calls write_machine ask start events) in
    let left = left_of (after write_machine start (map told_of events)).asks in
    (length sent, first_sent ask sent left bricks (write_sent ask events start fitting ∙ ap (each_sent ask) (all_bricks bricks)))

pub returns-clause-answered : goal.returns-clause-answered
returns-clause-answered c = λ ask events bricks least nonce key value expiry answer some fitting h. sent_at_the_answer ask events bricks least nonce key value expiry fitting answer some h

pub returns-clause-ended : goal.returns-clause-ended
returns-clause-ended c = λ ask events bricks least nonce key value expiry fitting h. sent_to_the_end ask events bricks least nonce key value expiry fitting h
