use Rattle.std.proofs.Common.{◌∙◌, Ok, Err}
use Rattle.ssm_frames.specs.declared.frame.Frame.TheVariants.{Get}
use Rattle.ssm_frames.specs.Spelling.{encode_of}
use Rattle.ssm_stub.specs.declared.read_call.ReadRefusal.TheVariants.{Lost}
use Rattle.ssm_stub.proofs.Distinct.{holders-differ}
use Rattle.ssm_stub.proofs.ReadFacts.{read_facts, read_facts-calls}
use Rattle.ssm_stub.proofs.ReadOutcomes.{lost, lost-calls, read_so, read-calls}
use Rattle.stub_laws.proofs.ReadSending.{sent_to_all, sent_up_to}
use Rattle.stub_laws.proofs.asking.answered_reads_asked_in_order.Goals as goal

pub returns-clause-read : goal.returns-clause-read
returns-clause-read g c = λ old new now nonce cookie value holders ends.
    let makes = g.L.Link.makes in
    let ask = encode_of (Get nonce cookie.key cookie.version) in
    let differ = holders-differ cookie.bricks holders.2 in
    let facts = read_facts makes now nonce cookie old new (Ok value) differ ends in
    let read = read_so makes now nonce cookie old new value facts in (
      read,
      sent_up_to ask ends.events now nonce cookie differ ends.ran.fitting read.calls
          (read-calls makes now nonce cookie old new value facts ∙ read_facts-calls makes now nonce cookie old new (Ok value) differ ends)
          read.before read.holder read.behind read.causes value read.parts read.lost read.found read.unasked,
    )

pub returns-clause-lost : goal.returns-clause-lost
returns-clause-lost g c = λ old new now nonce cookie causes holders ends.
    let makes = g.L.Link.makes in
    let ask = encode_of (Get nonce cookie.key cookie.version) in
    let differ = holders-differ cookie.bricks holders.2 in
    let facts = read_facts makes now nonce cookie old new (Err (Lost causes)) differ ends in
    let gone = lost makes now nonce cookie old new causes facts in (
      gone,
      sent_to_all ask ends.events now nonce cookie differ ends.ran.fitting gone.calls
          (lost-calls makes now nonce cookie old new causes facts ∙ read_facts-calls makes now nonce cookie old new (Err (Lost causes)) differ ends)
          causes gone.told,
    )
