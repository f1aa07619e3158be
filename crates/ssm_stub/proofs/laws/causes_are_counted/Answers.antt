use Rattle.std.proofs.Common.{Err}
use Rattle.ssm_stub.specs.declared.write_call.WriteRefusal.TheVariants.{Missed}
use Rattle.ssm_stub.specs.declared.read_call.ReadRefusal.TheVariants.{Lost}
use Rattle.ssm_stub.specs.Ends.{bricks_of}
use Rattle.ssm_stub.proofs.Distinct.{passes-differ, holders-differ}
use Rattle.ssm_stub.proofs.WriteFacts.{write_facts}
use Rattle.ssm_stub.proofs.WriteOutcomes.{missed_are}
use Rattle.ssm_stub.proofs.ReadFacts.{read_facts, lawful_of}
use Rattle.ssm_stub.proofs.ReadOutcomes.{lost}
use Rattle.ssm_stub.proofs.CountedCauses.{Counts, missed_counted, lost_counted}
use Rattle.ssm_stub.proofs.laws.causes_are_counted.Goals as goal

pub returns-clause-missed : goal.returns-clause-missed
returns-clause-missed g c = λ old new before passes least nonce key value expiry causes distinct ends.
    let makes = g.L.Link.makes in
    let facts = write_facts makes (bricks_of before) least nonce key value expiry old new passes (Err (Missed causes)) (passes-differ before distinct) ends in
    let law = c.links_count_their_events.ensures in
    let counts : Counts (g.L.Link.tally old) (g.L.Link.tally new) facts.calls_made = record {
      silences = λ brick. law.brick old new facts.calls_made brick facts.made;
      hushed = law.hushed old new facts.calls_made facts.made;
      got = law.got old new facts.calls_made facts.made;
    } in
    missed_counted makes before least nonce key expiry old new causes facts (g.L.Link.tally old) (g.L.Link.tally new) distinct counts (missed_are makes (bricks_of before) least nonce key expiry old new causes facts)

pub returns-clause-lost : goal.returns-clause-lost
returns-clause-lost g c = λ old new now nonce cookie causes holders ends.
    let makes = g.L.Link.makes in
    let facts = read_facts makes now nonce cookie old new (Err (Lost causes)) (holders-differ cookie.bricks holders.2) ends in
    let outcome = lost makes now nonce cookie old new causes facts in
    let law = c.links_count_their_events.ensures in
    let counts : Counts (g.L.Link.tally old) (g.L.Link.tally new) outcome.calls = record {
      silences = λ brick. law.brick old new outcome.calls brick outcome.made;
      hushed = law.hushed old new outcome.calls outcome.made;
      got = law.got old new outcome.calls outcome.made;
    } in
    lost_counted (lawful_of nonce cookie) outcome.calls (g.L.Link.tally old) (g.L.Link.tally new) cookie.bricks causes holders.2 counts outcome.told
