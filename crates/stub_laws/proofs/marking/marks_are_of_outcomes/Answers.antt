use Rattle.std.proofs.Common.{◌∙◌, Ok, Err}
use Rattle.ssm_stub.specs.declared.write_call.WriteRefusal.TheVariants.{Missed}
use Rattle.ssm_stub.specs.Ends.{bricks_of}
use Rattle.ssm_stub.proofs.Distinct.{passes-differ}
use Rattle.ssm_stub.proofs.WriteFacts.{write_facts, write_facts-calls}
use Rattle.ssm_stub.proofs.WriteOutcomes.{missed, missed-calls, written, written-calls}
use Rattle.stub_laws.proofs.Marked.{marked}
use Rattle.stub_laws.proofs.marking.marks_are_of_outcomes.Goals as goal

pub returns-clause-written : goal.returns-clause-written
returns-clause-written g c = λ old new before passes least nonce key value expiry cookie distinct some ends.
    let makes = g.L.Link.makes in
    let bricks = bricks_of before in
    let differ = passes-differ before distinct in
    let facts = write_facts makes bricks least nonce key value expiry old new passes (Ok cookie) differ ends in (
      written makes bricks least nonce key expiry old new cookie facts,
      marked makes before least nonce key value expiry old new passes (Ok cookie) differ some ends (written makes bricks least nonce key expiry old new cookie facts).calls
          (written-calls makes bricks least nonce key expiry old new cookie facts ∙ write_facts-calls makes bricks least nonce key value expiry old new passes (Ok cookie) differ ends),
    )

pub returns-clause-missed : goal.returns-clause-missed
returns-clause-missed g c = λ old new before passes least nonce key value expiry causes distinct some ends.
    let makes = g.L.Link.makes in
    let bricks = bricks_of before in
    let differ = passes-differ before distinct in
    let facts = write_facts makes bricks least nonce key value expiry old new passes (Err (Missed causes)) differ ends in (
      missed makes bricks least nonce key expiry old new causes facts,
      marked makes before least nonce key value expiry old new passes (Err (Missed causes)) differ some ends (missed makes bricks least nonce key expiry old new causes facts).calls
          (missed-calls makes bricks least nonce key expiry old new causes facts ∙ write_facts-calls makes bricks least nonce key value expiry old new passes (Err (Missed causes)) differ ends),
    )
