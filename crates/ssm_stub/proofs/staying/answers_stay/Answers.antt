use Rattle.std.proofs.Common.{refl}
use Rattle.ssm_stub.specs.Runs.{after}
use Rattle.ssm_stub.specs.Reads.{read_machine, read_start}
use Rattle.ssm_stub.specs.Writes.{write_start}
use Rattle.ssm_stub.proofs.ReadEnding.{hears_nothing}
use Rattle.ssm_stub.proofs.LateStores.{answer_stays, fits_parts}
use Rattle.ssm_stub.proofs.staying.answers_stay.Goals as goal

pub returns-clause-write : goal.returns-clause-write
returns-clause-write c = λ first more bricks least nonce key value expiry answer fitting h.
    answer_stays first more bricks (write_start bricks least nonce key value expiry) answer refl fitting h

pub returns-clause-read : goal.returns-clause-read
returns-clause-read c = λ first more now nonce cookie answer fitting h.
    let start = read_start now nonce cookie in
    hears_nothing more (after read_machine start first) answer h (fits_parts read_machine start first more fitting).1
