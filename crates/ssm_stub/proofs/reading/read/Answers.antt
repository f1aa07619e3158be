use Rattle.std.proofs.Common.{[]}
use Rattle.ssm_frames.specs.Spelling.{encode_of}
use Rattle.ssm_stub.specs.Reads.{read_start, read_ask, read_machine}
use Rattle.ssm_stub.proofs.Running.{ran_nothing, stopped_by, broke_before}
use Rattle.ssm_stub.proofs.reading.read.Goals as goal

pub returns-in-Err-clause-stops : goal.returns-in-Err-clause-stops
returns-in-Err-clause-stops g c =
    let start = read_start c.args.now c.args.nonce c.args.cookie.now in
    λ _. record {
      end = start;
      stopped = stopped_by read_machine g.L.Link.makes (encode_of (read_ask start)) start c.args.link.now [] start c.args.link.now c.args.link.now (ran_nothing read_machine g.L.Link.makes (encode_of (read_ask start)) start c.args.link.now) (broke_before g.L.Link.makes (encode_of (read_ask start)) (read_machine.next start) c.args.link.now);
    }
