use Rattle.std.proofs.Common.{rules, ◌≡◌, Some}
use Rattle.ssm_frames.specs.Reading.{decode_of}
use Rattle.ssm_frames.proofs.reading.decode.Goals as goal

pub returns-clause-exact : goal.returns-clause-exact
unfolding decode_of
returns-clause-exact c =
    let is : decode_of c.args.bytes.now ≡ Some c.in-Ok.read.0 = search rules in
    (c.frames_are_exact.ensures.some c.args.bytes.now c.in-Ok.read.0 c.bytes_are_in_range.ensures).0 is
