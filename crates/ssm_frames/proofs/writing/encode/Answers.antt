use Rattle.std.proofs.Common.{rules, ◌≡◌}
use Rattle.ssm_frames.specs.Spelling.{encode_of}
use Rattle.ssm_frames.proofs.ExactFrames.{spelled_decodes}
use Rattle.ssm_frames.proofs.Short.{frame_size}
use Rattle.ssm_frames.proofs.writing.encode.Goals as goal

pub returns-clause-some : goal.returns-clause-some
returns-clause-some c =
    let is : c.from_vec.result ≡ encode_of c.args.frame.now = search rules in
    rw is ((frame_size c.args.frame.now c.frame_is_in_range.ensures).0)

pub returns-clause-few : goal.returns-clause-few
returns-clause-few c =
    let is : c.from_vec.result ≡ encode_of c.args.frame.now = search rules in
    rw is ((frame_size c.args.frame.now c.frame_is_in_range.ensures).1)

pub returns-clause-back : goal.returns-clause-back
returns-clause-back c =
    let is : c.from_vec.result ≡ encode_of c.args.frame.now = search rules in
    spelled_decodes c.from_vec.result c.args.frame.now (record { in_range = c.frame_is_in_range.ensures; bytes_are = is })
