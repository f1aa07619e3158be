use Rattle.std.proofs.Common.{take, drop, length, ◌-◌, ◌≤◌, arith}
use Rattle.outside.proofs.Prefixes.{length-rest}
use Rattle.serve_command.proofs.Rest.{rest_step}
use Rattle.serve_command.proofs.last_line.write_rest.Goals as goal

pub loop-at-preserved : goal.loop-at-preserved
loop-at-preserved g c =
    let bytes = c.args.bytes.now in
    let at = c.loop-at.at in
    let n = c.in_ok-n.n in
    let few : n ≤ length (take (length bytes - at) (drop at bytes)) = c.in_ok-n.ensures.within in
    record {
      within = omega (arith, few, length-rest bytes at, c.loop-at.invariant.within);
      same = rest_step _ _ _ bytes at n c.loop-at.invariant.same c.in_ok-n.ensures.taken;
      count = omega (arith, c.loop-at.invariant.count, c.in_ok-n.ensures.count);
    }
