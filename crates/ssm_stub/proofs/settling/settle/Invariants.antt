use Rattle.std.proofs.Common.{◌≡◌, take, drop}
use Rattle.ssm_stub.specs.Writes.{put_lawful}
use Rattle.ssm_stub.specs.Ends.{bricks_of, marks_of, Settled}
use Rattle.ssm_stub.proofs.settling.settle.Given as goal

abbrev pub invariant-loop-at : goal.invariant-loop-at
invariant-loop-at g l = record {
  settled : Settled g.L.Link.makes (put_lawful l.nonce l.key) l.fn.link (take l.at l.fn.passes) (marks_of (take l.at l.passes)) l.link;
  rest : drop l.at l.passes ≡ drop l.at l.fn.passes;
  same_bricks : bricks_of l.passes ≡ bricks_of l.fn.passes;
}
