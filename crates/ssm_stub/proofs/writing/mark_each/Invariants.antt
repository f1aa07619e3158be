use Rattle.std.proofs.Common.{◌≡◌, take, map}
use Rattle.crash_base.specs.declared.numbers.BrickNo.{BrickNo}
use Rattle.ssm_stub.specs.Ends.{bricks_of}
use Rattle.ssm_stub.specs.declared.ask.Ask.{Ask}
use Rattle.ssm_stub.specs.declared.reply.WriteReply.{WriteReply}
use Rattle.ssm_stub.specs.Writes.{pass_of}
use Rattle.ssm_stub.proofs.writing.mark_each.Given as goal

abbrev pub invariant-loop-at : goal.invariant-loop-at
invariant-loop-at l = record {
  same_bricks : bricks_of l.passes ≡ map (λ (ask : Ask BrickNo WriteReply). ask.who) l.asks;
  marked_so_far : take l.at l.passes ≡ map pass_of (take l.at l.asks);
}
