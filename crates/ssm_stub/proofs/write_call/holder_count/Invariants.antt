use Rattle.std.proofs.Common.{◌≡◌, ◌≤◌, length, take, filter_map}
use Rattle.ssm_stub.specs.Writes.{holder_of}
use Rattle.ssm_stub.proofs.write_call.holder_count.Given as goal

abbrev pub invariant-loop-ask : goal.invariant-loop-ask
invariant-loop-ask l = record {
  so_far : l.count ≡ length (filter_map holder_of (take l.ask-index l.asks));
  few : l.count ≤ l.ask-index;
}
