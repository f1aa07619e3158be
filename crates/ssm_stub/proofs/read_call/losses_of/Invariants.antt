use Rattle.std.proofs.Common.{◌≡◌, take, filter_map}
use Rattle.ssm_stub.specs.Reads.{loss_of}
use Rattle.ssm_stub.proofs.read_call.losses_of.Given as goal

abbrev pub invariant-loop-ask : goal.invariant-loop-ask
invariant-loop-ask l = l.causes.items ≡ filter_map loss_of (take l.ask-index l.asks)
