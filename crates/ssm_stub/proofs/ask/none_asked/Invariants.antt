use Rattle.std.proofs.Common.{◌≡◌, take}
use Rattle.ssm_stub.specs.Turns.{none_asked}
use Rattle.ssm_stub.proofs.ask.none_asked.Given as goal

abbrev pub invariant-loop-who : goal.invariant-loop-who
invariant-loop-who g l = l.asks.items ≡ none_asked (take l.who-index l.whos)
