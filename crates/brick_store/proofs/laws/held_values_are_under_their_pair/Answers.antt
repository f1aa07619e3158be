use Rattle.std.proofs.Common.{◌≡◌, true, rules}
use Rattle.brick_store.specs.Kept.{is_under}
use Rattle.brick_store.proofs.Standing.{held_under}
use Rattle.brick_store.proofs.laws.held_values_are_under_their_pair.Goals as goal

pub returns-clause-held : goal.returns-clause-held
returns-clause-held c = λ h key version s is. let here : is_under key version s ≡ true = held_under h key version s is in search (rules, here)
