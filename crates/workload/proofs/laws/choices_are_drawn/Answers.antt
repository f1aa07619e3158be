use Rattle.std.proofs.Common.{◌<◌, ◌/◌, ◌%◌, ◌^◌, refl, arith}
use Rattle.std.proofs.lemmas.Nat.{mod_below}
use Rattle.workload.specs.Choices.{chosen}
use Rattle.workload.proofs.laws.choices_are_drawn.Goals as goal

pub returns-clause-callers : goal.returns-clause-callers
unfolding chosen
returns-clause-callers c = λ x. (let below : (x / 2 ^ 32 / 8) % 4 < 4 = mod_below (x / 2 ^ 32 / 8) 4 (omega arith) in (omega arith, omega (arith, below)))

pub returns-clause-keys : goal.returns-clause-keys
unfolding chosen
returns-clause-keys c = λ x. mod_below (x / 2 ^ 32 / 32) 16 (omega arith)

pub returns-clause-deeds : goal.returns-clause-deeds
returns-clause-deeds c = refl

pub returns-clause-first : goal.returns-clause-first
returns-clause-first c = refl

pub returns-clause-begins : goal.returns-clause-begins
unfolding chosen
returns-clause-begins c = (refl, refl)
