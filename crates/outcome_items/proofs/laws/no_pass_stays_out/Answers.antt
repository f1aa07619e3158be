use Rattle.outcome_items.proofs.Writing.{all_even, leaves_none}
use Rattle.outcome_items.proofs.laws.no_pass_stays_out.Goals as goal

pub returns-clause-spent : goal.returns-clause-spent
returns-clause-spent c = all_even

pub returns-clause-nothing : goal.returns-clause-nothing
returns-clause-nothing c = λ item e none. leaves_none item.cookie item.outcome e none
