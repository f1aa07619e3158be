use Rattle.workload.proofs.Counting.{others_kept, one_answer, turns_counted, few_answers}
use Rattle.workload.proofs.laws.turns_change_one_caller.Goals as goal

pub returns-clause-others : goal.returns-clause-others
returns-clause-others c = others_kept

pub returns-clause-answers : goal.returns-clause-answers
returns-clause-answers c = one_answer

pub returns-clause-turns : goal.returns-clause-turns
returns-clause-turns c = turns_counted

pub returns-clause-counted : goal.returns-clause-counted
returns-clause-counted c = few_answers
