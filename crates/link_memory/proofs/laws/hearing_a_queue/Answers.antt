use Rattle.link_memory.proofs.Queues.{rule_answers, rule_silent, rule_strays}
use Rattle.link_memory.proofs.laws.hearing_a_queue.Goals as goal

pub returns-clause-put_answered : goal.returns-clause-put_answered
returns-clause-put_answered c = λ lawful strays frame rest reply all few is. rule_answers lawful strays frame rest reply all few is

pub returns-clause-put_silent : goal.returns-clause-put_silent
returns-clause-put_silent c = λ lawful strays all few. rule_silent lawful strays all few

pub returns-clause-put_strayed : goal.returns-clause-put_strayed
returns-clause-put_strayed c = λ lawful strays rest all many. rule_strays lawful strays rest all many

pub returns-clause-get_answered : goal.returns-clause-get_answered
returns-clause-get_answered c = λ lawful strays frame rest reply all few is. rule_answers lawful strays frame rest reply all few is

pub returns-clause-get_silent : goal.returns-clause-get_silent
returns-clause-get_silent c = λ lawful strays all few. rule_silent lawful strays all few

pub returns-clause-get_strayed : goal.returns-clause-get_strayed
returns-clause-get_strayed c = λ lawful strays rest all many. rule_strays lawful strays rest all many
