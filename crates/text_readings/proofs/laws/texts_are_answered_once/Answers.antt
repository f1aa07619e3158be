use Rattle.text_readings.proofs.CookieAnswers.{is_answer, no_want, only_answer}
use Rattle.text_readings.proofs.laws.texts_are_answered_once.Goals as goal

pub returns-clause-answer : goal.returns-clause-answer
returns-clause-answer c = is_answer

pub returns-clause-memory : goal.returns-clause-memory
returns-clause-memory c = no_want

pub returns-clause-only : goal.returns-clause-only
returns-clause-only c = only_answer
