use Rattle.text_readings.proofs.TokenAnswers.{only_read, read}
use Rattle.text_readings.proofs.laws.tokens_are_read_once.Goals as goal

pub returns-clause-read : goal.returns-clause-read
returns-clause-read c key text session = read key session text

pub returns-clause-only : goal.returns-clause-only
returns-clause-only c key text session = only_read key session text
