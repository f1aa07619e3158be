use Rattle.decimal_digits.proofs.Written.{plain_is_decimal, decimal_reads}
use Rattle.decimal_digits.proofs.laws.plain_numbers_are_decimal.Goals as goal

pub returns : goal.returns
returns c = λ text number. (plain_is_decimal text number, decimal_reads text number)
