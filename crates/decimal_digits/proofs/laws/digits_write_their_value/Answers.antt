use Rattle.decimal_digits.proofs.Written.{has_value, value_is_read}
use Rattle.decimal_digits.proofs.laws.digits_write_their_value.Goals as goal

pub returns : goal.returns
returns c = λ most text number. (has_value most text number, value_is_read most text number)
