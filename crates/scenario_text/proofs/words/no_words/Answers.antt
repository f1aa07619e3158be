use Rattle.std.proofs.Common.{sym, arith}
use Rattle.std.proofs.lemmas.Bool.Decides.{nat_tests}
use Rattle.scenario_text.proofs.Splits.{no_words_no}
use Rattle.scenario_text.proofs.words.no_words.Goals as goal

pub returns-else-is_empty : goal.returns-else-is_empty
returns-else-is_empty c = sym (no_words_no c.args.left.now (λ e. grind (arith, nat_tests)))
