use Rattle.serve_command.proofs.Spelled.{words_read, words_spelled}
use Rattle.serve_command.proofs.laws.serve_is_spelled_by_five_words.Goals as goal

pub returns : goal.returns
returns c = λ words said. (words_spelled words said, λ h. words_read words said h.0 h.1)
