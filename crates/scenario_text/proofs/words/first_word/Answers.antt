use Rattle.std.proofs.Common.{◌∷◌, ap, sym, ◌∙◌, take}
use Rattle.std.proofs.lemmas.List.{take_rest}
use Rattle.scenario_text.specs.Words.{words_after}
use Rattle.scenario_text.proofs.Splits.{unspaced, spaced, none_left}
use Rattle.scenario_text.proofs.words.first_word.Goals as goal

pub returns-in-None : goal.returns-in-None
returns-in-None c = unspaced c.args.text.now c.in-None.ensures ∙ ap (λ left. c.args.text.now ∷ words_after left) (sym (none_left c.args.text.now))

pub returns-in-Some : goal.returns-in-Some
returns-in-Some c = spaced c.args.text.now c.in-Some.at c.in-Some.ensures ∙ ap (λ left. take c.in-Some.at c.args.text.now ∷ words_after left) (sym (take_rest c.args.text.now c.in-Some.at))
