-- Passes that are spent leave the bricks as many.
use Rattle.std.proofs.Common.{◌≡◌, ◌∙◌, refl, List, [], ◌∷◌, length, map}
use Rattle.std.proofs.lemmas.List.{length-map}
use Rattle.send_windows.specs.declared.fact.WindowFact.{WindowFact}
use Rattle.send_windows.specs.declared.pass.Pass.{Pass}
use Rattle.send_windows.specs.Facts.{spent, all_spent}

pub spent_as_many : (passes : List Pass) (facts : List WindowFact) → length (all_spent facts passes) ≡ length facts
spent_as_many [] facts = refl
spent_as_many (pass ∷ passes) facts = spent_as_many passes (map (spent pass) facts) ∙ length-map facts (spent pass)
