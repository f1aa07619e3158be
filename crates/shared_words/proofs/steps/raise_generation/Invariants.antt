use Rattle.shared_words.proofs.steps.raise_generation.Given as goal

-- the number of parts that there are
abbrev pub ghosts-raise_by : goal.ghosts-raise_by
ghosts-raise_by a = record { count = a.table.now.shared.key.parts }
