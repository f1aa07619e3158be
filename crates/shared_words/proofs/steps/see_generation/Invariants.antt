use Rattle.shared_words.proofs.steps.see_generation.Given as goal

-- the number of parts that there are
abbrev pub ghosts-look_by : goal.ghosts-look_by
ghosts-look_by a = record { count = a.table.now.shared.key.parts }
