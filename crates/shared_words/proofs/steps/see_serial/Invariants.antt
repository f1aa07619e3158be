use Rattle.shared_words.proofs.steps.see_serial.Given as goal

-- the number of parts that there are
abbrev pub ghosts-see_by : goal.ghosts-see_by
ghosts-see_by a = record { count = a.table.now.shared.key.parts }
