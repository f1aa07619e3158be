use Rattle.shared_words.proofs.steps.draw_serial.Given as goal

-- the number of parts that there are
abbrev pub ghosts-draw_by : goal.ghosts-draw_by
ghosts-draw_by a = record { count = a.table.now.shared.key.parts }
