use Rattle.connection_server.proofs.steps.take_request.Given as goal

-- the loan of its seat of words
abbrev pub ghosts-take_lent : goal.ghosts-take_lent
ghosts-take_lent g a = record { loan = a.lent.seat.ghost_name; lent = a.lent.seat.now }
