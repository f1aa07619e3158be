use Rattle.std.proofs.Common.{◌≡◌, ◌∙◌, true, sym, arith}
use Rattle.std.proofs.lemmas.Bool.Decides.{nat_tests}
use Rattle.seat_lines.specs.Lines.{is_beyond}
use Rattle.seat_lines.proofs.RunSteps.{bare_going, beyond_going}
use Rattle.seat_lines.proofs.seats.Seats.go.Goals as goal

pub returns-then-number-gt-MAX_SEAT-clause-answer : goal.returns-then-number-gt-MAX_SEAT-clause-answer
returns-then-number-gt-MAX_SEAT-clause-answer g c =
    let beyond : is_beyond c.args.number ≡ true = grind (arith, nat_tests, c.if-number-gt-MAX_SEAT.true) in
    beyond_going c.args.number c.args.container.now c.args.sessions c.args.self.now c.args.to_rest beyond

pub returns-in-None-clause-answer : goal.returns-in-None-clause-answer
returns-in-None-clause-answer g c =
    bare_going c.args.number c.args.container.now c.args.sessions c.args.self.now c.args.to_rest (sym c.lend-lent.ensures.store ∙ c.in-None.is)
