use Rattle.std.proofs.Common.{Option, subst, sym}
use Rattle.std.specs.Prelude.{All}
use Rattle.seat_steps.specs.declared.seat.Seat.{Seat}
use Rattle.seat_lines.specs.Site.{IsGoingIn, SeatsState}
use Rattle.seat_lines.proofs.Going.{going_set}
use Rattle.seat_lines.proofs.seats.Seats.conn_line.Goals as goal

pub returns-in_err-pad-clause-goes : goal.returns-in_err-pad-clause-goes
returns-in_err-pad-clause-goes c = λ container all.
    let P : SeatsState → Type 0 = λ s. All (IsGoingIn container) s.seats in
    c.pad.ensures.goes container (subst P (sym c.self.view_is) all)

pub returns-clause-goes : goal.returns-clause-goes
returns-clause-goes c = λ container all.
    let P : SeatsState → Type 0 = λ s. All (IsGoingIn container) s.seats in
    let Q : Option Seat → Type 0 = λ p. IsGoingIn container p in
    going_set container c.pad.new.seats.items c.args.number c.put.new.place (subst Q (sym c.put.ensures) (c.new.ensures.goes container)) (c.pad.ensures.goes container (subst P (sym c.self.view_is) all))
