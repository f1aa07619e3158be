use Rattle.std.proofs.Common.{rules, subst, sym}
use Rattle.std.specs.Prelude.{All}
use Rattle.seat_lines.specs.Site.{IsGoingIn, SeatsState}
use Rattle.seat_lines.proofs.Going.{going_at, going_set}
use Rattle.seat_lines.proofs.seats.Seats.bytes_line.Goals as goal

pub returns-clause-goes : goal.returns-clause-goes
returns-clause-goes c = λ container all.
    let P : SeatsState → Type 0 = λ s. All (IsGoingIn container) s.seats in
    let there : All (IsGoingIn container) c.self.inside.seats.items = subst P (sym c.self.view_is) all in
    going_set container c.self.inside.seats.items c.args.number c.feed.new.seat (c.feed.ensures.goes container (search (rules, going_at, there))) there
