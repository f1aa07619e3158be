use Rattle.std.proofs.Common.{ap, refl, subst, sym, []}
use Rattle.auction_calls.specs.declared.action.ActionCall.{ActionCall}
use Rattle.shepherd.specs.declared.shepherd.Shepherd.{Shepherd}
use Rattle.shepherd.specs.declared.shepherd.ShepherdTurn.{ShepherdTurn}
use Rattle.seat_steps.specs.Going.{GoesOnAtSeat}
use Rattle.seat_steps.specs.Stepped.{AloneAt}
use Rattle.seat_steps.proofs.alone.make_program.Goals as goal

pub open-requires-clause-asked : goal.open-requires-clause-asked
open-requires-clause-asked g c = c.connections_go_on.ensures.program_turn c.args._container.now c.args.connection.now c.requires.turn c.requires.goes.goes_on

pub returns-in-Ok-clause-goes : goal.returns-in-Ok-clause-goes
returns-in-Ok-clause-goes g c = subst (GoesOnAtSeat c.args._container.now) (sym c.in-Ok.ensures.rest) (record {
  goes_on = c.connections_go_on.ensures.open c.args._container.now c.args.connection.now c.open.new.self.stage _ _
      c.requires.turn (λ call text program made. (c.requires.site, (c.site_programs_are_accepted.ensures.accepted _ call text program made).1))
      c.in-Ok.ensures.stage c.requires.goes.goes_on;
})

pub returns-in-Err-clause-goes : goal.returns-in-Err-clause-goes
returns-in-Err-clause-goes g c = record {
  goes_on = c.connections_go_on.ensures.wants c.args._container.now c.open.new.self (ap (λ (s : Shepherd ActionCall). s.wants_memory) c.in-Err.ensures.want);
}

pub returns-in-Ok-clause-alone : goal.returns-in-Ok-clause-alone
returns-in-Ok-clause-alone g c = subst (λ (t : ShepherdTurn). AloneAt c.args.key.now c.args.worker t c.args.connection.now c.open.new.self []) (sym c.requires.turn)
    (record { opens = c.in-Ok.ensures.stage; rest = c.in-Ok.ensures.rest; items_are = refl })
