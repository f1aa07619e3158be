use Rattle.std.proofs.Common.{ap, refl, subst, sym, []}
use Rattle.auction_calls.specs.declared.action.ActionCall.{ActionCall}
use Rattle.shepherd.specs.declared.shepherd.Shepherd.{Shepherd}
use Rattle.shepherd.specs.declared.shepherd.ShepherdTurn.{ShepherdTurn}
use Rattle.seat_steps.specs.Stepped.{AloneAt}
use Rattle.seat_steps.proofs.alone.advance.Goals as goal

pub advance-requires-clause-holders : goal.advance-requires-clause-holders
advance-requires-clause-holders g c = c.connections_go_on.ensures.own_turn c.args._container.now c.args.connection.now c.requires.turn c.requires.goes.goes_on

pub returns-in-Ok-clause-goes : goal.returns-in-Ok-clause-goes
returns-in-Ok-clause-goes g c = record {
  goes_on = c.connections_go_on.ensures.advance c.args._container.now _ c.args.connection.now c.advance.new.self
      c.requires.turn c.in-Ok.ensures.step c.requires.goes.goes_on;
}

pub returns-in-Err-clause-goes : goal.returns-in-Err-clause-goes
returns-in-Err-clause-goes g c = record {
  goes_on = c.connections_go_on.ensures.wants c.args._container.now c.advance.new.self (ap (λ (s : Shepherd ActionCall). s.wants_memory) c.in-Err.ensures.want);
}

pub returns-in-Ok-clause-alone : goal.returns-in-Ok-clause-alone
returns-in-Ok-clause-alone g c = subst (λ (t : ShepherdTurn). AloneAt c.args.key.now c.args.worker t c.args.connection.now c.advance.new.self []) (sym c.requires.turn)
    (record { steps = c.in-Ok.ensures.step; items_are = refl })
