use Rattle.std.proofs.Common.{true, refl, subst, sym, [], ◌∷◌}
use Rattle.shepherd.specs.declared.shepherd.ShepherdTurn.{ShepherdTurn}
use Rattle.seat_steps.specs.Going.{GoesOnAtSeat}
use Rattle.seat_steps.specs.Stepped.{AloneAt}
use Rattle.seat_steps.proofs.alone.take_item.Goals as goal

pub take_item-item-requires : goal.take_item-item-requires
take_item-item-requires g c = c.items_are_for_requests_in_order.ensures.item c.args.connection.now c.requires.turn

pub returns-in-Ok-clause-goes : goal.returns-in-Ok-clause-goes
returns-in-Ok-clause-goes g c = subst (GoesOnAtSeat c.args._container.now) (sym c.take_item-item.ensures.rest) (record {
  goes_on = c.connections_go_on.ensures.item c.args._container.now c.take_item-item.result c.args.connection.now c.take_item-item.new.self.stage
      c.take_item-item.ensures.stage c.requires.goes.goes_on;
})

pub returns-in-Err-clause-goes : goal.returns-in-Err-clause-goes
returns-in-Err-clause-goes g c = record { goes_on = c.connections_go_on.ensures.wants c.args._container.now (record (c.take_item-item.new.self) { wants_memory = true }) refl }

pub returns-in-Ok-clause-alone : goal.returns-in-Ok-clause-alone
returns-in-Ok-clause-alone g c = (
  c.take_item-item.result ∷ [],
  subst (λ (t : ShepherdTurn). AloneAt c.args.key.now c.args.worker t c.args.connection.now c.take_item-item.new.self (c.take_item-item.result ∷ [])) (sym c.requires.turn)
      (record { item = c.take_item-item.result; takes = c.take_item-item.ensures.stage; rest = c.take_item-item.ensures.rest; items_are = refl }),
  c.in-Ok.ensures.ok,
)
