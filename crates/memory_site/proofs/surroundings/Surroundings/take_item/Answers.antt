use Rattle.std.proofs.Common.{refl, subst, sym}
use Rattle.memory_site.specs.Going.{GoesOnAtSite}
use Rattle.memory_site.specs.Steps.{StepsAt, value_of}
use Rattle.memory_site.specs.declared.steps.StepEnd.TheVariants as ends
use Rattle.shepherd.specs.declared.shepherd.ShepherdTurn.{ShepherdTurn}
use Rattle.memory_site.proofs.surroundings.Surroundings.take_item.Goals as goal

pub take_item-requires : goal.take_item-requires
take_item-requires c = c.items_are_for_requests_in_order.ensures.item c.args.shepherd.now c.requires.turn

pub returns-clause-goes : goal.returns-clause-goes
returns-clause-goes c = subst (GoesOnAtSite c.args.self.now.container) (sym c.take_item.ensures.rest) (record {
  goes_on = c.connections_go_on.ensures.item c.args.self.now.container c.take_item.result c.args.shepherd.now c.take_item.new.self.stage
      c.take_item.ensures.stage c.requires.goes.goes_on;
})

pub returns-clause-told : goal.returns-clause-told
returns-clause-told c = subst (λ (t : ShepherdTurn). StepsAt t (value_of c.args.self.now) c.args.shepherd.now (ends.Item c.take_item.result) (value_of c.args.self.now) c.take_item.new.self)
    (sym c.requires.turn) (c.take_item.result, refl, c.take_item.ensures.stage, c.take_item.ensures.rest, refl)
