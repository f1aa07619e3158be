use Rattle.std.proofs.Common.{ap, refl, subst, sym}
use Rattle.auction_calls.specs.declared.action.ActionCall.{ActionCall}
use Rattle.memory_site.specs.Steps.{StepsAt, WantsAt, value_of}
use Rattle.memory_site.specs.declared.steps.StepEnd.TheVariants as ends
use Rattle.shepherd.specs.declared.shepherd.Shepherd.{Shepherd}
use Rattle.shepherd.specs.declared.shepherd.ShepherdTurn.{ShepherdTurn}
use Rattle.memory_site.proofs.surroundings.Surroundings.call_link.Goals as goal

pub returns-in-Ok-clause-goes : goal.returns-in-Ok-clause-goes
returns-in-Ok-clause-goes c = record {
  goes_on = c.connections_go_on.ensures.outside c.args.self.now.container c.args.shepherd.now c.step_outside.new.self _ _
      c.requires.turn c.in-Ok.ensures.step c.requires.goes.goes_on;
}

pub returns-in-Err-clause-goes : goal.returns-in-Err-clause-goes
returns-in-Err-clause-goes c = record { goes_on = c.connections_go_on.ensures.wants c.args.self.now.container c.step_outside.new.self (ap (λ (s : Shepherd ActionCall). s.wants_memory) c.in-Err.ensures.want) }

pub returns-in-Ok-clause-told : goal.returns-in-Ok-clause-told
returns-in-Ok-clause-told c = subst (λ (t : ShepherdTurn). StepsAt t (value_of c.args.self.now) c.args.shepherd.now ends.Called (record (value_of c.args.self.now) { link = c.step_outside.new.link }) c.step_outside.new.self)
    (sym c.requires.turn) (refl, c.in-Ok.ensures.step, refl)

pub returns-in-Err-clause-rest : goal.returns-in-Err-clause-rest
returns-in-Err-clause-rest c = subst (λ (t : ShepherdTurn). WantsAt t (value_of c.args.self.now) c.args.shepherd.now (record (value_of c.args.self.now) { link = c.step_outside.new.link }) c.step_outside.new.self)
    (sym c.requires.turn) (c.in-Err.ensures.want, refl)
