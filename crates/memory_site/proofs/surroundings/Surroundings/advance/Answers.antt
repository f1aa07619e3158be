use Rattle.std.proofs.Common.{ap, refl, subst, sym}
use Rattle.auction_calls.specs.declared.action.ActionCall.{ActionCall}
use Rattle.memory_site.specs.Steps.{StepsAt, WantsAt, value_of}
use Rattle.memory_site.specs.declared.steps.StepEnd.TheVariants as ends
use Rattle.shepherd.specs.declared.shepherd.Shepherd.{Shepherd}
use Rattle.shepherd.specs.declared.shepherd.ShepherdTurn.{ShepherdTurn}
use Rattle.memory_site.proofs.surroundings.Surroundings.advance.Goals as goal

pub advance-requires-clause-holders : goal.advance-requires-clause-holders
advance-requires-clause-holders c = c.connections_go_on.ensures.own_turn c.args.self.now.container c.args.shepherd.now c.requires.turn c.requires.goes.goes_on

pub returns-in-Ok-clause-goes : goal.returns-in-Ok-clause-goes
returns-in-Ok-clause-goes c = record {
  goes_on = c.connections_go_on.ensures.advance c.args.self.now.container _ c.args.shepherd.now c.advance.new.self
      c.requires.turn c.in-Ok.ensures.step c.requires.goes.goes_on;
}

pub returns-in-Err-clause-goes : goal.returns-in-Err-clause-goes
returns-in-Err-clause-goes c = record { goes_on = c.connections_go_on.ensures.wants c.args.self.now.container c.advance.new.self (ap (λ (s : Shepherd ActionCall). s.wants_memory) c.in-Err.ensures.want) }

pub returns-in-Ok-clause-told : goal.returns-in-Ok-clause-told
returns-in-Ok-clause-told c = subst (λ (t : ShepherdTurn). StepsAt t (value_of c.args.self.now) c.args.shepherd.now ends.Alone (value_of c.args.self.now) c.advance.new.self)
    (sym c.requires.turn) (refl, c.in-Ok.ensures.step, refl)

pub returns-in-Err-clause-rest : goal.returns-in-Err-clause-rest
returns-in-Err-clause-rest c = subst (λ (t : ShepherdTurn). WantsAt t (value_of c.args.self.now) c.args.shepherd.now (value_of c.args.self.now) c.advance.new.self)
    (sym c.requires.turn) (c.in-Err.ensures.holds, c.in-Err.ensures.want, refl)
