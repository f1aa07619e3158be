use Rattle.std.proofs.Common.{ap, refl, subst, sym}
use Rattle.auction_calls.specs.declared.action.ActionCall.{ActionCall}
use Rattle.memory_site.specs.Going.{GoesOnAtSite}
use Rattle.memory_site.specs.Steps.{StepsAt, WantsAt, value_of}
use Rattle.memory_site.specs.declared.steps.StepEnd.TheVariants as ends
use Rattle.shepherd.specs.declared.shepherd.Shepherd.{Shepherd}
use Rattle.shepherd.specs.declared.shepherd.ShepherdTurn.{ShepherdTurn}
use Rattle.memory_site.proofs.surroundings.Surroundings.make_program.Goals as goal

pub open-requires-clause-asked : goal.open-requires-clause-asked
open-requires-clause-asked c = c.connections_go_on.ensures.program_turn c.args.self.now.container c.args.shepherd.now c.requires.turn c.requires.goes.goes_on

pub returns-in-Ok-clause-goes : goal.returns-in-Ok-clause-goes
returns-in-Ok-clause-goes c = subst (GoesOnAtSite c.args.self.now.container) (sym c.in-Ok.ensures.rest) (record {
  goes_on = c.connections_go_on.ensures.open c.args.self.now.container c.args.shepherd.now c.open.new.self.stage _ _
      c.requires.turn (λ call text program made. (c.args.self.now.of_site, (c.site_programs_are_accepted.ensures.accepted _ call text program made).1))
      c.in-Ok.ensures.stage c.requires.goes.goes_on;
})

pub returns-in-Err-clause-goes : goal.returns-in-Err-clause-goes
returns-in-Err-clause-goes c = record { goes_on = c.connections_go_on.ensures.wants c.args.self.now.container c.open.new.self (ap (λ (s : Shepherd ActionCall). s.wants_memory) c.in-Err.ensures.want) }

pub returns-in-Ok-clause-told : goal.returns-in-Ok-clause-told
returns-in-Ok-clause-told c = subst (λ (t : ShepherdTurn). StepsAt t (value_of c.args.self.now) c.args.shepherd.now ends.Alone (value_of c.args.self.now) c.open.new.self)
    (sym c.requires.turn) (refl, (_, c.in-Ok.ensures.stage), c.in-Ok.ensures.rest, refl)

pub returns-in-Err-clause-rest : goal.returns-in-Err-clause-rest
returns-in-Err-clause-rest c = subst (λ (t : ShepherdTurn). WantsAt t (value_of c.args.self.now) c.args.shepherd.now (value_of c.args.self.now) c.open.new.self)
    (sym c.requires.turn) (c.in-Err.ensures.unmade, c.in-Err.ensures.want, refl)
