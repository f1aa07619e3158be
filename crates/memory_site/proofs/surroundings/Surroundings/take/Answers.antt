use Rattle.std.proofs.Common.{ℕ, refl, subst, sym}
use Rattle.link_memory.specs.Script.{script_tally}
use Rattle.memory_site.specs.Steps.{StepsAt, SurroundingsValue, TakesThere, WantsAt, value_of}
use Rattle.memory_site.specs.declared.steps.StepEnd.TheVariants as ends
use Rattle.memory_site.specs.declared.surroundings.TheConstants.{NODE}
use Rattle.outside.specs.Clock.{PlainClockValue}
use Rattle.outside.specs.Random.{PlainGives}
use Rattle.outside.specs.Serials.{PlainLooks}
use Rattle.request_visit.specs.Stepping.{counted}
use Rattle.shepherd.specs.Steps.{TakesRequest}
use Rattle.shepherd.specs.declared.shepherd.ShepherdTurn.{ShepherdTurn}
use Rattle.memory_site.proofs.surroundings.Surroundings.take.Goals as goal

pub returns-in-Ok-clause-goes : goal.returns-in-Ok-clause-goes
returns-in-Ok-clause-goes c = record {
  goes_on = c.taken_requests_go_on.ensures c.args.self.now.container _ _ _ c.args.shepherd.now c.take_request.new.self _ _ _ _ _ _
      c.in-Ok.ensures.taken c.requires.goes.goes_on;
}

pub returns-in-Err-clause-goes : goal.returns-in-Err-clause-goes
returns-in-Err-clause-goes c = record { goes_on = c.connections_go_on.ensures.wants c.args.self.now.container c.take_request.new.self c.in-Err.ensures.want }

pub returns-in-Ok-clause-told : goal.returns-in-Ok-clause-told
returns-in-Ok-clause-told c =
    let after : SurroundingsValue = record (value_of c.args.self.now) { clock = c.take_request.new.clock; random = c.take_request.new.random; serials = c.take_request.new.serials } in
    let taken : TakesThere (value_of c.args.self.now) c.args.shepherd.now after c.take_request.new.self =
    subst (λ (boot : ℕ). TakesRequest (λ (clock : PlainClockValue). clock.told.0) PlainGives PlainLooks c.args.self.now.key (record { node = NODE; boot = boot }) (counted (script_tally c.args.self.now.link)) c.args.shepherd.now c.args.self.now.clock c.args.self.now.random c.args.self.now.serials c.take_request.new.self c.take_request.new.clock c.take_request.new.random c.take_request.new.serials) c.boot-boot.ensures c.in-Ok.ensures.taken in
    subst (λ (t : ShepherdTurn). StepsAt t (value_of c.args.self.now) c.args.shepherd.now ends.Called after c.take_request.new.self)
    (sym c.requires.turn) (refl, taken, refl)

pub returns-in-Err-clause-rest : goal.returns-in-Err-clause-rest
returns-in-Err-clause-rest c = subst (λ (t : ShepherdTurn). WantsAt t (value_of c.args.self.now) c.args.shepherd.now (record (value_of c.args.self.now) { clock = c.take_request.new.clock; random = c.take_request.new.random; serials = c.take_request.new.serials }) c.take_request.new.self)
    (sym c.requires.turn) (c.in-Err.ensures.same, c.in-Err.ensures.want, refl)
