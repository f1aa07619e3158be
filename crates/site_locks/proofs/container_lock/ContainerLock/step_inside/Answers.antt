use Rattle.std.proofs.Common.{◌≡◌, Bool, IfOk, List, sym, ap, subst}
use Rattle.container_core.specs.Container.{events_of}
use Rattle.container_core.specs.History.{is_stopped}
use Rattle.container_core.specs.declared.history.Event.{Event}
use Rattle.turn_lock.specs.Seats.{SeatValue}
use Rattle.site_locks.specs.Holds.{Holds, Tells}
use Rattle.site_locks.proofs.Seeing.{seen_begins}
use Rattle.site_locks.proofs.container_lock.ContainerLock.step_inside.Goals as goal

pub step_inside-answer-requires-clause-goes : goal.step_inside-answer-requires-clause-goes
step_inside-answer-requires-clause-goes g c κs within =
    let found = c.take-container.result in
    c.connections_go_on.ensures.meanwhile c.requires.goes.container found c.args.shepherd.now
    (c.histories_tell_their_containers.ensures c.args.seat.now.seen (events_of found) c.requires.goes.container found c.requires.goes.tells c.take-container.ensures.told c.take-container.ensures.begun)
    c.requires.goes.goes_on

pub returns-clause-held : goal.returns-clause-held
returns-clause-held g c = (
  c.take-container.result,
  c.step_inside-answer.new.container,
  c.give.ensures c.args.seat.now c.take-container.result c.take-container.ensures c.step_inside-answer.ensures.grown,
  c.step_inside-answer.ensures.step,
)

pub returns-clause-goes : goal.returns-clause-goes
returns-clause-goes g c =
    let after = c.step_inside-answer.new.container in
    let holds : Holds c.args.seat.now c.give.new.seat c.take-container.result after =
    c.give.ensures c.args.seat.now c.take-container.result c.take-container.ensures c.step_inside-answer.ensures.grown in
    record {
      container = after;
      tells = subst (λ (history : List Event). Tells history after) (sym (ap (λ (s : SeatValue Event). s.seen) holds.hold.seat)) holds.left;
      goes_on = c.step_inside-answer.ensures.goes;
    }

pub returns-clause-stopped : goal.returns-clause-stopped
returns-clause-stopped g c =
    let holds : Holds c.args.seat.now c.give.new.seat c.take-container.result c.step_inside-answer.new.container =
    c.give.ensures c.args.seat.now c.take-container.result c.take-container.ensures c.step_inside-answer.ensures.grown in
    subst (λ (history : List Event). IfOk c.step_inside-answer.result (λ (stopped : Bool). stopped ≡ is_stopped history)) (sym (ap (λ (s : SeatValue Event). s.seen) holds.hold.seat)) c.step_inside-answer.ensures.step.stopped

pub returns-clause-seen : goal.returns-clause-seen
returns-clause-seen g c =
    let found = c.take-container.result in
    let after = c.step_inside-answer.new.container in
    seen_begins c.args.seat.now c.give.new.seat (events_of found) (events_of after) (c.give.ensures c.args.seat.now found c.take-container.ensures c.step_inside-answer.ensures.grown).hold
