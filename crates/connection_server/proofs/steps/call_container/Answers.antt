use Rattle.std.proofs.Common.{◌∙◌, arith, ap, refl}
use Rattle.auction_calls.specs.declared.action.ActionCall.{ActionCall}
use Rattle.auction_site.specs.Actions.{steps_of}
use Rattle.container_core.specs.Container.{events_of}
use Rattle.shepherd.specs.Shepherds.{turn}
use Rattle.shepherd.specs.Steps.{IsServedStill}
use Rattle.shepherd.specs.declared.shepherd.Shepherd.{Shepherd}
use Rattle.connection_server.specs.Stands.{Stand, began_at}
use Rattle.connection_server.specs.Turning.{heeded}
use Rattle.connection_server.proofs.Growing.{held_home, held_lock}
use Rattle.connection_server.proofs.Heeding.{inside, stepped}
use Rattle.connection_server.proofs.Moving.{container_held, container_wanted}
use Rattle.connection_server.proofs.Turned.{heeded_before, heeded_found, still_holds}
use Rattle.connection_server.proofs.steps.call_container.Goals as goal

pub step_inside-requires-clause-goes : goal.step_inside-requires-clause-goes
step_inside-requires-clause-goes g c κs within =
    let goes = c.requires.serving.1.served.serves.goes in
    record { container = goes.container; tells = record { events = goes.events_are; journal = goes.journal }; goes_on = goes.goes_on }

pub returns-in-Ok-clause-seat : goal.returns-in-Ok-clause-seat
returns-in-Ok-clause-seat g c =
    let held = c.in-Ok.ensures.held in (
      held_lock c.args.seat.now c.step_inside.new.seat (events_of held.0) (events_of held.1) held.2.hold ∙ c.requires.seat.0,
      held_home c.args.seat.now c.step_inside.new.seat (events_of held.0) (events_of held.1) held.2.hold,
    )

pub returns-in-Err-clause-seat : goal.returns-in-Err-clause-seat
returns-in-Err-clause-seat g c =
    let held = c.in-Err.ensures.held in (
      held_lock c.args.seat.now c.step_inside.new.seat (events_of held.0) (events_of held.1) held.2.hold ∙ c.requires.seat.0,
      held_home c.args.seat.now c.step_inside.new.seat (events_of held.0) (events_of held.1) held.2.hold,
    )

pub returns-in-Ok-clause-on : goal.returns-in-Ok-clause-on
returns-in-Ok-clause-on g c = λ rest k.
    let old = c.args.connection.now in
    let now : Stand = record rest { container = c.args.seat.now } in
    let held = c.in-Ok.ensures.held in
    let before = held.0 in
    let after = held.1 in
    let step = held.3.step in
    let new = c.step_inside.new.shepherd in
    container_held g.L.Link.makes g.R.Random.gives g.B.Outset.service g.B.Outset.begun now c.step_inside.new.seat before after old c.heed.new.self (c.heed.ensures.rest.0) (ap (λ (s : Shepherd ActionCall). s.ended) (c.heed.ensures.rest.1 ∙ step.rest)) held.2
    (λ start course serves. rw c.heed.ensures.rest.1 (c.connections_are_served_behind_their_steps.ensures.inside g.B.Outset.service start (began_at g.B.Outset.begun) now.container.seen rest.counts rest.moment course old.shepherd new
    before after held.2.hold.begun held.2.found.journal held.2.left.journal held.2.grown step serves))
    (λ heeds. rw (c.heed.ensures.rest.1, c.heed.ensures.stopped)
    (inside steps_of old.items.items old.stopped (heeded (turn new) old.stopped c.in-Ok.stopped) c.in-Ok.stopped old.shepherd.stage new.stage before after step.steps held.3.stopped
    (λ v call at within. heeded_before new v call c.in-Ok.stopped old.stopped (ap (λ (s : Shepherd ActionCall). s.wants_memory) step.rest ∙ k.served.serves.remembers) at within)
    (λ v call at within. heeded_found new v call c.in-Ok.stopped old.stopped (ap (λ (s : Shepherd ActionCall). s.wants_memory) step.rest ∙ k.served.serves.remembers) at within)
    heeds))
    k

pub returns-in-Err-clause-on : goal.returns-in-Err-clause-on
returns-in-Err-clause-on g c = λ rest k.
    let old = c.args.connection.now in
    let now : Stand = record rest { container = c.args.seat.now } in
    let held = c.in-Err.ensures.held in
    let before = held.0 in
    let after = held.1 in
    let new = c.step_inside.new.shepherd in
    container_wanted g.L.Link.makes g.R.Random.gives g.B.Outset.service g.B.Outset.begun now c.step_inside.new.seat before after old _ (record { items = refl; stopped = refl }) held.2 held.3.nothing
    (λ start history on course serves. c.connections_stop_where_memory_is_wanted.ensures.inside g.B.Outset.service start (began_at g.B.Outset.begun) history rest.counts rest.moment course old.shepherd new held.3.still
    (c.connections_are_served_from_their_begin.ensures.meanwhile g.B.Outset.service start (began_at g.B.Outset.begun) now.container.seen history rest.counts rest.counts rest.moment rest.moment course old.shepherd on
    (record { hushed = omega arith; got = omega arith }) (omega arith) serves))
    (λ heeds. stepped (events_of after) old.items.items old.stopped IsServedStill old.shepherd.stage new.stage still_holds held.3.still heeds)
    k
