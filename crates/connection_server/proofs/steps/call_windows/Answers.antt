use Rattle.std.proofs.Common.{◌≡◌, ◌∙◌, arith, ap, refl}
use Rattle.auction_calls.specs.declared.action.ActionCall.{ActionCall}
use Rattle.request_visit.specs.Stepping.{VisitsWindows}
use Rattle.request_visit.specs.declared.visit.Visit.{Visit}
use Rattle.shepherd.specs.declared.shepherd.Shepherd.{Shepherd}
use Rattle.connection_server.specs.Stands.{Stand, began_at}
use Rattle.connection_server.proofs.Growing.{held_home, held_lock}
use Rattle.connection_server.proofs.Heeding.{stepped}
use Rattle.connection_server.proofs.Kept.{windows_keep}
use Rattle.connection_server.proofs.Moving.{windows_held, windows_wanted}
use Rattle.connection_server.proofs.steps.call_windows.Goals as goal

pub returns-in-Ok-clause-on : goal.returns-in-Ok-clause-on
returns-in-Ok-clause-on g c = λ rest k.
    let old = c.args.connection.now in
    let now : Stand = record rest { windows = c.args.seat.now } in
    let held = c.in-Ok.ensures.held in
    let limits = held.2.found in
    windows_held g.L.Link.makes g.R.Random.gives g.B.Outset.service g.B.Outset.begun now c.step.new.seat held.0 held.1 old _ (record { items = refl; stopped = refl }) (ap (λ (s : Shepherd ActionCall). s.ended) held.3.step.rest) held.2
    (λ start course serves. c.connections_are_served_behind_their_steps.ensures.windows g.B.Outset.service start (began_at g.B.Outset.begun) rest.container.seen rest.counts rest.moment course old.shepherd c.step.new.shepherd
    held.0 held.1 c.requires.turn limits.some (omega (arith, limits.enough, limits.within, limits.few)) held.3.step serves)
    (λ heeds. stepped rest.container.seen old.items.items old.stopped (λ (v : Visit ActionCall) w. VisitsWindows v held.0 w held.1) old.shepherd.stage c.step.new.shepherd.stage
    (λ v w so. windows_keep v held.0 w held.1 so) held.3.step.steps heeds)
    k

pub returns-in-Err-clause-on : goal.returns-in-Err-clause-on
returns-in-Err-clause-on g c = λ rest k.
    let old = c.args.connection.now in
    let now : Stand = record rest { windows = c.args.seat.now } in
    let held = c.in-Err.ensures.held in
    windows_wanted g.L.Link.makes g.R.Random.gives g.B.Outset.service g.B.Outset.begun now c.step.new.seat held.0 held.1 old _ (record { items = refl; stopped = refl }) held.2
    (λ start course serves. c.connections_stop_where_memory_is_wanted.ensures.windows g.B.Outset.service start (began_at g.B.Outset.begun) rest.container.seen rest.counts rest.moment course old.shepherd c.step.new.shepherd
    held.0 held.1 held.3.held held.3.rest serves)
    (λ heeds. stepped rest.container.seen old.items.items old.stopped (λ (v : Visit ActionCall) w. w ≡ record v { way = w.way }) old.shepherd.stage c.step.new.shepherd.stage
    (λ v w so. ap (λ (x : Visit ActionCall). x.holds) so) held.3.rest heeds)
    k

pub returns-in-Ok-clause-seat : goal.returns-in-Ok-clause-seat
returns-in-Ok-clause-seat g c =
    let held = c.in-Ok.ensures.held in (
      held_lock c.args.seat.now c.step.new.seat held.0.history held.1.history held.2.hold ∙ c.requires.seat.0,
      held_home c.args.seat.now c.step.new.seat held.0.history held.1.history held.2.hold,
    )

pub returns-in-Err-clause-seat : goal.returns-in-Err-clause-seat
returns-in-Err-clause-seat g c =
    let held = c.in-Err.ensures.held in (
      held_lock c.args.seat.now c.step.new.seat held.0.history held.1.history held.2.hold ∙ c.requires.seat.0,
      held_home c.args.seat.now c.step.new.seat held.0.history held.1.history held.2.hold,
    )
