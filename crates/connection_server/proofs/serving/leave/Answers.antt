use Rattle.std.proofs.Common.{◌∙◌, arith}
use Rattle.connection_server.specs.Stands.{Stand, began_at}
use Rattle.container_core.specs.Container.{events_of}
use Rattle.connection_server.proofs.Beginning.{of_site}
use Rattle.connection_server.proofs.Growing.{held_home, held_lock, held_seen}
use Rattle.connection_server.proofs.Leaving.{Laws, Leaves, left_so}
use Rattle.connection_server.proofs.serving.leave.Goals as goal

pub returns-clause-container : goal.returns-clause-container
returns-clause-container g c =
    let held = c.drop_call.ensures.held in (
      held_lock c.args.container.now c.drop_call.new.seat (events_of held.0) (events_of held.1) held.2.hold ∙ c.requires.container.0,
      held_home c.args.container.now c.drop_call.new.seat (events_of held.0) (events_of held.1) held.2.hold,
    )

pub returns-clause-windows : goal.returns-clause-windows
returns-clause-windows g c =
    let held = c.drop_passes.ensures.held in (
      held_lock c.args.windows.now c.drop_passes.new.seat held.0.history held.1.history held.2.hold ∙ c.requires.windows.0,
      held_home c.args.windows.now c.drop_passes.new.seat held.0.history held.1.history held.2.hold,
    )

pub returns-clause-served : goal.returns-clause-served
returns-clause-served g c = λ rest ends.
    let service = g.B.Outset.service in
    let begun = g.B.Outset.begun in
    let now : Stand = record rest { container = c.args.container.now; windows = c.args.windows.now } in
    let inside = c.drop_call.ensures.held in
    let outside = c.drop_passes.ensures.held in
    let laws : Laws g.L.Link.makes g.R.Random.gives service begun now c.args.connection = record {
      later = λ start history after course s on serves. c.connections_are_served_from_their_begin.ensures.meanwhile service start (began_at begun) history after rest.counts rest.counts rest.moment rest.moment course s on
          (record { hushed = omega arith; got = omega arith }) (omega arith) serves;
      no_more = λ start history course s serves. c.connections_are_served_from_their_begin.ensures.ended service start (began_at begun) history rest.counts rest.moment course s serves;
      up = λ start history course s serves. c.connections_are_served_from_their_begin.ensures.given_up service start (began_at begun) history rest.counts rest.moment course s serves;
      back = λ start history course s stage windows after gives left serves. c.connections_are_served_from_their_begin.ensures.given_back service start (began_at begun) history rest.counts rest.moment course s stage windows after gives left serves;
      item = λ start history course i s stage has takes serves. c.connections_are_served_from_their_begin.ensures.item service start (began_at begun) history rest.counts rest.moment i course s stage has takes serves;
      rested = λ start history course s rests serves. c.courses_tell_what_was_served.ensures.rested service start (began_at begun) history rest.counts rest.moment course s rests serves;
      ended = λ start history course s end is serves. c.courses_tell_what_was_served.ensures.ended service start (began_at begun) history rest.counts rest.moment course s end is serves;
      rests_at_bytes = c.connections_come_to_rest.ensures.rests_at_bytes;
      rests_at_end = c.connections_come_to_rest.ensures.rests_at_end;
      still = c.connections_come_to_rest.ensures.still;
      kept = c.connections_come_to_rest.ensures.kept;
      dropped = c.connections_come_to_rest.ensures.dropped;
      left = c.connections_come_to_rest.ensures.left;
      behind = c.connections_come_to_rest.ensures.back;
      rests = c.connections_come_to_rest.ensures.rests;
      later_so_far = λ start history after counts course s on so. c.connections_stop_where_memory_is_wanted.ensures.meanwhile service start (began_at begun) history after counts rest.moment rest.moment course s on (omega arith) so;
      up_so_far = λ start history counts course s so. c.connections_stop_where_memory_is_wanted.ensures.given_up service start (began_at begun) history counts rest.moment course s so;
      back_so_far = λ start history counts course s stage windows after gives so. c.connections_stop_where_memory_is_wanted.ensures.given_back service start (began_at begun) history counts rest.moment course s stage windows after gives so;
      item_so_far = λ start history counts course i s stage has takes so. c.connections_stop_where_memory_is_wanted.ensures.item service start (began_at begun) history counts rest.moment i course s stage has takes so;
      nothing_held = c.connections_stop_where_memory_is_wanted.ensures.nothing_held;
      item_held = c.connections_stop_where_memory_is_wanted.ensures.item_held;
      stopped = λ start history counts course s nothing none so. c.courses_tell_what_was_served.ensures.stopped service start (began_at begun) history counts rest.moment course s nothing none so;
    } in
    let leaves : Leaves g.L.Link.makes g.R.Random.gives service begun now c.args.connection c.drop_call.new.seat c.drop_passes.new.seat c.into_items.result = record {
      before = inside.0;
      after = inside.1;
      held = inside.2;
      same = inside.3;
      before_windows = outside.0;
      after_windows = outside.1;
      held_windows = outside.2;
      dropped = c.drop_call.new.shepherd;
      dropped_is = c.drop_call.ensures.stage;
      last = c.drop_passes.new.shepherd;
      gives_back = outside.3;
      last_is = c.drop_passes.ensures.rest;
      none = c.into_items.ensures.none;
      item = c.into_items.ensures.left;
    } in
    let served = left_so g.L.Link.makes g.R.Random.gives service begun now c.args.connection laws c.drop_call.new.seat c.drop_passes.new.seat c.into_items.result leaves c.args.end ends in (
      served,
      of_site service.home c.drop_call.new.seat.seen inside.1 served.start inside.2.left (held_seen c.args.container.now c.drop_call.new.seat (events_of inside.0) (events_of inside.1) inside.2.hold) served.starts served.parts_are served.boot_is,
    )
