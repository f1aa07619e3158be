use Rattle.std.proofs.Common.{List, [], ◌∙◌, ap, refl, subst}
use Rattle.outcome_items.specs.declared.item.Item.{Item}
use Rattle.served_connections.specs.Courses.{no_course}
use Rattle.served_items.specs.Attributing.{Service}
use Rattle.shepherd.specs.Shepherds.{fresh}
use Rattle.shepherd.specs.Standing.{last_front}
use Rattle.site_programs.specs.declared.maker.SiteMaker.{SiteMaker}
use Rattle.connection_server.specs.Seats.{IsOfSite}
use Rattle.connection_server.specs.Stands.{Stand, began_at, stand_of}
use Rattle.connection_server.proofs.Beginning.{begins_there, site_there, unbegun_there}
use Rattle.connection_server.proofs.serving.serve_with.Goals as goal

pub returns-in-Err-clause-served : goal.returns-in-Err-clause-served
returns-in-Err-clause-served g c =
    let service = g.B.Outset.service in
    let begun = g.B.Outset.begun in
    let now : Stand = stand_of c.args.container.now c.args.windows.now c.args.words.now (g.S.Source.left c.args.source.now) (g.S.Source.faults c.args.source.now) (g.T.Sink.written c.args.sink.now) (g.T.Sink.faults c.args.sink.now) (g.L.Link.tally c.args.link.now) (g.C.Clock.told c.args.clock.now) in
    let site = site_there service c.args.shared.now.key c.args.shared.now.home begun now c.requires.service c.requires.begun c.requires.site in
    rw c.unbegun.ensures
    (record {
      served = record {
        heard = [];
        leads = refl;
        so = record {
          given = [];
          reached = c.args.random.now;
          leads = refl;
          stays = λ other. refl;
          so = unbegun_there g.L.Link.makes g.R.Random.gives service begun now c.requires.begun c.requires.seats.container_home c.requires.seats.windows_home site
              (c.courses_tell_what_was_served.ensures.rested service site.container.boot.start (began_at begun) begun.container.seen begun.counts begun.moment no_course fresh tt
              (c.connections_are_served_from_their_begin.ensures.begins service begun.container.seen site.container begun.counts begun.moment site.tells.events site.tells.journal));
        };
      };
      front_is = refl;
    })

pub turn_all-ended-requires-clause-serving : goal.turn_all-ended-requires-clause-serving
turn_all-ended-requires-clause-serving g c κs within =
    let service = g.B.Outset.service in
    let begun = g.B.Outset.begun in
    let now : Stand = stand_of c.args.container.now c.args.windows.now c.args.words.now (g.S.Source.left c.args.source.now) (g.S.Source.faults c.args.source.now) (g.T.Sink.written c.args.sink.now) (g.T.Sink.faults c.args.sink.now) (g.L.Link.tally c.args.link.now) (g.C.Clock.told c.args.clock.now) in
    let site = site_there service c.args.shared.now.key c.args.shared.now.home begun now c.requires.service c.requires.begun c.requires.site in
    let made = c.in-Ok.ensures in
    (begins_there g.L.Link.makes g.R.Random.gives service begun now c.requires.begun c.requires.seats.container_home c.requires.seats.windows_home site c.in-Ok.connection made.0 made.1 made.2
    (c.connections_are_served_from_their_begin.ensures.begins service begun.container.seen site.container begun.counts begun.moment site.tells.events site.tells.journal))

pub returns-clause-site : goal.returns-clause-site
returns-clause-site g c =
    let end = c.turn_all-ended.new in
    let called = c.turn_all-ended.ensures.ends in
    let now : Stand = record (stand_of end.container end.windows end.words (g.S.Source.left end.source) (g.S.Source.faults end.source) (g.T.Sink.written end.sink) (g.T.Sink.faults end.sink) (g.L.Link.tally end.link) (g.C.Clock.told end.clock)) { heard = called.heard; given = called.so.given } in
    subst (λ (x : Service SiteMaker). IsOfSite x.home c.leave-items.new.container.seen) c.requires.service (c.leave-items.ensures.served now called.so.so).1

pub returns-clause-served : goal.returns-clause-served
returns-clause-served g c =
    let end = c.turn_all-ended.new in
    let called = c.turn_all-ended.ensures.ends in
    let now : Stand = record (stand_of end.container end.windows end.words (g.S.Source.left end.source) (g.S.Source.faults end.source) (g.T.Sink.written end.sink) (g.T.Sink.faults end.sink) (g.L.Link.tally end.link) (g.C.Clock.told end.clock)) { heard = called.heard; given = called.so.given } in
    (record {
      served = record {
        heard = called.heard;
        leads = called.leads;
        so = record {
          given = called.so.given;
          reached = called.so.reached;
          leads = called.so.leads;
          stays = called.so.stays;
          so = (c.leave-items.ensures.served now called.so.so).0;
        };
      };
      front_is = c.last_front-front.ensures ∙ ap (λ (is : List Item). last_front (record { 0 = 0 }) is) c.as_slice.ensures;
    })
