use Rattle.std.proofs.Common.{◌∙◌, subst, sym}
use Rattle.connection_server.specs.Stands.{GivesAll, Stand, stand_of}
use Rattle.connection_server.proofs.Drawn.{goes_on}
use Rattle.connection_server.proofs.Turned.{ended_comes}
use Rattle.connection_server.proofs.serving.turn_once.Goals as goal

pub returns-in-Bytes-clause-comes : goal.returns-in-Bytes-clause-comes
returns-in-Bytes-clause-comes g c = λ from first called.
    let now : Stand = record (stand_of c.args.container.now c.args.windows.now c.args.words.now (g.S.Source.left c.args.source.now) (g.S.Source.faults c.args.source.now) (g.T.Sink.written c.args.sink.now) (g.T.Sink.faults c.args.sink.now) (g.L.Link.tally c.args.link.now) (g.C.Clock.told c.args.clock.now)) { heard = called.heard; given = called.so.given } in
    record { heard = called.heard; leads = called.leads; so = record { given = called.so.given; reached = called.so.reached; leads = called.so.leads; stays = λ other. called.so.stays goes_on; so = c.read.ensures now called.so.so } }

pub returns-in-Request-clause-comes : goal.returns-in-Request-clause-comes
returns-in-Request-clause-comes g c = λ from first called.
    let now : Stand = record (stand_of c.args.container.now c.args.windows.now c.args.words.now (g.S.Source.left c.args.source.now) (g.S.Source.faults c.args.source.now) (g.T.Sink.written c.args.sink.now) (g.T.Sink.faults c.args.sink.now) (g.L.Link.tally c.args.link.now) (g.C.Clock.told c.args.clock.now)) { heard = called.heard; given = called.so.given } in
    record { heard = called.heard; leads = called.leads; so = c.take_request.ensures.on now first (subst (λ (r : g.row.R.Denot). GivesAll g.R.Random.gives first called.so.given r) (called.so.stays goes_on) called.so.leads) called.so.so }

pub returns-in-Outside-clause-comes : goal.returns-in-Outside-clause-comes
returns-in-Outside-clause-comes g c = λ from first called.
    let now : Stand = record (stand_of c.args.container.now c.args.windows.now c.args.words.now (g.S.Source.left c.args.source.now) (g.S.Source.faults c.args.source.now) (g.T.Sink.written c.args.sink.now) (g.T.Sink.faults c.args.sink.now) (g.L.Link.tally c.args.link.now) (g.C.Clock.told c.args.clock.now)) { heard = called.heard; given = called.so.given } in
    let made = c.call_link.ensures now from called.leads called.so.so in
    record { heard = made.heard; leads = made.leads; so = record { given = called.so.given; reached = called.so.reached; leads = called.so.leads; stays = λ other. called.so.stays goes_on; so = made.so } }

pub returns-in-Windows-clause-comes : goal.returns-in-Windows-clause-comes
returns-in-Windows-clause-comes g c = λ from first called.
    let now : Stand = record (stand_of c.args.container.now c.args.windows.now c.args.words.now (g.S.Source.left c.args.source.now) (g.S.Source.faults c.args.source.now) (g.T.Sink.written c.args.sink.now) (g.T.Sink.faults c.args.sink.now) (g.L.Link.tally c.args.link.now) (g.C.Clock.told c.args.clock.now)) { heard = called.heard; given = called.so.given } in
    record { heard = called.heard; leads = called.leads; so = record { given = called.so.given; reached = called.so.reached; leads = called.so.leads; stays = λ other. called.so.stays goes_on; so = c.call_windows.ensures.on now called.so.so } }

pub returns-in-Inside-clause-comes : goal.returns-in-Inside-clause-comes
returns-in-Inside-clause-comes g c = λ from first called.
    let now : Stand = record (stand_of c.args.container.now c.args.windows.now c.args.words.now (g.S.Source.left c.args.source.now) (g.S.Source.faults c.args.source.now) (g.T.Sink.written c.args.sink.now) (g.T.Sink.faults c.args.sink.now) (g.L.Link.tally c.args.link.now) (g.C.Clock.told c.args.clock.now)) { heard = called.heard; given = called.so.given } in
    record { heard = called.heard; leads = called.leads; so = record { given = called.so.given; reached = called.so.reached; leads = called.so.leads; stays = λ other. called.so.stays goes_on; so = c.call_container.ensures.on now called.so.so } }

pub call_container-requires-clause-serving : goal.call_container-requires-clause-serving
call_container-requires-clause-serving g c κs within =
    let called = c.requires.serving.2 in
    (record (stand_of c.args.container.now c.args.windows.now c.args.words.now (g.S.Source.left c.args.source.now) (g.S.Source.faults c.args.source.now) (g.T.Sink.written c.args.sink.now) (g.T.Sink.faults c.args.sink.now) (g.L.Link.tally c.args.link.now) (g.C.Clock.told c.args.clock.now)) { heard = called.heard; given = called.so.given }, called.so.so)

pub returns-in-Program-clause-comes : goal.returns-in-Program-clause-comes
returns-in-Program-clause-comes g c = λ from first called.
    let now : Stand = record (stand_of c.args.container.now c.args.windows.now c.args.words.now (g.S.Source.left c.args.source.now) (g.S.Source.faults c.args.source.now) (g.T.Sink.written c.args.sink.now) (g.T.Sink.faults c.args.sink.now) (g.L.Link.tally c.args.link.now) (g.C.Clock.told c.args.clock.now)) { heard = called.heard; given = called.so.given } in
    record { heard = called.heard; leads = called.leads; so = record { given = called.so.given; reached = called.so.reached; leads = called.so.leads; stays = λ other. called.so.stays goes_on; so = c.make_program.ensures now called.so.so } }

pub make_program-requires-clause-serving : goal.make_program-requires-clause-serving
make_program-requires-clause-serving g c =
    let called = c.requires.serving.2 in
    (record (stand_of c.args.container.now c.args.windows.now c.args.words.now (g.S.Source.left c.args.source.now) (g.S.Source.faults c.args.source.now) (g.T.Sink.written c.args.sink.now) (g.T.Sink.faults c.args.sink.now) (g.L.Link.tally c.args.link.now) (g.C.Clock.told c.args.clock.now)) { heard = called.heard; given = called.so.given }, called.so.so)

pub returns-in-Own-clause-comes : goal.returns-in-Own-clause-comes
returns-in-Own-clause-comes g c = λ from first called.
    let now : Stand = record (stand_of c.args.container.now c.args.windows.now c.args.words.now (g.S.Source.left c.args.source.now) (g.S.Source.faults c.args.source.now) (g.T.Sink.written c.args.sink.now) (g.T.Sink.faults c.args.sink.now) (g.L.Link.tally c.args.link.now) (g.C.Clock.told c.args.clock.now)) { heard = called.heard; given = called.so.given } in
    record { heard = called.heard; leads = called.leads; so = record { given = called.so.given; reached = called.so.reached; leads = called.so.leads; stays = λ other. called.so.stays goes_on; so = c.advance.ensures now called.so.so } }

pub advance-requires-clause-serving : goal.advance-requires-clause-serving
advance-requires-clause-serving g c κs within =
    let called = c.requires.serving.2 in
    (record (stand_of c.args.container.now c.args.windows.now c.args.words.now (g.S.Source.left c.args.source.now) (g.S.Source.faults c.args.source.now) (g.T.Sink.written c.args.sink.now) (g.T.Sink.faults c.args.sink.now) (g.L.Link.tally c.args.link.now) (g.C.Clock.told c.args.clock.now)) { heard = called.heard; given = called.so.given }, called.so.so)

pub returns-in-Output-clause-comes : goal.returns-in-Output-clause-comes
returns-in-Output-clause-comes g c = λ from first called.
    let now : Stand = record (stand_of c.args.container.now c.args.windows.now c.args.words.now (g.S.Source.left c.args.source.now) (g.S.Source.faults c.args.source.now) (g.T.Sink.written c.args.sink.now) (g.T.Sink.faults c.args.sink.now) (g.L.Link.tally c.args.link.now) (g.C.Clock.told c.args.clock.now)) { heard = called.heard; given = called.so.given } in
    record { heard = called.heard; leads = called.leads; so = record { given = called.so.given; reached = called.so.reached; leads = called.so.leads; stays = λ other. called.so.stays goes_on; so = c.put_out.ensures now called.so.so } }

pub returns-in-Item-clause-comes : goal.returns-in-Item-clause-comes
returns-in-Item-clause-comes g c = λ from first called.
    let now : Stand = record (stand_of c.args.container.now c.args.windows.now c.args.words.now (g.S.Source.left c.args.source.now) (g.S.Source.faults c.args.source.now) (g.T.Sink.written c.args.sink.now) (g.T.Sink.faults c.args.sink.now) (g.L.Link.tally c.args.link.now) (g.C.Clock.told c.args.clock.now)) { heard = called.heard; given = called.so.given } in
    record { heard = called.heard; leads = called.leads; so = record { given = called.so.given; reached = called.so.reached; leads = called.so.leads; stays = λ other. called.so.stays goes_on; so = c.take_item.ensures now called.so.so } }

pub returns-in-Ended-clause-comes : goal.returns-in-Ended-clause-comes
returns-in-Ended-clause-comes g c = λ from first called.
    let now : Stand = record (stand_of c.args.container.now c.args.windows.now c.args.words.now (g.S.Source.left c.args.source.now) (g.S.Source.faults c.args.source.now) (g.T.Sink.written c.args.sink.now) (g.T.Sink.faults c.args.sink.now) (g.L.Link.tally c.args.link.now) (g.C.Clock.told c.args.clock.now)) { heard = called.heard; given = called.so.given } in
    record { heard = called.heard; leads = called.leads; so = record { given = called.so.given; reached = called.so.reached; leads = called.so.leads; stays = λ other. called.so.stays goes_on; so = rw c.ended_so.ensures (ended_comes g.L.Link.makes g.R.Random.gives g.B.Outset.service g.B.Outset.begun now c.args.connection.now called.so.so c.in-Ended.end (sym c.turn.ensures ∙ c.in-Ended.is)) } }
