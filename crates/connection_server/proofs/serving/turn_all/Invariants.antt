use Rattle.std.specs.Prelude.{None}
use Rattle.connection_server.specs.Seats.{AreSeatsOf, ids_of}
use Rattle.connection_server.specs.Serving.{KeepsServing}
use Rattle.connection_server.specs.Stands.{HasCalled, HasGiven, stand_of}
use Rattle.connection_server.proofs.serving.turn_all.Given as goal

abbrev pub invariant-loop : goal.invariant-loop
invariant-loop g l =
    (goal.iterator-loop g).can_next l.iterator' × (goal.iterator-loop g).is_finite l.iterator'
    × AreSeatsOf (ids_of l.shared.container l.shared.windows l.shared.words l.shared.reports) l.container l.windows l.words l.pass
    × HasCalled g.L.Link.makes l.fn.link l.link (λ heard.
    HasGiven g.R.Random.gives l.fn.random l.random None (λ given. KeepsServing g.L.Link.makes g.R.Random.gives g.B.Outset.service g.B.Outset.begun
    (record (stand_of l.container l.windows l.words (g.S.Source.left l.source) (g.S.Source.faults l.source) (g.T.Sink.written l.sink) (g.T.Sink.faults l.sink) (g.L.Link.tally l.link) (g.C.Clock.told l.clock)) { heard = heard; given = given }) l.connection))
