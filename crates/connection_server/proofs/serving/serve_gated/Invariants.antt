use Rattle.connection_server.specs.Serving.{service_of}
use Rattle.connection_server.specs.Stands.{stand_of}
use Rattle.connection_server.proofs.serving.serve_gated.Given as goal

-- what the call is given, and where it stands
abbrev pub ghosts-serve_with : goal.ghosts-serve_with
ghosts-serve_with g a = record {
  service = service_of a.shared.now.key a.shared.now.home;
  begun = stand_of a.container.now a.windows.now a.words.now (g.S.Source.left a.source.now) (g.S.Source.faults a.source.now) (g.T.Sink.written a.sink.now) (g.T.Sink.faults a.sink.now) (g.L.Link.tally a.link.now)
      (g.C.Clock.told a.clock.now);
}
