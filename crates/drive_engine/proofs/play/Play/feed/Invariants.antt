use Rattle.std.proofs.Common.{◌+◌, ◌≤◌, length}
use Rattle.drive_engine.specs.Play.{Comes}
use Rattle.drive_engine.proofs.play.Play.feed.Given as goal

abbrev pub invariant-loop-part : goal.invariant-loop-part
invariant-loop-part g l = record {
  comes : Comes l.fn.self l.piece (g.T.Sink.written l.fn.out) l.fn.self.keeper l.self l.rest (g.T.Sink.written l.out) l.self.keeper;
  number : l.self.number + length l.rest ≤ l.fn.self.number + length l.piece;
  count : g.T.Sink.faults l.fn.out ≤ g.T.Sink.faults l.out;
  keeper_count : l.fn.self.keeper.faults ≤ l.self.keeper.faults;
}

abbrev pub decreases-loop-part : goal.decreases-loop-part
decreases-loop-part g l = length l.rest
