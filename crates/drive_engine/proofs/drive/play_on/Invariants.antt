use Rattle.std.proofs.Common.{◌+◌, ◌≤◌, []}
use Rattle.drive_engine.specs.declared.drive.TheConstants.{MAX_SCENARIO_BYTES}
use Rattle.drive_engine.specs.Exchange.{exchange}
use Rattle.drive_engine.specs.Play.{HasCome}
use Rattle.drive_engine.proofs.drive.play_on.Given as goal

abbrev pub invariant-pieces : goal.invariant-pieces
invariant-pieces g l =
    let left = g.S.Source.left in
    let written = g.T.Sink.written in
    record {
      come : HasCome (exchange (left l.fn.input) (left l.input) (written l.fn.out) (written l.out) l.fn.play.keeper l.play.keeper) l.more [] [] l.play;
      number : l.play.number + l.more ≤ MAX_SCENARIO_BYTES + 1;
      reads : g.S.Source.faults l.fn.input ≤ g.S.Source.faults l.input;
      writes : g.T.Sink.faults l.fn.out ≤ g.T.Sink.faults l.out;
      asks : l.fn.play.keeper.faults ≤ l.play.keeper.faults;
    }

abbrev pub decreases-pieces : goal.decreases-pieces
decreases-pieces g l = l.more
