use Rattle.std.proofs.Common.{◌≡◌, ◌≤◌, ◌-◌, drop, length}
use Rattle.outside.specs.Sink.{appended}
use Rattle.serve_command.proofs.last_line.write_rest.Given as goal

abbrev pub invariant-loop-at : goal.invariant-loop-at
invariant-loop-at g l =
    let written = g.E.Sink.written in
    let faults = g.E.Sink.faults in
    record {
      within : l.at ≤ length l.fn.bytes;
      same : appended (written l.errors) (drop l.at l.fn.bytes) ≡ appended (written l.fn.errors) (drop l.fn.at l.fn.bytes);
      count : faults l.fn.errors ≤ faults l.errors;
    }

abbrev pub decreases-loop-at : goal.decreases-loop-at
decreases-loop-at g l = length l.fn.bytes - l.at
