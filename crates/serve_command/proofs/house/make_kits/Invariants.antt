use Rattle.std.proofs.Common.{◌≡◌, ◌+◌}
use Rattle.serve_command.proofs.house.make_kits.Given as goal

abbrev pub invariant-loop-at : goal.invariant-loop-at
invariant-loop-at g l = (l.seats.house ≡ l.house) × (l.seats.parts + l.at ≡ l.links + 1)
