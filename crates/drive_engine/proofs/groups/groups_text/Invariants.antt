use Rattle.std.proofs.Common.{◌≡◌, ◌++◌, drop}
use Rattle.drive_engine.specs.Groups.{lines_from, groups_text}
use Rattle.drive_engine.proofs.groups.groups_text.Given as goal

abbrev pub invariant-loop-part : goal.invariant-loop-part
invariant-loop-part l = record {
  text : l.lines.items ++ lines_from l.deployment l.c (drop l.part-index l.deployment.components) ≡ groups_text l.deployment;
  number : l.c ≡ l.part-index;
}
