use Rattle.std.proofs.Common.{◌≡◌, ◌++◌, drop}
use Rattle.service_log.specs.Lines.{names_from, names_of}
use Rattle.service_log.proofs.lines.add_names.Given as goal

abbrev pub invariant-loop-part : goal.invariant-loop-part
invariant-loop-part l = record {
  names : l.line.items ++ names_from l.deployment l.group.0 l.c (drop l.part-index l.deployment.components) ≡ l.fn.line.items ++ names_of l.deployment l.group.0;
  number : l.c ≡ l.part-index;
}
