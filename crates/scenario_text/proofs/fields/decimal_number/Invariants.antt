use Rattle.std.proofs.Common.{◌≡◌, drop}
use Rattle.scenario_text.specs.Fields.{digits_from}
use Rattle.scenario_text.proofs.fields.decimal_number.Given as goal

abbrev pub invariant-loop-b : goal.invariant-loop-b
invariant-loop-b l = digits_from l.n (drop l.b-index l.word) ≡ digits_from 0 l.word
