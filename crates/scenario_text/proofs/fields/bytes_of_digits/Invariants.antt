use Rattle.std.proofs.Common.{◌≡◌, ◌*◌, ◌+◌, ◌/◌, ◌++◌, length, vec_capacity}
use Rattle.std.specs.Option.{option_map}
use Rattle.scenario_text.specs.Fields.{bytes_of_digits}
use Rattle.scenario_text.proofs.fields.bytes_of_digits.Given as goal

abbrev pub invariant-loop-rest : goal.invariant-loop-rest
invariant-loop-rest l = record {
  so_far : option_map (λ more. l.bytes.items ++ more) (bytes_of_digits l.rest) ≡ bytes_of_digits l.word;
  count : 2 * length l.bytes.items + length l.rest ≡ length l.word;
  room : vec_capacity l.bytes ≡ length l.word / 2;
}

abbrev pub decreases-loop-rest : goal.decreases-loop-rest
decreases-loop-rest l = length l.rest
