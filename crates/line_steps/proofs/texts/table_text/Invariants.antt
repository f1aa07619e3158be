use Rattle.std.proofs.Common.{◌≡◌, ◌++◌, drop, map}
use Rattle.std.specs.String.{string_bytes}
use Rattle.line_steps.specs.Texts.{table_text}
use Rattle.line_steps.proofs.texts.table_text.Given as goal

abbrev pub invariant-loop-row : goal.invariant-loop-row
invariant-loop-row l = string_bytes l.text ++ table_text (map (λ r. r.now) (drop l.row-index l.rows)) ≡ table_text (map (λ r. r.now) l.rows)
