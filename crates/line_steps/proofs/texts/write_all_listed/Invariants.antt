use Rattle.std.proofs.Common.{◌≡◌, ◌++◌, drop, string_bytes}
use Rattle.std.specs.List.{flat_map}
use Rattle.line_steps.specs.Texts.{listed_text}
use Rattle.line_steps.proofs.texts.write_all_listed.Given as goal

abbrev pub invariant-loop-row : goal.invariant-loop-row
invariant-loop-row l =
    string_bytes l.text ++ flat_map listed_text (drop l.row-index l.rows) ≡ string_bytes l.initial.text ++ flat_map listed_text l.rows
