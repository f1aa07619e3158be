use Rattle.std.proofs.Common.{◌≡◌, ◌++◌, drop, string_bytes}
use Rattle.line_steps.specs.Texts.{entries_text, journal_text}
use Rattle.line_steps.proofs.texts.journal_text.Given as goal

abbrev pub invariant-loop-place : goal.invariant-loop-place
invariant-loop-place l = string_bytes l.text ++ entries_text l.place (drop l.place l.journal.entries) ≡ journal_text l.journal.entries
