-- Kinds of lines.
use Rattle.std.specs.Prelude.{Bool, true, false}
use Rattle.scenario_text.specs.declared.line.Line.{Line}
use Rattle.scenario_text.specs.declared.line.Line.TheVariants.{Pass, Head, Call, Commit, Boot, Reopen, Session, Seat}

-- whether a line is an event line: neither passed over nor part of the head
abbrev pub is_event : Line → Bool
is_event Pass = false
is_event (Head line) = false
is_event (Call caller line) = true
is_event (Commit caller) = true
is_event (Boot line) = true
is_event Reopen = true
is_event (Session line) = true
is_event (Seat line) = true
