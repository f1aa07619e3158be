-- What came of the turns.
use Rattle.std.specs.Prelude.{ℕ, ◌+◌, Option, Some, None}
use Rattle.workload.specs.declared.tally.Outcome.{Outcome}
use Rattle.workload.specs.declared.tally.Outcome.TheVariants as outcomes
use Rattle.workload.specs.declared.tally.Tally.{Tally}

-- no call has ended
abbrev pub nothing_counted : Tally
nothing_counted = record { commits = 0; revoked = 0; conflicts = 0; refused = 0 }

-- how many calls have ended with an answer
abbrev pub answers : Tally → ℕ
answers t = t.commits + t.revoked + t.conflicts + t.refused

-- one call more has ended so
abbrev pub counted : Outcome → Tally → Tally
counted outcomes.Committed t = record t { commits = t.commits + 1 }
counted outcomes.Revoked t = record t { revoked = t.revoked + 1 }
counted outcomes.Conflict t = record t { conflicts = t.conflicts + 1 }
counted outcomes.Refused t = record t { refused = t.refused + 1 }

-- a call has ended so, if one has
abbrev pub counted_if : Option Outcome → Tally → Tally
counted_if None t = t
counted_if (Some outcome) t = counted outcome t
