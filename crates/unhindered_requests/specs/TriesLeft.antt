-- How many steps in the container are left for a request at most.
use Rattle.std.specs.Prelude.{ℕ, ◌+◌, ◌-◌, ◌*◌, Option, Some, None, length}
use Rattle.call_ticket.specs.declared.limits.TheConstants.{MAX_STEPS}
use Rattle.call_attempts.specs.Attempt.{AttemptValue}
use Rattle.request_tries.specs.Serving.{TriesValue}
use Rattle.request_tries.specs.declared.outcome.TheConstants.{MAX_TRIES}

-- the steps of a try: its begin, at most 128 that its program asks for, and its commit
abbrev pub try_steps : ℕ
try_steps = 1 + MAX_STEPS + 1

-- the steps that are left for the open try, and for the tries that may follow after so many
abbrev pub steps_of : ℕ → Option AttemptValue → ℕ
steps_of tries None = (MAX_TRIES - tries) * try_steps
steps_of tries (Some a) = (MAX_TRIES - 1 - tries) * try_steps + (MAX_STEPS - length a.answers) + 1

-- The steps in the container that are left for a request.
abbrev pub tries_left : TriesValue → ℕ
tries_left s = steps_of (length s.tries) s.attempt
