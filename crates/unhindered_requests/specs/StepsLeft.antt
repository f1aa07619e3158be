-- How many steps are left for a request at most.
use Rattle.std.specs.Prelude.{ℕ, ◌+◌, ◌*◌}
use Rattle.request_tries.specs.declared.outcome.TheConstants.{MAX_TRIES}
use Rattle.request_visit.specs.declared.visit.Visit.{Visit}
use Rattle.request_visit.specs.declared.visit.Work.{Work}
use Rattle.request_visit.specs.declared.visit.Work.TheVariants.{Reading, Opening, Serving, Committed, Decided, Answered, Left}
use Rattle.unhindered_requests.specs.CallsLeft.{calls_left, write_calls}
use Rattle.unhindered_requests.specs.TriesLeft.{tries_left, try_steps}

-- the steps once a request is committed: its session is written, its response is made, and that leaves
abbrev pub page_steps : ℕ
page_steps = write_calls + 2

-- the steps of a request without a session: its program is given, it is served in three tries, and shown its page
abbrev pub request_steps : ℕ
request_steps = 1 + MAX_TRIES * try_steps + page_steps

-- the steps that are left for the work of a request
abbrev pub work_left : {P : Type 0} → Work P → ℕ
work_left Reading = 1 + request_steps
work_left Opening = request_steps
work_left (Serving tries program) = tries_left tries + page_steps
work_left (Committed place again shown) = 2
work_left (Decided became) = 2
work_left (Answered fate bytes) = 1
work_left (Left fate) = 0

-- The steps that are left for a request: for its work, and for its session.
abbrev pub steps_left : {P : Type 0} → Visit P → ℕ
steps_left v = work_left v.work + calls_left v.way
