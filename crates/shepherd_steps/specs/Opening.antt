-- How the program of a request is made, where it is a function of the call.
use Rattle.std.specs.Prelude.{◌≡◌, ℕ, List, Option, Some, None}
use Rattle.std.specs.Option.{option_map}
use Rattle.auction_calls.specs.declared.action.ActionCall.{ActionCall}
use Rattle.crash_base.specs.declared.numbers.WorkerNo.{WorkerNo}
use Rattle.request_decisions.specs.Calls.{call_by}
use Rattle.request_tries.specs.Serving.{unbegun}
use Rattle.request_visit.specs.Advancing.{value_of}
use Rattle.request_visit.specs.declared.visit.Visit.{Visit}
use Rattle.request_visit.specs.declared.visit.Work.TheVariants.{Serving as ServingBy}
use Rattle.shepherd.specs.declared.shepherd.AskedCall.{AskedCall}
use Rattle.shepherd.specs.declared.shepherd.Stage.{Stage}
use Rattle.shepherd.specs.declared.shepherd.Stage.TheVariants.{Resting, Serving, Refusing, Over}

-- A maker makes just these of a call: its text and its program.
abbrev pub MakesJust : {P M : Type 0} → (M → ActionCall → List ℕ → P → Type 0) → M → (ActionCall → List ℕ × P) → Type 0
MakesJust {P} makes maker made =
    (call : ActionCall) (text : List ℕ) (program : P) → makes maker call text program → made call ≡ (text, program)

-- a request that is served by this text and this program, by tries that have not begun
abbrev pub served_by : {P : Type 0} → WorkerNo → Visit P → AskedCall → List ℕ × P → Visit P
served_by worker v asked made = record v { work = ServingBy (unbegun asked.request worker made.0) made.1 }

-- a request whose program was made of its call, as the user of its session makes it
abbrev pub opens : {P : Type 0} → (ActionCall → List ℕ × P) → WorkerNo → Visit P → Option AskedCall → Stage P
opens made worker v None = Serving v None
opens made worker v (Some asked) =
    Serving (served_by worker v asked (made (call_by asked.call (option_map value_of v.lease)))) None

-- The stage of a connection once the program of the request that is open was made.
unfoldable pub open_stage : {P : Type 0} → (ActionCall → List ℕ × P) → WorkerNo → Stage P → Stage P
open_stage made worker Resting = Resting
open_stage made worker (Serving v call) = opens made worker v call
open_stage made worker (Refusing why bytes) = Refusing why bytes
open_stage made worker (Over end) = Over end
