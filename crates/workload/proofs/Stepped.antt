-- What a step of a call leaves, as it was answered.
use Rattle.std.proofs.Common.{◌≡◌, ◌≢◌, Option, Some, None, Err, ap, ◌∙◌, sym}
use Rattle.crash_base.specs.declared.numbers.ComponentNo.{ComponentNo}
use Rattle.call_ticket.specs.Ticket.{TicketValue}
use Rattle.boot_core.specs.Boot.{BootValue}
use Rattle.boot_core.specs.Refusals.{CallAnswer}
use Rattle.boot_core.specs.declared.refusals.CallRefusal.{CallRefusal}
use Rattle.boot_core.specs.declared.refusals.CallRefusal.TheVariants.{OutOfMemory}
use Rattle.line_steps.proofs.Entering.{answered}
use Rattle.workload.specs.Turns.{enter_ends, step_left, step_outcome}
use Rattle.workload.specs.Working.{left_at}
use Rattle.workload.specs.declared.tally.Outcome.{Outcome}

left_is : (a b : BootValue) (t u : Option TicketValue) (o p : Option Outcome) → a ≡ b → t ≡ u → o ≡ p → left_at a t o ≡ left_at b u p
left_is a b t u o p boot ticket outcome = ap (λ x. left_at x t o) boot ∙ ap (λ x. left_at b x o) ticket ∙ ap (λ x. left_at b u x) outcome

-- a step that nothing refused
pub stepped : (b now : BootValue) (t : Option TicketValue) (o : Option Outcome) (next : TicketValue) (refusal : Option CallRefusal) → refusal ≡ None → now ≡ b → t ≡ Some next → o ≡ None → left_at now t o ≡ step_left b next refusal
stepped b now t o next refusal free same goes none =
    left_is now b t (Some next) o None same goes none ∙ ap (step_left b next) (sym free)

-- a step that was refused
pub not_stepped : (A : Type 0) (b now : BootValue) (t : Option TicketValue) (o : Option Outcome) (next : TicketValue) (refusal : Option CallRefusal) (e : CallRefusal) → CallAnswer {T = A} refusal (Err e) → e ≢ OutOfMemory → now ≡ b → t ≡ None → o ≡ Some (step_outcome e) → left_at now t o ≡ step_left b next refusal
not_stepped A b now t o next refusal e is other same gone outcome =
    left_is now b t None o (Some (step_outcome e)) same gone outcome ∙ ap (step_left b next) (sym (answered A refusal e is other))

-- an enter that was refused
pub not_entered : (A : Type 0) (b now : BootValue) (t : Option TicketValue) (o : Option Outcome) (c : ComponentNo) (next : TicketValue) (refusal : Option CallRefusal) (e : CallRefusal) → CallAnswer {T = A} refusal (Err e) → e ≢ OutOfMemory → now ≡ b → t ≡ None → o ≡ Some (step_outcome e) → left_at now t o ≡ enter_ends b c next refusal
not_entered A b now t o c next refusal e is other same gone outcome =
    left_is now b t None o (Some (step_outcome e)) same gone outcome ∙ ap (enter_ends b c next) (sym (answered A refusal e is other))
