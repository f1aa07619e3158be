-- An enter that is refused, as a line writes it.
use Rattle.std.proofs.Common.{◌≡◌, ◌≢◌, ℕ, true, List, Option, Some, Err, refl, ap, sym, ◌∙◌}
use Rattle.std.specs.Option.{option_map}
use Rattle.crash_base.proofs.Options.{map_some}
use Rattle.crash_base.specs.declared.numbers.ComponentNo.{ComponentNo}
use Rattle.call_ticket.specs.Access.{may_enter}
use Rattle.call_ticket.specs.Ticket.{TicketValue}
use Rattle.deployment.specs.Parts.{component_no, named}
use Rattle.boot_core.specs.Boot.{BootValue}
use Rattle.boot_core.specs.Refusals.{CallAnswer, enter_refusal}
use Rattle.boot_core.specs.declared.refusals.CallRefusal.{CallRefusal}
use Rattle.boot_core.specs.declared.refusals.CallRefusal.TheVariants.{Revoked, Depth, Steps, Reads, Writes, Sentinel, Hung, Raised, OutOfMemory}
use Rattle.scenario_text.specs.Answer.{Done}
use Rattle.line_steps.specs.CallLines.{done_in, enter_step}
use Rattle.line_steps.specs.Texts.{refusal_text}

-- what is answered but out of memory is the refusal
pub answered : (A : Type 0) (refusal : Option CallRefusal) (e : CallRefusal) → CallAnswer {T = A} refusal (Err e) → e ≢ OutOfMemory → refusal ≡ Some e
answered A refusal (Revoked s) is other = is
answered A refusal Depth is other = is
answered A refusal Steps is other = is
answered A refusal Reads is other = is
answered A refusal Writes is other = is
answered A refusal (Sentinel g down) is other = is
answered A refusal (Hung c fault) is other = is
answered A refusal (Raised c fault) is other = is
answered A refusal OutOfMemory is other = absurd (other refl)

-- a component of this name that is refused leaves all as it was, and its refusal is written
pub refused_enter : (A : Type 0) (b : BootValue) (caller : ℕ) (ticket : TicketValue) (name : List ℕ) (c : ComponentNo) (e : CallRefusal) → Some c ≡ option_map component_no (named b.start.deployment.components name) → true ≡ may_enter b.start.deployment ticket.call c → CallAnswer {T = A} (enter_refusal b ticket.call c) (Err e) → e ≢ OutOfMemory → enter_step b caller ticket name ≡ Done (done_in b ticket) (refusal_text caller e)
unfolding enter_step
refused_enter A b caller ticket name c e found free is other =
    let (x, there, same) = map_some component_no (named b.start.deployment.components name) c (sym found) in
    let may : may_enter b.start.deployment ticket.call (component_no x) ≡ true = ap (may_enter b.start.deployment ticket.call) same ∙ sym free in
    let no : enter_refusal b ticket.call (component_no x) ≡ Some e = ap (enter_refusal b ticket.call) same ∙ answered A (enter_refusal b ticket.call c) e is other in
    rw (there, may, no) refl
