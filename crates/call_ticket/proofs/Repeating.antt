-- Which steps may not be made again.
use Rattle.std.proofs.Common.{◌≡◌, ◌↔◌, ℕ, false, refl, ap, ◌∙◌}
use Rattle.crash_base.specs.declared.numbers.ComponentNo.{ComponentNo}
use Rattle.deployment.specs.declared.parts.Parts.{Parts}
use Rattle.deployment.specs.Parts.{idempotent}
use Rattle.call_ticket.specs.declared.next.Next.{Next}
use Rattle.call_ticket.specs.declared.next.Next.TheVariants as next
use Rattle.call_ticket.specs.Repeated.{may_repeat}

-- the step is an enter by a method that may not be called again
abbrev EntersOnce : Parts → Next → Type 0
EntersOnce parts step =
    (component : ComponentNo) × (method : ℕ) × (step ≡ next.Enter component method) × (idempotent parts component.0 method ≡ false)

enters_once : (parts : Parts) (step : Next) → may_repeat parts step ≡ false → EntersOnce parts step
enters_once parts (next.Enter component method) is = (component, method, refl, is)
enters_once parts (next.Read id) is = absurd (cc)
enters_once parts (next.List table) is = absurd (cc)
enters_once parts (next.Put write) is = absurd (cc)
enters_once parts next.Exit is = absurd (cc)
enters_once parts (next.Done done) is = absurd (cc)

pub repeated_is : (parts : Parts) (step : Next) → (may_repeat parts step ≡ false) ↔ EntersOnce parts step
repeated_is parts step = (enters_once parts step, λ once. ap (λ s. may_repeat parts s) once.2 ∙ once.3)
