-- What an attempt remembers: which of its steps may not be made again.
use Rattle.std.proofs.Common.{◌≡◌, ◌↔◌, ℕ, ◌<◌, false, List, length, take, ap, ◌∙◌}
use Rattle.crash_base.specs.declared.numbers.ComponentNo.{ComponentNo}
use Rattle.deployment.specs.declared.parts.Parts.{Parts}
use Rattle.deployment.specs.Parts.{idempotent}
use Rattle.call_ticket.specs.declared.next.Answer.{Answer}
use Rattle.call_ticket.specs.declared.next.Next.{Next}
use Rattle.call_ticket.specs.declared.next.Next.TheVariants as next
use Rattle.call_ticket.specs.Repeated.{may_repeat}
use Rattle.call_ticket.proofs.Repeating.{repeated_is}
use Rattle.boot_core.specs.Boot.{BootValue}
use Rattle.call_attempts.specs.Attempt.{AttemptValue, HasEnteredOnce, IsUnderWay}

-- one of the steps that were answered was an enter by a method that may not be called again
abbrev EnteredSo : Parts → (List Answer → Next) → List Answer → Type 0
EnteredSo parts asks answers =
    (before : ℕ) × (component : ComponentNo) × (method : ℕ) × (before < length answers)
    × (asks (take before answers) ≡ next.Enter component method) × (idempotent parts component.0 method ≡ false)

entered_so : (parts : Parts) (asks : List Answer → Next) (answers : List Answer) → HasEnteredOnce parts asks answers → EnteredSo parts asks answers
entered_so parts asks answers h =
    let enters = (repeated_is parts (asks (take h.before answers))).0 h.once in
    (h.before, enters.0, enters.1, h.answered, enters.2, enters.3)

entered_once : (parts : Parts) (asks : List Answer → Next) (answers : List Answer) → EnteredSo parts asks answers → HasEnteredOnce parts asks answers
entered_once parts asks answers (before, component, method, answered, enters, single) = record {
  before = before;
  answered = answered;
  once = ap (λ (x : Next). may_repeat parts x) enters ∙ single;
}

pub remembers : (boot : BootValue) (asks : List Answer → Next) (a : AttemptValue) → IsUnderWay boot asks a
    → (a.repeats ≡ false) ↔ EnteredSo boot.start.deployment asks a.answers
remembers boot asks a way =
    (λ never. entered_so boot.start.deployment asks a.answers (way.once.0 never), λ entered. way.once.1 (entered_once boot.start.deployment asks a.answers entered))
