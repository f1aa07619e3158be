-- The container between the step of a request and its commit: a step counts an entering at most.
use Rattle.std.proofs.Common.{◌≡◌, List, Option, Some, None, refl, ap, ◌∙◌}
use Rattle.boot_core.specs.Boot.{BootValue}
use Rattle.call_attempts.specs.Attempt.{AttemptValue, boot_after, boot_left, wanted}
use Rattle.call_attempts.specs.declared.attempt.Stepped.{Stepped}
use Rattle.call_attempts.specs.declared.attempt.Stepped.TheVariants as coming
use Rattle.call_ticket.specs.declared.next.Answer.{Answer}
use Rattle.call_ticket.specs.declared.next.Next.{Next}
use Rattle.call_ticket.specs.declared.next.Next.TheVariants as next
use Rattle.container_core.specs.Container.{ContainerValue}
use Rattle.request_tries.specs.Serving.{TriesValue}
use Rattle.request_tries.specs.Steps.{StepsAs}
use Rattle.request_tries.specs.declared.outcome.Progress.{Progress}

after_entries : (boot : BootValue) (x : Next) → (boot_after boot x).entries ≡ boot.entries
after_entries boot (next.Enter c method) = refl
after_entries boot (next.Read id) = refl
after_entries boot (next.List table) = refl
after_entries boot (next.Put w) = refl
after_entries boot next.Exit = refl
after_entries boot (next.Done done) = refl

left_entries : (boot : BootValue) (x : Next) (came : Stepped) → (boot_left boot x came).entries ≡ boot.entries
left_entries boot x coming.Went = after_entries boot x
left_entries boot x (coming.Done done) = refl
left_entries boot x (coming.Stopped stop) = refl

-- A step of a request leaves the journal as it was.
pub step_entries : (c new : ContainerValue) (asks : List Answer → Next) (s after : TriesValue) (a : Option AttemptValue) (to : Progress)
    → StepsAs c asks s a to new after → new.boot.entries ≡ c.boot.entries
step_entries c new asks s after None to steps = ap (λ (x : ContainerValue). x.boot.entries) steps.2
step_entries c new asks s after (Some a) to steps =
    ap (λ (x : ContainerValue). x.boot.entries) steps.4 ∙ left_entries c.boot (wanted asks a) steps.0
