-- Which steps may be made again.
use Rattle.std.specs.Prelude.{Bool, true}
use Rattle.deployment.specs.declared.parts.Parts.{Parts}
use Rattle.deployment.specs.Parts.{idempotent}
use Rattle.call_ticket.specs.declared.next.Next.{Next}
use Rattle.call_ticket.specs.declared.next.Next.TheVariants as next

-- Whether a step may be made again: an enter where its method may be called again, and any other step.
abbrev pub may_repeat : Parts → Next → Bool
may_repeat parts (next.Enter component method) = idempotent parts component.0 method
may_repeat parts (next.Read id) = true
may_repeat parts (next.List table) = true
may_repeat parts (next.Put write) = true
may_repeat parts next.Exit = true
may_repeat parts (next.Done done) = true
