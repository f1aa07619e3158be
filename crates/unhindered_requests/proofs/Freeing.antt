-- What makes a try free, in plain words.
use Rattle.std.proofs.Common.{◌≡◌, ℕ, ◌<◌, ◌+◌, true, List, length, Some, None}
use Rattle.boot_core.specs.Refusals.{HasRoomFor}
use Rattle.call_attempts.specs.Attempt.{AttemptValue, wanted}
use Rattle.call_ticket.specs.declared.next.Answer.{Answer}
use Rattle.call_ticket.specs.declared.next.Next.{Next}
use Rattle.call_ticket.specs.declared.next.Next.TheVariants as next
use Rattle.container_core.specs.Container.{ContainerValue}
use Rattle.crash_base.specs.declared.numbers.ComponentNo.{ComponentNo}
use Rattle.deployment.specs.Groups.{group_of}
use Rattle.journal_model.specs.Conflicts.{conflict_of}
use Rattle.journal_model.specs.Reboots.{down_of}
use Rattle.journal_model.specs.Stale.{stale_in}
use Rattle.journal_model.specs.declared.conflict.Conflict.{Conflict}
use Rattle.journal_model.specs.declared.entry.DoneText.{DoneText}
use Rattle.journal_model.specs.declared.stale.Stale.{Stale}
use Rattle.request_tries.specs.Serving.{TriesValue}
use Rattle.request_tries.specs.Steps.{action_of}
use Rattle.unhindered_requests.specs.Tries.{IsFree, Works}

pub free_so : (asks : List Answer → Next) (c : ContainerValue) (tries : TriesValue) (a : AttemptValue)
    → ((shown : Stale) → stale_in c.boot.entries a.ticket.call.touched ≡ Some shown → (length tries.tries + 1 < 3) × (a.repeats ≡ true))
    → ((shown : Conflict) → conflict_of c.boot.entries a.ticket.call ≡ Some shown → length tries.tries + 1 < 3)
    → ((x : ComponentNo) (method : ℕ) → wanted asks a ≡ next.Enter x method → down_of c.boot.entries (group_of c.boot.start.deployment x.0) ≡ None)
    → ((x : ComponentNo) (method : ℕ) → wanted asks a ≡ next.Enter x method → Works c.boot x)
    → ((done : DoneText) → wanted asks a ≡ next.Done done → HasRoomFor c.boot.start.limits c.boot.entries a.ticket.call (action_of tries done))
    → IsFree asks c tries a
free_so asks c tries a stale conflict up works room = record {
  step = λ goes. record { reboots = stale; up = up; works = works };
  commit = λ done is new. record { reboots = stale; conflicts = conflict; room = room done is };
}
