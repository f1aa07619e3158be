use Rattle.std.proofs.Common.{◌≡◌, List, ℕ, Option, Some, None, Err, ap, subst, sym, ◌∙◌}
use Rattle.std.specs.Int.{to_be_bytes, w32}
use Rattle.crash_base.specs.declared.row_id.RowId.{RowId}
use Rattle.crash_base.specs.declared.rows.RowWrite.{RowWrite}
use Rattle.deployment.specs.declared.parts.Parts.{Parts}
use Rattle.call_ticket.specs.Ticket.{TicketValue, ticket_kept}
use Rattle.boot_core.specs.Refusals.{CallAnswer, put_refusal}
use Rattle.boot_core.specs.declared.refusals.CallRefusal.{CallRefusal}
use Rattle.container_core.specs.Container.{ContainerValue}
use Rattle.workload.specs.Turns.{own_row, own_write, put_left}
use Rattle.workload.proofs.Stepped.{not_stepped, stepped}
use Rattle.workload.proofs.steps.put_step.Goals as goal

pub returns-in-Ok-clause-left : goal.returns-in-Ok-clause-left
unfolding put_left
returns-in-Ok-clause-left g c =
    let old : ContainerValue = c.args.container.now in
    let ticket : TicketValue = c.args.ticket in
    let parts : Parts = old.boot.start.deployment in
    let next : TicketValue = ticket_kept (own_write parts ticket.call c.args.k c.args.key) ticket in
    let refusal : Option CallRefusal = put_refusal old.boot.entries ticket.call (own_row parts ticket.call c.args.key) in
    let asks : RowId → Option CallRefusal = λ id. put_refusal old.boot.entries ticket.call id in
    let bytes : List ℕ = c.in_ok-copied.field-0 in
    let digits : bytes ≡ to_be_bytes w32 c.args.k = cc (c.in_ok-copied.ensures, c.as_slice.ensures, c.to_be_bytes.ensures) in
    let of_row : RowId → RowWrite = λ id. record { id = id; bytes = bytes } in
    let of_bytes : List ℕ → RowWrite = λ bs. record { id = own_row parts ticket.call c.args.key; bytes = bs } in
    let write : of_row c.own_row.result ≡ own_write parts ticket.call c.args.k c.args.key = ap of_row c.own_row.ensures ∙ ap of_bytes digits in
    let kept = c.in-Ok.ensures.kept ∙ ap (λ (w : RowWrite). ticket_kept w ticket) write in
    let free : refusal ≡ None = ap asks (sym c.own_row.ensures) ∙ c.in-Ok.ensures.answer in
    stepped old.boot c.put.new.self.boot c.goes_on.result.ticket c.goes_on.result.outcome next refusal free (ap (λ (k : ContainerValue). k.boot) c.in-Ok.ensures.same) (c.goes_on.ensures.ticket ∙ ap (λ (t : TicketValue). Some t) kept) c.goes_on.ensures.outcome

pub returns-in_ok-left-in-Err-clause-left : goal.returns-in_ok-left-in-Err-clause-left
unfolding put_left
returns-in_ok-left-in-Err-clause-left g c =
    let old : ContainerValue = c.args.container.now in
    let ticket : TicketValue = c.args.ticket in
    let parts : Parts = old.boot.start.deployment in
    let next : TicketValue = ticket_kept (own_write parts ticket.call c.args.k c.args.key) ticket in
    let refusal : Option CallRefusal = put_refusal old.boot.entries ticket.call (own_row parts ticket.call c.args.key) in
    let P : RowId → Type 0 = λ id. CallAnswer {T = Unit {0}} (put_refusal old.boot.entries ticket.call id) (Err c.in-Err.refusal) in
    let is : P (own_row parts ticket.call c.args.key) = subst P c.own_row.ensures c.in-Err.ensures.answer in
    let left = c.in_ok-left-in-Err.ensures.answer in
    not_stepped (Unit {0}) old.boot c.refused.new.container.boot c.in_ok-left-in-Err.left.ticket c.in_ok-left-in-Err.left.outcome next refusal c.in-Err.refusal is left.2 (ap (λ (k : ContainerValue). k.boot) (c.refused.ensures.same ∙ c.in-Err.ensures.same)) left.0 left.1
