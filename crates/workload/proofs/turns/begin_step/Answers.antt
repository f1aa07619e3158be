use Rattle.std.proofs.Common.{◌≡◌, ◌+◌, ◌^◌, length, ap, ◌∙◌}
use Rattle.call_ticket.specs.Ticket.{ticket_begun}
use Rattle.container_core.specs.Container.{ContainerValue}
use Rattle.workload.specs.Turns.{begin_left, enter_left, entered_by, new_ticket}
use Rattle.workload.proofs.turns.begin_step.Goals as goal

pub returns-clause-left : goal.returns-clause-left
unfolding begin_left
returns-clause-left g c =
    let old : ContainerValue = c.args.container.now in
    let new : ContainerValue = c.begin.new.self in
    let same : new.boot ≡ old.boot = ap (λ (c : ContainerValue). c.boot) c.in_ok-ticket.ensures.same in
    let ticket : c.in_ok-ticket.ticket ≡ new_ticket old.boot c.args.caller c.args.k = c.in_ok-ticket.ensures.begun ∙ ap (λ boot. ticket_begun (record { boot = boot; serial = 2 ^ 63 + c.args.k }) (record { 0 = c.args.caller }) (record { 0 = length old.boot.entries })) c.boot.ensures in
    c.in_ok-left.ensures.left
    ∙ ap (λ b. enter_left b c.in_ok-ticket.ticket (entered_by c.args.key)) same
    ∙ ap (λ t. enter_left old.boot t (entered_by c.args.key)) ticket
