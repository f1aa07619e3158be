use Rattle.std.proofs.Common.{List, sym, ap, ◌∙◌}
use Rattle.crash_base.specs.declared.numbers.ComponentNo.{ComponentNo}
use Rattle.call_ticket.specs.Ticket.{TicketValue}
use Rattle.container_core.specs.Container.{ContainerValue}
use Rattle.request_tries.specs.Steps.{front_at}
use Rattle.request_tries.proofs.Answering.{may_stop}
use Rattle.request_tries.proofs.tries.RequestTries.stop.Goals as goal

pub returns-clause-stops : goal.returns-clause-stops
returns-clause-stops g c =
    may_stop c.args.container.now c.args.self.now c.close.new.self c.hear_stop.new.self c.in-Some.attempt c.into_parts-ticket.result.0 c.at-at.result c.repeats-repeats.result c.into_parts-ticket.result.1 c.front_at-now.result c.args.stop c.hear_stop.result
    (sym c.close.ensures.value ∙ c.in-Some.is) (ap (λ (p : TicketValue × List ComponentNo). p.0) c.into_parts-ticket.ensures) c.at-at.ensures c.repeats-repeats.ensures (ap (λ (p : TicketValue × List ComponentNo). p.1) c.into_parts-ticket.ensures) c.close.ensures.closed (c.front_at-now.ensures ∙ ap (λ (k : ContainerValue). front_at k) c.abandon.ensures.same) c.hear_stop.ensures.stopped
