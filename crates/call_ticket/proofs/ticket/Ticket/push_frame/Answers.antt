use Rattle.std.proofs.Common.{rules, sym, subst}
use Rattle.call_ticket.specs.Ticket.{TicketValue, IsFirst}
use Rattle.call_ticket.specs.Within.{AreOfOtherGroups}
use Rattle.call_ticket.proofs.Touching.{groups_with}
use Rattle.call_ticket.proofs.ticket.Ticket.push_frame.Goals as goal

pub invariant_of-self : goal.invariant_of-self
invariant_of-self c =
    let touched = c.self.inside.touched.items in
    let first : IsFirst touched c.args.touch = subst (λ (t : TicketValue). IsFirst t.call.touched c.args.touch) (sym c.self.view_is) c.requires.first in
    let groups : AreOfOtherGroups c.add_touch.new.touched.items = subst AreOfOtherGroups (sym c.add_touch.ensures.items) (groups_with touched c.args.touch first c.self.invariant.0.groups) in
    search rules
