use Rattle.std.proofs.Common.{rules, sym, subst, All}
use Rattle.journal_model.proofs.Writes.{all-with_write}
use Rattle.call_ticket.specs.Within.{IsShortWrite}
use Rattle.call_ticket.proofs.ticket.Ticket.add_put.Goals as goal

pub invariant_of-self : goal.invariant_of-self
invariant_of-self c =
    let rows : All IsShortWrite c.add_write.new.writes.items = subst (All IsShortWrite) (sym c.add_write.ensures.items) (all-with_write IsShortWrite c.self.inside.writes.items c.args.write c.requires.short c.self.invariant.0.rows) in
    search rules
