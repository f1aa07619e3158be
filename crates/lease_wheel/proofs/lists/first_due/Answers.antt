use Rattle.std.proofs.Common.{sym, ◌∙◌}
use Rattle.lease_wheel.proofs.Popping.{first_entry, none_due}
use Rattle.lease_wheel.proofs.lists.first_due.Goals as goal

pub returns-in-Some-clause-first : goal.returns-in-Some-clause-first
returns-in-Some-clause-first c =
    let r = first_entry c.in-Some.expiry.now c.in-Some.field-0-1.now c.args.lists.now.entries c.in-Some.ensures.first in
    (c.in-Some.field-0-1.now, r.0, r.1, sym c.is_due.ensures ∙ c.if-is_due.true)

pub returns-in_default-clause-first : goal.returns-in_default-clause-first
returns-in_default-clause-first c =
    let r = first_entry c.in-Some.expiry.now c.in-Some.field-0-1.now c.args.lists.now.entries c.in-Some.ensures.first in
    none_due c.args.moment c.in-Some.expiry.now c.in-Some.field-0-1.now r.0 c.args.lists.now.entries r.1 c.len.ensures.ordered (sym c.is_due.ensures ∙ c.if-is_due.false)
