use Rattle.std.proofs.Common.{refl, sym}
use Rattle.lease_wheel.specs.Wheels.{placed}
use Rattle.lease_wheel.proofs.Popping.{popped, popped_out}
use Rattle.lease_wheel.proofs.lists.pop_at.Goals as goal

pub returns-then-is_empty-clause-item : goal.returns-then-is_empty-clause-item
returns-then-is_empty-clause-item c =
    let f = c.requires.first in
    let w = c.pop_from.new.list in
    let n = c.pop_from.ensures.nodes in (
      placed c.args.expiry n.0 n.1 c.pop_from.result.0,
      popped_out c.args.expiry f.0 c.in-Some.list.now w f.1 c.args.lists.now.entries n.0 n.1 c.pop_from.result.0 f.2 (sym c.in-Some.ensures.value) n.2
          (c.get_mut.follows.lender w).entries c.remove.new.self.entries (c.get_mut.follows.holds w).0 c.remove.ensures.entries (c.pop_from.ensures.empty.0 c.if-is_empty.true),
      refl,
      refl,
    )

pub returns-else-is_empty-clause-item : goal.returns-else-is_empty-clause-item
returns-else-is_empty-clause-item c =
    let f = c.requires.first in
    let w = c.pop_from.new.list in
    let n = c.pop_from.ensures.nodes in (
      placed c.args.expiry n.0 n.1 c.pop_from.result.0,
      popped c.args.expiry f.0 c.in-Some.list.now w f.1 c.args.lists.now.entries n.0 n.1 c.pop_from.result.0 f.2 (sym c.in-Some.ensures.value) n.2
          (c.get_mut.follows.lender w).entries (c.get_mut.follows.holds w).0,
      refl,
      refl,
    )
