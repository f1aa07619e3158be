use Rattle.std.proofs.Common.{[], sym, ap, subst, ◌∙◌}
use Rattle.lease_list.specs.Leases.{Leaves}
use Rattle.lease_list.proofs.Facts.{popped}
use Rattle.lease_list.proofs.list.LeaseList.pop_front.Goals as goal

pub unlink-requires : goal.unlink-requires
unlink-requires g c = let at = c.in-Some.ensures.node in ([], at.0, at.1, ap (λ l. l.nodes) c.first.ensures.same ∙ at.2)

pub returns-in-Some-clause-nodes : goal.returns-in-Some-clause-nodes
returns-in-Some-clause-nodes g c =
    let at = c.in-Some.ensures.node in
    let n = c.in-Some.node in
    let d = c.self.inside.links in
    let left = subst (λ l. Leaves l.nodes n.number n.at c.unlink.result c.unlink.new.self.nodes) c.first.ensures.same c.unlink.ensures.nodes in
    (n.number, n.at, sym (ap (λ v. v.nodes) c.self.view_is) ∙ popped d.next d.nodes n.number n.at at.0 at.1 c.unlink.result c.unlink.new.self.nodes c.self.invariant at.2 left)
