use Rattle.connection_server.specs.Seats.{IsOfSite}
use Rattle.container_server.specs.Seats.{AreOf, WereUsed}
use Rattle.container_server.proofs.working.work.Given as goal

abbrev pub invariant-loop : goal.invariant-loop
invariant-loop g l =
    (goal.iterator-loop g).can_next l.iterator' × (goal.iterator-loop g).is_finite l.iterator'
    × AreOf l.site l.seats × IsOfSite l.site.home l.seats.container.seen × WereUsed l.fn.seats l.seats
