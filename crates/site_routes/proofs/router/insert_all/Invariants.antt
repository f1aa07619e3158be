use Rattle.std.proofs.Common.{◌≡◌, drop}
use Rattle.site_routes.specs.Inserting.{inserted}
use Rattle.site_routes.proofs.router.insert_all.Given as goal

abbrev pub invariant-loop-route : goal.invariant-loop-route
invariant-loop-route l = inserted (drop l.route-index l.routes) l.router ≡ inserted l.routes l.initial.router
