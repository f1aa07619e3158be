use Rattle.std.proofs.Common.{◌≡◌, ◌≢◌, ◌+◌, ◌<◌, ◌∷◌, List, ℕ, Err, Ok, None, drop, get_or, length, ap, sym, subst, ◌∙◌, arith, drop_of_length-le}
use Rattle.std.proofs.lemmas.List.{drop_more}
use Rattle.std.proofs.lemmas.Result.{err_from_is_err_and}
use Rattle.matchit.specs.Route.{parse_route}
use Rattle.matchit.specs.Router.{InsertsRead}
use Rattle.site_routes.specs.Inserting.{SiteRows, inserted}
use Rattle.site_routes.specs.declared.site_route.SiteRoute.{SiteRoute}
use Rattle.site_routes.specs.declared.site_route.SiteRoute.TheVariants.{Home}
use Rattle.site_routes.proofs.Inserting.{goes_on, none_left, only_memory}
use Rattle.site_routes.proofs.router.insert_all.Goals as goal

-- the routes that are left begin with the one at this place
left : (routes : List SiteRoute) (i : ℕ) (rows : SiteRows) → i < length routes
    → inserted (drop i routes) rows ≡ inserted (get_or routes i Home ∷ drop (i + 1) routes) rows
left routes i rows inside = ap (λ these. inserted these rows) (drop_more routes i Home inside)

pub returns-in_err-insert-clause-err : goal.returns-in_err-insert-clause-err
returns-in_err-insert-clause-err c =
    let routes = c.args.routes.now in
    let i = c.loop-route.route-index in
    let route = get_or routes i Home in
    let rows = c.loop-route.router in
    let error = c.in_err-insert.field-0.0 in
    let refused = subst (λ text. InsertsRead (parse_route text) route rows c.insert.new.self (Err error)) c.route_text.ensures c.in_err-insert.ensures in
    let taken : inserted (route ∷ drop (i + 1) routes) rows ≢ None = λ none. c.requires (sym c.loop-route.invariant ∙ left routes i rows (omega arith) ∙ none) in
    let p = err_from_is_err_and c.from_residual.result c.from_residual.ensures.1 in
    rw p.1 (p.2 ∙ only_memory route (drop (i + 1) routes) rows c.insert.new.self error refused taken)

pub loop-route-preserved : goal.loop-route-preserved
loop-route-preserved c =
    let routes = c.args.routes.now in
    let i = c.loop-route.route-index in
    let route = get_or routes i Home in
    let rows = c.loop-route.router in
    let done = subst (λ text. InsertsRead (parse_route text) route rows c.insert.new.self (Ok c.in_ok-insert.field-0)) c.route_text.ensures c.in_ok-insert.ensures in
    goes_on route (drop (i + 1) routes) rows c.insert.new.self c.in_ok-insert.field-0 done ∙ sym (left routes i rows (omega arith)) ∙ c.loop-route.invariant

pub returns-clause-ok : goal.returns-clause-ok
returns-clause-ok c =
    none_left (drop c.loop-route.route-index c.args.routes.now) c.loop-route.router (drop_of_length-le c.args.routes.now {i = c.loop-route.route-index} (omega arith)) ∙ c.loop-route.invariant
