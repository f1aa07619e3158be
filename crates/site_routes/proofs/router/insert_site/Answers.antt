use Rattle.std.proofs.lemmas.Result.{on_ok_weaker}
use Rattle.site_routes.proofs.Inserting.{leaves_site, none_refused}
use Rattle.site_routes.proofs.router.insert_site.Goals as goal

pub insert_all-requires : goal.insert_all-requires
insert_all-requires c = none_refused c.args.router.now c.requires

pub returns-clause-ok : goal.returns-clause-ok
returns-clause-ok c =
    on_ok_weaker c.insert_all.result (leaves_site c.args.router.now c.insert_all.new.router c.requires) c.insert_all.ensures.ok
