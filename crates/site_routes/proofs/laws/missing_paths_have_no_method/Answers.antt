use Rattle.site_routes.specs.PathActions.{actions_at}
use Rattle.site_routes.proofs.Methods.{nowhere}
use Rattle.site_routes.proofs.laws.missing_paths_have_no_method.Goals as goal

pub returns : goal.returns
returns c = λ path method other h. nowhere (actions_at path) method other h
