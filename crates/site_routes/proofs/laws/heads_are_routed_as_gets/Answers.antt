use Rattle.site_routes.specs.PathActions.{actions_at}
use Rattle.site_routes.proofs.Methods.{same_by_head}
use Rattle.site_routes.proofs.laws.heads_are_routed_as_gets.Goals as goal

pub returns : goal.returns
returns c = λ path. same_by_head (actions_at path)
