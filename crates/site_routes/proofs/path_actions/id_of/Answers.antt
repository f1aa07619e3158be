use Rattle.std.proofs.Common.{rules}
use Rattle.site_routes.proofs.path_actions.id_of.Goals as goal

pub returns : goal.returns
returns c = search rules
