use Rattle.std.proofs.Common.{rules}
use Rattle.site_routes.proofs.routed.routed_by.Goals as goal

pub returns-in-HeadOnly : goal.returns-in-HeadOnly
returns-in-HeadOnly c = search rules
