use Rattle.site_routes.proofs.Asked.{methods_are_named}
use Rattle.site_routes.proofs.laws.allowed_methods_are_named.Goals as goal

pub returns : goal.returns
returns c = λ path method allow. methods_are_named path method allow
