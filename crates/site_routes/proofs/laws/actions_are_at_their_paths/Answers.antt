use Rattle.site_routes.proofs.Asked.{led_back, led_to, leads_nowhere, no_path}
use Rattle.site_routes.proofs.laws.actions_are_at_their_paths.Goals as goal

pub returns-clause-action : goal.returns-clause-action
returns-clause-action c = λ path method asked. (led_back path method asked, led_to path method asked)

pub returns-clause-nowhere : goal.returns-clause-nowhere
returns-clause-nowhere c = λ path method. (no_path path method, leads_nowhere path method)
