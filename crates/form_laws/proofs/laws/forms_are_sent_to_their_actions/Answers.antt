use Rattle.form_laws.proofs.Shown.{sent}
use Rattle.form_laws.proofs.laws.forms_are_sent_to_their_actions.Goals as goal

pub returns : goal.returns
returns c = sent c.actions_are_at_their_paths.ensures.action
