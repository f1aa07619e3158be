use Rattle.ssm_world.proofs.Answering.{holder_replies, holder_heard}
use Rattle.ssm_world.proofs.laws.holders_answer_found.Goals as goal

pub returns-clause-replies : goal.returns-clause-replies
returns-clause-replies c = holder_replies

pub returns-clause-heard : goal.returns-clause-heard
returns-clause-heard c = holder_heard c.each_hears_its_own.ensures.read c.an_outcome_of_a_get_has_its_events.ensures.comes
