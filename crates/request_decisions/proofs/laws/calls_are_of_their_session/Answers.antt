use Rattle.request_decisions.proofs.Sessions.{of_cookie, of_none, of_order, of_user, of_words}
use Rattle.request_decisions.proofs.laws.calls_are_of_their_session.Goals as goal

pub returns-clause-user : goal.returns-clause-user
returns-clause-user c = of_user c.sessions_read_back.ensures

pub returns-clause-key : goal.returns-clause-key
returns-clause-key c = of_cookie

pub returns-clause-none : goal.returns-clause-none
returns-clause-none c = of_none

pub returns-clause-new : goal.returns-clause-new
returns-clause-new c = of_words

pub returns-clause-asked : goal.returns-clause-asked
returns-clause-asked c = of_order
