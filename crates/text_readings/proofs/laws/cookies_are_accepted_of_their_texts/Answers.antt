use Rattle.text_readings.proofs.CookieAnswers.{accepted, none_accepted}
use Rattle.text_readings.proofs.laws.cookies_are_accepted_of_their_texts.Goals as goal

pub returns-clause-cookie : goal.returns-clause-cookie
returns-clause-cookie c = accepted

pub returns-clause-none : goal.returns-clause-none
returns-clause-none c = none_accepted
