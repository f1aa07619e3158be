use Rattle.session_way.proofs.Begun.{cookie_begun, cookie_stays, order_begun}
use Rattle.session_way.proofs.laws.ways_tell_how_they_began.Goals as goal

pub returns-clause-read : goal.returns-clause-read
returns-clause-read c = cookie_begun

pub returns-clause-read_stays : goal.returns-clause-read_stays
returns-clause-read_stays c = cookie_stays

pub returns-clause-write : goal.returns-clause-write
returns-clause-write c = order_begun
