use Rattle.session_way.specs.Lease.{value_to_write}
use Rattle.request_visit.specs.Ready.{set_in}
use Rattle.request_visit.proofs.Following.{keeps, responds, sets, shows, writes}
use Rattle.request_visit.proofs.laws.pages_follow_their_entries.Goals as goal

pub returns-clause-shown : goal.returns-clause-shown
returns-clause-shown c = λ facts lease what bytes e.
    responds facts what (value_to_write (set_in what) facts.now lease) bytes e

pub returns-clause-written : goal.returns-clause-written
returns-clause-written c = λ facts lease what order shown e.
    writes facts what (value_to_write (set_in what) facts.now lease) order shown e

pub returns-clause-page : goal.returns-clause-page
returns-clause-page c = λ facts lease what order shown text e.
    shows facts what (value_to_write (set_in what) facts.now lease) order shown text e

pub returns-clause-sets : goal.returns-clause-sets
returns-clause-sets c = sets

pub returns-clause-keeps : goal.returns-clause-keeps
returns-clause-keeps c = keeps
