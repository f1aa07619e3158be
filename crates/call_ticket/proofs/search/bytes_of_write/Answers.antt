use Rattle.call_ticket.proofs.Keeping.{row_found, row_not_found}
use Rattle.call_ticket.proofs.search.bytes_of_write.Goals as goal

pub returns-in-Some : goal.returns-in-Some
returns-in-Some c = row_found c.args.writes.now c.args.id c.in-Some.at c.index-writes-at.result c.in-Some.ensures

pub returns-in-None : goal.returns-in-None
returns-in-None c = row_not_found c.args.writes.now c.args.id c.in-None.ensures
