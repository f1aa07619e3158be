use Rattle.unhindered_requests.proofs.Asked.{bricks_after, found_serves, holders_after, read_asks_serve, read_strays_serve, stored_serves, write_asks_serve, write_strays_serve}
use Rattle.unhindered_requests.proofs.laws.bricks_serve_by_their_replies.Goals as goal

pub returns-clause-read : goal.returns-clause-read
returns-clause-read c = holders_after

pub returns-clause-write : goal.returns-clause-write
returns-clause-write c = bricks_after

pub returns-clause-found : goal.returns-clause-found
returns-clause-found c = found_serves

pub returns-clause-stored : goal.returns-clause-stored
returns-clause-stored c = stored_serves

pub returns-clause-read_strays : goal.returns-clause-read_strays
returns-clause-read_strays c = read_strays_serve

pub returns-clause-write_strays : goal.returns-clause-write_strays
returns-clause-write_strays c = write_strays_serve

pub returns-clause-read_sent : goal.returns-clause-read_sent
returns-clause-read_sent c = read_asks_serve

pub returns-clause-write_sent : goal.returns-clause-write_sent
returns-clause-write_sent c = write_asks_serve
