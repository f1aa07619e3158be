use Rattle.unhindered_requests.proofs.Ending.{advance_fewer, calls_fewer, inside_fewer, leave_fewer, opens_fewer, read_few, unread_few, windows_fewer}
use Rattle.unhindered_requests.proofs.laws.requests_come_to_their_end.Goals as goal

pub returns-clause-unread : goal.returns-clause-unread
returns-clause-unread g c = unread_few

pub returns-clause-read : goal.returns-clause-read
returns-clause-read g c = read_few

pub returns-clause-outside : goal.returns-clause-outside
returns-clause-outside g c = λ v way counts link after steps. calls_fewer g.L.Link.makes v way counts link after steps

pub returns-clause-opens : goal.returns-clause-opens
returns-clause-opens g c = opens_fewer

pub returns-clause-inside : goal.returns-clause-inside
returns-clause-inside g c = λ old new container after visits serving.
    inside_fewer c.attempts_come_to_their_end.ensures.done g.P.Program.asks g.P.Program.accepts g.met.P.Program.is_done old new container after visits serving

pub returns-clause-windows : goal.returns-clause-windows
returns-clause-windows g c = windows_fewer

pub returns-clause-advance : goal.returns-clause-advance
returns-clause-advance g c = advance_fewer

pub returns-clause-leave : goal.returns-clause-leave
returns-clause-leave g c = leave_fewer
