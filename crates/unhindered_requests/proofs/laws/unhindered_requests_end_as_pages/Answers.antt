use Rattle.unhindered_requests.proofs.Freeing.{free_so}
use Rattle.unhindered_requests.proofs.Pages.{advance_unhindered, back_unhindered, inside_unhindered, item_unhindered, leave_unhindered, outside_unhindered, read_unhindered, unread_unhindered, windows_unhindered}
use Rattle.unhindered_requests.proofs.laws.unhindered_requests_end_as_pages.Goals as goal

pub returns-clause-unread : goal.returns-clause-unread
returns-clause-unread g c = unread_unhindered

pub returns-clause-read : goal.returns-clause-read
returns-clause-read g c = read_unhindered

pub returns-clause-outside : goal.returns-clause-outside
returns-clause-outside g c = λ serves v way counts link after steps does h.
    outside_unhindered g.L.Link.makes serves v.way way link after v.work steps does h

pub returns-clause-opens : goal.returns-clause-opens
returns-clause-opens g c = λ serves v tries program. tt

pub returns-clause-inside : goal.returns-clause-inside
returns-clause-inside g c = λ serves old new container after visits free keeps.
    inside_unhindered c.commits_are_refused_in_order.ensures.first
    (record {
      revoked = c.reboots_and_faults_alone_stop.ensures.revoked;
      sentinel = c.reboots_and_faults_alone_stop.ensures.sentinel;
      hung = c.reboots_and_faults_alone_stop.ensures.hung;
      raised = c.reboots_and_faults_alone_stop.ensures.raised;
    })
    g.P.Program.asks serves old new container after visits free keeps

pub returns-clause-windows : goal.returns-clause-windows
returns-clause-windows g c = windows_unhindered

pub returns-clause-advance : goal.returns-clause-advance
returns-clause-advance g c = advance_unhindered c.ways_have_answers.ensures.write

pub returns-clause-leave : goal.returns-clause-leave
returns-clause-leave g c = leave_unhindered

pub returns-clause-back : goal.returns-clause-back
returns-clause-back g c = back_unhindered

pub returns-clause-item : goal.returns-clause-item
returns-clause-item g c = item_unhindered

pub returns-clause-serve : goal.returns-clause-serve
returns-clause-serve g c = λ serves r w. (λ h. h, λ h. h)

pub returns-clause-serve_else : goal.returns-clause-serve_else
returns-clause-serve_else g c = λ serves order w passes. (tt, tt, tt, tt)

pub returns-clause-free : goal.returns-clause-free
returns-clause-free g c = λ asks container tries a stale conflict up works room. free_so asks container tries a stale conflict up works room
