-- The tables that calls of actions access.
use Rattle.std.proofs.Common.{◌≡◌, ℕ, true, List, Some, subst}
use Rattle.crash_base.specs.declared.rows.RowWrite.{RowWrite}
use Rattle.call_ticket.specs.declared.next.Answer.{Answer}
use Rattle.call_ticket.specs.declared.next.Next.{Next}
use Rattle.call_ticket.specs.declared.next.Next.TheVariants as next
use Rattle.call_attempts.specs.Attempt.{Accesses, table_of}
use Rattle.auction_calls.specs.declared.action.ActionCall.{ActionCall}
use Rattle.auction_site.specs.Actions.{steps_of}
use Rattle.auction_site.specs.Reached.{Reach, is_among, stays_within, reach_of}
use Rattle.auction_site.proofs.Reaching.{call_stays}
use Rattle.reach_laws.specs.Uses.{has_table}
use Rattle.reach_laws.proofs.Tables.{read_table, listed_table, put_table}

-- a step within a reach accesses a table that the reach has
access_stays : (r : Reach) (t : ℕ) (x : Next) → table_of x ≡ Some t → stays_within r x ≡ true → has_table r t ≡ true
access_stays r t (next.Enter c m) is stays = absurd (cc)
access_stays r t (next.Read id) is stays =
    let same : id.table ≡ t = cc in
    read_table r t (subst (λ n. is_among r.reads n ≡ true) same stays)
access_stays r t (next.List listed) is stays =
    let same : listed ≡ t = cc in
    listed_table r t (subst (λ n. is_among r.lists n ≡ true) same stays)
access_stays r t (next.Put w) is stays =
    let same : w.id.table ≡ t = cc in
    put_table r t (subst (λ n. is_among r.puts n ≡ true) same stays)
access_stays r t next.Exit is stays = absurd (cc)
access_stays r t (next.Done d) is stays = absurd (cc)

pub accessed : (call : ActionCall) (t : ℕ) → Accesses (steps_of call) t → has_table (reach_of call.action) t ≡ true
accessed call t e = access_stays (reach_of call.action) t (steps_of call e.answers) e.access (call_stays call e.answers)

pub puts_so : (call : ActionCall) (answers : List Answer) (w : RowWrite) → steps_of call answers ≡ next.Put w → is_among (reach_of call.action).puts w.id.table ≡ true
puts_so call answers w is = subst (λ x. stays_within (reach_of call.action) x ≡ true) is (call_stays call answers)
