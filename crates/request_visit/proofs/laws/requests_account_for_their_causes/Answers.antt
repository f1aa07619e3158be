use Rattle.std.proofs.Common.{refl, inl, inr, subst}
use Rattle.outcome_items.specs.declared.outcome.ItemOutcome.{ItemOutcome}
use Rattle.outcome_items.specs.declared.outcome.ItemOutcome.TheVariants as item
use Rattle.session_way.specs.declared.way.SessionWay.TheVariants as way
use Rattle.ssm_stub.specs.Reads.{read_start}
use Rattle.request_visit.specs.Counts.{HasCounted, causes_of, noted_by}
use Rattle.request_visit.specs.declared.visit.Work.TheVariants.{Reading, Opening, Decided}
use Rattle.request_visit.proofs.Counted.{advance_counts, back_counts, begun_counts, dropped_counts, inside_counts, item_counts, leave_counts, opened_counts, outside_counts, unread, windows_count}
use Rattle.request_visit.proofs.laws.requests_account_for_their_causes.Goals as goal

pub returns-clause-begins : goal.returns-clause-begins
returns-clause-begins g c = λ facts counts nonce cookie v is. elim is [
  | inl reads ↦ begun_counts facts counts (way.Reading (read_start facts.now nonce cookie)) Reading v reads (unread facts nonce cookie) refl
  | inr opens ↦ begun_counts facts counts way.Resting Opening v opens refl refl
]

pub returns-clause-refused : goal.returns-clause-refused
returns-clause-refused g c = λ facts counts why v is. begun_counts facts counts way.Resting (Decided (item.Refused why)) v is refl refl

pub returns-clause-spent : goal.returns-clause-spent
returns-clause-spent g c = λ facts counts seen v is. begun_counts facts counts way.Resting (Decided (item.SerialsSpent seen)) v is refl refl

pub returns-clause-opens : goal.returns-clause-opens
returns-clause-opens g c = λ begin v tries program s. opened_counts begin v tries program s

pub returns-clause-outside : goal.returns-clause-outside
returns-clause-outside g c = λ begin v way link after steps hushed got s.
    outside_counts g.L.Link.makes g.L.Link.tally g.met.L.Link.tallies begin v way link after steps hushed got s

pub returns-clause-windows : goal.returns-clause-windows
returns-clause-windows g c = λ begin old new windows after visits s. windows_count begin old new windows after visits s

pub returns-clause-inside : goal.returns-clause-inside
returns-clause-inside g c = λ begin old new container after visits s. inside_counts begin g.P.Program.asks old new container after visits s

pub returns-clause-advance : goal.returns-clause-advance
returns-clause-advance g c = λ begin key old new advances s. advance_counts begin key old new advances s

pub returns-clause-leave : goal.returns-clause-leave
returns-clause-leave g c = λ begin v s. leave_counts begin v s

pub returns-clause-dropped : goal.returns-clause-dropped
returns-clause-dropped g c = λ begin v s. dropped_counts begin v s

pub returns-clause-back : goal.returns-clause-back
returns-clause-back g c = λ begin old new back s. back_counts begin old new back s

pub returns-clause-item : goal.returns-clause-item
returns-clause-item g c = λ begin v i is s. item_counts begin v i is s

pub returns-clause-lost : goal.returns-clause-lost
returns-clause-lost g c = λ begin v i causes is s out.
    let h : HasCounted (noted_by causes) begin i.counts =
    subst (λ (o : ItemOutcome). HasCounted (noted_by (causes_of o)) begin i.counts) out (item_counts begin v i is s) in
    (h.hushed, h.got)

pub returns-clause-missed : goal.returns-clause-missed
returns-clause-missed g c = λ begin v i place again causes is s out.
    let h : HasCounted (noted_by causes) begin i.counts =
    subst (λ (o : ItemOutcome). HasCounted (noted_by (causes_of o)) begin i.counts) out (item_counts begin v i is s) in
    (h.hushed, h.got)
