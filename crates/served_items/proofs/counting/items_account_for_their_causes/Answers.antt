use Rattle.std.proofs.Common.{arith, subst}
use Rattle.outcome_items.specs.declared.outcome.ItemOutcome.{ItemOutcome}
use Rattle.request_visit.specs.Counts.{HasCounted, causes_of, noted_by}
use Rattle.served_items.proofs.Tallying.{advance, back, begins, given_up, inside, item_joins, meanwhile, next_counts, opens, out, outside, still, taken, windows}
use Rattle.served_items.proofs.counting.items_account_for_their_causes.Goals as goal

pub returns-clause-begins : goal.returns-clause-begins
returns-clause-begins g c = λ now. begins now

pub returns-clause-meanwhile : goal.returns-clause-meanwhile
returns-clause-meanwhile g c = λ begin now later items s hushed got h. meanwhile begin now later items s hushed got h

pub returns-clause-still : goal.returns-clause-still
returns-clause-still g c = λ begin now items s new same h. still begin now items s new same h

pub returns-clause-taken : goal.returns-clause-taken
returns-clause-taken g c = λ key home begin now counts items s new clock clock_after random random_after serials serials_after is hushed got takes h.
    taken (record {
      served = c.requests_account_for_their_causes.ensures.begins;
      refused = c.requests_account_for_their_causes.ensures.refused;
      spent = c.requests_account_for_their_causes.ensures.spent;
    }) g.C.Clock.told g.R.Random.gives g.S.Serials.looks key home begin now counts items s new clock clock_after random random_after serials serials_after is hushed got takes h

pub returns-clause-outside : goal.returns-clause-outside
returns-clause-outside g c = λ begin now items old new link after steps hushed got h.
    outside g.L.Link.makes g.L.Link.tally c.requests_account_for_their_causes.ensures.outside begin now items old new link after steps hushed got h

pub returns-clause-windows : goal.returns-clause-windows
returns-clause-windows g c = λ begin now items old new before after steps h.
    windows c.requests_account_for_their_causes.ensures.windows begin now items old new before after steps h

pub returns-clause-inside : goal.returns-clause-inside
returns-clause-inside g c = λ begin now items old new container after steps h.
    inside g.P.Program.asks c.requests_account_for_their_causes.ensures.inside begin now items old new container after steps h

pub returns-clause-advance : goal.returns-clause-advance
returns-clause-advance g c = λ begin now items key old new steps h.
    advance c.requests_account_for_their_causes.ensures.advance begin now items key old new steps h

pub returns-clause-open : goal.returns-clause-open
returns-clause-open g c = λ begin now items s stage maker worker does h.
    opens g.M.ProgramMaker.makes c.requests_account_for_their_causes.ensures.opens begin now items s stage maker worker does h

pub returns-clause-out : goal.returns-clause-out
returns-clause-out g c = λ begin now items bytes s stage puts h.
    out c.requests_account_for_their_causes.ensures.leave begin now items bytes s stage puts h

pub returns-clause-item : goal.returns-clause-item
returns-clause-item g c = λ begin now items i s stage takes h.
    item_joins c.requests_account_for_their_causes.ensures.item begin now items i s stage takes h

pub returns-clause-given_up : goal.returns-clause-given_up
returns-clause-given_up g c = λ begin now items s h.
    given_up c.requests_account_for_their_causes.ensures.dropped begin now items s h

pub returns-clause-given_back : goal.returns-clause-given_back
returns-clause-given_back g c = λ begin now items s stage before after gives h.
    back c.requests_account_for_their_causes.ensures.back begin now items s stage before after gives h

pub returns-clause-rises : goal.returns-clause-rises
returns-clause-rises g c = λ begin now before behind i next s h.
    let more = next_counts begin before behind i next h.count_on in
    (omega (arith, more.hushed), omega (arith, more.got))

pub returns-clause-lost : goal.returns-clause-lost
returns-clause-lost g c = λ begin now before behind i next causes s h is.
    let more : HasCounted (noted_by causes) i.counts next.counts =
    subst (λ (o : ItemOutcome). HasCounted (noted_by (causes_of o)) i.counts next.counts) is (next_counts begin before behind i next h.count_on) in
    (more.hushed, more.got)

pub returns-clause-missed : goal.returns-clause-missed
returns-clause-missed g c = λ begin now before behind i next place again causes s h is.
    let more : HasCounted (noted_by causes) i.counts next.counts =
    subst (λ (o : ItemOutcome). HasCounted (noted_by (causes_of o)) i.counts next.counts) is (next_counts begin before behind i next h.count_on) in
    (more.hushed, more.got)

pub returns-clause-first_lost : goal.returns-clause-first_lost
returns-clause-first_lost g c = λ begin now i behind causes s h is.
    let more : HasCounted (noted_by causes) begin i.counts =
    subst (λ (o : ItemOutcome). HasCounted (noted_by (causes_of o)) begin i.counts) is h.count_on.0 in
    (more.hushed, more.got)

pub returns-clause-first_missed : goal.returns-clause-first_missed
returns-clause-first_missed g c = λ begin now i behind place again causes s h is.
    let more : HasCounted (noted_by causes) begin i.counts =
    subst (λ (o : ItemOutcome). HasCounted (noted_by (causes_of o)) begin i.counts) is h.count_on.0 in
    (more.hushed, more.got)
