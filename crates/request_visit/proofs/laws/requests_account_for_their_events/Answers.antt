use Rattle.request_visit.proofs.Accounting.{inside, meanwhile}
use Rattle.std.proofs.Common.{refl}
use Rattle.request_visit.proofs.Telling.{by_advance, by_dropping, by_giving_back, by_item, by_leaving, by_opening, by_windows, over_then}
use Rattle.request_visit.proofs.laws.requests_account_for_their_events.Goals as goal

pub returns-clause-meanwhile : goal.returns-clause-meanwhile
returns-clause-meanwhile g c = λ start history more errand own v a.
    meanwhile c.ends_stay_true.ensures.ends g.P.Program.asks start history more errand v.facts v.holds own v.work a

pub returns-clause-inside : goal.returns-clause-inside
returns-clause-inside g c = λ start errand own old new container after visits a is.
    inside g.P.Program.asks start errand own old new container after visits a is

pub returns-clause-windows : goal.returns-clause-windows
returns-clause-windows g c = λ start history errand own old new windows after visits a.
    by_windows g.P.Program.asks start history errand own old new windows after visits a

pub returns-clause-advance : goal.returns-clause-advance
returns-clause-advance g c = λ start history errand own old new key advances a.
    by_advance g.P.Program.asks start history errand own old new key advances a

pub returns-clause-leave : goal.returns-clause-leave
returns-clause-leave g c = λ start history errand own v a.
    by_leaving g.P.Program.asks start history errand v.facts v.holds own v.work a

pub returns-clause-item : goal.returns-clause-item
returns-clause-item g c = λ start history errand own v i is a.
    by_item g.P.Program.asks start history errand own v v.work i is a

pub returns-clause-begins : goal.returns-clause-begins
returns-clause-begins g c = λ start history errand facts counts way why seen. (
  record { holds_are = refl; own_is = refl },
  record { holds_are = refl; own_is = refl },
  record { holds_are = refl; own_is = refl },
  record { holds_are = refl; own_is = refl },
)

pub returns-clause-opens : goal.returns-clause-opens
returns-clause-opens g c = λ start history errand own v tries program is number a.
    by_opening g.P.Program.asks start history errand own v tries program is number a

pub returns-clause-outside : goal.returns-clause-outside
returns-clause-outside g c = λ start history errand own v way counts a. a

pub returns-clause-back : goal.returns-clause-back
returns-clause-back g c = λ start history errand own old new back a.
    by_giving_back g.P.Program.asks start history errand own old new back a

pub returns-clause-over : goal.returns-clause-over
returns-clause-over g c = λ old new fate back is. over_then old new fate back is

pub returns-clause-dropped : goal.returns-clause-dropped
returns-clause-dropped g c = λ start history errand own v a.
    by_dropping g.P.Program.asks start history errand v.facts v.holds own v.work a
