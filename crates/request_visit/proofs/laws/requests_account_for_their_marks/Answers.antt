use Rattle.std.proofs.Common.{refl}
use Rattle.outcome_items.specs.declared.outcome.ItemOutcome.TheVariants as item
use Rattle.session_way.specs.declared.way.SessionWay.TheVariants as way
use Rattle.request_visit.specs.declared.visit.Work.TheVariants.{Decided}
use Rattle.request_visit.proofs.Marking.{advance_marks, back_marks, begun_marks, dropped_marks, either_marks, inside_mark, item_marks, leave_marks, opened_marks, outside_marks, windows_mark}
use Rattle.request_visit.proofs.laws.requests_account_for_their_marks.Goals as goal

pub returns-clause-windows : goal.returns-clause-windows
returns-clause-windows g c = λ marks old new windows after turned visits m.
    windows_mark c.ways_have_answers.ensures.settled marks old new windows after turned visits m

pub returns-clause-inside : goal.returns-clause-inside
returns-clause-inside g c = λ marks old new container after visits m.
    inside_mark marks g.P.Program.asks old new container after visits m

pub returns-clause-outside : goal.returns-clause-outside
returns-clause-outside g c = λ marks v way counts link after steps m.
    outside_marks g.L.Link.makes marks v.cookie v.way way link after v.work steps m

pub returns-clause-advance : goal.returns-clause-advance
returns-clause-advance g c = λ marks key old new turned advances m. advance_marks marks key old new turned advances m

pub returns-clause-leave : goal.returns-clause-leave
returns-clause-leave g c = λ marks v turned m. leave_marks marks v.cookie v.way v.work turned m

pub returns-clause-item : goal.returns-clause-item
returns-clause-item g c = λ marks v i turned is m. item_marks marks v v.work i turned is m

pub returns-clause-begins : goal.returns-clause-begins
returns-clause-begins g c = λ facts counts read v is. either_marks v facts counts read is

pub returns-clause-refused : goal.returns-clause-refused
returns-clause-refused g c = λ facts counts why v is.
    begun_marks v facts counts way.Resting (Decided (item.Refused why)) is (refl, record { rests = refl; marks_are = refl })

pub returns-clause-spent : goal.returns-clause-spent
returns-clause-spent g c = λ facts counts seen v is.
    begun_marks v facts counts way.Resting (Decided (item.SerialsSpent seen)) is (refl, record { rests = refl; marks_are = refl })

pub returns-clause-opens : goal.returns-clause-opens
returns-clause-opens g c = λ marks v tries program is m. opened_marks marks v tries program is m

pub returns-clause-dropped : goal.returns-clause-dropped
returns-clause-dropped g c = λ marks v m. dropped_marks marks v.cookie v.way v.work m

pub returns-clause-back : goal.returns-clause-back
returns-clause-back g c = λ marks old new fate back is some m. back_marks marks old new fate back is some m
