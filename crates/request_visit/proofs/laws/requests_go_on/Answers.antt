use Rattle.std.proofs.Common.{refl}
use Rattle.outcome_items.specs.declared.outcome.ItemOutcome.TheVariants as item
use Rattle.request_tries.specs.Serving.{unbegun}
use Rattle.request_visit.specs.declared.visit.Work.TheVariants.{Reading, Opening, Decided}
use Rattle.request_visit.proofs.Going.{advance_goes, back_goes, begun_goes, dropped_goes, grown_goes, inside_goes, inside_turn, item_goes, leave_goes, opened_goes, outside_goes, windows_go}
use Rattle.request_visit.proofs.laws.requests_go_on.Goals as goal

pub returns-clause-begins : goal.returns-clause-begins
returns-clause-begins g c = λ boot facts counts way why seen within small. (
  begun_goes g.P.Program.accepts g.P.Program.asks boot facts counts way Reading within small tt,
  begun_goes g.P.Program.accepts g.P.Program.asks boot facts counts way Opening within small tt,
  begun_goes g.P.Program.accepts g.P.Program.asks boot facts counts way (Decided (item.Refused why)) within small tt,
  begun_goes g.P.Program.accepts g.P.Program.asks boot facts counts way (Decided (item.SerialsSpent seen)) within small tt,
)

pub returns-clause-opens : goal.returns-clause-opens
returns-clause-opens g c = λ boot v request worker text program is accepted may.
    opened_goes g.P.Program.accepts g.P.Program.asks boot v (unbegun request worker text) program refl accepted
    (c.ends_stay_true.ensures.unbegun boot (g.P.Program.asks program) request worker text) may

pub returns-clause-grows : goal.returns-clause-grows
returns-clause-grows g c = λ old new v grown may. grown_goes c.ends_stay_true.ensures.serving g.P.Program.accepts g.P.Program.asks old new v grown may

pub returns-clause-inside : goal.returns-clause-inside
returns-clause-inside g c = λ old new container after visits grown may.
    inside_goes
    (record {
      stopped = λ d asks end. c.ends_begin_with_the_first_try.ensures.stopped d end asks;
      committed = c.ends_begin_with_the_first_try.ensures.committed;
      stepped = λ d asks end. c.ends_begin_with_the_first_try.ensures.stepped d end asks;
      tried = c.ends_begin_with_the_first_try.ensures.tried;
    })
    c.ends_stay_true.ensures.serving g.P.Program.accepts g.P.Program.asks old new container after visits grown may

pub returns-clause-windows : goal.returns-clause-windows
returns-clause-windows g c = λ boot old new windows after visits may.
    windows_go g.P.Program.accepts g.P.Program.asks boot old new windows after visits may

pub returns-clause-outside : goal.returns-clause-outside
returns-clause-outside g c = λ boot v way counts may. outside_goes g.P.Program.accepts g.P.Program.asks boot v way counts may

pub returns-clause-advance : goal.returns-clause-advance
returns-clause-advance g c = λ boot key old new advances may.
    advance_goes g.P.Program.accepts g.P.Program.asks boot key old new advances may

pub returns-clause-leave : goal.returns-clause-leave
returns-clause-leave g c = λ boot v may. leave_goes g.P.Program.accepts g.P.Program.asks boot v may

pub returns-clause-dropped : goal.returns-clause-dropped
returns-clause-dropped g c = λ boot v may. dropped_goes g.P.Program.accepts g.P.Program.asks boot v may

pub returns-clause-back : goal.returns-clause-back
returns-clause-back g c = λ boot old new back may. back_goes g.P.Program.accepts g.P.Program.asks boot old new back may

pub returns-clause-inside_turn : goal.returns-clause-inside_turn
returns-clause-inside_turn g c = λ boot v is may. inside_turn g.P.Program.accepts g.P.Program.asks boot v is may

pub returns-clause-item : goal.returns-clause-item
returns-clause-item g c = λ boot v i is may. item_goes g.P.Program.accepts g.P.Program.asks boot v i is may
