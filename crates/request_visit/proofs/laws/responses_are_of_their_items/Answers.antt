use Rattle.request_visit.proofs.Saying.{advance_says, back_says, dropped_says, either_says, inside_says, item_says, leave_says, meanwhile_says, opened_says, outside_says, same_says, windows_says}
use Rattle.std.proofs.Common.{refl}
use Rattle.outcome_items.specs.declared.outcome.ItemOutcome.TheVariants as item
use Rattle.request_visit.specs.declared.visit.Work.TheVariants.{Decided}
use Rattle.request_visit.proofs.laws.responses_are_of_their_items.Goals as goal

pub returns-clause-meanwhile : goal.returns-clause-meanwhile
returns-clause-meanwhile g c = λ key history more out v s. meanwhile_says key history more out v s

pub returns-clause-inside : goal.returns-clause-inside
returns-clause-inside g c = λ key out old new container after visits longer s.
    inside_says key out g.P.Program.asks old new container after visits longer s

pub returns-clause-windows : goal.returns-clause-windows
returns-clause-windows g c = λ key history out marks old new windows after turned visits m s.
    windows_says c.ways_have_answers.ensures.settled key history out marks old new windows after turned visits m s

pub returns-clause-outside : goal.returns-clause-outside
returns-clause-outside g c = λ key history out v way counts turned same s. outside_says key history out v way counts turned same s

pub returns-clause-advance : goal.returns-clause-advance
returns-clause-advance g c = λ key history out old new advances s. advance_says key history out old new advances s

pub returns-clause-leave : goal.returns-clause-leave
returns-clause-leave g c = λ key history out v turned s. leave_says key history out v turned s

pub returns-clause-item : goal.returns-clause-item
returns-clause-item g c = λ key history out marks v i head turned is m close only s. item_says key history out marks v i head turned is m close only s

pub returns-clause-begins : goal.returns-clause-begins
returns-clause-begins g c = λ key history facts counts way v is. either_says key history facts counts way v is

pub returns-clause-refused : goal.returns-clause-refused
returns-clause-refused g c = λ key history facts counts way why v is.
    same_says key history facts counts way (Decided (item.Refused why)) v is (refl, λ p. p)

pub returns-clause-spent : goal.returns-clause-spent
returns-clause-spent g c = λ key history facts counts way seen v is.
    same_says key history facts counts way (Decided (item.SerialsSpent seen)) v is (refl, λ p. p)

pub returns-clause-opens : goal.returns-clause-opens
returns-clause-opens g c = λ key history out v tries program is s. opened_says key history out v tries program is s

pub returns-clause-dropped : goal.returns-clause-dropped
returns-clause-dropped g c = λ key history out v s. dropped_says key history out v s

pub returns-clause-back : goal.returns-clause-back
returns-clause-back g c = λ key history out marks old new fate back is some m s. back_says key history out marks old new fate back is some m s
