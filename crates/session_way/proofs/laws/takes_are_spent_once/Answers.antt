use Rattle.std.proofs.Common.{ap, refl, List, Option, None}
use Rattle.send_windows.specs.declared.pass.Pass.{Pass}
use Rattle.session_way.specs.declared.way.SessionWay.TheVariants.{Resting, Reading, Ordered, Writing, Settling, Holding}
use Rattle.session_way.specs.Marks.{marks_between}
use Rattle.session_way.proofs.Marked.{back_marks, outside_marks, refused_marks, step_marks, steps_balance}
use Rattle.session_way.proofs.laws.takes_are_spent_once.Goals as goal

pub returns-clause-step : goal.returns-clause-step
returns-clause-step g c = step_marks

pub returns-clause-refused : goal.returns-clause-refused
returns-clause-refused g c = refused_marks

pub returns-clause-back : goal.returns-clause-back
returns-clause-back g c = back_marks

pub returns-clause-outside : goal.returns-clause-outside
returns-clause-outside g c = λ old new way after step. outside_marks g.L.Link.makes old new way after step

pub returns-clause-settle : goal.returns-clause-settle
returns-clause-settle g c = elim [
  | Resting ↦ refl
  | Reading r ↦ refl
  | Ordered order ↦ refl
  | Writing w ↦ refl
  | Settling w ↦ refl
  | Holding passes ↦ refl
]

pub returns-clause-once : goal.returns-clause-once
returns-clause-once g c = λ way passes is. ap (λ (o : Option (List Pass)). marks_between o None) is

pub returns-clause-balance : goal.returns-clause-balance
returns-clause-balance g c = steps_balance
