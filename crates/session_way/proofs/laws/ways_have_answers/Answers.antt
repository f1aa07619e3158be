use Rattle.std.proofs.Common.{refl}
use Rattle.session_way.specs.declared.way.SessionWay.TheVariants.{Resting, Reading, Ordered, Writing, Settling, Holding}
use Rattle.session_way.proofs.Answered.{read_answered, settled_answered, write_answered, write_wants_no_memory}
use Rattle.session_way.proofs.Ending.{wants_no_memory}
use Rattle.session_way.proofs.laws.ways_have_answers.Goals as goal

pub returns-clause-read : goal.returns-clause-read
returns-clause-read c = read_answered

pub returns-clause-write : goal.returns-clause-write
returns-clause-write c = λ w. write_answered w.write

pub returns-clause-settled : goal.returns-clause-settled
returns-clause-settled c = λ w. settled_answered w.write

pub returns-clause-read_memory : goal.returns-clause-read_memory
returns-clause-read_memory c = wants_no_memory

pub returns-clause-write_memory : goal.returns-clause-write_memory
returns-clause-write_memory c = write_wants_no_memory

pub returns-clause-settle : goal.returns-clause-settle
returns-clause-settle c = elim [
  | Resting ↦ refl
  | Reading r ↦ refl
  | Ordered order ↦ refl
  | Writing w ↦ refl
  | Settling w ↦ refl
  | Holding passes ↦ refl
]
