-- The marks that a way leaves in the history of the windows.
use Rattle.std.specs.Prelude.{ℕ, zero, suc, List, [], ◌∷◌, length, Option, Some, None}
use Rattle.send_windows.specs.declared.history.WindowMark.{WindowMark}
use Rattle.send_windows.specs.declared.history.WindowMark.TheVariants.{Opened, Taken, Refused, Spent}
use Rattle.send_windows.specs.declared.pass.Pass.{Pass}
use Rattle.send_windows.specs.declared.windows.TakeRefusal.{TakeRefusal}
use Rattle.send_windows.specs.declared.windows.TakeRefusal.TheVariants.{Overload, OutOfMemory}
use Rattle.session_way.specs.declared.way.SessionWay.{SessionWay}
use Rattle.session_way.specs.Way.{held}

-- the marks between the passes that were held and those that are: of a take where passes came, of a spend where they
-- went
abbrev pub marks_between : Option (List Pass) → Option (List Pass) → List WindowMark
marks_between None None = []
marks_between None (Some passes) = Taken (length passes) ∷ []
marks_between (Some passes) None = Spent ∷ []
marks_between (Some passes) (Some kept) = []

-- the marks of a step of a way
abbrev pub marks_by : SessionWay → SessionWay → List WindowMark
marks_by way after = marks_between (held way) (held after)

-- the marks of a step of the windows that was refused
abbrev pub refusal_marks : TakeRefusal → SessionWay → SessionWay → List WindowMark
refusal_marks (Overload full) way after = Refused ∷ []
refusal_marks OutOfMemory way after = marks_by way after

-- how many takes there are among marks
abbrev pub takes : List WindowMark → ℕ
takes [] = zero
takes (Opened bricks w wq holds ∷ marks) = takes marks
takes (Taken passes ∷ marks) = suc (takes marks)
takes (Refused ∷ marks) = takes marks
takes (Spent ∷ marks) = takes marks

-- how many spends there are among marks
abbrev pub spends : List WindowMark → ℕ
spends [] = zero
spends (Opened bricks w wq holds ∷ marks) = spends marks
spends (Taken passes ∷ marks) = spends marks
spends (Refused ∷ marks) = spends marks
spends (Spent ∷ marks) = suc (spends marks)

-- how many spends are owed for these passes
abbrev pub owed : Option (List Pass) → ℕ
owed None = zero
owed (Some passes) = suc zero
