-- The marks of a history.
use Rattle.std.specs.Prelude.{List, [], ◌∷◌, ◌++◌}
use Rattle.send_windows.specs.declared.history.WindowMark.{WindowMark}
use Rattle.send_windows.specs.declared.history.Chain.{Chain}
use Rattle.send_windows.specs.declared.history.Chain.TheVariants.{End, Mark'}

-- the marks of a chain in order; the last one is stored first
abbrev pub marks_in : Chain → List WindowMark
marks_in End = []
marks_in (Mark' mark place before) = marks_in before ++ mark ∷ []
