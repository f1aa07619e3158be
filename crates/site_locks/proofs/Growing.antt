-- The history of windows grows where passes are given back.
use Rattle.std.proofs.Common.{◌≡◌, List, [], ◌++◌, sym, ap, ◌∙◌, append-nil}
use mathlib.Core.List.{IsPrefix}
use Rattle.send_windows.specs.Windows.{WindowsValue}
use Rattle.send_windows.specs.declared.history.WindowMark.{WindowMark}
use Rattle.shepherd.specs.Steps.{GivesBack}
use Rattle.shepherd.specs.declared.shepherd.Stage.{Stage}
use Rattle.shepherd.specs.declared.shepherd.Stage.TheVariants.{Resting, Serving, Refusing, Over}

-- windows that are as they were
stays : (old new : WindowsValue) → new ≡ old → IsPrefix old.history new.history
stays old new same = ([], append-nil old.history ∙ sym (ap (λ (w : WindowsValue). w.history) same))

-- windows whose history has become longer by these marks
goes_on : (old new : WindowsValue) (more : List WindowMark) → new.history ≡ old.history ++ more → IsPrefix old.history new.history
goes_on old new more is = (more, sym is)

pub given_back : {P : Type 0} (old new : Stage P) (windows after : WindowsValue) → GivesBack old windows new after → IsPrefix windows.history after.history
given_back Resting new windows after back = stays windows after back.1
given_back (Serving v call) new windows after back = goes_on windows after _ back.1.marks
given_back (Refusing why bytes) new windows after back = stays windows after back.1
given_back (Over end) new windows after back = stays windows after back.1
