use Rattle.std.proofs.Common.{◌≡◌, ◌∙◌, List, None, ap, sym}
use Rattle.send_windows.specs.declared.fact.WindowFact.{WindowFact}
use Rattle.send_windows.specs.Facts.{fact_of}
use Rattle.send_windows.specs.Windows.{WindowsValue}
use Rattle.send_windows.proofs.Moving.{is_found}
use Rattle.send_windows.proofs.windows.Windows.window.Goals as goal

pub returns-in-None : goal.returns-in-None
returns-in-None c =
    let found = is_found c.args.self.now c.args.brick (rw (← c.self.view_is) c.self.invariant) c.requires.least c.requires.most in
    let none : fact_of c.args.self.now.facts c.args.brick ≡ None =
    ap (λ (s : WindowsValue). fact_of s.facts c.args.brick) (sym c.self.view_is)
    ∙ (ap (λ (facts : List WindowFact). fact_of facts c.args.brick) (sym c.deref.ensures.value) ∙ (sym c.fact_of.ensures ∙ c.in-None.is)) in
    absurd (found none)
