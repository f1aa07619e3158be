use Rattle.std.proofs.Common.{◌≡◌, ◌∙◌, List, Some, ap, sym}
use Rattle.send_windows.specs.declared.fact.WindowFact.{WindowFact}
use Rattle.send_windows.specs.Facts.{fact_of, open_pass}
use Rattle.send_windows.specs.Windows.{WindowsValue}
use Rattle.send_windows.proofs.Keeping.{try_keeps}
use Rattle.send_windows.proofs.windows.Windows.try_pass.Goals as goal

pub invariant_of-self : goal.invariant_of-self
invariant_of-self c =
    let s : WindowsValue = record { w = c.self.inside.w; wq = c.self.inside.wq; holds = c.self.inside.holds; facts = c.self.inside.facts.items; history = c.self.inside.history } in
    let is : open_pass c.args.brick (fact_of s.facts c.args.brick) ≡ Some c.in-Some.pass =
    ap (λ (facts : List WindowFact). open_pass c.args.brick (fact_of facts c.args.brick)) (sym c.deref.ensures.value) ∙ (sym c.open_pass.ensures ∙ c.in-Some.is) in
    rw c.give_all.ensures (try_keeps s c.args.brick c.in-Some.pass c.self.invariant is)
