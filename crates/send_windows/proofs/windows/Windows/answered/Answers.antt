use Rattle.send_windows.specs.declared.pass.PassMark.TheVariants.{Answered}
use Rattle.send_windows.specs.Passes.{with_mark}
use Rattle.send_windows.specs.Windows.{WindowsValue}
use Rattle.send_windows.proofs.Keeping.{spent_keeps}
use Rattle.send_windows.proofs.windows.Windows.answered.Goals as goal

pub invariant_of-self : goal.invariant_of-self
invariant_of-self c =
    let s : WindowsValue = record { w = c.self.inside.w; wq = c.self.inside.wq; holds = c.self.inside.holds; facts = c.self.inside.facts.items; history = c.self.inside.history } in
    rw c.spend_one.ensures (spent_keeps s (with_mark c.args.pass Answered) c.self.invariant)
