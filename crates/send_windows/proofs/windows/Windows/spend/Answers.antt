use Rattle.std.proofs.Common.{[], ◌∷◌, sym}
use Rattle.send_windows.specs.declared.history.WindowMark.TheVariants.{Spent}
use Rattle.send_windows.specs.Facts.{all_spent}
use Rattle.send_windows.specs.Windows.{WindowsValue}
use Rattle.send_windows.proofs.Keeping.{all_spent_keeps, keep_mark}
use Rattle.send_windows.proofs.windows.Windows.spend.Goals as goal

pub invariant_of-self : goal.invariant_of-self
invariant_of-self c =
    let s : WindowsValue = record { w = c.self.inside.w; wq = c.self.inside.wq; holds = c.self.inside.holds; facts = c.self.inside.facts.items; history = c.self.inside.history } in
    rw (c.spend_all.ensures, c.put.ensures) (keep_mark (record s { facts = all_spent s.facts c.deref.result.now }) Spent (all_spent_keeps s c.deref.result.now c.self.invariant))

pub returns-clause-grown : goal.returns-clause-grown
returns-clause-grown c = rw (← c.self.view_is) (Spent ∷ [], sym c.put.ensures)
