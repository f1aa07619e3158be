use Rattle.send_windows.proofs.Keeping.{new_keeps}
use Rattle.send_windows.proofs.windows.Windows.new.Goals as goal

pub invariant_of-result : goal.invariant_of-result
invariant_of-result c =
    let keeps = new_keeps c.args.bricks c.args.w c.args.wq c.args.holds c.requires.some c.requires.enough c.requires.within c.requires.few in
    rw (c.in_ok-facts.ensures, c.put.ensures, c.new-history.ensures) keeps
