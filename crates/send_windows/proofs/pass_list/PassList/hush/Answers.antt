use Rattle.std.proofs.Common.{◌≢◌, List, map, get_or}
use Rattle.std.proofs.lemmas.List.Elements.{All-map}
use Rattle.send_windows.specs.declared.pass.Pass.{Pass}
use Rattle.send_windows.specs.declared.pass.PassMark.{PassMark}
use Rattle.send_windows.specs.declared.pass.PassMark.TheVariants.{Unheard, Answered, Silent}
use Rattle.send_windows.specs.Passes.{AreHeard, hushed, hushed_mark}
use Rattle.send_windows.proofs.pass_list.PassList.hush.Goals as goal

heard : (mark : PassMark) → hushed_mark mark ≢ Unheard
heard Unheard = λ is. cc
heard Answered = λ is. cc
heard Silent = λ is. cc

all_heard : (passes : List Pass) → AreHeard (map hushed passes)
all_heard passes = All-map (λ (pass : Pass). pass.mark ≢ Unheard) hushed passes (λ k d within. heard (get_or passes k d).mark)

pub returns-clause-heard : goal.returns-clause-heard
returns-clause-heard c = rw c.hush_all.ensures (all_heard c.self.inside.passes.items)
