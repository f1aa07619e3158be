use Rattle.std.proofs.Common.{◌≡◌, ◌∙◌, ◌++◌, ap, arith, length, take, drop}
use Rattle.std.proofs.lemmas.Grind.{common_steps}
use Rattle.send_windows.specs.Facts.{open_passes}
use Rattle.send_windows.proofs.Keeping.{length-round}
use Rattle.send_windows.proofs.facts.open_from.Goals as goal

pub returns-clause-count : goal.returns-clause-count
returns-clause-count c =
    let round : c.add_open-2.new.passes.items ≡ open_passes (drop c.args.at c.args.facts.now ++ take c.args.at c.args.facts.now) = grind (arith, common_steps) in
    ap length round ∙ length-round c.args.at c.args.facts.now
