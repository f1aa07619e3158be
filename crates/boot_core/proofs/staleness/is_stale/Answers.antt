use Rattle.std.proofs.Common.{◌≡◌, arith}
use Rattle.std.proofs.lemmas.Grind.{common_steps}
use Rattle.journal_model.specs.Stale.{is_stale, has_passed}
use Rattle.journal_model.proofs.Staleness.{same_tests}
use Rattle.boot_core.proofs.staleness.is_stale.Goals as goal

pub returns : goal.returns
returns c =
    let same : is_stale c.args.journal.now.entries c.args.touch.now ≡ has_passed c.args.journal.now.entries c.args.touch.now = same_tests c.args.journal.now.entries c.args.touch.now c.requires in
    grind (arith, common_steps)
