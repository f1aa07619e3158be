use Rattle.std.proofs.Common.{◌∙◌}
use Rattle.recovery_manager.proofs.Blaming.{decided_for_none, decided_for_few, decided_for_top}
use Rattle.recovery_manager.proofs.decision.decide.Goals as goal

pub returns-in-None : goal.returns-in-None
returns-in-None c = decided_for_none c.args.groups.now c.args.scores.now c.args.acts.now c.args.now c.in-None.ensures

pub returns-then-score-lt-REPORTS_TO_REBOOT : goal.returns-then-score-lt-REPORTS_TO_REBOOT
returns-then-score-lt-REPORTS_TO_REBOOT c =
    decided_for_few c.args.groups.now c.args.scores.now c.args.acts.now c.args.now c.in-Some.component c.in-Some.score c.in-Some.ensures c.if-score-lt-REPORTS_TO_REBOOT.true

pub returns-else-score-lt-REPORTS_TO_REBOOT : goal.returns-else-score-lt-REPORTS_TO_REBOOT
returns-else-score-lt-REPORTS_TO_REBOOT c =
    c.reboot_for.ensures
    ∙ decided_for_top c.args.groups.now c.args.scores.now c.args.acts.now c.args.now c.in-Some.component c.in-Some.score c.requires c.in-Some.ensures c.if-score-lt-REPORTS_TO_REBOOT.false
