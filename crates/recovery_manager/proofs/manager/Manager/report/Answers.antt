use Rattle.std.proofs.Common.{◌∙◌, [], ◌∷◌, ◌++◌, sym, ap, subst}
use Rattle.failure_scores.specs.declared.report.FailureReport.TheVariants.{Path}
use Rattle.failure_scores.specs.declared.report.PathReport.{PathReport}
use Rattle.failure_scores.specs.Scores.{report_of}
use Rattle.recovery_manager.specs.Kept.{ManagerValue, StandsFor}
use Rattle.recovery_manager.specs.Events.{Reported}
use Rattle.recovery_manager.specs.Telling.{told}
use Rattle.recovery_manager.proofs.Hearing.{decided_told_path, stands_told_path, latest_told}
use Rattle.recovery_manager.proofs.manager.Manager.report.Goals as goal

pub returns-clause-decision : goal.returns-clause-decision
returns-clause-decision c = λ parts events stands.
    c.in_ok-decision.ensures.decision
    ∙ ap (λ (r : PathReport). (told c.args.self.now (Path r)).decision) c.in_ok-report.ensures
    ∙ decided_told_path parts events c.args.self.now (report_of c.args.path.now c.args.moment) stands c.requires.in_order

pub returns-clause-after : goal.returns-clause-after
returns-clause-after c = λ parts events stands.
    let report : PathReport = report_of c.args.path.now c.args.moment in
    subst (λ (m : ManagerValue). StandsFor m parts (events ++ Reported report c.in_ok-decision.decision ∷ [])) (sym (c.in_ok-decision.ensures.after ∙ ap (λ (r : PathReport). (told c.args.self.now (Path r)).manager) c.in_ok-report.ensures))
    (stands_told_path parts events c.args.self.now report c.in_ok-decision.decision (c.in_ok-decision.ensures.decision ∙ ap (λ (r : PathReport). (told c.args.self.now (Path r)).decision) c.in_ok-report.ensures) stands c.requires.in_order)

pub returns-clause-latest : goal.returns-clause-latest
returns-clause-latest c =
    ap (λ (m : ManagerValue). m.latest) (c.in_ok-decision.ensures.after ∙ ap (λ (r : PathReport). (told c.args.self.now (Path r)).manager) c.in_ok-report.ensures)
    ∙ latest_told c.args.self.now (report_of c.args.path.now c.args.moment)
