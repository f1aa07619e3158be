use Rattle.std.proofs.Common.{◌∙◌, List, length, filter, refl, sym, ap, subst}
use Rattle.failure_scores.specs.declared.report.FailureReport.TheVariants.{JournalFull}
use Rattle.failure_scores.specs.declared.report.PathReport.{PathReport}
use Rattle.recovery_manager.specs.declared.acts.Act.{Act}
use Rattle.recovery_manager.specs.Kept.{AreKnown, ManagerValue}
use Rattle.recovery_manager.specs.Levels.{is_recent}
use Rattle.recovery_manager.specs.Telling.{told}
use Rattle.recovery_manager.proofs.Hearing.{manager_filled, decision_filled}
use Rattle.recovery_manager.proofs.Keeping.{known_recent}
use Rattle.recovery_manager.proofs.manager.Manager.tell_full.Goals as goal

pub invariant_of-self-2 : goal.invariant_of-self-2
invariant_of-self-2 c = subst (λ (rs : List PathReport). AreKnown (length c.self.inside.groups.items) rs) (sym c.forget.ensures) (known_recent (length c.self.inside.groups.items) c.self.inside.scores c.args.moment c.self.invariant)

pub returns-clause-decision : goal.returns-clause-decision
returns-clause-decision c = decision_filled c.args.self.now c.args.moment

pub returns-clause-after : goal.returns-clause-after
returns-clause-after c =
    let s : ManagerValue = record { groups = c.self.inside.groups.items; reports = c.self.inside.scores; acts = c.self.inside.acts.items; latest = c.self.inside.latest } in
    let t : ManagerValue = record { groups = c.self.inside.groups.items; reports = c.forget.new.self; acts = c.forget-2.new.acts.items; latest = c.args.moment } in
    manager_filled s t c.args.moment
    refl
    c.forget.ensures
    (c.forget-2.ensures ∙ ap (λ (acts : List Act). filter (is_recent c.args.moment) acts) c.in_ok-push.ensures.items)
    refl
    ∙ ap (λ (m : ManagerValue). (told m (JournalFull c.args.moment)).manager) c.self.view_is
