use Rattle.std.proofs.Common.{◌∙◌, [], ◌∷◌, ◌++◌, sym, ap, subst}
use Rattle.recovery_manager.specs.Events.{JournalFilled}
use Rattle.recovery_manager.specs.Kept.{ManagerValue, StandsFor}
use Rattle.recovery_manager.proofs.Hearing.{decision_filled, stands_told_full, latest_filled}
use Rattle.recovery_manager.proofs.manager.Manager.journal_full.Goals as goal

pub returns-clause-decision : goal.returns-clause-decision
returns-clause-decision c = c.in_ok-decision.ensures.decision ∙ sym (decision_filled c.args.self.now c.args.moment)

pub returns-clause-after : goal.returns-clause-after
returns-clause-after c = λ parts events stands.
    subst (λ (m : ManagerValue). StandsFor m parts (events ++ JournalFilled c.args.moment ∷ [])) (sym c.in_ok-decision.ensures.after)
    (stands_told_full parts events c.args.self.now c.args.moment stands c.requires.in_order)

pub returns-clause-latest : goal.returns-clause-latest
returns-clause-latest c = ap (λ (m : ManagerValue). m.latest) c.in_ok-decision.ensures.after ∙ latest_filled c.args.self.now c.args.moment
