use Rattle.std.proofs.Common.{ap, subst}
use Rattle.auction_calls.specs.declared.action.ActionCall.{ActionCall}
use Rattle.shepherd.specs.Steps.{GivesBack}
use Rattle.shepherd.specs.declared.shepherd.Shepherd.{Shepherd}
use Rattle.shepherd.specs.declared.shepherd.Stage.{Stage}
use Rattle.seat_steps.proofs.Gone.{back-fit, gone-is}
use Rattle.seat_steps.proofs.giving_up.let_go.Goals as goal

pub with_windows-lanes-requires : goal.with_windows-lanes-requires
with_windows-lanes-requires g c =
    back-fit c.lent_windows_fit.ensures.back c.args.lanes c.lend_windows-lent.result.0 c.lend_windows-lent.result.1 c.drop_passes.new.windows c.args.connection.now.stage c.drop_passes.new.self.stage
    c.lend_windows-lent.ensures.lanes c.lend_windows-lent.ensures.windows c.lend_windows-lent.ensures.fit
    (subst (λ (stage : Stage ActionCall). GivesBack stage c.lend_windows-lent.result.1 c.drop_passes.new.self.stage c.drop_passes.new.windows)
    (ap (λ (s : Shepherd ActionCall). s.stage) c.drop_call.ensures.stage) c.drop_passes.ensures.stage)

pub returns-clause-gone : goal.returns-clause-gone
returns-clause-gone g c =
    gone-is c.args.connection.now.stage c.drop_passes.new.self.stage c.args.lanes c.with_windows-lanes.result c.lend_windows-lent.result.0 c.lend_windows-lent.result.1 c.drop_passes.new.windows c.item_of.result
    c.lend_windows-lent.ensures.lanes c.lend_windows-lent.ensures.windows c.with_windows-lanes.ensures
    (subst (λ (stage : Stage ActionCall). GivesBack stage c.lend_windows-lent.result.1 c.drop_passes.new.self.stage c.drop_passes.new.windows)
    (ap (λ (s : Shepherd ActionCall). s.stage) c.drop_call.ensures.stage) c.drop_passes.ensures.stage)
    c.item_of.ensures
