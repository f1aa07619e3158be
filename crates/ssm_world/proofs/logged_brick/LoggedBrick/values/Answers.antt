use Rattle.std.proofs.Common.{◌∙◌, ap, length}
use Rattle.std.specs.Prelude.{reverse}
use Rattle.brick_store.specs.History.{all_held}
use Rattle.brick_store.proofs.Standing.{stands_for_all}
use Rattle.ssm_world.specs.Logged.{LoggedValue}
use Rattle.ssm_world.proofs.logged_brick.LoggedBrick.values.Goals as goal

pub returns : goal.returns
returns c =
    c.values.ensures.values ∙ ap length (stands_for_all 1 (reverse c.self.inside.events.items) c.self.inside.brick c.self.invariant)
    ∙ ap (λ (b : LoggedValue). length (all_held b.history)) c.self.view_is
