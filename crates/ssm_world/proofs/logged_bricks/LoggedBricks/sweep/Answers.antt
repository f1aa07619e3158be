use Rattle.std.proofs.Common.{◌≡◌, ◌∙◌, ◌∷◌, Some, ap}
use Rattle.brick_store.specs.declared.event.BrickEvent.TheVariants as happened
use Rattle.ssm_world.specs.Logged.{LoggedValue, histories_of}
use Rattle.ssm_world.specs.Worlds.{history_at, with_history_at}
use Rattle.ssm_world.proofs.Numbering.{StandsAt, stands_at, set_at}
use Rattle.ssm_world.proofs.logged_bricks.LoggedBricks.sweep.Goals as goal

pub returns-clause-ok : goal.returns-clause-ok
returns-clause-ok c h now =
    let items = c.self.inside.bricks.items in
    let n = c.args.brick.0 in
    let is : history_at (histories_of items) n ≡ Some h = ap (λ hs. history_at hs n) c.self.view_is ∙ now in
    let at : StandsAt items n h c.index_mut.result.now = stands_at items n h c.index_mut.result.now is c.index_mut.ensures.value in
    let new : c.sweep.new.self.history ≡ happened.Sweep c.args.moment ∷ h = ap (λ (s : LoggedValue). s.history) c.in_ok-sweep.ensures.ok ∙ ap (λ g. happened.Sweep c.args.moment ∷ g) at.history_is in
    set_at items n c.sweep.new.self at.number_is ∙ (λ l. with_history_at (c.self.view_is l) n (new l))
