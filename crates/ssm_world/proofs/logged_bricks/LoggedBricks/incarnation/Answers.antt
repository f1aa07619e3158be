use Rattle.std.proofs.Common.{◌≡◌, ◌∙◌, ◌+◌, ◌<◌, ℕ, List, Some, sym, ap, arith}
use Rattle.std.specs.Prelude.{option_map}
use Rattle.brick_store.specs.declared.event.BrickEvent.{BrickEvent}
use Rattle.brick_store.specs.History.{incarnation_after}
use Rattle.ssm_world.specs.Worlds.{history_at}
use Rattle.ssm_world.proofs.Numbering.{there_at}
use Rattle.ssm_world.proofs.logged_bricks.LoggedBricks.incarnation.Goals as goal

pub returns-in-Some : goal.returns-in-Some
returns-in-Some c =
    let items = c.self.inside.bricks.items in
    let n = c.args.brick.0 in
    let at : (n ≡ c.in-Some.place + 1) × (c.in-Some.place < c.len.result) = c.in-Some.ensures in
    let now : history_at c.args.self.now n ≡ Some c.index.result.now.history =
    ap (λ hs. history_at hs n) (sym c.self.view_is) ∙ there_at items n c.in-Some.place c.index.result.now at.0 (omega (arith, at.1, c.len.ensures)) c.index.ensures in
    ap (λ (k : ℕ). Some k) c.incarnation.ensures ∙ ap (option_map (λ (h : List BrickEvent). incarnation_after 1 h)) (sym now)
