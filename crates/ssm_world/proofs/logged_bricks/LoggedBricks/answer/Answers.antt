use Rattle.std.proofs.Common.{◌≡◌, ◌∙◌, ◌-◌, List, Some, ap, sym}
use Rattle.brick_store.specs.declared.event.BrickEvent.{BrickEvent}
use Rattle.brick_store.specs.Bricks.{reply}
use Rattle.brick_store.specs.Standing.{heard}
use Rattle.ssm_world.specs.Logged.{LoggedValue, histories_of}
use Rattle.ssm_world.specs.Worlds.{brick_after, history_at, with_history_at}
use Rattle.ssm_world.proofs.Numbering.{some_is, StandsAt, stands_at, set_at, numbered_set, number_at}
use Rattle.ssm_world.proofs.logged_bricks.LoggedBricks.answer.Goals as goal

pub invariant_of-self-2 : goal.invariant_of-self-2
invariant_of-self-2 c =
    let items = c.self.inside.bricks.items in
    let n = c.args.brick.0 in
    let some : (h : List BrickEvent) × (history_at c.args.self.now n ≡ Some h) = some_is (history_at c.args.self.now n) c.requires.there in
    let is : history_at (histories_of items) n ≡ Some some.0 = ap (λ hs. history_at hs n) c.self.view_is ∙ some.1 in
    let at : StandsAt items n some.0 c.index_mut.result.now = stands_at items n some.0 c.index_mut.result.now is c.index_mut.ensures.value in
    numbered_set items (n - 1) c.index_mut.result.now c.answer.new.self c.self.invariant at.there (ap (λ (s : LoggedValue). s.number) c.in_ok-reply.ensures.new)

pub returns-clause-reply : goal.returns-clause-reply
returns-clause-reply c h now =
    let items = c.self.inside.bricks.items in
    let n = c.args.brick.0 in
    let is : history_at (histories_of items) n ≡ Some h = ap (λ hs. history_at hs n) c.self.view_is ∙ now in
    let at : StandsAt items n h c.index_mut.result.now = stands_at items n h c.index_mut.result.now is c.index_mut.ensures.value in
    (λ l. reply (brick_after (sym (number_at items c.args.brick h c.index_mut.result.now c.self.invariant at) l) (sym at.history_is l)) c.args.frame.now) ∙ c.in_ok-reply.ensures.reply

pub returns-clause-new : goal.returns-clause-new
returns-clause-new c h now =
    let items = c.self.inside.bricks.items in
    let n = c.args.brick.0 in
    let is : history_at (histories_of items) n ≡ Some h = ap (λ hs. history_at hs n) c.self.view_is ∙ now in
    let at : StandsAt items n h c.index_mut.result.now = stands_at items n h c.index_mut.result.now is c.index_mut.ensures.value in
    let new : c.answer.new.self.history ≡ heard h c.args.frame.now = ap (λ (s : LoggedValue). s.history) c.in_ok-reply.ensures.new ∙ ap (λ g. heard g c.args.frame.now) at.history_is in
    set_at items n c.answer.new.self at.number_is ∙ (λ l. with_history_at (c.self.view_is l) n (new l))
