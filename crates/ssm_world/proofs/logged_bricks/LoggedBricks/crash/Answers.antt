use Rattle.std.proofs.Common.{◌≡◌, ◌∙◌, ◌-◌, ◌∷◌, List, Some, ap, arith}
use Rattle.brick_store.specs.declared.event.BrickEvent.{BrickEvent}
use Rattle.brick_store.specs.declared.event.BrickEvent.TheVariants as happened
use Rattle.brick_store.specs.History.{incarnation_after}
use Rattle.ssm_world.specs.Logged.{LoggedValue, histories_of}
use Rattle.ssm_world.specs.Worlds.{history_at, with_history_at}
use Rattle.ssm_world.proofs.Numbering.{some_is, StandsAt, stands_at, set_at, numbered_set}
use Rattle.ssm_world.proofs.logged_bricks.LoggedBricks.crash.Goals as goal

pub returns-clause-ok : goal.returns-clause-ok
returns-clause-ok c h now =
    let items = c.self.inside.bricks.items in
    let n = c.args.brick.0 in
    let is : history_at (histories_of items) n ≡ Some h = ap (λ hs. history_at hs n) c.self.view_is ∙ now in
    let at : StandsAt items n h c.index_mut.result.now = stands_at items n h c.index_mut.result.now is c.index_mut.ensures.value in
    let new : c.crash.new.self.history ≡ happened.Crash ∷ h = ap (λ (s : LoggedValue). s.history) c.in_ok-crash.ensures.ok ∙ ap (λ g. happened.Crash ∷ g) at.history_is in
    set_at items n c.crash.new.self at.number_is ∙ (λ l. with_history_at (c.self.view_is l) n (new l))

pub crash-requires : goal.crash-requires
crash-requires c =
    let items = c.self.inside.bricks.items in
    let n = c.args.brick.0 in
    let some : (h : List BrickEvent) × (history_at c.args.self.now n ≡ Some h) = some_is (history_at c.args.self.now n) c.requires.there in
    let is : history_at (histories_of items) n ≡ Some some.0 = ap (λ hs. history_at hs n) c.self.view_is ∙ some.1 in
    let at : StandsAt items n some.0 c.index_mut.result.now = stands_at items n some.0 c.index_mut.result.now is c.index_mut.ensures.value in
    let same : incarnation_after 1 c.index_mut.result.now.history ≡ incarnation_after 1 some.0 = ap (incarnation_after 1) at.history_is in
    omega (arith, same, c.requires.not_last some.0 some.1)

pub invariant_of-self-2 : goal.invariant_of-self-2
invariant_of-self-2 c =
    let items = c.self.inside.bricks.items in
    let n = c.args.brick.0 in
    let some : (h : List BrickEvent) × (history_at c.args.self.now n ≡ Some h) = some_is (history_at c.args.self.now n) c.requires.there in
    let is : history_at (histories_of items) n ≡ Some some.0 = ap (λ hs. history_at hs n) c.self.view_is ∙ some.1 in
    let at : StandsAt items n some.0 c.index_mut.result.now = stands_at items n some.0 c.index_mut.result.now is c.index_mut.ensures.value in
    numbered_set items (n - 1) c.index_mut.result.now c.crash.new.self c.self.invariant at.there (ap (λ (s : LoggedValue). s.number) c.in_ok-crash.ensures.ok)
