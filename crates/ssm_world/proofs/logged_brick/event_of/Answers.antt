use Rattle.std.proofs.Common.{◌∷◌, true, false, sym, ap, ◌∙◌}
use Rattle.brick_store.specs.declared.event.BrickEvent.TheVariants as happened
use Rattle.brick_store.specs.Bricks.{put_value}
use Rattle.brick_store.specs.Standing.{heard}
use Rattle.ssm_world.proofs.Logging.{stored_unless}
use Rattle.ssm_world.proofs.logged_brick.event_of.Goals as goal

pub returns-then-is_full_for : goal.returns-then-is_full_for
returns-then-is_full_for c = λ h stands.
    ap (heard h) c.in-Put.is
    ∙ stored_unless h c.args.brick.now (put_value c.in-Put.key c.in-Put.version c.in-Put.expiry c.in-Put.value) true stands (sym c.is_full_for.ensures ∙ c.if-is_full_for.true)

pub returns-in_ok-value-in-Put : goal.returns-in_ok-value-in-Put
returns-in_ok-value-in-Put c = λ h stands.
    ap (heard h) c.in-Put.is
    ∙ stored_unless h c.args.brick.now (put_value c.in-Put.key c.in-Put.version c.in-Put.expiry c.in-Put.value) false stands (sym c.is_full_for.ensures ∙ c.if-is_full_for.false)
    ∙ ap (λ value. happened.Stored (put_value c.in-Put.key c.in-Put.version c.in-Put.expiry value) ∷ h) (sym c.in_ok-value-in-Put.ensures)
