use Rattle.std.proofs.Common.{sym, subst}
use Rattle.ssm_frames.specs.declared.frame.Frame.{Frame}
use Rattle.ssm_frames.specs.declared.frame.Frame.TheVariants.{Put}
use Rattle.brick_store.specs.Bricks.{BrickValue}
use Rattle.brick_store.specs.Standing.{StandsFor, heard}
use Rattle.brick_store.proofs.brick.Brick.answer.Goals as goal

pub returns-in-Ok-clause-stands : goal.returns-in-Ok-clause-stands
returns-in-Ok-clause-stands c = λ first h stands.
    let request : Frame = Put c.in-Put.nonce c.in-Put.key c.in-Put.version c.in-Put.expiry c.in-Put.value in
    let law = c.bricks_stand_for_their_history.ensures.answered first h c.args.self.now request stands in
    let P : Frame → Type 0 = λ r. StandsFor first (heard h r) c.put.new.self in
    let Q : BrickValue → Type 0 = λ b. StandsFor first (heard h request) b in
    subst P (sym c.in-Put.is) (subst Q (sym c.in-Ok.ensures.new) law)
