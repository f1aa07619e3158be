use Rattle.std.proofs.Common.{ℕ, List, Option, Some, length, if◌then◌else◌, ap, ◌∙◌}
use Rattle.ssm_frames.specs.declared.frame.Frame.{Frame}
use Rattle.ssm_frames.specs.declared.frame.Frame.TheVariants.{Stored, BrickFull}
use Rattle.brick_store.specs.declared.kept.Kept.{Kept}
use Rattle.brick_store.specs.Bricks.{put_value}
use Rattle.brick_store.specs.History.{all_held}
use Rattle.brick_store.specs.Kept.{bytes_of, is_full}
use Rattle.brick_store.proofs.Standing.{stands_for_all}
use Rattle.brick_store.proofs.laws.replies_are_held.Goals as goal

pub returns-clause-put : goal.returns-clause-put
returns-clause-put c = λ first h b nonce key version expiry value stands.
    let replies : List Kept → ℕ → Option Frame = λ kept incarnation.
    Some (if is_full kept (put_value key version expiry value)
    then BrickFull nonce key version b.number incarnation (length kept) (bytes_of kept)
    else Stored nonce key version b.number incarnation) in
    ap (λ kept. replies kept b.incarnation) (stands_for_all first h b stands) ∙ ap (replies (all_held h)) stands.incarnation_is
