use Rattle.std.proofs.Common.{◌≡◌, ◌≤◌, ◌++◌, ◌∷◌, [], List, length, Option, None, ap, ◌∙◌, arith, subst, sym}
use Rattle.std.specs.Prelude.{All}
use Rattle.container_core.specs.Container.{ContainerValue}
use Rattle.seat_steps.specs.declared.seat.Seat.{Seat}
use Rattle.seat_lines.specs.Site.{IsGoingIn, padded}
use Rattle.seat_lines.proofs.Going.{going_more, padded_more}
use Rattle.seat_lines.proofs.seats.pad.Goals as goal

pub loop-seats-preserved : goal.loop-seats-preserved
loop-seats-preserved c =
    let seats : List (Option Seat) = c.loop-seats.seats.items in
    let below : length seats ≤ c.args.number = omega (arith, c.loop-seats-test.true) in
    let more : c.push.new.self.items ≡ seats ++ None ∷ [] = c.in_ok-push.ensures.items in
    let P : ContainerValue → List (Option Seat) → Type 0 = λ k s. All (IsGoingIn k) s in (
      ap (λ s. padded s c.args.number) more ∙ padded_more seats c.args.number below ∙ c.loop-seats.invariant.0,
      λ k all. subst (P k) (sym more) (going_more k seats (c.loop-seats.invariant.1 k all)),
    )
