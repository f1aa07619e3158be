use Rattle.std.proofs.Common.{◌∙◌, ap, refl, Some}
use Rattle.std.specs.Option.{option_map}
use Rattle.ssm_stub.specs.Ends.{bricks_of}
use Rattle.ssm_stub.specs.Writes.{heard_passes}
use Rattle.session_way.specs.declared.way.SessionWay.{SessionWay}
use Rattle.session_way.specs.declared.way.SessionWay.TheVariants.{Resting, Reading, Ordered, Writing, Settling, Holding}
use Rattle.session_way.specs.Way.{held, passes_for}
use Rattle.session_way.specs.Writing.{write_begun}
use Rattle.session_way.proofs.PassesKept.{held_heard, hushed_again, hushed_bricks, spent_bricks, spent_by_step, step_bricks}
use Rattle.session_way.proofs.laws.no_pass_is_lost.Goals as goal

pub returns-clause-taken : goal.returns-clause-taken
returns-clause-taken g c = λ order old new way h.
    ap (λ (w : SessionWay). option_map bricks_of (held w)) h.writes ∙ ap Some (spent_bricks (write_begun order old.wq (passes_for order old)))

pub returns-clause-holding : goal.returns-clause-holding
returns-clause-holding g c = λ order old new way h.
    ap (λ (w : SessionWay). option_map bricks_of (held w)) h.holds ∙ ap Some (hushed_bricks (passes_for order old))

pub returns-clause-step : goal.returns-clause-step
returns-clause-step g c = λ old new way after h. step_bricks g.L.Link.makes way old after new h

pub returns-clause-settle : goal.returns-clause-settle
returns-clause-settle g c = elim [
  | Resting ↦ refl
  | Reading r ↦ refl
  | Ordered order ↦ refl
  | Writing w ↦ refl
  | Settling w ↦ refl
  | Holding passes ↦ refl
]

pub returns-clause-heard : goal.returns-clause-heard
returns-clause-heard g c = held_heard

pub returns-clause-spent : goal.returns-clause-spent
returns-clause-spent g c = spent_by_step

pub returns-clause-apart : goal.returns-clause-apart
returns-clause-apart g c = λ w. ap Some (hushed_again (heard_passes w.write w.passes))
