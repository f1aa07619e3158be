use Rattle.request_intake.proofs.Drawn.{serial_draws, serials_apart}
use Rattle.request_intake.proofs.laws.drawn_serials_are_draws.Goals as goal

pub returns-clause-draws : goal.returns-clause-draws
returns-clause-draws g c = λ random random_after before after drawn has.
    serial_draws g.S.Serials.looks g.R.Random.gives random before drawn after random_after has

pub returns-clause-differ : goal.returns-clause-differ
returns-clause-differ g c = λ random random_after before after drawn has.
    serials_apart g.S.Serials.looks g.R.Random.gives c.serials_differ.ensures.differ random before drawn after random_after has
