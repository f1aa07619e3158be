use Rattle.ssm_world.specs.Worlds.{new_world, after}
use Rattle.ssm_world.proofs.Origins.{StillAnswers, still_answers, answered_sends_nothing}
use Rattle.ssm_world.proofs.Tracing.{answered_read_stays}
use Rattle.ssm_world.proofs.laws.answers_stay_in_later_worlds.Goals as goal

pub returns-clause-write : goal.returns-clause-write
returns-clause-write c = λ bricks earlier later place write answer there answers.
    let still : StillAnswers (after (after (new_world bricks) earlier) later) place write answer =
    still_answers c.answers_stay.ensures.write bricks earlier later place write answer there answers in
    (still.now, still.there, still.answers)

pub returns-clause-read : goal.returns-clause-read
returns-clause-read c = λ bricks earlier later place read answer there answers.
    answered_read_stays (after (new_world bricks) earlier) place read answer later there answers

pub returns-clause-sends : goal.returns-clause-sends
returns-clause-sends c = answered_sends_nothing
