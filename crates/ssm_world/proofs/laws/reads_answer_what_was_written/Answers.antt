use Rattle.std.proofs.Common.{Err}
use Rattle.ssm_stub.specs.declared.read_call.ReadRefusal.TheVariants.{Lost}
use Rattle.ssm_world.specs.Worlds.{WorldValue, new_world, after}
use Rattle.ssm_world.specs.Claims.{kept_for, IsRight, read_world, told_since}
use Rattle.ssm_world.proofs.Answering.{read_is_right, each_asked, all_unheard}
use Rattle.ssm_world.proofs.laws.reads_answer_what_was_written.Goals as goal

pub returns-clause-right : goal.returns-clause-right
returns-clause-right c = read_is_right c.each_hears_its_own.ensures.read c.an_outcome_of_a_get_has_its_events.ensures.comes

pub returns-clause-heard : goal.returns-clause-heard
returns-clause-heard c = each_asked c.each_hears_its_own.ensures.read c.an_outcome_of_a_get_has_its_events.ensures.comes

pub returns-clause-intact : goal.returns-clause-intact
returns-clause-intact c = λ bricks earlier later order value read causes place holder cause reads is at_holder at_cause intact.
    let w : WorldValue = after (new_world bricks) earlier in
    let right : IsRight (read_world w order later) order value (told_since w order later) (Err (Lost causes)) =
    read_is_right c.each_hears_its_own.ensures.read c.an_outcome_of_a_get_has_its_events.ensures.comes bricks earlier later order value read (Err (Lost causes)) reads is in
    all_unheard (read_world w order later) order (kept_for order.cookie value) (told_since w order later) order.cookie.bricks causes place holder cause right.1 at_holder at_cause intact
