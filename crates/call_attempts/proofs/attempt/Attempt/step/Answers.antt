use Rattle.std.proofs.Common.{◌≡◌, subst, sym}
use Rattle.boot_core.specs.Fits.{FitsIn}
use Rattle.container_core.specs.Container.{ContainerValue, with_boot}
use Rattle.call_attempts.specs.Attempt.{IsUnderWay, boot_after}
use Rattle.call_attempts.proofs.UnderWay.{answered, fields}
use Rattle.call_attempts.proofs.attempt.Attempt.step.Goals as goal

pub returns-in_ok-add_entered-in-Answered-clause-stepped :
    goal.returns-in_ok-add_entered-in-Answered-clause-stepped
returns-in_ok-add_entered-in-Answered-clause-stepped g c =
    let left : c.make.new.container ≡ with_boot c.args.container.now (boot_after c.args.container.now.boot c.in_ok-next.next) = rw c.in-Answered.is at c.in_ok-answer.ensures.leaves in
    let fits : FitsIn (boot_after c.args.container.now.boot c.in_ok-next.next) c.make.new.ticket.call = subst (λ (k : ContainerValue). FitsIn k.boot c.make.new.ticket.call) left c.in_ok-answer.ensures.fits in
    (answered c.args.container.now.boot (g.P.Program.asks c.args.program.now) c.args.self.now c.self.inside.ticket c.self.inside.answers c.self.inside.repeats c.self.inside.entered c.self.view_is
    c.in_ok-next.next c.in-Answered.answer c.make.new.ticket c.push.new.self c.repeats_after-repeats.result c.add_entered.new.entered c.requires.under_way c.in_ok-next.ensures.asked
    (rw c.in-Answered.is at c.in_ok-answer.ensures.made) fits c.in_ok-push-in-Answered.ensures.ok (rw c.deployment.ensures at c.repeats_after-repeats.ensures) (rw c.component_in-component.ensures at c.in_ok-add_entered-in-Answered.ensures)).0

pub returns-in_ok-add_entered-in-Answered-clause-under_way :
    goal.returns-in_ok-add_entered-in-Answered-clause-under_way
returns-in_ok-add_entered-in-Answered-clause-under_way g c =
    let left : c.make.new.container ≡ with_boot c.args.container.now (boot_after c.args.container.now.boot c.in_ok-next.next) = rw c.in-Answered.is at c.in_ok-answer.ensures.leaves in
    let fits : FitsIn (boot_after c.args.container.now.boot c.in_ok-next.next) c.make.new.ticket.call = subst (λ (k : ContainerValue). FitsIn k.boot c.make.new.ticket.call) left c.in_ok-answer.ensures.fits in
    let way = (answered c.args.container.now.boot (g.P.Program.asks c.args.program.now) c.args.self.now c.self.inside.ticket c.self.inside.answers c.self.inside.repeats c.self.inside.entered c.self.view_is
    c.in_ok-next.next c.in-Answered.answer c.make.new.ticket c.push.new.self c.repeats_after-repeats.result c.add_entered.new.entered c.requires.under_way c.in_ok-next.ensures.asked
    (rw c.in-Answered.is at c.in_ok-answer.ensures.made) fits c.in_ok-push-in-Answered.ensures.ok (rw c.deployment.ensures at c.repeats_after-repeats.ensures) (rw c.component_in-component.ensures at c.in_ok-add_entered-in-Answered.ensures)).1 in
    subst (λ (k : ContainerValue). IsUnderWay k.boot (g.P.Program.asks c.args.program.now) (fields c.make.new.ticket c.push.new.self c.repeats_after-repeats.result c.add_entered.new.entered)) (sym left) way
