use Rattle.std.proofs.Common.{◌≡◌, ◌∷◌, List, sym, ap, ◌∙◌}
use Rattle.std.specs.Prelude.{reverse}
use Rattle.std.specs.List.{cons_option}
use Rattle.brick_store.specs.declared.event.BrickEvent.{BrickEvent}
use Rattle.brick_store.specs.Bricks.{BrickValue, reply}
use Rattle.brick_store.specs.Standing.{heard}
use Rattle.ssm_world.specs.Worlds.{brick_after}
use Rattle.ssm_world.specs.Logged.{LoggedValue}
use Rattle.ssm_world.proofs.Logging.{stands_reply, answered_number, newest}
use Rattle.ssm_world.proofs.logged_brick.LoggedBrick.answer.Goals as goal

pub returns-in_ok-reply-in-None-clause-reply : goal.returns-in_ok-reply-in-None-clause-reply
returns-in_ok-reply-in-None-clause-reply c =
    ap (λ (b : LoggedValue). reply (brick_after b.number b.history) c.args.frame.now) (sym c.self.view_is)
    ∙ stands_reply (reverse c.self.inside.events.items) c.self.inside.brick c.args.frame.now c.in_ok-reply-in-None.reply c.self.invariant c.in_ok-reply-in-None.ensures.reply

pub returns-in_ok-reply-in-Some-clause-reply : goal.returns-in_ok-reply-in-Some-clause-reply
returns-in_ok-reply-in-Some-clause-reply c =
    ap (λ (b : LoggedValue). reply (brick_after b.number b.history) c.args.frame.now) (sym c.self.view_is)
    ∙ stands_reply (reverse c.self.inside.events.items) c.self.inside.brick c.args.frame.now c.in_ok-reply-in-Some.reply c.self.invariant c.in_ok-reply-in-Some.ensures.reply

pub returns-in_ok-reply-in-Some-clause-new : goal.returns-in_ok-reply-in-Some-clause-new
returns-in_ok-reply-in-Some-clause-new c =
    let h : List BrickEvent = reverse c.self.inside.events.items in
    let number : c.answer-in-Some.new.self.number ≡ c.self.inside.brick.number =
    ap (λ (b : BrickValue). b.number) c.in_ok-reply-in-Some.ensures.new ∙ answered_number c.self.inside.brick c.args.frame.now in
    let events : reverse c.push_reserved.new.self.items ≡ heard h c.args.frame.now =
    ap reverse c.push_reserved.ensures.items ∙ newest c.reserve.new.self.items c.in-Some.event ∙ ap (λ items. c.in-Some.event ∷ reverse items) c.reserve.ensures.items
    ∙ ap (λ event. cons_option event h) (sym c.in-Some.is) ∙ sym (c.in_ok-event_of.ensures h c.self.invariant) in
    let whole : LoggedValue → LoggedValue = λ b. record { number = b.number; history = heard b.history c.args.frame.now } in
    (λ l. record { number = number l; history = events l }) ∙ ap whole c.self.view_is
