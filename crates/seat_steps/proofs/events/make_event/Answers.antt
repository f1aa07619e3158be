use Rattle.std.proofs.Common.{◌∙◌, refl, sym}
use Rattle.shepherd.specs.declared.shepherd.ShepherdTurn.TheVariants as turns
use Rattle.seat_steps.proofs.EventCalls.{nothing-event}
use Rattle.seat_steps.proofs.events.make_event.Goals as goal

pub returns-in-Bytes-clause-event : goal.returns-in-Bytes-clause-event
returns-in-Bytes-clause-event g c =
    nothing-event c.args.key.now c.args.now c.args.connection.now c.args.container.now c.args.link c.args.next.now c.new.result c.new.ensures turns.Bytes (sym (sym c.in-Bytes.is ∙ c.turn.ensures))
    (λ given. record { same = refl; bytes_are = refl }) refl (λ e. cc)

pub returns-in-Program-clause-event : goal.returns-in-Program-clause-event
returns-in-Program-clause-event g c =
    nothing-event c.args.key.now c.args.now c.args.connection.now c.args.container.now c.args.link c.args.next.now c.new-in-Program.result c.new-in-Program.ensures turns.Program (sym (sym c.in-Program.is ∙ c.turn.ensures))
    (λ given. record { same = refl; bytes_are = refl }) refl (λ e. cc)

pub returns-in-Own-clause-event : goal.returns-in-Own-clause-event
returns-in-Own-clause-event g c =
    nothing-event c.args.key.now c.args.now c.args.connection.now c.args.container.now c.args.link c.args.next.now c.new-in-Own.result c.new-in-Own.ensures turns.Own (sym (sym c.in-Own.is ∙ c.turn.ensures))
    (λ given. record { same = refl; bytes_are = refl }) refl (λ e. cc)

pub returns-in-Item-clause-event : goal.returns-in-Item-clause-event
returns-in-Item-clause-event g c =
    nothing-event c.args.key.now c.args.now c.args.connection.now c.args.container.now c.args.link c.args.next.now c.new-in-Item.result c.new-in-Item.ensures turns.Item (sym (sym c.in-Item.is ∙ c.turn.ensures))
    (λ given. record { same = refl; bytes_are = refl }) refl (λ e. cc)

pub returns-in-Ended-clause-event : goal.returns-in-Ended-clause-event
returns-in-Ended-clause-event g c =
    nothing-event c.args.key.now c.args.now c.args.connection.now c.args.container.now c.args.link c.args.next.now c.new-in-Ended.result c.new-in-Ended.ensures (turns.Ended c.in-Ended.field-0) (sym (sym c.in-Ended.is ∙ c.turn.ensures))
    (λ given. record { same = refl; bytes_are = refl }) refl (λ e. cc)
