use Rattle.std.proofs.Common.{refl}
use Rattle.shepherd.specs.declared.shepherd.ShepherdTurn.TheVariants as turns
use Rattle.shepherd_steps.proofs.Counting.{step-items}
use Rattle.shepherd_steps.proofs.OneEvent.{none-happens, step-adds, step-drawn, step-inside, step-link, step-out, step-rests, step-windows}
use Rattle.shepherd_steps.proofs.Owing.{step-begins, step-called, step-owes}
use Rattle.shepherd_steps.proofs.events.steps_are_one_event.Goals as goal

pub returns-clause-rests : goal.returns-clause-rests
returns-clause-rests g c = λ given w has. step-rests given w has

pub returns-clause-called : goal.returns-clause-called
returns-clause-called g c = λ given w has. step-called given w has

pub returns-clause-waits : goal.returns-clause-waits
returns-clause-waits g c = λ given w is. none-happens given w turns.Bytes is refl refl

pub returns-clause-ended : goal.returns-clause-ended
returns-clause-ended g c = λ given w end is. none-happens given w (turns.Ended end) is refl refl

pub returns-clause-link : goal.returns-clause-link
returns-clause-link g c = λ given w other. step-link given w other

pub returns-clause-windows : goal.returns-clause-windows
returns-clause-windows g c = λ given w other. step-windows given w other

pub returns-clause-inside : goal.returns-clause-inside
returns-clause-inside g c = λ given w other. step-inside given w other

pub returns-clause-drawn : goal.returns-clause-drawn
returns-clause-drawn g c = λ given w other. step-drawn given w other

pub returns-clause-put_out : goal.returns-clause-put_out
returns-clause-put_out g c = λ given w other. step-out given w other

pub returns-clause-event : goal.returns-clause-event
returns-clause-event g c = λ given w. step-adds given w

pub returns-clause-owed : goal.returns-clause-owed
returns-clause-owed g c = λ given w other still. step-owes given w other still

pub returns-clause-begun : goal.returns-clause-begun
returns-clause-begun g c = λ given w is. step-begins given w is

pub returns-clause-items : goal.returns-clause-items
returns-clause-items g c = λ given w. step-items given w
