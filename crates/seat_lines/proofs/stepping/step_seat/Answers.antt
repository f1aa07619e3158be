use Rattle.std.proofs.Common.{◌≡◌, Option, Result, Ok, Err, false, ◌∙◌, sym, ap, subst}
use Rattle.std.specs.Prelude.{OnErr}
use Rattle.std.proofs.lemmas.Result.{IfOk-weaker}
use Rattle.recovery_manager.specs.Kept.{ManagerValue}
use Rattle.scenario_text.specs.Answer.{Refused, answer_of}
use Rattle.scenario_text.specs.declared.answer.LineAnswer.{LineAnswer}
use Rattle.seat_steps.specs.Seats.{SeatWorld}
use Rattle.seat_steps.specs.declared.seat.Seat.{Seat}
use Rattle.shepherd.specs.Shepherds.{turn}
use Rattle.seat_lines.specs.Handing.{BreaksIn, HasMovedIn, place_from}
use Rattle.seat_lines.specs.Lines.{Place, end_of, moves, still_by}
use Rattle.seat_lines.proofs.Handing.{broke_still, none_moves, still_there}
use Rattle.seat_lines.proofs.stepping.step_seat.Goals as goal

pub returns-in-None-clause-step : goal.returns-in-None-clause-step
returns-in-None-clause-step g c =
    let w : SeatWorld = (place_from c.args.place.now c.args.container.now c.args.lending c.args.word.now c.args.manager.now).world in
    subst (λ (p : Option Seat). HasMovedIn c.args.lent.now.key c.args.lent.now.moment c.args.number p c.args.container.now w c.args.manager.now Refused c.args.container.now) (sym c.in-None.is)
    (none_moves c.args.lent.now.key c.args.lent.now.moment c.args.number c.args.container.now w c.args.manager.now)

pub returns-else-moves-clause-step : goal.returns-else-moves-clause-step
returns-else-moves-clause-step g c =
    let w : SeatWorld = (place_from c.args.place.now c.args.container.now c.args.lending c.args.word.now c.args.manager.now).world in
    let rests : moves (turn c.in-Some.seat.connection) ≡ false = sym (c.moves.ensures ∙ ap moves c.turn.ensures) ∙ c.if-moves.false in
    IfOk-weaker c.stay_or_go-answer.result
    (λ (a : LineAnswer). (world : SeatWorld) (m : ManagerValue) → (let there : Place = record { seat = c.stay_or_go-answer.new.place; world = world; manager = m } in answer_of a there) ≡ still_by (end_of (turn c.in-Some.seat.connection)) c.args.number c.in-Some.seat world m)
    (λ (a : LineAnswer). HasMovedIn c.args.lent.now.key c.args.lent.now.moment c.args.number c.args.place.now c.args.container.now w c.args.manager.now (answer_of a (place_from c.stay_or_go-answer.new.place c.args.container.now c.args.lending c.args.word.now c.args.manager.now)) c.args.container.now)
    (λ a is. still_there c.args.lent.now.key c.args.lent.now.moment c.args.number c.args.place.now c.in-Some.seat c.args.container.now w c.args.manager.now (answer_of a (place_from c.stay_or_go-answer.new.place c.args.container.now c.args.lending c.args.word.now c.args.manager.now)) c.in-Some.is rests (is w c.args.manager.now))
    c.stay_or_go-answer.ensures.answer

-- what holds anyway, where memory ran out or not
anyway : {A E : Type 0} (r : Result A E) (P : Type 0) → P → OnErr r P
anyway (Ok x) P holds = tt
anyway (Err e) P holds = holds

pub returns-else-moves-clause-breaks : goal.returns-else-moves-clause-breaks
returns-else-moves-clause-breaks g c =
    let w : SeatWorld = (place_from c.args.place.now c.args.container.now c.args.lending c.args.word.now c.args.manager.now).world in
    anyway c.stay_or_go-answer.result (BreaksIn c.args.lent.now.key c.args.lent.now.moment c.args.number c.args.place.now c.args.container.now w c.args.manager.now c.args.container.now)
    (broke_still c.args.lent.now.key c.args.lent.now.moment c.args.number c.args.place.now c.args.container.now w c.args.manager.now)
