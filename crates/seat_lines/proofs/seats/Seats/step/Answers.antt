use Rattle.std.proofs.Common.{refl, ◌≡◌, ◌∙◌, ◌<◌, ◌≤◌, Some, None, Option, ℕ, length, sym, subst, arith}
use Rattle.std.specs.Prelude.{All}
use Rattle.std.proofs.lemmas.Bool.Decides.{nat_tests}
use Rattle.std.proofs.lemmas.List.{get_or_default, get_or_past}
use Rattle.std.proofs.lemmas.Result.{IfOk-weaker, on_err_weaker}
use Rattle.container_core.specs.Container.{ContainerValue}
use Rattle.scenario_text.specs.Answer.{KeepsRefused, answer_of}
use Rattle.scenario_text.specs.declared.answer.LineAnswer.{LineAnswer}
use Rattle.seat_steps.specs.Seats.{SeatWorld}
use Rattle.seat_steps.specs.declared.seat.Seat.{Seat}
use Rattle.session_steps.specs.Lent.{put_back}
use Rattle.session_steps.specs.Sessions.{SessionsState}
use Rattle.seat_lines.specs.Handing.{BreaksIn, BreaksStep, HasMadeStep, HasMovedIn, place_from}
use Rattle.seat_lines.specs.Lines.{Place, with_place}
use Rattle.seat_lines.specs.Site.{IsGoingIn, SeatsState, SiteState, seat_at, site_in}
use Rattle.seat_lines.proofs.Going.{going_set}
use Rattle.seat_lines.proofs.Placing.{breaks_there, kept_there, made_there, none_there}
use Rattle.seat_lines.proofs.seats.Seats.step.Goals as goal

pub returns-then-number-len-clause-step : goal.returns-then-number-len-clause-step
returns-then-number-len-clause-step g c =
    let view : SeatsState = record { seats = c.self.inside.seats.items; word = c.self.inside.word; manager = c.self.inside.manager } in
    let sessions : SessionsState = put_back c.args.lent.now (Some c.args.lending.lanes) c.args.lending.serial in
    let past : length view.seats ≤ c.args.number = grind (arith, nat_tests, c.if-number-len.true, c.len.ensures) in
    subst (λ (seats : SeatsState). HasMadeStep c.args.number c.args.container.now sessions seats _ c.args.container.now) c.self.view_is
    (none_there c.args.number c.args.container.now c.args.lent.now c.args.lending.lanes c.args.lending.serial view c.args.container.now c.requires.number refl (get_or_past view.seats c.args.number None past))

pub returns-clause-step : goal.returns-clause-step
returns-clause-step g c =
    let view : SeatsState = record { seats = c.self.inside.seats.items; word = c.self.inside.word; manager = c.self.inside.manager } in
    let n : ℕ = c.args.number in
    let old : ContainerValue = c.args.container.now in
    let new : ContainerValue = c.step_seat.new.container in
    let sessions : SessionsState = put_back c.args.lent.now (Some c.args.lending.lanes) c.args.lending.serial in
    let after : SessionsState = put_back c.args.lent.now (Some c.step_seat.result.0.lanes) c.step_seat.result.0.serial in
    let place : Place = place_from c.step_seat.new.place new c.step_seat.result.0 c.step_seat.new.word c.step_seat.new.manager in
    let w : SeatWorld = (place_from c.index_mut-place.result.now old c.args.lending view.word view.manager).world in
    let within : n < length view.seats = grind (arith, nat_tests, c.if-number-len.false, c.len.ensures) in
    let there : c.index_mut-place.result.now ≡ seat_at view.seats n = c.index_mut-place.ensures.value ∙ get_or_default view.seats n c.index_mut-place.result.now None within in
    let next : SeatsState = record { seats = (with_place (site_in old sessions view) n place).seats.seats; word = c.step_seat.new.word; manager = c.step_seat.new.manager } in
    IfOk-weaker c.step_seat.result.1
    (λ (a : LineAnswer). HasMovedIn c.args.lent.now.key c.args.lent.now.moment n c.index_mut-place.result.now old w view.manager (answer_of a place) new)
    (λ (a : LineAnswer). HasMadeStep n old sessions c.args.self.now (answer_of a (site_in new after next)) new)
    (λ a moved.
    subst (λ (seats : SeatsState). HasMadeStep n old sessions seats (answer_of a (site_in new after next)) new) c.self.view_is
    (made_there n old c.args.lent.now c.args.lending.lanes c.args.lending.serial view new c.requires.number a place
    (subst (λ (p : Option Seat). HasMovedIn c.args.lent.now.key c.args.lent.now.moment n p old w view.manager (answer_of a place) new) there moved)))
    c.step_seat.ensures.step

pub returns-clause-refused : goal.returns-clause-refused
returns-clause-refused g c =
    let view : SeatsState = record { seats = c.self.inside.seats.items; word = c.self.inside.word; manager = c.self.inside.manager } in
    let n : ℕ = c.args.number in
    let old : ContainerValue = c.args.container.now in
    let sessions : SessionsState = put_back c.args.lent.now (Some c.args.lending.lanes) c.args.lending.serial in
    let place : Place = place_from c.step_seat.new.place c.step_seat.new.container c.step_seat.result.0 c.step_seat.new.word c.step_seat.new.manager in
    let within : n < length view.seats = grind (arith, nat_tests, c.if-number-len.false, c.len.ensures) in
    let there : c.index_mut-place.result.now ≡ seat_at view.seats n = c.index_mut-place.ensures.value ∙ get_or_default view.seats n c.index_mut-place.result.now None within in
    let next : SiteState = with_place (site_in old sessions view) n place in
    IfOk-weaker c.step_seat.result.1
    (λ (a : LineAnswer). KeepsRefused a (place_from c.index_mut-place.result.now old c.args.lending view.word view.manager) place)
    (λ (a : LineAnswer). KeepsRefused a (site_in old sessions c.args.self.now) next)
    (λ a kept.
    subst (λ (seats : SeatsState). KeepsRefused a (site_in old sessions seats) next) c.self.view_is
    (kept_there n old c.args.lent.now c.args.lending.lanes c.args.lending.serial view c.step_seat.new.container c.requires.number a place
    (subst (λ (p : Option Seat). KeepsRefused a (place_from p old c.args.lending view.word view.manager) place) there kept)))
    c.step_seat.ensures.refused

pub returns-clause-breaks : goal.returns-clause-breaks
returns-clause-breaks g c =
    let view : SeatsState = record { seats = c.self.inside.seats.items; word = c.self.inside.word; manager = c.self.inside.manager } in
    let n : ℕ = c.args.number in
    let old : ContainerValue = c.args.container.now in
    let new : ContainerValue = c.step_seat.new.container in
    let sessions : SessionsState = put_back c.args.lent.now (Some c.args.lending.lanes) c.args.lending.serial in
    let w : SeatWorld = (place_from c.index_mut-place.result.now old c.args.lending view.word view.manager).world in
    let within : n < length view.seats = grind (arith, nat_tests, c.if-number-len.false, c.len.ensures) in
    let there : c.index_mut-place.result.now ≡ seat_at view.seats n = c.index_mut-place.ensures.value ∙ get_or_default view.seats n c.index_mut-place.result.now None within in
    on_err_weaker c.step_seat.result.1
    (λ (broke : BreaksIn c.args.lent.now.key c.args.lent.now.moment n c.index_mut-place.result.now old w view.manager new).
    subst (λ (seats : SeatsState). BreaksStep n old sessions seats new) c.self.view_is
    (breaks_there n old c.args.lent.now c.args.lending.lanes c.args.lending.serial view new c.requires.number (subst (λ (p : Option Seat). BreaksIn c.args.lent.now.key c.args.lent.now.moment n p old w view.manager new) there broke)))
    c.step_seat.ensures.breaks

pub returns-clause-goes : goal.returns-clause-goes
returns-clause-goes g c =
    let P : SeatsState → Type 0 = λ s. All (IsGoingIn c.step_seat.new.container) s.seats in
    let all : All (IsGoingIn c.step_seat.new.container) c.self.inside.seats.items = subst P (sym c.self.view_is) (c.stay.ensures c.args.container.now c.step_seat.new.container c.step_seat.ensures.grown c.requires.goes) in
    going_set c.step_seat.new.container c.self.inside.seats.items c.args.number c.step_seat.new.place c.step_seat.ensures.goes all
