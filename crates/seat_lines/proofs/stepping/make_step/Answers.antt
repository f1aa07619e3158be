use Rattle.std.proofs.Common.{Some, List, ℕ, ◌<◌, ◌^◌, ◌++◌, ◌∙◌, refl, ap, subst, arith}
use Rattle.std.proofs.lemmas.Result.{IfErr-at_err, IfOk-at_ok}
use Rattle.container_core.specs.Container.{ContainerValue}
use Rattle.crash_base.specs.declared.numbers.Moment.{Moment}
use Rattle.recovery_manager.specs.Kept.{ManagerValue}
use Rattle.scenario_text.specs.Answer.{Answer, Done, answer_of}
use Rattle.seat_steps.specs.Seats.{SeatOutcome, SeatWorld}
use Rattle.crash_base.specs.declared.memory.OutOfMemory.{OutOfMemory}
use Rattle.seat_steps.specs.Stepped.{BreaksOff, HasStepped, world_from}
use Rattle.seat_steps.specs.declared.seat.NextDraws.{NextDraws}
use Rattle.seat_steps.specs.declared.step.SeatStepped.{SeatStepped}
use Rattle.shepherd.specs.Shepherds.{turn}
use Rattle.shepherd.specs.declared.shepherd.ShepherdTurn.{ShepherdTurn}
use Rattle.seat_lines.specs.Handing.{HasMovedIn, place_from}
use Rattle.seat_lines.specs.Hearing.{decided_text}
use Rattle.seat_lines.specs.Lines.{Place, step_text, worker_of}
use Rattle.seat_lines.proofs.Handing.{AroundStep, boot_stays, breaks_lent, broke_in, done_keeps, moved_in, stepped_breaks}
use Rattle.seat_lines.proofs.stepping.make_step.Goals as goal

pub returns-in-Ok-tell_step-clause-step : goal.returns-in-Ok-tell_step-clause-step
returns-in-Ok-tell_step-clause-step g c =
    let o : SeatOutcome = record { seat = c.step-lanes.new.self; world = world_from c.step-lanes.new.container c.step-lanes.result.0 c.step-lanes.new.next; bytes = c.in-Ok.stepped.bytes; items = c.in-Ok.stepped.items; report = c.in-Ok.stepped.report } in
    let w : SeatWorld = (place_from (Some c.args.seat.now) c.args.container.now c.args.lending c.args.word.now c.args.manager.now).world in
    let m : ManagerValue = c.args.manager.now in
    let place : Place = record { seat = Some o.seat; world = o.world; manager = c.tell_step.new.manager } in
    let n : ℕ = c.args.number in
    let a : Answer Place = answer_of c.in-Ok-tell_step.answer place in
    let P : SeatStepped → Type 0 = λ s. HasStepped c.key.result.now (worker_of n) c.moment.result c.args.seat.now c.args.container.now w c.step-lanes.new.container (record o { bytes = s.bytes; items = s.items; report = s.report }) in
    let stepped : P c.in-Ok.stepped = IfOk-at_ok P c.in-Ok.is c.step-lanes.ensures.step in
    let around : AroundStep c.moment.result c.args.seat.now c.args.container.now w c.step-lanes.new.container o = record {
      boot_is = refl;
      since_is = refl;
      entries_are = c.tell_entries.ensures;
      in_time = omega (arith, c.moment.ensures.in_time);
      word = subst (λ (x : ℕ). x < 2 ^ 64) c.word_of.ensures.value c.word_of.ensures.small;
      goes = c.requires.goes;
      sound = c.requires.sound;
      limits = c.keeps_limits.ensures;
      grown = c.step-lanes.ensures.grown;
      new_boot = refl;
      new_since = refl;
    } in
    let at : HasMovedIn c.key.result.now c.moment.result n (Some c.args.seat.now) c.args.container.now w c.args.manager.now a c.step-lanes.new.container =
    moved_in c.key.result.now c.moment.result n c.args.seat.now c.args.container.now w m c.step-lanes.new.container o a stepped around c.requires.moves c.step-lanes.ensures.count
    (c.in-Ok-tell_step.ensures.text place
    ∙ (ap (λ (t : ShepherdTurn). Done place (step_text t n o.bytes ++ decided_text m o.report)) c.turn-turn.ensures
    ∙ ap (λ (x : ManagerValue). let p : Place = record { seat = Some o.seat; world = o.world; manager = x } in Done p (step_text (turn c.args.seat.now.connection) n o.bytes ++ decided_text m o.report)) c.in-Ok-tell_step.ensures.after)) in
    subst (λ (k : List ℕ). HasMovedIn k c.args.lent.now.moment n (Some c.args.seat.now) c.args.container.now w c.args.manager.now a c.step-lanes.new.container) c.key.ensures
    (subst (λ (x : Moment). HasMovedIn c.key.result.now x n (Some c.args.seat.now) c.args.container.now w c.args.manager.now a c.step-lanes.new.container) c.moment.ensures.moment at)

pub returns-in-Ok-tell_step-clause-refused : goal.returns-in-Ok-tell_step-clause-refused
returns-in-Ok-tell_step-clause-refused g c =
    let place : Place = record { seat = Some c.step-lanes.new.self; world = world_from c.step-lanes.new.container c.step-lanes.result.0 c.step-lanes.new.next; manager = c.tell_step.new.manager } in
    done_keeps c.in-Ok-tell_step.answer (place_from (Some c.args.seat.now) c.args.container.now c.args.lending c.args.word.now c.args.manager.now) place
    (step_text c.turn-turn.result c.args.number c.in-Ok.stepped.bytes ++ decided_text c.args.manager.now c.in-Ok.stepped.report) (c.in-Ok-tell_step.ensures.text place)

pub returns-in-Err-tell_step-clause-breaks : goal.returns-in-Err-tell_step-clause-breaks
returns-in-Err-tell_step-clause-breaks g c =
    let n : ℕ = c.args.number in
    let old : ContainerValue = c.args.container.now in
    let new : ContainerValue = c.step-lanes.new.container in
    let o : SeatOutcome = record { seat = c.step-lanes.new.self; world = world_from new c.step-lanes.result.0 c.step-lanes.new.next; bytes = c.in-Ok.stepped.bytes; items = c.in-Ok.stepped.items; report = c.in-Ok.stepped.report } in
    let w : SeatWorld = (place_from (Some c.args.seat.now) old c.args.lending c.args.word.now c.args.manager.now).world in
    let P : SeatStepped → Type 0 = λ s. HasStepped c.key.result.now (worker_of n) c.moment.result c.args.seat.now old w new (record o { bytes = s.bytes; items = s.items; report = s.report }) in
    let stepped : P c.in-Ok.stepped = IfOk-at_ok P c.in-Ok.is c.step-lanes.ensures.step in
    breaks_lent c.key.result.now c.args.lent.now.key c.moment.result c.args.lent.now.moment n (Some c.args.seat.now) old w c.args.manager.now new c.key.ensures c.moment.ensures.moment
    (stepped_breaks c.key.result.now c.moment.result n c.args.seat.now old w c.args.manager.now new o stepped c.requires.moves refl refl c.step-lanes.ensures.count)

pub returns-in-Err-clause-breaks : goal.returns-in-Err-clause-breaks
returns-in-Err-clause-breaks g c =
    let n : ℕ = c.args.number in
    let old : ContainerValue = c.args.container.now in
    let new : ContainerValue = c.step-lanes.new.container in
    let w : SeatWorld = (place_from (Some c.args.seat.now) old c.args.lending c.args.word.now c.args.manager.now).world in
    let next : NextDraws = record { word = c.args.word.now; serial = c.args.lending.serial } in
    let Q : OutOfMemory → Type 0 = λ e. BreaksOff c.key.result.now c.moment.result c.args.seat.now old c.args.lending.lanes next new c.step-lanes.new.next in
    breaks_lent c.key.result.now c.args.lent.now.key c.moment.result c.args.lent.now.moment n (Some c.args.seat.now) old w c.args.manager.now new c.key.ensures c.moment.ensures.moment
    (broke_in c.steps_inside_are_fixed.ensures.replied c.key.result.now c.moment.result n c.args.seat.now old new c.args.lending.lanes next c.step-lanes.new.next c.args.manager.now (IfErr-at_err Q c.in-Err.is c.step-lanes.ensures.broke) c.requires.moves
    (boot_stays old new c.step-lanes.ensures.grown c.tell_entries.ensures c.tell_entries-2.ensures) c.step-lanes.ensures.count)
