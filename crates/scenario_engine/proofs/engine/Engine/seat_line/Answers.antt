use Rattle.std.proofs.Common.{◌≡◌, Ok, ap, sym, subst, ◌∙◌, refl}
use Rattle.scenario_text.specs.declared.answer.LineAnswer.{LineAnswer}
use Rattle.scenario_text.specs.declared.answer.LineAnswer.TheVariants as answers
use Rattle.scenario_text.specs.declared.line.Line.TheVariants as lines
use Rattle.scenario_engine.specs.Engine.{value_of}
use Rattle.scenario_engine.specs.KeeperCalls.{seen}
use Rattle.scenario_engine.specs.State.{EngineValue}
use Rattle.scenario_engine.proofs.Stepping.{LineEnded, heading, in_run, in_the_head, placed, seat_ended}
use Rattle.scenario_engine.proofs.engine.Engine.seat_line.Goals as goal

pub returns-in-Head-clause-answer : goal.returns-in-Head-clause-answer
returns-in-Head-clause-answer g c =
    let value = value_of g.K.Keeper.told g.K.Keeper.faults in
    let k = seen (g.K.Keeper.told c.in-Head.keeper) (g.K.Keeper.faults c.in-Head.keeper) in
    let head = c.in-Head.head in
    let line = lines.Seat c.args.line in
    let v : heading head k ≡ c.args.self.now = ap value (sym c.in-Head.is ∙ c.replace.ensures.value) ∙ c.self.view_is in
    let P : LineAnswer → Type 0 = λ a. LineEnded (Ok a) (heading head k) c.args.self.now line in
    let Q : EngineValue → Type 0 = λ w. LineEnded (Ok c.refused.result) w c.args.self.now line in
    subst Q (sym (ap value c.put.ensures)) (subst P (sym c.refused.ensures) (placed (Ok answers.Refused) (heading head k) c.args.self.now (heading head k) line line (in_the_head answers.Refused line head head k refl refl) v refl))

pub returns-in-Run-clause-answer : goal.returns-in-Run-clause-answer
returns-in-Run-clause-answer g c =
    let value = value_of g.K.Keeper.told g.K.Keeper.faults in
    let r = c.in-Run.running in
    let next = c.seat_line-running.result.0 in
    let part = c.seat_line-running.result.1 in
    let line = lines.Seat c.args.line in
    let v : in_run r ≡ c.args.self.now = ap value (sym c.in-Run.is ∙ c.replace.ensures.value) ∙ c.self.view_is in
    let Q : EngineValue → Type 0 = λ w. LineEnded c.answered.result w c.args.self.now line in
    subst Q (sym (ap value c.put-in-Run.ensures)) (placed c.answered.result (in_run next) c.args.self.now (in_run r) line line (seat_ended part c.answered.result next r c.args.line c.answered.ensures c.seat_line-running.ensures.answer c.seat_line-running.ensures.refused) v refl)
