use Rattle.std.proofs.Common.{◌≡◌, ℕ, List, ap, sym, ◌∙◌}
use Rattle.outside.specs.Sink.{AppendsOrFails}
use Rattle.scenario_engine.specs.KeeperCalls.{KeeperSeen, seen}
use Rattle.drive_engine.specs.Ending.{status}
use Rattle.drive_engine.specs.Exchange.{Exchange, exchange}
use Rattle.drive_engine.specs.Words.{command_of}
use Rattle.drive_engine.proofs.Deciding.{decided_status}
use Rattle.drive_engine.proofs.Reporting.{out_of_memory_reported, report_of_memory}
use Rattle.drive_engine.proofs.command.run_command.Goals as goal

pub returns-clause-out_of_memory : goal.returns-clause-out_of_memory
returns-clause-out_of_memory g c =
    let left = g.S.Source.left in
    let written = g.T.Sink.written in
    let before : KeeperSeen = seen (g.K.Keeper.told c.args.keeper) (g.K.Keeper.faults c.args.keeper) in
    let after : KeeperSeen = seen (g.K.Keeper.told c.run_words-ending.result.1) (g.K.Keeper.faults c.run_words-ending.result.1) in
    let e = c.run_words-ending.result.0 in
    let r = c.report_ending-ending.result in
    let x : Exchange = exchange (left c.args.input.now) (left c.run_words-ending.new.input) (written c.args.out.now) (written c.run_words-ending.new.out) before after in
    let P : List ℕ → Type 0 = λ text. AppendsOrFails (g.E.Sink.written c.args.errors.now) (g.E.Sink.written c.report_ending-ending.new.errors) (g.E.Sink.faults c.args.errors.now) (g.E.Sink.faults c.report_ending-ending.new.errors) text in
    λ nine.
    let is : status r ≡ 9 = sym c.status.ensures ∙ nine in
    (out_of_memory_reported (command_of c.args.words.now) e r x c.run_words-ending.ensures.ends c.report_ending-ending.ensures.ending is, report_of_memory r P is c.report_ending-ending.ensures.reported)

pub returns-clause-decided : goal.returns-clause-decided
returns-clause-decided g c =
    let left = g.S.Source.left in
    let written = g.T.Sink.written in
    let before : KeeperSeen = seen (g.K.Keeper.told c.args.keeper) (g.K.Keeper.faults c.args.keeper) in
    let after : KeeperSeen = seen (g.K.Keeper.told c.run_words-ending.result.1) (g.K.Keeper.faults c.run_words-ending.result.1) in
    let x : Exchange = exchange (left c.args.input.now) (left c.run_words-ending.new.input) (written c.args.out.now) (written c.run_words-ending.new.out) before after in
    decided_status (command_of c.args.words.now) c.run_words-ending.result.0 c.report_ending-ending.result x c.status.result (λ unasked. ap g.K.Keeper.told (c.run_words-ending.ensures.unasked unasked)) c.run_words-ending.ensures.ends c.report_ending-ending.ensures.ending c.status.ensures
