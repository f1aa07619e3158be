use Rattle.std.proofs.Common.{◌≡◌, ap, sym, ◌∙◌, refl, Ok}
use Rattle.line_steps.specs.Callers.{call_step}
use Rattle.scenario_text.specs.Answer.{within}
use Rattle.scenario_text.specs.declared.answer.LineAnswer.TheVariants as answers
use Rattle.scenario_text.specs.declared.line.Line.TheVariants as lines
use Rattle.session_steps.specs.Sessions.{session_line}
use Rattle.scenario_engine.specs.Engine.{value_of}
use Rattle.scenario_engine.specs.KeeperCalls.{seen}
use Rattle.scenario_engine.specs.Running.{with_called, with_sessions, boot_line}
use Rattle.scenario_engine.proofs.Stepping.{heading, in_run, passed, head_refused, placed, part_ended, head_ended, uncalled_ended, commit_ended}
use Rattle.scenario_engine.proofs.engine.Engine.line_on.Goals as goal

pub returns-in-Head-clause-answer : goal.returns-in-Head-clause-answer
returns-in-Head-clause-answer g c =
    let value = value_of g.K.Keeper.told g.K.Keeper.faults in
    let k = seen (g.K.Keeper.told c.in-Head.field-1) (g.K.Keeper.faults c.in-Head.field-1) in
    let head = c.in-Head.head in
    let next = c.head_line.new.head in
    let v : heading head k ≡ c.args.self.now = ap value (sym c.in-Head.is) ∙ c.self.view_is in
    let part = head_ended c.head_line.result c.args.line head next k c.head_line.ensures.answer c.head_line.ensures.refused in
    placed c.answered.result (heading next k) c.args.self.now (heading head k) c.args.line c.args.line (part_ended c.head_line.result c.answered.result (heading next k) (heading head k) c.args.line c.answered.ensures part) v refl

pub returns-in-Pass-clause-answer : goal.returns-in-Pass-clause-answer
returns-in-Pass-clause-answer g c =
    let value = value_of g.K.Keeper.told g.K.Keeper.faults in
    let r = c.in-Run.running in
    let v : in_run r ≡ c.args.self.now = ap value (sym c.in-Run.is) ∙ c.self.view_is in
    placed (Ok answers.Done) (in_run r) c.args.self.now (in_run r) c.args.line lines.Pass (passed r.running r.keeper) v c.in-Pass.is

pub returns-in-Head-line-clause-answer : goal.returns-in-Head-line-clause-answer
returns-in-Head-line-clause-answer g c =
    let value = value_of g.K.Keeper.told g.K.Keeper.faults in
    let r = c.in-Run.running in
    let line = c.in-Head-line.field-0 in
    let v : in_run r ≡ c.args.self.now = ap value (sym c.in-Run.is) ∙ c.self.view_is in
    placed (Ok answers.Refused) (in_run r) c.args.self.now (in_run r) c.args.line (lines.Head line) (head_refused r.running line r.keeper) v c.in-Head-line.is

pub returns-in-Call-clause-answer : goal.returns-in-Call-clause-answer
returns-in-Call-clause-answer g c =
    let value = value_of g.K.Keeper.told g.K.Keeper.faults in
    let r = c.in-Run.running in
    let next = c.call_step.new.self in
    let line = lines.Call c.in-Call.caller c.in-Call.line in
    let answer = within (with_called r.running) (call_step r.running.boot r.running.callers c.in-Call.caller c.in-Call.line) in
    let v : in_run r ≡ c.args.self.now = ap value (sym c.in-Run.is) ∙ c.self.view_is in
    let part = uncalled_ended c.call_step.result line r next answer refl refl c.call_step.ensures.answer c.call_step.ensures.refused c.call_step.ensures.kept in
    placed c.answered-in-Call.result (in_run next) c.args.self.now (in_run r) c.args.line line (part_ended c.call_step.result c.answered-in-Call.result (in_run next) (in_run r) line c.answered-in-Call.ensures part) v c.in-Call.is

pub returns-in-Commit-clause-answer : goal.returns-in-Commit-clause-answer
returns-in-Commit-clause-answer g c =
    let value = value_of g.K.Keeper.told g.K.Keeper.faults in
    let r = c.in-Run.running in
    let next = c.commit_step.new.self in
    let line = lines.Commit c.in-Commit.caller in
    let v : in_run r ≡ c.args.self.now = ap value (sym c.in-Run.is) ∙ c.self.view_is in
    let part = commit_ended c.commit_step.result r next c.in-Commit.caller c.commit_step.ensures.answer c.commit_step.ensures.refused in
    placed c.answered-in-Commit.result (in_run next) c.args.self.now (in_run r) c.args.line line (part_ended c.commit_step.result c.answered-in-Commit.result (in_run next) (in_run r) line c.answered-in-Commit.ensures part) v c.in-Commit.is

pub returns-in-Boot-clause-answer : goal.returns-in-Boot-clause-answer
returns-in-Boot-clause-answer g c =
    let value = value_of g.K.Keeper.told g.K.Keeper.faults in
    let r = c.in-Run.running in
    let next = c.boot_line.new.self in
    let line = lines.Boot c.in-Boot.line in
    let v : in_run r ≡ c.args.self.now = ap value (sym c.in-Run.is) ∙ c.self.view_is in
    let part = uncalled_ended c.boot_line.result line r next (boot_line r.running c.in-Boot.line) refl refl c.boot_line.ensures.answer c.boot_line.ensures.refused c.boot_line.ensures.kept in
    placed c.answered-in-Boot.result (in_run next) c.args.self.now (in_run r) c.args.line line (part_ended c.boot_line.result c.answered-in-Boot.result (in_run next) (in_run r) line c.answered-in-Boot.ensures part) v c.in-Boot.is

pub returns-in-Session-clause-answer : goal.returns-in-Session-clause-answer
returns-in-Session-clause-answer g c =
    let value = value_of g.K.Keeper.told g.K.Keeper.faults in
    let r = c.in-Run.running in
    let next = c.session_line.new.self in
    let line = lines.Session c.in-Session.line in
    let answer = within (with_sessions r.running) (session_line r.running.sessions c.in-Session.line) in
    let v : in_run r ≡ c.args.self.now = ap value (sym c.in-Run.is) ∙ c.self.view_is in
    let part = uncalled_ended c.session_line.result line r next answer refl refl c.session_line.ensures.answer c.session_line.ensures.refused c.session_line.ensures.kept in
    placed c.answered-in-Session.result (in_run next) c.args.self.now (in_run r) c.args.line line (part_ended c.session_line.result c.answered-in-Session.result (in_run next) (in_run r) line c.answered-in-Session.ensures part) v c.in-Session.is
