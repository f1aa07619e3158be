use Rattle.std.proofs.Common.{sym, ◌∙◌}
use Rattle.scenario_text.specs.Reading.{line_of}
use Rattle.scenario_engine.proofs.Stepping.{unread, spells_none}
use Rattle.scenario_engine.proofs.engine.Engine.do_text.Goals as goal

pub returns-in-Err-clause-answer : goal.returns-in-Err-clause-answer
returns-in-Err-clause-answer g c = unread c.args.self.now.state (line_of c.args.text.now) c.args.self.now.keeper

pub returns-in-Ok-None-clause-answer : goal.returns-in-Ok-None-clause-answer
returns-in-Ok-None-clause-answer g c =
    spells_none c.args.self.now.state (line_of c.args.text.now) c.args.self.now.keeper (sym c.in-Ok-None.ensures ∙ c.in-Ok-None.field-0-is)
