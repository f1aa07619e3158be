use Rattle.std.proofs.Common.{sym, ◌∙◌}
use Rattle.commit_journal.proofs.LateOnes.{made_there}
use Rattle.commit_journal.proofs.requests.Requests.make.Goals as goal

pub returns-in-Some : goal.returns-in-Some
returns-in-Some c = made_there c.args.self.now c.args.request c.args.place c.in-Some.field-0 c.requires.order (sym c.place_of.ensures ∙ c.in-Some.is)
