use Rattle.std.proofs.Common.{sym, subst}
use Rattle.journal_model.specs.declared.entry.Entry.{Entry}
use Rattle.commit_journal.specs.Requests.{HasMadeOf}
use Rattle.commit_journal.proofs.requests.Requests.make_entry.Goals as goal

pub returns-in-Commit : goal.returns-in-Commit
returns-in-Commit c = subst (λ (e : Entry). HasMadeOf c.args.self.now c.make.new.self c.args.place e) (sym c.in-Commit.is) c.make.ensures
