use Rattle.request_tries.proofs.Serving.{may_commit}
use Rattle.request_tries.proofs.tries.RequestTries.commit.Goals as goal

pub returns-clause-brings : goal.returns-clause-brings
returns-clause-brings g c =
    (may_commit c.calls_follow.ensures.done c.args.container.now c.make_commit.new.container (g.P.Program.asks c.args.program.now) c.args.self.now c.make_commit.new.self c.args.done c.make_commit.result
    c.history_is.ensures c.requires.serving (λ rows. g.met.P.Program.is_done c.args.program.now c.args.container.now.boot.start.deployment rows c.requires.accepts) c.requires.done c.make_commit.ensures.commits).0

pub returns-clause-answers : goal.returns-clause-answers
returns-clause-answers g c =
    (may_commit c.calls_follow.ensures.done c.args.container.now c.make_commit.new.container (g.P.Program.asks c.args.program.now) c.args.self.now c.make_commit.new.self c.args.done c.make_commit.result
    c.history_is.ensures c.requires.serving (λ rows. g.met.P.Program.is_done c.args.program.now c.args.container.now.boot.start.deployment rows c.requires.accepts) c.requires.done c.make_commit.ensures.commits).1
