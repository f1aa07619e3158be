use Rattle.request_visit.proofs.Unkept.{unkept_page}
use Rattle.request_visit.proofs.serving.commit.Goals as goal

pub returns-in_err-closing-in-Some-clause-keeper : goal.returns-in_err-closing-in-Some-clause-keeper
returns-in_err-closing-in-Some-clause-keeper g c =
    unkept_page c.args.container.now c.commit.new.container c.args.tries.now c.commit.new.self c.args.done c.in-Some.end c.in_ok-ready.ready c.from_residual-in_err-closing-in-Some.result
    c.in_err-closing-in-Some.ensures.wanted (rw c.in-Some.is at c.in_ok-commit.ensures.commits)
