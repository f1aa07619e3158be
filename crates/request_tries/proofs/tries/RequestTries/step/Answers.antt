use Rattle.std.proofs.Common.{Option, None, subst}
use Rattle.call_attempts.specs.Attempt.{AttemptValue}
use Rattle.request_tries.specs.Steps.{LeavesBoot}
use Rattle.request_tries.proofs.Serving.{begun, done, was_stopped, went}
use Rattle.request_tries.proofs.tries.RequestTries.step.Goals as goal

pub returns-in_ok-begin-in-None-clause-steps : goal.returns-in_ok-begin-in-None-clause-steps
returns-in_ok-begin-in-None-clause-steps g c =
    let h = rw c.in-None.is at c.in_ok-advance.ensures.advances in
    let left = subst (λ (o : Option AttemptValue). LeavesBoot c.args.container.now (g.P.Program.asks c.args.program.now) o None c.advance.new.container) h.0 (rw c.in-None.is at c.in_ok-advance.ensures.leaves) in
    (begun c.args.container.now c.advance.new.container c.begin.new.container (g.P.Program.asks c.args.program.now) c.args.self.now c.advance.new.self c.begin.new.self
    left c.in_ok-begin-in-None.ensures.same h.0 h.1 c.in_ok-begin-in-None.ensures.begun c.requires.serving).0

pub returns-in_ok-begin-in-None-clause-brings : goal.returns-in_ok-begin-in-None-clause-brings
returns-in_ok-begin-in-None-clause-brings g c =
    let h = rw c.in-None.is at c.in_ok-advance.ensures.advances in
    let left = subst (λ (o : Option AttemptValue). LeavesBoot c.args.container.now (g.P.Program.asks c.args.program.now) o None c.advance.new.container) h.0 (rw c.in-None.is at c.in_ok-advance.ensures.leaves) in
    (begun c.args.container.now c.advance.new.container c.begin.new.container (g.P.Program.asks c.args.program.now) c.args.self.now c.advance.new.self c.begin.new.self
    left c.in_ok-begin-in-None.ensures.same h.0 h.1 c.in_ok-begin-in-None.ensures.begun c.requires.serving).1

pub returns-in-Went-clause-steps : goal.returns-in-Went-clause-steps
returns-in-Went-clause-steps g c =
    let k = rw c.in-Went.is at (rw c.in-Some.is at c.in_ok-advance.ensures.advances) in
    let left = rw c.in-Went.is at (rw c.in-Some.is at c.in_ok-advance.ensures.leaves) in
    (went c.args.container.now c.advance.new.container (g.P.Program.asks c.args.program.now) c.args.self.now c.advance.new.self left c.requires.serving k).0

pub returns-in-Went-clause-brings : goal.returns-in-Went-clause-brings
returns-in-Went-clause-brings g c =
    let k = rw c.in-Went.is at (rw c.in-Some.is at c.in_ok-advance.ensures.advances) in
    let left = rw c.in-Went.is at (rw c.in-Some.is at c.in_ok-advance.ensures.leaves) in
    (went c.args.container.now c.advance.new.container (g.P.Program.asks c.args.program.now) c.args.self.now c.advance.new.self left c.requires.serving k).1

pub returns-in-Done-clause-steps : goal.returns-in-Done-clause-steps
returns-in-Done-clause-steps g c =
    let k = rw c.in-Done.is at (rw c.in-Some.is at c.in_ok-advance.ensures.advances) in
    let left = rw c.in-Done.is at (rw c.in-Some.is at c.in_ok-advance.ensures.leaves) in
    (done c.args.container.now c.advance.new.container (g.P.Program.asks c.args.program.now) c.args.self.now c.advance.new.self c.in-Done.done left c.requires.serving k).0.0

pub returns-in-Done-clause-brings : goal.returns-in-Done-clause-brings
returns-in-Done-clause-brings g c =
    let k = rw c.in-Done.is at (rw c.in-Some.is at c.in_ok-advance.ensures.advances) in
    let left = rw c.in-Done.is at (rw c.in-Some.is at c.in_ok-advance.ensures.leaves) in
    (done c.args.container.now c.advance.new.container (g.P.Program.asks c.args.program.now) c.args.self.now c.advance.new.self c.in-Done.done left c.requires.serving k).0.1

pub returns-in-Done-clause-done : goal.returns-in-Done-clause-done
returns-in-Done-clause-done g c =
    let k = rw c.in-Done.is at (rw c.in-Some.is at c.in_ok-advance.ensures.advances) in
    let left = rw c.in-Done.is at (rw c.in-Some.is at c.in_ok-advance.ensures.leaves) in
    let h = done c.args.container.now c.advance.new.container (g.P.Program.asks c.args.program.now) c.args.self.now c.advance.new.self c.in-Done.done left c.requires.serving k in
    (h.1, h.2, h.3)

pub returns-in_ok-end-in-Stopped-clause-steps : goal.returns-in_ok-end-in-Stopped-clause-steps
returns-in_ok-end-in-Stopped-clause-steps g c =
    let k = rw c.in-Stopped.is at (rw c.in-Some.is at c.in_ok-advance.ensures.advances) in
    let left = rw c.in-Stopped.is at (rw c.in-Some.is at c.in_ok-advance.ensures.leaves) in
    (was_stopped c.args.container.now c.advance.new.container c.stop.new.container (g.P.Program.asks c.args.program.now) c.args.self.now c.advance.new.self c.stop.new.self c.in-Stopped.stop c.in_ok-end-in-Stopped.end c.progress_of.result
    left c.in_ok-end-in-Stopped.ensures.same c.history_is.ensures c.requires.serving k c.in_ok-end-in-Stopped.ensures.stops c.progress_of.ensures).0

pub returns-in_ok-end-in-Stopped-clause-brings : goal.returns-in_ok-end-in-Stopped-clause-brings
returns-in_ok-end-in-Stopped-clause-brings g c =
    let k = rw c.in-Stopped.is at (rw c.in-Some.is at c.in_ok-advance.ensures.advances) in
    let left = rw c.in-Stopped.is at (rw c.in-Some.is at c.in_ok-advance.ensures.leaves) in
    (was_stopped c.args.container.now c.advance.new.container c.stop.new.container (g.P.Program.asks c.args.program.now) c.args.self.now c.advance.new.self c.stop.new.self c.in-Stopped.stop c.in_ok-end-in-Stopped.end c.progress_of.result
    left c.in_ok-end-in-Stopped.ensures.same c.history_is.ensures c.requires.serving k c.in_ok-end-in-Stopped.ensures.stops c.progress_of.ensures).1
