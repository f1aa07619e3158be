use Rattle.workload.proofs.Turning.{HasTurned}
use Rattle.workload.proofs.run.run_turns.Given as goal

abbrev pub invariant-loop-k : goal.invariant-loop-k
invariant-loop-k g l = HasTurned l.number l.k l.initial.container.boot l.drawn l.container.boot l.callers l.tally l.initial.container.faults l.container.faults
