use Rattle.std.proofs.Common.{string_bytes}
use Rattle.workload.proofs.Running.{summed_up}
use Rattle.workload.proofs.run.sum_up.Goals as goal

pub returns-clause-sums : goal.returns-clause-sums
returns-clause-sums g c =
    summed_up c.args.number c.args.count (string_bytes c.in_ok-text.text) c.args.container.now.boot c.run_turns.new.container.boot c.as_boot.result.now c.in_ok-tally.tally c.args.container.now.faults c.run_turns.new.container.faults c.in_ok-tally.ensures.takes c.as_boot.ensures.value c.in_ok-text.ensures
