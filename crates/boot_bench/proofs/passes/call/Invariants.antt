use Rattle.boot_core.specs.Fits.{FitsIn}
use Rattle.boot_bench.proofs.passes.call.Given as goal

abbrev pub invariant-loop-pass : goal.invariant-loop-pass
invariant-loop-pass l = FitsIn l.container.boot l.ticket.call
