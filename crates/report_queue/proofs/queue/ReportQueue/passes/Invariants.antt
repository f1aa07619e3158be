use Rattle.std.proofs.Common.{◌≡◌, length}
use Rattle.report_queue.specs.Passes.{AreTo}
use Rattle.report_queue.proofs.queue.ReportQueue.passes.Given as goal

abbrev pub invariant-loop-made : goal.invariant-loop-made
invariant-loop-made g l = (length l.list ≡ l.made) × AreTo l.self g.P.Protocol.first l.list
