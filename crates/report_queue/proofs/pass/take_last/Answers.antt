use Rattle.std.proofs.Common.{◌≡◌}
use Rattle.std.proofs.lemmas.List.Elements.{All-pop}
use Rattle.report_queue.proofs.pass.take_last.Goals as goal

pub returns-clause-queue : goal.returns-clause-queue
returns-clause-queue g c = λ queue knows all. All-pop (λ pass. pass ≡ record { queue = queue; knows = knows }) _ _ _ c.pop.ensures.items all
