use Rattle.memory_site.proofs.Refusing.{refused_by_journal}
use Rattle.memory_site.proofs.happening.commit_call.Goals as goal

pub returns-in-Ok-clause-whether : goal.returns-in-Ok-clause-whether
returns-in-Ok-clause-whether c =
    refused_by_journal c.args.request c.args.worker c.args.container.now c.begin.new.self c.commit.new.self c.in-Ok.ticket c.in-Err-commit.refused.cause
    c.begin.ensures.same c.in-Ok.ensures.begun c.in-Err-commit.ensures.answer c.in-Err-commit.ensures.leaves.1
    (λ want. let yes = c.is_commit_without_memory.ensures.1 want in let no = c.if-is_commit_without_memory.false in absurd (cc))
