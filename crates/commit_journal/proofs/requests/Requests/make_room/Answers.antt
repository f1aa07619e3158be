use Rattle.std.proofs.Common.{List, length, ap, arith}
use Rattle.commit_journal.specs.declared.made.Made.{Made}
use Rattle.commit_journal.proofs.LateOnes.{made_kept}
use Rattle.commit_journal.proofs.requests.Requests.make_room.Goals as goal

pub returns-then-len-ge-MOST_LATE-clause-free : goal.returns-then-len-ge-MOST_LATE-clause-free
returns-then-len-ge-MOST_LATE-clause-free c = omega (arith, ap (λ (xs : List Made). length xs) c.merge.ensures.none)

pub returns-else-len-ge-MOST_LATE-clause-kept : goal.returns-else-len-ge-MOST_LATE-clause-kept
returns-else-len-ge-MOST_LATE-clause-kept c = made_kept c.args.self.now c.requires.order
