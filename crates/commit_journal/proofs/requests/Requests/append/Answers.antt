use Rattle.std.proofs.Common.{arith}
use Rattle.commit_journal.proofs.LateOnes.{made_last}
use Rattle.commit_journal.proofs.requests.Requests.append.Goals as goal

pub returns : goal.returns
returns c =
    made_last c.args.self.now c.push_reserved.new.self c.args.request c.args.place c.requires.order c.requires.last c.requires.absent c.push_reserved.ensures.items (omega (arith, c.push_reserved.ensures.capacity))
