use Rattle.std.proofs.Common.{rules}
use Rattle.outside.proofs.serials.PlainSerialsSerials.draw.Goals as goal

pub returns-then-self-lt-SERIALS_END-clause-after :
    goal.returns-then-self-lt-SERIALS_END-clause-after
returns-then-self-lt-SERIALS_END-clause-after c = search rules
