use Rattle.ssm_world.proofs.Nonces.{among_more}
use Rattle.ssm_world.proofs.ordered_nonces.add.Goals as goal

pub returns-clause-ok : goal.returns-clause-ok
returns-clause-ok c = among_more c.args.nonces.now c.insert.new.self c.key_of.result c.args.version c.key_of.ensures c.in_ok-insert.ensures.updates
