use Rattle.brick_store.specs.History.{held}
use Rattle.brick_store.proofs.Limits.{full_at}
use Rattle.brick_store.proofs.laws.limits_fill_bricks.Goals as goal

pub returns-clause-full : goal.returns-clause-full
returns-clause-full c = λ first h b s stands few. full_at s b.kept (held h s.key s.version) stands.in_order few (stands.pairs s.key s.version)
