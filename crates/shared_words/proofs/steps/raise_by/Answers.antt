use Rattle.std.proofs.Common.{arith, refl, ◌+◌}
use mathlib.Core.Option.{none}
use Rattle.atomic_table.specs.Table.{step}
use Rattle.shared_words.proofs.Rules.{raises}
use Rattle.shared_words.proofs.steps.raise_by.Goals as goal

pub fetch_max-requires : goal.fetch_max-requires
fetch_max-requires g c = (
  c.requires.table.0,
  omega (arith, c.requires.table.1, c.requires.group.0),
  raises c.args.table.now.shared.key.groups c.args.table.now.shared.key.parts g.C.Count.count c.args.table.now.shared.table_id.slots c.args.seat.now.id c.args.g.0 c.args.seat.now.me (step c.args.table.now.shared.table_id.slots (1 + c.args.g.0) c.args.n 0 none) c.requires.count c.requires.group.0 c.requires.group.1 refl,
)

pub returns-clause-seen : goal.returns-clause-seen
returns-clause-seen g c = (c.fetch_max.ensures.2 c.args.g.0 refl).0

pub returns-clause-found : goal.returns-clause-found
returns-clause-found g c = (c.fetch_max.ensures.2 c.args.g.0 refl).1
