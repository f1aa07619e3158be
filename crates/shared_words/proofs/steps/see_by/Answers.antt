use Rattle.std.proofs.Common.{arith}
use mathlib.Core.Option.{none}
use Rattle.atomic_table.specs.Table.{step}
use Rattle.shared_words.proofs.Rules.{sees}
use Rattle.shared_words.proofs.steps.see_by.Goals as goal

pub load-requires : goal.load-requires
load-requires g c = (
  c.requires.table.0,
  omega (arith, c.requires.table.1),
  sees c.args.table.now.shared.key.groups c.args.table.now.shared.key.parts g.C.Count.count c.args.table.now.shared.table_id.slots c.args.seat.now.id c.args.seat.now.me (step c.args.table.now.shared.table_id.slots 0 0 0 none) c.requires.count c.requires.some.0 c.requires.some.1,
)
