use Rattle.std.proofs.Common.{arith}
use mathlib.Core.Option.{none}
use Rattle.atomic_table.specs.Table.{step}
use Rattle.shared_words.proofs.Rules.{draws}
use Rattle.shared_words.proofs.steps.draw_by.Goals as goal

pub fetch_add-requires : goal.fetch_add-requires
fetch_add-requires g c = (
  c.requires.table.0,
  omega (arith, c.requires.table.1),
  draws c.args.table.now.shared.key.groups c.args.table.now.shared.key.parts g.C.Count.count c.args.table.now.shared.table_id.slots c.args.seat.now.id c.args.seat.now.me (step c.args.table.now.shared.table_id.slots 0 1 0 none) c.requires.count c.requires.flying,
)
