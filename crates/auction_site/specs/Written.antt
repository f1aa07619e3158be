-- What the writes of actions spell.
use Rattle.std.specs.Prelude.{List, All}
use Rattle.crash_base.specs.declared.rows.RowWrite.{RowWrite}
use Rattle.auction_rows.specs.declared.rows.AuctionRow.{AuctionRow}
use Rattle.auction_rows.specs.Bounds.{AreBytes, Spells}

-- the bytes of each row are numbers that bytes may be
abbrev pub HaveBytes : List RowWrite → Type 0
HaveBytes rows = All (λ (r : RowWrite). AreBytes r.bytes) rows

-- a write spells a row of its table
abbrev pub SpellsARow : RowWrite → Type 0
SpellsARow w = (row : AuctionRow) × Spells w.id.table w.bytes row
