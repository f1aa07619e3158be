use Rattle.std.proofs.Common.{◌≡◌}
use Rattle.crash_base.specs.Rows.{put_all}
use Rattle.row_store.specs.Index.{EachRises, rows_seen}
use Rattle.row_store.proofs.scans.put_each.Given as goal

abbrev pub invariant-loop-entry : goal.invariant-loop-entry
invariant-loop-entry l = record {
  rise : EachRises l.entry-iterator;
  listed : put_all (rows_seen l.base l.noted l.at.0 l.entry-iterator) l.rows ≡ put_all (rows_seen l.base l.noted l.at.0 l.fn.each) l.initial.rows;
}
