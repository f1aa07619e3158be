use Rattle.auction_site.proofs.WrittenRows.{call_writes_rows, rows_after_have_bytes}
use Rattle.auction_site.proofs.shop_laws.writes_are_rows.Goals as goal

pub returns-clause-spelled : goal.returns-clause-spelled
returns-clause-spelled c = call_writes_rows

pub returns-clause-bytes : goal.returns-clause-bytes
returns-clause-bytes c = rows_after_have_bytes
