-- What a call finds in a row that it has not put.
use Rattle.std.proofs.Common.{◌≡◌, List, ℕ, Option, Result, false, Ok, Err, refl, sym, ap, ◌∙◌}
use Rattle.std.specs.Prelude.{IfOk, OnOk}
use Rattle.crash_base.specs.declared.memory.OutOfMemory.{OutOfMemory}
use Rattle.crash_base.specs.declared.row_id.RowId.{RowId}
use Rattle.crash_base.specs.declared.rows.RowWrite.{RowWrite}
use Rattle.crash_base.specs.Rows.{row_in}
use Rattle.call_ticket.specs.Ticket.{TicketValue}
use Rattle.journal_model.specs.declared.entry.ReadMark.TheVariants.{Row}
use Rattle.journal_model.specs.Calls.{is_put, seen}
use Rattle.boot_core.specs.Steps.{ticket_marked, ticket_has_read}

pub seen_found : (rows writes : List RowWrite) (id : RowId) (found : Option (List ℕ)) (result : Result (Option (List ℕ)) OutOfMemory) → is_put writes id ≡ false → row_in rows id ≡ found → IfOk result (λ v. v ≡ found) → IfOk result (λ v. v ≡ seen rows writes id)
seen_found rows writes id found (Ok v) other is here = here ∙ sym is ∙ rw other refl
seen_found rows writes id found (Err e) other is here = here

pub read_found_row : (rows : List RowWrite) (id : RowId) (old new : TicketValue) (found : Option (List ℕ)) (result : Result (Option (List ℕ)) OutOfMemory) → is_put old.call.writes id ≡ false → row_in rows id ≡ found → OnOk result (new ≡ ticket_marked (Row id) found old) → OnOk result (new ≡ ticket_has_read rows id old)
read_found_row rows id old new found (Ok v) other is here = here ∙ ap (λ f. ticket_marked (Row id) f old) (sym is) ∙ rw other refl
read_found_row rows id old new found (Err e) other is here = here
