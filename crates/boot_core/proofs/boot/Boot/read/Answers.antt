use Rattle.std.proofs.Common.{◌≤◌, List, sym, ap, ◌∙◌, subst}
use Rattle.call_ticket.specs.Ticket.{TicketValue}
use Rattle.crash_base.specs.declared.rows.RowWrite.{RowWrite}
use Rattle.crash_base.specs.declared.rows.TheConstants.{MAX_ROW_BYTES}
use Rattle.crash_base.specs.Rows.{row_in}
use Rattle.journal_model.specs.Calls.{seen}
use Rattle.journal_model.specs.Limits.{value_bytes}
use Rattle.journal_model.specs.Snapshots.{snapshot}
use Rattle.row_store.proofs.Noting.{journal_all}
use Rattle.boot_core.specs.Boot.{BootValue}
use Rattle.boot_core.specs.Fits.{FitsIn}
use Rattle.boot_core.specs.Steps.{ticket_has_read}
use Rattle.boot_core.proofs.Fitting.{fits_reading}
use Rattle.boot_core.proofs.Short.{short_row}
use Rattle.boot_core.proofs.boot.Boot.read.Goals as goal

pub read_row-requires-clause-short : goal.read_row-requires-clause-short
read_row-requires-clause-short c =
    let at = c.args.ticket.now.call.at.0 in
    let P : List RowWrite → Type 0 = λ rows. value_bytes (row_in rows c.args.id) ≤ MAX_ROW_BYTES in
    subst P (sym (journal_all c.self.inside.rows c.self.inside.rows.base c.self.inside.journal.entries at c.self.invariant.noted)) (short_row c.self.inside.rows.base c.self.inside.journal.entries at c.args.id c.self.invariant.short c.self.invariant.sound.legal)

pub returns-clause-value : goal.returns-clause-value
returns-clause-value c =
    let at = c.args.ticket.now.call.at.0 in
    let same = journal_all c.self.inside.rows c.self.inside.rows.base c.self.inside.journal.entries at c.self.invariant.noted ∙ ap (λ (v : BootValue). snapshot v.start.base v.entries at) c.self.view_is in
    c.in_ok-value.ensures.value ∙ ap (λ rows. seen rows c.args.ticket.now.call.writes c.args.id) same

pub returns-clause-read : goal.returns-clause-read
returns-clause-read c =
    let at = c.args.ticket.now.call.at.0 in
    let same = journal_all c.self.inside.rows c.self.inside.rows.base c.self.inside.journal.entries at c.self.invariant.noted ∙ ap (λ (v : BootValue). snapshot v.start.base v.entries at) c.self.view_is in
    c.in_ok-value.ensures.ok ∙ ap (λ rows. ticket_has_read rows c.args.id c.args.ticket.now) same

pub returns-clause-fits : goal.returns-clause-fits
returns-clause-fits c =
    let P : TicketValue → Type 0 = λ t. FitsIn c.args.self.now t.call in
    subst P (sym (returns-clause-read c)) (fits_reading c.args.self.now c.args.ticket.now.call c.args.id c.requires.fits)
