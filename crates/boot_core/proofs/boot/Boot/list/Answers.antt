use Rattle.std.proofs.Common.{sym, ap, ◌∙◌, subst}
use Rattle.call_ticket.specs.Ticket.{TicketValue}
use Rattle.journal_model.specs.Calls.{listed}
use Rattle.journal_model.specs.Snapshots.{snapshot}
use Rattle.row_store.proofs.Noting.{journal_all}
use Rattle.boot_core.specs.Boot.{BootValue}
use Rattle.boot_core.specs.Fits.{FitsIn}
use Rattle.boot_core.proofs.Fitting.{fits_listing}
use Rattle.boot_core.proofs.boot.Boot.list.Goals as goal

pub returns-clause-value : goal.returns-clause-value
returns-clause-value c =
    let at = c.args.ticket.now.call.at.0 in
    let same = journal_all c.self.inside.rows c.self.inside.rows.base c.self.inside.journal.entries at c.self.invariant.noted ∙ ap (λ (v : BootValue). snapshot v.start.base v.entries at) c.self.view_is in
    c.in_ok-rows.ensures.value ∙ ap (λ rows. listed rows c.args.ticket.now.call.writes c.args.table) same

pub returns-clause-fits : goal.returns-clause-fits
returns-clause-fits c =
    let P : TicketValue → Type 0 = λ t. FitsIn c.args.self.now t.call in
    subst P (sym c.in_ok-rows.ensures.ok) (fits_listing c.args.self.now c.args.ticket.now.call c.args.table c.requires.fits)
