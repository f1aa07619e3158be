use Rattle.std.proofs.Common.{sym, subst}
use Rattle.call_ticket.specs.Ticket.{TicketValue}
use Rattle.boot_core.specs.Fits.{FitsIn}
use Rattle.boot_core.proofs.Fitting.{fits_putting}
use Rattle.boot_core.proofs.boot.Boot.put.Goals as goal

pub returns-clause-fits : goal.returns-clause-fits
returns-clause-fits c =
    let P : TicketValue → Type 0 = λ t. FitsIn c.args.self.now t.call in
    subst P (sym c.add_put.ensures) (fits_putting c.args.self.now c.args.ticket.now.call c.args.write c.requires.fits c.requires.write c.requires.owner)
