-- Calls go on in a boot that grows.
use Rattle.std.proofs.Common.{◌≡◌, sym, subst}
use Rattle.call_ticket.specs.Access.{is_in_owner}
use Rattle.call_ticket.specs.Ticket.{TicketValue}
use Rattle.boot_core.specs.Boot.{BootValue, HasGrown}
use Rattle.boot_core.specs.declared.boot.Start.{Start}
use Rattle.boot_core.proofs.Fitting.{fits_grown}
use Rattle.workload.specs.Turns.{own_table}
use Rattle.workload.specs.Working.{GoesOn}
use Rattle.std.specs.Prelude.{true}

pub goes_grown : (old new : BootValue) (ticket : TicketValue) → HasGrown old new → GoesOn old ticket → GoesOn new ticket
goes_grown old new ticket grown goes =
    let P : Start → Type 0 = λ s. is_in_owner s.deployment ticket.call (own_table s.deployment ticket.call) ≡ true in
    record { fits = fits_grown old new ticket.call grown goes.fits; inside = subst P (sym grown.start) goes.inside }
