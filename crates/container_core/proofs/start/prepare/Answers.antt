use Rattle.std.proofs.Common.{◌≡◌, [], ◌∷◌, ◌++◌, All, sym, subst}
use Rattle.std.proofs.lemmas.List.Elements.{All-get_or}
use Rattle.call_ticket.specs.Within.{IsShortWrite}
use Rattle.container_core.specs.Start.{boot_row}
use Rattle.container_core.proofs.Starting.{raised_short}
use Rattle.container_core.proofs.start.prepare.Goals as goal

pub begin-requires : goal.begin-requires
begin-requires c = λ k d within.
    let rows = c.args.rows in
    let n = c.in_ok-number.number in
    let base : c.raise.new.rows ≡ rows ++ boot_row n ∷ [] = c.in_ok-number.ensures.3 in
    let short : All IsShortWrite c.raise.new.rows = subst (All IsShortWrite) (sym base) (raised_short rows n c.in_ok-number.ensures.0) in
    All-get_or IsShortWrite c.raise.new.rows k d within short
