use Rattle.std.proofs.Common.{List, subst, sym}
use Rattle.boot_core.specs.Boot.{BootValue}
use Rattle.line_steps.specs.declared.callers.Caller.{Caller}
use Rattle.line_steps.specs.Callers.{AllFit}
use Rattle.line_steps.proofs.callers.Callers.pad.Goals as goal

pub returns-in_err-pad-clause-fits : goal.returns-in_err-pad-clause-fits
returns-in_err-pad-clause-fits c =
    let P : BootValue → List Caller → Type 0 = λ b cs. AllFit b cs in
    λ b all. c.pad.ensures.fits b (subst (P b) (sym c.self.view_is) all)
