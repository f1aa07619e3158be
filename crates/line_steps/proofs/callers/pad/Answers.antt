use Rattle.std.proofs.Common.{◌≡◌, ◌≤◌, length, sym, ap, ◌∙◌, subst, arith, List, ◌++◌, ◌∷◌, []}
use Rattle.boot_core.specs.Boot.{BootValue}
use Rattle.line_steps.specs.declared.callers.Caller.{Caller}
use Rattle.line_steps.specs.declared.callers.Caller.TheVariants.{Absent}
use Rattle.line_steps.specs.Callers.{padded, AllFit}
use Rattle.line_steps.proofs.Fitting.{padded_more, fit_more}
use Rattle.line_steps.proofs.callers.pad.Goals as goal

pub loop-callers-preserved : goal.loop-callers-preserved
loop-callers-preserved c =
    let callers : List Caller = c.loop-callers.callers.items in
    let below : length callers ≤ c.args.number = omega (arith, c.loop-callers-test.true) in
    let more : c.push.new.self.items ≡ callers ++ Absent ∷ [] = c.in_ok-push.ensures.items in
    let P : BootValue → List Caller → Type 0 = λ k cs. AllFit k cs in (
      ap (λ cs. padded cs c.args.number) more ∙ padded_more callers c.args.number below ∙ c.loop-callers.invariant.0,
      λ k all. subst (P k) (sym more) (fit_more k callers (c.loop-callers.invariant.1 k all)),
    )
