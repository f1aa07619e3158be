use Rattle.std.proofs.Common.{subst, sym}
use Rattle.boot_core.specs.declared.refusals.StartRefusal.{StartRefusal}
use Rattle.container_core.specs.Start.{AreGood, IsRefusedStart}
use Rattle.container_core.proofs.Starting.{given, refused_number}
use Rattle.container_core.proofs.start.open.Goals as goal

pub returns-in-Err-apply-clause-opens : goal.returns-in-Err-apply-clause-opens
returns-in-Err-apply-clause-opens g c =
    let old = g.K.Keeper.told c.args.keeper.now in
    let held = g.K.Keeper.told c.load.new.self in
    let new = g.K.Keeper.told c.apply.new.self in
    let rows = c.in-Ok.rows in
    let good : AreGood old rows = record {
      given = given old rows c.in-Ok.ensures.rows c.in-Ok.ensures.ordered;
      good = c.in_ok-prepared.ensures.0;
      unspent = c.in_ok-prepared.ensures.1;
    } in
    let P : StartRefusal → Type 0 = λ refusal. IsRefusedStart refusal old new in
    subst P (sym c.refusal_of-in-Err-apply.ensures) (refused_number c.in-Err-apply.fault rows old held new good c.in-Ok.ensures.ok c.in-Err-apply.ensures.err)
