use Rattle.std.proofs.Common.{◌≡◌, IfErr, sym, subst}
use Rattle.boot_core.specs.declared.refusals.StartRefusal.TheVariants.{KeeperFailed}
use Rattle.container_core.specs.Start.{IsRefusedStart}
use Rattle.container_server.specs.Running.{EndedOver, seen}
use Rattle.container_server.proofs.Running.{over_refused, seen_same}
use Rattle.outside.specs.Faults.{Rose}
use Rattle.service_log.specs.declared.ending.ServiceEnd.{ServiceEnd}
use Rattle.container_server.proofs.serve.go_on.Goals as goal

pub returns-in-Some-clause-ended : goal.returns-in-Some-clause-ended
returns-in-Some-clause-ended g c =
    let kept = c.into_keeper.ensures in
    seen_same c.args.container.told (g.K.Keeper.told c.into_keeper.result) c.args.container.faults (g.K.Keeper.faults c.into_keeper.result) kept.told kept.faults

pub returns-in-Err-clause-ended : goal.returns-in-Err-clause-ended
returns-in-Err-clause-ended g c =
    let fail = c.in-Err.fail in
    let same = c.unstarted.ensures in
    let old = seen c.args.container.told c.args.container.faults in
    let new = seen (g.K.Keeper.told fail.keeper) (g.K.Keeper.faults fail.keeper) in
    let did = c.reopen-opened.ensures in
    let refused = subst (λ r. IfErr r (λ fail. IsRefusedStart fail.refusal c.args.container.told (g.K.Keeper.told fail.keeper))) c.in-Err.is did.refused in
    let failed = subst (λ r. IfErr r (λ fail. fail.refusal ≡ KeeperFailed → Rose c.args.container.faults (g.K.Keeper.faults fail.keeper))) c.in-Err.is did.failed in
    subst (λ k. EndedOver c.unstarted.result.end old (seen (g.K.Keeper.told k) (g.K.Keeper.faults k))) (sym same.keeper)
    (subst (λ (e : ServiceEnd). EndedOver e old new) (sym same.end) (over_refused fail.refusal old new refused failed))
