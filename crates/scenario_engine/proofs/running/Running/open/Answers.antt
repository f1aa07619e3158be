use Rattle.std.proofs.Common.{◌≡◌, ◌∙◌, sym, subst, ap}
use Rattle.std.specs.Prelude.{is_some}
use Rattle.seat_lines.specs.Site.{no_seats}
use Rattle.scenario_engine.specs.Running.{started}
use Rattle.scenario_engine.specs.KeeperCalls.{KeeperSeen, seen}
use Rattle.scenario_engine.specs.Opening.{Opened}
use Rattle.scenario_engine.specs.Telling.{Opens, FailsToOpen, failure_of}
use Rattle.scenario_engine.specs.declared.failure.LineFailure.{LineFailure}
use Rattle.scenario_engine.proofs.Starting.{opened, not_opened, unopened_at_once}
use Rattle.scenario_engine.proofs.running.Running.open.Goals as goal

pub returns-in_default-clause-opens : goal.returns-in_default-clause-opens
returns-in_default-clause-opens g c = unopened_at_once (seen (g.K.Keeper.told c.args.keeper) (g.K.Keeper.faults c.args.keeper))

pub returns-in-Ok-start-clause-opens : goal.returns-in-Ok-start-clause-opens
returns-in-Ok-start-clause-opens g c =
    let old = seen (g.K.Keeper.told c.args.keeper) (g.K.Keeper.faults c.args.keeper) in
    let k = c.in-Ok-start.opened in
    let new = seen k.told k.faults in
    let h = opened c.args.deployment c.args.plans c.args.limits old new k.boot c.in-Ok-start.ensures.started.opened c.in-Ok-start.ensures.count in
    let P : KeeperSeen → Type 0 = λ n. Opens c.args.deployment c.args.plans c.args.limits (Opened h.0) old n in
    let none : c.over.result.running ≡ started c.args.sessions (no_seats c.args.deployment) (is_some c.args.router) h.0 =
    c.over.ensures.started h.0 h.1 c.in-Ok-start.ensures.started.since ∙ ap (λ s. started c.args.sessions s (is_some c.args.router) h.0) c.in-Ok.ensures.state in
    (h.0, none, subst P (sym c.over.ensures.keeper) h.2)

pub returns-in-Err-clause-opens : goal.returns-in-Err-clause-opens
returns-in-Err-clause-opens g c =
    let old : KeeperSeen = seen (g.K.Keeper.told c.args.keeper) (g.K.Keeper.faults c.args.keeper) in
    let f = c.in-Err.fail in
    let new : KeeperSeen = seen (g.K.Keeper.told f.keeper) (g.K.Keeper.faults f.keeper) in
    let after : KeeperSeen = seen (g.K.Keeper.told c.not_opened.result.keeper) (g.K.Keeper.faults c.not_opened.result.keeper) in
    let same : after ≡ new = ap (λ k. seen (g.K.Keeper.told k) (g.K.Keeper.faults k)) c.not_opened.ensures.keeper in
    let P : LineFailure → Type 0 = λ e. FailsToOpen e c.args.deployment c.args.plans c.args.limits old after in
    let Q : KeeperSeen → Type 0 = λ k. FailsToOpen (failure_of f.refusal) c.args.deployment c.args.plans c.args.limits old k in
    subst P (sym c.not_opened.ensures.failure) (subst Q (sym same) (not_opened c.args.deployment c.args.plans c.args.limits old new f.refusal c.in-Err.ensures.refused c.in-Err.ensures.count c.in-Err.ensures.failed))
