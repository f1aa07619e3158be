use Rattle.std.proofs.Common.{◌≡◌, ◌∙◌, ◌≤◌, IfErr, IfOk, MatchResult, sym, subst, ap}
use Rattle.boot_core.specs.declared.refusals.StartRefusal.TheVariants.{KeeperFailed}
use Rattle.container_core.specs.Start.{IsRefusedStart, IsStarted}
use Rattle.outside.specs.Faults.{Rose}
use Rattle.scenario_engine.specs.KeeperCalls.{KeeperSeen, seen}
use Rattle.scenario_engine.specs.Opening.{Opened}
use Rattle.scenario_engine.specs.Running.{started, reopened_over}
use Rattle.scenario_engine.specs.State.{RunningState}
use Rattle.std.specs.Prelude.{is_some}
use Rattle.container_core.specs.Container.{ContainerValue}
use Rattle.seat_lines.specs.Giving.{sessions_given_back, without_seats}
use Rattle.seat_lines.specs.Site.{SeatsState}
use Rattle.scenario_engine.specs.Telling.{Opens, FailsToOpen, failure_of}
use Rattle.scenario_engine.specs.declared.failure.LineFailure.{LineFailure}
use Rattle.scenario_engine.proofs.Starting.{reopened_so, not_reopened_so}
use Rattle.scenario_engine.proofs.running.Running.reopen.Goals as goal
use Rattle.component_pool.specs.Plans.{left_by_process}

pub returns-in-Ok-clause-opens : goal.returns-in-Ok-clause-opens
returns-in-Ok-clause-opens g c =
    let parts = c.into_parts-container.result in
    let old = c.give_back-sessions.new.container in
    let same : old ≡ parts.container = c.give_back-sessions.ensures.same in
    let boot : old.boot ≡ c.args.self.running.boot = ap (λ (k : ContainerValue). k.boot) same ∙ c.into_parts-container.ensures.boot in
    let keeper : seen old.told old.faults ≡ c.args.self.keeper = ap (λ (k : ContainerValue). seen k.told k.faults) same ∙ c.into_parts-container.ensures.keeper in
    let k = c.in-Ok.container in
    let did = c.reopen-opened.ensures in
    let is = subst (λ r. IfOk r (λ k. IsStarted old.boot.start.deployment (left_by_process old.boot.start.plans) old.boot.start.limits old.told k)) c.in-Ok.is did.started in
    let count = subst (λ r. MatchResult r (λ k. old.faults ≤ k.faults) (λ fail. old.faults ≤ g.K.Keeper.faults fail.keeper)) c.in-Ok.is did.count in
    let h = reopened_so old k c.args.self.running.boot c.args.self.keeper boot keeper is.opened count in
    let over = c.over.ensures.started h.0 h.1 is.since in
    let P : KeeperSeen → Type 0 = λ n. Opens c.args.self.running.boot.start.deployment (left_by_process c.args.self.running.boot.start.plans) c.args.self.running.boot.start.limits (Opened h.0) c.args.self.keeper n in
    let r : RunningState = c.args.self.running in
    let sessions : c.give_back-sessions.result ≡ sessions_given_back r.seats.seats r.sessions =
    c.give_back-sessions.ensures.sessions
    ∙ ap (λ (s : SeatsState). sessions_given_back s.seats parts.sessions) c.into_parts-container.ensures.seats
    ∙ ap (sessions_given_back r.seats.seats) c.into_parts-container.ensures.sessions in
    let seats : c.give_back-sessions.new.self ≡ without_seats r.seats = c.give_back-sessions.ensures.seats ∙ ap without_seats c.into_parts-container.ensures.seats in
    let next : c.over.result.running ≡ reopened_over r h.0 =
    over
    ∙ ap (λ s. started s c.give_back-sessions.new.self (is_some parts.router) h.0) sessions
    ∙ ap (λ s. started (sessions_given_back r.seats.seats r.sessions) s (is_some parts.router) h.0) seats
    ∙ ap (λ b. started (sessions_given_back r.seats.seats r.sessions) (without_seats r.seats) b h.0) c.into_parts-container.ensures.router in
    (h.0, next, subst P (sym c.over.ensures.keeper) h.2)

pub returns-in-Err-clause-opens : goal.returns-in-Err-clause-opens
returns-in-Err-clause-opens g c =
    let boot = c.args.self.running.boot in
    let f = c.in-Err.fail in
    let new : KeeperSeen = seen (g.K.Keeper.told f.keeper) (g.K.Keeper.faults f.keeper) in
    let after : KeeperSeen = seen (g.K.Keeper.told c.not_opened.result.keeper) (g.K.Keeper.faults c.not_opened.result.keeper) in
    let same : after ≡ new = ap (λ k. seen (g.K.Keeper.told k) (g.K.Keeper.faults k)) c.not_opened.ensures.keeper in
    let P : LineFailure → Type 0 = λ e. FailsToOpen e boot.start.deployment (left_by_process boot.start.plans) boot.start.limits c.args.self.keeper after in
    let Q : KeeperSeen → Type 0 = λ k. FailsToOpen (failure_of f.refusal) boot.start.deployment (left_by_process boot.start.plans) boot.start.limits c.args.self.keeper k in
    let old = c.give_back-sessions.new.container in
    let is : old ≡ c.into_parts-container.result.container = c.give_back-sessions.ensures.same in
    let same_boot : old.boot ≡ boot = ap (λ (k : ContainerValue). k.boot) is ∙ c.into_parts-container.ensures.boot in
    let keeper : seen old.told old.faults ≡ c.args.self.keeper = ap (λ (k : ContainerValue). seen k.told k.faults) is ∙ c.into_parts-container.ensures.keeper in
    let did = c.reopen-opened.ensures in
    let refused = subst (λ r. IfErr r (λ fail. IsRefusedStart fail.refusal old.told (g.K.Keeper.told fail.keeper))) c.in-Err.is did.refused in
    let count = subst (λ r. MatchResult r (λ k. old.faults ≤ k.faults) (λ fail. old.faults ≤ g.K.Keeper.faults fail.keeper)) c.in-Err.is did.count in
    let failed = subst (λ r. IfErr r (λ fail. fail.refusal ≡ KeeperFailed → Rose old.faults (g.K.Keeper.faults fail.keeper))) c.in-Err.is did.failed in
    let fails = not_reopened_so old boot c.args.self.keeper new f.refusal same_boot keeper refused count failed in
    subst P (sym c.not_opened.ensures.failure) (subst Q (sym same) fails)
