use Rattle.std.proofs.Common.{◌≡◌, true, sym, ◌∙◌, ap, subst, refl, None}
use Rattle.deployment.specs.Refusals.{deploy_refusal}
use Rattle.deployment.proofs.Growing.{none_of_nothing}
use Rattle.line_steps.specs.declared.head.Head.{Head}
use Rattle.line_steps.specs.Head.{no_head, IsOfSite}
use Rattle.scenario_engine.specs.Engine.{IsAccepted, target_in, value_of}
use Rattle.scenario_engine.specs.KeeperCalls.{seen}
use Rattle.scenario_engine.specs.State.{EngineValue}
use Rattle.scenario_engine.specs.Telling.{FailsToReach, Reaches}
use Rattle.scenario_engine.proofs.Stepping.{heading, in_run, started_so, not_started_so, started_already}
use Rattle.scenario_engine.proofs.engine.Engine.start.Goals as goal

pub invariant_of-self-in-Err : goal.invariant_of-self-in-Err
invariant_of-self-in-Err g c =
    let P : Head → Type 0 = λ h. (deploy_refusal h.parts ≡ None) × IsOfSite h in
    subst (λ s. IsAccepted s) (sym c.put-in-Err.ensures) (subst P (sym c.new.ensures) (none_of_nothing no_head.parts refl refl refl, λ site. absurd (cc)))

pub returns-in-Ok-clause-starts : goal.returns-in-Ok-clause-starts
returns-in-Ok-clause-starts g c =
    let value = value_of g.K.Keeper.told g.K.Keeper.faults in
    let k = seen (g.K.Keeper.told c.in-Head.keeper) (g.K.Keeper.faults c.in-Head.keeper) in
    let v : heading c.in-Head.head k ≡ c.args.self.now = ap value (sym c.in-Head.is ∙ c.replace.ensures.value) ∙ c.self.view_is in
    let h = c.in-Ok.ensures.opens in
    let P : EngineValue → Type 0 = λ w. Reaches c.args.self.now.state true (target_in w.state) c.args.self.now.keeper w.keeper in
    subst P (sym (ap value c.put.ensures)) (started_so c.args.self.now c.in-Head.head k c.in-Ok.running h.0 v h.1 h.2)

pub returns-in-Err-clause-starts : goal.returns-in-Err-clause-starts
returns-in-Err-clause-starts g c =
    let value = value_of g.K.Keeper.told g.K.Keeper.faults in
    let k = seen (g.K.Keeper.told c.in-Head.keeper) (g.K.Keeper.faults c.in-Head.keeper) in
    let u = c.in-Err.unopened in
    let v : heading c.in-Head.head k ≡ c.args.self.now = ap value (sym c.in-Head.is ∙ c.replace.ensures.value) ∙ c.self.view_is in
    let P : EngineValue → Type 0 = λ w. FailsToReach u.failure c.args.self.now.state true c.args.self.now.keeper w.keeper in
    subst P (sym (ap value c.put-in-Err.ensures)) (not_started_so c.args.self.now c.in-Head.head k (seen (g.K.Keeper.told u.keeper) (g.K.Keeper.faults u.keeper)) u.failure v c.in-Err.ensures.opens)

pub returns-in-Run-clause-starts : goal.returns-in-Run-clause-starts
returns-in-Run-clause-starts g c =
    let value = value_of g.K.Keeper.told g.K.Keeper.faults in
    let r = c.in-Run.running in
    let v : in_run r ≡ c.args.self.now = ap value (sym c.in-Run.is ∙ c.replace.ensures.value) ∙ c.self.view_is in
    let P : EngineValue → Type 0 = λ w. Reaches c.args.self.now.state true (target_in w.state) c.args.self.now.keeper w.keeper in
    subst P (sym (ap value c.put-in-Run.ensures)) (started_already c.args.self.now r v)
