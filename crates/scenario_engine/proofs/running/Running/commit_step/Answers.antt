use Rattle.std.specs.Prelude.{is_some}
use Rattle.scenario_engine.proofs.Going.{runs_grown}
use Rattle.std.proofs.Common.{string_bytes, subst}
use Rattle.container_core.specs.Container.{ContainerValue}
use Rattle.line_steps.specs.Callers.{FitsCaller}
use Rattle.line_steps.specs.declared.callers.Caller.{Caller}
use Rattle.line_steps.proofs.Fitting.{fit_at, fit_ended}
use Rattle.scenario_text.specs.Answer.{Done}
use Rattle.scenario_engine.specs.KeeperCalls.{seen}
use Rattle.scenario_engine.specs.State.{RunningValue}
use Rattle.scenario_engine.specs.Telling.{Commits, CommitsPartly}
use Rattle.scenario_engine.proofs.Committing.{asked_of, refused_in, refused_partly}
use Rattle.scenario_engine.proofs.Rebooting.{run_of}
use Rattle.scenario_engine.proofs.running.Running.commit_step.Goals as goal

pub commit-requires-after_bounds : goal.commit-requires-after_bounds
commit-requires-after_bounds g c κs within =
    subst (λ (a : Caller). FitsCaller c.self.inside.container.boot a) c.in-Some.ensures.live (fit_at c.self.inside.container.boot c.self.inside.callers c.args.caller c.self.invariant.fits)

pub invariant_of-self-in-Ok-commit : goal.invariant_of-self-in-Ok-commit
invariant_of-self-in-Ok-commit g c =
    runs_grown c.self.inside.container c.commit.new.self c.self.inside.callers c.take.new.self c.self.inside.seats _ c.commit.ensures.grown c.stay.ensures
    (fit_ended c.self.inside.container.boot c.commit.new.self.boot c.self.inside.callers c.take.new.self c.args.caller c.in-Some.ensures.taken c.commit.ensures.grown.boot c.self.invariant.fits)
    c.self.invariant

pub invariant_of-self-in-Ok-commit_refusal_text : goal.invariant_of-self-in-Ok-commit_refusal_text
invariant_of-self-in-Ok-commit_refusal_text g c =
    runs_grown c.self.inside.container c.commit.new.self c.self.inside.callers c.take.new.self c.self.inside.seats _ c.commit.ensures.grown c.stay.ensures
    (fit_ended c.self.inside.container.boot c.commit.new.self.boot c.self.inside.callers c.take.new.self c.args.caller c.in-Some.ensures.taken c.commit.ensures.grown.boot c.self.invariant.fits)
    c.self.invariant

pub invariant_of-self-in-Some : goal.invariant_of-self-in-Some
invariant_of-self-in-Some g c =
    runs_grown c.self.inside.container c.commit.new.self c.self.inside.callers c.take.new.self c.self.inside.seats _ c.commit.ensures.grown c.stay.ensures
    (fit_ended c.self.inside.container.boot c.commit.new.self.boot c.self.inside.callers c.take.new.self c.args.caller c.in-Some.ensures.taken c.commit.ensures.grown.boot c.self.invariant.fits)
    c.self.invariant

pub returns-in-Ok-commit_refusal_text-clause-answer : goal.returns-in-Ok-commit_refusal_text-clause-answer
returns-in-Ok-commit_refusal_text-clause-answer g c =
    let k : ContainerValue = c.self.inside.container in
    let n : ContainerValue = c.commit.new.self in
    let text = string_bytes c.in-Ok-commit_refusal_text.text in
    let cause = c.in-Err-commit.refused.cause in
    let P : RunningValue → Type 0 = λ v. Commits v.running c.args.caller (Done (run_of n c.take.new.self c.self.inside.sessions c.self.inside.seats (is_some c.self.inside.router)) text) v.keeper (seen n.told n.faults) in
    subst P c.self.view_is (refused_in k n c.self.inside.callers c.take.new.self c.self.inside.sessions c.self.inside.seats (is_some c.self.inside.router) c.args.caller c.in-Some.ticket cause text c.in-Some.ensures.live c.in-Ok-commit_refusal_text.ensures.memory c.in-Err-commit.ensures.answer c.in-Err-commit.ensures.leaves c.commit.ensures.count c.in-Err-commit.ensures.failed c.in-Some.ensures.taken c.in-Ok-commit_refusal_text.ensures.text)

pub returns-clause-answer : goal.returns-clause-answer
returns-clause-answer g c =
    let k : ContainerValue = c.self.inside.container in
    let n : ContainerValue = c.commit.new.self in
    let cause = c.in-Err-commit.refused.cause in
    let P : RunningValue → Type 0 = λ v. CommitsPartly v.running c.args.caller v.keeper (seen n.told n.faults) in
    subst P c.self.view_is (refused_partly (run_of k c.self.inside.callers c.self.inside.sessions c.self.inside.seats (is_some c.self.inside.router)) c.args.caller c.in-Some.ticket cause (seen k.told k.faults) (seen n.told n.faults) c.in-Some.ensures.live c.in-Err-commit.ensures.answer (asked_of cause c.in-Some.ticket.call k n c.in-Err-commit.ensures.leaves c.commit.ensures.count c.in-Err-commit.ensures.failed))
