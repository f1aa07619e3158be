use Rattle.std.proofs.Common.{string_bytes, ◌≡◌, inl, Ok, Err, None, ap, sym, ◌∙◌, subst, refl}
use Rattle.deployment.proofs.Growing.{none_of_nothing}
use Rattle.deployment.specs.Refusals.{deploy_refusal}
use Rattle.line_steps.specs.declared.head.Head.{Head}
use Rattle.line_steps.specs.Head.{no_head, IsOfSite}
use Rattle.line_steps.specs.Texts.{boot_text}
use Rattle.scenario_text.specs.declared.answer.LineAnswer.TheVariants as answers
use Rattle.scenario_text.specs.declared.line.Line.TheVariants as lines
use Rattle.scenario_engine.specs.declared.failure.LineFailure.TheVariants as failures
use Rattle.scenario_engine.specs.Engine.{IsAccepted, value_of}
use Rattle.scenario_engine.specs.KeeperCalls.{seen}
use Rattle.scenario_engine.specs.State.{EngineValue}
use Rattle.scenario_engine.proofs.Stepping.{LineEnded, heading, in_run, in_the_head, reopened, reopened_partly, reopen_ends, placed, moved}
use Rattle.scenario_engine.proofs.engine.Engine.reopen.Goals as goal
use Rattle.scenario_engine.proofs.engine.Engine.reopen.Goals.{in-Ok-boot_text, in-Err-boot_text}

pub returns-in-Head-clause-answer : goal.returns-in-Head-clause-answer
returns-in-Head-clause-answer g c =
    let value = value_of g.K.Keeper.told g.K.Keeper.faults in
    let k = seen (g.K.Keeper.told c.in-Head.keeper) (g.K.Keeper.faults c.in-Head.keeper) in
    let head = c.in-Head.head in
    let v : heading head k ≡ c.args.self.now = ap value (sym c.in-Head.is ∙ c.replace.ensures.value) ∙ c.self.view_is in
    let Q : EngineValue → Type 0 = λ w. LineEnded (Ok answers.Refused) w c.args.self.now lines.Reopen in
    subst Q (sym (ap value c.put.ensures)) (placed (Ok answers.Refused) (heading head k) c.args.self.now (heading head k) lines.Reopen lines.Reopen (in_the_head answers.Refused lines.Reopen head head k refl refl) v refl)

pub returns-after-boot_text-clause-answer : goal.returns-after-boot_text-clause-answer
returns-after-boot_text-clause-answer g c =
    let value = value_of g.K.Keeper.told g.K.Keeper.faults in
    let r = c.in-Run.running in
    let next = c.in-Ok.next in
    let v : in_run r ≡ c.args.self.now = ap value (sym c.in-Run.is ∙ c.replace.ensures.value) ∙ c.self.view_is in
    let h = c.in-Ok.ensures.opens in
    let Q : EngineValue → Type 0 = λ w. LineEnded c.match-boot_text.result w c.args.self.now lines.Reopen in
    subst Q (sym (ap value c.put-in-Ok.ensures)) (elim c.match-boot_text.branch [
      | in-Ok-boot_text w ↦ (
          let text = w.in-Ok-boot_text.ensures ∙ ap boot_text c.number-number.ensures in
          moved c.match-boot_text.result (Ok (answers.Wrote w.in-Ok-boot_text.text)) (in_run next) c.args.self.now (in_run r) lines.Reopen (reopened r.running next.running h.0 (string_bytes w.in-Ok-boot_text.text) r.keeper next.keeper h.1 h.2 text) w.result-is v)
      | in-Err-boot_text w ↦ moved c.match-boot_text.result (Err failures.OutOfMemory) (in_run next) c.args.self.now (in_run r) lines.Reopen (inl (reopened_partly r.running h.0 r.keeper next.keeper h.2)) w.result-is v
    ])

pub invariant_of-self-in-Err : goal.invariant_of-self-in-Err
invariant_of-self-in-Err g c =
    let P : Head → Type 0 = λ h. (deploy_refusal h.parts ≡ None) × IsOfSite h in
    subst (λ s. IsAccepted s) (sym c.put-in-Err.ensures) (subst P (sym c.new.ensures) (none_of_nothing no_head.parts refl refl refl, λ site. absurd (cc)))

pub returns-in-Err-clause-answer : goal.returns-in-Err-clause-answer
returns-in-Err-clause-answer g c =
    let value = value_of g.K.Keeper.told g.K.Keeper.faults in
    let r = c.in-Run.running in
    let u = c.in-Err.unopened in
    let k = seen (g.K.Keeper.told u.keeper) (g.K.Keeper.faults u.keeper) in
    let v : in_run r ≡ c.args.self.now = ap value (sym c.in-Run.is ∙ c.replace.ensures.value) ∙ c.self.view_is in
    let Q : EngineValue → Type 0 = λ w. LineEnded (Err u.failure) w c.args.self.now lines.Reopen in
    subst Q (sym (ap value c.put-in-Err.ensures)) (placed (Err u.failure) (heading c.new.result k) c.args.self.now (in_run r) lines.Reopen lines.Reopen (reopen_ends r.running u.failure r.keeper k c.in-Err.ensures.opens) v refl)
