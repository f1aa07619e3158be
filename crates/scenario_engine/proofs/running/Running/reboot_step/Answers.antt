use Rattle.std.proofs.Common.{◌≡◌, Some, string_bytes, length-append, ◌+◌, ◌++◌, ◌∷◌, [], length, sym, ap, ◌∙◌}
use Rattle.crash_base.specs.declared.scope.Scope.{Scope}
use Rattle.journal_model.specs.Reboots.{IsUndone}
use Rattle.journal_model.specs.declared.entry.Entry.TheVariants.{Down, Up}
use Rattle.container_core.specs.Container.{ContainerValue, with_entry_event}
use Rattle.scenario_text.specs.Answer.{Done}
use Rattle.scenario_engine.specs.State.{RunningState, RunningValue}
use Rattle.scenario_engine.specs.KeeperCalls.{seen}
use Rattle.scenario_engine.specs.Running.{scope_of, reboot_step}
use Rattle.line_steps.specs.Texts.{down_text, up_text}
use Rattle.scenario_engine.proofs.Going.{runs_meanwhile}
use Rattle.std.specs.Prelude.{is_some}
use Rattle.scenario_engine.proofs.Rebooting.{run_of, kept_after, undone_first, reboot_done, reboot_refused, refused_of}
use Rattle.scenario_engine.proofs.running.Running.reboot_step.Goals as goal
use Rattle.scenario_engine.proofs.running.Running.reboot_step.Goals.{in-Ok+in_ok-text-in-Ok, in-Err+in_ok-text-in-Err}

pub end_reboot-up-requires-after_bounds : goal.end_reboot-up-requires-after_bounds
end_reboot-up-requires-after_bounds g c κs within =
    let s : Scope = c.in-Some.scope in
    let k : ContainerValue = c.self.inside.container in
    (s, undone_first k c.begin_reboot.new.self s c.in-Ok.down.0 c.in-Ok.ensures.down c.in-Ok.ensures.place)

pub returns-clause-answer : goal.returns-clause-answer
returns-clause-answer g c =
    let k : ContainerValue = c.self.inside.container in
    let callers = c.self.inside.callers in
    let sessions = c.self.inside.sessions in
    let seats = c.self.inside.seats in
    let site = is_some c.self.inside.router in
    let r : RunningState = run_of k callers sessions seats site in
    let s : Scope = c.in-Some.scope in
    let found : scope_of r.boot.start.deployment c.args.word ≡ Some s = sym (c.in-Some.ensures.scope ∙ ap (λ p. scope_of p c.args.word) c.deployment.ensures) in
    let there : reboot_step r c.args.word ≡ reboot_step c.args.self.now.running c.args.word = ap (λ (v : RunningValue). reboot_step v.running c.args.word) c.self.view_is in
    elim c.match-begin_reboot.branch [
      | in-Ok+in_ok-text-in-Ok w ↦ (
          let down : c.begin_reboot.new.self ≡ with_entry_event k (Down s) = w.in-Ok.ensures.down in
          let place : w.in-Ok.down.0 ≡ length r.boot.entries = w.in-Ok.ensures.place in
          let undone : IsUndone c.begin_reboot.new.self.boot.entries w.in-Ok.down.0 s = undone_first k c.begin_reboot.new.self s w.in-Ok.down.0 down place in
          let now : w.end_reboot-up.new.self ≡ with_entry_event (with_entry_event k (Down s)) (Up s) = w.end_reboot-up.ensures.up s undone.down ∙ ap (λ k. with_entry_event k (Up s)) down in
          let next : w.end_reboot-up.result.0 ≡ length r.boot.entries + 1 = w.end_reboot-up.ensures.place ∙ ap (λ (k : ContainerValue). length k.boot.entries) down ∙ length-append r.boot.entries (Down s ∷ []) in
          let text : string_bytes w.in_ok-text-in-Ok.text ≡ down_text (length r.boot.entries) ++ up_text (length r.boot.entries + 1) = w.in_ok-text-in-Ok.ensures ∙ ap (λ n. down_text n ++ up_text w.end_reboot-up.result.0) place ∙ ap (λ n. down_text (length r.boot.entries) ++ up_text n) next in
          ap (λ (v : RunningValue). Done v.running (string_bytes c.match-begin_reboot.text)) w.self-is ∙ reboot_done k w.end_reboot-up.new.self callers sessions seats site c.args.word s (string_bytes c.match-begin_reboot.text) found w.in-Ok.ensures.answer now (ap (λ t. string_bytes t) w.text-is ∙ text) ∙ there)
      | in-Err+in_ok-text-in-Err w ↦ (
          let refused = refused_of _ w.in-Err.refusal w.in-Err.ensures.answer w.in_ok-text-in-Err.ensures.memory in
          ap (λ (v : RunningValue). Done v.running (string_bytes c.match-begin_reboot.text)) w.self-is ∙ reboot_refused k c.begin_reboot.new.self callers sessions seats site c.args.word s w.in-Err.refusal (string_bytes c.match-begin_reboot.text) found refused w.in-Err.ensures.same (ap (λ t. string_bytes t) w.text-is ∙ w.in_ok-text-in-Err.ensures.text) ∙ there)
    ]

pub invariant_of-self-in-Ok : goal.invariant_of-self-in-Ok
invariant_of-self-in-Ok g c =
    let k : ContainerValue = c.self.inside.container in
    let callers = c.self.inside.callers in
    let seats = c.self.inside.seats in
    runs_meanwhile c.begin_reboot.new.self c.end_reboot-up.new.self callers seats _ c.end_reboot-up.ensures.grown c.stay.ensures
    (runs_meanwhile k c.begin_reboot.new.self callers seats _ c.begin_reboot.ensures.grown c.stay.ensures c.self.invariant)

pub returns-in_err-text-in-Ok-clause-kept : goal.returns-in_err-text-in-Ok-clause-kept
returns-in_err-text-in-Ok-clause-kept g c =
    let k : ContainerValue = c.self.inside.container in
    let s : Scope = c.in-Some.scope in
    let undone : IsUndone c.begin_reboot.new.self.boot.entries c.in-Ok.down.0 s = undone_first k c.begin_reboot.new.self s c.in-Ok.down.0 c.in-Ok.ensures.down c.in-Ok.ensures.place in
    kept_after c.begin_reboot.new.self c.end_reboot-up.new.self (Up s) (c.end_reboot-up.ensures.up s undone.down) ∙ kept_after k c.begin_reboot.new.self (Down s) c.in-Ok.ensures.down ∙ ap (λ (v : RunningValue). v.keeper) c.self.view_is

pub returns-clause-kept : goal.returns-clause-kept
returns-clause-kept g c =
    let k : ContainerValue = c.self.inside.container in
    let s : Scope = c.in-Some.scope in
    let there = ap (λ (v : RunningValue). v.keeper) c.self.view_is in
    elim c.match-begin_reboot.branch [
      | in-Ok+in_ok-text-in-Ok w ↦ (
          let undone : IsUndone c.begin_reboot.new.self.boot.entries w.in-Ok.down.0 s = undone_first k c.begin_reboot.new.self s w.in-Ok.down.0 w.in-Ok.ensures.down w.in-Ok.ensures.place in
          ap (λ (v : RunningValue). v.keeper) w.self-is ∙ kept_after c.begin_reboot.new.self w.end_reboot-up.new.self (Up s) (w.end_reboot-up.ensures.up s undone.down) ∙ kept_after k c.begin_reboot.new.self (Down s) w.in-Ok.ensures.down ∙ there)
      | in-Err+in_ok-text-in-Err w ↦ ap (λ (v : RunningValue). v.keeper) w.self-is ∙ ap (λ (m : ContainerValue). seen m.told m.faults) w.in-Err.ensures.same ∙ there
    ]

pub invariant_of-self : goal.invariant_of-self
invariant_of-self g c =
    let k : ContainerValue = c.self.inside.container in
    let callers = c.self.inside.callers in
    let seats = c.self.inside.seats in
    runs_meanwhile c.begin_reboot.new.self c.end_reboot-up.new.self callers seats _ c.end_reboot-up.ensures.grown c.stay.ensures
    (runs_meanwhile k c.begin_reboot.new.self callers seats _ c.begin_reboot.ensures.grown c.stay.ensures c.self.invariant)
