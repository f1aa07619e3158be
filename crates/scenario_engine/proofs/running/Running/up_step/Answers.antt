use Rattle.std.specs.Prelude.{is_some}
use Rattle.scenario_engine.proofs.Going.{runs_meanwhile}
use Rattle.std.proofs.Common.{◌≡◌, Some, sym, ◌∙◌, ap, ℕ, string_bytes}
use Rattle.journal_model.specs.declared.entry.Entry.TheVariants.{Up}
use Rattle.journal_model.specs.Reboots.{IsUndone, undone_of}
use Rattle.journal_model.proofs.Undone.{found_of}
use Rattle.boot_core.specs.Boot.{BootValue}
use Rattle.container_core.specs.Container.{ContainerValue}
use Rattle.scenario_engine.specs.State.{RunningValue}
use Rattle.scenario_engine.specs.Running.{scope_of, up_step}
use Rattle.line_steps.specs.Texts.{up_text}
use Rattle.scenario_engine.proofs.Rebooting.{kept_after, up_done}
use Rattle.scenario_engine.proofs.running.Running.up_step.Goals as goal

pub end_reboot-place-requires-after_bounds : goal.end_reboot-place-requires-after_bounds
end_reboot-place-requires-after_bounds g c κs within =
    let k : ContainerValue = c.self.inside.container in
    let found : undone_of k.boot.entries c.in-Some.scope ≡ Some c.in-Some-undone_of.down = ap (λ (b : BootValue). undone_of b.entries c.in-Some.scope) (sym c.as_boot.ensures.value) ∙ sym c.in-Some-undone_of.ensures in
    (c.in-Some.scope, found_of k.boot.entries c.in-Some.scope c.in-Some-undone_of.down found)

pub returns-clause-answer : goal.returns-clause-answer
returns-clause-answer g c =
    let k : ContainerValue = c.self.inside.container in
    let s = c.in-Some.scope in
    let down = c.in-Some-undone_of.down in
    let undone : undone_of k.boot.entries s ≡ Some down = ap (λ (b : BootValue). undone_of b.entries s) (sym c.as_boot.ensures.value) ∙ sym c.in-Some-undone_of.ensures in
    let is : IsUndone k.boot.entries down.0 s = found_of k.boot.entries s down undone in
    let wrote = c.in_ok-text.ensures ∙ ap (λ (n : ℕ). up_text n) c.end_reboot-place.ensures.place in
    let found : scope_of k.boot.start.deployment c.args.word ≡ Some s = sym (c.in-Some.ensures.scope ∙ ap (λ p. scope_of p c.args.word) c.deployment.ensures) in
    up_done k c.end_reboot-place.new.self c.self.inside.callers c.self.inside.sessions c.self.inside.seats (is_some c.self.inside.router) c.args.word s down (string_bytes c.in_ok-text.text) found undone (c.end_reboot-place.ensures.up s is.down) wrote ∙ ap (λ (v : RunningValue). up_step v.running c.args.word) c.self.view_is

pub returns-in_err-text-clause-kept : goal.returns-in_err-text-clause-kept
returns-in_err-text-clause-kept g c =
    let k : ContainerValue = c.self.inside.container in
    let s = c.in-Some.scope in
    let down = c.in-Some-undone_of.down in
    let undone : undone_of k.boot.entries s ≡ Some down = ap (λ (b : BootValue). undone_of b.entries s) (sym c.as_boot.ensures.value) ∙ sym c.in-Some-undone_of.ensures in
    let is : IsUndone k.boot.entries down.0 s = found_of k.boot.entries s down undone in
    kept_after k c.end_reboot-place.new.self (Up s) (c.end_reboot-place.ensures.up s is.down) ∙ ap (λ (v : RunningValue). v.keeper) c.self.view_is

pub returns-clause-kept : goal.returns-clause-kept
returns-clause-kept g c =
    let k : ContainerValue = c.self.inside.container in
    let s = c.in-Some.scope in
    let down = c.in-Some-undone_of.down in
    let undone : undone_of k.boot.entries s ≡ Some down = ap (λ (b : BootValue). undone_of b.entries s) (sym c.as_boot.ensures.value) ∙ sym c.in-Some-undone_of.ensures in
    let is : IsUndone k.boot.entries down.0 s = found_of k.boot.entries s down undone in
    kept_after k c.end_reboot-place.new.self (Up s) (c.end_reboot-place.ensures.up s is.down) ∙ ap (λ (v : RunningValue). v.keeper) c.self.view_is

pub invariant_of-self : goal.invariant_of-self
invariant_of-self g c =
    runs_meanwhile c.self.inside.container c.end_reboot-place.new.self c.self.inside.callers c.self.inside.seats _ c.end_reboot-place.ensures.grown c.stay.ensures c.self.invariant

pub invariant_of-self-2 : goal.invariant_of-self-2
invariant_of-self-2 g c =
    runs_meanwhile c.self.inside.container c.end_reboot-place.new.self c.self.inside.callers c.self.inside.seats _ c.end_reboot-place.ensures.grown c.stay.ensures c.self.invariant
