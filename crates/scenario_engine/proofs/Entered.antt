-- Boots whose components were entered, and which are as they were else.
use Rattle.std.proofs.Common.{ℕ, inl, inr, List, [], append-nil, sym, ap, ◌∙◌, subst}
use Rattle.boot_core.specs.Boot.{BootValue, HasOnlyEntered}
use Rattle.boot_core.specs.Sound.{IsSound}
use Rattle.container_core.specs.Container.{ContainerValue, HasGrownBy, IsButEntered}
use Rattle.seat_laws.specs.Fitting.{EntersAtMost}
use Rattle.scenario_text.specs.Answer.{Answer, within}
use Rattle.scenario_text.specs.declared.call_line.CallLine.{CallLine}
use Rattle.scenario_text.proofs.Leaving.{Leaves, leaves-weaker, leaves-within}
use Rattle.line_steps.specs.CallLines.{CallDone}
use Rattle.line_steps.specs.Callers.{call_step}
use Rattle.line_steps.specs.declared.callers.Caller.{Caller}
use Rattle.line_steps.proofs.Called.{HasEntered, call_enters}
use Rattle.scenario_engine.specs.Running.{with_called}
use Rattle.scenario_engine.specs.State.{RunningState}

-- such a boot is sound as before
pub sound_entered : (old new : BootValue) → HasOnlyEntered old new → IsSound old → IsSound new
sound_entered old new is sound =
    let P : BootValue → Type 0 = IsSound in
    subst P (sym is) (record { legal = sound.legal; within = sound.within; owned = sound.owned })

-- a boot that counts one entering more at most
pub entered_once : (old new : BootValue) → EntersAtMost old new → HasOnlyEntered old new
entered_once old new (inl same) = same ∙ ap (λ (b : BootValue). record old { entered = b.entered }) (sym same)
entered_once old new (inr (component, counts)) =
    counts ∙ ap (λ (times : List ℕ). record old { entered = times }) (sym (ap (λ (b : BootValue). b.entered) counts))

-- a container with such a boot has grown by nothing
pub grown_but_entered : (old new : ContainerValue) → IsButEntered old new → HasGrownBy old new
grown_but_entered old new is = record {
  boot = record {
    start = ap (λ (c : ContainerValue). c.boot.start) is;
    more = [];
    entries = ap (λ (c : ContainerValue). c.boot.entries) is ∙ sym (append-nil old.boot.entries);
  };
  more = [];
  since = ap (λ (c : ContainerValue). c.since) is ∙ sym (append-nil old.since);
}

-- a line of a call leaves what holds of each such boot
pub leaves_called : (P : RunningState → Type 0) (r : RunningState) (n : ℕ) (line : CallLine) → ((done : CallDone (List Caller)) → HasOnlyEntered r.boot done.boot → P (with_called r done)) → Leaves P (within (with_called r) (call_step r.boot r.callers n line))
leaves_called P r n line holds =
    let a : Answer (CallDone (List Caller)) = call_step r.boot r.callers n line in
    leaves-within P (with_called r) a
    (leaves-weaker (HasEntered r.boot) (λ done. P (with_called r done)) a (λ done is. holds done is) (call_enters r.boot r.callers n line))
