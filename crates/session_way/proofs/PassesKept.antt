-- The passes that are held.
use Rattle.std.proofs.Common.{◌≡◌, ◌≢◌, ◌∙◌, ap, sym, refl, List, [], ◌∷◌, map, get_or, None, Some}
use Rattle.std.specs.Option.{option_map}
use Rattle.std.proofs.lemmas.List.Elements.{All-map}
use Rattle.outside.specs.declared.link.LinkEvent.{LinkEvent}
use Rattle.send_windows.specs.declared.pass.Pass.{Pass}
use Rattle.send_windows.specs.declared.pass.PassMark.{PassMark}
use Rattle.send_windows.specs.declared.pass.PassMark.TheVariants.{Unheard, Answered, Silent}
use Rattle.send_windows.specs.Passes.{AreHeard, hushed, hushed_mark}
use Rattle.send_windows.specs.Windows.{WindowsValue, after_spend}
use Rattle.ssm_stub.specs.Ends.{bricks_of}
use Rattle.ssm_stub.specs.Writes.{WriteState, heard_passes}
use Rattle.session_way.specs.declared.session_write.WriteOrder.{WriteOrder}
use Rattle.session_way.specs.declared.way.SessionWay.{SessionWay}
use Rattle.session_way.specs.declared.way.SessionWay.TheVariants.{Resting, Reading, Ordered, Writing, Settling, Holding}
use Rattle.session_way.specs.Way.{IsTaken, OnHeld, StepsOutside, StepsWindows, held, passes_for}
use Rattle.session_way.specs.Writing.{WritingState, passes_spent, write_begun}

-- marks change no brick
pub hushed_bricks : (passes : List Pass) → bricks_of (map hushed passes) ≡ bricks_of passes
hushed_bricks [] = refl
hushed_bricks (pass ∷ passes) = ap (λ bricks. pass.brick ∷ bricks) (hushed_bricks passes)

heard_bricks : (write : WriteState) (passes : List Pass) → bricks_of (heard_passes write passes) ≡ bricks_of passes
heard_bricks write [] = refl
heard_bricks write (pass ∷ passes) = ap (λ bricks. pass.brick ∷ bricks) (heard_bricks write passes)

pub spent_bricks : (w : WritingState) → bricks_of (passes_spent w) ≡ bricks_of w.passes
spent_bricks w = hushed_bricks (heard_passes w.write w.passes) ∙ heard_bricks w.write w.passes

-- a step outside keeps the bricks of the passes that are held
pub step_bricks : {L : Type 0} (makes : L → LinkEvent → L → Type 0) (way : SessionWay) (old : L) (after : SessionWay) (new : L) → StepsOutside makes way old after new → option_map bricks_of (held after) ≡ option_map bricks_of (held way)
step_bricks makes Resting old after new h = absurd h
step_bricks makes (Reading r) old after new h = ap (λ (w : SessionWay). option_map bricks_of (held w)) h.1
step_bricks makes (Ordered order) old after new h = absurd h
step_bricks makes (Writing w) old after new h =
    ap (λ (w : SessionWay). option_map bricks_of (held w)) h.1 ∙ ap Some (spent_bricks (record w { write = h.0 }) ∙ sym (spent_bricks w))
step_bricks makes (Settling w) old after new h =
    ap (λ (w : SessionWay). option_map bricks_of (held w)) h.1 ∙ ap Some (spent_bricks (record w { write = h.0 }) ∙ sym (spent_bricks w))
step_bricks makes (Holding passes) old after new h = absurd h

heard_mark : (mark : PassMark) → hushed_mark mark ≢ Unheard
heard_mark Unheard = λ is. cc
heard_mark Answered = λ is. cc
heard_mark Silent = λ is. cc

all_heard : (passes : List Pass) → AreHeard (map hushed passes)
all_heard passes = All-map (λ (pass : Pass). pass.mark ≢ Unheard) hushed passes (λ k d within. heard_mark (get_or passes k d).mark)

-- passes that are given back are heard
pub held_heard : (way : SessionWay) → OnHeld AreHeard (held way)
held_heard Resting = tt
held_heard (Reading r) = tt
held_heard (Ordered order) = tt
held_heard (Writing w) = all_heard (heard_passes w.write w.passes)
held_heard (Settling w) = all_heard (heard_passes w.write w.passes)
held_heard (Holding passes) = all_heard passes

-- a step of the windows spends the passes that are held, and holds none after
pub spent_by_step : (old new : WindowsValue) (way after : SessionWay) (passes : List Pass) → StepsWindows way old after new → held way ≡ Some passes → (new ≡ after_spend old passes) × (held after ≡ None)
spent_by_step old new Resting after passes step is = absurd step
spent_by_step old new (Reading r) after passes step is = absurd step
spent_by_step old new (Ordered order) after passes step is = absurd cc
spent_by_step old new (Writing w) after passes step is = absurd step
spent_by_step old new (Settling w) after passes step is =
    let same : passes_spent w ≡ passes = cc in
    (step.1 ∙ ap (after_spend old) same, ap held step.0)
spent_by_step old new (Holding kept) after passes step is =
    let same : map hushed kept ≡ passes = cc in
    (step.1 ∙ ap (after_spend old) same, ap held step.0)

-- a write that was begun is that of its order
pub begun_of : (order : WriteOrder) (old new : WindowsValue) (w : WritingState) → IsTaken order old (Writing w) new → w ≡ write_begun order old.wq (passes_for order old)
begun_of order old new w h =
    let same : Writing w ≡ Writing (write_begun order old.wq (passes_for order old)) = h.writes in
    cc

hushed_twice : (mark : PassMark) → hushed_mark (hushed_mark mark) ≡ hushed_mark mark
hushed_twice Unheard = refl
hushed_twice Answered = refl
hushed_twice Silent = refl

-- passes that are hushed stay so
pub hushed_again : (passes : List Pass) → map hushed (map hushed passes) ≡ map hushed passes
hushed_again [] = refl
hushed_again (pass ∷ passes) =
    ap (λ mark. record pass { mark = mark } ∷ map hushed (map hushed passes)) (hushed_twice pass.mark)
    ∙ ap (λ rest. hushed pass ∷ rest) (hushed_again passes)
