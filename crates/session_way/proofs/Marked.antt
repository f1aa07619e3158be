-- The marks that a way leaves.
use Rattle.std.proofs.Common.{◌≡◌, ◌∙◌, ap, sym, refl, inl, inr, ◌+◌, length, List, [], ◌∷◌, ◌++◌, append-nil, map, Option, Some, None}
use Rattle.std.proofs.lemmas.List.{length-map}
use Rattle.outside.specs.declared.link.LinkEvent.{LinkEvent}
use Rattle.send_windows.specs.declared.history.WindowMark.TheVariants.{Taken}
use Rattle.send_windows.specs.declared.pass.Pass.{Pass}
use Rattle.send_windows.specs.declared.windows.TakeRefusal.{TakeRefusal}
use Rattle.send_windows.specs.declared.windows.TakeRefusal.TheVariants.{Overload, OutOfMemory}
use Rattle.send_windows.specs.Passes.{hushed, with_mark}
use Rattle.send_windows.specs.Windows.{WindowsValue, after_spend, taken}
use Rattle.ssm_stub.specs.Writes.{heard_passes, mark_in}
use Rattle.session_way.specs.declared.session_write.WriteOrder.{WriteOrder}
use Rattle.session_way.specs.declared.way.SessionWay.{SessionWay}
use Rattle.session_way.specs.declared.way.SessionWay.TheVariants.{Resting, Reading, Ordered, Writing, Settling, Holding}
use Rattle.session_way.specs.Marks.{marks_between, marks_by, owed, refusal_marks, spends, takes}
use Rattle.session_way.specs.Way.{IsRefused, StepsOutside, StepsWindows, after_give_back, held, passes_for}
use Rattle.session_way.specs.Writing.{WritingState, passes_spent, write_begun}

-- as many passes are spent as were taken
spent_many : (w : WritingState) → length (passes_spent w) ≡ length w.passes
spent_many w =
    length-map (heard_passes w.write w.passes) hushed
    ∙ length-map w.passes (λ (pass : Pass). with_mark pass (mark_in w.write.asks pass.brick))

-- passes that were taken and are held, as many of them, leave their mark
taken_mark : (old new : WindowsValue) (after : SessionWay) (passes others : List Pass) → new ≡ taken old passes → held after ≡ Some others → length others ≡ length passes → new.history ≡ old.history ++ marks_between None (held after)
taken_mark old new after passes others grown is many =
    ap (λ (w : WindowsValue). w.history) grown
    ∙ (ap (λ n. old.history ++ Taken n ∷ []) (sym many) ∙ sym (ap (λ (o : Option (List Pass)). old.history ++ marks_between None o) is))

-- passes that were held and are spent leave their mark
spent_mark : (old new : WindowsValue) (way after : SessionWay) (passes : List Pass) → new ≡ after_spend old passes → held way ≡ Some passes → held after ≡ None → new.history ≡ old.history ++ marks_between (held way) (held after)
spent_mark old new way after passes grown was is =
    ap (λ (w : WindowsValue). w.history) grown
    ∙ (sym (ap (λ (o : Option (List Pass)). old.history ++ marks_between o None) was) ∙ sym (ap (λ (o : Option (List Pass)). old.history ++ marks_between (held way) o) is))

pub step_marks : (old new : WindowsValue) (way after : SessionWay) → StepsWindows way old after new → new.history ≡ old.history ++ marks_by way after
step_marks old new Resting after step = absurd step
step_marks old new (Reading r) after step = absurd step
step_marks old new (Ordered order) after step =
    let begun : WritingState = write_begun order old.wq (passes_for order old) in
    taken_mark old new after (passes_for order old) (passes_spent begun) step.after (ap held step.writes) (spent_many begun)
step_marks old new (Writing w) after step = absurd step
step_marks old new (Settling w) after step = spent_mark old new (Settling w) after (passes_spent w) step.1 refl (ap held step.0)
step_marks old new (Holding passes) after step = spent_mark old new (Holding passes) after (map hushed passes) step.1 refl (ap held step.0)

-- windows that stay get no mark
no_mark : (old new : WindowsValue) (after : SessionWay) → new ≡ old → held after ≡ None → new.history ≡ old.history ++ marks_between None (held after)
no_mark old new after same is =
    ap (λ (w : WindowsValue). w.history) same
    ∙ (sym (append-nil old.history) ∙ sym (ap (λ (o : Option (List Pass)). old.history ++ marks_between None o) is))

want_marks : (order : WriteOrder) (old new : WindowsValue) (after : SessionWay) → IsRefused (Ordered order) old after new OutOfMemory → new.history ≡ old.history ++ marks_by (Ordered order) after
want_marks order old new after (inl (rests, same)) = no_mark old new after same (ap held rests)
want_marks order old new after (inr h) =
    taken_mark old new after (passes_for order old) (map hushed (passes_for order old)) h.after (ap held h.holds) (length-map (passes_for order old) hushed)

pub refused_marks : (old new : WindowsValue) (way after : SessionWay) (refusal : TakeRefusal) → IsRefused way old after new refusal → new.history ≡ old.history ++ refusal_marks refusal way after
refused_marks old new Resting after refusal h = absurd h
refused_marks old new (Reading r) after refusal h = absurd h
refused_marks old new (Ordered order) after (Overload full) (rests, (few, all, same)) = ap (λ (w : WindowsValue). w.history) same
refused_marks old new (Ordered order) after OutOfMemory h = want_marks order old new after h
refused_marks old new (Writing w) after refusal h = absurd h
refused_marks old new (Settling w) after refusal h = absurd h
refused_marks old new (Holding passes) after refusal h = absurd h

pub back_marks : (windows : WindowsValue) (way : SessionWay) → (after_give_back windows (held way)).history ≡ windows.history ++ marks_by way Resting
back_marks windows Resting = sym (append-nil windows.history)
back_marks windows (Reading r) = sym (append-nil windows.history)
back_marks windows (Ordered order) = sym (append-nil windows.history)
back_marks windows (Writing w) = refl
back_marks windows (Settling w) = refl
back_marks windows (Holding passes) = refl

pub outside_marks : {L : Type 0} (makes : L → LinkEvent → L → Type 0) (old new : L) (way after : SessionWay) → StepsOutside makes way old after new → marks_by way after ≡ []
outside_marks makes old new Resting after step = absurd step
outside_marks makes old new (Reading r) after step = ap (λ (w : SessionWay). marks_between None (held w)) step.1
outside_marks makes old new (Ordered order) after step = absurd step
outside_marks makes old new (Writing w) after step = ap (λ (s : SessionWay). marks_between (Some (passes_spent w)) (held s)) step.1
outside_marks makes old new (Settling w) after step = ap (λ (s : SessionWay). marks_between (Some (passes_spent w)) (held s)) step.1
outside_marks makes old new (Holding passes) after step = absurd step

balanced : (before after : Option (List Pass)) → takes (marks_between before after) + owed before ≡ spends (marks_between before after) + owed after
balanced None None = refl
balanced None (Some passes) = refl
balanced (Some passes) None = refl
balanced (Some passes) (Some kept) = refl

pub steps_balance : (way after : SessionWay) → takes (marks_by way after) + owed (held way) ≡ spends (marks_by way after) + owed (held after)
steps_balance way after = balanced (held way) (held after)
