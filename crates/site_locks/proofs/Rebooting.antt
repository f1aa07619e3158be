-- What a seat has seen behind a reboot that began, and behind one that ended.
use Rattle.std.proofs.Common.{◌≡◌, ◌∙◌, ℕ, zero, suc, ◌+◌, ◌||◌, Bool, true, false, List, [], ◌∷◌, ◌++◌, drop, length, slice_get, Some, Result, Ok, Err, IfOk, arith, refl, sym, ap, subst}
use Rattle.std.specs.List.{list_any}
use Rattle.std.proofs.lemmas.List.Folds.{list_any-append}
use Rattle.boot_core.specs.declared.refusals.RebootRefusal.{RebootRefusal}
use Rattle.container_core.specs.Container.{ContainerValue}
use Rattle.container_core.specs.History.{entries_in}
use Rattle.container_core.specs.declared.history.Event.{Event}
use Rattle.crash_base.specs.declared.numbers.Place.{Place}
use Rattle.crash_base.specs.declared.scope.Scope.{Scope}
use Rattle.journal_model.specs.Reboots.{IsUndone, is_up_of}
use Rattle.journal_model.specs.declared.entry.Entry.{Entry}
use Rattle.journal_model.specs.declared.entry.Entry.TheVariants.{Down, Up}
use Rattle.journal_model.proofs.Scopes.{same_scope-self}
use Rattle.turn_lock.specs.Seats.{SeatValue}
use Rattle.site_locks.specs.Holds.{Holds}
use Rattle.site_locks.specs.Steps.{ComesUp, GoesDown}

-- The entries of what a seat has seen behind a hold are the journal.
seen_entries : (old new : SeatValue Event) (before after : ContainerValue) → Holds old new before after → entries_in new.seen ≡ after.boot.entries
seen_entries old new before after h = ap (λ (s : SeatValue Event). entries_in s.seen) h.hold.seat ∙ h.left.journal

found_entries : (old new : SeatValue Event) (before after : ContainerValue) → Holds old new before after → entries_in before.since ≡ before.boot.entries
found_entries old new before after h = h.found.journal

last_there : (es : List Entry) (e : Entry) → slice_get (es ++ e ∷ []) (length es) ≡ Some e
last_there [] e = refl
last_there (d ∷ es) e = last_there es e

there_still : (es : List Entry) (e d : Entry) (i : ℕ) → slice_get es i ≡ Some d → slice_get (es ++ e ∷ []) i ≡ Some d
there_still [] e d i is = absurd (cc)
there_still (x ∷ es) e d zero is = is
there_still (x ∷ es) e d (suc i) is = there_still es e d i is

drop_behind : (es : List Entry) (e d : Entry) (i : ℕ) → slice_get es i ≡ Some d → drop (i + 1) (es ++ e ∷ []) ≡ drop (i + 1) es ++ e ∷ []
drop_behind [] e d i is = absurd (cc)
drop_behind (x ∷ es) e d zero is = refl
drop_behind (x ∷ es) e d (suc i) is =
    let more : suc i + 1 ≡ suc (i + 1) = omega arith in
    ap (λ (n : ℕ). drop n (x ∷ (es ++ e ∷ []))) more ∙ (drop_behind es e d i is ∙ sym (ap (λ (n : ℕ). drop n (x ∷ es) ++ e ∷ []) more))

-- The Down of a reboot that began stands at its place.
pub down_stands : (old new : SeatValue Event) (scope : Scope) (before after : ContainerValue) (result : Result Place RebootRefusal)
    → Holds old new before after → GoesDown scope before result after → IfOk result (λ place. slice_get (entries_in new.seen) place.0 ≡ Some (Down scope))
down_stands old new scope before after (Ok place) h goes =
    let grown : after.boot.entries ≡ before.boot.entries ++ Down scope ∷ [] = ap (λ (c : ContainerValue). c.boot.entries) goes.down in
    ap (λ (es : List Entry). slice_get es place.0) (seen_entries old new before after h ∙ grown)
    ∙ (ap (slice_get (before.boot.entries ++ Down scope ∷ [])) goes.place ∙ last_there before.boot.entries (Down scope))
down_stands old new scope before after (Err why) h goes = tt

or_true : (b : Bool) → (b || true) ≡ true
or_true true = refl
or_true false = refl

up_comes : (s : Scope) → list_any (is_up_of s) (Up s ∷ []) ≡ true
up_comes s = ap (λ (b : Bool). b || false) (same_scope-self s)

-- A reboot is not under way behind its Up.
over_behind : (es : List Entry) (i : ℕ) (r s : Scope) → IsUndone es i r → IsUndone (es ++ Up r ∷ []) i s → ⊥
over_behind es i r s was is =
    let there : slice_get (es ++ Up r ∷ []) i ≡ Some (Down r) = there_still es (Up r) (Down r) i was.down in
    let same : s ≡ r = (let both : Some (Down s) ≡ Some (Down r) = sym is.down ∙ there in cc) in
    let up : list_any (is_up_of r) (drop (i + 1) (es ++ Up r ∷ [])) ≡ true =
    ap (list_any (is_up_of r)) (drop_behind es (Up r) (Down r) i was.down)
    ∙ (list_any-append (is_up_of r) (drop (i + 1) es) (Up r ∷ []) ∙ (ap (λ (b : Bool). list_any (is_up_of r) (drop (i + 1) es) || b) (up_comes r) ∙ or_true (list_any (is_up_of r) (drop (i + 1) es)))) in
    let not_up : list_any (is_up_of r) (drop (i + 1) (es ++ Up r ∷ [])) ≡ false = subst (λ (x : Scope). list_any (is_up_of x) (drop (i + 1) (es ++ Up r ∷ [])) ≡ false) same is.not_up in
    absurd (cc)

-- No reboot that began at the place is under way.
pub over : (old new : SeatValue Event) (down : Place) (before after : ContainerValue) (result : Bool)
    → Holds old new before after → ComesUp down before result after → (s : Scope) → IsUndone (entries_in new.seen) down.0 s → ⊥
over old new down before after true h comes s is =
    let was = comes.whether.0 refl in
    let grown : after.boot.entries ≡ before.boot.entries ++ Up was.0 ∷ [] = ap (λ (c : ContainerValue). c.boot.entries) (comes.up refl was.0 was.1.down) in
    over_behind before.boot.entries down.0 was.0 s was.1 (subst (λ (es : List Entry). IsUndone es down.0 s) (seen_entries old new before after h ∙ grown) is)
over old new down before after false h comes s is =
    let same : after.boot.entries ≡ before.boot.entries = ap (λ (c : ContainerValue). c.boot.entries) (comes.same refl) in
    let undone : IsUndone before.boot.entries down.0 s = subst (λ (es : List Entry). IsUndone es down.0 s) (seen_entries old new before after h ∙ same) is in
    let wrong : false ≡ true = comes.whether.1 (s, undone) in
    absurd (cc)
