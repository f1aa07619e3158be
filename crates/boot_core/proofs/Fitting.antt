-- A call that fits its boot goes on fitting.
use Rattle.std.proofs.Common.{◌≡◌, ℕ, ◌-◌, ◌<◌, ◌==◌, ◌||◌, Bool, true, false, cond, List, [], ◌∷◌, ◌++◌, length, Option, Some, None, All, refl, sym, ap, ◌∙◌, subst, arith}
use Rattle.std.specs.List.{list_any}
use Rattle.std.proofs.lemmas.Bool.{eqb-true}
use Rattle.std.proofs.lemmas.Grind.{common_steps}
use Rattle.std.proofs.lemmas.List.Elements.{All-nil, All-push, All-take, All-weaker}
use Rattle.std.proofs.lemmas.List.Folds.{list_any-append}
use Rattle.crash_base.specs.declared.numbers.ComponentNo.{ComponentNo}
use Rattle.crash_base.specs.declared.numbers.RequestNo.{RequestNo}
use Rattle.crash_base.specs.declared.numbers.WorkerNo.{WorkerNo}
use Rattle.crash_base.specs.declared.row_id.RowId.{RowId}
use Rattle.crash_base.specs.declared.rows.RowWrite.{RowWrite}
use Rattle.crash_base.specs.declared.scope.TheConstants.{MAX_GROUPS}
use Rattle.deployment.specs.declared.parts.Parts.{Parts}
use Rattle.deployment.specs.Groups.{group_of}
use Rattle.deployment.specs.Parts.{owner_of}
use Rattle.journal_model.specs.declared.entry.Entry.{Entry}
use Rattle.journal_model.specs.declared.entry.Touch.{Touch}
use Rattle.journal_model.specs.Calls.{Call, begun, is_touched, touched_with, entered, left, has_read, has_listed, kept}
use Rattle.journal_model.specs.Fits.{IsWrite}
use Rattle.journal_model.specs.Reboots.{down_of}
use Rattle.journal_model.specs.Snapshots.{snapshot}
use Rattle.journal_model.specs.Stale.{new_touch}
use Rattle.journal_model.proofs.Fitting.{fits_begun, fits_more, fits_entered, fits_left}
use Rattle.journal_model.proofs.Places.{all_there}
use Rattle.journal_model.proofs.Reading.{fits_read, fits_listed}
use Rattle.journal_model.proofs.Writes.{fits_kept, all-with_write}
use Rattle.call_ticket.specs.Ticket.{top}
use Rattle.boot_core.specs.Boot.{BootValue, HasGrown}
use Rattle.boot_core.specs.declared.boot.Start.{Start}
use Rattle.boot_core.specs.Fits.{FitsIn}
use Rattle.call_ticket.specs.Access.{is_in_owner, is_same_component}
use Rattle.boot_core.specs.Owners.{IsEntered, IsOwned}

-- what was touched is touched still
touched_still : (es : List Entry) (g h : ℕ) (touched : List Touch) → is_touched touched h ≡ true → is_touched (touched_with es g touched) h ≡ true
touched_still es g h touched is = go (is_touched touched g)
  where
    go : (b : Bool) → is_touched (cond b touched (touched ++ new_touch es g ∷ [])) h ≡ true
    go true = is
    go false = list_any-append (λ (t : Touch). t.group.0 == h) touched (new_touch es g ∷ []) ∙ ap (λ b. b || list_any (λ (t : Touch). t.group.0 == h) (new_touch es g ∷ [])) is

-- and so is the group that is entered
touched_now : (es : List Entry) (g : ℕ) (touched : List Touch) → is_touched (touched_with es g touched) g ≡ true
touched_now es g touched = go (is_touched touched g) refl
  where
    last : list_any (λ (t : Touch). t.group.0 == g) (new_touch es g ∷ []) ≡ true
    last = grind (arith, common_steps)

    or_true : (b : Bool) → (b || true) ≡ true
    or_true true = refl
    or_true false = refl

    go : (b : Bool) → is_touched touched g ≡ b → is_touched (cond b touched (touched ++ new_touch es g ∷ [])) g ≡ true
    go true is = is
    go false is = list_any-append (λ (t : Touch). t.group.0 == g) touched (new_touch es g ∷ []) ∙ ap (λ b. is_touched touched g || b) last ∙ or_true (is_touched touched g)

pub begins_fitting : (c : BootValue) (request : RequestNo) (worker : WorkerNo) → FitsIn c (begun request worker (record { 0 = length c.entries }))
begins_fitting c request worker = record {
  journal = fits_begun c.start.base c.entries request worker;
  frames = All-nil (IsEntered c.start.deployment []);
  owned = All-nil (IsOwned c.start.deployment []);
}

pub fits_entering : (c : BootValue) (call : Call) (x : ComponentNo) → FitsIn c call → group_of c.start.deployment x.0 < MAX_GROUPS → down_of c.entries (group_of c.start.deployment x.0) ≡ None → FitsIn c (entered c.entries (group_of c.start.deployment x.0) x call)
fits_entering c call x fits known up =
    let parts = c.start.deployment in
    let g = group_of parts x.0 in
    let now = touched_with c.entries g call.touched in
    record {
      journal = fits_entered c.start.base c.entries g x call known up fits.journal;
      frames = All-push (IsEntered parts now) call.frames x
          (All-weaker (IsEntered parts call.touched) (IsEntered parts now) (λ (y : ComponentNo) is. touched_still c.entries g (group_of parts y.0) call.touched is) call.frames fits.frames)
          (touched_now c.entries g call.touched);
      owned = All-weaker (IsOwned parts call.touched) (IsOwned parts now) (λ (w : RowWrite) (o : IsOwned parts call.touched w). record { owner = o.owner; owns = o.owns; entered = touched_still c.entries g (group_of parts o.owner.0) call.touched o.entered }) call.writes fits.owned;
    }

pub fits_leaving : (c : BootValue) (call : Call) → FitsIn c call → FitsIn c (left call)
fits_leaving c call fits = record {
  journal = fits_left c.start.base c.entries call fits.journal;
  frames = All-take (IsEntered c.start.deployment call.touched) (length call.frames - 1) call.frames fits.frames;
  owned = fits.owned;
}

pub fits_reading : (c : BootValue) (call : Call) (id : RowId) → FitsIn c call → FitsIn c (has_read (snapshot c.start.base c.entries call.at.0) id call)
fits_reading c call id fits = record { journal = fits_read c.start.base c.entries id call fits.journal; frames = fits.frames; owned = fits.owned }

pub fits_listing : (c : BootValue) (call : Call) (t : ℕ) → FitsIn c call → FitsIn c (has_listed t call)
fits_listing c call t fits = record { journal = fits_listed c.start.base c.entries t call fits.journal; frames = fits.frames; owned = fits.owned }

-- the owner of a table whose component the call is in was entered
owned_there : (parts : Parts) (call : Call) (w : RowWrite) → All (IsEntered parts call.touched) call.frames → is_in_owner parts call w.id.table ≡ true → IsOwned parts call.touched w
owned_there parts call w frames inside = go (top call) refl (owner_of parts.tables w.id.table) refl inside
  where
    go : (a : Option ComponentNo) → top call ≡ a → (b : Option ComponentNo) → owner_of parts.tables w.id.table ≡ b → is_same_component a b ≡ true → IsOwned parts call.touched w
    go None is b owns same = absurd (cc)
    go (Some x) is None owns same = absurd (cc)
    go (Some x) is (Some y) owns same =
        let here : IsEntered parts call.touched x = all_there (IsEntered parts call.touched) call.frames (length call.frames - 1) x frames is in
        let one : x.0 ≡ y.0 = eqb-true x.0 y.0 same in
        record { owner = y; owns = owns; entered = ap (λ n. is_touched call.touched (group_of parts n)) (sym one) ∙ here }

pub fits_putting : (c : BootValue) (call : Call) (w : RowWrite) → FitsIn c call → IsWrite w → is_in_owner c.start.deployment call w.id.table ≡ true → FitsIn c (kept w call)
fits_putting c call w fits write inside = record {
  journal = fits_kept c.start.base c.entries w call write fits.journal;
  frames = fits.frames;
  owned = all-with_write (IsOwned c.start.deployment call.touched) call.writes w (owned_there c.start.deployment call w fits.frames inside) fits.owned;
}

pub fits_grown : (old new : BootValue) (call : Call) → HasGrown old new → FitsIn old call → FitsIn new call
fits_grown old new call grown fits =
    let es : List Entry = old.entries ++ grown.more in
    let longer : FitsIn (record new { start = old.start; entries = es }) call = record { journal = fits_more old.start.base old.entries grown.more call fits.journal; frames = fits.frames; owned = fits.owned } in
    let P : List Entry → Type 0 = λ xs. FitsIn (record new { start = old.start; entries = xs }) call in
    let Q : Start → Type 0 = λ s. FitsIn (record new { start = s }) call in
    subst Q (sym grown.start) (subst P (sym grown.entries) longer)
