-- A boot that grows by one entry stays sound.
use Rattle.std.proofs.Common.{◌≡◌, ℕ, inl, inr, List, [], ◌∷◌, ◌++◌, Option, None, All, refl, subst, arith, true, option_map, ◌<◌, length-append}
use Rattle.std.proofs.lemmas.Bool.{eqb-true}
use Rattle.std.proofs.lemmas.Bool.Decides.{nat_tests}
use Rattle.std.proofs.lemmas.Grind.{common_steps}
use Rattle.crash_base.specs.declared.scope.Scope.{Scope}
use Rattle.crash_base.specs.declared.scope.Scope.TheVariants.{Group, App}
use Rattle.crash_base.specs.declared.scope.TheConstants.{MAX_GROUPS}
use Rattle.crash_base.specs.Scope.{holds}
use Rattle.commit_journal.specs.Journal.{IsScope}
use Rattle.deployment.specs.declared.parts.Parts.{Parts}
use Rattle.journal_model.specs.declared.entry.ActionEntry.{ActionEntry}
use Rattle.journal_model.specs.declared.entry.CommitEntry.{CommitEntry}
use Rattle.journal_model.specs.declared.entry.Entry.{Entry}
use Rattle.journal_model.specs.declared.entry.Entry.TheVariants.{Commit, Down, Up}
use Rattle.journal_model.specs.declared.limits.FullAt.{FullAt}
use Rattle.journal_model.specs.declared.limits.JournalLimits.{JournalLimits}
use Rattle.crash_base.specs.declared.numbers.Place.{Place}
use Rattle.journal_model.specs.declared.conflict.Conflict.{Conflict}
use Rattle.journal_model.specs.declared.stale.Stale.{Stale}
use Rattle.journal_model.specs.Conflicts.{conflict_of}
use Rattle.journal_model.specs.Requests.{commit_of}
use Rattle.boot_core.specs.declared.boot.Start.{Start}
use Rattle.journal_model.specs.Calls.{Call, entry_of}
use Rattle.journal_model.specs.Legal.{MayBegin}
use Rattle.journal_model.specs.Limits.{entry_bytes, full_for}
use Rattle.journal_model.specs.Reboots.{IsUndone}
use Rattle.journal_model.specs.Stale.{stale_in}
use Rattle.journal_model.proofs.Filling.{bytes_of-push, undone_downs-commit, undone_downs-down, undone_downs-up}
use Rattle.journal_model.proofs.Fitting.{fits_commit}
use Rattle.journal_model.proofs.Growing.{legal_push, legal_in_turn}
use Rattle.journal_model.proofs.Places.{slice_get_last}
use Rattle.boot_core.specs.Boot.{BootValue, new_boot, with_entry}
use Rattle.boot_core.specs.Fits.{FitsIn}
use Rattle.boot_core.specs.Owners.{IsOwned}
use Rattle.boot_core.specs.Refusals.{busy, commit_refusal, reboot_refusal}
use Rattle.boot_core.specs.Sound.{AreOwned, IsSound}
use Rattle.boot_core.specs.declared.refusals.CommitRefusal.TheVariants as commits
use Rattle.boot_core.specs.declared.refusals.RebootRefusal.TheVariants as reboots
use Rattle.boot_core.proofs.Busy.{busy_none}
use Rattle.boot_core.proofs.Refusing.{first_none, map_none, full_none}

-- owners, once an entry came

pub owned_push : (parts : Parts) (es : List Entry) (e : Entry) → AreOwned parts es → ((c : CommitEntry) → e ≡ Commit c → All (IsOwned parts c.touched) c.writes) → AreOwned parts (es ++ e ∷ [])
owned_push parts es e owned new = λ i c is. elim (slice_get_last es e i (Commit c) is) [
  | inl old ↦ owned i c old
  | inr last ↦ new c last.1
]

pub owned_commit : (parts : Parts) (es : List Entry) (call : Call) (action : Option ActionEntry) → AreOwned parts es → All (IsOwned parts call.touched) call.writes → AreOwned parts (es ++ Commit (entry_of call action) ∷ [])
owned_commit parts es call action owned writes = owned_push parts es (Commit (entry_of call action)) owned (λ c is.
    let same : entry_of call action ≡ c = cc in
    let P : CommitEntry → Type 0 = λ x. All (IsOwned parts x.touched) x.writes in
    subst P same writes)

pub owned_down : (parts : Parts) (es : List Entry) (s : Scope) → AreOwned parts es → AreOwned parts (es ++ Down s ∷ [])
owned_down parts es s owned = owned_push parts es (Down s) owned (λ c is. absurd (cc))

pub owned_up : (parts : Parts) (es : List Entry) (s : Scope) → AreOwned parts es → AreOwned parts (es ++ Up s ∷ [])
owned_up parts es s owned = owned_push parts es (Up s) owned (λ c is. absurd (cc))

-- what a commit that is not refused has

pub record IsFree (limits : JournalLimits) (es : List Entry) (call : Call) (action : Option ActionEntry) : Type 0 where
  pub once : commit_of es call.request ≡ None
  pub fresh : stale_in es call.touched ≡ None
  pub current : conflict_of es call ≡ None
  pub room : full_for limits es 1 (entry_bytes (Commit (entry_of call action))) ≡ None

pub is_free : (limits : JournalLimits) (es : List Entry) (call : Call) (action : Option ActionEntry) → commit_refusal limits es call action ≡ None → IsFree limits es call action
is_free limits es call action none =
    let already = option_map (λ (place : Place). commits.Already place) (commit_of es call.request) in
    let revoked = option_map (λ (s : Stale). commits.Revoked s) (stale_in es call.touched) in
    let conflict = option_map (λ (c : Conflict). commits.Conflict c) (conflict_of es call) in
    let full = option_map (λ (full : FullAt). commits.JournalFull full) (full_for limits es 1 (entry_bytes (Commit (entry_of call action)))) in
    let a = first_none already (revoked ∷ conflict ∷ full ∷ []) none in
    let b = first_none revoked (conflict ∷ full ∷ []) a.1 in
    let c = first_none conflict (full ∷ []) b.1 in
    let d = first_none full [] c.1 in
    record {
      once = map_none (λ (place : Place). commits.Already place) (commit_of es call.request) a.0;
      fresh = map_none (λ (s : Stale). commits.Revoked s) (stale_in es call.touched) b.0;
      current = map_none (λ (c : Conflict). commits.Conflict c) (conflict_of es call) c.0;
      room = map_none (λ (f : FullAt). commits.JournalFull f) (full_for limits es 1 (entry_bytes (Commit (entry_of call action)))) d.0;
    }

-- what a reboot that is not refused has

group_held : (s : Scope) → IsScope s → (g : ℕ) × (g < MAX_GROUPS) × (holds s g ≡ true)
group_held (Group h) known = (h.0, known, grind (arith, common_steps))
group_held App known = (0, omega arith, refl)

held_within : (s : Scope) (g : ℕ) → IsScope s → holds s g ≡ true → g < MAX_GROUPS
held_within (Group h) g known held = let same : h.0 ≡ g = eqb-true h.0 g held in omega (arith, known, same)
held_within App g known held = grind (arith, nat_tests)

pub record MayReboot (limits : JournalLimits) (es : List Entry) (s : Scope) : Type 0 where
  pub begins : MayBegin es s
  pub room : full_for limits es 2 0 ≡ None

pub may_reboot : (limits : JournalLimits) (es : List Entry) (s : Scope) → IsScope s → reboot_refusal limits es s ≡ None → MayReboot limits es s
may_reboot limits es s known none =
    let full = option_map (λ (full : FullAt). reboots.JournalFull full) (full_for limits es 2 0) in
    let parts = first_none (busy es s) (full ∷ []) none in
    let later = first_none full [] parts.1 in
    let held = group_held s known in
    record {
      begins = record { group = held.0; within = held.1; holding = held.2; up = λ g is. busy_none es s parts.0 g (held_within s g known is) is };
      room = map_none (λ (f : FullAt). reboots.JournalFull f) (full_for limits es 2 0) later.0;
    }

-- the boot, once an entry came

pub sound_new : (start : Start) → IsSound (new_boot start)
sound_new start = record {
  legal = record { each = λ i e is. absurd (cc) };
  within = record { entries = omega arith; bytes = omega arith };
  owned = λ i c is. absurd (cc);
}

pub sound_commit : (c : BootValue) (call : Call) (action : Option ActionEntry) → IsSound c → FitsIn c call → commit_refusal c.start.limits c.entries call action ≡ None → IsSound (with_entry c (Commit (entry_of call action)))
sound_commit c call action sound fits none =
    let free = is_free c.start.limits c.entries call action none in
    let e = Commit (entry_of call action) in
    let room = full_none c.start.limits c.entries 1 (entry_bytes e) free.room in
    record {
      legal = legal_push c.start.base c.entries e sound.legal (fits_commit c.start.base c.entries call action fits.journal free.once free.fresh free.current);
      within = record {
        entries = omega (arith, room.0, undone_downs-commit c.entries (entry_of call action), length-append c.entries (e ∷ []));
        bytes = omega (arith, room.1, bytes_of-push c.entries e);
      };
      owned = owned_commit c.start.deployment c.entries call action sound.owned fits.owned;
    }

pub sound_down : (c : BootValue) (s : Scope) → IsSound c → IsScope s → reboot_refusal c.start.limits c.entries s ≡ None → IsSound (with_entry c (Down s))
sound_down c s sound known none =
    let may = may_reboot c.start.limits c.entries s known none in
    let room = full_none c.start.limits c.entries 2 0 may.room in
    record {
      legal = legal_push c.start.base c.entries (Down s) sound.legal may.begins;
      within = record {
        entries = omega (arith, room.0, undone_downs-down c.entries s, length-append c.entries (Down s ∷ []));
        bytes = omega (arith, room.1, bytes_of-push c.entries (Down s));
      };
      owned = owned_down c.start.deployment c.entries s sound.owned;
    }

pub sound_up : (c : BootValue) (s : Scope) (i : ℕ) → IsSound c → IsUndone c.entries i s → IsSound (with_entry c (Up s))
sound_up c s i sound undone =
    let turns = legal_in_turn c.start.base c.entries sound.legal in
    record {
      legal = legal_push c.start.base c.entries (Up s) sound.legal (record { place = i; undone = undone });
      within = record {
        entries = omega (arith, sound.within.entries, undone_downs-up c.entries s turns (record { place = i; undone = undone }), length-append c.entries (Up s ∷ []));
        bytes = omega (arith, sound.within.bytes, bytes_of-push c.entries (Up s));
      };
      owned = owned_up c.start.deployment c.entries s sound.owned;
    }
