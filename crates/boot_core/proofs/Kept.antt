-- A boot whose parts agree, once an entry came.
use Rattle.std.proofs.Common.{◌≡◌, ℕ, ◌≤◌, List, [], ◌∷◌, ◌++◌, length, Option, Some, None, slice_get, All, refl, sym, ◌∙◌, subst, append-nil, arith}
use Rattle.crash_base.specs.declared.scope.Scope.{Scope}
use Rattle.crash_base.specs.declared.numbers.Place.{Place}
use Rattle.crash_base.specs.declared.numbers.RequestNo.{RequestNo}
use Rattle.crash_base.specs.declared.numbers.WorkerNo.{WorkerNo}
use Rattle.crash_base.specs.declared.rows.RowWrite.{RowWrite}
use Rattle.crash_base.specs.declared.fault_plans.FaultPlan.{FaultPlan}
use Rattle.deployment.specs.declared.parts.Parts.{Parts}
use Rattle.journal_model.specs.declared.entry.ActionEntry.{ActionEntry}
use Rattle.journal_model.specs.declared.entry.CommitEntry.{CommitEntry}
use Rattle.journal_model.specs.declared.entry.Entry.{Entry}
use Rattle.journal_model.specs.declared.entry.Mark.{Mark}
use Rattle.journal_model.specs.declared.entry.Touch.{Touch}
use Rattle.journal_model.specs.declared.entry.Entry.TheVariants.{Commit, Down, Up}
use Rattle.journal_model.specs.declared.limits.JournalLimits.{JournalLimits}
use Rattle.journal_model.specs.Calls.{Call, entry_of}
use Rattle.journal_model.specs.Reboots.{IsUndone}
use Rattle.journal_model.specs.Rows.{writes_of}
use Rattle.journal_model.proofs.Following.{statuses_commit}
use Rattle.row_store.specs.Rows.{RowsValue, AreRowsOf}
use Rattle.row_store.proofs.Noting.{rows_silent, rows_written}
use Rattle.commit_journal.specs.Journal.{JournalValue, CanPush, IsScope}
use Rattle.naming_table.specs.Names.{NamesValue, Follows}
use Rattle.component_pool.specs.declared.component.PooledComponent.{PooledComponent}
use Rattle.component_pool.specs.Cures.{level_of}
use Rattle.component_pool.specs.Journal.{reboots_in}
use Rattle.component_pool.specs.Pool.{PoolValue, StandsFor, entered_in, none_entered, rebooted_at, times}
use Rattle.component_pool.proofs.Counting.{stands_as_counted}
use Rattle.component_pool.proofs.Journals.{reboots_in-commit, reboots_in-down, reboots_in-up, stands_alike}
use Rattle.call_ticket.specs.Within.{IsShortWrite}
use Rattle.boot_core.specs.declared.boot.Start.{Start}
use Rattle.boot_core.specs.Boot.{BootValue, HasGrown}
use Rattle.boot_core.specs.Fits.{FitsIn}
use Rattle.boot_core.specs.Keeping.{PartsAgree, start_of, of_parts, with_writes}
use Rattle.boot_core.specs.Refusals.{commit_refusal, reboot_refusal}
use Rattle.boot_core.specs.Sound.{IsSound}
use Rattle.boot_core.proofs.Sounding.{MayReboot, sound_new, sound_commit, sound_down, sound_up}

-- the rows of a journal, once an entry came that writes these at its end
rows_with : (rows : RowsValue) (base : List RowWrite) (es : List Entry) (e : Entry) (place : Place) (ws : List RowWrite) → ws ≡ writes_of e → place.0 ≡ length es → AreRowsOf rows base es → AreRowsOf (with_writes rows place ws) base (es ++ e ∷ [])
rows_with rows base es e place [] made at are =
    let silent = rows_silent rows base es e (sym made) are in
    record { over = silent.over; notes = append-nil rows.noted ∙ silent.notes }
rows_with rows base es e place (w ∷ ws) made at are = rows_written rows base es e place (w ∷ ws) made (omega arith) at are

-- a boot is as sound whatever it has counted
sound_counted : (start : Start) (es : List Entry) (some other : List ℕ) → IsSound (of_parts start es some) → IsSound (of_parts start es other)
sound_counted start es some other sound = record { legal = sound.legal; within = sound.within; owned = sound.owned }

-- a boot that was just started
pub kept_start : (number : ℕ) (base : List RowWrite) (parts : Parts) (given : List FaultPlan) (limits : JournalLimits) (es : List Entry) (names : NamesValue) (rows : RowsValue) (pool : PoolValue)
    → es ≡ [] → rows.base ≡ base → All IsShortWrite base → Follows names parts [] → AreRowsOf rows base [] → StandsFor pool parts given (λ c. 0) (λ g. [])
    → PartsAgree (start_of number rows.base parts pool.plans limits) es names rows pool
kept_start number base parts given limits es names rows pool none same short follows noted stands =
    let start = start_of number base parts pool.plans limits in
    let P : List RowWrite → Type 0 = λ b. PartsAgree (start_of number b parts pool.plans limits) es names rows pool in
    let Q : List Entry → Type 0 = λ xs. PartsAgree start xs names rows pool in
    subst P (sym same) (subst Q (sym none) (record {
      sound = sound_counted start [] none_entered (entered_in pool) (sound_new start);
      short = short;
      follows = follows;
      noted = noted;
      stands = record { plans = refl; components = (stands_as_counted pool parts given (λ c. 0) (λ g. []) stands).components };
    }))

-- a journal whose limits are these, and whose entries are those
pub kept_as : (number : ℕ) (base : List RowWrite) (parts : Parts) (plans : List FaultPlan) (old new : JournalLimits) (es now : List Entry) (names : NamesValue) (rows : RowsValue) (pool : PoolValue)
    → new ≡ old → now ≡ es → PartsAgree (start_of number base parts plans old) es names rows pool → PartsAgree (start_of number base parts plans new) now names rows pool
kept_as number base parts plans old new es now names rows pool limits entries kept =
    let P : JournalLimits → Type 0 = λ l. PartsAgree (start_of number base parts plans l) now names rows pool in
    let Q : List Entry → Type 0 = λ xs. PartsAgree (start_of number base parts plans old) xs names rows pool in
    subst P (sym limits) (subst Q (sym entries) kept)

-- a pool that stands for what it counts

pub kept_pool : (number : ℕ) (base : List RowWrite) (parts : Parts) (limits : JournalLimits) (es : List Entry) (names : NamesValue) (rows : RowsValue) (old new : PoolValue)
    → new.plans ≡ old.plans → StandsFor new parts old.plans (times (entered_in new)) (reboots_in es)
    → PartsAgree (start_of number base parts old.plans limits) es names rows old → PartsAgree (start_of number base parts new.plans limits) es names rows new
kept_pool number base parts limits es names rows old new plans stands kept =
    let P : List FaultPlan → Type 0 = λ given. PartsAgree (start_of number base parts given limits) es names rows new in
    subst P (sym plans) (record {
      sound = sound_counted (start_of number base parts old.plans limits) es (entered_in old) (entered_in new) kept.sound;
      short = kept.short;
      follows = kept.follows;
      noted = kept.noted;
      stands = stands;
    })

-- a pool whose instances alone are others
pub kept_given : (number : ℕ) (base : List RowWrite) (parts : Parts) (limits : JournalLimits) (es : List Entry) (names : NamesValue) (rows : RowsValue) (old new : PoolValue)
    → new.components ≡ old.components → new.plans ≡ old.plans
    → PartsAgree (start_of number base parts old.plans limits) es names rows old → PartsAgree (start_of number base parts new.plans limits) es names rows new
kept_given number base parts limits es names rows old new components plans kept =
    let P : List PooledComponent → List FaultPlan → Type 0 = λ cs given. StandsFor (record new { components = cs; plans = given }) parts old.plans (times (entered_in (record new { components = cs }))) (reboots_in es) in
    let Q : List PooledComponent → Type 0 = λ cs. P cs new.plans in
    let stands : P old.components old.plans = record { plans = refl; components = kept.stands.components } in
    kept_pool number base parts limits es names rows old new plans (subst Q (sym components) (subst (P old.components) (sym plans) stands)) kept

pub kept_commit : (number : ℕ) (parts : Parts) (old new : JournalValue) (names : NamesValue) (rows now : RowsValue) (pool : PoolValue) (place : Place) (call : Call) (action : Option ActionEntry)
    → PartsAgree (start_of number rows.base parts pool.plans old.limits) old.entries names rows pool → FitsIn (of_parts (start_of number rows.base parts pool.plans old.limits) old.entries (entered_in pool)) call → commit_refusal old.limits old.entries call action ≡ None
    → new.entries ≡ old.entries ++ Commit (entry_of call action) ∷ [] → new.limits ≡ old.limits → now ≡ with_writes rows place call.writes → place.0 ≡ length old.entries
    → PartsAgree (start_of number now.base parts pool.plans new.limits) new.entries names now pool
kept_commit number parts old new names rows now pool place call action kept fits free made limits noted at =
    let e = Commit (entry_of call action) in
    let start = start_of number rows.base parts pool.plans old.limits in
    let here : PartsAgree start (old.entries ++ e ∷ []) names (with_writes rows place call.writes) pool = record {
      sound = sound_commit (of_parts start old.entries (entered_in pool)) call action kept.sound fits free;
      short = kept.short;
      follows = record { bound = kept.follows.bound; statuses = statuses_commit names.statuses old.entries (entry_of call action) kept.follows.statuses };
      noted = rows_with rows rows.base old.entries e place call.writes refl at kept.noted;
      stands = stands_alike pool parts pool.plans (times (entered_in pool)) (reboots_in old.entries) (reboots_in (old.entries ++ e ∷ [])) (λ g. sym (reboots_in-commit old.entries (entry_of call action) g)) kept.stands;
    } in
    let P : RowsValue → Type 0 = λ r. PartsAgree (start_of number r.base parts pool.plans new.limits) new.entries names r pool in
    subst P (sym noted) (kept_as number rows.base parts pool.plans old.limits new.limits (old.entries ++ e ∷ []) new.entries names (with_writes rows place call.writes) pool limits made here)

pub kept_down : (number : ℕ) (parts : Parts) (old new : JournalValue) (before names : NamesValue) (rows : RowsValue) (pool now : PoolValue) (s : Scope)
    → PartsAgree (start_of number rows.base parts pool.plans old.limits) old.entries before rows pool → IsScope s → reboot_refusal old.limits old.entries s ≡ None
    → new.entries ≡ old.entries ++ Down s ∷ [] → new.limits ≡ old.limits → Follows names parts (old.entries ++ Down s ∷ [])
    → now.plans ≡ pool.plans → entered_in now ≡ entered_in pool → StandsFor now parts pool.plans (times (entered_in pool)) (rebooted_at s (level_of s) (reboots_in old.entries))
    → PartsAgree (start_of number rows.base parts now.plans new.limits) new.entries names rows now
kept_down number parts old new before names rows pool now s kept known free made limits follows plans counted stands =
    let es = old.entries ++ Down s ∷ [] in
    let start = start_of number rows.base parts pool.plans old.limits in
    let sound = sound_down (of_parts start old.entries (entered_in pool)) s kept.sound known free in
    let rebooted = stands_alike now parts pool.plans (times (entered_in pool)) (rebooted_at s (level_of s) (reboots_in old.entries)) (reboots_in es) (λ g. sym (reboots_in-down old.entries s g)) stands in
    let P : List ℕ → Type 0 = λ counts. StandsFor now parts pool.plans (times counts) (reboots_in es) in
    let Q : List FaultPlan → Type 0 = λ given. PartsAgree (start_of number rows.base parts given new.limits) new.entries names rows now in
    subst Q (sym plans) (kept_as number rows.base parts pool.plans old.limits new.limits es new.entries names rows now limits made (record {
      sound = sound_counted start es (entered_in pool) (entered_in now) sound;
      short = kept.short;
      follows = follows;
      noted = rows_silent rows rows.base old.entries (Down s) refl kept.noted;
      stands = subst P (sym counted) rebooted;
    }))

pub kept_up : (number : ℕ) (parts : Parts) (old new : JournalValue) (before names : NamesValue) (rows : RowsValue) (pool : PoolValue) (s : Scope) (i : ℕ)
    → PartsAgree (start_of number rows.base parts pool.plans old.limits) old.entries before rows pool → IsUndone old.entries i s
    → new.entries ≡ old.entries ++ Up s ∷ [] → new.limits ≡ old.limits → Follows names parts (old.entries ++ Up s ∷ [])
    → PartsAgree (start_of number rows.base parts pool.plans new.limits) new.entries names rows pool
kept_up number parts old new before names rows pool s i kept undone made limits follows =
    let es = old.entries ++ Up s ∷ [] in
    let start = start_of number rows.base parts pool.plans old.limits in
    kept_as number rows.base parts pool.plans old.limits new.limits es new.entries names rows pool limits made (record {
      sound = sound_up (of_parts start old.entries (entered_in pool)) s i kept.sound undone;
      short = kept.short;
      follows = follows;
      noted = rows_silent rows rows.base old.entries (Up s) refl kept.noted;
      stands = stands_alike pool parts pool.plans (times (entered_in pool)) (reboots_in old.entries) (reboots_in es) (λ g. sym (reboots_in-up old.entries s g)) kept.stands;
    })

-- a journal that has taken memory has the room that it had within its limits

pub can_push_down : (old new : JournalValue) (s : Scope) → new.entries ≡ old.entries → new.limits ≡ old.limits → 2 ≤ new.spare → MayReboot old.limits old.entries s → CanPush new (Down s)
can_push_down old new s entries limits spare may =
    let P : List Entry → Type 0 = λ es. CanPush (record new { entries = es; limits = old.limits }) (Down s) in
    let Q : JournalLimits → Type 0 = λ l. CanPush (record new { limits = l }) (Down s) in
    subst Q (sym limits) (subst P (sym entries) (record { spare = spare; free = may.room }, may.begins))

-- a boot whose journal has one entry more has grown
pub grown_by : (old : BootValue) (start now_start : Start) (es now : List Entry) (counts now_counts : List ℕ) (e : Entry) → of_parts start es counts ≡ old → now_start ≡ start → now ≡ es ++ e ∷ [] → HasGrown old (of_parts now_start now now_counts)
grown_by old start now_start es now counts now_counts e same starts made =
    let P : BootValue → Type 0 = λ v. HasGrown v (of_parts now_start now now_counts) in
    subst P same (record { start = starts; more = e ∷ []; entries = made })

-- the Down that is undone there is that of this scope
pub undone_here : (v : BootValue) (start : Start) (es : List Entry) (counts : List ℕ) (i : ℕ) (s : Scope) → of_parts start es counts ≡ v → ((r : Scope) × IsUndone v.entries i r) → slice_get es i ≡ Some (Down s) → IsUndone es i s
undone_here v start es counts i s same undone there =
    let P : BootValue → Type 0 = λ x. IsUndone x.entries i undone.0 in
    let here : IsUndone es i undone.0 = subst P (sym same) undone.1 in
    let is : Some (Down undone.0) ≡ Some (Down s) = sym here.down ∙ there in
    let scope : undone.0 ≡ s = cc in
    let Q : Scope → Type 0 = λ r. IsUndone es i r in
    subst Q scope here

-- an entry whose parts are those of a call is the entry of that call
pub entry_made : (call : Call) (action : Option ActionEntry) (request : RequestNo) (worker : WorkerNo) (at : Place) (touched : List Touch) (reads : List Mark) (writes : List RowWrite)
    → request ≡ call.request → worker ≡ call.worker → at ≡ call.at → touched ≡ call.touched → reads ≡ call.marks → writes ≡ call.writes
    → (let e : CommitEntry = record { request = request; worker = worker; at = at; touched = touched; reads = reads; writes = writes; action = action } in e) ≡ entry_of call action
entry_made call action request worker at touched reads writes a b c d e f = cc
