-- Each boot of a scenario takes the number after that of the one before.
use Rattle.std.proofs.Common.{◌≡◌, ℕ, suc, ◌+◌, ◌<◌, ◌^◌, false, List, [], ◌∷◌, Option, Some, None, refl, sym, ap, ◌∙◌, arith}
use Rattle.std.specs.Int.{to_be_bytes, w32}
use Rattle.std.specs.List.{flat_map}
use Rattle.std.specs.Prelude.{All, slice_get}
use Rattle.std.proofs.lemmas.Grind.{common_steps}
use Rattle.std.proofs.lemmas.List.Elements.{All-head, All-tail}
use Rattle.std.proofs.lemmas.Nat.{from_be_bytes-to_be_bytes_4}
use Rattle.crash_base.specs.declared.rows.RowWrite.{RowWrite}
use Rattle.crash_base.specs.RowId.{same_id}
use Rattle.crash_base.specs.Rows.{last_write, row_in}
use Rattle.journal_model.specs.declared.entry.CommitEntry.{CommitEntry}
use Rattle.journal_model.specs.declared.entry.Entry.{Entry}
use Rattle.journal_model.specs.declared.entry.Entry.TheVariants.{Commit, Down, Up}
use Rattle.journal_model.specs.Fits.{IsWrite}
use Rattle.journal_model.specs.Rows.{writes_of, rows_after}
use Rattle.journal_model.proofs.Adding.{last_write-append}
use Rattle.journal_model.proofs.Reading.{value_found}
use Rattle.boot_core.specs.declared.boot.Start.{Start}
use Rattle.component_pool.specs.Plans.{left_by_process}
use Rattle.boot_core.specs.Boot.{BootValue}
use Rattle.boot_core.specs.Sound.{IsSound}
use Rattle.container_core.specs.Start.{boot_id, boot_row, number_in, last_boot}
use Rattle.container_core.proofs.GoodRows.{number_is}
use Rattle.scenario_engine.specs.Told.{IsOver, Follows, AreChained}

-- a start is that of the next boot but for its number
pub record GoesOn (b : BootValue) (start : Start) : Type 0 where
  pub over : IsOver (rows_after b.start.base b.entries) start
  pub deployment : start.deployment ≡ b.start.deployment
  pub plans : start.plans ≡ left_by_process b.start.plans
  pub limits : start.limits ≡ b.start.limits

-- the first boot is started so, and each other one goes on from the one before
abbrev pub AreLinked : (Start → Type 0) → List BootValue → Type 0
AreLinked P [] = Unit {0}
AreLinked P (b ∷ bs) = P b.start × AreLinked (GoesOn b) bs

-- the number of a boot is read from its row

number_kept : (n : ℕ) → n < 2 ^ 32 → number_in (Some (to_be_bytes w32 n)) ≡ n
number_kept n fits =
    let bytes : List ℕ = to_be_bytes w32 n in
    sym (number_is bytes refl) ∙ from_be_bytes-to_be_bytes_4 n fits

-- no entry of a legal journal writes that row

keeps_number : (given : Option (List ℕ)) (ws : List RowWrite) → All IsWrite ws → last_write given ws boot_id ≡ given
keeps_number given [] writes = refl
keeps_number given (w ∷ ws) writes =
    let own = (All-head IsWrite w ws writes).own in
    let other : same_id w.id boot_id ≡ false = grind (arith, common_steps, own) in
    rw other (keeps_number given ws (All-tail IsWrite w ws writes))

entry_keeps : (given : Option (List ℕ)) (e : Entry) → ((c : CommitEntry) → e ≡ Commit c → All IsWrite c.writes) → last_write given (writes_of e) boot_id ≡ given
entry_keeps given (Commit c) each = keeps_number given c.writes (each c refl)
entry_keeps given (Down s) each = refl
entry_keeps given (Up s) each = refl

entries_keep : (given : Option (List ℕ)) (es : List Entry) → ((i : ℕ) (c : CommitEntry) → slice_get es i ≡ Some (Commit c) → All IsWrite c.writes)
    → last_write given (flat_map writes_of es) boot_id ≡ given
entries_keep given [] each = refl
entries_keep given (e ∷ es) each =
    last_write-append given (writes_of e) (flat_map writes_of es) boot_id
    ∙ ap (λ found. last_write found (flat_map writes_of es) boot_id) (entry_keeps given e (λ c is. each 0 c (ap (λ x. Some x) is)))
    ∙ entries_keep given es (λ i c is. each (suc i) c is)

-- the boot that is started over these rows leaves its own number
number_left : (rows : List RowWrite) (b : BootValue) → IsOver rows b.start → IsSound b → last_boot (rows_after b.start.base b.entries) ≡ b.start.boot
number_left rows b is sound =
    let n : ℕ = last_boot rows + 1 in
    let number : Option (List ℕ) = Some (to_be_bytes w32 n) in
    let base : last_write None b.start.base boot_id ≡ number =
    ap (λ (start : Start). last_write None start.base boot_id) is.over ∙ last_write-append None rows (boot_row n ∷ []) boot_id in
    let kept : row_in (rows_after b.start.base b.entries) boot_id ≡ number =
    value_found b.start.base b.entries boot_id
    ∙ last_write-append None b.start.base (flat_map writes_of b.entries) boot_id
    ∙ entries_keep (last_write None b.start.base boot_id) b.entries (λ i c at. (sound.legal.each i (Commit c) at).whole.writes)
    ∙ base in
    ap number_in kept ∙ number_kept n (omega (arith, is.unspent)) ∙ sym (ap (λ (start : Start). start.boot) is.over)

-- a sound boot is followed by the one that goes on from it
followed : (rows : List RowWrite) (b : BootValue) (start : Start) → IsOver rows b.start → IsSound b → GoesOn b start → Follows b start
followed rows b start is sound next = record {
  over = next.over;
  deployment = next.deployment;
  plans = next.plans;
  limits = next.limits;
  number = ap (λ (s : Start). s.boot) next.over.over ∙ ap (λ n. n + 1) (number_left rows b is sound);
}

chained_after : (rows : List RowWrite) (b : BootValue) (bs : List BootValue) → IsOver rows b.start → IsSound b → All IsSound bs → AreLinked (GoesOn b) bs → AreChained (Follows b) bs
chained_after rows b [] is sound sounds linked = tt
chained_after rows b (next ∷ bs) is sound sounds linked = (
  followed rows b next.start is sound linked.0,
  chained_after (rows_after b.start.base b.entries) next bs linked.0.over (All-head IsSound next bs sounds) (All-tail IsSound next bs sounds) linked.1,
)

pub chained_over : (rows : List RowWrite) (bs : List BootValue) → All IsSound bs → AreLinked (IsOver rows) bs → AreChained (IsOver rows) bs
chained_over rows [] sounds linked = tt
chained_over rows (b ∷ bs) sounds linked =
    (linked.0, chained_after rows b bs linked.0 (All-head IsSound b bs sounds) (All-tail IsSound b bs sounds) linked.1)
