-- A container that was just opened.
use Rattle.std.proofs.Common.{◌≡◌, ◌+◌, List, [], ◌∷◌, Option, Some, None, sym, ◌∙◌, ap, subst, arith}
use Rattle.crash_base.specs.declared.fault_plans.FaultPlan.{FaultPlan}
use Rattle.crash_base.specs.declared.rows.RowWrite.{RowWrite}
use Rattle.crash_base.specs.Rows.{put_all}
use Rattle.deployment.specs.declared.parts.Parts.{Parts}
use Rattle.journal_model.specs.declared.limits.JournalLimits.{JournalLimits}
use Rattle.outside.specs.Keeper.{KeeperTold, loaded, applied}
use Rattle.boot_core.specs.Boot.{BootValue, new_boot}
use Rattle.container_core.specs.Container.{HoldsRows, PartsAgree}
use Rattle.container_core.specs.Start.{AreGiven, IsOpened, boot_row, last_boot, start_over}
use Rattle.container_core.specs.declared.history.HistoryMark.{HistoryMark}
use Rattle.container_core.proofs.Raising.{start_rows}

-- what the keeper holds once it has the number of the boot is the base of the boot
holds_opened : (old : Option KeeperTold) (rows : List RowWrite) (parts : Parts) (plans : List FaultPlan) (limits : JournalLimits) → AreGiven rows old → HoldsRows (applied (boot_row (last_boot rows + 1) ∷ []) (loaded old)) (new_boot (start_over parts plans limits rows))
holds_opened None rows parts plans limits given = tt
holds_opened (Some t) rows parts plans limits given =
    ap (put_all (boot_row (last_boot rows + 1) ∷ [])) (sym given.0) ∙ start_rows rows (last_boot rows + 1) given.1

pub kept_opened : (parts : Parts) (plans : List FaultPlan) (limits : JournalLimits) (old new : Option KeeperTold) (boot : BootValue) (marks : List HistoryMark) → IsOpened parts plans limits old boot new → marks ≡ [] → PartsAgree boot marks new
kept_opened parts plans limits old new boot marks opened none =
    let P : List HistoryMark → Type 0 = λ ms. PartsAgree boot ms new in
    let Q : BootValue → Type 0 = λ b. HoldsRows new b in
    let R : Option KeeperTold → Type 0 = λ told. HoldsRows told (new_boot (start_over parts plans limits opened.rows)) in
    subst P (sym none) (record {
      marked = omega arith;
      stops = omega arith;
      rows = subst Q (sym opened.boot) (subst R (sym opened.kept) (holds_opened old opened.rows parts plans limits opened.given));
    })
