-- What a workload writes over a keeper that gave no rows and did not fail, and how its command ends without a summary.
use Rattle.std.proofs.Common.{◌≡◌, ◌≤◌, inl, inr, ℕ, Bool, true, false, not, List, [], ◌∷◌, length, Option, Some, refl, ap, ◌∙◌}
use Rattle.std.specs.Prelude.{replicate}
use Rattle.std.specs.List.{list_any}
use Rattle.crash_base.specs.declared.rows.RowWrite.{RowWrite}
use Rattle.outside.specs.Faults.{Rose}
use Rattle.outside.specs.Keeper.{KeeperTold}
use Rattle.boot_core.specs.Boot.{BootValue, new_boot}
use Rattle.boot_core.specs.declared.refusals.StartRefusal.TheVariants as starts
use Rattle.container_core.specs.Start.{start_over}
use Rattle.scenario_engine.proofs.Starting.{not_opened}
use Rattle.workload.specs.Parts.{work_parts}
use Rattle.workload.specs.Summary.{summary}
use Rattle.workload.specs.Turns.{worked}
use Rattle.workload.specs.Working.{Works, work_limits}
use Rattle.workload.specs.declared.run.WorkloadFailure.{WorkloadFailure}
use Rattle.workload.specs.declared.run.WorkloadFailure.TheVariants as failures
use Rattle.drive_engine.specs.declared.words.Command.TheVariants.{Workload}
use Rattle.drive_engine.specs.Command.{Runs}
use Rattle.drive_engine.specs.Exchange.{Exchange}
use Rattle.drive_engine.specs.Work.{first_boot, workload_text, FailsOver, LeavesStreams, ending_of}

none_failed : (before after : ℕ) (failed : Bool) → ¬ Rose before after → (failed ≡ true → Rose before after) → failed ≡ false
none_failed before after true stays rose = absurd (stays (rose refl))
none_failed before after false stays rose = refl

-- replies of which none is a refusal
all_kept : (replies : List Bool) → list_any not replies ≡ false → replies ≡ replicate (length replies) true
all_kept [] none = refl
all_kept (true ∷ replies) none = ap (λ (rs : List Bool). true ∷ rs) (all_kept replies none)
all_kept (false ∷ replies) none = cc

pub text_over_no_rows : (number count : ℕ) (text : List ℕ) (old new : Option KeeperTold) (before after : ℕ) (works : Works number count text old new before after) → works.opens.rows ≡ [] → ¬ Rose before after → text ≡ workload_text number count
unfolding workload_text
text_over_no_rows number count text old new before after works none stays =
    let opened : works.opened ≡ first_boot = works.opens.boot ∙ ap (λ (rs : List RowWrite). new_boot (start_over work_parts [] work_limits rs)) none in
    let kept : works.replies ≡ replicate count true = all_kept works.replies (none_failed before after (list_any not works.replies) stays works.counted) ∙ ap (λ n. replicate n true) works.turns in
    works.text_is ∙ ap (λ (b : BootValue). summary (worked number b works.replies)) opened ∙ ap (λ (rs : List Bool). summary (worked number first_boot rs)) kept

-- a keeper that tells gave the rows that it holds
pub text_over_none_told : (number count : ℕ) (text : List ℕ) (old : KeeperTold) (new : Option KeeperTold) (before after : ℕ) → old.rows ≡ [] → Works number count text (Some old) new before after → ¬ Rose before after → text ≡ workload_text number count
text_over_none_told number count text old new before after empty works stays =
    text_over_no_rows number count text (Some old) new before after works (works.opens.given.0 ∙ empty) stays

-- a workload without a summary
pub ends_without_summary : (number count : ℕ) (failure : WorkloadFailure) (x : Exchange) → LeavesStreams x → x.keeper_before.faults ≤ x.keeper_after.faults → FailsOver failure number count x → Runs (Workload number count) (ending_of failure) x
ends_without_summary number count failures.OutOfMemory x streams grows fails = record { streams = streams; fails = inr fails }
ends_without_summary number count (failures.Unstarted starts.OutOfMemory) x streams grows fails = record { streams = streams; fails = inl fails }
ends_without_summary number count (failures.Unstarted starts.KeeperFailed) x streams grows fails = record {
  streams = streams;
  opens = not_opened work_parts [] work_limits x.keeper_before x.keeper_after starts.KeeperFailed fails.0 grows fails.1;
}
ends_without_summary number count (failures.Unstarted (starts.BadRow id)) x streams grows fails = record {
  streams = streams;
  opens = not_opened work_parts [] work_limits x.keeper_before x.keeper_after (starts.BadRow id) fails.0 grows fails.1;
}
ends_without_summary number count (failures.Unstarted starts.BootsSpent) x streams grows fails = record {
  streams = streams;
  opens = not_opened work_parts [] work_limits x.keeper_before x.keeper_after starts.BootsSpent fails.0 grows fails.1;
}
