-- What a start of a boot shows of the keeper's replies.
use Rattle.std.proofs.Common.{◌≡◌, ℕ, ◌+◌, ◌<◌, ◌≤◌, Bool, true, false, cond, inl, inr, List, [], ◌∷◌, Some, None, refl, sym, ap, ◌∙◌, subst, arith}
use Rattle.std.specs.Prelude.{nat_le}
use Rattle.std.proofs.lemmas.Bool.Decides.{nat_tests}
use Rattle.crash_base.specs.declared.rows.RowWrite.{RowWrite}
use Rattle.deployment.specs.declared.parts.Parts.{Parts}
use Rattle.journal_model.specs.declared.limits.JournalLimits.{JournalLimits}
use Rattle.outside.specs.Faults.{Rose}
use Rattle.outside.specs.Keeper.{loaded}
use Rattle.boot_core.specs.Boot.{BootValue, new_boot}
use Rattle.boot_core.specs.declared.boot.Start.{Start}
use Rattle.boot_core.specs.declared.refusals.StartRefusal.{StartRefusal}
use Rattle.boot_core.specs.declared.refusals.StartRefusal.TheVariants as refusals
use Rattle.container_core.specs.Container.{ContainerValue}
use Rattle.container_core.specs.Start.{boot_row, first_bad, last_boot, greatest_boot, start_over, IsOpened, IsRefusedStart}
use Rattle.scenario_engine.specs.declared.failure.UnstartedCause.TheVariants as causes
use Rattle.scenario_engine.specs.KeeperCalls.{KeeperCall, Gave, KeeperSeen, seen, AreMade, apply_calls}
use Rattle.scenario_engine.specs.Opening.{StartReplies, Opened, UnstartedBoot, is_spent, opening_over, opening_of, calls_over_rows, start_calls_of}
use Rattle.scenario_engine.specs.Telling.{Opens, OpensPartly, FailsToOpen, failure_of}
use Rattle.scenario_engine.proofs.Calls.{counted_unfailed, counted_failed, none_of}
use Rattle.crash_base.specs.declared.fault_plans.FaultPlan.{FaultPlan}
use Rattle.component_pool.specs.Plans.{left_by_process}

-- whether a number has come up to another

below : (n m : ℕ) → n < m → nat_le m n ≡ false
below n m less = grind (arith, nat_tests)

same_number : (n m : ℕ) → n ≡ m → nat_le m n ≡ true
same_number n m same = grind (arith, nat_tests)

-- how a boot opens over good rows
good_opening : (parts : Parts) (plans : List FaultPlan) (limits : JournalLimits) (rows : List RowWrite) (keeps : Bool) → first_bad rows ≡ None → last_boot rows < greatest_boot → cond keeps (Opened (start_over parts plans limits rows)) (UnstartedBoot causes.KeeperFailed) ≡ opening_of parts plans limits (Some rows) keeps
good_opening parts plans limits rows keeps good left =
    sym (ap (λ o. opening_over parts plans limits rows keeps o) good
    ∙ ap (λ b. cond b (UnstartedBoot causes.BootsSpent) (cond keeps (Opened (start_over parts plans limits rows)) (UnstartedBoot causes.KeeperFailed))) (below (last_boot rows) greatest_boot left))

good_calls : (rows : List RowWrite) (keeps : Bool) → first_bad rows ≡ None → last_boot rows < greatest_boot → Gave rows ∷ apply_calls (boot_row (last_boot rows + 1) ∷ []) keeps ≡ start_calls_of (Some rows) keeps
good_calls rows keeps good left =
    sym (ap (λ o. Gave rows ∷ calls_over_rows rows keeps o) good
    ∙ ap (λ b. Gave rows ∷ cond b [] (apply_calls (boot_row (last_boot rows + 1) ∷ []) keeps)) (below (last_boot rows) greatest_boot left))

-- replies that give these rows
gives : List RowWrite → Bool → StartReplies
gives rows keeps = record { rows = Some rows; keeps = keeps }

pub opened : (parts : Parts) (plans : List FaultPlan) (limits : JournalLimits) (old new : KeeperSeen) (boot : BootValue) → IsOpened parts plans limits old.told boot new.told → old.faults ≤ new.faults → (start : Start) × (boot ≡ new_boot start) × Opens parts plans limits (Opened start) old new
opened parts plans limits old new boot h count =
    let P : List KeeperCall → Type 0 = λ calls. AreMade calls old new in (
      start_over parts plans limits h.rows,
      h.boot,
      record {
        replies = record { rows = Some h.rows; keeps = true };
        opens = good_opening parts plans limits h.rows true h.good h.unspent;
        made = subst P (good_calls h.rows true h.good h.unspent) (record {
          told = (loaded old.told, (h.given, refl), (new.told, h.kept, refl));
          counted = counted_unfailed _ old.faults new.faults refl count;
        });
      },
    )

-- the keeper failed
left_by_fault : (parts : Parts) (plans : List FaultPlan) (limits : JournalLimits) (old new : KeeperSeen) → IsRefusedStart refusals.KeeperFailed old.told new.told → old.faults ≤ new.faults → Rose old.faults new.faults → Opens parts plans limits (UnstartedBoot causes.KeeperFailed) old new
left_by_fault parts plans limits old new (inl tells) count rose = record {
  replies = record { rows = None; keeps = true };
  opens = refl;
  made = record { told = (new.told, tells, refl); counted = counted_failed _ old.faults new.faults count rose };
}
left_by_fault parts plans limits old new (inr (rows, good, tells)) count rose =
    let P : List KeeperCall → Type 0 = λ calls. AreMade calls old new in
    record {
      replies = record { rows = Some rows; keeps = false };
      opens = good_opening parts plans limits rows false good.good good.unspent;
      made = subst P (good_calls rows false good.good good.unspent) (record {
        told = (loaded old.told, (good.given, refl), (new.told, tells, refl));
        counted = counted_failed _ old.faults new.faults count rose;
      });
    }

-- memory ran out
left_by_memory : (old new : KeeperSeen) → IsRefusedStart refusals.OutOfMemory old.told new.told → old.faults ≤ new.faults → OpensPartly old new
left_by_memory old new (inl tells) count = record {
  replies = record { rows = None; keeps = true };
  made = record {
    made = [];
    more = start_calls_of None true;
    begins = refl;
    between = old.told;
    told = refl;
    last = inr (λ none. cc, tells);
    counted = counted_unfailed [] old.faults new.faults refl count;
  };
}
left_by_memory old new (inr (rows, good, after)) count = record {
  replies = record { rows = Some rows; keeps = true };
  made = record {
    made = Gave rows ∷ [];
    more = apply_calls (boot_row (last_boot rows + 1) ∷ []) true;
    begins = sym (good_calls rows true good.good good.unspent);
    between = loaded old.told;
    told = (loaded old.told, (good.given, refl), refl);
    last = elim after [ inl is ↦ inl is | inr tells ↦ inr (λ none. cc, tells) ];
    counted = counted_unfailed (Gave rows ∷ []) old.faults new.faults refl count;
  };
}

-- a boot that was not started
pub not_opened : (parts : Parts) (plans : List FaultPlan) (limits : JournalLimits) (old new : KeeperSeen) (refusal : StartRefusal) → IsRefusedStart refusal old.told new.told → old.faults ≤ new.faults → (refusal ≡ refusals.KeeperFailed → Rose old.faults new.faults) → FailsToOpen (failure_of refusal) parts plans limits old new
not_opened parts plans limits old new refusals.KeeperFailed h count rose = left_by_fault parts plans limits old new h count (rose refl)
not_opened parts plans limits old new (refusals.BadRow id) (rows, given, bad, is) count rose =
    let P : List KeeperCall → Type 0 = λ calls. AreMade calls old new in
    let none : Gave rows ∷ [] ≡ start_calls_of (Some rows) true = ap (λ o. Gave rows ∷ calls_over_rows rows true o) (sym bad) in
    record {
      replies = record { rows = Some rows; keeps = true };
      opens = ap (λ o. opening_over parts plans limits rows true o) (sym bad);
      made = subst P none (record {
        told = (loaded old.told, (given, refl), is);
        counted = counted_unfailed _ old.faults new.faults refl count;
      });
    }
not_opened parts plans limits old new refusals.BootsSpent (rows, given, good, last, is) count rose =
    let P : List KeeperCall → Type 0 = λ calls. AreMade calls old new in
    let spent : is_spent rows ≡ true = same_number (last_boot rows) greatest_boot last in
    let none : start_calls_of (Some rows) true ≡ Gave rows ∷ [] = ap (λ o. Gave rows ∷ calls_over_rows rows true o) good ∙ ap (λ b. Gave rows ∷ cond b [] (apply_calls (boot_row (last_boot rows + 1) ∷ []) true)) spent in
    let stays_unstarted : opening_of parts plans limits (Some rows) true ≡ UnstartedBoot causes.BootsSpent = ap (λ o. opening_over parts plans limits rows true o) good ∙ ap (λ b. cond b (UnstartedBoot causes.BootsSpent) (Opened (start_over parts plans limits rows))) spent in
    record {
      replies = record { rows = Some rows; keeps = true };
      opens = sym stays_unstarted;
      made = subst P (sym none) (record {
        told = (loaded old.told, (given, refl), is);
        counted = counted_unfailed _ old.faults new.faults refl count;
      });
    }
not_opened parts plans limits old new refusals.OutOfMemory h count rose = left_by_memory old new h count

-- memory ran out before the keeper was called
pub unopened_at_once : (k : KeeperSeen) → OpensPartly k k
unopened_at_once k = record { replies = record { rows = None; keeps = true }; made = none_of (start_calls_of None true) k }

-- over the parts of a boot that is reopened

pub reopened_so : (c n : ContainerValue) (boot : BootValue) (k : KeeperSeen) → c.boot ≡ boot → seen c.told c.faults ≡ k → IsOpened c.boot.start.deployment (left_by_process c.boot.start.plans) c.boot.start.limits c.told n.boot n.told → c.faults ≤ n.faults → (start : Start) × (n.boot ≡ new_boot start) × Opens boot.start.deployment (left_by_process boot.start.plans) boot.start.limits (Opened start) k (seen n.told n.faults)
reopened_so c n boot k b e h count =
    let o = opened c.boot.start.deployment (left_by_process c.boot.start.plans) c.boot.start.limits (seen c.told c.faults) (seen n.told n.faults) n.boot h count in
    let P : BootValue → Type 0 = λ b. Opens b.start.deployment (left_by_process b.start.plans) b.start.limits (Opened o.0) k (seen n.told n.faults) in
    let Q : KeeperSeen → Type 0 = λ k. Opens c.boot.start.deployment (left_by_process c.boot.start.plans) c.boot.start.limits (Opened o.0) k (seen n.told n.faults) in
    (o.0, o.1, subst P b (subst Q e o.2))

pub not_reopened_so : (c : ContainerValue) (boot : BootValue) (k new : KeeperSeen) (refusal : StartRefusal) → c.boot ≡ boot → seen c.told c.faults ≡ k → IsRefusedStart refusal c.told new.told → c.faults ≤ new.faults → (refusal ≡ refusals.KeeperFailed → Rose c.faults new.faults) → FailsToOpen (failure_of refusal) boot.start.deployment (left_by_process boot.start.plans) boot.start.limits k new
not_reopened_so c boot k new refusal b e h count rose =
    let P : BootValue → Type 0 = λ b. FailsToOpen (failure_of refusal) b.start.deployment (left_by_process b.start.plans) b.start.limits k new in
    let Q : KeeperSeen → Type 0 = λ k. FailsToOpen (failure_of refusal) c.boot.start.deployment (left_by_process c.boot.start.plans) c.boot.start.limits k new in
    subst P b (subst Q e (not_opened c.boot.start.deployment (left_by_process c.boot.start.plans) c.boot.start.limits (seen c.told c.faults) new refusal h count rose))
