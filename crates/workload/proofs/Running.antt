-- Runs of the workload.
use Rattle.std.proofs.Common.{◌≡◌, ℕ, ◌+◌, ◌<◌, ◌≤◌, Bool, List, [], length, Option, refl, sym, ap, ◌∙◌, subst, arith}
use Rattle.std.specs.Prelude.{All}
use Rattle.std.proofs.lemmas.List.Elements.{All-replicate}
use Rattle.crash_base.specs.declared.fault_plans.FaultPlan.{FaultPlan}
use Rattle.deployment.specs.declared.parts.Parts.{Parts}
use Rattle.journal_model.specs.declared.limits.JournalLimits.{JournalLimits}
use Rattle.outside.specs.Keeper.{KeeperTold}
use Rattle.boot_core.specs.Boot.{BootValue}
use Rattle.container_core.specs.Container.{ContainerValue, HoldsRows}
use Rattle.container_core.specs.Start.{IsOpened, IsStarted}
use Rattle.line_steps.specs.Callers.{padded}
use Rattle.line_steps.specs.declared.callers.Caller.{Caller}
use Rattle.line_steps.specs.declared.callers.Caller.TheVariants.{Absent}
use Rattle.workload.specs.Parts.{work_parts}
use Rattle.workload.specs.Summary.{summary_of}
use Rattle.workload.specs.Tally.{nothing_counted}
use Rattle.workload.specs.Turns.{Work, work_at, worked}
use Rattle.workload.specs.Working.{AreCounted, CallerGoesOn, SumsUp, TakesSome, TakesTurns, Works, WorksPartly, work_limits}
use Rattle.workload.specs.declared.choices.TheConstants.{LAST_CALLER}
use Rattle.workload.specs.declared.tally.Tally.{Tally}
use Rattle.workload.proofs.Turning.{HasTurned, rose_on, rose_then}

none_counted : (old new : ℕ) → AreCounted [] old new
none_counted old new h = absurd (cc)

pub has_begun : (number : ℕ) (b : BootValue) (callers : List Caller) (tally : Tally) (f : ℕ) → b.start.deployment ≡ work_parts → callers ≡ padded [] LAST_CALLER → tally ≡ nothing_counted → HasTurned number 0 b number b callers tally f f
has_begun number b callers tally f parts places none =
    let P : List Caller → Type 0 = λ cs. All (CallerGoesOn b) cs in
    let Q : List Caller → Type 0 = λ cs. LAST_CALLER < length cs in
    record {
      replies = [];
      turns = refl;
      is = ap (λ cs. work_at number 0 b cs tally) places ∙ ap (λ t. work_at number 0 b (padded [] LAST_CALLER) t) none;
      counted = none_counted f f;
      count = omega arith;
      going = record { parts = parts; calls = subst P (sym places) (All-replicate (CallerGoesOn b) 5 Absent tt) };
      places = subst Q (sym places) (let n : length (padded [] LAST_CALLER) ≡ 5 = refl in omega (arith, n));
      tallied = (let P : Tally → Type 0 = λ t. t.commits + t.revoked + t.conflicts + t.refused ≤ 0 in subst P (sym none) (omega arith));
    }

pub all_taken : (number k count : ℕ) (opened : BootValue) (drawn : ℕ) (b : BootValue) (callers : List Caller) (tally : Tally) (old new : ℕ) → HasTurned number k opened drawn b callers tally old new → k ≡ count → TakesTurns number count opened b tally old new
all_taken number k count opened drawn b callers tally old new has all = record {
  replies = has.replies;
  turns = has.turns ∙ all;
  boot = ap (λ (w : Work). w.boot) has.is;
  tallied = ap (λ (w : Work). w.tally) has.is;
  counted = has.counted;
}

pub some_taken : (number k count : ℕ) (opened : BootValue) (drawn : ℕ) (b c : BootValue) (callers : List Caller) (tally : Tally) (old mid new : ℕ) → HasTurned number k opened drawn b callers tally old mid → k ≤ count → c ≡ b → mid ≤ new → TakesSome number count opened c old new
some_taken number k count opened drawn b c callers tally old mid new has few same more = record {
  replies = has.replies;
  turns = (let n = has.turns in omega (arith, n, few));
  boot = same ∙ ap (λ (w : Work). w.boot) has.is;
  counted = λ h. rose_on old mid new (has.counted h) more has.count;
}

pub none_taken : (number count : ℕ) (b now : BootValue) (old new : ℕ) → now ≡ b → TakesSome number count b now old new
none_taken number count b now old new same = record {
  replies = [];
  turns = omega arith;
  boot = same;
  counted = none_counted old new;
}

pub summed_up : (number count : ℕ) (text : List ℕ) (opened now seen : BootValue) (tally : Tally) (old new : ℕ) → TakesTurns number count opened now tally old new → seen ≡ now → text ≡ summary_of tally seen → SumsUp number count text opened now old new
summed_up number count text opened now seen tally old new takes same is = record {
  replies = takes.replies;
  turns = takes.turns;
  boot = takes.boot;
  text_is = is ∙ ap (summary_of tally) (same ∙ takes.boot) ∙ ap (λ t. summary_of t (worked number opened takes.replies).boot) takes.tallied;
  counted = takes.counted;
}

pub some_of_all : (number count : ℕ) (opened now : BootValue) (tally : Tally) (old new : ℕ) → TakesTurns number count opened now tally old new → TakesSome number count opened now old new
some_of_all number count opened now tally old new takes = record {
  replies = takes.replies;
  turns = (let n = takes.turns in omega (arith, n));
  boot = takes.boot;
  counted = takes.counted;
}

opened_so : (parts : Parts) (plans : List FaultPlan) (limits : JournalLimits) (told : Option KeeperTold) (c : ContainerValue) → parts ≡ work_parts → plans ≡ [] → limits ≡ work_limits → IsStarted parts plans limits told c → IsOpened work_parts [] work_limits told c.boot c.told
opened_so parts plans limits told c is none so started =
    let P : Parts → Type 0 = λ p. IsOpened p plans limits told c.boot c.told in
    let R : List FaultPlan → Type 0 = λ q. IsOpened work_parts q limits told c.boot c.told in
    let Q : JournalLimits → Type 0 = λ l. IsOpened work_parts [] l told c.boot c.told in
    subst Q so (subst R none (subst P is started.opened))

held : (kept told : Option KeeperTold) (b c : BootValue) → kept ≡ told → b ≡ c → HoldsRows told b → HoldsRows kept c
held kept told b c same is holds =
    let P : Option KeeperTold → Type 0 = λ t. HoldsRows t c in
    let Q : BootValue → Type 0 = λ x. HoldsRows told x in
    subst P (sym same) (subst Q is holds)

counted_on : (replies : List Bool) (before old new after : ℕ) → before ≤ old → after ≡ new → AreCounted replies old new → AreCounted replies before after
counted_on replies before old new after less is counted =
    let P : ℕ → Type 0 = λ n. AreCounted replies before n in
    subst P (sym is) (λ h. rose_then before old new less (counted h))

pub works : (number count : ℕ) (text : List ℕ) (parts : Parts) (plans : List FaultPlan) (limits : JournalLimits) (told kept : Option KeeperTold) (first last : ContainerValue) (before after : ℕ) → parts ≡ work_parts → plans ≡ [] → limits ≡ work_limits → IsStarted parts plans limits told first → SumsUp number count text first.boot last.boot first.faults last.faults → before ≤ first.faults → kept ≡ last.told → after ≡ last.faults → HoldsRows last.told last.boot → Works number count text told kept before after
works number count text parts plans limits told kept first last before after is none so started sums less same end rows = record {
  opened = first.boot;
  first = first.told;
  opens = opened_so parts plans limits told first is none so started;
  replies = sums.replies;
  turns = sums.turns;
  text_is = sums.text_is;
  rows = held kept last.told last.boot (worked number first.boot sums.replies).boot same sums.boot rows;
  counted = counted_on sums.replies before first.faults last.faults after less end sums.counted;
}

pub works_partly : (number count : ℕ) (parts : Parts) (plans : List FaultPlan) (limits : JournalLimits) (told kept : Option KeeperTold) (first last : ContainerValue) (before after : ℕ) → parts ≡ work_parts → plans ≡ [] → limits ≡ work_limits → IsStarted parts plans limits told first → TakesSome number count first.boot last.boot first.faults last.faults → before ≤ first.faults → kept ≡ last.told → after ≡ last.faults → HoldsRows last.told last.boot → WorksPartly number count told kept before after
works_partly number count parts plans limits told kept first last before after is none so started takes less same end rows = record {
  opened = first.boot;
  first = first.told;
  opens = opened_so parts plans limits told first is none so started;
  replies = takes.replies;
  turns = takes.turns;
  rows = held kept last.told last.boot (worked number first.boot takes.replies).boot same takes.boot rows;
  counted = counted_on takes.replies before first.faults last.faults after less end takes.counted;
}
