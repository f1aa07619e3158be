-- Where a boot is said to be of the site, it is: its head is, and so is each start over its parts.
use Rattle.std.proofs.Common.{◌≡◌, ◌&&◌, Bool, true, false, if◌then◌else◌, List, length, Option, Some, None, refl, sym, ◌∙◌}
use Rattle.std.specs.Prelude.{◌==◌, ℕ, nat_lt, not}
use Rattle.container_core.specs.Start.{first_bad, start_over}
use Rattle.crash_base.specs.declared.row_id.RowId.{RowId}
use Rattle.crash_base.specs.declared.rows.RowWrite.{RowWrite}
use Rattle.deployment.specs.declared.parts.Parts.{Parts}
use Rattle.journal_model.specs.declared.limits.JournalLimits.{JournalLimits}
use Rattle.journal_model.specs.declared.limits.TheConstants.{MAX_ENTRIES, MAX_JOURNAL_BYTES}
use Rattle.line_steps.specs.Head.{IsOfSite, component_step, declares, head_line, head_step, limit_step, open_step, owns_step, reference_step, site_step, with_parts, with_setup, with_site, with_plans, fault_step}
use Rattle.line_steps.specs.declared.head.Head.{Head}
use Rattle.line_steps.specs.declared.head.TheConstants.{SITE_BRICKS, SITE_LEAST, SITE_MOST}
use Rattle.scenario_text.proofs.Leaving.{Leaves, leaves-refused_if}
use Rattle.scenario_text.specs.Answer.{Answer, Refused, Done, within}
use Rattle.scenario_text.specs.Setup.{SetupState, bricks_step, key_step}
use Rattle.scenario_text.specs.declared.head_line.HeadLine.{HeadLine}
use Rattle.scenario_text.specs.declared.head_line.HeadLine.TheVariants as heads
use Rattle.scenario_text.specs.declared.line.Line.{Line}
use Rattle.scenario_text.specs.declared.line.Line.TheVariants as lines
use Rattle.scenario_engine.specs.Opening.{StartReplies, Opening, Opened, UnstartedBoot, is_spent, opening, opening_of, opening_over}
use Rattle.scenario_engine.specs.declared.failure.UnstartedCause.TheVariants as causes
use Rattle.crash_base.specs.declared.fault_plans.FaultPlan.{FaultPlan}

-- what two properties say of what an answer leaves, both say
pub leaves_both : {S : Type 0} (P Q : S → Type 0) (a : Answer S) → Leaves P a → Leaves Q a → Leaves (λ s. P s × Q s) a
leaves_both P Q Refused p q = tt
leaves_both P Q (Done s text) p q = (p, q)

-- lines of the head

not_site : (site : Bool) → (site && true) ≡ false → site ≡ false
not_site true allowed = absurd (cc)
not_site false allowed = refl

of_declared : (head : Head) (a : Answer Parts) → head.site ≡ false → Leaves IsOfSite (within (with_parts head) a)
of_declared head Refused none = tt
of_declared head (Done parts text) none = λ is. let both : true ≡ false = sym is ∙ none in absurd (cc)

of_plans : (head : Head) (a : Answer (List FaultPlan)) → IsOfSite head → Leaves IsOfSite (within (with_plans head) a)
of_plans head Refused its = tt
of_plans head (Done plans text) its = its

of_setup : (head : Head) (a : Answer SetupState) → IsOfSite head → Leaves IsOfSite (within (with_setup head) a)
of_setup head Refused its = tt
of_setup head (Done setup text) its = its

of_site_set : (head : Head) (a : Answer SetupState) → Leaves IsOfSite (within (with_site head) a)
of_site_set head Refused = tt
of_site_set head (Done setup text) = λ is. refl

of_limit : (head : Head) (entries bytes : ℕ) → IsOfSite head → Leaves IsOfSite (limit_step head entries bytes)
unfolding limit_step
of_limit head entries bytes its =
    leaves-refused_if IsOfSite (nat_lt MAX_ENTRIES entries) _ (λ low. leaves-refused_if IsOfSite (nat_lt MAX_JOURNAL_BYTES bytes) _ (λ small. its))

of_site_step : (head : Head) → Leaves IsOfSite (site_step head)
unfolding site_step
of_site_step head =
    leaves-refused_if IsOfSite (not (length head.parts.components == 0)) _ (λ none. of_site_set head (bricks_step head.setup SITE_BRICKS SITE_MOST SITE_LEAST))

of_open_step : (head : Head) (line : HeadLine) → IsOfSite head → (head.site && declares line) ≡ false → Leaves IsOfSite (open_step head line)
of_open_step head (heads.Component name) its allowed = of_declared head (component_step head.parts name) (not_site head.site allowed)
of_open_step head (heads.Hard from to) its allowed = of_declared head (reference_step head.parts from to true) (not_site head.site allowed)
of_open_step head (heads.Soft from to) its allowed = of_declared head (reference_step head.parts from to false) (not_site head.site allowed)
of_open_step head (heads.Owns name table) its allowed = of_declared head (owns_step head.parts name table) (not_site head.site allowed)
of_open_step head (heads.Fault name after kind level) its allowed = of_plans head (fault_step head.parts head.plans name after kind level) its
of_open_step head (heads.Limit entries bytes) its allowed = of_limit head entries bytes its
of_open_step head (heads.Bricks bricks most least) its allowed = of_setup head (bricks_step head.setup bricks most least) its
of_open_step head (heads.Key bytes) its allowed = of_setup head (key_step head.setup bytes) its
of_open_step head heads.Site its allowed = of_site_step head

of_head_step : (head : Head) (line : HeadLine) → IsOfSite head → Leaves IsOfSite (head_step head line)
of_head_step head line its =
    leaves-refused_if IsOfSite (head.site && declares line) (open_step head line) (λ allowed. of_open_step head line its allowed)

pub of_head : (head : Head) (line : Line) → IsOfSite head → Leaves IsOfSite (head_line head line)
of_head head lines.Pass its = its
of_head head (lines.Head line) its = of_head_step head line its
of_head head (lines.Call c line) its = tt
of_head head (lines.Commit c) its = tt
of_head head (lines.Boot line) its = tt
of_head head lines.Reopen its = tt
of_head head (lines.Session line) its = tt
of_head head (lines.Seat line) its = tt

-- a boot opens over these parts
abbrev pub OpensOver : Parts → Opening → Type 0
OpensOver parts (Opened start) = start.deployment ≡ parts
OpensOver parts (UnstartedBoot refusal) = Unit {0}

pub opens_over : (parts : Parts) (plans : List FaultPlan) (limits : JournalLimits) (replies : StartReplies) → OpensOver parts (opening parts plans limits replies)
opens_over parts plans limits replies = given replies.rows
  where
    kept : (rows : List RowWrite) (spent keeps : Bool) → OpensOver parts (if spent then UnstartedBoot causes.BootsSpent else (if keeps then Opened (start_over parts plans limits rows) else UnstartedBoot causes.KeeperFailed))
    kept rows true keeps = tt
    kept rows false true = refl
    kept rows false false = tt

    over : (rows : List RowWrite) (bad : Option RowId) → OpensOver parts (opening_over parts plans limits rows replies.keeps bad)
    over rows (Some id) = tt
    over rows None = kept rows (is_spent rows) replies.keeps

    given : (o : Option (List RowWrite)) → OpensOver parts (opening_of parts plans limits o replies.keeps)
    given None = tt
    given (Some rows) = over rows (first_bad rows)
