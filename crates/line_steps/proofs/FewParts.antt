-- Head lines leave no more components than there are groups.
use Rattle.std.proofs.Common.{ℕ, ◌<◌, ◌≤◌, ◌==◌, ◌&&◌, Bool, true, false, List, [], ◌∷◌, length, arith, length-append}
use Rattle.std.specs.Prelude.{nat_lt, nat_le, not, is_some}
use Rattle.std.proofs.lemmas.Bool.Decides.{nat_tests}
use Rattle.auction_rows.specs.Parts.{site_components, site_parts}
use Rattle.crash_base.specs.Names.{is_component_name}
use Rattle.crash_base.specs.declared.fault_plans.FaultPlan.{FaultPlan}
use Rattle.crash_base.specs.declared.scope.TheConstants.{MAX_GROUPS}
use Rattle.deployment.specs.declared.parts.ComponentPart.{ComponentPart}
use Rattle.deployment.specs.declared.parts.Parts.{Parts}
use Rattle.deployment.specs.Parts.{named, owner_of}
use Rattle.journal_model.specs.declared.limits.TheConstants.{MAX_ENTRIES, MAX_JOURNAL_BYTES}
use Rattle.scenario_text.specs.declared.line.Line.{Line}
use Rattle.scenario_text.specs.declared.line.Line.TheVariants as lines
use Rattle.scenario_text.specs.declared.head_line.HeadLine.{HeadLine}
use Rattle.scenario_text.specs.declared.head_line.HeadLine.TheVariants as heads
use Rattle.line_steps.specs.declared.head.Head.{Head}
use Rattle.line_steps.specs.declared.head.TheConstants.{SITE_BRICKS, SITE_MOST, SITE_LEAST}
use Rattle.scenario_text.specs.Setup.{SetupState, bricks_step, key_step}
use Rattle.scenario_text.specs.Answer.{Answer, Refused, Done, refused_if, within}
use Rattle.line_steps.specs.Head.{open_step, head_step, head_line, declares, plain, with_parts, with_plans, with_setup, with_site, with_component, component_step, reference_step, owns_step, fault_step, limit_step, site_step}
use Rattle.line_steps.specs.Tables.{table_of}
use Rattle.scenario_text.proofs.Leaving.{Leaves, leaves-refused_if, leaves-or_refused, leaves-within}

-- there are no more components than groups
abbrev pub AreFew : Parts → Type 0
AreFew parts = length parts.components ≤ MAX_GROUPS

few_parts : (head : Head) (a : Answer Parts) → Leaves AreFew a → Leaves (λ h. AreFew h.parts) (within (with_parts head) a)
few_parts head a few = leaves-within (λ h. AreFew h.parts) (with_parts head) a few

few_component : (parts : Parts) (name : List ℕ) → Leaves AreFew (component_step parts name)
unfolding component_step
few_component parts name =
    let one : Answer Parts = Done (with_component parts name) [] in
    let many : Bool = nat_le MAX_GROUPS (length parts.components) in
    leaves-refused_if AreFew (not (is_component_name name)) (refused_if (is_some (named parts.components name)) (refused_if many one)) (λ good.
    leaves-refused_if AreFew (is_some (named parts.components name)) (refused_if many one) (λ new.
    leaves-refused_if AreFew many one (λ room.
    let below : length parts.components < MAX_GROUPS = grind (arith, nat_tests) in
    omega (arith, below, length-append parts.components (plain_one name)))))
  where
    plain_one : List ℕ → List ComponentPart
    plain_one n = plain n ∷ []

few_reference : (parts : Parts) (from to : List ℕ) (hard : Bool) → AreFew parts → Leaves AreFew (reference_step parts from to hard)
unfolding reference_step
few_reference parts from to hard few =
    leaves-or_refused AreFew (named parts.components from) _ (λ x found. leaves-or_refused AreFew (named parts.components to) _ (λ y there. few))

few_owns : (parts : Parts) (name : List ℕ) (number : ℕ) → AreFew parts → Leaves AreFew (owns_step parts name number)
unfolding owns_step
few_owns parts name number few =
    leaves-or_refused AreFew (named parts.components name) _ (λ c found. leaves-or_refused AreFew (table_of number) _ (λ table is.
    leaves-refused_if AreFew (is_some (owner_of parts.tables table)) _ (λ free. few)))

few_limit : (head : Head) (entries bytes : ℕ) → AreFew head.parts → Leaves (λ h. AreFew h.parts) (limit_step head entries bytes)
unfolding limit_step
few_limit head entries bytes few =
    leaves-refused_if (λ (h : Head). AreFew h.parts) (nat_lt MAX_ENTRIES entries) _ (λ low. leaves-refused_if (λ (h : Head). AreFew h.parts) (nat_lt MAX_JOURNAL_BYTES bytes) _ (λ small. few))

-- the site has few components
few_site : AreFew site_parts
unfolding site_components
few_site = omega arith

few_plans : (head : Head) (a : Answer (List FaultPlan)) → AreFew head.parts → Leaves (λ h. AreFew h.parts) (within (with_plans head) a)
few_plans head Refused few = tt
few_plans head (Done plans text) few = few

few_setup : (head : Head) (a : Answer SetupState) → AreFew head.parts → Leaves (λ h. AreFew h.parts) (within (with_setup head) a)
few_setup head Refused few = tt
few_setup head (Done setup text) few = few

few_with_site : (head : Head) (a : Answer SetupState) → Leaves (λ h. AreFew h.parts) (within (with_site head) a)
few_with_site head Refused = tt
few_with_site head (Done setup text) = few_site

few_site_step : (head : Head) → Leaves (λ h. AreFew h.parts) (site_step head)
unfolding site_step
few_site_step head =
    leaves-refused_if (λ (h : Head). AreFew h.parts) (not (length head.parts.components == 0)) _ (λ none. few_with_site head (bricks_step head.setup SITE_BRICKS SITE_MOST SITE_LEAST))

few_open_step : (head : Head) (line : HeadLine) → AreFew head.parts → Leaves (λ h. AreFew h.parts) (open_step head line)
few_open_step head (heads.Component name) few = few_parts head (component_step head.parts name) (few_component head.parts name)
few_open_step head (heads.Hard from to) few = few_parts head (reference_step head.parts from to true) (few_reference head.parts from to true few)
few_open_step head (heads.Soft from to) few = few_parts head (reference_step head.parts from to false) (few_reference head.parts from to false few)
few_open_step head (heads.Owns name table) few = few_parts head (owns_step head.parts name table) (few_owns head.parts name table few)
few_open_step head (heads.Fault name after kind level) few = few_plans head (fault_step head.parts head.plans name after kind level) few
few_open_step head (heads.Limit entries bytes) few = few_limit head entries bytes few
few_open_step head (heads.Bricks bricks most least) few = few_setup head (bricks_step head.setup bricks most least) few
few_open_step head (heads.Key bytes) few = few_setup head (key_step head.setup bytes) few
few_open_step head heads.Site few = few_site_step head

few_head_step : (head : Head) (line : HeadLine) → AreFew head.parts → Leaves (λ h. AreFew h.parts) (head_step head line)
few_head_step head line few =
    leaves-refused_if (λ (h : Head). AreFew h.parts) (head.site && declares line) (open_step head line) (λ allowed. few_open_step head line few)

pub few_head : (head : Head) (line : Line) → AreFew head.parts → Leaves (λ h. AreFew h.parts) (head_line head line)
few_head head lines.Pass few = few
few_head head (lines.Head line) few = few_head_step head line few
few_head head (lines.Call c line) few = tt
few_head head (lines.Commit c) few = tt
few_head head (lines.Boot line) few = tt
few_head head lines.Reopen few = tt
few_head head (lines.Session line) few = tt
few_head head (lines.Seat line) few = tt
