-- Head lines, which build the parts of a deployment, set the limits of the journal, and set up sessions.
use Rattle.std.specs.Prelude.{◌≡◌, ◌==◌, ◌&&◌, ℕ, nat_le, nat_lt, not, Bool, true, false, List, [], ◌∷◌, ◌++◌, length, is_some}
use Rattle.auction_rows.specs.Parts.{site_parts}
use Rattle.crash_base.specs.Names.{is_component_name}
use Rattle.crash_base.specs.declared.fault_plans.FaultKind.{FaultKind}
use Rattle.crash_base.specs.declared.fault_plans.FaultPlan.{FaultPlan}
use Rattle.crash_base.specs.declared.fault_plans.TheConstants.{MAX_FAULT_PLANS}
use Rattle.crash_base.specs.declared.numbers.Level.{Level}
use Rattle.crash_base.specs.declared.numbers.Level.TheVariants as levels
use Rattle.crash_base.specs.declared.scope.TheConstants.{MAX_GROUPS}
use Rattle.journal_model.specs.declared.limits.TheConstants.{MAX_ENTRIES, MAX_JOURNAL_BYTES}
use Rattle.scenario_text.specs.declared.line.Line.{Line}
use Rattle.scenario_text.specs.declared.line.Line.TheVariants as lines
use Rattle.scenario_text.specs.declared.head_line.CureLevel.{CureLevel}
use Rattle.scenario_text.specs.declared.head_line.CureLevel.TheVariants as cures
use Rattle.scenario_text.specs.declared.head_line.HeadLine.{HeadLine}
use Rattle.scenario_text.specs.declared.head_line.HeadLine.TheVariants as heads
use Rattle.deployment.specs.Groups.{group_no}
use Rattle.deployment.specs.Parts.{named, owner_of, component_no, one_call}
use Rattle.deployment.specs.declared.parts.ComponentPart.{ComponentPart}
use Rattle.deployment.specs.declared.parts.Parts.{Parts}
use Rattle.deployment.specs.declared.parts.Reference.{Reference}
use Rattle.scenario_text.specs.Answer.{Answer, Refused, Done, refused_if, or_refused, within}
use Rattle.line_steps.specs.Tables.{table_of}
use Rattle.line_steps.specs.declared.head.Head.{Head}
use Rattle.line_steps.specs.declared.head.TheConstants.{SITE_BRICKS, SITE_MOST, SITE_LEAST}
use Rattle.scenario_text.specs.Setup.{SetupState, no_setup, bricks_step, key_step}

-- no parts
abbrev pub no_parts : Parts
no_parts = record { components = []; references = []; tables = [] }

-- what there is before the first line: no parts, no fault plans, the greatest limits, no bricks, and no site
abbrev pub no_head : Head
no_head = record {
  parts = no_parts;
  plans = [];
  limits = record { entries = MAX_ENTRIES; bytes = MAX_JOURNAL_BYTES };
  setup = no_setup;
  site = false;
}

-- the same head with these parts
abbrev pub with_parts : Head → Parts → Head
with_parts head parts = record head { parts = parts }

-- the same head with these fault plans
abbrev pub with_plans : Head → List FaultPlan → Head
with_plans head plans = record head { plans = plans }

-- the same head with this setup of sessions
abbrev pub with_setup : Head → SetupState → Head
with_setup head setup = record head { setup = setup }

-- the same head with the parts of the site, and this setup of sessions
abbrev pub with_site : Head → SetupState → Head
with_site head setup = record head { parts = site_parts; setup = setup; site = true }

-- a component with one method `call`, which may be called again
abbrev pub plain : List ℕ → ComponentPart
plain name = record { name = name; methods = one_call }

-- parts with one plain component more
abbrev pub with_component : Parts → List ℕ → Parts
with_component parts name = record parts { components = parts.components ++ plain name ∷ [] }

-- a reference from one component to another
abbrev pub reference : ℕ → ℕ → Bool → Reference
reference from to hard =
    record { from = component_no from; to = component_no to; hard = hard }

-- parts with one reference more
abbrev pub with_reference : Parts → Reference → Parts
with_reference parts r = record parts { references = parts.references ++ r ∷ [] }

-- parts with one table more, of the component of this number
abbrev pub with_table : Parts → ℕ → ℕ → Parts
with_table parts c table =
    record parts { tables = parts.tables ++ record { table = table; owner = component_no c } ∷ [] }

-- The next component. Refused are a name that no component may have, a name that is used, and one component too many.
unfoldable pub component_step : Parts → List ℕ → Answer Parts
component_step parts name =
    refused_if (not (is_component_name name))
    (refused_if (is_some (named parts.components name))
    (refused_if (nat_le MAX_GROUPS (length parts.components))
    (Done (with_component parts name) [])))

-- A component refers to another, or to itself. Refused is an unknown name.
unfoldable pub reference_step : Parts → List ℕ → List ℕ → Bool → Answer Parts
reference_step parts from to hard =
    or_refused (named parts.components from) (λ x.
    or_refused (named parts.components to) (λ y.
    Done (with_reference parts (reference x y hard)) []))

-- A component owns a table. Refused are an unknown name, a number of no table, and a table that is owned.
unfoldable pub owns_step : Parts → List ℕ → ℕ → Answer Parts
owns_step parts name number =
    or_refused (named parts.components name) (λ c.
    or_refused (table_of number) (λ table.
    refused_if (is_some (owner_of parts.tables table))
    (Done (with_table parts c table) [])))

-- the level that a line says, which names no group: the number of a plan's group is not looked at
abbrev pub cured_by : CureLevel → Level
cured_by cures.Group = levels.Group (group_no 0)
cured_by cures.App = levels.App
cured_by cures.Process = levels.Process

-- the plan of a component, by its number
abbrev pub fault_plan : ℕ → ℕ → FaultKind → CureLevel → FaultPlan
fault_plan c after kind level =
    record { component = component_no c; after = after; kind = kind; cured_by = cured_by level }

-- A component fails by one plan more. Refused are an unknown name, and one plan too many.
unfoldable pub fault_step : Parts → List FaultPlan → List ℕ → ℕ → FaultKind → CureLevel → Answer (List FaultPlan)
fault_step parts plans name after kind level =
    or_refused (named parts.components name) (λ c.
    refused_if (nat_le MAX_FAULT_PLANS (length plans))
    (Done (plans ++ fault_plan c after kind level ∷ []) []))

-- The limits of the journal are set. Refused are limits above the greatest.
unfoldable pub limit_step : Head → ℕ → ℕ → Answer Head
limit_step head entries bytes =
    refused_if (nat_lt MAX_ENTRIES entries)
    (refused_if (nat_lt MAX_JOURNAL_BYTES bytes)
    (Done (record head { limits = record { entries = entries; bytes = bytes } }) []))

-- The parts are those of the site, and so are the bricks: 3, of which a write asks 3 and needs 2. Refused where a
-- component or bricks are there.
unfoldable pub site_step : Head → Answer Head
site_step head =
    refused_if (not (length head.parts.components == 0))
    (within (with_site head) (bricks_step head.setup SITE_BRICKS SITE_MOST SITE_LEAST))

-- whether a line declares a part
abbrev pub declares : HeadLine → Bool
declares (heads.Component name) = true
declares (heads.Hard from to) = true
declares (heads.Soft from to) = true
declares (heads.Owns name table) = true
declares (heads.Fault name after kind level) = false
declares (heads.Limit entries bytes) = false
declares (heads.Bricks bricks most least) = false
declares (heads.Key bytes) = false
declares heads.Site = false

-- a line of the head that is not refused for the site
abbrev pub open_step : Head → HeadLine → Answer Head
open_step head (heads.Component name) =
    within (with_parts head) (component_step head.parts name)
open_step head (heads.Hard from to) =
    within (with_parts head) (reference_step head.parts from to true)
open_step head (heads.Soft from to) =
    within (with_parts head) (reference_step head.parts from to false)
open_step head (heads.Owns name table) =
    within (with_parts head) (owns_step head.parts name table)
open_step head (heads.Fault name after kind level) =
    within (with_plans head) (fault_step head.parts head.plans name after kind level)
open_step head (heads.Limit entries bytes) = limit_step head entries bytes
open_step head (heads.Bricks bricks most least) =
    within (with_setup head) (bricks_step head.setup bricks most least)
open_step head (heads.Key bytes) = within (with_setup head) (key_step head.setup bytes)
open_step head heads.Site = site_step head

-- a line of the head: where the parts are those of the site, none is declared
abbrev pub head_step : Head → HeadLine → Answer Head
head_step head line = refused_if (head.site && declares line) (open_step head line)

-- a line before the boot is started, which no event line is
abbrev pub head_line : Head → Line → Answer Head
head_line head lines.Pass = Done head []
head_line head (lines.Head line) = head_step head line
head_line head (lines.Call c line) = Refused
head_line head (lines.Commit c) = Refused
head_line head (lines.Boot line) = Refused
head_line head lines.Reopen = Refused
head_line head (lines.Session line) = Refused
head_line head (lines.Seat line) = Refused

-- where the parts are said to be those of the site, they are
abbrev pub IsOfSite : Head → Type 0
IsOfSite head = head.site ≡ true → head.parts ≡ site_parts
