-- The parts that descriptions make.
use Rattle.std.specs.Prelude.{ℕ, suc, min, Bool, true, false, List, [], ◌∷◌, ◌++◌, map, Option, unwrap_or, position, bytes_eq}
use Rattle.crash_base.specs.declared.numbers.ComponentNo.{ComponentNo}
use Rattle.deployment.specs.declared.parts.ComponentPart.{ComponentPart}
use Rattle.deployment.specs.declared.parts.Parts.{Parts}
use Rattle.deployment.specs.declared.parts.Reference.{Reference}
use Rattle.deployment.specs.declared.parts.TablePart.{TablePart}
use Rattle.descriptor_text.specs.declared.assembly.TheConstants.{NO_COMPONENT}
use Rattle.descriptor_text.specs.declared.description.Description.{Description}

-- the component at a place: from `NO_COMPONENT` on that number, which no component has
abbrev pub component_at : ℕ → ComponentNo
component_at place = record { 0 = min place NO_COMPONENT }

-- the place of the first description of a name
abbrev pub first_described : List Description → List ℕ → Option ℕ
first_described all name = position (λ d. bytes_eq d.name name) all

-- the first component of a name, and the number that no component has where there is none
abbrev pub component_named : List Description → List ℕ → ComponentNo
component_named all name = component_at (unwrap_or (first_described all name) NO_COMPONENT)

-- the reference from a component to the one of a name
abbrev pub reference_to : List Description → ℕ → Bool → List ℕ → Reference
reference_to all from hard name =
    record { from = component_at from; to = component_named all name; hard = hard }

-- the references of the component at a place, hard before soft
abbrev pub own_references : List Description → ℕ → Description → List Reference
own_references all place d =
    map (reference_to all place true) d.hard ++ map (reference_to all place false) d.soft

-- the references by component, from the component at a place on
abbrev pub references_from : List Description → ℕ → List Description → List Reference
references_from all place [] = []
references_from all place (d ∷ rest) =
    own_references all place d ++ references_from all (suc place) rest

-- the references of each component, in order
abbrev pub references_of : List Description → List Reference
references_of all = references_from all 0 all

-- a table of a component
abbrev pub table_part : ℕ → ℕ → TablePart
table_part owner number = record { table = number; owner = component_at owner }

-- the tables by component, from the component at a place on
abbrev pub tables_from : ℕ → List Description → List TablePart
tables_from place [] = []
tables_from place (d ∷ rest) = map (table_part place) d.tables ++ tables_from (suc place) rest

-- the tables of each component, in order
abbrev pub tables_of : List Description → List TablePart
tables_of all = tables_from 0 all

-- the component itself
abbrev pub component_part : Description → ComponentPart
component_part d = record { name = d.name; methods = d.methods }

-- the components, in order
abbrev pub components_of : List Description → List ComponentPart
components_of all = map component_part all

-- the parts of components in their order
abbrev pub assembled : List Description → Parts
assembled all =
    record {
      components = components_of all;
      references = references_of all;
      tables = tables_of all;
    }
