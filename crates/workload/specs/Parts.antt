-- The deployment of the workload.
use Rattle.std.specs.Prelude.{true, List, [], ◌∷◌, codes}
use Rattle.deployment.specs.declared.parts.ComponentPart.{ComponentPart}
use Rattle.deployment.specs.declared.parts.Parts.{Parts}
use Rattle.deployment.specs.declared.parts.Reference.{Reference}
use Rattle.deployment.specs.declared.parts.TablePart.{TablePart}
use Rattle.deployment.specs.Parts.{component_no}
use Rattle.line_steps.specs.Head.{plain, reference}
use Rattle.workload.specs.declared.deploying.TheConstants.{A, B, C, A_TABLE, C_TABLE}

-- three components, each with one method
unfoldable pub work_components : List ComponentPart
work_components = plain (codes "A") ∷ plain (codes "B") ∷ plain (codes "C") ∷ []

-- A needs B
unfoldable pub work_references : List Reference
work_references = reference A B true ∷ []

-- A and C own a table each
unfoldable pub work_tables : List TablePart
work_tables =
    record { table = A_TABLE; owner = component_no A }
    ∷ record { table = C_TABLE; owner = component_no C } ∷ []

-- the parts of the workload
abbrev pub work_parts : Parts
work_parts =
    record { components = work_components; references = work_references; tables = work_tables }
