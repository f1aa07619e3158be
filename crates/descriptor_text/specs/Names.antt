-- Names of components and of methods.
use Rattle.std.specs.Prelude.{ℕ, Bool, if◌then◌else◌, List, Option, Some, None, option_and_then, codes}
use Rattle.crash_base.specs.Names.{is_name, is_component_name}
use Rattle.toml.specs.Data.{Members, get_member, as_str}

-- the text, where it passes a test
abbrev pub passing : (List ℕ → Bool) → List ℕ → Option (List ℕ)
passing test text = if test text then Some text else None

-- the text of a key, if its value is one
abbrev pub text_in : List ℕ → Members → Option (List ℕ)
text_in key members = option_and_then as_str (get_member key members)

-- a component's name, if `name` has its form
abbrev pub component_name_in : Members → Option (List ℕ)
component_name_in members =
    option_and_then (passing is_component_name) (text_in (codes "name") members)

-- a method's name, if `name` has its form
abbrev pub method_name_in : Members → Option (List ℕ)
method_name_in members = option_and_then (passing is_name) (text_in (codes "name") members)
