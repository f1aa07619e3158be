-- The values of the keys of a component's table.
use Rattle.std.specs.Prelude.{ℕ, ℤ, pos, negsuc, nat_le, Bool, if◌then◌else◌, List, [], ◌∷◌, Option, Some, None, option_map, option_and_then, codes}
use Rattle.deployment.specs.declared.parts.MethodPart.{MethodPart}
use Rattle.deployment.specs.Parts.{one_call}
use Rattle.toml.specs.Data.{Data, Items, no_items, item, Members, get_member, as_str, as_integer, as_bool, as_array, as_table}
use Rattle.descriptor_text.specs.Names.{method_name_in}

-- what each item gives, in order; none where one of them gives none
abbrev pub gathered : {A : Type 0} → (Data → Option A) → Items → Option (List A)
gathered read no_items = Some []
gathered read (item d rest) =
    option_and_then (λ first. option_map (λ others. first ∷ others) (gathered read rest)) (read d)

-- the items of a key's value: an empty array without the key, and none where it is no array
abbrev pub items_under : Option Data → Option Items
items_under None = Some no_items
items_under (Some d) = as_array d

-- the items under a key of a table
abbrev pub list_in : List ℕ → Members → Option Items
list_in key members = items_under (get_member key members)

-- the names under a key, if it is an array of strings
abbrev pub names_in : List ℕ → Members → Option (List (List ℕ))
names_in key members = option_and_then (gathered as_str) (list_in key members)

-- a number from 0 to 255
abbrev pub table_of_integer : ℤ → Option ℕ
table_of_integer (pos n) = if nat_le n 255 then Some n else None
table_of_integer (negsuc n) = None

-- the number of a table, if the value is a whole number from 0 to 255
abbrev pub table_number : Data → Option ℕ
table_number d = option_and_then table_of_integer (as_integer d)

-- the tables, if `tables` is an array of their numbers
abbrev pub tables_in : Members → Option (List ℕ)
tables_in members = option_and_then (gathered table_number) (list_in (codes "tables") members)

-- whether a method is idempotent, if `idempotent` is a truth value
abbrev pub idempotent_in : Members → Option Bool
idempotent_in members = option_and_then as_bool (get_member (codes "idempotent") members)

-- the method of a table, if both its keys have their form
abbrev pub method_in : Members → Option MethodPart
method_in members =
    option_and_then (λ name. option_map (λ idempotent.
    record { name = name; idempotent = idempotent }) (idempotent_in members))
    (method_name_in members)

-- the method that a value describes, if it is such a table
abbrev pub method_of : Data → Option MethodPart
method_of d = option_and_then method_in (as_table d)

-- the methods of the value of `methods`: one by default
abbrev pub methods_under : Option Data → Option (List MethodPart)
methods_under None = Some one_call
methods_under (Some d) = option_and_then (gathered method_of) (as_array d)

-- the methods of a table, if `methods` has their form
abbrev pub methods_in : Members → Option (List MethodPart)
methods_in members = methods_under (get_member (codes "methods") members)
