-- Components as their tables describe them.
use Rattle.std.specs.Prelude.{◌≡◌, ℕ, ◌<◌, suc, ◌&&◌, Bool, true, is_some, if◌then◌else◌, List, [], ◌∷◌, Option, Some, None, codes, Result, Ok, Err}
use Rattle.toml.specs.Data.{Data, Items, no_items, item, Members, as_table, get_item}
use Rattle.descriptor_text.specs.declared.description.Description.{Description}
use Rattle.descriptor_text.specs.declared.refusals.FieldName.{FieldName}
use Rattle.descriptor_text.specs.declared.refusals.FieldName.TheVariants.{Component, Name, Hard, Soft, Tables, Methods}
use Rattle.descriptor_text.specs.declared.refusals.WrongField.{WrongField}
use Rattle.descriptor_text.specs.Keys.{list_in, names_in, tables_in, methods_in}
use Rattle.descriptor_text.specs.Names.{component_name_in}

-- a key that gives a value lets the next ones be read; one that gives none has another form
abbrev pub with_key : {A B : Type 0}
    → FieldName → Option A → (A → Result B FieldName) → Result B FieldName
with_key field None next = Err field
with_key field (Some a) next = next a

-- the component of a table, or the first of its keys that has another form
abbrev pub description_in : Members → Result Description FieldName
description_in members =
    with_key Name (component_name_in members) (λ name.
    with_key Hard (names_in (codes "hard") members) (λ hard.
    with_key Soft (names_in (codes "soft") members) (λ soft.
    with_key Tables (tables_in members) (λ tables.
    with_key Methods (methods_in members) (λ methods.
    Ok (record { name = name; hard = hard; soft = soft; tables = tables; methods = methods }))))))

-- the component of a value, which has to be a table
abbrev pub description_of : Data → Result Description FieldName
description_of d = with_key Component (as_table d) description_in

-- each item is a table
abbrev pub are_tables : Items → Bool
are_tables no_items = true
are_tables (item d rest) = is_some (as_table d) && are_tables rest

-- the description at a place, and the later ones; the first that is none is reported by its place
abbrev pub with_others : ℕ → Result Description FieldName
    → Result (List Description) WrongField → Result (List Description) WrongField
with_others place (Err field) others = Err (record { component = place; field = field })
with_others place (Ok first) (Err wrong) = Err wrong
with_others place (Ok first) (Ok others) = Ok (first ∷ others)

-- the components of items, the first of which has this place
abbrev pub descriptions_from : ℕ → Items → Result (List Description) WrongField
descriptions_from place no_items = Ok []
descriptions_from place (item d rest) =
    with_others place (description_of d) (descriptions_from (suc place) rest)

-- the components of items, or the first key that has another form
abbrev pub descriptions_of : Items → Result (List Description) WrongField
descriptions_of items = descriptions_from 0 items

-- what is reported where `component` is no array of tables
abbrev pub no_tables : WrongField
no_tables = record { component = 0; field = Component }

-- the components of an array of tables
abbrev pub described_tables : Option Items → Result (List Description) WrongField
described_tables None = Err no_tables
described_tables (Some items) = if are_tables items then descriptions_of items else Err no_tables

-- the components of a document, or the first key that has another form
abbrev pub descriptions_in : Members → Result (List Description) WrongField
descriptions_in document = described_tables (list_in (codes "component") document)

-- The wrong field is that of the item at its place, and each item before it describes a component.
pub record IsFirstWrong (items : Items) (wrong : WrongField) : Type 0 where
  pub there : (d : Data)
      × (get_item wrong.component items ≡ Some d) × (description_of d ≡ Err wrong.field)
  pub before : (k : ℕ) → k < wrong.component
      → (d : Data) × (first : Description)
      × (get_item k items ≡ Some d) × (description_of d ≡ Ok first)
