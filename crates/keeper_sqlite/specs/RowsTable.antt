-- The table of the rows, and what else stands under its name.
use Rattle.std.specs.Prelude.{◌≡◌, ◌⊎◌, List, [], ◌∷◌, ℕ, codes, true, MatchOption, IsSome}
use Rattle.std.specs.List.{find}
use Rattle.sqlite_value.specs.declared.value.Value.TheVariants.{Null}
use Rattle.sqlite_value.specs.declared.keys.Collation.TheVariants.{Binary}
use Rattle.sqlite_schema.specs.declared.schema.Kind.{Kind}
use Rattle.sqlite_schema.specs.declared.schema.Kind.TheVariants.{Integer, Blob}
use Rattle.sqlite_schema.specs.declared.schema.Column.{Column}
use Rattle.sqlite_schema.specs.declared.schema.Table.{Table}
use Rattle.sqlite_schema.specs.declared.schema.Schema.{Schema}
use Rattle.sqlite_schema.specs.Names.{same_name, view_named, index_named}

-- The name of the table of the rows.
abbrev pub table_name : List ℕ
table_name = codes "crash_rows"

-- A column of this name that takes values of this type alone, and is NOT NULL.
abbrev pub rows_column : List ℕ → Kind → Column
rows_column name kind = record {
  name = name;
  kind = kind;
  is_strict = true;
  not_null = true;
  default = Null;
  collation = Binary;
}

-- The columns t INTEGER, k BLOB and v BLOB.
abbrev pub rows_columns : List Column
rows_columns = rows_column (codes "t") Integer ∷ rows_column (codes "k") Blob
    ∷ rows_column (codes "v") Blob ∷ []

-- The table has these columns, the primary key (t, k), and no other rule. The places of
-- columns are counted from 1.
pub record IsRowsTable (table : Table) : Type 0 where
  pub columns : table.columns ≡ rows_columns
  pub primary : table.primary ≡ 1 ∷ 2 ∷ []
  pub uniques : table.uniques ≡ (1 ∷ 2 ∷ []) ∷ []
  pub checks : table.checks ≡ []
  pub references : table.references ≡ []

-- Something else stands under the name: another table, or a view or an index.
abbrev pub HasOther : Schema → Type 0
HasOther schema = MatchOption (find (λ table. same_name table.name table_name) schema.tables)
    (IsSome (view_named schema table_name) ⊎ IsSome (index_named schema table_name))
    (λ table. ¬ IsRowsTable table)
