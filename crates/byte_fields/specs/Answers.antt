-- How the code tells what it read.
use Rattle.std.specs.Prelude.{◌≡◌, Option, Some, None, Result, Ok, Err}
use Rattle.byte_fields.specs.declared.error.NoField.{NoField}
use Rattle.byte_fields.specs.declared.error.ReadError.{ReadError}
use Rattle.byte_fields.specs.declared.error.ReadError.TheVariants.{Bad, OutOfMemory}

-- what was answered, seen by `view`, is what is read, and no field exactly where nothing is
abbrev pub Reads : {X Y : Type 0} → (X → Y) → Result X NoField → Option Y → Type 0
Reads view (Ok x) read = read ≡ Some (view x)
Reads view (Err error) read = read ≡ None

-- nothing is read, unless memory ran out
abbrev pub Fails : {Y : Type 0} → ReadError → Option Y → Type 0
Fails Bad read = read ≡ None
Fails OutOfMemory read = Unit {0}

-- what was answered, seen by `view`, is what is read, unless memory ran out
abbrev pub Answers : {X Y : Type 0} → (X → Y) → Result X ReadError → Option Y → Type 0
Answers view (Ok x) read = read ≡ Some (view x)
Answers view (Err error) read = Fails error read
