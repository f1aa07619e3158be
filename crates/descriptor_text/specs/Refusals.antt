-- IsReadAs that may be out of memory.
use Rattle.std.specs.Prelude.{◌≡◌, Result, Ok, Err}
use Rattle.descriptor_text.specs.declared.refusals.ReadRefusal.{ReadRefusal}
use Rattle.descriptor_text.specs.declared.refusals.ReadRefusal.TheVariants.{Wrong, OutOfMemory}

-- An answer is what a definition gives, or out of memory.
abbrev pub IsReadAs : {A E : Type 0} → Result A (ReadRefusal E) → Result A E → Type 0
IsReadAs (Ok found) given = given ≡ Ok found
IsReadAs (Err (Wrong e)) given = given ≡ Err e
IsReadAs (Err OutOfMemory) given = Unit {0}
