-- How a start goes on from the rows that were loaded.
use Rattle.std.proofs.Common.{◌≡◌, ℕ, List, [], ◌∷◌, ◌++◌, Option, Some, None, IfSome, OnSome, All, inr, subst, arith}
use Rattle.std.proofs.lemmas.List.Elements.{All-push}
use Rattle.call_ticket.specs.Within.{IsShortWrite}
use Rattle.crash_base.specs.declared.rows.RowWrite.{RowWrite}
use Rattle.crash_base.specs.Rows.{AreOrdered}
use Rattle.outside.specs.declared.keeper.KeeperFault.{KeeperFault}
use Rattle.outside.specs.declared.keeper.KeeperFault.TheVariants.{OutOfMemory, Failed}
use Rattle.outside.specs.Keeper.{KeeperTold, loaded, TellsRefusal}
use Rattle.container_core.specs.Start.{boot_row, first_bad, refusal_of, AreGiven, AreGood, IsRefusedStart}
use Rattle.container_core.proofs.GoodRows.{good_short}

-- good rows are short with the row of a boot's number too
pub raised_short : (rows : List RowWrite) (n : ℕ) → first_bad rows ≡ None → All IsShortWrite (rows ++ boot_row n ∷ [])
raised_short rows n good = All-push IsShortWrite rows (boot_row n) (good_short [] rows good) (grind (arith))

-- what a keeper says of the rows that it gave
pub given : (told : Option KeeperTold) (rows : List RowWrite) → IfSome told (λ t. rows ≡ t.rows) → OnSome told (AreOrdered rows) → AreGiven rows told
given None rows same ordered = tt
given (Some t) rows same ordered = (same, ordered)

-- a keeper refused the number of the boot
pub refused_number : (fault : KeeperFault) (rows : List RowWrite) (old held new : Option KeeperTold)
    → AreGood old rows → held ≡ loaded old → TellsRefusal fault held new → IsRefusedStart (refusal_of fault) old new
refused_number Failed rows old held new good is tells =
    let P : Option KeeperTold → Type 0 = λ told. TellsRefusal Failed told new in
    inr (rows, good, subst P is tells)
refused_number OutOfMemory rows old held new good is tells =
    let P : Option KeeperTold → Type 0 = λ told. TellsRefusal OutOfMemory told new in
    inr (rows, good, inr (subst P is tells))
