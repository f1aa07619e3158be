-- What a scenario asks of its keeper, with what the keeper answered.
use Rattle.std.specs.Prelude.{◌≡◌, ◌≢◌, ℕ, ◌≤◌, ◌⊎◌, Bool, true, false, List, [], ◌∷◌, ◌++◌, Option}
use Rattle.std.specs.List.{list_any}
use Rattle.crash_base.specs.declared.rows.RowWrite.{RowWrite}
use Rattle.outside.specs.Faults.{Rose}
use Rattle.outside.specs.declared.keeper.KeeperFault.TheVariants as faults
use Rattle.outside.specs.Keeper.{KeeperTold, loaded, applied, TellsRefusal}
use Rattle.container_core.specs.Start.{AreGiven}

-- A call of the keeper for which memory did not run out: `load` gave these rows, `apply` kept these writes, or either
-- failed.
pub data KeeperCall : Type 0 where
  Gave : (rows : List RowWrite) → KeeperCall
  Kept : (writes : List RowWrite) → KeeperCall
  Failed : KeeperCall

-- the call that hands over writes, which the keeper keeps or not
abbrev pub apply_calls : List RowWrite → Bool → List KeeperCall
apply_calls writes true = Kept writes ∷ []
apply_calls writes false = Failed ∷ []

-- What the keeper tells before and after one call.
abbrev pub TellsCall : KeeperCall → Option KeeperTold → Option KeeperTold → Type 0
TellsCall (Gave rows) old new = AreGiven rows old × (new ≡ loaded old)
TellsCall (Kept writes) old new = new ≡ applied writes old
TellsCall Failed old new = TellsRefusal faults.Failed old new

-- What the keeper tells before and after calls, one after the other, and no other call.
abbrev pub TellsCalls : List KeeperCall → Option KeeperTold → Option KeeperTold → Type 0
TellsCalls [] old new = new ≡ old
TellsCalls (call ∷ calls) old new =
    (between : Option KeeperTold) × TellsCall call old between × TellsCalls calls between new

-- whether the keeper failed at a call
abbrev pub is_failed : KeeperCall → Bool
is_failed (Gave rows) = false
is_failed (Kept writes) = false
is_failed Failed = true

-- whether the keeper failed at one of these calls
abbrev pub has_failed : List KeeperCall → Bool
has_failed calls = list_any is_failed calls

-- What is seen of a keeper: what it tells, where it does, and its count of faults.
pub record KeeperSeen : Type 0 where
  pub told : Option KeeperTold
  pub faults : ℕ

-- what is seen of a keeper that tells this and has failed so often
abbrev pub seen : Option KeeperTold → ℕ → KeeperSeen
seen told faults = record { told = told; faults = faults }

-- The count of faults did not fall over these calls, and rose where the keeper failed at one.
pub record AreCounted (calls : List KeeperCall) (old new : ℕ) : Type 0 where
  pub count : old ≤ new
  pub failed : has_failed calls ≡ true → Rose old new

-- These calls of the keeper were made, one after the other, and no other call.
pub record AreMade (calls : List KeeperCall) (old new : KeeperSeen) : Type 0 where
  pub told : TellsCalls calls old.told new.told
  pub counted : AreCounted calls old.faults new.faults

-- The first of these calls of the keeper were made, and then maybe the next one, for which it had no memory.
pub record AreSomeMade (calls : List KeeperCall) (old new : KeeperSeen) : Type 0 where
  pub made : List KeeperCall
  pub more : List KeeperCall
  pub begins : calls ≡ made ++ more
  pub between : Option KeeperTold
  pub told : TellsCalls made old.told between
  pub last : (new.told ≡ between) ⊎ ((more ≢ []) × TellsRefusal faults.OutOfMemory between new.told)
  pub counted : AreCounted made old.faults new.faults

-- The first of these calls of the keeper were made; or none was, and maybe it had no memory for one.
pub record AreSomeAsked (calls : List KeeperCall) (old new : KeeperSeen) : Type 0 where
  pub made : List KeeperCall
  pub more : List KeeperCall
  pub begins : calls ≡ made ++ more
  pub between : Option KeeperTold
  pub told : TellsCalls made old.told between
  pub last : (new.told ≡ between) ⊎ ((made ≡ []) × TellsRefusal faults.OutOfMemory between new.told)
  pub counted : AreCounted made old.faults new.faults
