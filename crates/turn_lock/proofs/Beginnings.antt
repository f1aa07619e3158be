-- What two seats saw, once they are joined.
use Rattle.std.proofs.Common.{◌≡◌, Bool, true, false, if◌then◌else◌, nat_lt, List, [], length, sym, subst, append-nil}
use mathlib.Core.List.{IsPrefix}
use Rattle.turn_lock.specs.Turns.{longer, shorter}

first_begins : {X : Type 0} (xs ys : List X) (b : Bool) → IsPrefix (if b then xs else ys) (if b then ys else xs) → IsPrefix xs (if b then ys else xs)
first_begins xs ys true p = p
first_begins xs ys false p = ([], append-nil xs)

second_begins : {X : Type 0} (xs ys : List X) (b : Bool) → IsPrefix (if b then xs else ys) (if b then ys else xs) → IsPrefix ys (if b then ys else xs)
second_begins xs ys true p = ([], append-nil ys)
second_begins xs ys false p = p

-- where the shorter of two lists begins the longer, each of them does
pub mine_begins : {X : Type 0} (xs ys zs : List X) → zs ≡ longer xs ys → IsPrefix (shorter xs ys) (longer xs ys) → IsPrefix xs zs
mine_begins xs ys zs e p = subst (IsPrefix xs) (sym e) (first_begins xs ys (nat_lt (length xs) (length ys)) p)

pub others_begin : {X : Type 0} (xs ys zs : List X) → zs ≡ longer xs ys → IsPrefix (shorter xs ys) (longer xs ys) → IsPrefix ys zs
others_begin xs ys zs e p = subst (IsPrefix ys) (sym e) (second_begins xs ys (nat_lt (length xs) (length ys)) p)
