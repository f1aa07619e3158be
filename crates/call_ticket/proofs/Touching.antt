-- A touch that is added leaves no two of one group.
use Rattle.std.proofs.Common.{◌≡◌, ℕ, ◌==◌, false, List, [], ◌∷◌, ◌++◌, Some, None, Option, refl, arith}
use Rattle.std.proofs.lemmas.Bool.{or_parts}
use Rattle.std.proofs.lemmas.Bool.Decides.{nat_tests}
use Rattle.std.proofs.lemmas.List.Folds.{list_any-append}
use Rattle.journal_model.specs.declared.entry.Touch.{Touch}
use Rattle.journal_model.specs.Calls.{is_touched}
use Rattle.call_ticket.specs.Ticket.{IsFirst, with_touch}
use Rattle.call_ticket.specs.Within.{AreOfOtherGroups}

-- a group is not touched by a touch of another one either
still_first : (ts : List Touch) (t : Touch) (g : ℕ) → is_touched ts g ≡ false → (g == t.group.0) ≡ false → is_touched (ts ++ t ∷ []) g ≡ false
still_first ts t g new other =
    let its : (t.group.0 == g) ≡ false = grind (arith, nat_tests) in
    rw (list_any-append, new, its) refl

groups_push : (ts : List Touch) (t : Touch) → AreOfOtherGroups ts → is_touched ts t.group.0 ≡ false → AreOfOtherGroups (ts ++ t ∷ [])
groups_push [] t apart new = (refl, tt)
groups_push (x ∷ xs) t apart new =
    let r = or_parts (x.group.0 == t.group.0) (is_touched xs t.group.0) new in
    (still_first xs t x.group.0 apart.0 r.0, groups_push xs t apart.1 r.1)

pub groups_with : (ts : List Touch) (touch : Option Touch) → IsFirst ts touch → AreOfOtherGroups ts → AreOfOtherGroups (with_touch ts touch)
groups_with ts None first apart = apart
groups_with ts (Some t) first apart = groups_push ts t apart first
