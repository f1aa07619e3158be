-- What the order of places says of ids.
use Rattle.std.proofs.Common.{◌≡◌, Bool, true, false, cond, ◌&&◌, ◌||◌, ◌==◌, nat_lt, refl, arith}
use Rattle.std.proofs.lemmas.Bool.Decides.{nat_tests}
use Rattle.std.specs.declared.cmp.Ordering.{Ordering}
use Rattle.std.specs.declared.cmp.Ordering.TheVariants.{Less, Equal, Greater}
use Rattle.std.specs.Ordering.{ordering_then}
use Rattle.crash_base.specs.declared.row_id.RowId.{RowId}
use Rattle.crash_base.specs.RowId.{id_before}
use Rattle.crash_base.proofs.IdOrder.{same_id-true, id_after}
use Rattle.outside.specs.Places.{place_order, place_of}

-- the order of two numbers, by the tests for less and for equal
abbrev number_order : Bool → Bool → Ordering
number_order less same = cond less Less (cond same Equal Greater)

less_tests : (lt eq lt' eq' : Bool) → ordering_then (number_order lt eq) (number_order lt' eq') ≡ Less → (lt || (eq && lt')) ≡ true
less_tests true eq lt' eq' h = refl
less_tests false true true eq' h = refl
less_tests false true false true h = cc
less_tests false true false false h = cc
less_tests false false lt' eq' h = cc

equal_tests : (lt eq lt' eq' : Bool) → ordering_then (number_order lt eq) (number_order lt' eq') ≡ Equal → (eq && eq') ≡ true
equal_tests true eq lt' eq' h = cc
equal_tests false true true eq' h = cc
equal_tests false true false true h = refl
equal_tests false true false false h = cc
equal_tests false false lt' eq' h = cc

greater_tests : (lt eq lt' eq' : Bool) → ordering_then (number_order lt eq) (number_order lt' eq') ≡ Greater → ((lt || (eq && lt')) ≡ false) × ((eq && eq') ≡ false)
greater_tests true eq lt' eq' h = cc
greater_tests false true true eq' h = cc
greater_tests false true false true h = cc
greater_tests false true false false h = (refl, refl)
greater_tests false false lt' eq' h = (refl, refl)

pub place_less : (a b : RowId) → place_order (place_of a) (place_of b) ≡ Less → id_before a b ≡ true
place_less a b h = less_tests (nat_lt a.table b.table) (a.table == b.table) (nat_lt a.key b.key) (a.key == b.key) h

pub place_equal : (a b : RowId) → place_order (place_of a) (place_of b) ≡ Equal → a ≡ b
place_equal a b h = same_id-true a b (equal_tests (nat_lt a.table b.table) (a.table == b.table) (nat_lt a.key b.key) (a.key == b.key) h)

pub place_greater : (a b : RowId) → place_order (place_of a) (place_of b) ≡ Greater → id_before b a ≡ true
place_greater a b h = let tests = greater_tests (nat_lt a.table b.table) (a.table == b.table) (nat_lt a.key b.key) (a.key == b.key) h in id_after a b tests.0 tests.1

pub not_before_itself : (a : RowId) → id_before a a ≡ false
not_before_itself a = grind (arith, nat_tests)

pub not_before_back : (a b : RowId) → id_before a b ≡ true → id_before b a ≡ false
not_before_back a b before = grind (arith, nat_tests)
