-- Numbers that were read are in their range.
use Rattle.std.proofs.Common.{◌≡◌, ℕ, ◌≤◌, ◌||◌, nat_lt, Bool, true, false, cond, List, Option, Some, None, Ok, Err, refl, subst}
use Rattle.std.proofs.lemmas.Bool.{ltb-false}
use Rattle.decimal_digits.specs.Digits.{plain_number}
use Rattle.form_values.specs.Values.{field_text, number_field, number_in, number_within}
use Rattle.form_values.specs.declared.refusal.FieldRefusal.TheVariants.{Range}

not_more : (least most value v : ℕ) → Ok value ≡ number_within least most (Some v) → value ≤ most
not_more least most value v is = by (nat_lt v least) (nat_lt most v) refl is
  where
    by : (few many : Bool) → nat_lt most v ≡ many
        → Ok value ≡ (cond (few || many) (Err (Range v)) (Ok v)) → value ≤ most
    by true many e h = absurd (cc)
    by false true e h = absurd (cc)
    by false false e h =
        let same : v ≡ value = cc in
        subst (λ n. n ≤ most) same (ltb-false most v e)

by_number : (least most value : ℕ) (n : Option ℕ) → Ok value ≡ number_within least most n → value ≤ most
by_number least most value None is = absurd (cc)
by_number least most value (Some v) is = not_more least most value v is

by_text : (least most value : ℕ) (text : Option (List ℕ)) → Ok value ≡ number_in least most text → value ≤ most
by_text least most value None is = absurd (cc)
by_text least most value (Some t) is = by_number least most value (plain_number t) is

pub number_below : (form name : List ℕ) (least most value : ℕ) → Ok value ≡ number_field form name least most → value ≤ most
number_below form name least most value is = by_text least most value (field_text form name) is
