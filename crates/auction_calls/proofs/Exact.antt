-- Fields that are found from exact fields are exact.
use Rattle.std.proofs.Common.{◌≡◌, List, ℕ, ◌++◌, Option, Some, ap, subst, ◌∙◌}
use Rattle.std.specs.Option.{option_map, option_and_then}
use Rattle.byte_fields.specs.Reading.{Field}
use Rattle.byte_fields.proofs.Exact.{Takes, IsExact}
use Rattle.crash_base.proofs.Options.{then_some, map_some}
use Rattle.auction_calls.specs.Reading.{found}

-- how a value is found from another's, and that other again
pub record IsFound {A B : Type 0} (find : A → Option B) (part : B → A) (spell : A → List ℕ) (spell_found : B → List ℕ) (IsIn : A → Type 0) (IsFoundIn : B → Type 0) : Type 0 where
  pub spelled : (x : A) (y : B) → IsIn x → find x ≡ Some y → spell x ≡ spell_found y
  pub is_in : (x : A) (y : B) → IsIn x → find x ≡ Some y → IsFoundIn y
  pub found : (y : B) → IsFoundIn y → find (part y) ≡ Some y
  pub found_spelled : (y : B) → IsFoundIn y → spell_found y ≡ spell (part y)
  pub found_in : (y : B) → IsFoundIn y → IsIn (part y)

-- the field that is found so
pub found_exact : {A B : Type 0} {field : Field A} {spell : A → List ℕ} {IsIn : A → Type 0} (find : A → Option B) (part : B → A) (spell_found : B → List ℕ) (IsFoundIn : B → Type 0) → IsExact field spell IsIn → IsFound find part spell spell_found IsIn IsFoundIn → IsExact (found find field) spell_found IsFoundIn
found_exact {A} {B} {field} {spell} {IsIn} find part spell_found IsFoundIn f m = record {
  takes = λ bytes y rest are e.
      let (x, xe, he) = then_some (λ (x : A × List ℕ). option_map (λ (y : B). (y, x.1)) (find x.0)) (field bytes) (y, rest) e in
      let (z, ze, pe) = map_some (λ (y : B). (y, x.1)) (find x.0) (y, rest) he in
      let t = f.takes bytes x.0 x.1 are xe in
      let P : B × List ℕ → Type 0 = λ p. Takes bytes (spell_found p.0) p.1 × IsFoundIn p.0 in
      let parts : bytes ≡ spell_found z ++ x.1 = t.0.parts ∙ ap (λ s. s ++ x.1) (m.spelled x.0 z t.1 ze) in
      subst P pe (record { parts = parts; rest_are = t.0.rest_are }, m.is_in x.0 z t.1 ze);
  again = λ y rest h.
      ap (λ s. found find field (s ++ rest)) (m.found_spelled y h) ∙ ap (option_and_then (λ (x : A × List ℕ). option_map (λ (y : B). (y, x.1)) (find x.0))) (f.again (part y) rest (m.found_in y h)) ∙ ap (option_map (λ (y : B). (y, rest))) (m.found y h);
}
