-- Fields that are made of exact fields are exact.
use Rattle.std.proofs.Common.{◌≡◌, List, ℕ, ◌++◌, Option, Some, None, refl, ap, subst, ◌∙◌, append_assoc}
use Rattle.std.specs.Option.{option_map, option_and_then}
use Rattle.byte_fields.specs.Reading.{Field, made, both}
use Rattle.crash_base.proofs.Options.{then_some, map_some}
use Rattle.byte_fields.proofs.Exact.{Takes, Takes-then, IsExact}

-- how a value is made of another's, and that other found again
pub record IsMade {A B : Type 0} (make : A → B) (part : B → A) (spell : A → List ℕ) (spell_made : B → List ℕ) (IsIn : A → Type 0) (IsMadeIn : B → Type 0) : Type 0 where
  pub spelled : (x : A) → IsIn x → spell x ≡ spell_made (make x)
  pub is_in : (x : A) → IsIn x → IsMadeIn (make x)
  pub found : (y : B) → IsMadeIn y → make (part y) ≡ y
  pub found_spelled : (y : B) → IsMadeIn y → spell_made y ≡ spell (part y)
  pub found_in : (y : B) → IsMadeIn y → IsIn (part y)

-- the field that is made so
pub made_exact : {A B : Type 0} {field : Field A} {spell : A → List ℕ} {IsIn : A → Type 0} (make : A → B) (part : B → A) (spell_made : B → List ℕ) (IsMadeIn : B → Type 0) → IsExact field spell IsIn → IsMade make part spell spell_made IsIn IsMadeIn → IsExact (made make field) spell_made IsMadeIn
made_exact {A} {B} {field} {spell} {IsIn} make part spell_made IsMadeIn f m = record {
  takes = λ bytes y rest are e.
      let (x, xe, ye) = map_some (λ (x : A × List ℕ). (make x.0, x.1)) (field bytes) (y, rest) e in
      let t = f.takes bytes x.0 x.1 are xe in
      let P : B × List ℕ → Type 0 = λ z. Takes bytes (spell_made z.0) z.1 × IsMadeIn z.0 in
      let parts : bytes ≡ spell_made (make x.0) ++ x.1 = t.0.parts ∙ ap (λ s. s ++ x.1) (m.spelled x.0 t.1) in
      subst P ye (record { parts = parts; rest_are = t.0.rest_are }, m.is_in x.0 t.1);
  again = λ y rest h.
      ap (λ s. made make field (s ++ rest)) (m.found_spelled y h) ∙ ap (option_map (λ (x : A × List ℕ). (make x.0, x.1))) (f.again (part y) rest (m.found_in y h)) ∙ ap (λ z. Some (z, rest)) (m.found y h);
}

-- one field and then another
pub both_exact : {A B : Type 0} {first : Field A} {second : Field B} {spell : A → List ℕ} {spell_second : B → List ℕ} {IsIn : A → Type 0} {IsInSecond : B → Type 0} → IsExact first spell IsIn → IsExact second spell_second IsInSecond → IsExact (both first second) (λ p. spell p.0 ++ spell_second p.1) (λ p. IsIn p.0 × IsInSecond p.1)
both_exact {A} {B} {first} {second} {spell} {spell_second} {IsIn} {IsInSecond} f s = record {
  takes = λ bytes p rest are e.
      let (x, xe, he) = then_some (λ (x : A × List ℕ). option_map (λ (y : B × List ℕ). ((x.0, y.0), y.1)) (second x.1)) (first bytes) (p, rest) e in
      let (y, ye, pe) = map_some (λ (y : B × List ℕ). ((x.0, y.0), y.1)) (second x.1) (p, rest) he in
      let t = f.takes bytes x.0 x.1 are xe in
      let u = s.takes x.1 y.0 y.1 t.0.rest_are ye in
      let P : (A × B) × List ℕ → Type 0 = λ z. Takes bytes (spell z.0.0 ++ spell_second z.0.1) z.1 × (IsIn z.0.0 × IsInSecond z.0.1) in
      subst P pe (Takes-then bytes (spell x.0) x.1 (spell_second y.0) y.1 t.0 u.0, (t.1, u.1));
  again = λ p rest h.
      ap (both first second) (append_assoc (spell p.0) (spell_second p.1) rest) ∙ rw (f.again p.0 (spell_second p.1 ++ rest) h.0, s.again p.1 rest h.1) refl;
}
