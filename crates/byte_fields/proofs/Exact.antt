-- Fields that are exact: what they read is spelled so, and what is spelled so is read, whatever follows it.
use Rattle.std.proofs.Common.{◌≡◌, ℕ, Bool, true, false, cond, List, [], ◌++◌, Option, Some, None, refl, sym, ap, ◌∙◌, append_assoc}
use Rattle.byte_fields.specs.Reading.{◌>>=◌, Field}
use Rattle.byte_fields.specs.Spelling.{AreBytes}

-- what an answer that is there came from
pub record Bound {A B : Type 0} (o : Option A) (f : A → Option B) (y : B) : Type 0 where
  pub value : A
  pub is : o ≡ Some value
  pub next : f value ≡ Some y

pub bound : {A B : Type 0} (o : Option A) (f : A → Option B) (y : B) → (o >>= f) ≡ Some y → Bound o f y
bound (Some x) f y e = record { value = x; is = refl; next = e }
bound None f y e = absurd cc

-- an answer that a test allows
pub unless_some : {A : Type 0} (b : Bool) (o : Option A) (y : A) → cond b None o ≡ Some y → (b ≡ false) × (o ≡ Some y)
unless_some true o y e = absurd cc
unless_some false o y e = (refl, e)

-- an answer that a test asks for
pub if_some : {A : Type 0} (b : Bool) (o : Option A) (y : A) → cond b o None ≡ Some y → (b ≡ true) × (o ≡ Some y)
if_some true o y e = (refl, e)
if_some false o y e = absurd cc

-- what was taken off the front of bytes
pub record Takes (bytes text rest : List ℕ) : Type 0 where
  pub parts : bytes ≡ text ++ rest
  pub rest_are : AreBytes rest

-- nothing yet
pub start : (bytes : List ℕ) → AreBytes bytes → Takes bytes [] bytes
start bytes are = record { parts = refl; rest_are = are }

-- one field more
pub Takes-then : (a x b y c : List ℕ) → Takes a x b → Takes b y c → Takes a (x ++ y) c
Takes-then a x b y c p q = record { parts = p.parts ∙ ap (λ t. x ++ t) q.parts ∙ sym (append_assoc x y c); rest_are = q.rest_are }

-- a field is exact
pub record IsExact {A : Type 0} (field : Field A) (spell : A → List ℕ) (IsIn : A → Type 0) : Type 0 where
  pub takes : (bytes : List ℕ) (x : A) (rest : List ℕ) → AreBytes bytes → field bytes ≡ Some (x, rest) → Takes bytes (spell x) rest × IsIn x
  pub again : (x : A) (rest : List ℕ) → IsIn x → field (spell x ++ rest) ≡ Some (x, rest)

-- a field that was read, and what was read behind it
pub taken : {A B : Type 0} {field : Field A} {spell : A → List ℕ} {IsIn : A → Type 0} → IsExact field spell IsIn → (all text bytes : List ℕ) (f : A × List ℕ → Option B) (y : B) (G : Type 0) → Takes all text bytes → (field bytes >>= f) ≡ Some y → ((x : A) (rest : List ℕ) → Takes all (text ++ spell x) rest → IsIn x → f (x, rest) ≡ Some y → G) → G
taken {A} {B} {field} {spell} exact all text bytes f y G t e go =
    let b = bound (field bytes) f y e in
    let u = exact.takes bytes b.value.0 b.value.1 t.rest_are b.is in
    go b.value.0 b.value.1 (Takes-then all text bytes (spell b.value.0) b.value.1 t u.0) u.1 b.next

-- a field that is read again, and what is read behind it
pub again : {A B : Type 0} {field : Field A} {spell : A → List ℕ} {IsIn : A → Type 0} → IsExact field spell IsIn → (x : A) (rest : List ℕ) (f : A × List ℕ → Option B) (y : Option B) → IsIn x → f (x, rest) ≡ y → (field (spell x ++ rest) >>= f) ≡ y
again exact x rest f y h next = ap (λ o. o >>= f) (exact.again x rest h) ∙ next
