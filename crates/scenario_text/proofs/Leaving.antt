-- What answers leave.
use Rattle.std.proofs.Common.{◌≡◌, Bool, true, false, Option, Some, None, refl}
use Rattle.scenario_text.specs.Answer.{Answer, Refused, Done, refused_if, or_refused, within}

-- What an answer leaves is so, where it is not refused.
abbrev pub Leaves : {S : Type 0} → (S → Type 0) → Answer S → Type 0
Leaves P Refused = Unit {0}
Leaves P (Done s text) = P s

pub leaves-refused_if : {S : Type 0} (P : S → Type 0) (b : Bool) (a : Answer S) → (b ≡ false → Leaves P a) → Leaves P (refused_if b a)
leaves-refused_if P true a h = tt
leaves-refused_if P false a h = h refl

pub leaves-or_refused : {A S : Type 0} (P : S → Type 0) (o : Option A) (f : A → Answer S) → ((x : A) → o ≡ Some x → Leaves P (f x)) → Leaves P (or_refused o f)
leaves-or_refused P None f h = tt
leaves-or_refused P (Some x) f h = h x refl

pub leaves-within : {A S : Type 0} (P : S → Type 0) (whole : A → S) (a : Answer A) → Leaves (λ x. P (whole x)) a → Leaves P (within whole a)
leaves-within P whole Refused h = tt
leaves-within P whole (Done x text) h = h

pub leaves-weaker : {S : Type 0} (P Q : S → Type 0) (a : Answer S) → ((s : S) → P s → Q s) → Leaves P a → Leaves Q a
leaves-weaker P Q Refused weaker h = tt
leaves-weaker P Q (Done s text) weaker h = weaker s h

-- every answer leaves what always holds
pub leaves-nothing : {S : Type 0} (a : Answer S) → Leaves (λ s. Unit {0}) a
leaves-nothing Refused = tt
leaves-nothing (Done s text) = tt
