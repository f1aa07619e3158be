-- Lists of those that a read asks.
use Rattle.std.proofs.Common.{◌≡◌, inl, inr, ℕ, zero, suc, ◌==◌, true, false, not, List, [], ◌∷◌, map, Some, None, refl, sym, ap, ◌∙◌}
use Rattle.std.specs.Prelude.{slice_get, slice_set}
use Rattle.std.specs.List.{list_any}
use Rattle.crash_base.specs.declared.numbers.BrickNo.{BrickNo}
use Rattle.session_cookie.specs.declared.cookie.Holder.{Holder}
use Rattle.ssm_stub.specs.declared.ask.Ask.{Ask}
use Rattle.ssm_stub.specs.declared.ear.Outcome.{Outcome}
use Rattle.ssm_stub.specs.declared.ear.Outcome.TheVariants.{Answered, Silent, Strayed}
use Rattle.ssm_stub.specs.declared.ear.Ear.{Ear}
use Rattle.ssm_stub.specs.declared.ear.Ear.TheVariants.{Open, Heard}
use Rattle.ssm_stub.specs.declared.reply.ReadReply.{ReadReply}
use Rattle.ssm_stub.specs.declared.reply.ReadReply.TheVariants.{Found, Crashed, Swept}
use Rattle.ssm_stub.specs.Turns.{is_open}
use Rattle.ssm_stub.specs.Reads.{found_in}
use Rattle.ssm_stub.proofs.ReadOrder.{is_lost, InOrder, lost_not_found, found_behind, found_first, none_found}
use Rattle.ssm_world.specs.Worlds.{same_brick, are_distinct}
use Rattle.ssm_world.proofs.Lists.{none_passes}
use Rattle.ssm_world.proofs.Tests.{both, number_same}

same_of : (a b : BrickNo) → a.0 ≡ b.0 → same_brick a b ≡ true
same_of a b same = ap (λ k. k == b.0) same ∙ number_same b.0

-- a brick that is not among others stands apart from them
not_among : (x : BrickNo) (xs : List BrickNo) (j : ℕ) (b : BrickNo) → not (list_any (same_brick x) xs) ≡ true → slice_get xs j ≡ Some b → x.0 ≡ b.0 → ⊥
not_among x xs j b none there same =
    let no : same_brick x b ≡ false = none_passes (same_brick x) xs j b none there in
    let yes : same_brick x b ≡ true = same_of x b same in
    cc

-- distinct bricks stand at different places
pub distinct_at : (bricks : List BrickNo) → are_distinct bricks ≡ true → (i j : ℕ) (a b : BrickNo) → slice_get bricks i ≡ Some a → slice_get bricks j ≡ Some b → a.0 ≡ b.0 → i ≡ j
distinct_at [] distinct i j a b at_i at_j same = absurd (cc)
distinct_at (x ∷ xs) distinct zero zero a b at_i at_j same = refl
distinct_at (x ∷ xs) distinct zero (suc j) a b at_i at_j same =
    let first : x ≡ a = cc in
    absurd (not_among x xs j b (both _ _ distinct).0 at_j (ap (λ (y : BrickNo). y.0) first ∙ same))
distinct_at (x ∷ xs) distinct (suc i) zero a b at_i at_j same =
    let first : x ≡ b = cc in
    absurd (not_among x xs i a (both _ _ distinct).0 at_i (ap (λ (y : BrickNo). y.0) first ∙ sym same))
distinct_at (x ∷ xs) distinct (suc i) (suc j) a b at_i at_j same = ap suc (distinct_at xs (both _ _ distinct).1 i j a b at_i at_j same)

pub map_agree : {A B : Type 0} (f g : A → B) (xs : List A) → ((j : ℕ) (a : A) → slice_get xs j ≡ Some a → f a ≡ g a) → map f xs ≡ map g xs
map_agree f g [] agree = refl
map_agree f g (x ∷ xs) agree = λ i. agree zero x refl i ∷ map_agree f g xs (λ j a at. agree (suc j) a at) i

-- a list where one item changes, whose image is that of the item that stood there
pub map_set_agree : {A B : Type 0} (f g : A → B) (xs : List A) (k : ℕ) (old new : A) → slice_get xs k ≡ Some old → f new ≡ g old → ((j : ℕ) (a : A) → (j ≡ k → ⊥) → slice_get xs j ≡ Some a → f a ≡ g a) → map f (slice_set xs k new) ≡ map g xs
map_set_agree f g [] k old new there same agree = absurd (cc)
map_set_agree f g (x ∷ xs) zero old new there same agree =
    let first : x ≡ old = cc in
    let here : f new ≡ g x = same ∙ ap g (sym first) in
    λ i. here i ∷ map_agree f g xs (λ j a at. agree (suc j) a (λ e. cc) at) i
map_set_agree f g (x ∷ xs) (suc k) old new there same agree =
    λ i. agree zero x (λ e. cc) refl i ∷ map_set_agree f g xs k old new there same (λ j a apart at. agree (suc j) a (λ e. apart (cc)) at) i

map_same : {A : Type 0} (f : A → A) (xs : List A) → ((j : ℕ) (a : A) → slice_get xs j ≡ Some a → f a ≡ a) → map f xs ≡ xs
map_same f [] same = refl
map_same f (x ∷ xs) same = λ i. same zero x refl i ∷ map_same f xs (λ j a at. same (suc j) a at) i

abbrev ask_with : Holder → Ear ReadReply → Ask Holder ReadReply
ask_with who ear = record { who = who; ear = ear }

-- those that are asked, each with what is expected of it by what was heard
abbrev pub with_ears : (Holder → Ear ReadReply → Ear ReadReply) → List (Ask Holder ReadReply) → List (Ask Holder ReadReply)
with_ears expect asks = map (λ (ask : Ask Holder ReadReply). record ask { ear = expect ask.who ask.ear }) asks

-- an outcome that was heard stays
abbrev pub KeepsHeard : (Holder → Ear ReadReply → Ear ReadReply) → Type 0
KeepsHeard expect = (who : Holder) (outcome : Outcome ReadReply) → expect who (Heard outcome) ≡ Heard outcome

pub all_heard_same : (expect : Holder → Ear ReadReply → Ear ReadReply) (asks : List (Ask Holder ReadReply)) → KeepsHeard expect → ((i : ℕ) (ask : Ask Holder ReadReply) → slice_get asks i ≡ Some ask → is_open ask ≡ false) → with_ears expect asks ≡ asks
all_heard_same expect asks keeps closed = map_same _ asks (λ j ask at. go ask.who ask.ear (closed j ask at)) where
  go : (who : Holder) (ear : Ear ReadReply) → is_open (ask_with who ear) ≡ false → ask_with who (expect who ear) ≡ ask_with who ear
  go who (Open stage) is = absurd (cc)
  go who (Heard outcome) is = ap (ask_with who) (keeps who outcome)

-- what was found stays found
pub found_stays : (expect : Holder → Ear ReadReply → Ear ReadReply) (asks : List (Ask Holder ReadReply)) (value : List ℕ) → KeepsHeard expect → InOrder asks → found_in asks ≡ Some value → found_in (with_ears expect asks) ≡ Some value
unfolding InOrder is_lost
found_stays expect [] value keeps order found = absurd (cc)
found_stays expect (ask ∷ asks) value keeps (inl (lost, rest)) found = go ask.who ask.ear lost found (found_stays expect asks value keeps rest) where
  go : (who : Holder) (ear : Ear ReadReply) → is_lost ear ≡ true → found_in (record { who = who; ear = ear } ∷ asks) ≡ Some value → (found_in asks ≡ Some value → found_in (with_ears expect asks) ≡ Some value)
      → found_in (record { who = who; ear = expect who ear } ∷ with_ears expect asks) ≡ Some value
  go who (Open stage) lost found later = absurd (cc)
  go who (Heard outcome) lost found later =
      let none = lost_not_found who (Heard outcome) lost in
      ap (λ ear. found_in (record { who = who; ear = ear } ∷ with_ears expect asks)) (keeps who outcome)
      ∙ found_behind (record { who = who; ear = Heard outcome }) (with_ears expect asks) none
      ∙ later (sym (found_behind (record { who = who; ear = Heard outcome }) asks none) ∙ found)
found_stays expect (ask ∷ asks) value keeps (inr (here, fresh)) found = go ask.who ask.ear here found where
  go : (who : Holder) (ear : Ear ReadReply) → is_lost ear ≡ false → found_in (record { who = who; ear = ear } ∷ asks) ≡ Some value → found_in (record { who = who; ear = expect who ear } ∷ with_ears expect asks) ≡ Some value
  go who (Open stage) here found = absurd (
      let e : None ≡ Some value = sym (found_behind (record { who = who; ear = Open stage }) asks refl ∙ none_found asks fresh) ∙ found in
      cc)
  go who (Heard (Answered (Found v))) here found =
      ap (λ ear. found_in (record { who = who; ear = ear } ∷ with_ears expect asks)) (keeps who (Answered (Found v)))
      ∙ found_first who v (with_ears expect asks)
      ∙ sym (found_first who v asks) ∙ found
  go who (Heard (Answered (Crashed i))) here found = absurd (cc)
  go who (Heard (Answered (Swept moment))) here found = absurd (cc)
  go who (Heard Silent) here found = absurd (cc)
  go who (Heard Strayed) here found = absurd (cc)
