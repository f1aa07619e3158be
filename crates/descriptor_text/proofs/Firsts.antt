-- A wrong field that is reported is the first one.
use Rattle.std.proofs.Common.{◌≡◌, sym, subst, refl, ℕ, zero, suc, ◌+◌, ◌<◌, Result, Ok, Err, List, Some, arith, add-zero}
use Rattle.toml.specs.Data.{Data, Items, no_items, item, get_item}
use Rattle.descriptor_text.specs.declared.description.Description.{Description}
use Rattle.descriptor_text.specs.declared.refusals.FieldName.{FieldName}
use Rattle.descriptor_text.specs.declared.refusals.WrongField.{WrongField}
use Rattle.descriptor_text.specs.Description.{descriptions_from, descriptions_of, description_of, with_others, IsFirstWrong}

-- the item at a place describes a component
abbrev IsDescribed : ℕ → Items → Type 0
IsDescribed k items = (d : Data) × (first : Description) × (get_item k items ≡ Some d) × (description_of d ≡ Ok first)

-- the wrong field, so many places after the first item
record IsFirstFrom (place : ℕ) (items : Items) (wrong : WrongField) : Type 0 where
  after : ℕ
  component : wrong.component ≡ place + after
  there : (d : Data) × (get_item after items ≡ Some d) × (description_of d ≡ Err wrong.field)
  before : (k : ℕ) → k < after → IsDescribed k items

before_more : (d : Data) (rest : Items) (first : Description) → description_of d ≡ Ok first → (n : ℕ) → ((k : ℕ) → k < n → IsDescribed k rest) → (k : ℕ) → k < suc n → IsDescribed k (item d rest)
before_more d rest first is n before zero below = (d, first, refl, is)
before_more d rest first is n before (suc k) below = before k (omega arith)

first_here : (place : ℕ) (d : Data) (rest : Items) (field : FieldName) → description_of d ≡ Err field → IsFirstFrom place (item d rest) (record { component = place; field = field })
first_here place d rest field is = record { after = 0; component = sym (add-zero place); there = (d, refl, is); before = λ k below. absurd (omega arith) }

first_later : (place : ℕ) (d : Data) (rest : Items) (first : Description) (wrong : WrongField) → description_of d ≡ Ok first → IsFirstFrom (suc place) rest wrong → IsFirstFrom place (item d rest) wrong
first_later place d rest first wrong is later = record { after = suc later.after; component = omega (arith, later.component); there = later.there; before = before_more d rest first is later.after later.before }

first_from : (place : ℕ) (items : Items) (wrong : WrongField) → descriptions_from place items ≡ Err wrong → IsFirstFrom place items wrong
first_from place no_items wrong h = absurd (cc)
first_from place (item d rest) wrong h = go (description_of d) refl (descriptions_from (suc place) rest) (first_from (suc place) rest) h
  where
    go : (here : Result Description FieldName) → description_of d ≡ here → (others : Result (List Description) WrongField) → ((w : WrongField) → others ≡ Err w → IsFirstFrom (suc place) rest w) → with_others place here others ≡ Err wrong → IsFirstFrom place (item d rest) wrong
    go (Err field) is others later h =
        let same : record { component = place; field = field } ≡ wrong = cc in
        subst (λ w. IsFirstFrom place (item d rest) w) same (first_here place d rest field is)
    go (Ok first) is (Ok others) later h = absurd (cc)
    go (Ok first) is (Err deeper) later h = first_later place d rest first wrong is (later wrong h)

pub first_wrong : (items : Items) (wrong : WrongField) → descriptions_of items ≡ Err wrong → IsFirstWrong items wrong
first_wrong items wrong h =
    let found = first_from 0 items wrong h in
    let place : found.after ≡ wrong.component = omega (arith, found.component) in
    record {
      there = subst (λ k. (d : Data) × (get_item k items ≡ Some d) × (description_of d ≡ Err wrong.field)) place found.there;
      before = λ k below. found.before k (omega (arith, place));
    }
