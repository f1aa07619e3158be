-- Lists that grow while the items of an array are read.
use Rattle.std.proofs.Common.{◌≡◌, ℕ, suc, ◌+◌, add-one, List, [], ◌∷◌, ◌++◌, Option, option_map, Result, Ok, Err, refl, ap, append_assoc}
use Rattle.toml.specs.Data.{Data, Items, item}
use Rattle.descriptor_text.specs.declared.description.Description.{Description}
use Rattle.descriptor_text.specs.declared.refusals.WrongField.{WrongField}
use Rattle.descriptor_text.specs.Description.{description_of, descriptions_from, with_others}
use Rattle.descriptor_text.specs.Keys.{gathered}

-- what was gathered, and then what the other items give
abbrev pub gathered_after : {A : Type 0} → (Data → Option A) → List A → Items → Option (List A)
gathered_after read done rest = option_map (λ others. done ++ others) (gathered read rest)

-- what was described, and then what the other items describe
abbrev pub described_after : List Description → Result (List Description) WrongField → Result (List Description) WrongField
described_after done (Err wrong) = Err wrong
described_after done (Ok others) = Ok (done ++ others)

-- an item that describes a component adds it
pub described_after-item : (done : List Description) (place : ℕ) (d : Data) (rest : Items) (first : Description) → description_of d ≡ Ok first → described_after done (descriptions_from place (item d rest)) ≡ described_after (done ++ first ∷ []) (descriptions_from (place + 1) rest)
described_after-item done place d rest first gives = rw (gives, add-one) (go (descriptions_from (suc place) rest))
  where
    go : (others : Result (List Description) WrongField) → described_after done (with_others place (Ok first) others) ≡ described_after (done ++ first ∷ []) others
    go (Err wrong) = refl
    go (Ok others) = ap Ok (simp append_assoc)
