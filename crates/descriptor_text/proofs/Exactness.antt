-- Besides out of memory, each text has exactly one answer.
use Rattle.std.proofs.Common.{◌≡◌, ◌≢◌, ◌∙◌, sym, ap, refl, ℕ, Bool, true, false, List, Option, Some, None, Result, Ok, Err, ◌⊎◌, inl, inr}
use Rattle.std.specs.Str.{is_utf8}
use Rattle.std.proofs.lemmas.Bool.{both_ways}
use Rattle.std.proofs.lemmas.Option.{none-some, same_Some}
use Rattle.std.proofs.lemmas.Str.{IsUtf8-from_is_utf8, is_utf8-from_IsUtf8}
use Rattle.deployment.specs.declared.parts.Parts.{Parts}
use Rattle.deployment.specs.Refusals.{deploy_refusal}
use Rattle.deployment.specs.declared.refusals.DeployRefusal.{DeployRefusal}
use Rattle.toml.specs.Data.{Members}
use Rattle.toml.specs.Parse.{parse_document}
use Rattle.descriptor_text.specs.declared.refusals.TextRefusal.{TextRefusal}
use Rattle.descriptor_text.specs.declared.refusals.TextRefusal.TheVariants.{NotToml, Field, Deploy, OutOfMemory}
use Rattle.descriptor_text.specs.declared.refusals.WrongField.{WrongField}
use Rattle.descriptor_text.specs.Text.{SpellsDocument, SpellsNoDocument, Describes, IsAnswer, parts_in}

-- what parts are answered with, by their refusal
abbrev checked : Parts → Option DeployRefusal → Result Parts TextRefusal
checked parts None = Ok parts
checked parts (Some refusal) = Err (Deploy refusal)

-- what a document is answered with, by what it describes
abbrev answer_to : Result Parts WrongField → Result Parts TextRefusal
answer_to (Err wrong) = Err (Field wrong.component wrong.field)
answer_to (Ok parts) = checked parts (deploy_refusal parts)

-- bytes spell a document or none
spelled_or_not : (text : List ℕ) → ((document : Members) × SpellsDocument text document) ⊎ SpellsNoDocument text
spelled_or_not text = go (is_utf8 text) refl (parse_document text) refl
  where
    go : (valid : Bool) → is_utf8 text ≡ valid → (found : Option Members) → parse_document text ≡ found → ((document : Members) × SpellsDocument text document) ⊎ SpellsNoDocument text
    go true valid (Some document) found = inl (document, (IsUtf8-from_is_utf8 text valid, found))
    go true valid None found = inr (λ document spelled. none-some document (sym found ∙ spelled.1))
    go false valid parsed found = inr (λ document spelled. both_ways (is_utf8 text) valid (is_utf8-from_IsUtf8 text spelled.0))

-- and one document at most, which describes one thing
describes_one : (text : List ℕ) (document : Members) (given : Result Parts WrongField) → SpellsDocument text document → Describes text given → parts_in document ≡ given
describes_one text document given spelled (other, also, describes) = ap parts_in (same_Some document other (sym spelled.1 ∙ also.1)) ∙ describes

-- where they spell one, each answer is that to the document
answer_spelled : (text : List ℕ) (document : Members) (a : Result Parts TextRefusal) → SpellsDocument text document → IsAnswer text a → a ≢ Err OutOfMemory → answer_to (parts_in document) ≡ a
answer_spelled text document (Ok parts) spelled (describes, none) found = ap answer_to (describes_one text document (Ok parts) spelled describes) ∙ ap (checked parts) none
answer_spelled text document (Err NotToml) spelled none found = absurd (none document spelled)
answer_spelled text document (Err (Field component field)) spelled describes found = ap answer_to (describes_one text document (Err (record { component = component; field = field })) spelled describes)
answer_spelled text document (Err (Deploy refusal)) spelled (parts, describes, refused) found = ap answer_to (describes_one text document (Ok parts) spelled describes) ∙ ap (checked parts) refused
answer_spelled text document (Err OutOfMemory) spelled is found = absurd (found refl)

-- and where they spell none, each answer is that
answer_not_spelled : (text : List ℕ) (a : Result Parts TextRefusal) → SpellsNoDocument text → IsAnswer text a → a ≢ Err OutOfMemory → Err NotToml ≡ a
answer_not_spelled text (Ok parts) none ((document, spelled, is), accepted) found = absurd (none document spelled)
answer_not_spelled text (Err NotToml) none is found = refl
answer_not_spelled text (Err (Field component field)) none (document, spelled, is) found = absurd (none document spelled)
answer_not_spelled text (Err (Deploy refusal)) none (parts, (document, spelled, is), refused) found = absurd (none document spelled)
answer_not_spelled text (Err OutOfMemory) none is found = absurd (found refl)

pub one_answer : (text : List ℕ) (a b : Result Parts TextRefusal) → IsAnswer text a → IsAnswer text b → a ≢ Err OutOfMemory → b ≢ Err OutOfMemory → a ≡ b
one_answer text a b x y p q =
    elim (spelled_or_not text) [
      | inl (document, spelled) ↦ sym (answer_spelled text document a spelled x p) ∙ answer_spelled text document b spelled y q
      | inr none ↦ sym (answer_not_spelled text a none x p) ∙ answer_not_spelled text b none y q
    ]

-- an answer to a document that bytes spell
answered : (text : List ℕ) (document : Members) (given : Result Parts WrongField) → SpellsDocument text document → parts_in document ≡ given → (a : Result Parts TextRefusal) × (a ≢ Err OutOfMemory) × IsAnswer text a
answered text document (Err wrong) spelled is = (Err (Field wrong.component wrong.field), (λ e. cc), (document, spelled, is))
answered text document (Ok parts) spelled is = go (deploy_refusal parts) refl
  where
    go : (refusal : Option DeployRefusal) → deploy_refusal parts ≡ refusal → (a : Result Parts TextRefusal) × (a ≢ Err OutOfMemory) × IsAnswer text a
    go None accepted = (Ok parts, (λ e. cc), ((document, spelled, is), accepted))
    go (Some refusal) refused = (Err (Deploy refusal), (λ e. cc), (parts, (document, spelled, is), refused))

pub an_answer : (text : List ℕ) → (a : Result Parts TextRefusal) × (a ≢ Err OutOfMemory) × IsAnswer text a
an_answer text =
    elim (spelled_or_not text) [
      | inl (document, spelled) ↦ answered text document (parts_in document) spelled refl
      | inr none ↦ (Err NotToml, (λ e. cc), none)
    ]
