-- What a text calls for.
use Rattle.std.specs.Prelude.{◌≡◌, ℕ, List, Some, None, Result, Ok, Err, IsUtf8}
use Rattle.deployment.specs.Refusals.{deploy_refusal}
use Rattle.deployment.specs.declared.parts.Parts.{Parts}
use Rattle.toml.specs.Data.{Members}
use Rattle.toml.specs.Parse.{parse_document}
use Rattle.descriptor_text.specs.declared.description.Description.{Description}
use Rattle.descriptor_text.specs.declared.refusals.TextRefusal.{TextRefusal}
use Rattle.descriptor_text.specs.declared.refusals.TextRefusal.TheVariants.{NotToml, Field, Deploy, OutOfMemory}
use Rattle.descriptor_text.specs.declared.refusals.WrongField.{WrongField}
use Rattle.descriptor_text.specs.Assembly.{assembled}
use Rattle.descriptor_text.specs.Description.{descriptions_in}

-- the bytes are UTF-8, and the text is a TOML document with these members
abbrev pub SpellsDocument : List ℕ → Members → Type 0
SpellsDocument bytes document = IsUtf8 bytes × (parse_document bytes ≡ Some document)

-- the parts that components make
abbrev pub made_of : Result (List Description) WrongField → Result Parts WrongField
made_of (Err wrong) = Err wrong
made_of (Ok descriptions) = Ok (assembled descriptions)

-- the parts that a document describes, or the first key of it that has another form
abbrev pub parts_in : Members → Result Parts WrongField
parts_in document = made_of (descriptions_in document)

-- the bytes spell a document that describes this
abbrev pub Describes : List ℕ → Result Parts WrongField → Type 0
Describes text given =
    (document : Members) × SpellsDocument text document × (parts_in document ≡ given)

-- the bytes spell no document
abbrev pub SpellsNoDocument : List ℕ → Type 0
SpellsNoDocument text = (document : Members) → ¬ SpellsDocument text document

-- What a text calls for. A deployment: the bytes spell a document whose parts are accepted.
-- `NotToml`: they spell none. `Field`: in the document that they spell, this is the first key of
-- another form. `Deploy`: the parts of that document are refused so. Out of memory alone may come
-- at any text.
abbrev pub IsAnswer : List ℕ → Result Parts TextRefusal → Type 0
IsAnswer text (Ok parts) = Describes text (Ok parts) × (deploy_refusal parts ≡ None)
IsAnswer text (Err NotToml) = SpellsNoDocument text
IsAnswer text (Err (Field component field)) =
    Describes text (Err (record { component = component; field = field }))
IsAnswer text (Err (Deploy refusal)) =
    (parts : Parts) × Describes text (Ok parts) × (deploy_refusal parts ≡ Some refusal)
IsAnswer text (Err OutOfMemory) = Unit {0}
