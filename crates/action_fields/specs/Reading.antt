-- What a form says in one field, or the name of the field where it does not say it as it must.
use Rattle.std.specs.Prelude.{◌≡◌, ℕ, ◌==◌, Bool, if◌then◌else◌, List, Result, Ok, Err}
use Rattle.crash_base.specs.Names.{is_name}
use Rattle.form_values.specs.Values.{number_field, text_field}
use Rattle.form_values.specs.declared.refusal.FieldRefusal.{FieldRefusal}
use Rattle.form_values.specs.declared.refusal.FieldRefusal.TheVariants as refusal
use Rattle.action_fields.specs.Names.{field_name}
use Rattle.action_fields.specs.declared.error.FieldError.{FieldError}
use Rattle.action_fields.specs.declared.error.FieldError.TheVariants.{Bad, OutOfMemory}
use Rattle.action_fields.specs.declared.form_field.FormField.{FormField}
use Rattle.action_fields.specs.declared.form_field.FormField.TheVariants as field

-- a value, or the name of its field where it was refused
abbrev pub or_named : {A : Type 0} → FormField → Result A FieldRefusal → Result A FormField
or_named which (Ok value) = Ok value
or_named which (Err why) = Err which

-- a text of so many bytes
unfoldable pub text_in : FormField → ℕ → ℕ → List ℕ → Result (List ℕ) FormField
text_in which least most form = or_named which (text_field form (field_name which) least most)

-- a number of this range
unfoldable pub number_in : FormField → ℕ → ℕ → List ℕ → Result ℕ FormField
number_in which least most form = or_named which (number_field form (field_name which) least most)

-- a text that is a name of letters of ASCII, digits and `_` alone
abbrev pub name_of : Result (List ℕ) FormField → Result (List ℕ) FormField
name_of (Ok text) = if is_name text then Ok text else Err field.Name
name_of (Err which) = Err which

-- the name of a user
unfoldable pub user_name_in : List ℕ → Result (List ℕ) FormField
user_name_in form = name_of (text_in field.Name 1 24 form)

-- the number of a category, an item or a user
unfoldable pub id_in : FormField → List ℕ → Result ℕ FormField
id_in which form = number_in which 1 4294967295 form

-- a number that is 0 where it is missing
abbrev pub or_0 : FormField → Result ℕ FieldRefusal → Result ℕ FormField
or_0 which (Ok number) = Ok number
or_0 which (Err refusal.Missing) = Ok 0
or_0 which (Err (refusal.Length len)) = Err which
or_0 which (Err refusal.NotNumber) = Err which
or_0 which (Err (refusal.Range value)) = Err which
or_0 which (Err refusal.OutOfMemory) = Err which

-- the page of a category
unfoldable pub page_in : List ℕ → Result ℕ FormField
page_in query = or_0 field.Page (number_field query (field_name field.Page) 0 9999)

-- a number as a truth: 1 is true
abbrev pub truth_of : Result ℕ FormField → Result Bool FormField
truth_of (Ok number) = Ok (number == 1)
truth_of (Err which) = Err which

-- whether a feedback is good: 1, and 0 where it is not
unfoldable pub good_in : List ℕ → Result Bool FormField
good_in form = truth_of (number_in field.Good 0 1 form)

-- the text of a form's token, which has 56 bytes
unfoldable pub token_in : List ℕ → Result (List ℕ) FormField
token_in form = text_in field.Token 56 56 form

-- what was not read is bad, unless memory ran out
abbrev pub Fails : {A : Type 0} → FieldError → Result A FormField → Type 0
Fails (Bad which) read = read ≡ Err which
Fails OutOfMemory read = Unit {0}

-- what was answered is what is read, unless memory ran out
abbrev pub Answers : {A : Type 0} → Result A FieldError → Result A FormField → Type 0
Answers (Ok value) read = read ≡ Ok value
Answers (Err error) read = Fails error read
