-- A field is read exactly where a form says it, and it is in its range.
use Rattle.std.proofs.Common.{◌≡◌, ◌↔◌, ℕ, ◌==◌, ◌&&◌, ◌||◌, nat_lt, nat_le, Bool, true, false, cond, List, [], ◌∷◌, length, Option, Some, None, Result, Ok, Err, refl, sym, ap, subst, ◌∙◌, arith}
use Rattle.std.specs.List.{list_all}
use Rattle.std.specs.Str.{bytes_eq, is_utf8}
use Rattle.std.proofs.lemmas.Bool.{and_from, and_parts, eqb-true}
use Rattle.std.proofs.lemmas.Bool.Decides.{nat_tests}
use Rattle.crash_base.specs.Names.{is_name, is_name_byte}
use Rattle.decimal_digits.specs.Digits.{plain_number}
use Rattle.form_values.specs.Values.{field_text, first_text, number_in as form_number, number_within, text_of, text_within}
use Rattle.form_values.specs.declared.refusal.FieldRefusal.{FieldRefusal}
use Rattle.form_values.specs.declared.refusal.FieldRefusal.TheVariants as refusal
use Rattle.auction_calls.specs.Calls.{is_between, is_id, is_text, is_user_name}
use Rattle.action_fields.specs.Names.{field_name}
use Rattle.action_fields.specs.Reading.{good_in, id_in, name_of, number_in, or_0, or_named, page_in, text_in, truth_of, user_name_in}
use Rattle.action_fields.specs.Said.{IsPage, SaysNumber, SaysText, SaysWhether, Writes, said_in}
use Rattle.action_fields.specs.declared.form_field.FormField.{FormField}
use Rattle.action_fields.specs.declared.form_field.FormField.TheVariants as field
use Rattle.action_fields.proofs.Utf8.{lossy_is_utf8}

between : (least most n : ℕ) → nat_lt n least ≡ false → nat_lt most n ≡ false → is_between least most n ≡ true
between least most n few many = and_from (nat_le least n) (nat_le n most) (grind (arith, nat_tests)) (grind (arith, nat_tests))

within : (least most n : ℕ) → is_between least most n ≡ true → (nat_lt n least || nat_lt most n) ≡ false
within least most n is =
    let parts = and_parts (nat_le least n) (nat_le n most) is in
    let low : nat_le least n ≡ true = parts.0 in
    let high : nat_le n most ≡ true = parts.1 in
    let few : nat_lt n least ≡ false = grind (arith, nat_tests) in
    let many : nat_lt most n ≡ false = grind (arith, nat_tests) in
    rw (few, many) refl

-- the text of a field is UTF-8
first_is_utf8 : (name : List ℕ) (pairs : List (List ℕ × List ℕ)) (text : List ℕ) → first_text name pairs ≡ Some text → is_utf8 text ≡ true
first_is_utf8 name [] text e = absurd (cc)
first_is_utf8 name (pair ∷ pairs) text e = by (bytes_eq (text_of pair.0) name) (λ h. first_is_utf8 name pairs text h) e
  where
    by : (test : Bool) → (first_text name pairs ≡ Some text → is_utf8 text ≡ true)
        → cond test (Some (text_of pair.1)) (first_text name pairs) ≡ Some text → is_utf8 text ≡ true
    by true later h =
        let same : text_of pair.1 ≡ text = cc in
        subst (λ (t : List ℕ). is_utf8 t ≡ true) same (lossy_is_utf8 _)
    by false later h = later h

said_is_utf8 : (form : List ℕ) (which : FormField) (text : List ℕ) → said_in form which ≡ Some text → is_utf8 text ≡ true
unfolding field_text
said_is_utf8 form which text e = first_is_utf8 (field_name which) _ text e

-- a text that is there is of these lengths where none is refused
sized : (least most : ℕ) (t text : List ℕ) (few many : Bool) → nat_lt (length t) least ≡ few → nat_lt most (length t) ≡ many
    → ◌≡◌ {A = Result (List ℕ) FieldRefusal} (cond (few || many) (Err (refusal.Length (length t))) (Ok t)) (Ok text)
    → (t ≡ text) × (is_between least most (length t) ≡ true)
sized least most t text true many f m h = absurd (cc)
sized least most t text false true f m h = absurd (cc)
sized least most t text false false f m h = (cc, between least most (length t) f m)

text_reads : (least most : ℕ) (said : Option (List ℕ)) (text : List ℕ) → ((t : List ℕ) → said ≡ Some t → is_utf8 t ≡ true)
    → (text_within least most said ≡ Ok text) ↔ ((said ≡ Some text) × (is_text least most text ≡ true))
text_reads least most None text valid = (λ e. absurd (cc), λ h. let none = h.0 in absurd (cc))
text_reads least most (Some t) text valid = (there, back)
  where
    there : text_within least most (Some t) ≡ Ok text → (Some t ≡ Some text) × (is_text least most text ≡ true)
    there e =
        let read = sized least most t text (nat_lt (length t) least) (nat_lt most (length t)) refl refl e in (
          ap (λ (u : List ℕ). Some u) read.0,
          subst (λ (u : List ℕ). is_text least most u ≡ true) read.0
              (and_from (is_between least most (length t)) (is_utf8 t) read.1 (valid t refl)),
        )

    back : (Some t ≡ Some text) × (is_text least most text ≡ true) → text_within least most (Some t) ≡ Ok text
    back h =
        let named = h.0 in
        let same : text ≡ t = cc in
        let fits = (and_parts (is_between least most (length text)) (is_utf8 text) h.1).0 in
        let here : text_within least most (Some text) ≡ Ok text = rw (within least most (length text) fits) refl in
        subst (λ (u : List ℕ). text_within least most (Some u) ≡ Ok text) same here

-- what is read is what is read of its field
named : {A : Type 0} (which : FormField) (read : Result A FieldRefusal) (value : A) → (or_named which read ≡ Ok value) ↔ (read ≡ Ok value)
named which (Ok v) value = (λ e. let same : v ≡ value = cc in ap (λ x. Ok x) same, λ e. let same : v ≡ value = cc in ap (λ x. Ok x) same)
named which (Err why) value = (λ e. absurd (cc), λ e. absurd (cc))

pub text_exact : (which : FormField) (least most : ℕ) (form text : List ℕ)
    → (text_in which least most form ≡ Ok text) ↔ (SaysText form which text × (is_text least most text ≡ true))
unfolding text_in
text_exact which least most form text =
    let found = text_within least most (said_in form which) in
    let read = text_reads least most (said_in form which) text (said_is_utf8 form which) in
    (λ e. read.0 ((named which found text).0 e), λ h. (named which found text).1 (read.1 h))

-- a number that is there is of this range where none is refused
ranged : (least most v n : ℕ) (few many : Bool) → nat_lt v least ≡ few → nat_lt most v ≡ many
    → ◌≡◌ {A = Result ℕ FieldRefusal} (cond (few || many) (Err (refusal.Range v)) (Ok v)) (Ok n)
    → (v ≡ n) × (is_between least most v ≡ true)
ranged least most v n true many f m h = absurd (cc)
ranged least most v n false true f m h = absurd (cc)
ranged least most v n false false f m h = (cc, between least most v f m)

number_reads : (least most : ℕ) (written : Option ℕ) (n : ℕ)
    → (number_within least most written ≡ Ok n) ↔ ((written ≡ Some n) × (is_between least most n ≡ true))
number_reads least most None n = (λ e. absurd (cc), λ h. let none = h.0 in absurd (cc))
number_reads least most (Some v) n = (there, back)
  where
    there : number_within least most (Some v) ≡ Ok n → (Some v ≡ Some n) × (is_between least most n ≡ true)
    there e =
        let read = ranged least most v n (nat_lt v least) (nat_lt most v) refl refl e in
        (ap (λ (u : ℕ). Some u) read.0, subst (λ (u : ℕ). is_between least most u ≡ true) read.0 read.1)

    back : (Some v ≡ Some n) × (is_between least most n ≡ true) → number_within least most (Some v) ≡ Ok n
    back h =
        let named = h.0 in
        let same : n ≡ v = cc in
        let here : number_within least most (Some n) ≡ Ok n = rw (within least most n h.1) refl in
        subst (λ (u : ℕ). number_within least most (Some u) ≡ Ok n) same here

said_reads : (least most : ℕ) (said : Option (List ℕ)) (n : ℕ)
    → (form_number least most said ≡ Ok n) ↔ (Writes said n × (is_between least most n ≡ true))
said_reads least most None n = (λ e. absurd (cc), λ h. let none = h.0.1 in absurd (cc))
said_reads least most (Some t) n = (there, back)
  where
    there : form_number least most (Some t) ≡ Ok n → Writes (Some t) n × (is_between least most n ≡ true)
    there e = let read = (number_reads least most (plain_number t) n).0 e in ((t, refl, read.0), read.1)

    back : Writes (Some t) n × (is_between least most n ≡ true) → form_number least most (Some t) ≡ Ok n
    back h =
        let text = h.0.0 in
        let is = h.0.1 in
        let same : text ≡ t = cc in
        let written : plain_number t ≡ Some n = subst (λ (u : List ℕ). plain_number u ≡ Some n) same h.0.2 in
        (number_reads least most (plain_number t) n).1 (written, h.1)

pub number_exact : (which : FormField) (least most : ℕ) (form : List ℕ) (n : ℕ)
    → (number_in which least most form ≡ Ok n) ↔ (SaysNumber form which n × (is_between least most n ≡ true))
unfolding number_in
number_exact which least most form n =
    let found = form_number least most (said_in form which) in
    let read = said_reads least most (said_in form which) n in
    (λ e. read.0 ((named which found n).0 e), λ h. (named which found n).1 (read.1 h))

pub id_exact : (which : FormField) (form : List ℕ) (n : ℕ) → (id_in which form ≡ Ok n) ↔ (SaysNumber form which n × (is_id n ≡ true))
unfolding id_in
id_exact which form n = number_exact which 1 4294967295 form n

-- the name of a user
name_reads : (read : Result (List ℕ) FormField) (name : List ℕ) → (name_of read ≡ Ok name) ↔ ((read ≡ Ok name) × (is_name name ≡ true))
name_reads (Err which) name = (λ e. absurd (cc), λ h. let none = h.0 in absurd (cc))
name_reads (Ok text) name = (there (is_name text) refl, back)
  where
    there : (test : Bool) → is_name text ≡ test → ◌≡◌ {A = Result (List ℕ) FormField} (cond test (Ok text) (Err field.Name)) (Ok name)
        → (◌≡◌ {A = Result (List ℕ) FormField} (Ok text) (Ok name)) × (is_name name ≡ true)
    there false is h = absurd (cc)
    there true is h = let same : text ≡ name = cc in (h, subst (λ (u : List ℕ). is_name u ≡ true) same is)

    back : (◌≡◌ {A = Result (List ℕ) FormField} (Ok text) (Ok name)) × (is_name name ≡ true) → name_of (Ok text) ≡ Ok name
    back h =
        let e = h.0 in
        let same : name ≡ text = cc in
        let here : name_of (Ok name) ≡ Ok name = rw h.1 refl in
        subst (λ (u : List ℕ). name_of (Ok u) ≡ Ok name) same here

-- a name of 1 to 24 bytes of UTF-8 that has the letters of a name is the name of a user
is_user : (name : List ℕ) → is_text 1 24 name ≡ true → is_name name ≡ true → is_user_name name ≡ true
is_user name sized is =
    let size = (and_parts (is_between 1 24 (length name)) (is_utf8 name) sized).0 in
    let letters = (and_parts (nat_le 1 (length name) && nat_le (length name) 32) (list_all is_name_byte name) is).1 in
    and_from (is_between 1 24 (length name)) (list_all is_name_byte name) size letters

user_is : (name : List ℕ) → is_user_name name ≡ true → is_name name ≡ true
user_is name is =
    let parts = and_parts (is_between 1 24 (length name)) (list_all is_name_byte name) is in
    let size = and_parts (nat_le 1 (length name)) (nat_le (length name) 24) parts.0 in
    let low : nat_le 1 (length name) ≡ true = size.0 in
    let high : nat_le (length name) 24 ≡ true = size.1 in
    let more : nat_le (length name) 32 ≡ true = grind (arith, nat_tests) in
    and_from (nat_le 1 (length name) && nat_le (length name) 32) (list_all is_name_byte name)
    (and_from (nat_le 1 (length name)) (nat_le (length name) 32) low more) parts.1

pub user_name_exact : (form name : List ℕ) → (user_name_in form ≡ Ok name) ↔ (SaysText form field.Name name × (is_user_name name ≡ true))
unfolding user_name_in
user_name_exact form name = (there, back)
  where
    there : name_of (text_in field.Name 1 24 form) ≡ Ok name → SaysText form field.Name name × (is_user_name name ≡ true)
    there e =
        let read = (name_reads (text_in field.Name 1 24 form) name).0 e in
        let text = (text_exact field.Name 1 24 form name).0 read.0 in
        (text.0, is_user name text.1 read.1)

    back : SaysText form field.Name name × (is_user_name name ≡ true) → name_of (text_in field.Name 1 24 form) ≡ Ok name
    back h =
        let size = (and_parts (is_between 1 24 (length name)) (list_all is_name_byte name) h.1).0 in
        let text = and_from (is_between 1 24 (length name)) (is_utf8 name) size (said_is_utf8 form field.Name name h.0) in
        (name_reads (text_in field.Name 1 24 form) name).1
        ((text_exact field.Name 1 24 form name).1 (h.0, text), user_is name h.1)

-- the page of a category
page_reads : (said : Option (List ℕ)) (page : ℕ)
    → (or_0 field.Page (form_number 0 9999 said) ≡ Ok page) ↔ (IsPage said page × (nat_le page 9999 ≡ true))
page_reads None page = (λ e. let same : 0 ≡ page = cc in (sym same, subst (λ (u : ℕ). nat_le u 9999 ≡ true) same refl), λ h. ap (λ (u : ℕ). Ok u) (sym h.0))
page_reads (Some t) page = (there (number_within 0 9999 (plain_number t)) refl, back)
  where
    there : (read : Result ℕ FieldRefusal) → number_within 0 9999 (plain_number t) ≡ read → or_0 field.Page read ≡ Ok page
        → IsPage (Some t) page × (nat_le page 9999 ≡ true)
    there (Ok n) is h =
        let same : n ≡ page = cc in
        let read = (number_reads 0 9999 (plain_number t) n).0 is in
        let high = (and_parts (nat_le 0 n) (nat_le n 9999) read.1).1 in
        (read.0 ∙ ap (λ (u : ℕ). Some u) same, subst (λ (u : ℕ). nat_le u 9999 ≡ true) same high)
    there (Err refusal.Missing) is h = absurd (missing (plain_number t) is)
      where
        missing_range : (v : ℕ) (test : Bool) → ◌≡◌ {A = Result ℕ FieldRefusal} (cond test (Err (refusal.Range v)) (Ok v)) (Err refusal.Missing) → ⊥
        missing_range v true e = absurd (cc)
        missing_range v false e = absurd (cc)

        missing : (written : Option ℕ) → number_within 0 9999 written ≡ Err refusal.Missing → ⊥
        missing None e = absurd (cc)
        missing (Some v) e = missing_range v (nat_lt v 0 || nat_lt 9999 v) e
    there (Err (refusal.Length len)) is h = absurd (cc)
    there (Err refusal.NotNumber) is h = absurd (cc)
    there (Err (refusal.Range value)) is h = absurd (cc)
    there (Err refusal.OutOfMemory) is h = absurd (cc)

    back : IsPage (Some t) page × (nat_le page 9999 ≡ true) → or_0 field.Page (number_within 0 9999 (plain_number t)) ≡ Ok page
    back h =
        let least : nat_le 0 page ≡ true = grind (arith, nat_tests) in
        let range = and_from (nat_le 0 page) (nat_le page 9999) least h.1 in
        ap (or_0 field.Page) ((number_reads 0 9999 (plain_number t) page).1 (h.0, range))

pub page_exact : (query : List ℕ) (page : ℕ) → (page_in query ≡ Ok page) ↔ (IsPage (said_in query field.Page) page × (nat_le page 9999 ≡ true))
unfolding page_in
page_exact query page = page_reads (said_in query field.Page) page

-- whether something is so
truth_reads : (read : Result ℕ FormField) (is_so : Bool) → ((n : ℕ) → read ≡ Ok n → is_between 0 1 n ≡ true)
    → (truth_of read ≡ Ok is_so) ↔ (read ≡ Ok (cond is_so 1 0))
truth_reads (Err which) is_so small = (λ e. absurd (cc), λ e. absurd (cc))
truth_reads (Ok n) true small = (
  λ e. let is : (n == 1) ≡ true = cc in ap (λ (u : ℕ). Ok u) (eqb-true n 1 is),
  λ e. let same : n ≡ 1 = cc in ap (λ (u : ℕ). Ok (u == 1)) same,
)
truth_reads (Ok n) false small = (
  λ e.
      let other : (n == 1) ≡ false = cc in
      let high : nat_le n 1 ≡ true = (and_parts (nat_le 0 n) (nat_le n 1) (small n refl)).1 in
      let zero : n ≡ 0 = grind (arith, nat_tests) in
      ap (λ (u : ℕ). Ok u) zero,
  λ e. let same : n ≡ 0 = cc in ap (λ (u : ℕ). Ok (u == 1)) same,
)

pub good_exact : (form : List ℕ) (good : Bool) → (good_in form ≡ Ok good) ↔ SaysWhether form field.Good good
unfolding good_in
good_exact form good =
    let read = truth_reads (number_in field.Good 0 1 form) good (λ n e. ((number_exact field.Good 0 1 form n).0 e).1) in (
      λ e. ((number_exact field.Good 0 1 form (cond good 1 0)).0 (read.0 e)).0,
      λ h. read.1 ((number_exact field.Good 0 1 form (cond good 1 0)).1 (h, small good)),
    )
  where
    small : (is_so : Bool) → is_between 0 1 (cond is_so 1 0) ≡ true
    small true = refl
    small false = refl
