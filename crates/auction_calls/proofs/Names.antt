-- Names of users are UTF-8.
use Rattle.std.proofs.Common.{◌≡◌, ℕ, ◌<◌, ◌≤◌, true, List, length, get_or, inl, inr, arith}
use Rattle.std.specs.List.{list_all}
use Rattle.std.specs.Str.{is_utf8, IsAscii}
use Rattle.std.proofs.lemmas.Bool.{and_parts, both_ways, cases_Bool, cases_lt}
use Rattle.std.proofs.lemmas.Bool.Decides.{nat_tests}
use Rattle.std.proofs.lemmas.List.{get_or_past}
use Rattle.std.proofs.lemmas.List.Folds.{list_all_at}
use Rattle.std.proofs.lemmas.Str.{IsUtf8-from_ascii, is_utf8-from_IsUtf8}
use Rattle.crash_base.specs.Names.{is_name_byte}
use Rattle.byte_fields.proofs.ExactFields.{IsText}
use Rattle.auction_calls.specs.Calls.{is_between, is_user_name}

name_byte_ascii : (byte : ℕ) → is_name_byte byte ≡ true → byte < 128
name_byte_ascii byte is = grind (arith, nat_tests)

names_ascii : (name : List ℕ) → list_all is_name_byte name ≡ true → IsAscii name
names_ascii name all = λ i.
    elim (cases_lt i (length name)) [
      | inl within ↦
          elim (cases_Bool (is_name_byte (get_or name i 0))) [
            | inl is ↦ name_byte_ascii (get_or name i 0) is
            | inr is ↦ absurd (both_ways (list_all is_name_byte name) (list_all_at is_name_byte name i 0 within is) all)
          ]
      | inr past ↦ rw (get_or_past name i 0 past) (omega arith)
    ]

pub user_name_utf8 : (name : List ℕ) → is_user_name name ≡ true → is_utf8 name ≡ true
user_name_utf8 name is = is_utf8-from_IsUtf8 name (IsUtf8-from_ascii name (names_ascii name (and_parts (is_between 1 24 (length name)) (list_all is_name_byte name) is).1))

-- so they are texts
pub user_name_text : (name : List ℕ) → is_user_name name ≡ true → IsText name
user_name_text name is =
    let size = (and_parts (is_between 1 24 (length name)) (list_all is_name_byte name) is).0 in
    let within : length name ≤ 24 = grind (arith, nat_tests) in
    record { utf8 = user_name_utf8 name is; few = omega arith }
