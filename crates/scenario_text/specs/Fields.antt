-- What one word of a line says.
use Rattle.std.specs.Prelude.{ℕ, Bool, not, ◌+◌, ◌*◌, ◌-◌, ◌^◌, ◌==◌, ◌&&◌, ◌||◌, nat_lt, nat_le, if◌then◌else◌, List, [], ◌∷◌, length, slice_index, Option, Some, None, option_and_then, codes}
use Rattle.std.specs.Char.{is_ascii, is_ascii_digit}
use Rattle.std.specs.Option.{option_map}
use Rattle.std.specs.Str.{bytes_eq}
use Rattle.std.specs.List.{list_all}
use Rattle.crash_base.specs.Names.{is_name}
use Rattle.crash_base.specs.declared.fault_plans.FaultKind.{FaultKind}
use Rattle.crash_base.specs.declared.fault_plans.FaultKind.TheVariants.{Raise, Hang}
use Rattle.scenario_text.specs.declared.head_line.CureLevel.{CureLevel}
use Rattle.scenario_text.specs.declared.head_line.CureLevel.TheVariants.{Group, App, Process}
use Rattle.scenario_text.specs.declared.line.TheConstants.{MAX_HEX_BYTES, MAX_CALLER}
use Rattle.scenario_text.specs.declared.seat_line.TheConstants.{MAX_SEAT}
use Rattle.scenario_text.specs.declared.session_line.TheConstants.{MAX_KEY}
use Rattle.scenario_text.specs.declared.session_line.Freed.{Freed}
use Rattle.scenario_text.specs.declared.session_line.Freed.TheVariants.{Answered, Silent}

-- a word that is a name
abbrev pub name_of : List ℕ → Option (List ℕ)
name_of word = if is_name word then Some word else None

-- the number below 2 ^ 64 that digits go on to, after those of a first number
abbrev pub digits_from : ℕ → List ℕ → Option ℕ
digits_from n [] = Some n
digits_from n (b ∷ bs) =
    if is_ascii_digit b && nat_lt (10 * n + (b - 48)) (2 ^ 64)
    then digits_from (10 * n + (b - 48)) bs
    else None

-- the number below 2 ^ 64 of digits that do not begin with a zero, unless it is alone
abbrev pub decimal_number : List ℕ → Option ℕ
decimal_number word =
    if length word == 0 || (nat_lt 1 (length word) && slice_index word 0 == 48)
    then None
    else digits_from 0 word

-- the number of a brick, from 1 on
abbrev pub brick_number : List ℕ → Option ℕ
brick_number word =
    option_and_then (λ n. if nat_le 1 n then Some n else None) (decimal_number word)

-- a letter, and a number from 1 to a highest one
abbrev pub lettered_number : ℕ → ℕ → List ℕ → Option ℕ
lettered_number letter highest [] = None
lettered_number letter highest (b ∷ bs) =
    option_and_then
    (λ n. if b == letter && (nat_le 1 n && nat_le n highest) then Some n else None)
    (decimal_number bs)

-- the number of a caller, after c
abbrev pub caller_number : List ℕ → Option ℕ
caller_number word = lettered_number 99 MAX_CALLER word

-- the number of a session key, after k
abbrev pub key_number : List ℕ → Option ℕ
key_number word = lettered_number 107 MAX_KEY word

-- the number of a connection, after s
abbrev pub seat_number : List ℕ → Option ℕ
seat_number word = lettered_number 115 MAX_SEAT word

-- the value of a lower case hexadecimal digit
abbrev pub hex_digit : ℕ → Option ℕ
hex_digit b =
    if is_ascii_digit b then Some (b - 48) else (
    if nat_le 97 b && nat_le b 102 then Some (b - 97 + 10) else None)

-- the byte of two digits
abbrev pub hex_byte : ℕ → ℕ → Option ℕ
hex_byte a b =
    option_and_then
    (λ high. option_and_then (λ low. Some (16 * high + low)) (hex_digit b))
    (hex_digit a)

-- the bytes of two digits each
abbrev pub bytes_of_digits : List ℕ → Option (List ℕ)
bytes_of_digits [] = Some []
bytes_of_digits (a ∷ []) = None
bytes_of_digits (a ∷ b ∷ bs) =
    option_and_then
    (λ byte. option_map (λ rest. byte ∷ rest) (bytes_of_digits bs))
    (hex_byte a b)

-- the bytes of a word: - for none, and else two digits for each
abbrev pub hex_bytes : List ℕ → Option (List ℕ)
hex_bytes word =
    if bytes_eq word (codes "-") then Some [] else (
    if nat_le 1 (length word) && nat_le (length word) (2 * MAX_HEX_BYTES)
    then bytes_of_digits word
    else None)

-- ASCII, and no space and no carriage return
abbrev pub is_text_byte : ℕ → Bool
is_text_byte b = is_ascii b && (not (b == 32) && not (b == 13))

-- a word that is a text: some such bytes
abbrev pub text_of : List ℕ → Option (List ℕ)
text_of word =
    if nat_le 1 (length word) && list_all is_text_byte word then Some word else None

-- how a pass is spent, by the word for it
abbrev pub freed_of : List ℕ → Option Freed
freed_of word =
    if bytes_eq word (codes "answered") then Some Answered else (
    if bytes_eq word (codes "silent") then Some Silent else None)

-- what a component does that fails, by the word for it
abbrev pub kind_of : List ℕ → Option FaultKind
kind_of word =
    if bytes_eq word (codes "raise") then Some Raise else (
    if bytes_eq word (codes "hang") then Some Hang else None)

-- what cures a fault, by the word for it
abbrev pub level_of : List ℕ → Option CureLevel
level_of word =
    if bytes_eq word (codes "group") then Some Group else (
    if bytes_eq word (codes "app") then Some App else (
    if bytes_eq word (codes "process") then Some Process else None))
