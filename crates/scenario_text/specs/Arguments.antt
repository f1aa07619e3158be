-- What the words after a first one say together.
use Rattle.std.specs.Prelude.{ℕ, List, Option, [], ◌∷◌, Some, None, option_and_then}
use Rattle.std.specs.Option.{option_zip, option_map}
use Rattle.crash_base.specs.declared.fault_plans.FaultKind.{FaultKind}
use Rattle.scenario_text.specs.declared.head_line.CureLevel.{CureLevel}
use Rattle.scenario_text.specs.declared.session_line.Freed.{Freed}
use Rattle.scenario_text.specs.Fields.{name_of, decimal_number, brick_number, caller_number, key_number, seat_number, hex_bytes, text_of, freed_of, kind_of, level_of}
use Rattle.scenario_text.specs.Words.{one_word, two_words, three_words, four_words}

-- the name that is the only word
abbrev pub one_name : List (List ℕ) → Option (List ℕ)
one_name words = option_and_then name_of (one_word words)

-- the caller that is the only word
abbrev pub one_caller : List (List ℕ) → Option ℕ
one_caller words = option_and_then caller_number (one_word words)

-- two words, a name each
abbrev pub two_names : List (List ℕ) → Option (List ℕ × List ℕ)
two_names words =
    option_and_then (λ w. option_zip (name_of w.0) (name_of w.1)) (two_words words)

-- two words, a number each
abbrev pub two_numbers : List (List ℕ) → Option (ℕ × ℕ)
two_numbers words =
    option_and_then (λ w. option_zip (decimal_number w.0) (decimal_number w.1)) (two_words words)

-- two words, a name and a number
abbrev pub name_and_number : List (List ℕ) → Option (List ℕ × ℕ)
name_and_number words =
    option_and_then (λ w. option_zip (name_of w.0) (decimal_number w.1)) (two_words words)

-- four words, a name, a number, and the words for what a component does that fails and for what cures it
abbrev pub name_and_fault : List (List ℕ) → Option (List ℕ × (ℕ × (FaultKind × CureLevel)))
name_and_fault words =
    option_and_then
    (λ w.
    option_zip (name_of w.0) (option_zip (decimal_number w.1) (option_zip (kind_of w.2) (level_of w.3))))
    (four_words words)

-- two words, a caller and a name
abbrev pub caller_and_name : List (List ℕ) → Option (ℕ × List ℕ)
caller_and_name words =
    option_and_then (λ w. option_zip (caller_number w.0) (name_of w.1)) (two_words words)

-- two words, a caller and a number
abbrev pub caller_and_number : List (List ℕ) → Option (ℕ × ℕ)
caller_and_number words =
    option_and_then (λ w. option_zip (caller_number w.0) (decimal_number w.1)) (two_words words)

-- three words, a caller and two numbers
abbrev pub caller_and_two_numbers : List (List ℕ) → Option (ℕ × (ℕ × ℕ))
caller_and_two_numbers words =
    option_and_then
    (λ w. option_zip (caller_number w.0) (option_zip (decimal_number w.1) (decimal_number w.2)))
    (three_words words)

-- the number that is the only word
abbrev pub one_number : List (List ℕ) → Option ℕ
one_number words = option_and_then decimal_number (one_word words)

-- the bytes that the only word gives
abbrev pub one_bytes : List (List ℕ) → Option (List ℕ)
one_bytes words = option_and_then hex_bytes (one_word words)

-- the session key that is the only word
abbrev pub one_key : List (List ℕ) → Option ℕ
one_key words = option_and_then key_number (one_word words)

-- the text that is the only word
abbrev pub one_text : List (List ℕ) → Option (List ℕ)
one_text words = option_and_then text_of (one_word words)

-- two words, a session key and bytes
abbrev pub key_and_bytes : List (List ℕ) → Option (ℕ × List ℕ)
key_and_bytes words =
    option_and_then (λ w. option_zip (key_number w.0) (hex_bytes w.1)) (two_words words)

-- the brick that is the only word
abbrev pub one_brick : List (List ℕ) → Option ℕ
one_brick words = option_and_then brick_number (one_word words)

-- two words, a brick and a number
abbrev pub brick_and_number : List (List ℕ) → Option (ℕ × ℕ)
brick_and_number words =
    option_and_then (λ w. option_zip (brick_number w.0) (decimal_number w.1)) (two_words words)

-- two words, a brick and how a pass is spent
abbrev pub brick_and_freed : List (List ℕ) → Option (ℕ × Freed)
brick_and_freed words =
    option_and_then (λ w. option_zip (brick_number w.0) (freed_of w.1)) (two_words words)

-- three words, a number each
abbrev pub three_numbers : List (List ℕ) → Option (ℕ × (ℕ × ℕ))
three_numbers words =
    option_and_then
    (λ w. option_zip (decimal_number w.0) (option_zip (decimal_number w.1) (decimal_number w.2)))
    (three_words words)

-- the connection that is the only word
abbrev pub one_seat : List (List ℕ) → Option ℕ
one_seat words = option_and_then seat_number (one_word words)

-- two words, a connection and bytes
abbrev pub seat_and_bytes : List (List ℕ) → Option (ℕ × List ℕ)
seat_and_bytes words =
    option_and_then (λ w. option_zip (seat_number w.0) (hex_bytes w.1)) (two_words words)

-- the names that the words are, where each of them is one
abbrev pub names_of : List (List ℕ) → Option (List (List ℕ))
names_of [] = Some []
names_of (word ∷ words) =
    option_and_then
    (λ name. option_map (λ names. name ∷ names) (names_of words))
    (name_of word)

-- one name or more
abbrev pub some_names : List (List ℕ) → Option (List (List ℕ))
some_names [] = None
some_names (word ∷ words) = names_of (word ∷ words)
