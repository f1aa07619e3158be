-- Which line a text spells.
use Rattle.std.specs.Prelude.{ℕ, Bool, nat_lt, ◌==◌, ◌&&◌, true, not, if◌then◌else◌, List, [], ◌∷◌, length, Option, Some, None, option_and_then, codes}
use Rattle.std.specs.Char.{is_ascii}
use Rattle.std.specs.Option.{option_map, option_or}
use Rattle.std.specs.Str.{bytes_eq}
use Rattle.std.specs.List.{list_all}
use Rattle.scenario_text.specs.declared.line.TheConstants.{MAX_LINE_BYTES}
use Rattle.scenario_text.specs.declared.line.Line.{Line}
use Rattle.scenario_text.specs.declared.line.Line.TheVariants.{Pass, Head, Call, Commit, Boot, Reopen, Session, Seat}
use Rattle.scenario_text.specs.declared.head_line.HeadLine.{HeadLine}
use Rattle.scenario_text.specs.declared.head_line.HeadLine.TheVariants.{Component, Hard, Soft, Owns, Fault, Limit, Bricks, Key, Site}
use Rattle.scenario_text.specs.declared.call_line.CallLine.{CallLine}
use Rattle.scenario_text.specs.declared.call_line.CallLine.TheVariants.{Enter, Exit, Read, List as ListLine, Put}
use Rattle.scenario_text.specs.declared.boot_line.BootLine.{BootLine}
use Rattle.scenario_text.specs.declared.boot_line.BootLine.TheVariants.{Begin, Drop, Down, Up, Reboot, Table, Journal, Report}
use Rattle.scenario_text.specs.Fields.{decimal_number, caller_number, hex_bytes}
use Rattle.scenario_text.specs.Words.{words_of, no_words, four_words}
use Rattle.scenario_text.specs.Arguments.{one_name, one_caller, one_bytes, one_text, two_names, two_numbers, name_and_number, name_and_fault, caller_and_name, caller_and_number, caller_and_two_numbers, three_numbers, some_names}
use Rattle.scenario_text.specs.SeatReading.{seat_line}
use Rattle.scenario_text.specs.SessionReading.{session_line}

-- the line of put and these words: a caller, the numbers of a table and a key, and bytes
abbrev pub put_line : List (List ℕ) → Option (ℕ × CallLine)
put_line words =
    option_and_then
    (λ w.
    option_and_then (λ c. option_and_then (λ t. option_and_then (λ k.
    option_map (λ bytes. (c, Put t k bytes)) (hex_bytes w.3))
    (decimal_number w.2)) (decimal_number w.1)) (caller_number w.0))
    (four_words words)

-- the caller and the line of its call that a first word and the further words spell
abbrev pub call_line : List ℕ → List (List ℕ) → Option (ℕ × CallLine)
call_line first words =
    if bytes_eq first (codes "enter") then option_map (λ p. (p.0, Enter p.1)) (caller_and_name words) else (
    if bytes_eq first (codes "exit") then option_map (λ c. (c, Exit)) (one_caller words) else (
    if bytes_eq first (codes "read") then option_map (λ p. (p.0, Read p.1.0 p.1.1)) (caller_and_two_numbers words) else (
    if bytes_eq first (codes "list") then option_map (λ p. (p.0, ListLine p.1)) (caller_and_number words) else (
    if bytes_eq first (codes "put") then put_line words else None))))

-- the line over the boot that they spell
abbrev pub boot_line : List ℕ → List (List ℕ) → Option BootLine
boot_line first words =
    if bytes_eq first (codes "begin") then option_map (λ c. Begin c) (one_caller words) else (
    if bytes_eq first (codes "drop") then option_map (λ c. Drop c) (one_caller words) else (
    if bytes_eq first (codes "down") then option_map (λ t. Down t) (one_text words) else (
    if bytes_eq first (codes "up") then option_map (λ t. Up t) (one_text words) else (
    if bytes_eq first (codes "reboot") then option_map (λ t. Reboot t) (one_text words) else (
    if bytes_eq first (codes "table") then option_map (λ _. Table) (no_words words) else (
    if bytes_eq first (codes "journal") then option_map (λ _. Journal) (no_words words) else (
    if bytes_eq first (codes "report") then option_map (λ n. Report n) (some_names words) else None)))))))

-- the line of the head that they spell
abbrev pub head_line : List ℕ → List (List ℕ) → Option HeadLine
head_line first words =
    if bytes_eq first (codes "component") then option_map (λ n. Component n) (one_name words) else (
    if bytes_eq first (codes "hard") then option_map (λ p. Hard p.0 p.1) (two_names words) else (
    if bytes_eq first (codes "soft") then option_map (λ p. Soft p.0 p.1) (two_names words) else (
    if bytes_eq first (codes "owns") then option_map (λ p. Owns p.0 p.1) (name_and_number words) else (
    if bytes_eq first (codes "fault") then option_map (λ p. Fault p.0 p.1.0 p.1.1.0 p.1.1.1) (name_and_fault words) else (
    if bytes_eq first (codes "limit") then option_map (λ p. Limit p.0 p.1) (two_numbers words) else (
    if bytes_eq first (codes "bricks") then option_map (λ p. Bricks p.0 p.1.0 p.1.1) (three_numbers words) else (
    if bytes_eq first (codes "key") then option_map (λ b. Key b) (one_bytes words) else (
    if bytes_eq first (codes "site") then option_map (λ _. Site) (no_words words) else None))))))))

-- the line about sessions, or else about connections, that they spell
abbrev pub session_or_seat : List ℕ → List (List ℕ) → Option Line
session_or_seat first words =
    option_or
    (option_map (λ s. Session s) (session_line first words))
    (option_map (λ s. Seat s) (seat_line first words))

-- the line over the boot, or else about sessions or connections, that they spell
abbrev pub boot_or_other : List ℕ → List (List ℕ) → Option Line
boot_or_other first words =
    option_or (option_map (λ b. Boot b) (boot_line first words)) (session_or_seat first words)

-- the line of a live call, or else one that is neither of the head nor of a call, that they spell
abbrev pub call_or_other : List ℕ → List (List ℕ) → Option Line
call_or_other first words =
    option_or
    (option_map (λ p. Call p.0 p.1) (call_line first words))
    (boot_or_other first words)

-- the event line that they spell
abbrev pub event_line : List ℕ → List (List ℕ) → Option Line
event_line first words =
    if bytes_eq first (codes "commit") then option_map (λ c. Commit c) (one_caller words) else (
    if bytes_eq first (codes "reopen") then option_map (λ _. Reopen) (no_words words) else
    call_or_other first words)

-- the line of the head, or else the event line, that they spell
abbrev pub line_from : List ℕ → List (List ℕ) → Option Line
line_from first words =
    option_or (option_map (λ h. Head h) (head_line first words)) (event_line first words)

-- the line that words spell
abbrev pub line_of_words : List (List ℕ) → Option Line
line_of_words [] = None
line_of_words (first ∷ words) = line_from first words

-- ASCII, and no carriage return
abbrev pub is_comment_byte : ℕ → Bool
is_comment_byte b = is_ascii b && not (b == 13)

-- an empty line, and a comment: # and such bytes
abbrev pub passes : List ℕ → Bool
passes [] = true
passes (b ∷ bs) = b == 35 && list_all is_comment_byte bs

-- the line that a text spells, if it is not too long
unfoldable pub line_of : List ℕ → Option Line
line_of text =
    if nat_lt MAX_LINE_BYTES (length text) then None else (
    if passes text then Some Pass else line_of_words (words_of text))
