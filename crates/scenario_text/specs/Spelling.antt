-- What spells a line, in the words of the scenario's grammar.
use Rattle.std.specs.Prelude.{◌≡◌, ◌≢◌, ℕ, ◌<◌, ◌≤◌, ◌⊎◌, List, [], ◌∷◌, length, All, codes}
use Rattle.std.specs.Fmt.{decimal}
use Rattle.std.specs.List.{join_with_byte}
use Rattle.scenario_text.specs.declared.line.TheConstants.{MAX_LINE_BYTES}
use Rattle.scenario_text.specs.declared.line.Line.{Line}
use Rattle.scenario_text.specs.declared.line.Line.TheVariants.{Pass, Head, Call, Commit, Boot, Reopen, Session, Seat}
use Rattle.scenario_text.specs.declared.head_line.HeadLine.{HeadLine}
use Rattle.scenario_text.specs.declared.head_line.HeadLine.TheVariants.{Component, Hard, Soft, Owns, Fault, Limit, Bricks, Key, Site}
use Rattle.scenario_text.specs.declared.call_line.CallLine.{CallLine}
use Rattle.scenario_text.specs.declared.call_line.CallLine.TheVariants.{Enter, Exit, Read, List as ListLine, Put}
use Rattle.scenario_text.specs.declared.boot_line.BootLine.{BootLine}
use Rattle.scenario_text.specs.declared.boot_line.BootLine.TheVariants.{Begin, Drop, Down, Up, Reboot, Table, Journal, Report}
use Rattle.scenario_text.specs.Texts.{hex_text}
use Rattle.scenario_text.specs.FieldSpelling.{IsName, IsNumber, IsCaller, IsText, IsKind, AreNames, AreBytes, caller_word, kind_word, level_word}
use Rattle.scenario_text.specs.SeatSpelling.{IsSeatInRange, words_of_seat_line}
use Rattle.scenario_text.specs.SessionSpelling.{IsSessionInRange, words_of_session_line}

-- the numbers, names and bytes of a line of the head are in their ranges
abbrev pub IsHeadInRange : HeadLine → Type 0
IsHeadInRange (Component name) = IsName name
IsHeadInRange (Hard name other) = IsName name × IsName other
IsHeadInRange (Soft name other) = IsName name × IsName other
IsHeadInRange (Owns name table) = IsName name × IsNumber table
IsHeadInRange (Fault name after kind level) = IsName name × IsNumber after × IsKind kind
IsHeadInRange (Limit entries bytes) = IsNumber entries × IsNumber bytes
IsHeadInRange (Bricks bricks most least) = IsNumber bricks × IsNumber most × IsNumber least
IsHeadInRange (Key bytes) = AreBytes bytes
IsHeadInRange Site = Unit {0}

-- those of a line of a live call
abbrev pub IsCallInRange : CallLine → Type 0
IsCallInRange (Enter name) = IsName name
IsCallInRange Exit = Unit {0}
IsCallInRange (Read table key) = IsNumber table × IsNumber key
IsCallInRange (ListLine table) = IsNumber table
IsCallInRange (Put table key bytes) = IsNumber table × IsNumber key × AreBytes bytes

-- those of a line over the boot
abbrev pub IsBootInRange : BootLine → Type 0
IsBootInRange (Begin caller) = IsCaller caller
IsBootInRange (Drop caller) = IsCaller caller
IsBootInRange (Down word) = IsText word
IsBootInRange (Up word) = IsText word
IsBootInRange (Reboot word) = IsText word
IsBootInRange Table = Unit {0}
IsBootInRange Journal = Unit {0}
IsBootInRange (Report names) = AreNames names

-- the numbers, names and bytes of a line are in their ranges
abbrev pub IsInRange : Line → Type 0
IsInRange Pass = Unit {0}
IsInRange (Head line) = IsHeadInRange line
IsInRange (Call caller line) = IsCaller caller × IsCallInRange line
IsInRange (Commit caller) = IsCaller caller
IsInRange (Boot line) = IsBootInRange line
IsInRange Reopen = Unit {0}
IsInRange (Session line) = IsSessionInRange line
IsInRange (Seat line) = IsSeatInRange line

-- the words of a line of the head
abbrev pub words_of_head_line : HeadLine → List (List ℕ)
words_of_head_line (Component name) = codes "component" ∷ name ∷ []
words_of_head_line (Hard name other) = codes "hard" ∷ name ∷ other ∷ []
words_of_head_line (Soft name other) = codes "soft" ∷ name ∷ other ∷ []
words_of_head_line (Owns name table) = codes "owns" ∷ name ∷ decimal table ∷ []
words_of_head_line (Fault name after kind level) =
    codes "fault" ∷ name ∷ decimal after ∷ kind_word kind ∷ level_word level ∷ []
words_of_head_line (Limit entries bytes) = codes "limit" ∷ decimal entries ∷ decimal bytes ∷ []
words_of_head_line (Bricks bricks most least) =
    codes "bricks" ∷ decimal bricks ∷ decimal most ∷ decimal least ∷ []
words_of_head_line (Key bytes) = codes "key" ∷ hex_text bytes ∷ []
words_of_head_line Site = codes "site" ∷ []

-- the words of a line of a caller's live call
abbrev pub words_of_call_line : ℕ → CallLine → List (List ℕ)
words_of_call_line caller (Enter name) = codes "enter" ∷ caller_word caller ∷ name ∷ []
words_of_call_line caller Exit = codes "exit" ∷ caller_word caller ∷ []
words_of_call_line caller (Read table key) =
    codes "read" ∷ caller_word caller ∷ decimal table ∷ decimal key ∷ []
words_of_call_line caller (ListLine table) = codes "list" ∷ caller_word caller ∷ decimal table ∷ []
words_of_call_line caller (Put table key bytes) =
    codes "put" ∷ caller_word caller ∷ decimal table ∷ decimal key ∷ hex_text bytes ∷ []

-- the words of a line over the boot
abbrev pub words_of_boot_line : BootLine → List (List ℕ)
words_of_boot_line (Begin caller) = codes "begin" ∷ caller_word caller ∷ []
words_of_boot_line (Drop caller) = codes "drop" ∷ caller_word caller ∷ []
words_of_boot_line (Down word) = codes "down" ∷ word ∷ []
words_of_boot_line (Up word) = codes "up" ∷ word ∷ []
words_of_boot_line (Reboot word) = codes "reboot" ∷ word ∷ []
words_of_boot_line Table = codes "table" ∷ []
words_of_boot_line Journal = codes "journal" ∷ []
words_of_boot_line (Report names) = codes "report" ∷ names

-- the words of a line that is not passed over
abbrev pub words_of_line : Line → List (List ℕ)
words_of_line Pass = []
words_of_line (Head line) = words_of_head_line line
words_of_line (Call caller line) = words_of_call_line caller line
words_of_line (Commit caller) = codes "commit" ∷ caller_word caller ∷ []
words_of_line (Boot line) = words_of_boot_line line
words_of_line Reopen = codes "reopen" ∷ []
words_of_line (Session line) = words_of_session_line line
words_of_line (Seat line) = words_of_seat_line line

-- its words, with one space between each two; nothing for a line that is passed over
abbrev pub spelling : Line → List ℕ
spelling line = join_with_byte 32 (words_of_line line)

-- # and ASCII without a carriage return
abbrev pub IsComment : List ℕ → Type 0
IsComment text = (rest : List ℕ) × (text ≡ 35 ∷ rest) × All (λ b. (b < 128) × (b ≢ 13)) rest

-- A text spells a line: it is not too long, the line's fields are in their ranges, and the text is
-- its words; a comment, too, spells the line that is passed over.
abbrev pub Spells : List ℕ → Line → Type 0
Spells text line =
    (length text ≤ MAX_LINE_BYTES) × IsInRange line
    × ((text ≡ spelling line) ⊎ ((line ≡ Pass) × IsComment text))
