-- What the words of a line may say, and what spells it.
use Rattle.std.specs.Prelude.{◌≡◌, ◌≢◌, ℕ, ◌^◌, ◌<◌, ◌≤◌, ◌⊎◌, List, ◌∷◌, length, All, codes, []}
use Rattle.std.specs.Fmt.{decimal}
use Rattle.crash_base.specs.declared.names.TheConstants.{MAX_NAME_BYTES}
use Rattle.crash_base.specs.declared.fault_plans.FaultKind.{FaultKind}
use Rattle.crash_base.specs.declared.fault_plans.FaultKind.TheVariants.{Raise, Hang, Leak}
use Rattle.scenario_text.specs.declared.head_line.CureLevel.{CureLevel}
use Rattle.scenario_text.specs.declared.head_line.CureLevel.TheVariants.{Group, App, Process}
use Rattle.scenario_text.specs.declared.line.TheConstants.{MAX_HEX_BYTES, MAX_CALLER}
use Rattle.scenario_text.specs.declared.seat_line.TheConstants.{MAX_SEAT}
use Rattle.scenario_text.specs.declared.session_line.TheConstants.{MAX_KEY}
use Rattle.scenario_text.specs.declared.session_line.Freed.{Freed}
use Rattle.scenario_text.specs.declared.session_line.Freed.TheVariants.{Answered, Silent}

-- from a first number to a last one
abbrev pub IsWithin : ℕ → ℕ → ℕ → Type 0
IsWithin first last n = (first ≤ n) × (n ≤ last)

-- a digit, a capital letter, a small letter or _
abbrev pub IsNameByte : ℕ → Type 0
IsNameByte b = IsWithin 48 57 b ⊎ (IsWithin 65 90 b ⊎ (IsWithin 97 122 b ⊎ (b ≡ 95)))

-- 1 to 32 (`MAX_NAME_BYTES`) such bytes
abbrev pub IsName : List ℕ → Type 0
IsName name = IsWithin 1 MAX_NAME_BYTES (length name) × All IsNameByte name

-- what the names of a report may be: one or more
abbrev pub AreNames : List (List ℕ) → Type 0
AreNames names = (1 ≤ length names) × All IsName names

-- what a number may be that stands alone, as that of a table, entries or a moment
abbrev pub IsNumber : ℕ → Type 0
IsNumber n = n < 2 ^ 64

-- what the number of a brick may be
abbrev pub IsBrick : ℕ → Type 0
IsBrick brick = (1 ≤ brick) × IsNumber brick

-- what the number of a caller may be
abbrev pub IsCaller : ℕ → Type 0
IsCaller caller = IsWithin 1 MAX_CALLER caller

-- what the number of a session key may be
abbrev pub IsSessionKey : ℕ → Type 0
IsSessionKey key = IsWithin 1 MAX_KEY key

-- what the number of a connection may be
abbrev pub IsSeat : ℕ → Type 0
IsSeat seat = IsWithin 1 MAX_SEAT seat

-- what a line may give in hexadecimal
abbrev pub AreBytes : List ℕ → Type 0
AreBytes bytes = (length bytes ≤ MAX_HEX_BYTES) × All (λ b. b < 256) bytes

-- what a text may be, as any word: some bytes of ASCII, none of them a space or a carriage return
abbrev pub IsText : List ℕ → Type 0
IsText text =
    (1 ≤ length text) × All (λ b. (b < 128) × (b ≢ 32) × (b ≢ 13)) text

-- a caller's word: c and its number
abbrev pub caller_word : ℕ → List ℕ
caller_word caller = 99 ∷ decimal caller

-- a session key's word: k and its number
abbrev pub key_word : ℕ → List ℕ
key_word key = 107 ∷ decimal key

-- a connection's word: s and its number
abbrev pub seat_word : ℕ → List ℕ
seat_word seat = 115 ∷ decimal seat

-- the word for how a pass is spent
abbrev pub freed_word : Freed → List ℕ
freed_word Answered = codes "answered"
freed_word Silent = codes "silent"

-- what a component may do that fails, as a line says it
abbrev pub IsKind : FaultKind → Type 0
IsKind Raise = Unit {0}
IsKind Hang = Unit {0}
IsKind Leak = ⊥

-- the word for what a component does that fails; none is for one that leaks
abbrev pub kind_word : FaultKind → List ℕ
kind_word Raise = codes "raise"
kind_word Hang = codes "hang"
kind_word Leak = []

-- the word for what cures a fault
abbrev pub level_word : CureLevel → List ℕ
level_word Group = codes "group"
level_word App = codes "app"
level_word Process = codes "process"
