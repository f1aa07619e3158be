-- What is drawn for each turn.
use Rattle.std.specs.Prelude.{ℕ, ◌+◌, ◌*◌, ◌/◌, ◌%◌, ◌^◌, nat_lt, if◌then◌else◌}
use Rattle.workload.specs.declared.choices.Choice.{Choice}
use Rattle.workload.specs.declared.choices.Deed.{Deed}
use Rattle.workload.specs.declared.choices.Deed.TheVariants as deeds
use Rattle.workload.specs.declared.choices.TheConstants.{MULTIPLIER, INCREMENT}

-- the number that is drawn after this one, by a linear congruence modulo 2^64
abbrev pub next_number : ℕ → ℕ
next_number x = (x * MULTIPLIER + INCREMENT) % 2 ^ 64

-- what a live caller does by a number below 8: three put, one reads, one lists, two commit, and the last reboots
abbrev pub deed_of : ℕ → Deed
deed_of op =
    if nat_lt op 3 then deeds.Put
    else if nat_lt op 4 then deeds.Read
    else if nat_lt op 5 then deeds.List
    else if nat_lt op 7 then deeds.Commit
    else deeds.Reboot

-- the choice that a number of 32 bits makes: of its lowest bits three say what is done, two by whom, and four with
-- which key
abbrev pub choice_of : ℕ → Choice
choice_of r = record { deed = deed_of (r % 8); caller = (r / 8) % 4 + 1; key = (r / 32) % 16 }

-- what a number chooses, by its upper half
unfoldable pub chosen : ℕ → Choice
chosen x = choice_of (x / 2 ^ 32)
