-- When a restart is planned.
use Rattle.std.specs.Prelude.{ℕ, ◌*◌, nat_le, ◌==◌, ◌||◌, ◌&&◌, Bool}
use Rattle.journal_model.specs.declared.limits.FullAt.{FullAt}

-- Whether a journal has so many parts of 32 of the 262,144 entries or of the 268,435,456 bytes that it may have.
abbrev pub is_full_to : FullAt → ℕ → Bool
is_full_to full parts = nat_le (8192 * parts) full.entries || nat_le (8388608 * parts) full.bytes

-- Whether a restart is due, by how full the journal is and how many requests are inside.
abbrev pub is_restart_due : FullAt → ℕ → Bool
is_restart_due full inside = is_full_to full 31 || (is_full_to full 28 && (inside == 0))
