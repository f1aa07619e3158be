-- The key of a service.
use Rattle.std.specs.Prelude.{ℕ, Bool, ◌&&◌, nat_le, List, length}
use Rattle.serve_command.specs.declared.key.TheConstants.{MIN_KEY_BYTES, MAX_KEY_BYTES}

-- Whether bytes may be a key: they are not too few and not too many.
abbrev pub is_key : List ℕ → Bool
is_key bytes = nat_le MIN_KEY_BYTES (length bytes) && nat_le (length bytes) MAX_KEY_BYTES
