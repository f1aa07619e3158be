-- Kept values at the pairs of an ordered map.
use Rattle.std.specs.Prelude.{List, map}
use Rattle.crash_base.specs.declared.numbers.SessionKey.{SessionKey}
use Rattle.crash_base.specs.declared.numbers.Version.{Version}
use Rattle.brick_store.specs.declared.kept.Kept.{Kept}
use Rattle.brick_store.specs.declared.kept_map.Pair.{Pair}
use Rattle.brick_store.specs.declared.kept_map.Lease.{Lease}

-- the pair of a key and a version
abbrev pub pair_of : SessionKey → Version → Pair
pair_of key version =
    record { key = key.0; node = version.node; boot = version.boot; serial = version.serial }

-- the value that is kept at a pair
abbrev pub kept_at : Pair × Lease → Kept
kept_at (pair, lease) =
    record {
      key = record { 0 = pair.key };
      version = record { node = pair.node; boot = pair.boot; serial = pair.serial };
      expiry = lease.node.expiry;
      value = lease.value;
    }

-- the values that are kept at pairs, in their order
abbrev pub kept_in : List (Pair × Lease) → List Kept
kept_in = map kept_at
