-- The ordered set of nonces by which a world finds a nonce to be new: no public clause cites it.
use Rattle.std.specs.Prelude.{◌≡◌, Bool, List}
use Rattle.std.specs.BTreeSet.{BTreeSet, contains}
use Rattle.std.specs.List.{list_any}
use Rattle.std.specs.declared.cmp.Ordering.{Ordering}
use Rattle.crash_base.specs.declared.numbers.Version.{Version}
use Rattle.crash_base.specs.Same.{same_version}
use Rattle.ssm_world.specs.declared.call.Call.{Call}
use Rattle.ssm_world.specs.declared.ordered_nonces.Nonce.{Nonce}
use Rattle.ssm_world.specs.contracts.ordered_nonces.NonceOrd.TheImpl as nonce_ord
use Rattle.ssm_world.specs.Worlds.{nonce_of}

-- the order of nonces: by node, of a node by boot, and of a boot by serial
abbrev pub nonce_order : Nonce → Nonce → Ordering
nonce_order = (nonce_ord.ghosts).cmp

-- a version as a nonce
abbrev pub key_of : Version → Nonce
key_of version = record { node = version.node; boot = version.boot; serial = version.serial }

-- whether a version is among these nonces
abbrev pub is_among : BTreeSet Nonce → Version → Bool
is_among nonces version = contains nonce_order nonces (key_of version)

-- these nonces are just those of these calls
abbrev pub AreNonces : BTreeSet Nonce → List Call → Type 0
AreNonces nonces calls =
    (version : Version) → is_among nonces version ≡ list_any (λ (c : Call). same_version (nonce_of c) version) calls
