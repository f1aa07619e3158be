-- The values that a brick keeps, in order of key and version.
use Rattle.std.specs.Prelude.{◌≡◌, All, ℕ, ◌+◌, ◌&&◌, ◌||◌, nat_lt, not, Bool, List, [], ◌∷◌, length, Option, Some, None}
use Rattle.std.specs.List.{find}
use Rattle.std.specs.Ordering.{nat_cmp, ordering_then, match_ordering}
use Rattle.std.specs.Cmp.Lexicographic.{slice_cmp}
use Rattle.std.specs.declared.cmp.Ordering.{Ordering}
use Rattle.std.specs.declared.cmp.Ordering.TheVariants.{Less}
use Rattle.crash_base.specs.declared.numbers.Moment.{Moment}
use Rattle.crash_base.specs.declared.numbers.SessionKey.{SessionKey}
use Rattle.crash_base.specs.declared.numbers.Version.{Version}
use Rattle.crash_base.specs.Same.{same_key, same_version}
use Rattle.ssm_frames.specs.declared.frame.TheConstants.{SWEEP_GRACE}
use Rattle.brick_store.specs.declared.kept.Kept.{Kept}
use Rattle.brick_store.specs.declared.kept.TheConstants.{MAX_BRICK_VALUES, MAX_BRICK_BYTES}

-- whether a value is kept under this key and version
abbrev pub is_under : SessionKey → Version → Kept → Bool
is_under key version s = same_key key s.key && same_version version s.version

-- the order of versions: by node, then by boot, and then by serial
abbrev pub version_order : Version → Version → Ordering
version_order a b =
    ordering_then (nat_cmp a.node b.node)
    (ordering_then (nat_cmp a.boot b.boot) (nat_cmp a.serial b.serial))

-- the order of kept values: by the bytes of their keys, and of one key by version
abbrev pub kept_order : Kept → Kept → Ordering
kept_order a b = ordering_then (slice_cmp nat_cmp a.key.0 b.key.0) (version_order a.version b.version)

-- each value comes before all that follow it, so no key and version stands twice
abbrev pub AreInOrder : List Kept → Type 0
AreInOrder [] = Unit {0}
AreInOrder (s ∷ ss) = All (λ t. kept_order s t ≡ Less) ss × AreInOrder ss

-- A value put among others in order: it takes the place of the one under its key and version, and
-- else comes before the first that it is before.
abbrev pub with_kept : Kept → List Kept → List Kept
with_kept s [] = s ∷ []
with_kept s (t ∷ ts) = match_ordering (kept_order s t) (s ∷ t ∷ ts) (s ∷ ts) (t ∷ with_kept s ts)

-- the value under a key and version, if there is one
abbrev pub kept_under : SessionKey → Version → List Kept → Option Kept
kept_under key version = find (is_under key version)

-- how many bytes the values have
abbrev pub bytes_of : List Kept → ℕ
bytes_of [] = 0
bytes_of (s ∷ ss) = length s.value + bytes_of ss

-- how many bytes the value has, or 0 where there is none
abbrev pub size_of : Option Kept → ℕ
size_of None = 0
size_of (Some s) = length s.value

-- Whether a brick that keeps these values has no room for this one: with it they would be more than
-- 65,536, or have more than 67,108,864 bytes.
abbrev pub is_full : List Kept → Kept → Bool
is_full kept s =
    nat_lt MAX_BRICK_VALUES (length (with_kept s kept))
    || nat_lt MAX_BRICK_BYTES (bytes_of (with_kept s kept))

-- whether a moment is past an expiry by more than the grace of 60,000 ms
abbrev pub is_late : Moment → Moment → Bool
is_late moment expiry = nat_lt (expiry.0 + SWEEP_GRACE) moment.0

-- whether a sweep at a moment leaves a value
abbrev pub outlives : Moment → Kept → Bool
outlives moment s = not (is_late moment s.expiry)
