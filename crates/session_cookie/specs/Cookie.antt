-- What a cookie says, and the fields that say it.
use Rattle.std.specs.Prelude.{◌≡◌, ◌≢◌, ℕ, ◌^◌, ◌<◌, ◌≤◌, List, [], ◌∷◌, ◌++◌, length, All}
use Rattle.std.specs.Int.{w16, w32, w64, to_be_bytes}
use Rattle.std.specs.List.{flat_map}
use Rattle.crash_base.specs.declared.numbers.Moment.{Moment}
use Rattle.crash_base.specs.declared.numbers.SessionKey.{SessionKey}
use Rattle.crash_base.specs.declared.numbers.Version.{Version}
use Rattle.session_cookie.specs.declared.cookie.TheConstants.{MAX_HOLDERS}
use Rattle.session_cookie.specs.declared.cookie.Cookie.{Cookie}
use Rattle.session_cookie.specs.declared.cookie.Holder.{Holder}

-- the 14 bytes of a version
unfoldable pub version_bytes : Version → List ℕ
version_bytes v = to_be_bytes w16 v.node ++ to_be_bytes w32 v.boot ++ to_be_bytes w64 v.serial

-- the 10 bytes of a brick and its incarnation
unfoldable pub holder_bytes : Holder → List ℕ
holder_bytes h = to_be_bytes w16 h.brick.0 ++ to_be_bytes w64 h.incarnation

-- the 40 bytes before the bricks: the format number, key, version and expiry of a cookie, and how many bricks it has
unfoldable pub head_bytes : SessionKey → Version → Moment → ℕ → List ℕ
head_bytes key version expiry count =
    1 ∷ key.0 ++ version_bytes version ++ to_be_bytes w64 expiry.0 ++ count ∷ []

-- The fields of a cookie: its head, and each of its bricks.
abbrev pub cookie_fields : Cookie → List ℕ
cookie_fields c =
    head_bytes c.key c.version c.expiry (length c.bricks) ++ flat_map holder_bytes c.bricks

-- a version's numbers are in their ranges
abbrev pub IsVersion : Version → Type 0
IsVersion v = (v.node < 2 ^ 16) × (v.boot < 2 ^ 32) × (v.serial < 2 ^ 64)

-- a holder's numbers are in their ranges
abbrev pub IsHolder : Holder → Type 0
IsHolder h = (h.brick.0 < 2 ^ 16) × (h.incarnation < 2 ^ 64)

-- a key is 16 bytes
pub record IsKey (key : SessionKey) : Type 0 where
  pub size : length key.0 ≡ 16
  pub bytes : All (λ b. b < 2 ^ 8) key.0

-- the key, the version and the expiry of a cookie are in their ranges
abbrev pub IsHead : SessionKey → Version → Moment → Type 0
IsHead key version expiry =
    IsKey key × IsVersion version × (expiry.0 < 2 ^ 64)

-- no brick stands twice
abbrev pub AreDistinct : List Holder → Type 0
AreDistinct [] = Unit {0}
AreDistinct (h ∷ hs) = All (λ (other : Holder). h.brick.0 ≢ other.brick.0) hs × AreDistinct hs

-- 1 to 16 distinct bricks
abbrev pub AreHolders : List Holder → Type 0
AreHolders hs = (1 ≤ length hs) × (length hs ≤ MAX_HOLDERS) × AreDistinct hs

-- A cookie as a text may say it: its numbers are in their ranges, and it has 1 to 16 distinct bricks.
pub record IsCookie (c : Cookie) : Type 0 where
  pub head : IsHead c.key c.version c.expiry
  pub each : All IsHolder c.bricks
  pub bricks : AreHolders c.bricks
