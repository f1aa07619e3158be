-- The cookies of keys.
use Rattle.std.proofs.Common.{◌≡◌, ℕ, zero, suc, ◌+◌, ◌-◌, ◌<◌, List, [], ◌∷◌, ◌++◌, length, Option, Some, None, refl, ap, ◌∙◌, arith}
use Rattle.std.specs.Prelude.{slice_get, slice_set}
use Rattle.std.specs.Option.{option_and_then}
use lib.ListN.{replicate}
use Rattle.session_cookie.specs.declared.cookie.Cookie.{Cookie}
use Rattle.session_lanes.proofs.LaneLists.{get_set_other}
use Rattle.session_steps.specs.Sessions.{SessionsState, cookie_of, padded}

-- the cookie of a key among others, if it has one
abbrev cookie_in : Option (Option Cookie) → Option Cookie
cookie_in o = option_and_then (λ (cookie : Option Cookie). cookie) o

none_more : (n key : ℕ) → cookie_in (slice_get (replicate n None) key) ≡ None
none_more zero key = refl
none_more (suc n) zero = refl
none_more (suc n) (suc key) = none_more n key

in_padded : (cookies : List (Option Cookie)) (n key : ℕ) → cookie_in (slice_get (cookies ++ replicate n None) key) ≡ cookie_in (slice_get cookies key)
in_padded [] n key = none_more n key
in_padded (c ∷ cookies) n zero = refl
in_padded (c ∷ cookies) n (suc key) = in_padded cookies n key

set_there : {A : Type 0} (xs : List A) (k : ℕ) (y : A) → k < length xs → slice_get (slice_set xs k y) k ≡ Some y
set_there [] k y within = absurd (omega (arith, within))
set_there (x ∷ xs) zero y within = refl
set_there (x ∷ xs) (suc k) y within = set_there xs k y (omega (arith, within))

length_more : (cookies : List (Option Cookie)) (n : ℕ) → length (cookies ++ replicate n None) ≡ length cookies + n
length_more [] zero = omega arith
length_more [] (suc n) = omega (arith, length_more [] n)
length_more (c ∷ cookies) n = omega (arith, length_more cookies n)

padded_long : (cookies : List (Option Cookie)) (key : ℕ) → key < length (padded cookies key)
padded_long cookies key = omega (arith, length_more cookies (suc key - length cookies))

-- the cookie that was kept of a key is its cookie
pub kept_cookie : (s t : SessionsState) (key : ℕ) (cookie : Cookie) → t.cookies ≡ slice_set (padded s.cookies key) key (Some cookie) → cookie_of t key ≡ Some cookie
kept_cookie s t key cookie are =
    ap (λ cookies. cookie_in (slice_get cookies key)) are ∙ ap cookie_in (set_there (padded s.cookies key) key (Some cookie) (padded_long s.cookies key))

-- and each other key has the cookie that it had
pub other_cookie : (s t : SessionsState) (key : ℕ) (cookie : Cookie) (other : ℕ) → t.cookies ≡ slice_set (padded s.cookies key) key (Some cookie) → (other ≡ key → ⊥) → cookie_of t other ≡ cookie_of s other
other_cookie s t key cookie other are apart =
    ap (λ cookies. cookie_in (slice_get cookies other)) are
    ∙ ap cookie_in (get_set_other (padded s.cookies key) key (Some cookie) other apart)
    ∙ in_padded s.cookies (suc key - length s.cookies) other

pub same_cookie : (s t : SessionsState) (key : ℕ) → t.cookies ≡ s.cookies → cookie_of t key ≡ cookie_of s key
same_cookie s t key are = ap (λ cookies. cookie_in (slice_get cookies key)) are
