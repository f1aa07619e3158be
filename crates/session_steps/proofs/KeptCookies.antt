-- The cookies of keys, each of which names 1 to 16 distinct bricks.
use Rattle.std.proofs.Common.{◌≡◌, ◌-◌, All, ℕ, zero, suc, List, [], ◌∷◌, ◌++◌, length, Option, Some, None, subst}
use Rattle.std.specs.Prelude.{slice_get, slice_set}
use Rattle.std.specs.Option.{option_and_then}
use Rattle.std.proofs.lemmas.List.Elements.{All-nil, All-cons, All-head, All-tail}
use lib.ListN.{replicate}
use Rattle.session_cookie.specs.Cookie.{AreHolders}
use Rattle.session_cookie.specs.declared.cookie.Cookie.{Cookie}
use Rattle.session_steps.specs.Kept.{HasHolders}
use Rattle.session_steps.specs.Sessions.{SessionsState, cookie_of, padded}

at_place : (cookies : List (Option Cookie)) (key : ℕ) (cookie : Cookie) → All HasHolders cookies → option_and_then (λ (c : Option Cookie). c) (slice_get cookies key) ≡ Some cookie → AreHolders cookie.bricks
at_place [] key cookie all is = absurd (cc)
at_place (None ∷ cookies) zero cookie all is = absurd (cc)
at_place (Some c ∷ cookies) zero cookie all is = (let same : c ≡ cookie = cc in subst (λ (x : Cookie). AreHolders x.bricks) same (All-head HasHolders (Some c) cookies all))
at_place (c ∷ cookies) (suc key) cookie all is = at_place cookies key cookie (All-tail HasHolders c cookies all) is

-- the cookie of a key
pub cookie_holders : (s : SessionsState) (key : ℕ) (cookie : Cookie) → All HasHolders s.cookies → cookie_of s key ≡ Some cookie → AreHolders cookie.bricks
cookie_holders s key cookie all is = at_place s.cookies key cookie all is

none_of : (n : ℕ) → All HasHolders (replicate n None)
none_of zero = All-nil HasHolders
none_of (suc n) = All-cons HasHolders None (replicate n None) tt (none_of n)

with_more : (cookies more : List (Option Cookie)) → All HasHolders cookies → All HasHolders more → All HasHolders (cookies ++ more)
with_more [] more all rest = rest
with_more (c ∷ cookies) more all rest = All-cons HasHolders c (cookies ++ more) (All-head HasHolders c cookies all) (with_more cookies more (All-tail HasHolders c cookies all) rest)

with_one : (cookies : List (Option Cookie)) (key : ℕ) (cookie : Cookie) → All HasHolders cookies → AreHolders cookie.bricks → All HasHolders (slice_set cookies key (Some cookie))
with_one [] key cookie all are = All-nil HasHolders
with_one (c ∷ cookies) zero cookie all are = All-cons HasHolders (Some cookie) cookies are (All-tail HasHolders c cookies all)
with_one (c ∷ cookies) (suc key) cookie all are = All-cons HasHolders c (slice_set cookies key (Some cookie)) (All-head HasHolders c cookies all) (with_one cookies key cookie (All-tail HasHolders c cookies all) are)

-- the cookies after one more is kept
pub holders_kept : (cookies : List (Option Cookie)) (key : ℕ) (cookie : Cookie) → All HasHolders cookies → AreHolders cookie.bricks → All HasHolders (slice_set (padded cookies key) key (Some cookie))
holders_kept cookies key cookie all are = with_one (padded cookies key) key cookie (with_more cookies (replicate (suc key - length cookies) None) all (none_of (suc key - length cookies))) are
