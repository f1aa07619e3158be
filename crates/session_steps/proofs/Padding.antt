-- Places for the cookies of keys.
use Rattle.std.proofs.Common.{◌≡◌, ◌∙◌, ap, arith, append_assoc, ℕ, suc, ◌-◌, ◌≤◌, List, [], ◌∷◌, ◌++◌, length, length-append, Option, None}
use lib.ListN.{replicate}
use Rattle.session_cookie.specs.declared.cookie.Cookie.{Cookie}
use Rattle.session_steps.specs.Sessions.{padded}

-- one place more changes nothing of the places up to a key
pub padded_more : (cookies : List (Option Cookie)) (key : ℕ) → length cookies ≤ key → padded (cookies ++ None ∷ []) key ≡ padded cookies key
padded_more cookies key below =
    let rest : ℕ → List (Option Cookie) = λ k. replicate k None in
    let now : suc key - length (cookies ++ None ∷ []) ≡ key - length cookies = omega (arith, length-append cookies (None ∷ []), below) in
    let before : suc (key - length cookies) ≡ suc key - length cookies = omega (arith, below) in
    ap (λ k. (cookies ++ None ∷ []) ++ rest k) now ∙ append_assoc cookies (None ∷ []) (rest (key - length cookies)) ∙ ap (λ k. cookies ++ rest k) before
