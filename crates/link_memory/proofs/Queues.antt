-- What is heard from a queue, by what stands at its front.
use Rattle.std.proofs.Common.{arith, ◌≡◌, ◌∙◌, ap, sym, refl, ℕ, suc, ◌+◌, ◌<◌, ◌≤◌, Bool, true, nat_lt, if◌then◌else◌, List, [], ◌∷◌, ◌++◌, length, drop, All, Option, Some, None, lt-ltb, le-ltb, length-append, append-nil}
use Rattle.std.proofs.lemmas.List.Elements.{All-head, All-tail}
use Rattle.ssm_frames.specs.declared.frame.Frame.{Frame}
use Rattle.ssm_stub.specs.declared.ear.TheConstants.{MAX_STRAYS}
use Rattle.ssm_stub.specs.declared.ear.Outcome.TheVariants.{Answered, Silent, Strayed}
use Rattle.link_memory.specs.Rule.{Hearing, FirstLawful, later_by, first_of, first_lawful, heard_none, heard_first, heard_from}
use Rattle.link_memory.specs.Leaving.{IsUnlawful}

drop-front : {X : Type 0} (xs ys : List X) → drop (length xs) (xs ++ ys) ≡ ys
drop-front [] ys = refl
drop-front (x ∷ xs) ys = drop-front xs ys

drop-past : {X : Type 0} (xs : List X) (y : X) (ys : List X) → drop (suc (length xs)) (xs ++ y ∷ ys) ≡ ys
drop-past [] y ys = refl
drop-past (x ∷ xs) y ys = drop-past xs y ys

later-more : {A : Type 0} (more : ℕ) (first : Option (FirstLawful A)) → later_by 1 (later_by more first) ≡ later_by (1 + more) first
later-more {A} more None = refl
later-more {A} more (Some first) = ap (λ n. Some (record { before = n; reply = first.reply })) (let e : 1 + (more + first.before) ≡ 1 + more + first.before = omega arith in e)

later-none : {A : Type 0} (first : Option (FirstLawful A)) → first ≡ later_by 0 first
later-none {A} None = refl
later-none {A} (Some first) = ap (λ n. Some (record { before = n; reply = first.reply })) (let e : first.before ≡ 0 + first.before = omega arith in e)

-- strays at the front put off the first lawful reply
behind_strays : {A : Type 0} (lawful : Frame → Option A) (strays rest : List Frame) → All (IsUnlawful lawful) strays → first_lawful lawful (strays ++ rest) ≡ later_by (length strays) (first_lawful lawful rest)
behind_strays lawful [] rest all = later-none (first_lawful lawful rest)
behind_strays lawful (stray ∷ strays) rest all =
    ap (λ verdict. first_of verdict (first_lawful lawful (strays ++ rest))) (All-head (IsUnlawful lawful) stray strays all)
    ∙ (ap (later_by 1) (behind_strays lawful strays rest (All-tail (IsUnlawful lawful) stray strays all))
    ∙ (later-more (length strays) (first_lawful lawful rest)
    ∙ ap (λ n. later_by n (first_lawful lawful rest)) (let e : 1 + length strays ≡ length (stray ∷ strays) = omega arith in e)))

pub rule_answers : {A : Type 0} (lawful : Frame → Option A) (strays : List Frame) (frame : Frame) (rest : List Frame) (reply : A) → All (IsUnlawful lawful) strays → length strays < MAX_STRAYS → lawful frame ≡ Some reply → heard_from lawful (strays ++ frame ∷ rest) ≡ record { outcome = Answered reply; left = rest }
rule_answers {A} lawful strays frame rest reply all few is =
    let queue = strays ++ frame ∷ rest in
    let first : first_lawful lawful queue ≡ Some (record { before = length strays + 0; reply = reply }) =
    behind_strays lawful strays (frame ∷ rest) all ∙ ap (λ verdict. later_by (length strays) (first_of verdict (first_lawful lawful rest))) is in
    let here : nat_lt (length strays + 0) MAX_STRAYS ≡ true = lt-ltb (length strays + 0) MAX_STRAYS (omega arith) in
    let gone : drop (length strays + 0 + 1) queue ≡ rest = ap (λ n. drop n queue) (let e : length strays + 0 + 1 ≡ suc (length strays) = omega arith in e) ∙ drop-past strays frame rest in
    let R : Bool → Hearing A = λ b. if b then record { outcome = Answered reply; left = drop (length strays + 0 + 1) queue } else heard_none queue in
    ap (heard_first queue) first ∙ (ap R here ∙ ap (λ (left : List Frame). record { outcome = Answered reply; left = left }) gone)

pub rule_silent : {A : Type 0} (lawful : Frame → Option A) (strays : List Frame) → All (IsUnlawful lawful) strays → length strays < MAX_STRAYS → heard_from lawful strays ≡ record { outcome = Silent; left = [] }
rule_silent {A} lawful strays all few =
    let first : first_lawful lawful strays ≡ None = ap (first_lawful lawful) (sym (append-nil strays)) ∙ behind_strays lawful strays [] all in
    let R : Bool → Hearing A = λ b. if b then record { outcome = Silent; left = [] } else record { outcome = Strayed; left = drop MAX_STRAYS strays } in
    ap (heard_first strays) first ∙ ap R (lt-ltb (length strays) MAX_STRAYS few)

-- nothing lawful stands before 64 strays
past_strays : {A : Type 0} (queue : List Frame) (n : ℕ) (first : Option (FirstLawful A)) → MAX_STRAYS ≤ n → heard_first queue (later_by n first) ≡ heard_none queue
past_strays {A} queue n None many = refl
past_strays {A} queue n (Some first) many =
    let R : Bool → Hearing A = λ b. if b then record { outcome = Answered first.reply; left = drop (n + first.before + 1) queue } else heard_none queue in
    ap R (le-ltb (n + first.before) MAX_STRAYS (omega arith))

pub rule_strays : {A : Type 0} (lawful : Frame → Option A) (strays rest : List Frame) → All (IsUnlawful lawful) strays → length strays ≡ MAX_STRAYS → heard_from lawful (strays ++ rest) ≡ record { outcome = Strayed; left = rest }
rule_strays {A} lawful strays rest all many =
    let queue = strays ++ rest in
    let long : MAX_STRAYS ≤ length queue = (let l = length-append strays rest in omega arith) in
    let gone : drop MAX_STRAYS queue ≡ rest = ap (λ n. drop n queue) (sym many) ∙ drop-front strays rest in
    let R : Bool → Hearing A = λ b. if b then record { outcome = Silent; left = [] } else record { outcome = Strayed; left = drop MAX_STRAYS queue } in
    ap (heard_first queue) (behind_strays lawful strays rest all)
    ∙ (past_strays queue (length strays) (first_lawful lawful rest) (omega arith)
    ∙ (ap R (le-ltb (length queue) MAX_STRAYS long)
    ∙ ap (λ (left : List Frame). record { outcome = Strayed; left = left }) gone))
