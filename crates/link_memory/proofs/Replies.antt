-- Replies at places among all that were made.
use Rattle.std.proofs.Common.{arith, ◌≡◌, ◌∙◌, ap, sym, refl, ℕ, zero, suc, ◌-◌, ◌<◌, ◌≤◌, Bool, true, false, IsTrue, is_some, nat_lt, if◌then◌else◌, List, [], ◌∷◌, ◌++◌, length, All, Option, Some, None}
use Rattle.std.specs.List.{slice_get, cons_option}
use Rattle.std.proofs.lemmas.List.Elements.{All-head, All-tail, All-push, All-weaker, filter_map-append}
use Rattle.std.proofs.lemmas.Bool.{ltb-false}
use Rattle.std.proofs.lemmas.List.{length_push}
use Rattle.ssm_frames.specs.declared.frame.Frame.{Frame}
use Rattle.ssm_frames.specs.declared.frame.Frame.TheVariants.{Put, Get, Sweep, Stored, Found, Absent, BrickFull, Swept}
use Rattle.ssm_frames.specs.Requests.{is_request}
use Rattle.brick_store.specs.Bricks.{answered, reply}
use Rattle.link_memory.specs.Lane.{LaneValue, with_reply_if, served, with_repeat, repeated, replies_at}

slice_get-more : {X : Type 0} (xs : List X) (x : X) (i : ℕ) → i < length xs → slice_get (xs ++ x ∷ []) i ≡ slice_get xs i
slice_get-more [] x i h = absurd (omega arith)
slice_get-more (y ∷ ys) x zero h = refl
slice_get-more (y ∷ ys) x (suc i) h = slice_get-more ys x i (omega arith)

slice_get-last : {X : Type 0} (xs : List X) (x : X) → slice_get (xs ++ x ∷ []) (length xs) ≡ Some x
slice_get-last [] x = refl
slice_get-last (y ∷ ys) x = slice_get-last ys x

-- a reply more changes none of those at places before it
pub replies_stay : (made : List Frame) (new : Frame) (places : List ℕ) → All (λ place. place < length made) places → replies_at (made ++ new ∷ []) places ≡ replies_at made places
replies_stay made new [] h = refl
replies_stay made new (place ∷ places) h =
    ap (λ o. cons_option o (replies_at (made ++ new ∷ []) places)) (slice_get-more made new place (All-head (λ p. p < length made) place places h))
    ∙ ap (cons_option (slice_get made place)) (replies_stay made new places (All-tail (λ p. p < length made) place places h))

-- the place behind all replies is that of the next one
pub replies_grow : (made : List Frame) (new : Frame) (places : List ℕ) → All (λ place. place < length made) places → replies_at (made ++ new ∷ []) (places ++ length made ∷ []) ≡ replies_at made places ++ new ∷ []
replies_grow made new places h =
    filter_map-append (slice_get (made ++ new ∷ [])) places (length made ∷ [])
    ∙ (ap (λ xs. xs ++ cons_option (slice_get (made ++ new ∷ []) (length made)) []) (replies_stay made new places h)
    ∙ ap (λ o. replies_at made places ++ cons_option o []) (slice_get-last made new))

-- a place is added behind the others
pub replies_push : (made : List Frame) (found : Option Frame) (places : List ℕ) (place : ℕ) → slice_get made place ≡ found → replies_at made (places ++ place ∷ []) ≡ replies_at made places ++ cons_option found []
replies_push made found places place h = filter_map-append (slice_get made) places (place ∷ []) ∙ ap (λ o. replies_at made places ++ cons_option o []) h

-- the places of the replies that wait stay within, where a reply more was made
pub kept_within : (lost : Bool) (made : List Frame) (new : Frame) (places : List ℕ) → All (λ place. place < length made) places → All (λ place. place < length (made ++ new ∷ [])) (if lost then places else places ++ length made ∷ [])
kept_within true made new places h = All-weaker (λ place. place < length made) (λ place. place < length (made ++ new ∷ [])) (λ x l. omega (arith, length_push made new)) places h
kept_within false made new places h =
    All-push (λ place. place < length (made ++ new ∷ [])) places (length made)
    (All-weaker (λ place. place < length made) (λ place. place < length (made ++ new ∷ [])) (λ x l. omega (arith, length_push made new)) places h)
    (omega (arith, length_push made new))

-- a lane after a reply, by the places of those that wait
kept_by : (lost : Bool) (lane : LaneValue) (new : Frame) (places : List ℕ) → nat_lt 0 lane.to_lose ≡ lost → lane.queue ≡ replies_at lane.made places → All (λ place. place < length lane.made) places
    → record { brick = lane.brick; to_drop = lane.to_drop; to_lose = lane.to_lose - 1; made = lane.made ++ new ∷ []; queue = replies_at (lane.made ++ new ∷ []) (if lost then places else places ++ length lane.made ∷ []); silences = lane.silences }
    ≡ (if lost
    then record lane { to_lose = lane.to_lose - 1; made = lane.made ++ new ∷ [] }
    else record lane { made = lane.made ++ new ∷ []; queue = lane.queue ++ new ∷ [] })
kept_by true lane new places l q h = ap (λ (xs : List Frame). record lane { to_lose = lane.to_lose - 1; made = lane.made ++ new ∷ []; queue = xs }) (replies_stay lane.made new places h ∙ sym q)
kept_by false lane new places l q h =
    let none : lane.to_lose - 1 ≡ lane.to_lose = (let m : lane.to_lose ≤ 0 = ltb-false 0 lane.to_lose l in omega arith) in
    ap (λ (n : ℕ). record lane { to_lose = n; made = lane.made ++ new ∷ []; queue = replies_at (lane.made ++ new ∷ []) (places ++ length lane.made ∷ []) }) none
    ∙ ap (λ (xs : List Frame). record lane { made = lane.made ++ new ∷ []; queue = xs }) (replies_grow lane.made new places h ∙ ap (λ ys. ys ++ new ∷ []) (sym q))

pub served_by : (lane : LaneValue) (request new : Frame) (places : List ℕ) → lane.queue ≡ replies_at lane.made places → All (λ place. place < length lane.made) places → reply lane.brick request ≡ Some new
    → record { brick = answered lane.brick request; to_drop = lane.to_drop; to_lose = lane.to_lose - 1; made = lane.made ++ new ∷ []; queue = replies_at (lane.made ++ new ∷ []) (if nat_lt 0 lane.to_lose then places else places ++ length lane.made ∷ []); silences = lane.silences }
    ≡ served request lane
served_by lane request new places q h is =
    kept_by (nat_lt 0 lane.to_lose) (record lane { brick = answered lane.brick request }) new places refl q h
    ∙ sym (ap (λ o. with_reply_if o (record lane { brick = answered lane.brick request })) is)

is_there : {X : Type 0} (xs : List X) (i : ℕ) → i < length xs → IsTrue (is_some (slice_get xs i))
is_there [] i h = absurd (omega arith)
is_there (x ∷ xs) zero h = refl
is_there (x ∷ xs) (suc i) h = is_there xs i (omega arith)

-- a lane after a repeat, by the places of the replies that wait
repeated_if : (found : Option Frame) (lane : LaneValue) (number : ℕ) (places : List ℕ) → slice_get lane.made number ≡ found → IsTrue (is_some found) → lane.queue ≡ replies_at lane.made places
    → record lane { queue = replies_at lane.made (places ++ number ∷ []) } ≡ with_repeat found lane
repeated_if None lane number places is h q = absurd cc
repeated_if (Some reply) lane number places is h q = ap (λ (xs : List Frame). record lane { queue = xs }) (replies_push lane.made (Some reply) places number is ∙ ap (λ ys. ys ++ reply ∷ []) (sym q))

pub repeated_by : (lane : LaneValue) (number : ℕ) (places : List ℕ) → 1 ≤ number → number ≤ length lane.made → lane.queue ≡ replies_at lane.made places
    → record lane { queue = replies_at lane.made (places ++ (number - 1) ∷ []) } ≡ repeated number lane
repeated_by lane number places some within q = repeated_if (slice_get lane.made (number - 1)) lane (number - 1) places refl (is_there lane.made (number - 1) (omega arith)) q

-- a frame that is no request does nothing
pub not_served : (lane : LaneValue) (frame : Frame) → is_request frame ≡ false → served frame lane ≡ lane
not_served lane (Put a b c d e) h = absurd (cc)
not_served lane (Get a b c) h = absurd (cc)
not_served lane (Sweep a b) h = absurd (cc)
not_served lane (Stored a b c d e) h = refl
not_served lane (Found a b c d e f g) h = refl
not_served lane (Absent a b c d e f) h = refl
not_served lane (BrickFull a b c d e f g) h = refl
not_served lane (Swept a b c d) h = refl
