-- When a brick comes to its outcome.
use Rattle.std.proofs.Common.{arith, ◌≡◌, ◌∙◌, ap, sym, refl, subst, inl, inr, ℕ, ◌+◌, ◌<◌, Bool, true, false, IsTrue, nat_lt, if◌then◌else◌, List, [], ◌∷◌, ◌++◌, length, map, All, Option, Some, None}
use Rattle.std.specs.List.{fold}
use Rattle.std.proofs.lemmas.Bool.{ltb-true, ltb-false, lt-ltb, le-ltb, cases_lt}
use Rattle.std.proofs.lemmas.List.Elements.{All-nil, All-cons, All-head, All-tail}
use Rattle.crash_base.specs.declared.numbers.BrickNo.{BrickNo}
use Rattle.ssm_stub.specs.declared.ear.Stage.TheVariants.{Unasked, Asked}
use Rattle.ssm_stub.specs.declared.ear.Outcome.{Outcome}
use Rattle.ssm_stub.specs.declared.ear.Outcome.TheVariants.{Answered, Silent, Strayed}
use Rattle.ssm_stub.specs.declared.ear.Ear.{Ear}
use Rattle.ssm_stub.specs.declared.ear.Ear.TheVariants.{Open, Heard}
use Rattle.std.specs.Option.{option_and_then}
use Rattle.ssm_frames.specs.declared.frame.Frame.{Frame}
use Rattle.ssm_stub.specs.declared.event.Told.{Told}
use Rattle.ssm_stub.specs.declared.event.Told.TheVariants.{Sent, Came, Silent as NoneCame}
use Rattle.ssm_stub.specs.Ears.{after_frame, heard_on, ear_after}
use Rattle.ssm_stub.specs.Turns.{wanted_of}
use Rattle.ssm_stub.specs.Runs.{fits, Fits}
use Rattle.ssm_stub.specs.Hearing.{IsStray, EndsIn, ear_machine}

-- the events of a brick that was asked, after so many strays, and that came to this outcome
EndsFrom : {A : Type 0} → (Frame → Option A) → ℕ → List Told → Outcome A → Type 0
EndsFrom lawful n events (Answered reply) = (strays : List (Option Frame)) × (last : Frame) × All (IsStray lawful) strays × (n + length strays < 64) × (lawful last ≡ Some reply) × (events ≡ map Came strays ++ Came (Some last) ∷ [])
EndsFrom lawful n events Silent = (strays : List (Option Frame)) × All (IsStray lawful) strays × (n + length strays < 64) × (events ≡ map Came strays ++ NoneCame ∷ [])
EndsFrom lawful n events Strayed = (strays : List (Option Frame)) × All (IsStray lawful) strays × (n + length strays ≡ 64) × (events ≡ map Came strays)

after_heard : {A : Type 0} (lawful : Frame → Option A) (brick : BrickNo) (outcome : Outcome A) (events : List Told) → Fits (ear_machine brick lawful) (Heard outcome) events → events ≡ []
after_heard lawful brick outcome [] h = refl
after_heard lawful brick outcome (event ∷ events) (h, rest) = absurd cc

one_more_stray : {A : Type 0} (lawful : Frame → Option A) (n : ℕ) (frame : Option Frame) (events : List Told) (outcome : Outcome A) → option_and_then lawful frame ≡ None → EndsFrom lawful (n + 1) events outcome → EndsFrom lawful n (Came frame ∷ events) outcome
unfolding EndsFrom
one_more_stray lawful n frame events (Answered reply) stray (strays, last, all, few, is, parts) = (frame ∷ strays, last, All-cons (IsStray lawful) frame strays stray all, omega arith, is, ap (λ es. Came frame ∷ es) parts)
one_more_stray lawful n frame events Silent stray (strays, all, few, parts) = (frame ∷ strays, All-cons (IsStray lawful) frame strays stray all, omega arith, ap (λ es. Came frame ∷ es) parts)
one_more_stray lawful n frame events Strayed stray (strays, all, few, parts) = (frame ∷ strays, All-cons (IsStray lawful) frame strays stray all, omega arith, ap (λ es. Came frame ∷ es) parts)

-- a lawful reply ends the hearing
ends_answered : {A : Type 0} (lawful : Frame → Option A) (brick : BrickNo) (n : ℕ) (last : Frame) (events : List Told) (reply : A) (outcome : Outcome A) → n < 64 → lawful last ≡ Some reply → Fits (ear_machine brick lawful) (Heard (Answered reply)) events → fold (heard_on lawful) (Heard (Answered reply)) events ≡ Heard outcome → EndsFrom lawful n (Came (Some last) ∷ events) outcome
unfolding EndsFrom
ends_answered {A} lawful brick n last events reply outcome few is fitting h =
    let none : events ≡ [] = after_heard lawful brick (Answered reply) events fitting in
    let same : Answered reply ≡ outcome = (let e : Heard (Answered reply) ≡ Heard outcome = sym (ap (fold (heard_on lawful) (Heard (Answered reply))) none) ∙ h in cc) in
    let P : Outcome A → Type 0 = λ o. EndsFrom lawful n (Came (Some last) ∷ events) o in
    subst P same ([], last, All-nil (IsStray lawful), omega arith, is, ap (λ es. Came (Some last) ∷ es) none)

-- the 64th stray ends the hearing
ends_strayed : {A : Type 0} (lawful : Frame → Option A) (brick : BrickNo) (n : ℕ) (frame : Option Frame) (events : List Told) (outcome : Outcome A) → n ≡ 63 → option_and_then lawful frame ≡ None → Fits (ear_machine brick lawful) (Heard Strayed) events → fold (heard_on lawful) (Heard Strayed) events ≡ Heard outcome → EndsFrom lawful n (Came frame ∷ events) outcome
unfolding EndsFrom
ends_strayed {A} lawful brick n frame events outcome last is fitting h =
    let none : events ≡ [] = after_heard lawful brick Strayed events fitting in
    let same : Strayed ≡ outcome = (let e : Heard Strayed ≡ Heard outcome = sym (ap (fold (heard_on lawful) (Heard Strayed)) none) ∙ h in cc) in
    let P : Outcome A → Type 0 = λ o. EndsFrom lawful n (Came frame ∷ events) o in
    subst P same (frame ∷ [], All-cons (IsStray lawful) frame [] is (All-nil (IsStray lawful)), omega arith, ap (λ es. Came frame ∷ es) none)

-- silence ends the hearing
ends_silent : {A : Type 0} (lawful : Frame → Option A) (brick : BrickNo) (n : ℕ) (events : List Told) (outcome : Outcome A) → n < 64 → Fits (ear_machine brick lawful) (Heard Silent) events → fold (heard_on lawful) (Heard Silent) events ≡ Heard outcome → EndsFrom lawful n (NoneCame ∷ events) outcome
unfolding EndsFrom
ends_silent {A} lawful brick n events outcome few fitting h =
    let none : events ≡ [] = after_heard lawful brick Silent events fitting in
    let same : Silent ≡ outcome = (let e : Heard Silent ≡ Heard outcome = sym (ap (fold (heard_on lawful) (Heard Silent)) none) ∙ h in cc) in
    let P : Outcome A → Type 0 = λ o. EndsFrom lawful n (NoneCame ∷ events) o in
    subst P same ([], All-nil (IsStray lawful), omega arith, ap (λ es. NoneCame ∷ es) none)

not_below : (n : ℕ) → nat_lt n 63 ≡ false → n < 64 → n ≡ 63
not_below n h few = let above = ltb-false n 63 h in omega arith

sent_unfit : (brick : BrickNo) (n : ℕ) → IsTrue (fits (wanted_of brick (Asked n)) Sent) → ⊥
sent_unfit brick n h = cc

-- what the events after a frame lead to, from each number of strays
Later : {A : Type 0} → (Frame → Option A) → BrickNo → List Told → Outcome A → Type 0
Later lawful brick events outcome = (n : ℕ) → n < 64 → Fits (ear_machine brick lawful) (Open (Asked n)) events → fold (heard_on lawful) (Open (Asked n)) events ≡ Heard outcome → EndsFrom lawful n events outcome

from_stray : {A : Type 0} (lawful : Frame → Option A) (brick : BrickNo) (frame : Option Frame) (events : List Told) (outcome : Outcome A) → Later lawful brick events outcome → (n : ℕ) (more : Bool) → nat_lt n 63 ≡ more → option_and_then lawful frame ≡ None → n < 64 → Fits (ear_machine brick lawful) (if more then Open (Asked (n + 1)) else Heard Strayed) events → fold (heard_on lawful) (if more then Open (Asked (n + 1)) else Heard Strayed) events ≡ Heard outcome → EndsFrom lawful n (Came frame ∷ events) outcome
unfolding Later
from_stray lawful brick frame events outcome later n true below is few fitting h =
    let less = ltb-true n 63 below in
    one_more_stray lawful n frame events outcome is (later (n + 1) (omega arith) fitting h)
from_stray lawful brick frame events outcome later n false below is few fitting h =
    ends_strayed lawful brick n frame events outcome (let last : n ≡ 63 = not_below n below few in last) is fitting h

-- what a frame leads to, by its verdict and by the number of strays before it
from_frame : {A : Type 0} (lawful : Frame → Option A) (brick : BrickNo) (frame : Option Frame) (events : List Told) (outcome : Outcome A) → Later lawful brick events outcome → (n : ℕ) (reply : Option A) → option_and_then lawful frame ≡ reply → n < 64 → Fits (ear_machine brick lawful) (after_frame (Asked n) reply) events → fold (heard_on lawful) (after_frame (Asked n) reply) events ≡ Heard outcome → EndsFrom lawful n (Came frame ∷ events) outcome
from_frame lawful brick None events outcome later n (Some reply) is few fitting h = absurd cc
from_frame lawful brick (Some last) events outcome later n (Some reply) is few fitting h = ends_answered lawful brick n last events reply outcome few is fitting h
from_frame lawful brick frame events outcome later n None is few fitting h = from_stray lawful brick frame events outcome later n (nat_lt n 63) refl is few fitting h

from_asked : {A : Type 0} (lawful : Frame → Option A) (brick : BrickNo) (outcome : Outcome A) (events : List Told) → Later lawful brick events outcome
unfolding Later
from_asked lawful brick outcome [] = λ n few fitting h. absurd cc
from_asked lawful brick outcome (Sent ∷ events) = λ n few fitting h. absurd (sent_unfit brick n fitting.0)
from_asked lawful brick outcome (NoneCame ∷ events) = λ n few fitting h. ends_silent lawful brick n events outcome few fitting.1 h
from_asked lawful brick outcome (Came frame ∷ events) = λ n few fitting h. from_frame lawful brick frame events outcome (from_asked lawful brick outcome events) n (option_and_then lawful frame) refl few fitting.1 h

so_asked : {A : Type 0} (lawful : Frame → Option A) (events : List Told) (outcome : Outcome A) → EndsFrom lawful 0 events outcome → EndsIn lawful (Sent ∷ events) outcome
unfolding EndsFrom
so_asked lawful events (Answered reply) (strays, last, all, few, is, parts) = (strays, last, all, omega arith, is, ap (λ es. Sent ∷ es) parts)
so_asked lawful events Silent (strays, all, few, parts) = inr (strays, all, omega arith, ap (λ es. Sent ∷ es) parts)
so_asked lawful events Strayed (strays, all, few, parts) = (strays, all, omega arith, ap (λ es. Sent ∷ es) parts)

so_silent : {A : Type 0} (lawful : Frame → Option A) (brick : BrickNo) (events : List Told) (outcome : Outcome A) → Fits (ear_machine brick lawful) (Heard Silent) events → fold (heard_on lawful) (Heard Silent) events ≡ Heard outcome → EndsIn lawful (NoneCame ∷ events) outcome
so_silent {A} lawful brick events outcome fitting h =
    let none : events ≡ [] = after_heard lawful brick Silent events fitting in
    let same : Silent ≡ outcome = (let e : Heard Silent ≡ Heard outcome = sym (ap (fold (heard_on lawful) (Heard Silent)) none) ∙ h in cc) in
    let P : Outcome A → Type 0 = λ o. EndsIn lawful (NoneCame ∷ events) o in
    subst P same (inl (ap (λ es. NoneCame ∷ es) none))

asked_none : {A : Type 0} (lawful : Frame → Option A) (brick : BrickNo) (outcome : Outcome A) (events : List Told) → Fits (ear_machine brick lawful) (Open (Asked 0)) events → fold (heard_on lawful) (Open (Asked 0)) events ≡ Heard outcome → EndsFrom lawful 0 events outcome
unfolding Later
asked_none lawful brick outcome events fitting h = from_asked lawful brick outcome events 0 (omega arith) fitting h

-- a brick that came to an outcome came to it by such events
pub heard_so : {A : Type 0} (lawful : Frame → Option A) (brick : BrickNo) (events : List Told) (outcome : Outcome A) → Fits (ear_machine brick lawful) (Open Unasked) events → ear_after lawful events ≡ Heard outcome → EndsIn lawful events outcome
heard_so lawful brick [] outcome fitting h = absurd cc
heard_so lawful brick (Sent ∷ events) outcome (first, rest) h = so_asked lawful events outcome (asked_none lawful brick outcome events rest h)
heard_so lawful brick (Came frame ∷ events) outcome (first, rest) h = absurd cc
heard_so lawful brick (NoneCame ∷ events) outcome (first, rest) h = so_silent lawful brick events outcome rest h

-- strays, fewer than 64 in all, leave a brick without outcome
pub strays_pass : {A : Type 0} (lawful : Frame → Option A) (strays : List (Option Frame)) (n : ℕ) (rest : List Told) → All (IsStray lawful) strays → n + length strays < 64 → fold (heard_on lawful) (Open (Asked n)) (map Came strays ++ rest) ≡ fold (heard_on lawful) (Open (Asked (n + length strays))) rest
strays_pass lawful [] n rest all few = ap (λ k. fold (heard_on lawful) (Open (Asked k)) rest) (let e : n ≡ n + 0 = omega arith in e)
strays_pass lawful (frame ∷ strays) n rest all few =
    let head = All-head (IsStray lawful) frame strays all in
    let tail = All-tail (IsStray lawful) frame strays all in
    let below : nat_lt n 63 ≡ true = lt-ltb n 63 (omega arith) in
    ap (λ reply. fold (heard_on lawful) (after_frame (Asked n) reply) (map Came strays ++ rest)) head
    ∙ (ap (λ b. fold (heard_on lawful) (if b then Open (Asked (n + 1)) else Heard Strayed) (map Came strays ++ rest)) below
    ∙ (strays_pass lawful strays (n + 1) rest tail (omega arith)
    ∙ ap (λ k. fold (heard_on lawful) (Open (Asked k)) rest) (let e : n + 1 + length strays ≡ n + length (frame ∷ strays) = omega arith in e)))

pub heard_stays : {A : Type 0} (lawful : Frame → Option A) (outcome : Outcome A) (events : List Told) → fold (heard_on lawful) (Heard outcome) events ≡ Heard outcome
heard_stays lawful outcome [] = refl
heard_stays lawful outcome (event ∷ events) = heard_stays lawful outcome events

-- 64 strays in all end the hearing
strays_end : {A : Type 0} (lawful : Frame → Option A) (strays : List (Option Frame)) (n : ℕ) → All (IsStray lawful) strays → n + length strays ≡ 64 → n < 64 → fold (heard_on lawful) (Open (Asked n)) (map Came strays) ≡ Heard Strayed
strays_end lawful [] n all many few = absurd (omega arith)
strays_end lawful (frame ∷ strays) n all many few =
    let head = All-head (IsStray lawful) frame strays all in
    let tail = All-tail (IsStray lawful) frame strays all in
    let rest = map Came strays in
    ap (λ reply. fold (heard_on lawful) (after_frame (Asked n) reply) rest) head
    ∙ elim (cases_lt n 63) [
      | inl below ↦ ap (λ b. fold (heard_on lawful) (if b then Open (Asked (n + 1)) else Heard Strayed) rest) (lt-ltb n 63 below) ∙ strays_end lawful strays (n + 1) tail (omega arith) (omega arith)
      | inr above ↦ ap (λ b. fold (heard_on lawful) (if b then Open (Asked (n + 1)) else Heard Strayed) rest) (le-ltb n 63 above) ∙ heard_stays lawful Strayed rest
    ]

-- and such events bring a brick to that outcome
pub so_heard : {A : Type 0} (lawful : Frame → Option A) (events : List Told) (outcome : Outcome A) → EndsIn lawful events outcome → ear_after lawful events ≡ Heard outcome
so_heard lawful events (Answered reply) (strays, last, all, few, is, parts) =
    ap (ear_after lawful) parts
    ∙ (strays_pass lawful strays 0 (Came (Some last) ∷ []) all (omega arith)
    ∙ ap (λ r. after_frame (Asked (0 + length strays)) r) is)
so_heard lawful events Silent (inl alone) = ap (ear_after lawful) alone
so_heard lawful events Silent (inr (strays, all, few, parts)) =
    ap (ear_after lawful) parts ∙ strays_pass lawful strays 0 (NoneCame ∷ []) all (omega arith)
so_heard lawful events Strayed (strays, all, many, parts) = ap (ear_after lawful) parts ∙ strays_end lawful strays 0 all (omega arith) (omega arith)

-- once it was told something, a brick is no longer unasked
Told-on : {A : Type 0} → Ear A → Type 0
Told-on ear = ear ≡ Open Unasked → ⊥

stray_told : (A : Type 0) (n : ℕ) (b : Bool) → Told-on {A = A} (if b then Open (Asked (n + 1)) else Heard Strayed)
unfolding Told-on
stray_told A n true = λ h. cc
stray_told A n false = λ h. cc

frame_told : {A : Type 0} (n : ℕ) (reply : Option A) → Told-on (after_frame (Asked n) reply)
unfolding Told-on
frame_told n (Some reply) = λ h. cc
frame_told {A} n None = stray_told A n (nat_lt n 63)

told_on : {A : Type 0} (lawful : Frame → Option A) (ear : Ear A) (told : Told) → Told-on ear → Told-on (heard_on lawful ear told)
unfolding Told-on
told_on lawful (Open Unasked) told h = absurd (h refl)
told_on lawful (Open (Asked n)) Sent h = λ e. cc
told_on lawful (Open (Asked n)) (Came frame) h = frame_told n (option_and_then lawful frame)
told_on lawful (Open (Asked n)) NoneCame h = λ e. cc
told_on lawful (Heard outcome) told h = λ e. cc

all_told : {A : Type 0} (lawful : Frame → Option A) (ear : Ear A) (events : List Told) → Told-on ear → Told-on (fold (heard_on lawful) ear events)
all_told lawful ear [] h = h
all_told lawful ear (told ∷ events) h = all_told lawful (heard_on lawful ear told) events (told_on lawful ear told h)

-- a brick that is unasked in the end was told nothing
pub untold_so : {A : Type 0} (lawful : Frame → Option A) (brick : BrickNo) (events : List Told) → Fits (ear_machine brick lawful) (Open Unasked) events → ear_after lawful events ≡ Open Unasked → events ≡ []
unfolding Told-on
untold_so lawful brick [] fitting h = refl
untold_so lawful brick (Sent ∷ events) (first, rest) h = absurd (all_told lawful (Open (Asked 0)) events (λ e. cc) h)
untold_so lawful brick (Came frame ∷ events) (first, rest) h = absurd cc
untold_so lawful brick (NoneCame ∷ events) (first, rest) h = absurd (all_told lawful (Heard Silent) events (λ e. cc) h)
