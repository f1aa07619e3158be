-- How much is left to hear: each event takes some of it.
use Rattle.std.proofs.Common.{arith, refl, ◌≡◌, ap, ℕ, ◌+◌, ◌-◌, ◌*◌, ◌<◌, ◌≤◌, Bool, true, false, IsTrue, List, [], ◌∷◌, length, get_or, slice_set, slice_get, Option, Some, None, nat_lt, if◌then◌else◌}
use Rattle.std.specs.List.{sum_by}
use Rattle.std.proofs.lemmas.Bool.{ltb-true}
use Rattle.std.proofs.lemmas.List.Sums.{sum_by-cons, sum_by-set}
use Rattle.std.proofs.lemmas.Option.{slice_get_within, get_or_from_slice_get}
use Rattle.crash_base.specs.declared.numbers.BrickNo.{BrickNo}
use Rattle.ssm_stub.specs.declared.ear.Stage.{Stage}
use Rattle.ssm_stub.specs.declared.ear.Stage.TheVariants.{Unasked, Asked}
use Rattle.ssm_stub.specs.declared.ear.Outcome.TheVariants.{Strayed}
use Rattle.ssm_stub.specs.declared.ear.Ear.{Ear}
use Rattle.ssm_stub.specs.declared.ear.Ear.TheVariants.{Open, Heard}
use Rattle.ssm_stub.specs.declared.ask.Ask.{Ask}
use Rattle.ssm_stub.specs.declared.ask.Turn.{Turn}
use Rattle.ssm_frames.specs.declared.frame.Frame.{Frame}
use Rattle.ssm_stub.specs.declared.event.Told.{Told}
use Rattle.ssm_stub.specs.declared.event.Told.TheVariants.{Sent, Came, Silent}
use Rattle.std.specs.Option.{option_and_then}
use Rattle.ssm_stub.specs.Ears.{after_frame, heard}
use Rattle.ssm_stub.specs.Turns.{asks_after, wanted_of, wanted, turn_after_asks, next_unless}
use Rattle.session_cookie.specs.declared.cookie.Holder.{Holder}
use Rattle.ssm_stub.specs.declared.event.StubNext.{StubNext}
use Rattle.ssm_stub.specs.Runs.{fits}
use Rattle.ssm_stub.specs.Writes.{WriteState, put_lawful, write_answer, write_next, hear_write, write_until}
use Rattle.ssm_stub.specs.Reads.{ReadState, get_lawful, turn_of_read, read_next, hear_read}
use Rattle.ssm_stub.proofs.Places.{with_ear-there, turn_after_asks-stands, turn_of_read-stands}

-- at most how many events a brick is still told
abbrev pub stage_weight : Stage → ℕ
stage_weight Unasked = 66
stage_weight (Asked strays) = 1 + (64 - strays)

abbrev pub ear_weight : {A : Type 0} → Ear A → ℕ
ear_weight (Open stage) = stage_weight stage
ear_weight (Heard outcome) = 0

pub weight : {W A : Type 0} → List (Ask W A) → ℕ
weight asks = sum_by (λ ask. ear_weight ask.ear) asks

stray_falls : (A : Type 0) (strays : ℕ) (few : Bool) → nat_lt strays 63 ≡ few → ear_weight {A = A} (if few then Open (Asked (strays + 1)) else Heard Strayed) < 1 + (64 - strays)
stray_falls A strays true h = let below = ltb-true strays 63 h in omega arith
stray_falls A strays false h = omega arith

frame_falls : (A : Type 0) (strays : ℕ) (reply : Option A) → ear_weight (after_frame (Asked strays) reply) < 1 + (64 - strays)
frame_falls A strays (Some reply) = omega arith
frame_falls A strays None = stray_falls A strays (nat_lt strays 63) refl

heard_falls : {A : Type 0} (brick : BrickNo) (lawful : Frame → Option A) (stage : Stage) (told : Told) → IsTrue (fits (wanted_of brick stage) told) → ear_weight (heard lawful stage told) < stage_weight stage
heard_falls brick lawful Unasked Sent h = omega arith
heard_falls brick lawful Unasked (Came frame) h = cc
heard_falls brick lawful Unasked Silent h = omega arith
heard_falls brick lawful (Asked strays) Sent h = cc
heard_falls {A} brick lawful (Asked strays) (Came frame) h = frame_falls A strays (option_and_then lawful frame)
heard_falls brick lawful (Asked strays) Silent h = omega arith

-- an event takes from what is left of the one who is told it
pub told_falls : {W A : Type 0} (lawful : W → Frame → Option A) (brick : BrickNo) (told : Told) (asks : List (Ask W A)) (t : Turn W) → slice_get asks t.at ≡ Some (record { who = t.who; ear = Open t.stage }) → IsTrue (fits (wanted_of brick t.stage) told) → weight (asks_after lawful told asks (Some t)) < weight asks
unfolding weight
told_falls {W} {A} lawful brick told asks t stands fitting =
    let ask : Ask W A = record { who = t.who; ear = Open t.stage } in
    let ear : Ear A = heard (lawful t.who) t.stage told in
    let of : Ask W A → ℕ = λ a. ear_weight a.ear in
    let put : asks_after lawful told asks (Some t) ≡ slice_set asks t.at (record ask { ear = ear }) = with_ear-there asks t.at ear ask stands in
    let within = slice_get_within asks t.at ask stands in
    let moved = sum_by-set of asks t.at (record ask { ear = ear }) ask within in
    let here : of (get_or asks t.at ask) ≡ stage_weight t.stage = ap of (get_or_from_slice_get asks t.at ask ask stands) in
    let falls : ear_weight ear < stage_weight t.stage = heard_falls brick (lawful t.who) t.stage told fitting in
    let less : sum_by of (slice_set asks t.at (record ask { ear = ear })) < sum_by of asks = omega arith in
    rw put less

-- what is left of those who are asked falls
pub turned_falls : {W A : Type 0} (lawful : W → Frame → Option A) (brick_of : W → BrickNo) (told : Told) (asks : List (Ask W A)) (turn : Option (Turn W)) → ((t : Turn W) → turn ≡ Some t → slice_get asks t.at ≡ Some (record { who = t.who; ear = Open t.stage })) → IsTrue (fits (wanted brick_of turn) told) → weight (asks_after lawful told asks turn) < weight asks
turned_falls lawful brick_of told asks None stands fitting = cc
turned_falls lawful brick_of told asks (Some t) stands fitting = told_falls lawful (brick_of t.who) told asks t (stands t refl) fitting

next_unless-fits : {X : Type 0} (answer : Option X) (next : StubNext) (told : Told) → IsTrue (fits (next_unless answer next) told) → IsTrue (fits next told)
next_unless-fits (Some answer) next told h = cc
next_unless-fits None next told h = h

stage_within : (stage : Stage) → stage_weight stage ≤ 66
stage_within Unasked = omega arith
stage_within (Asked strays) = omega arith

ear_within : {A : Type 0} (ear : Ear A) → ear_weight ear ≤ 66
ear_within (Open stage) = stage_within stage
ear_within (Heard outcome) = omega arith

-- each who is asked is told 66 events at most
pub weight_within : {W A : Type 0} (asks : List (Ask W A)) → weight asks ≤ 66 * length asks
unfolding weight
weight_within [] = omega arith
weight_within {W} {A} (ask ∷ asks) =
    let of : Ask W A → ℕ = λ a. ear_weight a.ear in
    let here : ear_weight ask.ear ≤ 66 = ear_within ask.ear in
    let later : sum_by of asks ≤ 66 * length asks = weight_within asks in
    let both : sum_by of (ask ∷ asks) ≡ ear_weight ask.ear + sum_by of asks = sum_by-cons of ask asks in
    let whole : sum_by of (ask ∷ asks) ≤ 66 * length (ask ∷ asks) = omega arith in
    whole

-- what is left of a write falls
pub write_falls : (s : WriteState) (told : Told) → IsTrue (fits (write_until.next s) told) → weight (hear_write s told).asks < weight s.asks
write_falls s told fitting =
    turned_falls (put_lawful s.nonce s.key) (λ brick. brick) told s.asks (turn_after_asks s.asks) (turn_after_asks-stands s.asks) (next_unless-fits (write_answer s) (write_next s) told fitting)

-- what is left of a read falls
pub read_falls : (s : ReadState) (told : Told) → IsTrue (fits (read_next s) told) → weight (hear_read s told).asks < weight s.asks
read_falls s told fitting =
    turned_falls (get_lawful s.nonce s.key s.version s.expiry) (λ (holder : Holder). holder.brick) told s.asks (turn_of_read s) (turn_of_read-stands s) fitting
