-- Each call of the link leaves fewer.
use Rattle.std.proofs.Common.{arith, ◌≡◌, ap, sym, refl, subst, ℕ, zero, suc, ◌+◌, ◌-◌, ◌*◌, ◌<◌, Bool, true, false, nat_lt, IsTrue, if◌then◌else◌, List, [], ◌∷◌, length, Option, Some, None, slice_get, slice_set}
use Rattle.std.specs.List.{sum_by}
use Rattle.std.specs.Option.{option_and_then}
use Rattle.std.proofs.lemmas.Bool.{ltb-true}
use Rattle.std.proofs.lemmas.List.Sums.{sum_by-cons}
use Rattle.crash_base.specs.declared.numbers.BrickNo.{BrickNo}
use Rattle.outside.specs.declared.link.LinkEvent.{LinkEvent}
use Rattle.session_cookie.specs.declared.cookie.Holder.{Holder}
use Rattle.ssm_frames.specs.declared.frame.Frame.{Frame}
use Rattle.ssm_stub.specs.Ears.{after_frame, heard}
use Rattle.ssm_stub.specs.Reads.{ReadState, get_lawful, hear_read, read_next, turn_of_read}
use Rattle.ssm_stub.specs.Runs.{fits, told_of}
use Rattle.ssm_stub.specs.Turns.{asks_after, none_asked, turn_after_asks, wanted, wanted_of}
use Rattle.ssm_stub.specs.Writes.{WriteState, hear_write, put_lawful, write_next}
use Rattle.ssm_stub.specs.declared.ask.Ask.{Ask}
use Rattle.ssm_stub.specs.declared.ask.Turn.{Turn}
use Rattle.ssm_stub.specs.declared.ear.Ear.{Ear}
use Rattle.ssm_stub.specs.declared.ear.Ear.TheVariants.{Open, Heard}
use Rattle.ssm_stub.specs.declared.ear.Outcome.TheVariants.{Strayed}
use Rattle.ssm_stub.specs.declared.ear.Stage.{Stage}
use Rattle.ssm_stub.specs.declared.ear.Stage.TheVariants.{Unasked, Asked}
use Rattle.ssm_stub.specs.declared.ear.TheConstants.{MAX_STRAYS}
use Rattle.ssm_stub.specs.declared.event.Told.{Told}
use Rattle.ssm_stub.specs.declared.event.Told.TheVariants.{Sent, Came, Silent}
use Rattle.session_way.specs.Way.{StepsOutside}
use Rattle.session_way.specs.declared.way.SessionWay.{SessionWay}
use Rattle.session_way.specs.declared.way.SessionWay.TheVariants as way
use Rattle.ssm_stub.proofs.Places.{turn_after_asks-stands, turn_of_read-stands, with_ear-there}
use Rattle.unhindered_requests.specs.CallsLeft.{calls_for, calls_left, calls_of}

stray_by : (A : Type 0) (strays : ℕ) (more : Bool) → nat_lt strays (MAX_STRAYS - 1) ≡ more → calls_for {A = A} (if more then Open (Asked (strays + 1)) else Heard Strayed) < MAX_STRAYS - 1 - strays + 1
stray_by A strays true is = (let few = ltb-true strays (MAX_STRAYS - 1) is in omega (arith, few))
stray_by A strays false is = omega arith

frame_fewer : {A : Type 0} (strays : ℕ) (reply : Option A) → calls_for (after_frame (Asked strays) reply) < MAX_STRAYS - 1 - strays + 1
frame_fewer strays (Some reply) = omega arith
frame_fewer {A} strays None = stray_by A strays (nat_lt strays (MAX_STRAYS - 1)) refl

-- what comes of a call leaves fewer for its brick
ear_fewer : {A : Type 0} (lawful : Frame → Option A) (brick : BrickNo) (stage : Stage) (told : Told) → IsTrue (fits (wanted_of brick stage) told) → calls_for (heard lawful stage told) < calls_for {A = A} (Open stage)
ear_fewer lawful brick Unasked Sent fit = omega arith
ear_fewer lawful brick Unasked (Came frame) fit = absurd (cc)
ear_fewer lawful brick Unasked Silent fit = omega arith
ear_fewer lawful brick (Asked strays) Sent fit = absurd (cc)
ear_fewer lawful brick (Asked strays) (Came frame) fit = frame_fewer strays (option_and_then lawful frame)
ear_fewer lawful brick (Asked strays) Silent fit = omega arith

-- a sum falls where one part does
sum_falls : {X : Type 0} (f : X → ℕ) (xs : List X) (i : ℕ) (x y : X) → slice_get xs i ≡ Some x → f y < f x → sum_by f (slice_set xs i y) < sum_by f xs
sum_falls f [] zero x y here less = absurd (cc)
sum_falls f [] (suc i) x y here less = absurd (cc)
sum_falls f (z ∷ zs) zero x y here less =
    let same : z ≡ x = cc in
    let is : f z ≡ f x = ap f same in
    let old = sum_by-cons f z zs in
    let new = sum_by-cons f y zs in
    omega (arith, less, is, old, new)
sum_falls f (z ∷ zs) (suc i) x y here less =
    let rest = sum_falls f zs i x y here less in
    let old = sum_by-cons f z zs in
    let new = sum_by-cons f z (slice_set zs i y) in
    omega (arith, rest, old, new)

-- what comes of a call leaves fewer for all
asks_fewer : {W A : Type 0} (brick_of : W → BrickNo) (lawful : W → Frame → Option A) (told : Told) (asks : List (Ask W A)) (turn : Option (Turn W))
    → ((t : Turn W) → turn ≡ Some t → slice_get asks t.at ≡ Some (record { who = t.who; ear = Open t.stage }))
    → IsTrue (fits (wanted brick_of turn) told) → calls_of (asks_after lawful told asks turn) < calls_of asks
asks_fewer brick_of lawful told asks None stands fit = absurd (cc)
asks_fewer {W} {A} brick_of lawful told asks (Some t) stands fit =
    let ear : Ear A = heard (lawful t.who) t.stage told in
    let ask : Ask W A = record { who = t.who; ear = Open t.stage } in
    subst (λ (xs : List (Ask W A)). calls_of xs < calls_of asks) (sym (with_ear-there asks t.at ear ask (stands t refl)))
    (sum_falls (λ (a : Ask W A). calls_for a.ear) asks t.at ask (record { who = t.who; ear = ear }) (stands t refl) (ear_fewer (lawful t.who) (brick_of t.who) t.stage told fit))

read_fewer : (r : ReadState) (told : Told) → IsTrue (fits (read_next r) told) → calls_of (hear_read r told).asks < calls_of r.asks
read_fewer r told fit = asks_fewer (λ (h : Holder). h.brick) (get_lawful r.nonce r.key r.version r.expiry) told r.asks (turn_of_read r) (turn_of_read-stands r) fit

write_fewer : (w : WriteState) (told : Told) → IsTrue (fits (write_next w) told) → calls_of (hear_write w told).asks < calls_of w.asks
write_fewer w told fit = asks_fewer (λ (b : BrickNo). b) (put_lawful w.nonce w.key) told w.asks (turn_after_asks w.asks) (turn_after_asks-stands w.asks) fit

more_left : (n m : ℕ) → n < m → n + 1 < m + 1
more_left n m h = omega (arith, h)

-- a call of the link leaves fewer for its session
pub outside_fewer : {L : Type 0} (makes : L → LinkEvent → L → Type 0) (w after : SessionWay) (link linked : L) → StepsOutside makes w link after linked → calls_left after < calls_left w
outside_fewer makes way.Resting after link linked steps = absurd steps
outside_fewer makes (way.Reading r) after link linked (later, is, step) =
    subst (λ (s : SessionWay). calls_left s < calls_of r.asks) (sym is)
    (subst (λ (s : ReadState). calls_of s.asks < calls_of r.asks) (sym step.hears) (read_fewer r (told_of step.event) step.fitting))
outside_fewer makes (way.Ordered order) after link linked steps = absurd steps
outside_fewer makes (way.Writing v) after link linked (later, is, step) =
    subst (λ (s : SessionWay). calls_left s < calls_of v.write.asks + 1) (sym is)
    (subst (λ (s : WriteState). calls_of s.asks + 1 < calls_of v.write.asks + 1) (sym step.hears) (more_left _ _ (write_fewer v.write (told_of step.event) step.fitting)))
outside_fewer makes (way.Settling v) after link linked (later, is, step) =
    subst (λ (s : SessionWay). calls_left s < calls_of v.write.asks + 1) (sym is)
    (subst (λ (s : WriteState). calls_of s.asks + 1 < calls_of v.write.asks + 1) (sym step.hears) (more_left _ _ (write_fewer v.write (told_of step.event) step.fitting)))
outside_fewer makes (way.Holding passes) after link linked steps = absurd steps

-- the calls for bricks that were not asked
pub calls_begin : (A : Type 0) {W : Type 0} (whos : List W) → calls_of {W = W} {A = A} (none_asked whos) ≡ (MAX_STRAYS + 1) * length whos
calls_begin A [] = refl
calls_begin A {W} (who ∷ whos) =
    let first : Ask W A = record { who = who; ear = Open Unasked } in
    let parts = sum_by-cons (λ (a : Ask W A). calls_for a.ear) first (none_asked whos) in
    let rest = calls_begin A whos in
    omega (arith, parts, rest)
