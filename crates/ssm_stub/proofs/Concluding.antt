-- A call that wants nothing has its answer, and its bricks stay.
use Rattle.std.proofs.Common.{◌≡◌, ◌∙◌, ap, sym, refl, ℕ, Bool, true, false, nat_le, nat_lt, if◌then◌else◌, List, [], ◌∷◌, length, map, take, filter_map, Option, Some, None, Result, Ok, Err, slice_get, All}
use Rattle.std.proofs.Math.Seq.{map-set_same}
use Rattle.std.proofs.lemmas.List.Elements.{All-head, All-tail}
use Rattle.std.proofs.lemmas.Option.{get_or_from_slice_get}
use Rattle.crash_base.specs.declared.numbers.BrickNo.{BrickNo}
use Rattle.session_cookie.specs.declared.cookie.Holder.{Holder}
use Rattle.session_cookie.specs.declared.cookie.Cookie.{Cookie}
use Rattle.send_windows.specs.declared.pass.Pass.{Pass}
use Rattle.send_windows.specs.declared.pass.PassMark.TheVariants.{Unheard}
use Rattle.ssm_stub.specs.Ends.{bricks_of}
use Rattle.ssm_stub.specs.declared.cause.BrickCause.{BrickCause}
use Rattle.ssm_stub.specs.declared.ear.Stage.{Stage}
use Rattle.ssm_stub.specs.declared.ear.Stage.TheVariants.{Unasked, Asked}
use Rattle.ssm_stub.specs.declared.ear.Ear.{Ear}
use Rattle.ssm_stub.specs.declared.ask.Ask.{Ask}
use Rattle.ssm_stub.specs.declared.ask.Turn.{Turn}
use Rattle.ssm_frames.specs.declared.frame.Frame.{Frame}
use Rattle.ssm_stub.specs.declared.event.StubEvent.{StubEvent}
use Rattle.ssm_stub.specs.declared.event.Told.{Told}
use Rattle.ssm_stub.specs.declared.event.StubNext.TheVariants.{Ended}
use Rattle.ssm_stub.specs.declared.reply.WriteReply.{WriteReply}
use Rattle.ssm_stub.specs.declared.write_call.WriteRefusal.{WriteRefusal}
use Rattle.ssm_stub.specs.declared.read_call.ReadRefusal.{ReadRefusal}
use Rattle.ssm_stub.specs.declared.read_call.ReadRefusal.TheVariants.{Expired}
use Rattle.ssm_stub.specs.Ears.{heard}
use Rattle.ssm_stub.specs.Turns.{none_asked, with_ear_of, asks_after, wanted_of, wanted, turn_after_asks, turn_in_order, next_unless}
use Rattle.outside.specs.declared.link.LinkEvent.{LinkEvent}
use Rattle.ssm_stub.specs.Runs.{told_of, after, Ran}
use Rattle.ssm_stub.specs.Writes.{WriteState, holder_of, cause_of, missed_unless, put_lawful, pass_of, write_answer, write_next, write_until, hear_write}
use Rattle.ssm_stub.specs.Reads.{ReadState, found_in, found_or, lost_unless, loss_of, turn_unless, read_answer, turn_of_read, read_next}

wanted_of-goes_on : (brick : BrickNo) (stage : Stage) → wanted_of brick stage ≡ Ended → ⊥
wanted_of-goes_on brick Unasked h = cc
wanted_of-goes_on brick (Asked strays) h = cc

pub wanted-ended : {W : Type 0} (brick_of : W → BrickNo) (turn : Option (Turn W)) → wanted brick_of turn ≡ Ended → turn ≡ None
wanted-ended brick_of None h = refl
wanted-ended brick_of (Some t) h = absurd (wanted_of-goes_on (brick_of t.who) t.stage h)

missed_by_then : (enough : Bool) (answer : Result Cookie WriteRefusal) (turn : Option (Turn BrickNo)) (causes : List BrickCause) → turn ≡ None → (if enough then Some answer else missed_unless turn causes) ≡ None → ⊥
missed_by_then true answer turn causes ended h = cc
missed_by_then false answer (Some t) causes ended h = cc
missed_by_then false answer None causes ended h = cc

-- a write that wants nothing for its answer has it
pub write-answered : (s : WriteState) → write_until.next s ≡ Ended → write_answer s ≡ None → ⊥
write-answered s ended none =
    let next : write_next s ≡ Ended = sym (ap (λ answer. next_unless answer (write_next s)) none) ∙ ended in
    let holders = filter_map holder_of s.asks in
    missed_by_then (nat_le s.least (length holders)) (Ok (record { key = s.key; version = s.nonce; expiry = s.expiry; bricks = take s.least holders })) (turn_after_asks s.asks) (filter_map cause_of s.asks)
    (wanted-ended (λ brick. brick) (turn_after_asks s.asks) next) none

lost_by_then : (past : Bool) (refusal : Result (List ℕ) ReadRefusal) (found : Option (List ℕ)) (turn : Option (Turn Holder)) (causes : List BrickCause) → turn ≡ None → (if past then Some refusal else found_or found (lost_unless turn causes)) ≡ None → ⊥
lost_by_then true refusal found turn causes ended h = cc
lost_by_then false refusal (Some value) turn causes ended h = cc
lost_by_then false refusal None (Some t) causes ended h = cc
lost_by_then false refusal None None causes ended h = cc

turned-none : (answer : Option (Result (List ℕ) ReadRefusal)) (turn : Option (Turn Holder)) → answer ≡ None → turn_unless answer turn ≡ None → turn ≡ None
turned-none (Some answer) turn none h = cc
turned-none None turn none h = h

-- a read that wants nothing has its answer
pub read-answered : (s : ReadState) → read_next s ≡ Ended → read_answer s ≡ None → ⊥
read-answered s ended none =
    let turn : turn_in_order s.asks ≡ None = turned-none (read_answer s) (turn_in_order s.asks) none (wanted-ended (λ (holder : Holder). holder.brick) (turn_of_read s) ended) in
    lost_by_then (nat_lt s.expiry.0 s.moment.0) (Err (Expired s.moment s.expiry)) (found_in s.asks) (turn_in_order s.asks) (filter_map loss_of s.asks) turn none

-- who the asked are stays
with_ear_of-keeps : {W A X : Type 0} (f : W → X) (asks : List (Ask W A)) (at : ℕ) (ear : Ear A) (ask : Option (Ask W A)) → slice_get asks at ≡ ask → map (λ (a : Ask W A). f a.who) (with_ear_of asks at ear ask) ≡ map (λ (a : Ask W A). f a.who) asks
with_ear_of-keeps f asks at ear None h = refl
with_ear_of-keeps {W} {A} {X} f asks at ear (Some ask) h =
    let who : Ask W A → X = λ a. f a.who in
    map-set_same who asks at (record ask { ear = ear }) ask (sym (ap who (get_or_from_slice_get asks at ask ask h)))

pub asks_after-keeps : {W A X : Type 0} (f : W → X) (lawful : W → Frame → Option A) (told : Told) (asks : List (Ask W A)) (turn : Option (Turn W)) → map (λ (a : Ask W A). f a.who) (asks_after lawful told asks turn) ≡ map (λ (a : Ask W A). f a.who) asks
asks_after-keeps f lawful told asks None = refl
asks_after-keeps f lawful told asks (Some t) = with_ear_of-keeps f asks t.at (heard (lawful t.who) t.stage told) (slice_get asks t.at) refl

pub write-keeps : (events : List Told) (s : WriteState) → map (λ (a : Ask BrickNo WriteReply). a.who) (after write_until s events).asks ≡ map (λ (a : Ask BrickNo WriteReply). a.who) s.asks
write-keeps [] s = refl
write-keeps (told ∷ events) s =
    write-keeps events (hear_write s told)
    ∙ asks_after-keeps (λ (brick : BrickNo). brick) (put_lawful s.nonce s.key) told s.asks (turn_after_asks s.asks)

-- those that are asked are those
pub none_asked-whos : (A : Type 0) {W : Type 0} (whos : List W) → map (λ (a : Ask W A). a.who) (none_asked whos) ≡ whos
none_asked-whos A [] = refl
none_asked-whos A (who ∷ whos) = ap (λ rest. who ∷ rest) (none_asked-whos A whos)

pub unheard-passes : (passes : List Pass) → All (λ (pass : Pass). pass.mark ≡ Unheard) passes → passes ≡ map pass_of (none_asked (bricks_of passes))
unheard-passes [] h = refl
unheard-passes (pass ∷ passes) h =
    let same : pass ≡ record { brick = pass.brick; mark = Unheard } = ap (λ mark. record pass { mark = mark }) (All-head (λ (p : Pass). p.mark ≡ Unheard) pass passes h) in
    ap (λ p. p ∷ passes) same ∙ ap (λ rest. record { brick = pass.brick; mark = Unheard } ∷ rest) (unheard-passes passes (All-tail (λ (p : Pass). p.mark ≡ Unheard) pass passes h))

-- a run leaves the bricks, and a write begins with those of its passes
pub ran-keeps : {L : Type 0} (makes : L → LinkEvent → L → Type 0) (ask : List ℕ) (bricks : List BrickNo) (start : WriteState) (old : L) (events : List StubEvent) (end : WriteState) (new : L) → Ran write_until makes ask start old events end new → start.asks ≡ none_asked bricks → map (λ (a : Ask BrickNo WriteReply). a.who) end.asks ≡ bricks
ran-keeps makes ask bricks start old events end new ran begins =
    let who : Ask BrickNo WriteReply → BrickNo = λ a. a.who in
    ap (λ s. map who s.asks) ran.ends ∙ (write-keeps (map told_of events) start ∙ (ap (map who) begins ∙ none_asked-whos WriteReply bricks))
