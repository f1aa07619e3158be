-- What the asks of a call keep as it is told things.
use Rattle.std.proofs.Common.{◌≡◌, inl, inr, length, ℕ, zero, suc, ◌+◌, ◌-◌, Bool, true, false, if◌then◌else◌, nat_lt, List, [], ◌∷◌, Option, Some, None, Result, refl, sym, ap, ◌∙◌, subst}
use Rattle.std.specs.Prelude.{slice_get, slice_set, position}
use Rattle.std.proofs.lemmas.List.{length-map}
use Rattle.std.specs.Option.{option_and_then, option_or}
use Rattle.crash_base.specs.declared.numbers.BrickNo.{BrickNo}
use Rattle.session_cookie.specs.declared.cookie.Holder.{Holder}
use Rattle.ssm_frames.specs.declared.frame.Frame.{Frame}
use Rattle.ssm_stub.specs.declared.ear.Stage.{Stage}
use Rattle.ssm_stub.specs.declared.ear.Stage.TheVariants.{Unasked, Asked}
use Rattle.ssm_stub.specs.declared.ear.TheConstants.{MAX_STRAYS}
use Rattle.ssm_stub.specs.declared.ear.Outcome.TheVariants.{Answered, Strayed}
use Rattle.ssm_stub.specs.declared.ear.Ear.{Ear}
use Rattle.ssm_stub.specs.declared.ear.Ear.TheVariants.{Open, Heard}
use Rattle.ssm_stub.specs.declared.event.Told.{Told}
use Rattle.ssm_stub.specs.declared.event.Told.TheVariants.{Sent, Came, Silent as NoneCame}
use Rattle.ssm_stub.specs.declared.event.StubNext.{StubNext}
use Rattle.ssm_stub.specs.declared.event.StubNext.TheVariants as next
use Rattle.ssm_stub.specs.declared.ask.Ask.{Ask}
use Rattle.ssm_stub.specs.declared.ask.Turn.{Turn}
use Rattle.ssm_stub.specs.Ears.{after_frame, heard}
use Rattle.ssm_stub.specs.declared.read_call.ReadRefusal.{ReadRefusal}
use Rattle.ssm_stub.specs.Turns.{none_asked, is_unasked, is_asked, is_open, turn_with, turn_at, turn_after_asks, turn_in_order, with_ear, with_ear_of, asks_after, wanted, wanted_of}
use Rattle.ssm_stub.specs.Reads.{ReadState, read_answer, turn_unless, turn_of_read}
use Rattle.ssm_world.specs.Sound.{asked_of, WasSent, WereSent}
use Rattle.ssm_world.specs.Worlds.{WorldValue}
use Rattle.ssm_world.proofs.Lists.{get_set}

-- those that are asked stay
asked_set : {W A : Type 0} (asks : List (Ask W A)) (at : ℕ) (ask : Ask W A) (ear : Ear A) → slice_get asks at ≡ Some ask → asked_of (slice_set asks at (record ask { ear = ear })) ≡ asked_of asks
asked_set [] at ask ear there = absurd (cc)
asked_set (a ∷ asks) zero ask ear there = let same : a ≡ ask = cc in λ l. (sym same l).who ∷ asked_of asks
asked_set (a ∷ asks) (suc at) ask ear there = ap (λ whos. a.who ∷ whos) (asked_set asks at ask ear there)

pub asked_with_ear : {W A : Type 0} (asks : List (Ask W A)) (at : ℕ) (ear : Ear A) → asked_of (with_ear asks at ear) ≡ asked_of asks
asked_with_ear {W} {A} asks at ear = go (slice_get asks at) refl
  where
    go : (o : Option (Ask W A)) → slice_get asks at ≡ o → asked_of (with_ear_of asks at ear o) ≡ asked_of asks
    go None there = refl
    go (Some ask) there = asked_set asks at ask ear there

pub asked_after : {W A : Type 0} (lawful : W → Frame → Option A) (told : Told) (asks : List (Ask W A)) (turn : Option (Turn W)) → asked_of (asks_after lawful told asks turn) ≡ asked_of asks
asked_after lawful told asks None = refl
asked_after lawful told asks (Some turn) = asked_with_ear asks turn.at (heard (lawful turn.who) turn.stage told)

pub asked_none : {W : Type 0} (A : Type 0) (whos : List W) → asked_of (none_asked {W = W} {A = A} whos) ≡ whos
asked_none A [] = refl
asked_none A (who ∷ whos) = ap (λ l. who ∷ l) (asked_none A whos)

-- and as many
pub asks_length : {W A : Type 0} (lawful : W → Frame → Option A) (told : Told) (asks : List (Ask W A)) (turn : Option (Turn W)) → length (asks_after lawful told asks turn) ≡ length asks
asks_length {W} {A} lawful told asks turn =
    let who : Ask W A → W = λ ask. ask.who in
    sym (length-map (asks_after lawful told asks turn) who) ∙ ap length (asked_after lawful told asks turn) ∙ length-map asks who

pub none_length : {W : Type 0} (A : Type 0) (whos : List W) → length (none_asked {W = W} {A = A} whos) ≡ length whos
none_length {W} A whos = length-map whos (λ (who : W). record { who = who; ear = Open Unasked })

-- an answer is heard only by a frame that is lawful
record Answers {A : Type 0} (lawful : Frame → Option A) (told : Told) (reply : A) : Type 0 where
  pub frame : Frame
  pub came : told ≡ Came (Some frame)
  pub is : lawful frame ≡ Some reply

heard_answer : {A : Type 0} (lawful : Frame → Option A) (stage : Stage) (told : Told) (reply : A) → heard lawful stage told ≡ Heard (Answered reply) → Answers lawful told reply
heard_answer lawful Unasked Sent reply is = absurd (cc)
heard_answer lawful (Asked n) Sent reply is = absurd (cc)
heard_answer lawful stage NoneCame reply is = absurd (cc)
heard_answer lawful Unasked (Came frame) reply is = absurd (cc)
heard_answer {A} lawful (Asked n) (Came None) reply is = go (nat_lt n (MAX_STRAYS - 1)) is
  where
    go : (b : Bool) → (if b then Open (Asked (n + 1)) else Heard Strayed) ≡ Heard (Answered reply) → Answers lawful (Came None) reply
    go true e = absurd (cc)
    go false e = absurd (cc)
heard_answer {A} lawful (Asked n) (Came (Some frame)) reply is = go (lawful frame) refl is
  where
    strays : (b : Bool) → (if b then Open (Asked (n + 1)) else Heard Strayed) ≡ Heard (Answered reply) → Answers lawful (Came (Some frame)) reply
    strays true e = absurd (cc)
    strays false e = absurd (cc)

    go : (o : Option A) → lawful frame ≡ o → after_frame (Asked n) o ≡ Heard (Answered reply) → Answers lawful (Came (Some frame)) reply
    go None not_lawful e = strays (nat_lt n (MAX_STRAYS - 1)) e
    go (Some r) lawfully e = let same : r ≡ reply = cc in record { frame = frame; came = refl; is = lawfully ∙ ap (λ x. Some x) same }

-- what comes of what is wanted was sent, if it is a frame
abbrev pub CameIsSent : WorldValue → StubNext → Told → Type 0
CameIsSent w (next.Send brick) told = (frame : Option Frame) → told ≡ Came frame → ⊥
CameIsSent w (next.Receive brick) told = (frame : Frame) → told ≡ Came (Some frame) → WasSent w brick frame
CameIsSent w next.Ended told = ⊥

-- a turn is that of who stands at its place
pub record IsTurn {W A : Type 0} (asks : List (Ask W A)) (turn : Turn W) : Type 0 where
  pub ask : Ask W A
  pub there : slice_get asks turn.at ≡ Some ask
  pub who_is : ask.who ≡ turn.who
  pub ear_is : ask.ear ≡ Open turn.stage

abbrev pub IsTurnIfAny : {W A : Type 0} → List (Ask W A) → Option (Turn W) → Type 0
IsTurnIfAny asks None = Unit {0}
IsTurnIfAny asks (Some turn) = IsTurn asks turn

turn_at_is : {W A : Type 0} (asks : List (Ask W A)) (at : ℕ) → IsTurnIfAny asks (turn_at asks at)
turn_at_is {W} {A} asks at = go (slice_get asks at) refl
  where
    stands : (ask : Ask W A) (ear : Ear A) → slice_get asks at ≡ Some ask → ask.ear ≡ ear → IsTurnIfAny asks (turn_with at ask ear)
    stands ask (Open stage) there is = record { ask = ask; there = there; who_is = refl; ear_is = is }
    stands ask (Heard outcome) there is = tt

    go : (o : Option (Ask W A)) → slice_get asks at ≡ o → IsTurnIfAny asks (option_and_then (λ ask. turn_with at ask ask.ear) o)
    go None there = tt
    go (Some ask) there = stands ask ask.ear there refl

turn_of_place_is : {W A : Type 0} (asks : List (Ask W A)) (place : Option ℕ) → IsTurnIfAny asks (option_and_then (turn_at asks) place)
turn_of_place_is asks None = tt
turn_of_place_is asks (Some at) = turn_at_is asks at

pub after_asks_is : {W A : Type 0} (asks : List (Ask W A)) → IsTurnIfAny asks (turn_after_asks asks)
after_asks_is asks = turn_of_place_is asks (option_or (position is_unasked asks) (position is_asked asks))

in_order_is : {W A : Type 0} (asks : List (Ask W A)) → IsTurnIfAny asks (turn_in_order asks)
in_order_is asks = turn_of_place_is asks (position is_open asks)

pub read_turn_is : (s : ReadState) → IsTurnIfAny s.asks (turn_of_read s)
read_turn_is s = go (read_answer s) (turn_in_order s.asks) (in_order_is s.asks)
  where
    go : (answer : Option (Result (List ℕ) ReadRefusal)) (turn : Option (Turn Holder)) → IsTurnIfAny s.asks turn → IsTurnIfAny s.asks (turn_unless answer turn)
    go (Some answer) turn is = tt
    go None turn is = is

-- what is heard of those that are asked was sent
pub sent_after : {W A : Type 0} (w : WorldValue) (brick_of : W → BrickNo) (lawful : W → Frame → Option A) (told : Told) (asks : List (Ask W A)) (turn : Option (Turn W))
    → IsTurnIfAny asks turn → CameIsSent w (wanted brick_of turn) told → WereSent w brick_of lawful asks → WereSent w brick_of lawful (asks_after lawful told asks turn)
sent_after w brick_of lawful told asks None its comes were = were
sent_after {W} {A} w brick_of lawful told asks (Some turn) its comes were = go (slice_get asks turn.at) refl
  where
    sent : (stage : Stage) (frame : Frame) → CameIsSent w (wanted_of (brick_of turn.who) stage) told → told ≡ Came (Some frame) → WasSent w (brick_of turn.who) frame
    sent Unasked frame comes came = absurd (comes (Some frame) came)
    sent (Asked n) frame comes came = comes frame came

    go : (o : Option (Ask W A)) → slice_get asks turn.at ≡ o → WereSent w brick_of lawful (with_ear_of asks turn.at (heard (lawful turn.who) turn.stage told) o)
    go None there = were
    go (Some ask) there = λ i a reply at_i is. elim (get_set asks turn.at (record ask { ear = heard (lawful turn.who) turn.stage told }) i a at_i) [
      | inl old ↦ were i a reply old is
      | inr new ↦ (
          let ear : heard (lawful turn.who) turn.stage told ≡ Heard (Answered reply) = ap (λ (x : Ask W A). x.ear) new.1 ∙ is in
          let answers : Answers (lawful turn.who) told reply = heard_answer (lawful turn.who) turn.stage told reply ear in
          let one : Some ask ≡ Some its.ask = sym there ∙ its.there in
          let same : ask ≡ its.ask = cc in
          let who : turn.who ≡ a.who = sym its.who_is ∙ ap (λ (x : Ask W A). x.who) (sym same) ∙ ap (λ (x : Ask W A). x.who) new.1 in
          let P : W → Type 0 = λ x. (frame : Frame) × WasSent w (brick_of x) frame × (lawful x frame ≡ Some reply) in
          subst P who (answers.frame, sent turn.stage answers.frame comes answers.came, answers.is))
    ]

-- of those that were not asked nothing was heard
pub none_heard : {W : Type 0} (A : Type 0) (whos : List W) (i : ℕ) (ask : Ask W A) (reply : A) → slice_get (none_asked {W = W} {A = A} whos) i ≡ Some ask → ask.ear ≡ Heard (Answered reply) → ⊥
none_heard A [] i ask reply there is = cc
none_heard {W} A (who ∷ whos) zero ask reply there is =
    let first : record { who = who; ear = Open Unasked } ≡ ask = cc in
    let ear : Open Unasked ≡ Heard (Answered reply) = ap (λ (x : Ask W A). x.ear) first ∙ is in
    cc
none_heard A (who ∷ whos) (suc i) ask reply there is = none_heard A whos i ask reply there is
