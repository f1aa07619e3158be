-- A read asks its holders in order: those before the one whose turn it is are lost, and those behind it
-- were not asked.
use Rattle.std.proofs.Common.{◌≡◌, ◌∙◌, ap, sym, refl, subst, inl, inr, ◌⊎◌, ℕ, suc, Bool, true, false, nat_lt, IsTrue, if◌then◌else◌, List, [], ◌∷◌, Option, Some, None, Result, slice_get}
use Rattle.std.specs.Prelude.{option_map, position}
use Rattle.std.specs.Option.{option_and_then}
use Rattle.crash_base.proofs.Positions.{position-cons}
use Rattle.session_cookie.specs.declared.cookie.Holder.{Holder}
use Rattle.ssm_frames.specs.declared.frame.Frame.{Frame}
use Rattle.ssm_stub.specs.declared.ear.Stage.{Stage}
use Rattle.ssm_stub.specs.declared.ear.Stage.TheVariants.{Unasked}
use Rattle.ssm_stub.specs.declared.ear.Outcome.TheVariants.{Answered, Silent, Strayed}
use Rattle.ssm_stub.specs.declared.ear.Ear.{Ear}
use Rattle.ssm_stub.specs.declared.ear.Ear.TheVariants.{Open, Heard}
use Rattle.ssm_stub.specs.declared.event.Told.{Told}
use Rattle.ssm_stub.specs.declared.ask.Ask.{Ask}
use Rattle.ssm_stub.specs.declared.ask.Turn.{Turn}
use Rattle.ssm_stub.specs.declared.reply.ReadReply.{ReadReply}
use Rattle.ssm_stub.specs.declared.reply.ReadReply.TheVariants.{Found, Crashed, Swept}
use Rattle.ssm_stub.specs.declared.read_call.ReadRefusal.{ReadRefusal}
use Rattle.ssm_stub.specs.Ears.{heard}
use Rattle.ssm_stub.specs.Turns.{none_asked, is_open, turn_with, turn_at, turn_in_order, with_ear_of, asks_after, wanted}
use Rattle.ssm_stub.specs.Runs.{fits, Fits, after}
use Rattle.ssm_stub.specs.Reads.{ReadState, get_lawful, value_of, is_found, found_in, found_or, turn_unless, read_answer, read_machine, hear_read}

-- it has an outcome, and not the value
unfoldable pub is_lost : Ear ReadReply → Bool
is_lost (Open stage) = false
is_lost (Heard (Answered (Found value))) = false
is_lost (Heard (Answered (Crashed incarnation))) = true
is_lost (Heard (Answered (Swept moment))) = true
is_lost (Heard Silent) = true
is_lost (Heard Strayed) = true

-- none of these was asked
unfoldable pub AreFresh : List (Ask Holder ReadReply) → Type 0
AreFresh [] = Unit {0}
AreFresh (ask ∷ asks) = (ask.ear ≡ Open Unasked) × AreFresh asks

-- the first ones are lost, and behind the one that follows them none was asked
unfoldable pub InOrder : List (Ask Holder ReadReply) → Type 0
InOrder [] = Unit {0}
InOrder (ask ∷ asks) = ((is_lost ask.ear ≡ true) × InOrder asks) ⊎ ((is_lost ask.ear ≡ false) × AreFresh asks)

fresh_in_order : (asks : List (Ask Holder ReadReply)) → AreFresh asks → InOrder asks
unfolding AreFresh InOrder is_lost
fresh_in_order [] h = tt
fresh_in_order (ask ∷ asks) (first, rest) = inr (ap is_lost first, rest)

started_fresh : (holders : List Holder) → AreFresh (none_asked holders)
unfolding AreFresh
started_fresh [] = tt
started_fresh (holder ∷ holders) = (refl, started_fresh holders)

-- the turn among those behind one that has its outcome
turn_behind : (lawful : Holder → Frame → Option ReadReply) (told : Told) (ask : Ask Holder ReadReply) (asks : List (Ask Holder ReadReply)) (at : ℕ) (there : Option (Ask Holder ReadReply)) → slice_get asks at ≡ there → asks_after lawful told (ask ∷ asks) (option_and_then (λ (a : Ask Holder ReadReply). turn_with (suc at) a a.ear) there) ≡ ask ∷ asks_after lawful told asks (option_and_then (λ (a : Ask Holder ReadReply). turn_with at a a.ear) there)
turn_behind lawful told ask asks at None here = refl
turn_behind lawful told ask asks at (Some a) here = behind_of a.ear where
  behind_of : (ear : Ear ReadReply) → asks_after lawful told (ask ∷ asks) (turn_with (suc at) a ear) ≡ ask ∷ asks_after lawful told asks (turn_with at a ear)
  behind_of (Open stage) = ap (with_ear_of (ask ∷ asks) (suc at) (heard (lawful a.who) stage told)) here ∙ ap (λ rest. ask ∷ rest) (sym (ap (with_ear_of asks at (heard (lawful a.who) stage told)) here))
  behind_of (Heard outcome) = refl

turns_behind : (lawful : Holder → Frame → Option ReadReply) (told : Told) (ask : Ask Holder ReadReply) (asks : List (Ask Holder ReadReply)) (found : Option ℕ) → asks_after lawful told (ask ∷ asks) (option_and_then (turn_at (ask ∷ asks)) (option_map suc found)) ≡ ask ∷ asks_after lawful told asks (option_and_then (turn_at asks) found)
turns_behind lawful told ask asks None = refl
turns_behind lawful told ask asks (Some at) = turn_behind lawful told ask asks at (slice_get asks at) refl

after_behind : (lawful : Holder → Frame → Option ReadReply) (told : Told) (ask : Ask Holder ReadReply) (asks : List (Ask Holder ReadReply)) → is_open ask ≡ false → asks_after lawful told (ask ∷ asks) (turn_in_order (ask ∷ asks)) ≡ ask ∷ asks_after lawful told asks (turn_in_order asks)
after_behind lawful told ask asks heard_already =
    ap (λ found. asks_after lawful told (ask ∷ asks) (option_and_then (turn_at (ask ∷ asks)) found)) (position-cons is_open ask asks ∙ ap (λ b. if b then Some 0 else option_map suc (position is_open asks)) heard_already)
    ∙ turns_behind lawful told ask asks (position is_open asks)

after_first : (lawful : Holder → Frame → Option ReadReply) (told : Told) (who : Holder) (stage : Stage) (asks : List (Ask Holder ReadReply)) → asks_after lawful told (record { who = who; ear = Open stage } ∷ asks) (turn_in_order (record { who = who; ear = Open stage } ∷ asks)) ≡ record { who = who; ear = heard (lawful who) stage told } ∷ asks
after_first lawful told who stage asks =
    let ask : Ask Holder ReadReply = record { who = who; ear = Open stage } in
    ap (λ found. asks_after lawful told (ask ∷ asks) (option_and_then (turn_at (ask ∷ asks)) found)) (position-cons is_open ask asks)

lost_heard : (who : Holder) (ear : Ear ReadReply) → is_lost ear ≡ true → is_open (record { who = who; ear = ear }) ≡ false
unfolding is_lost
lost_heard who (Open stage) h = cc
lost_heard who (Heard outcome) h = refl

pub lost_not_found : (who : Holder) (ear : Ear ReadReply) → is_lost ear ≡ true → is_found (record { who = who; ear = ear }) ≡ false
unfolding is_lost
lost_not_found who (Open stage) h = refl
lost_not_found who (Heard (Answered (Found value))) h = cc
lost_not_found who (Heard (Answered (Crashed incarnation))) h = refl
lost_not_found who (Heard (Answered (Swept moment))) h = refl
lost_not_found who (Heard Silent) h = refl
lost_not_found who (Heard Strayed) h = refl

-- what was found behind one that has no value
pub found_behind : (ask : Ask Holder ReadReply) (asks : List (Ask Holder ReadReply)) → is_found ask ≡ false → found_in (ask ∷ asks) ≡ found_in asks
found_behind ask asks h =
    let value : List (Ask Holder ReadReply) → ℕ → Option (List ℕ) = λ xs at. option_and_then value_of (slice_get xs at) in
    ap (option_and_then (value (ask ∷ asks))) (position-cons is_found ask asks ∙ ap (λ b. if b then Some 0 else option_map suc (position is_found asks)) h)
    ∙ shifted (position is_found asks) where
      shifted : (found : Option ℕ) → option_and_then (λ at. option_and_then value_of (slice_get (ask ∷ asks) at)) (option_map suc found) ≡ option_and_then (λ at. option_and_then value_of (slice_get asks at)) found
      shifted None = refl
      shifted (Some at) = refl

pub found_first : (who : Holder) (value : List ℕ) (asks : List (Ask Holder ReadReply)) → found_in (record { who = who; ear = Heard (Answered (Found value)) } ∷ asks) ≡ Some value
found_first who value asks =
    let ask : Ask Holder ReadReply = record { who = who; ear = Heard (Answered (Found value)) } in
    ap (option_and_then (λ at. option_and_then value_of (slice_get (ask ∷ asks) at))) (position-cons is_found ask asks)

-- nothing was found where none was asked
pub none_found : (asks : List (Ask Holder ReadReply)) → AreFresh asks → found_in asks ≡ None
unfolding AreFresh
none_found [] h = refl
none_found (ask ∷ asks) (first, rest) = found_behind ask asks (ap (λ ear. is_found (record ask { ear = ear })) first) ∙ none_found asks rest

by_lost : (who : Holder) (ear : Ear ReadReply) (asks : List (Ask Holder ReadReply)) (lost : Bool) → is_lost ear ≡ lost → AreFresh asks → InOrder (record { who = who; ear = ear } ∷ asks)
unfolding InOrder
by_lost who ear asks true is fresh = inl (is, fresh_in_order asks fresh)
by_lost who ear asks false is fresh = inr (is, fresh)

first_told : (lawful : Holder → Frame → Option ReadReply) (told : Told) (who : Holder) (ear : Ear ReadReply) (asks : List (Ask Holder ReadReply)) → is_lost ear ≡ false → AreFresh asks → found_in (record { who = who; ear = ear } ∷ asks) ≡ None → InOrder (asks_after lawful told (record { who = who; ear = ear } ∷ asks) (turn_in_order (record { who = who; ear = ear } ∷ asks)))
unfolding is_lost
first_told lawful told who (Open stage) asks is fresh none =
    subst InOrder (sym (after_first lawful told who stage asks)) (by_lost who (heard (lawful who) stage told) asks (is_lost (heard (lawful who) stage told)) refl fresh)
first_told lawful told who (Heard (Answered (Found value))) asks is fresh none = absurd (let e : Some value ≡ None = sym (found_first who value asks) ∙ none in cc)
first_told lawful told who (Heard (Answered (Crashed incarnation))) asks is fresh none = absurd cc
first_told lawful told who (Heard (Answered (Swept moment))) asks is fresh none = absurd cc
first_told lawful told who (Heard Silent) asks is fresh none = absurd cc
first_told lawful told who (Heard Strayed) asks is fresh none = absurd cc

-- an event leaves them in order
told_in_order : (lawful : Holder → Frame → Option ReadReply) (told : Told) (asks : List (Ask Holder ReadReply)) → InOrder asks → found_in asks ≡ None → InOrder (asks_after lawful told asks (turn_in_order asks))
unfolding InOrder
told_in_order lawful told [] h none = tt
told_in_order lawful told (ask ∷ asks) (inl (lost, rest)) none =
    let same = after_behind lawful told ask asks (lost_heard ask.who ask.ear lost) in
    let later = told_in_order lawful told asks rest (sym (found_behind ask asks (lost_not_found ask.who ask.ear lost)) ∙ none) in
    subst InOrder (sym same) (inl (lost, later))
told_in_order lawful told (ask ∷ asks) (inr (here, fresh)) none = first_told lawful told ask.who ask.ear asks here fresh none

unanswered : (past : Bool) (refusal : Result (List ℕ) ReadRefusal) (found : Option (List ℕ)) (rest : Option (Result (List ℕ) ReadRefusal)) → (if past then Some refusal else found_or found rest) ≡ None → found ≡ None
unanswered true refusal found rest h = absurd cc
unanswered false refusal (Some value) rest h = absurd cc
unanswered false refusal None rest h = refl

turn_by : (answer : Option (Result (List ℕ) ReadRefusal)) (turn : Option (Turn Holder)) (told : Told) → IsTrue (fits (wanted (λ (h : Holder). h.brick) (turn_unless answer turn)) told) → (answer ≡ None) × (turn_unless answer turn ≡ turn)
turn_by (Some answer) turn told h = absurd cc
turn_by None turn told h = (refl, refl)

-- a run leaves them in order
pub run_in_order : (events : List Told) (s : ReadState) → Fits read_machine s events → InOrder s.asks → InOrder (after read_machine s events).asks
run_in_order [] s fitting h = h
run_in_order (told ∷ events) s (first, rest) h =
    let turn = turn_by (read_answer s) (turn_in_order s.asks) told first in
    let none = unanswered (nat_lt s.expiry.0 s.moment.0) _ (found_in s.asks) _ turn.0 in
    let lawful = get_lawful s.nonce s.key s.version s.expiry in
    let one = told_in_order lawful told s.asks h none in
    run_in_order events (hear_read s told) rest (subst InOrder (sym (ap (asks_after lawful told s.asks) turn.1)) one)

pub started_in_order : (holders : List Holder) → InOrder (none_asked holders)
started_in_order holders = fresh_in_order (none_asked holders) (started_fresh holders)
