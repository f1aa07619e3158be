-- Who has the turn stands at its place, and what is put there.
use Rattle.std.proofs.Common.{arith, Result, ◌≡◌, ◌∙◌, ap, sym, ℕ, ◌<◌, List, length, slice_set, slice_get, Option, Some, None, position}
use Rattle.std.specs.Option.{option_or}
use Rattle.std.proofs.lemmas.List.{set-set, set-get_or, get_or-set_same, length-set}
use Rattle.std.proofs.lemmas.Option.{option_and_then_some, slice_get_within, get_or_from_slice_get, slice_get-get_or}
use Rattle.ssm_stub.specs.declared.ear.Ear.{Ear}
use Rattle.ssm_stub.specs.declared.ear.Ear.TheVariants.{Open, Heard}
use Rattle.ssm_stub.specs.declared.ask.Ask.{Ask}
use Rattle.ssm_stub.specs.declared.ask.Turn.{Turn}
use Rattle.ssm_stub.specs.Turns.{is_unasked, is_asked, is_open, turn_with, turn_at, turn_after_asks, turn_in_order, with_ear_of, with_ear}
use Rattle.session_cookie.specs.declared.cookie.Holder.{Holder}
use Rattle.ssm_stub.specs.declared.read_call.ReadRefusal.{ReadRefusal}
use Rattle.ssm_stub.specs.Reads.{ReadState, read_answer, turn_unless, turn_of_read}

turn_with-is : {W A : Type 0} (at : ℕ) (ask : Ask W A) (ear : Ear A) (t : Turn W) → turn_with at ask ear ≡ Some t → (t.at ≡ at) × (record ask { ear = ear } ≡ record { who = t.who; ear = Open t.stage })
turn_with-is {W} {A} at ask (Open stage) t h =
    let same : t ≡ record { at = at; who = ask.who; stage = stage } = cc in
    (ap (λ (u : Turn W). u.at) same, sym (let ask_of : Turn W → Ask W A = λ u. record { who = u.who; ear = Open u.stage } in ap ask_of same))
turn_with-is at ask (Heard outcome) t h = (cc, cc)

-- who has the turn stands at its place, without an outcome
pub turn_at-stands : {W A : Type 0} (asks : List (Ask W A)) (at : ℕ) (t : Turn W) → turn_at asks at ≡ Some t → slice_get asks t.at ≡ Some (record { who = t.who; ear = Open t.stage })
turn_at-stands {W} {A} asks at t h =
    option_and_then_some (λ ask. turn_with at ask ask.ear) (slice_get asks at) t h (λ ask stands is.
    let parts = turn_with-is at ask ask.ear t is in
    ap (slice_get asks) parts.0 ∙ (stands ∙ ap (λ a. Some a) parts.1))

pub turn_after_asks-stands : {W A : Type 0} (asks : List (Ask W A)) (t : Turn W) → turn_after_asks asks ≡ Some t → slice_get asks t.at ≡ Some (record { who = t.who; ear = Open t.stage })
turn_after_asks-stands asks t h = option_and_then_some (turn_at asks) (option_or (position is_unasked asks) (position is_asked asks)) t h (λ at found is. turn_at-stands asks at t is)

pub with_ear-there : {W A : Type 0} (asks : List (Ask W A)) (at : ℕ) (ear : Ear A) (ask : Ask W A) → slice_get asks at ≡ Some ask → with_ear asks at ear ≡ slice_set asks at (record ask { ear = ear })
with_ear-there asks at ear ask stands = ap (with_ear_of asks at ear) stands

pub slice_get-set : {X : Type 0} (xs : List X) (i : ℕ) (x : X) → i < length xs → slice_get (slice_set xs i x) i ≡ Some x
slice_get-set xs i x within =
    let long : i < length (slice_set xs i x) = let e = length-set xs i x in omega arith in
    slice_get-get_or (slice_set xs i x) i x long ∙ ap (λ y. Some y) (get_or-set_same xs i x x within)

pub slice_set-back : {X : Type 0} (xs : List X) (i : ℕ) (x : X) → slice_get xs i ≡ Some x → slice_set xs i x ≡ xs
slice_set-back xs i x stands = ap (slice_set xs i) (sym (get_or_from_slice_get xs i x x stands)) ∙ set-get_or xs i x

-- what was put in place of an ask is taken back by putting what stood there
pub taken_back : {W A : Type 0} (asks : List (Ask W A)) (t : Turn W) (ear : Ear A) → slice_get asks t.at ≡ Some (record { who = t.who; ear = Open t.stage }) → with_ear (with_ear asks t.at ear) t.at (Open t.stage) ≡ asks
taken_back {W} {A} asks t ear stands =
    let ask : Ask W A = record { who = t.who; ear = Open t.stage } in
    let put = with_ear-there asks t.at ear ask stands in
    let within = slice_get_within asks t.at ask stands in
    let there = slice_get-set asks t.at (record ask { ear = ear }) within in
    ap (λ xs. with_ear xs t.at (Open t.stage)) put
    ∙ (with_ear-there (slice_set asks t.at (record ask { ear = ear })) t.at (Open t.stage) (record ask { ear = ear }) there
    ∙ (set-set asks t.at (record ask { ear = ear }) ask ∙ slice_set-back asks t.at ask stands))

turn_unless-turn : (answer : Option (Result (List ℕ) ReadRefusal)) (turn : Option (Turn Holder)) (t : Turn Holder) → turn_unless answer turn ≡ Some t → turn ≡ Some t
turn_unless-turn (Some answer) turn t h = cc
turn_unless-turn None turn t h = h

pub turn_in_order-stands : {W A : Type 0} (asks : List (Ask W A)) (t : Turn W) → turn_in_order asks ≡ Some t → slice_get asks t.at ≡ Some (record { who = t.who; ear = Open t.stage })
turn_in_order-stands asks t h = option_and_then_some (turn_at asks) (position is_open asks) t h (λ at found is. turn_at-stands asks at t is)

pub turn_of_read-stands : (s : ReadState) (t : Turn Holder) → turn_of_read s ≡ Some t → slice_get s.asks t.at ≡ Some (record { who = t.who; ear = Open t.stage })
turn_of_read-stands s t h = turn_in_order-stands s.asks t (turn_unless-turn (read_answer s) (turn_in_order s.asks) t h)
