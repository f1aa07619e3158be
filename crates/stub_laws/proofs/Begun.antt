-- At its answer a write has heard nothing of a brick without an outcome.
use Rattle.std.proofs.Common.{arith, ◌≡◌, ◌∙◌, ap, sym, refl, subst, inl, inr, ℕ, zero, suc, ◌<◌, Bool, true, false, IsTrue, nat_le, if◌then◌else◌, List, [], ◌∷◌, length, filter_map, take, Option, Some, None, position, slice_get, slice_set, Result, Ok}
use Rattle.std.specs.List.{position_or_len}
use Rattle.std.specs.Option.{option_and_then, option_or}
use Rattle.std.proofs.lemmas.Bool.{cases_eq}
use Rattle.std.proofs.lemmas.List.{get_or-set_other, length-set}
use Rattle.std.proofs.lemmas.List.Folds.{position_or_len-set}
use Rattle.std.proofs.lemmas.Option.{slice_get-get_or, slice_get_within, get_or_from_slice_get}
use Rattle.crash_base.specs.declared.numbers.BrickNo.{BrickNo}
use Rattle.session_cookie.specs.declared.cookie.Cookie.{Cookie}
use Rattle.ssm_frames.specs.declared.frame.Frame.{Frame}
use Rattle.ssm_stub.specs.declared.ask.Ask.{Ask}
use Rattle.ssm_stub.specs.declared.ask.Turn.{Turn}
use Rattle.ssm_stub.specs.declared.ear.Stage.{Stage}
use Rattle.ssm_stub.specs.declared.ear.Stage.TheVariants.{Unasked, Asked}
use Rattle.ssm_stub.specs.declared.ear.Ear.TheVariants.{Open}
use Rattle.ssm_stub.specs.declared.event.Told.{Told}
use Rattle.ssm_stub.specs.declared.event.Told.TheVariants.{Sent, Came, Silent as NoneCame}
use Rattle.ssm_stub.specs.declared.reply.WriteReply.{WriteReply}
use Rattle.ssm_stub.specs.declared.write_call.WriteRefusal.{WriteRefusal}
use Rattle.ssm_stub.specs.Ears.{heard}
use Rattle.ssm_stub.specs.Turns.{none_asked, is_unasked, is_asked, turn_with, turn_at, turn_after_asks, asks_after, wanted_of, wanted, next_unless}
use Rattle.ssm_stub.specs.Runs.{fits, Fits, after}
use Rattle.ssm_stub.specs.Writes.{WriteState, put_lawful, holder_of, cause_of, missed_unless, write_answer, write_until, hear_write}
use Rattle.ssm_stub.proofs.Places.{slice_get-set, turn_after_asks-stands, with_ear-there}
use Rattle.ssm_stub.proofs.Unasked.{none_goes, turn_place}

position-set : {X : Type 0} (p : X → Bool) (xs : List X) (i : ℕ) (x y : X) → slice_get xs i ≡ Some x → p y ≡ p x → position p (slice_set xs i y) ≡ position p xs
position-set p xs i x y here same =
    let kept : position_or_len p (slice_set xs i y) ≡ position_or_len p xs = position_or_len-set p xs i y x (same ∙ sym (ap p (get_or_from_slice_get xs i x x here))) in
    rw (kept, length-set xs i y) refl

set_other : {X : Type 0} (xs : List X) (i j : ℕ) (x y : X) → (i ≡ j → ⊥) → slice_get (slice_set xs i x) j ≡ Some y → slice_get xs j ≡ Some y
set_other xs i j x y differ here =
    let within : j < length xs = (let long = slice_get_within (slice_set xs i x) j y here in let e = length-set xs i x in omega arith) in
    slice_get-get_or xs j y within
    ∙ ap (λ z. Some z) (sym (get_or-set_other xs i j x y (λ e. differ (sym e))) ∙ get_or_from_slice_get (slice_set xs i x) j y y here)

-- no stray comes of a brick that was not asked
no_stray : {A : Type 0} (who : BrickNo) (lawful : Frame → Option A) (told : Told) (strays : ℕ) → IsTrue (fits (wanted_of who Unasked) told) → heard lawful Unasked told ≡ Open (Asked (suc strays)) → ⊥
no_stray who lawful Sent strays fit h = absurd cc
no_stray who lawful (Came frame) strays fit h = absurd cc
no_stray who lawful NoneCame strays fit h = absurd cc

place_of : {W A : Type 0} (asks : List (Ask W A)) (place : Option ℕ) (t : Turn W) → option_and_then (turn_at asks) place ≡ Some t → place ≡ Some t.at
place_of asks None t h = absurd cc
place_of asks (Some at) t h = ap (λ k. Some k) (sym (turn_place asks at t h))

-- A write waits for a brick: it has no answer, and the brick at this place has the turn.
record Waits (s : WriteState) (asks : List (Ask BrickNo WriteReply)) (i : ℕ) : Type 0 where
  no_answer : write_answer (record s { asks = asks }) ≡ None
  turn : Turn BrickNo
  now : turn_after_asks asks ≡ Some turn
  place : turn.at ≡ i

-- a write waits for each brick of which strays came
abbrev Sole : WriteState → Type 0
Sole s = (i strays : ℕ) (a : Ask BrickNo WriteReply) → slice_get s.asks i ≡ Some a → a.ear ≡ Open (Asked (suc strays)) → Waits s s.asks i

module _ (s : WriteState) (t : Turn BrickNo) (now : turn_after_asks s.asks ≡ Some t) (none : write_answer s ≡ None) where
  -- with as many holders, and one that has the turn, there is no answer
  still_none : (on : List (Ask BrickNo WriteReply)) (u : Turn BrickNo) → turn_after_asks on ≡ Some u → filter_map holder_of on ≡ filter_map holder_of s.asks → (full : Bool) → nat_le s.least (length (filter_map holder_of s.asks)) ≡ full → write_answer (record s { asks = on }) ≡ None
  still_none on u next same true e = absurd (
      let cookie : Cookie = record { key = s.key; version = s.nonce; expiry = s.expiry; bricks = take s.least (filter_map holder_of s.asks) } in
      let there : write_answer s ≡ Some (Ok cookie) = ap (λ c. if c then Some (Ok cookie) else missed_unless (turn_after_asks s.asks) (filter_map cause_of s.asks)) e in
      let both : Some (Ok cookie) ≡ None = sym there ∙ none in cc)
  still_none on u next same false e =
      let cookie : Cookie = record { key = s.key; version = s.nonce; expiry = s.expiry; bricks = take s.least (filter_map holder_of on) } in
      ap (λ c. if c then Some (Ok cookie) else missed_unless (turn_after_asks on) (filter_map cause_of on)) (ap (λ hs. nat_le s.least (length hs)) same ∙ e)
      ∙ ap (λ o. missed_unless o (filter_map cause_of on)) next

  -- after one more stray the write waits for the same brick
  one_stray : (k more : ℕ) → t.stage ≡ Asked k → (on : List (Ask BrickNo WriteReply)) → on ≡ slice_set s.asks t.at (record { who = t.who; ear = Open (Asked more) }) → Waits s on t.at
  one_stray k more begun on is =
      let x : Ask BrickNo WriteReply = record { who = t.who; ear = Open (Asked k) } in
      let y : Ask BrickNo WriteReply = record { who = t.who; ear = Open (Asked more) } in
      let u : Turn BrickNo = record { at = t.at; who = t.who; stage = Asked more } in
      let here : slice_get s.asks t.at ≡ Some x = turn_after_asks-stands s.asks t now ∙ ap (λ stage. Some (record { who = t.who; ear = Open stage })) begun in
      let unasked : position is_unasked on ≡ position is_unasked s.asks = ap (position is_unasked) is ∙ position-set is_unasked s.asks t.at x y here refl in
      let asked : position is_asked on ≡ position is_asked s.asks = ap (position is_asked) is ∙ position-set is_asked s.asks t.at x y here refl in
      let place : option_or (position is_unasked on) (position is_asked on) ≡ Some t.at =
      ap (λ o. option_or o (position is_asked on)) unasked ∙ (ap (option_or (position is_unasked s.asks)) asked ∙ place_of s.asks (option_or (position is_unasked s.asks) (position is_asked s.asks)) t now) in
      let there : slice_get on t.at ≡ Some y = ap (λ xs. slice_get xs t.at) is ∙ slice_get-set s.asks t.at y (slice_get_within s.asks t.at x here) in
      let next : turn_after_asks on ≡ Some u = ap (option_and_then (turn_at on)) place ∙ ap (option_and_then (λ (ask : Ask BrickNo WriteReply). turn_with t.at ask ask.ear)) there in
      let holders : filter_map holder_of on ≡ filter_map holder_of s.asks = ap (filter_map holder_of) is ∙ none_goes holder_of s.asks t.at x y here refl refl in
      record { no_answer = still_none on u next holders (nat_le s.least (length (filter_map holder_of s.asks))) refl; turn = u; now = next; place = refl }

  by_stage : (told : Told) (stage : Stage) → t.stage ≡ stage → IsTrue (fits (wanted_of t.who stage) told) → (strays : ℕ) → heard (put_lawful s.nonce s.key t.who) stage told ≡ Open (Asked (suc strays))
      → (on : List (Ask BrickNo WriteReply)) → on ≡ slice_set s.asks t.at (record { who = t.who; ear = heard (put_lawful s.nonce s.key t.who) stage told }) → Waits s on t.at
  by_stage told Unasked begun fit strays ear on is = absurd (no_stray t.who (put_lawful s.nonce s.key t.who) told strays fit ear)
  by_stage told (Asked k) begun fit strays ear on is = one_stray k (suc strays) begun on (is ∙ ap (λ e. slice_set s.asks t.at (record { who = t.who; ear = e })) ear)

  step : (told : Told) → IsTrue (fits (wanted_of t.who t.stage) told) → Sole s → (on : List (Ask BrickNo WriteReply)) → on ≡ slice_set s.asks t.at (record { who = t.who; ear = heard (put_lawful s.nonce s.key t.who) t.stage told })
      → (i strays : ℕ) (a : Ask BrickNo WriteReply) → slice_get on i ≡ Some a → a.ear ≡ Open (Asked (suc strays)) → Waits s on i
  step told fit sole on is i strays a here ear =
      let old : Ask BrickNo WriteReply = record { who = t.who; ear = Open t.stage } in
      let new : Ask BrickNo WriteReply = record { who = t.who; ear = heard (put_lawful s.nonce s.key t.who) t.stage told } in
      let now_here : slice_get (slice_set s.asks t.at new) i ≡ Some a = ap (λ xs. slice_get xs i) (sym is) ∙ here in
      elim (cases_eq t.at i) [
        | inl same ↦ (let there : slice_get (slice_set s.asks t.at new) t.at ≡ Some new = slice_get-set s.asks t.at new (slice_get_within s.asks t.at old (turn_after_asks-stands s.asks t now)) in
            let both : Some new ≡ Some a = sym there ∙ (ap (slice_get (slice_set s.asks t.at new)) same ∙ now_here) in
            let is_new : new ≡ a = cc in
            let P : ℕ → Type 0 = λ n. Waits s on n in
            subst P same (by_stage told t.stage refl fit strays (ap (λ (x : Ask BrickNo WriteReply). x.ear) is_new ∙ ear) on is))
        | inr apart ↦ absurd (
            let before = sole i strays a (set_other s.asks t.at i new a apart now_here) ear in
            let both : Some t ≡ Some before.turn = sym now ∙ before.now in
            let same : t ≡ before.turn = cc in
            apart (ap (λ (u : Turn BrickNo). u.at) same ∙ before.place))
      ]

one : (s : WriteState) (told : Told) (answer : Option (Result Cookie WriteRefusal)) (turn : Option (Turn BrickNo)) → write_answer s ≡ answer → turn_after_asks s.asks ≡ turn → IsTrue (fits (next_unless answer (wanted (λ (b : BrickNo). b) turn)) told) → Sole s → Sole (hear_write s told)
one s told (Some answer) turn given now fit sole = absurd cc
one s told None None given now fit sole = absurd cc
one s told None (Some t) given now fit sole =
    let lawful = put_lawful s.nonce s.key in
    let old : Ask BrickNo WriteReply = record { who = t.who; ear = Open t.stage } in
    let is : (hear_write s told).asks ≡ slice_set s.asks t.at (record { who = t.who; ear = heard (lawful t.who) t.stage told }) =
    ap (asks_after lawful told s.asks) now ∙ with_ear-there s.asks t.at (heard (lawful t.who) t.stage told) old (turn_after_asks-stands s.asks t now) in
    λ i strays a here ear.
    let w = step s t now given told fit sole (hear_write s told).asks is i strays a here ear in
    record { no_answer = w.no_answer; turn = w.turn; now = w.now; place = w.place }

run : (events : List Told) (s : WriteState) → Fits write_until s events → Sole s → Sole (after write_until s events)
run [] s fitting sole = sole
run (told ∷ events) s (fit, rest) sole = run events (hear_write s told) rest (one s told (write_answer s) (turn_after_asks s.asks) refl refl fit sole)

fresh : (bricks : List BrickNo) (i strays : ℕ) (a : Ask BrickNo WriteReply) → slice_get (none_asked bricks) i ≡ Some a → a.ear ≡ Open (Asked (suc strays)) → ⊥
fresh [] zero strays a here ear = cc
fresh [] (suc i) strays a here ear = cc
fresh (b ∷ bricks) zero strays a here ear =
    let same : record { who = b; ear = Open Unasked } ≡ a = cc in
    let e : Open Unasked ≡ Open (Asked (suc strays)) = ap (λ (x : Ask BrickNo WriteReply). x.ear) same ∙ ear in cc
fresh (b ∷ bricks) (suc i) strays a here ear = fresh bricks i strays a here ear

-- where there is an answer, no stray came of a brick without an outcome
pub none_begun : (events : List Told) (bricks : List BrickNo) (s : WriteState) (answer : Result Cookie WriteRefusal) → s.asks ≡ none_asked bricks → Fits write_until s events → write_answer (after write_until s events) ≡ Some answer
    → (i strays : ℕ) (a : Ask BrickNo WriteReply) → slice_get (after write_until s events).asks i ≡ Some a → a.ear ≡ Open (Asked (suc strays)) → ⊥
none_begun events bricks s answer begins fitting answers i strays a here ear =
    let start : Sole s = λ j n b there begun. absurd (fresh bricks j n b (ap (λ xs. slice_get xs j) (sym begins) ∙ there) begun) in
    let w = run events s fitting start i strays a here ear in
    let both : Some answer ≡ None = sym answers ∙ w.no_answer in
    cc
