-- The answer of a write stays.
use Rattle.std.proofs.Common.{arith, ◌≡◌, ◌∙◌, ap, sym, refl, subst, inl, inr, ◌⊎◌, ℕ, zero, suc, ◌≤◌, Bool, true, false, IsTrue, nat_le, if◌then◌else◌, List, [], ◌∷◌, ◌++◌, length, take, filter_map, length-append, Option, Some, None, Result, Ok, slice_get, slice_set, position}
use Rattle.std.specs.List.{cons_option}
use Rattle.std.specs.Option.{option_or, option_and_then}
use Rattle.std.proofs.lemmas.Bool.{leb-true, le-leb}
use Rattle.std.proofs.lemmas.List.{take-append-le}
use Rattle.std.proofs.lemmas.List.Sums.{fold-append}
use Rattle.crash_base.proofs.Positions.{position-cons}
use Rattle.crash_base.specs.declared.numbers.BrickNo.{BrickNo}
use Rattle.session_cookie.specs.declared.cookie.Cookie.{Cookie}
use Rattle.session_cookie.specs.declared.cookie.Holder.{Holder}
use Rattle.ssm_frames.specs.declared.frame.Frame.{Frame}
use Rattle.ssm_stub.specs.declared.cause.BrickCause.{BrickCause}
use Rattle.ssm_stub.specs.declared.ear.Stage.{Stage}
use Rattle.ssm_stub.specs.declared.ear.Stage.TheVariants.{Unasked, Asked}
use Rattle.ssm_stub.specs.declared.ear.Ear.{Ear}
use Rattle.ssm_stub.specs.declared.ear.Ear.TheVariants.{Open, Heard}
use Rattle.ssm_stub.specs.declared.event.Told.{Told}
use Rattle.ssm_stub.specs.declared.event.Told.TheVariants.{Sent, Came, Silent as NoneCame}
use Rattle.ssm_stub.specs.declared.ask.Ask.{Ask}
use Rattle.ssm_stub.specs.declared.ask.Turn.{Turn}
use Rattle.ssm_stub.specs.declared.reply.WriteReply.{WriteReply}
use Rattle.ssm_stub.specs.declared.write_call.WriteRefusal.{WriteRefusal}
use Rattle.ssm_stub.specs.Ears.{heard}
use Rattle.ssm_stub.specs.Turns.{none_asked, is_unasked, is_asked, turn_at, turn_after_asks, asks_after, wanted_of, wanted}
use Rattle.ssm_stub.specs.Runs.{Machine, fits, Fits, after}
use Rattle.ssm_stub.specs.Writes.{WriteState, put_lawful, holder_of, cause_of, missed_unless, write_answer, write_next, write_machine, hear_write}
use Rattle.ssm_stub.proofs.Places.{with_ear-there, turn_after_asks-stands}
use Rattle.ssm_stub.proofs.Unasked.{unasked_by, none_goes, some_parts, turn_place, asked_place}
use Rattle.ssm_stub.proofs.Patience.{Patient, had, had_first, one_patient, none_stored}

-- a run in two parts
pub fits_parts : {S : Type 0} (m : Machine S) (s : S) (first more : List Told) → Fits m s (first ++ more) → Fits m s first × Fits m (after m s first) more
fits_parts m s [] more h = (tt, h)
fits_parts m s (told ∷ first) more (fit, rest) =
    let parts = fits_parts m (m.hear s told) first more rest in
    ((fit, parts.0), parts.1)

-- no brick behind one that is still heard has stored the value
Late : List (Ask BrickNo WriteReply) → Type 0
Late [] = Unit {0}
Late (ask ∷ asks) = ((is_asked ask ≡ false) × Late asks) ⊎ (filter_map holder_of (ask ∷ asks) ≡ [])

none_late : (asks : List (Ask BrickNo WriteReply)) → filter_map holder_of asks ≡ [] → Late asks
unfolding Late
none_late [] h = tt
none_late (ask ∷ asks) h = inr h

option_append : {X : Type 0} (o : Option X) (xs ys : List X) → cons_option o xs ++ ys ≡ cons_option o (xs ++ ys)
option_append None xs ys = refl
option_append (Some x) xs ys = refl

open_holds_none : (who : BrickNo) (ear : Ear WriteReply) → is_asked (record { who = who; ear = ear }) ≡ true → holder_of (record { who = who; ear = ear }) ≡ None
open_holds_none who (Open stage) h = refl
open_holds_none who (Heard outcome) h = absurd cc

late_first : (y : Ask BrickNo WriteReply) (asks : List (Ask BrickNo WriteReply)) (still : Bool) → is_asked y ≡ still → filter_map holder_of asks ≡ [] → Late (y ∷ asks)
unfolding Late
late_first y asks true is none = inr (ap (λ o. cons_option o (filter_map holder_of asks)) (open_holds_none y.who y.ear is) ∙ none)
late_first y asks false is none = inl (is, none_late asks none)

-- Whoever is heard next comes behind all who stored the value.
record Later (asks : List (Ask BrickNo WriteReply)) (i : ℕ) (y : Ask BrickNo WriteReply) : Type 0 where
  late : Late (slice_set asks i y)
  holders : filter_map holder_of (slice_set asks i y) ≡ filter_map holder_of asks ++ cons_option (holder_of y) []

later : (asks : List (Ask BrickNo WriteReply)) (i : ℕ) (x y : Ask BrickNo WriteReply) → position is_asked asks ≡ Some i → slice_get asks i ≡ Some x → is_asked x ≡ true → Late asks → Later asks i y
unfolding Late
later [] zero x y found here is late = absurd cc
later [] (suc i) x y found here is late = absurd cc
later (a ∷ asks) zero x y found here is (inl (heard_already, rest)) = absurd (let same : a ≡ x = cc in let e : false ≡ true = sym heard_already ∙ (ap is_asked same ∙ is) in cc)
later (a ∷ asks) zero x y found here is (inr none) =
    let parts = had_first (holder_of a) (filter_map holder_of asks) none in
    record {
      late = late_first y asks (is_asked y) refl parts.1;
      holders = ap (cons_option (holder_of y)) parts.1 ∙ ap (λ hs. hs ++ cons_option (holder_of y) []) (sym none);
    }
later (a ∷ asks) (suc i) x y found here is late = elim (some_parts (is_asked a) (position is_asked asks) (suc i) (sym (position-cons is_asked a asks) ∙ found)) [
  | inl first ↦ absurd cc
  | inr (apart, j, behind, next) ↦
      let at : position is_asked asks ≡ Some i = behind ∙ (let e : j ≡ i = cc in ap (λ k. Some k) e) in
      let rest : Late asks = elim late [
        | inl (heard_already, rest) ↦ rest
        | inr none ↦ none_late asks (had_first (holder_of a) (filter_map holder_of asks) none).1
      ] in
      let more = later asks i x y at here is rest in
      record {
        late = inl (apart, more.late);
        holders = ap (cons_option (holder_of a)) more.holders ∙ sym (option_append (holder_of a) (filter_map holder_of asks) (cons_option (holder_of y) []));
      }
]

place_of : {W A : Type 0} (asks : List (Ask W A)) (place : Option ℕ) (t : Turn W) → option_and_then (turn_at asks) place ≡ Some t → place ≡ Some t.at
place_of asks None t h = absurd cc
place_of asks (Some at) t h = ap (λ k. Some k) (sym (turn_place asks at t h))

-- one that was asked has the turn where it is the first such
asked_turn : {W A : Type 0} (asks : List (Ask W A)) (t : Turn W) (n : ℕ) → turn_after_asks asks ≡ Some t → t.stage ≡ Asked n → position is_asked asks ≡ Some t.at
asked_turn asks t n h begun =
    let none = asked_place asks t n (position is_unasked asks) (position is_asked asks) refl h begun in
    sym (ap (λ o. option_or o (position is_asked asks)) none) ∙ place_of asks (option_or (position is_unasked asks) (position is_asked asks)) t h

-- What an event adds to those who stored the value comes behind them.
record Added (s : WriteState) (told : Told) : Type 0 where
  late : Late (hear_write s told).asks
  more : List Holder
  holders : filter_map holder_of (hear_write s told).asks ≡ filter_map holder_of s.asks ++ more

unasked_holds_none : (lawful : Frame → Option WriteReply) (who : BrickNo) (told : Told) → IsTrue (fits (wanted_of who Unasked) told) → holder_of (record { who = who; ear = heard lawful Unasked told }) ≡ None
unasked_holds_none lawful who Sent fit = refl
unasked_holds_none lawful who (Came frame) fit = absurd cc
unasked_holds_none lawful who NoneCame fit = refl

module _ (s : WriteState) (told : Told) (t : Turn BrickNo) (now : turn_after_asks s.asks ≡ Some t) where
  asks_are : (hear_write s told).asks ≡ slice_set s.asks t.at (record { who = t.who; ear = heard (put_lawful s.nonce s.key t.who) t.stage told })
  asks_are = ap (asks_after (put_lawful s.nonce s.key) told s.asks) now ∙ with_ear-there s.asks t.at (heard (put_lawful s.nonce s.key t.who) t.stage told) (record { who = t.who; ear = Open t.stage }) (turn_after_asks-stands s.asks t now)

  -- the send of an ask adds none
  send_adds : t.stage ≡ Unasked → IsTrue (fits (wanted_of t.who Unasked) told) → filter_map holder_of s.asks ≡ [] → filter_map holder_of (hear_write s told).asks ≡ []
  send_adds is fit none =
      let lawful = put_lawful s.nonce s.key t.who in
      let x : Ask BrickNo WriteReply = record { who = t.who; ear = Open t.stage } in
      let y : Ask BrickNo WriteReply = record { who = t.who; ear = heard lawful t.stage told } in
      let nothing : holder_of y ≡ None = ap (λ stage. holder_of (record { who = t.who; ear = heard lawful stage told })) is ∙ unasked_holds_none lawful t.who told fit in
      ap (filter_map holder_of) asks_are ∙ (none_goes holder_of s.asks t.at x y (turn_after_asks-stands s.asks t now) refl nothing ∙ none)

  added_by : (stage : Stage) → t.stage ≡ stage → IsTrue (fits (wanted_of t.who stage) told) → Patient s.asks → Late s.asks → Added s told
  unfolding Patient
  added_by Unasked is fit (inl none) late =
      absurd (had (λ (a : Ask BrickNo WriteReply). unasked_by a.who a.ear) s.asks t.at (record { who = t.who; ear = Open t.stage }) t.who (turn_after_asks-stands s.asks t now) (ap (λ e. unasked_by {A = WriteReply} t.who (Open e)) is) none)
  added_by Unasked is fit (inr none) late =
      let quiet = send_adds is fit none in
      record { late = none_late (hear_write s told).asks quiet; more = []; holders = quiet ∙ ap (λ hs. hs ++ []) (sym none) }
  added_by (Asked n) is fit patient late =
      let lawful = put_lawful s.nonce s.key in
      let x : Ask BrickNo WriteReply = record { who = t.who; ear = Open t.stage } in
      let y : Ask BrickNo WriteReply = record { who = t.who; ear = heard (lawful t.who) t.stage told } in
      let asked : is_asked x ≡ true = ap (λ e. is_asked {W = BrickNo} {A = WriteReply} (record { who = t.who; ear = Open e })) is in
      let l = later s.asks t.at x y (asked_turn s.asks t n now is) (turn_after_asks-stands s.asks t now) asked late in
      record {
        late = subst Late (sym asks_are) l.late;
        more = cons_option (holder_of y) [];
        holders = ap (filter_map holder_of) asks_are ∙ l.holders;
      }

added : (s : WriteState) (told : Told) (turn : Option (Turn BrickNo)) → turn_after_asks s.asks ≡ turn → IsTrue (fits (wanted (λ (b : BrickNo). b) turn) told) → Patient s.asks → Late s.asks → Added s told
added s told None now fit patient late = absurd cc
added s told (Some t) now fit patient late = added_by s told t now t.stage refl fit patient late

-- a write that still hears a brick has a cookie for its answer
answered_early : (enough : Bool) (made answer : Result Cookie WriteRefusal) (turn : Option (Turn BrickNo)) (causes : List BrickCause) (told : Told) → IsTrue (fits (wanted (λ (b : BrickNo). b) turn) told) → (if enough then Some made else missed_unless turn causes) ≡ Some answer → (enough ≡ true) × (made ≡ answer)
answered_early true made answer turn causes told fit h = (refl, cc)
answered_early false made answer (Some t) causes told fit h = absurd cc
answered_early false made answer None causes told fit h = absurd cc

-- the cookie of a write that these bricks have stored
cookie_of : WriteState → List Holder → Cookie
cookie_of s holders = record { key = s.key; version = s.nonce; expiry = s.expiry; bricks = take s.least holders }

enough_still : (least : ℕ) (holders more : List Holder) → nat_le least (length holders) ≡ true → nat_le least (length (holders ++ more)) ≡ true
enough_still least holders more h =
    let few = leb-true least (length holders) h in
    let e = length-append holders more in
    le-leb least (length (holders ++ more)) (omega arith)

answer_kept : (s : WriteState) (told : Told) (answer : Result Cookie WriteRefusal) → IsTrue (fits (write_next s) told) → (a : Added s told) → write_answer s ≡ Some answer → write_answer (hear_write s told) ≡ Some answer
unfolding cookie_of
answer_kept s told answer fit a h =
    let holders = filter_map holder_of s.asks in
    let now = filter_map holder_of (hear_write s told).asks in
    let was = answered_early (nat_le s.least (length holders)) (Ok (cookie_of s holders)) answer (turn_after_asks s.asks) (filter_map cause_of s.asks) told fit h in
    let few : s.least ≤ length holders = leb-true s.least (length holders) was.0 in
    let enough : nat_le s.least (length now) ≡ true = ap (λ hs. nat_le s.least (length hs)) a.holders ∙ enough_still s.least holders a.more was.0 in
    let same : take s.least now ≡ take s.least holders = ap (take s.least) a.holders ∙ take-append-le s.least holders a.more few in
    let cookie : List Holder → Option (Result Cookie WriteRefusal) = λ hs. Some (Ok (record { key = s.key; version = s.nonce; expiry = s.expiry; bricks = hs })) in
    ap (λ b. if b then Some (Ok (cookie_of s now)) else missed_unless (turn_after_asks (hear_write s told).asks) (filter_map cause_of (hear_write s told).asks)) enough
    ∙ (ap cookie same ∙ ap (λ r. Some r) was.1)

stays : (events : List Told) (s : WriteState) (answer : Result Cookie WriteRefusal) → Fits write_machine s events → Patient s.asks → Late s.asks → write_answer s ≡ Some answer → write_answer (after write_machine s events) ≡ Some answer
stays [] s answer fitting patient late h = h
stays (told ∷ events) s answer (fit, rest) patient late h =
    let a = added s told (turn_after_asks s.asks) refl fit patient late in
    stays events (hear_write s told) answer rest (one_patient told s fit patient) a.late (answer_kept s told answer fit a h)

reached : (events : List Told) (s : WriteState) → Fits write_machine s events → Patient s.asks → Late s.asks → Patient (after write_machine s events).asks × Late (after write_machine s events).asks
reached [] s fitting patient late = (patient, late)
reached (told ∷ events) s (fit, rest) patient late =
    reached events (hear_write s told) rest (one_patient told s fit patient) (added s told (turn_after_asks s.asks) refl fit patient late).late

-- once a write has an answer, it keeps it
pub answer_stays : (first more : List Told) (bricks : List BrickNo) (s : WriteState) (answer : Result Cookie WriteRefusal) → s.asks ≡ none_asked bricks → Fits write_machine s (first ++ more) → write_answer (after write_machine s first) ≡ Some answer → write_answer (after write_machine s (first ++ more)) ≡ Some answer
unfolding Patient
answer_stays first more bricks s answer begins fitting h =
    let parts = fits_parts write_machine s first more fitting in
    let none : filter_map holder_of s.asks ≡ [] = ap (filter_map holder_of) begins ∙ none_stored bricks in
    let there = reached first s parts.0 (inr none) (none_late s.asks none) in
    ap write_answer (fold-append write_machine.hear s first more) ∙ stays more (after write_machine s first) answer parts.1 there.0 there.1 h
