-- A write stores nothing before it has asked all its bricks, and sends nothing after its answer.
use Rattle.std.proofs.Common.{arith, ◌≡◌, ◌∙◌, ap, sym, refl, inl, inr, ◌⊎◌, ℕ, zero, suc, ◌+◌, ◌-◌, ◌≤◌, nat_lt, Bool, true, false, IsTrue, nat_le, if◌then◌else◌, List, [], ◌∷◌, length, map, take, filter_map, Option, Some, None, Result, Ok, slice_get}
use Rattle.std.proofs.lemmas.Bool.{leb-true}
use Rattle.std.specs.List.{cons_option}
use Rattle.std.specs.Option.{option_and_then}
use Rattle.crash_base.specs.declared.numbers.BrickNo.{BrickNo}
use Rattle.crash_base.specs.declared.numbers.Moment.{Moment}
use Rattle.crash_base.specs.declared.numbers.SessionKey.{SessionKey}
use Rattle.crash_base.specs.declared.numbers.Version.{Version}
use Rattle.session_cookie.specs.declared.cookie.Cookie.{Cookie}
use Rattle.session_cookie.specs.declared.cookie.Holder.{Holder}
use Rattle.ssm_frames.specs.declared.frame.Frame.{Frame}
use Rattle.ssm_stub.specs.declared.cause.BrickCause.{BrickCause}
use Rattle.ssm_stub.specs.declared.ear.TheConstants.{MAX_STRAYS}
use Rattle.ssm_stub.specs.declared.ear.Stage.{Stage}
use Rattle.ssm_stub.specs.declared.ear.Stage.TheVariants.{Unasked, Asked}
use Rattle.ssm_stub.specs.declared.ear.Outcome.TheVariants.{Silent, Strayed}
use Rattle.ssm_stub.specs.declared.ear.Ear.TheVariants.{Open, Heard}
use Rattle.ssm_stub.specs.declared.event.StubNext.TheVariants.{Ended, Send}
use Rattle.ssm_stub.specs.declared.event.Told.{Told}
use Rattle.ssm_stub.specs.declared.event.Told.TheVariants as told
use Rattle.ssm_stub.specs.declared.ask.Ask.{Ask}
use Rattle.ssm_stub.specs.declared.ask.Turn.{Turn}
use Rattle.ssm_stub.specs.declared.reply.WriteReply.{WriteReply}
use Rattle.ssm_stub.specs.declared.write_call.WriteRefusal.{WriteRefusal}
use Rattle.ssm_stub.specs.Ears.{after_frame, heard}
use Rattle.ssm_stub.specs.Turns.{none_asked, turn_after_asks, with_ear, asks_after, wanted_of, wanted}
use Rattle.ssm_stub.specs.Runs.{fits, Fits, after}
use Rattle.ssm_stub.specs.Writes.{WriteState, put_lawful, holder_of, cause_of, missed_unless, write_start, write_answer, write_next, write_machine, hear_write}
use Rattle.ssm_stub.proofs.Places.{with_ear-there, turn_after_asks-stands}
use Rattle.ssm_stub.proofs.Searching.{all_heard}
use Rattle.ssm_stub.proofs.Unasked.{unasked_by, unasked_in, none_goes, none_have, all_asked, heard_none, all_unasked}

-- the bricks of a write that were not asked
abbrev pub left_of : List (Ask BrickNo WriteReply) → List BrickNo
left_of asks = unasked_in (λ (b : BrickNo). b) asks

-- a frame does not make a brick unasked
stray_asked : (A : Type 0) (brick : BrickNo) (n : ℕ) (more : Bool) → unasked_by {A = A} brick (if more then Open (Asked (n + 1)) else Heard Strayed) ≡ None
stray_asked A brick n true = refl
stray_asked A brick n false = refl

pub frame_asked : {A : Type 0} (brick : BrickNo) (n : ℕ) (reply : Option A) → unasked_by brick (after_frame (Asked n) reply) ≡ None
frame_asked brick n (Some reply) = refl
frame_asked {A} brick n None = stray_asked A brick n (nat_lt n (MAX_STRAYS - 1))

-- while some brick is to be asked none stored the value
unfoldable pub Patient : List (Ask BrickNo WriteReply) → Type 0
Patient asks = (left_of asks ≡ []) ⊎ (filter_map holder_of asks ≡ [])

module _ (lawful : BrickNo → Frame → Option WriteReply) (asks : List (Ask BrickNo WriteReply)) where
  patient_by : (told : Told) (at : ℕ) (who : BrickNo) (stage : Stage) → slice_get asks at ≡ Some (record { who = who; ear = Open stage })
      → ((n : ℕ) → stage ≡ Asked n → left_of asks ≡ []) → filter_map holder_of asks ≡ [] → IsTrue (fits (wanted_of who stage) told)
      → (left_of asks ≡ []) ⊎ (filter_map holder_of (with_ear asks at (heard (lawful who) stage told)) ≡ [])
  patient_by told.Sent at who Unasked stands all none fit =
      let x : Ask BrickNo WriteReply = record { who = who; ear = Open Unasked } in
      let y : Ask BrickNo WriteReply = record { who = who; ear = Open (Asked 0) } in
      inr (ap (filter_map holder_of) (with_ear-there asks at (Open (Asked 0)) x stands) ∙ (none_goes holder_of asks at x y stands refl refl ∙ none))
  patient_by (told.Came frame) at who Unasked stands all none fit = absurd cc
  patient_by told.Silent at who Unasked stands all none fit =
      let x : Ask BrickNo WriteReply = record { who = who; ear = Open Unasked } in
      let y : Ask BrickNo WriteReply = record { who = who; ear = Heard Silent } in
      inr (ap (filter_map holder_of) (with_ear-there asks at (Heard Silent) x stands) ∙ (none_goes holder_of asks at x y stands refl refl ∙ none))
  patient_by told at who (Asked n) stands all none fit = inl (all n refl)

  patient_turn : (told : Told) (turn : Option (Turn BrickNo)) → turn_after_asks asks ≡ turn → filter_map holder_of asks ≡ [] → IsTrue (fits (wanted (λ (b : BrickNo). b) turn) told)
      → (left_of asks ≡ []) ⊎ (filter_map holder_of (asks_after lawful told asks turn) ≡ [])
  patient_turn told None is none fit = absurd cc
  patient_turn told (Some t) is none fit =
      patient_by told t.at t.who t.stage (turn_after_asks-stands asks t is) (λ n begun. all_asked (λ (b : BrickNo). b) asks t n is begun) none fit

pub had_first : {Y : Type 0} (o : Option Y) (ys : List Y) → cons_option o ys ≡ [] → (o ≡ None) × (ys ≡ [])
had_first None ys h = (refl, h)
had_first (Some y) ys h = absurd cc

-- where none has an image, this one has none
pub had : {X Y : Type 0} (h : X → Option Y) (xs : List X) (i : ℕ) (x : X) (y : Y) → slice_get xs i ≡ Some x → h x ≡ Some y → filter_map h xs ≡ [] → ⊥
had h [] zero x y here is none = cc
had h [] (suc i) x y here is none = cc
had h (z ∷ zs) zero x y here is none = (let same : z ≡ x = cc in let e : None ≡ Some y = sym (had_first (h z) (filter_map h zs) none).0 ∙ (ap h same ∙ is) in cc)
had h (z ∷ zs) (suc i) x y here is none = had h zs i x y here is (had_first (h z) (filter_map h zs) none).1

-- a brick that was asked stays so
asked_stays : {A : Type 0} (lawful : Frame → Option A) (brick : BrickNo) (n : ℕ) (told : Told) → unasked_by brick (heard lawful (Asked n) told) ≡ None
asked_stays lawful brick n told.Sent = refl
asked_stays lawful brick n (told.Came frame) = frame_asked brick n (option_and_then lawful frame)
asked_stays lawful brick n told.Silent = refl

still_by : (s : WriteState) (told : Told) (at : ℕ) (who : BrickNo) (stage : Stage) → slice_get s.asks at ≡ Some (record { who = who; ear = Open stage }) → left_of s.asks ≡ [] → left_of (with_ear s.asks at (heard (put_lawful s.nonce s.key who) stage told)) ≡ []
still_by s told at who Unasked stands none = absurd (had (λ (a : Ask BrickNo WriteReply). unasked_by a.who a.ear) s.asks at (record { who = who; ear = Open Unasked }) who stands refl none)
still_by s told at who (Asked n) stands none =
    let lawful = put_lawful s.nonce s.key who in
    let x : Ask BrickNo WriteReply = record { who = who; ear = Open (Asked n) } in
    let y : Ask BrickNo WriteReply = record { who = who; ear = heard lawful (Asked n) told } in
    ap left_of (with_ear-there s.asks at (heard lawful (Asked n) told) x stands)
    ∙ (none_goes (λ (a : Ask BrickNo WriteReply). unasked_by a.who a.ear) s.asks at x y stands refl (asked_stays lawful who n told) ∙ none)

still_turn : (s : WriteState) (told : Told) (turn : Option (Turn BrickNo)) → turn_after_asks s.asks ≡ turn → left_of s.asks ≡ [] → left_of (asks_after (put_lawful s.nonce s.key) told s.asks turn) ≡ []
still_turn s told None is none = none
still_turn s told (Some t) is none = still_by s told t.at t.who t.stage (turn_after_asks-stands s.asks t is) none

-- where none is left to be asked, none is after an event
pub still_none : (told : Told) (s : WriteState) → left_of s.asks ≡ [] → left_of (hear_write s told).asks ≡ []
still_none told s none = still_turn s told (turn_after_asks s.asks) refl none

-- an event leaves it so
pub one_patient : (told : Told) (s : WriteState) → IsTrue (fits (write_next s) told) → Patient s.asks → Patient (hear_write s told).asks
unfolding Patient
one_patient told s fit (inl none) = inl (still_none told s none)
one_patient told s fit (inr none) = elim (patient_turn (put_lawful s.nonce s.key) s.asks told (turn_after_asks s.asks) refl none fit) [
  | inl all ↦ inl (still_none told s all)
  | inr later ↦ inr later
]

-- a run leaves it so
pub stays_patient : (events : List Told) (s : WriteState) → Fits write_machine s events → Patient s.asks → Patient (after write_machine s events).asks
stays_patient [] s fitting h = h
stays_patient (told ∷ events) s (fit, rest) h = stays_patient events (hear_write s told) rest (one_patient told s fit h)

pub none_stored : (bricks : List BrickNo) → filter_map holder_of (none_asked bricks) ≡ []
none_stored [] = refl
none_stored (brick ∷ bricks) = none_stored bricks

-- where it is nobody's turn, none is left
pub none_left : (asks : List (Ask BrickNo WriteReply)) → turn_after_asks asks ≡ None → left_of asks ≡ []
none_left asks h = none_have (λ (a : Ask BrickNo WriteReply). unasked_by a.who a.ear) asks (λ i a here. heard_none a.who a.who a.ear (all_heard asks h i a here))

answered_by : (least : ℕ) (holders : List Holder) (enough : Bool) (made answer : Result Cookie WriteRefusal) (turn : Option (Turn BrickNo)) (causes : List BrickCause) → 1 ≤ least → holders ≡ [] → nat_le least (length holders) ≡ enough → (if enough then Some made else missed_unless turn causes) ≡ Some answer → turn ≡ None
answered_by least holders true made answer turn causes some none enough h =
    let many = leb-true least (length holders) enough in
    let no : length holders ≡ 0 = ap length none in
    absurd (omega arith)
answered_by least holders false made answer None causes some none enough h = refl
answered_by least holders false made answer (Some t) causes some none enough h = absurd cc

-- a write that has an answer has asked all its bricks
pub answered_all : (s : WriteState) (answer : Result Cookie WriteRefusal) → 1 ≤ s.least → Patient s.asks → write_answer s ≡ Some answer → left_of s.asks ≡ []
unfolding Patient
answered_all s answer some (inl none) h = none
answered_all s answer some (inr none) h =
    let holders = filter_map holder_of s.asks in
    none_left s.asks (answered_by s.least holders (nat_le s.least (length holders)) (Ok (record { key = s.key; version = s.nonce; expiry = s.expiry; bricks = take s.least holders })) answer (turn_after_asks s.asks) (filter_map cause_of s.asks) some none refl h)

goes_on : (brick : BrickNo) (stage : Stage) → wanted_of brick stage ≡ Ended → ⊥
goes_on brick Unasked h = cc
goes_on brick (Asked strays) h = cc

pub wanted-ended : (turn : Option (Turn BrickNo)) → wanted (λ (b : BrickNo). b) turn ≡ Ended → turn ≡ None
wanted-ended None h = refl
wanted-ended (Some t) h = absurd (goes_on t.who t.stage h)

pub map_id : {X : Type 0} (xs : List X) → map (λ (x : X). x) xs ≡ xs
map_id [] = refl
map_id (x ∷ xs) = ap (λ rest. x ∷ rest) (map_id xs)

pub all_bricks : (bricks : List BrickNo) → left_of (none_asked bricks) ≡ bricks
all_bricks bricks = all_unasked WriteReply (λ (b : BrickNo). b) bricks ∙ map_id bricks

pub keeps_least : (events : List Told) (s : WriteState) → (after write_machine s events).least ≡ s.least
keeps_least [] s = refl
keeps_least (told ∷ events) s = keeps_least events (hear_write s told)

-- where a write has its answer, none of its bricks is unasked
pub answered_none_left : (events : List Told) (bricks : List BrickNo) (least : ℕ) (nonce : Version) (key : SessionKey) (value : List ℕ) (expiry : Moment) → Fits write_machine (write_start bricks least nonce key value expiry) events
    → (answer : Result Cookie WriteRefusal) → 1 ≤ least → write_answer (after write_machine (write_start bricks least nonce key value expiry) events) ≡ Some answer
    → (i : ℕ) (a : Ask BrickNo WriteReply) → slice_get (after write_machine (write_start bricks least nonce key value expiry) events).asks i ≡ Some a → a.ear ≡ Open Unasked → ⊥
unfolding Patient
answered_none_left events bricks least nonce key value expiry fitting answer some h i a here ear =
    let s = write_start bricks least nonce key value expiry in
    let e = after write_machine s events in
    let many : 1 ≤ e.least = (let same = keeps_least events s in omega arith) in
    let none = answered_all e answer many (stays_patient events s fitting (inr (none_stored bricks))) h in
    had (λ (x : Ask BrickNo WriteReply). unasked_by x.who x.ear) e.asks i a a.who here (ap (unasked_by a.who) ear) none

fresh_sends : (brick to : BrickNo) (stage : Stage) → wanted_of to stage ≡ Send brick → stage ≡ Unasked
fresh_sends brick to Unasked h = refl
fresh_sends brick to (Asked strays) h = absurd cc

-- a write that has an answer sends nothing more
pub sends_nothing : (events : List Told) (bricks : List BrickNo) (s : WriteState) (answer : Result Cookie WriteRefusal) → s.asks ≡ none_asked bricks → 1 ≤ s.least → Fits write_machine s events → write_answer (after write_machine s events) ≡ Some answer
    → (brick : BrickNo) → write_next (after write_machine s events) ≡ Send brick → ⊥
unfolding Patient
sends_nothing events bricks s answer begins some fitting h brick sends = go (turn_after_asks e.asks) refl sends
  where
    e : WriteState
    e = after write_machine s events

    none : left_of e.asks ≡ []
    none = answered_all e answer (let same = keeps_least events s in omega (arith, some)) (stays_patient events s fitting (inr (ap (filter_map holder_of) begins ∙ none_stored bricks))) h

    go : (turn : Option (Turn BrickNo)) → turn_after_asks e.asks ≡ turn → wanted (λ (b : BrickNo). b) turn ≡ Send brick → ⊥
    go None is now = cc
    go (Some t) is now =
        had (λ (x : Ask BrickNo WriteReply). unasked_by x.who x.ear) e.asks t.at (record { who = t.who; ear = Open t.stage }) t.who (turn_after_asks-stands e.asks t is) (ap (λ stage. unasked_by {A = WriteReply} t.who (Open stage)) (fresh_sends brick t.who t.stage now)) none
