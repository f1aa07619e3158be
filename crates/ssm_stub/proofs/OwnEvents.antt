-- Each brick hears just the events of the steps that are wanted of it.
use Rattle.std.proofs.Common.{arith, ◌≡◌, ◌∙◌, ap, sym, refl, subst, inl, inr, ℕ, ◌<◌, ◌==◌, Bool, true, false, IsTrue, if◌then◌else◌, List, [], ◌∷◌, length, Option, Some, None, slice_set, slice_get}
use Rattle.std.specs.Prelude.{option_map}
use Rattle.std.proofs.lemmas.Bool.{cases_eq, eqb-true, eq-eqb}
use Rattle.std.proofs.lemmas.List.{get_or-set_other, length-set}
use Rattle.std.proofs.lemmas.Option.{slice_get-map, slice_get-get_or, slice_get_within, get_or_from_slice_get}
use Rattle.crash_base.specs.declared.numbers.BrickNo.{BrickNo}
use Rattle.session_cookie.specs.declared.cookie.Holder.{Holder}
use Rattle.ssm_frames.specs.declared.frame.Frame.{Frame}
use Rattle.ssm_stub.specs.declared.ear.Stage.{Stage}
use Rattle.ssm_stub.specs.declared.ear.Stage.TheVariants.{Unasked, Asked}
use Rattle.ssm_stub.specs.declared.ear.Ear.{Ear}
use Rattle.ssm_stub.specs.declared.ear.Ear.TheVariants.{Open}
use Rattle.ssm_stub.specs.declared.event.Told.{Told}
use Rattle.ssm_stub.specs.declared.event.StubNext.{StubNext}
use Rattle.ssm_stub.specs.declared.ask.Ask.{Ask}
use Rattle.ssm_stub.specs.declared.ask.Turn.{Turn}
use Rattle.ssm_stub.specs.declared.reply.ReadReply.{ReadReply}
use Rattle.ssm_stub.specs.declared.reply.WriteReply.{WriteReply}
use Rattle.ssm_stub.specs.Ears.{heard, heard_on}
use Rattle.ssm_stub.specs.Turns.{asks_after, wanted_of, wanted, turn_after_asks}
use Rattle.ssm_stub.specs.Runs.{Machine, fits, Fits, after}
use Rattle.ssm_stub.specs.Writes.{WriteState, put_lawful, write_machine}
use Rattle.ssm_stub.specs.Reads.{ReadState, get_lawful, turn_of_read, read_machine}
use Rattle.ssm_stub.specs.Hearing.{AllDiffer, ear_next, numbers, is_of, told_to, Own, OwnAt}
use Rattle.ssm_stub.proofs.Places.{with_ear-there, slice_get-set, turn_after_asks-stands, turn_of_read-stands}
use Rattle.ssm_stub.proofs.Concluding.{asks_after-keeps}

-- A machine whose states have asks, of which each event is told the one whose turn it is.
pub record Asking {S W A : Type 0} (m : Machine S) (asks : S → List (Ask W A)) (brick_of : W → BrickNo) (lawful : S → W → Frame → Option A) (turn : S → Option (Turn W)) : Type 0 where
  pub next_is : (s : S) → m.next s ≡ wanted brick_of (turn s)
  pub hear_is : (s : S) (told : Told) → asks (m.hear s told) ≡ asks_after (lawful s) told (asks s) (turn s)
  pub lawful_is : (s : S) (told : Told) → lawful (m.hear s told) ≡ lawful s
  pub stands : (s : S) (t : Turn W) → turn s ≡ Some t → slice_get (asks s) t.at ≡ Some (record { who = t.who; ear = Open t.stage })

same_number : (n : ℕ) → (n == n) ≡ true
same_number n = eq-eqb n n refl

other_number : (k n : ℕ) (b : Bool) → (k == n) ≡ b → (k ≡ n → ⊥) → b ≡ false
other_number k n true h differ = absurd (differ (eqb-true k n h))
other_number k n false h differ = refl

-- a step that is wanted of a brick is of this brick
of-own : (brick : BrickNo) (stage : Stage) → is_of brick (wanted_of brick stage) ≡ true
of-own brick Unasked = same_number brick.0
of-own brick (Asked strays) = same_number brick.0

of-other : (brick other : BrickNo) (stage : Stage) → (brick.0 ≡ other.0 → ⊥) → is_of other (wanted_of brick stage) ≡ false
of-other brick other Unasked differ = other_number brick.0 other.0 (brick.0 == other.0) refl differ
of-other brick other (Asked strays) differ = other_number brick.0 other.0 (brick.0 == other.0) refl differ

slice_get-set_other : {X : Type 0} (xs : List X) (i j : ℕ) (x y : X) → (i ≡ j → ⊥) → slice_get xs j ≡ Some y → slice_get (slice_set xs i x) j ≡ Some y
slice_get-set_other xs i j x y differ here =
    let within = slice_get_within xs j y here in
    let long : j < length (slice_set xs i x) = let e = length-set xs i x in omega arith in
    slice_get-get_or (slice_set xs i x) j y long
    ∙ ap (λ z. Some z) (get_or-set_other xs i j x y (λ e. differ (sym e)) ∙ get_or_from_slice_get xs j y y here)

-- what is heard of a brick after a step that is its own or not
heard_if : {A : Type 0} → (Frame → Option A) → Bool → Ear A → Told → Ear A
heard_if lawful mine ear told = if mine then heard_on lawful ear told else ear

-- What an event, which it is told whose turn it is, makes of the ask at a place.
record Step {W A : Type 0} (brick_of : W → BrickNo) (lawful : W → Frame → Option A) (asks : List (Ask W A)) (next : StubNext) (told : Told) (i : ℕ) (a : Ask W A) : Type 0 where
  mine : Bool
  is_mine : is_of (brick_of a.who) next ≡ mine
  fitting : mine ≡ true → IsTrue (fits (ear_next (brick_of a.who) a.ear) told)
  here : slice_get asks i ≡ Some (record a { ear = heard_if (lawful a.who) mine a.ear told })

own_turn : {W A : Type 0} (brick_of : W → BrickNo) (lawful : W → Frame → Option A) (told : Told) (asks : List (Ask W A)) (t : Turn W) → slice_get asks t.at ≡ Some (record { who = t.who; ear = Open t.stage }) → IsTrue (fits (wanted_of (brick_of t.who) t.stage) told) → Step brick_of lawful (asks_after lawful told asks (Some t)) (wanted_of (brick_of t.who) t.stage) told t.at (record { who = t.who; ear = Open t.stage })
unfolding heard_if
own_turn {W} {A} brick_of lawful told asks t stands fitting =
    let a : Ask W A = record { who = t.who; ear = Open t.stage } in
    let ear : Ear A = heard (lawful t.who) t.stage told in
    record {
      mine = true;
      is_mine = of-own (brick_of t.who) t.stage;
      fitting = λ h. fitting;
      here = ap (λ xs. slice_get xs t.at) (with_ear-there asks t.at ear a stands) ∙ slice_get-set asks t.at (record a { ear = ear }) (slice_get_within asks t.at a stands);
    }

other_turn : {W A : Type 0} (brick_of : W → BrickNo) (lawful : W → Frame → Option A) (told : Told) (asks : List (Ask W A)) (t : Turn W) (i : ℕ) (a : Ask W A) → slice_get asks t.at ≡ Some (record { who = t.who; ear = Open t.stage }) → slice_get asks i ≡ Some a → (t.at ≡ i → ⊥) → ((brick_of t.who).0 ≡ (brick_of a.who).0 → ⊥) → Step brick_of lawful (asks_after lawful told asks (Some t)) (wanted_of (brick_of t.who) t.stage) told i a
unfolding heard_if
other_turn {W} {A} brick_of lawful told asks t i a stands here apart differ =
    let b : Ask W A = record { who = t.who; ear = Open t.stage } in
    let ear : Ear A = heard (lawful t.who) t.stage told in
    record {
      mine = false;
      is_mine = of-other (brick_of t.who) (brick_of a.who) t.stage differ;
      fitting = λ h. absurd cc;
      here = ap (λ xs. slice_get xs i) (with_ear-there asks t.at ear b stands) ∙ slice_get-set_other asks t.at i (record b { ear = ear }) a apart here;
    }

numbers-at : {W A : Type 0} (brick_of : W → BrickNo) (asks : List (Ask W A)) (i : ℕ) (a : Ask W A) → slice_get asks i ≡ Some a → slice_get (numbers brick_of asks) i ≡ Some (brick_of a.who).0
numbers-at {W} {A} brick_of asks i a here =
    let f : Ask W A → ℕ = λ b. (brick_of b.who).0 in
    slice_get-map f asks i ∙ ap (option_map f) here

step : {W A : Type 0} (brick_of : W → BrickNo) (lawful : W → Frame → Option A) (told : Told) (asks : List (Ask W A)) (turn : Option (Turn W)) (i : ℕ) (a : Ask W A) → ((t : Turn W) → turn ≡ Some t → slice_get asks t.at ≡ Some (record { who = t.who; ear = Open t.stage })) → IsTrue (fits (wanted brick_of turn) told) → AllDiffer (numbers brick_of asks) → slice_get asks i ≡ Some a → Step brick_of lawful (asks_after lawful told asks turn) (wanted brick_of turn) told i a
step brick_of lawful told asks None i a stands fitting differ here = absurd cc
step {W} {A} brick_of lawful told asks (Some t) i a stands fitting differ here =
    let there = stands t refl in
    elim (cases_eq t.at i) [
      | inl same ↦
          let same_ask : record { who = t.who; ear = Open t.stage } ≡ a = (let o : Some (record { who = t.who; ear = Open t.stage }) ≡ Some a = sym there ∙ (ap (slice_get asks) same ∙ here) in cc) in
          let P : ℕ → Ask W A → Type 0 = λ k b. Step brick_of lawful (asks_after lawful told asks (Some t)) (wanted_of (brick_of t.who) t.stage) told k b in
          subst (λ b. P i b) same_ask (subst (λ k. P k (record { who = t.who; ear = Open t.stage })) same (own_turn brick_of lawful told asks t there fitting))
      | inr apart ↦
          other_turn brick_of lawful told asks t i a there here apart
          (λ e. apart (differ t.at i (brick_of a.who).0 (numbers-at brick_of asks t.at (record { who = t.who; ear = Open t.stage }) there ∙ ap (λ n. Some n) e) (numbers-at brick_of asks i a here)))
    ]

-- an event before others
joined : {A : Type 0} (brick : BrickNo) (lawful : Frame → Option A) (mine : Bool) (ear end : Ear A) (told : Told) (rest : List Told) → (mine ≡ true → IsTrue (fits (ear_next brick ear) told)) → Own lawful brick (heard_if lawful mine ear told) end rest → Own lawful brick ear end (if mine then told ∷ rest else rest)
unfolding heard_if
joined brick lawful true ear end told rest fitting own = record { fitting = (fitting refl, own.fitting); ends = own.ends }
joined brick lawful false ear end told rest fitting own = own

pub own_events : {S W A : Type 0} (m : Machine S) (asks : S → List (Ask W A)) (brick_of : W → BrickNo) (lawful : S → W → Frame → Option A) (turn : S → Option (Turn W)) → Asking m asks brick_of lawful turn → (events : List Told) (s : S) (i : ℕ) (a : Ask W A) → AllDiffer (numbers brick_of (asks s)) → Fits m s events → slice_get (asks s) i ≡ Some a → OwnAt brick_of (lawful s) (asks (after m s events)) (told_to m s events) i a
own_events m asks brick_of lawful turn is [] s i a differ fitting here = record { end = a.ear; here = here; own = record { fitting = tt; ends = refl } }
own_events {S} {W} {A} m asks brick_of lawful turn is (told ∷ events) s i a differ (fitting, rest) here =
    let brick = brick_of a.who in
    let FitsNext : StubNext → Type 0 = λ next. IsTrue (fits next told) in
    let st : Step brick_of (lawful s) (asks_after (lawful s) told (asks s) (turn s)) (wanted brick_of (turn s)) told i a = step brick_of (lawful s) told (asks s) (turn s) i a (is.stands s) (subst FitsNext (is.next_is s) fitting) differ here in
    let a' : Ask W A = record a { ear = heard_if (lawful s a.who) st.mine a.ear told } in
    let here' : slice_get (asks (m.hear s told)) i ≡ Some a' = ap (λ xs. slice_get xs i) (is.hear_is s told) ∙ st.here in
    let number : W → ℕ = λ w. (brick_of w).0 in
    let same_numbers : numbers brick_of (asks s) ≡ numbers brick_of (asks (m.hear s told)) = sym (ap (numbers brick_of) (is.hear_is s told) ∙ asks_after-keeps number (lawful s) told (asks s) (turn s)) in
    let later : OwnAt brick_of (lawful (m.hear s told)) (asks (after m (m.hear s told) events)) (told_to m (m.hear s told) events) i a' = own_events m asks brick_of lawful turn is events (m.hear s told) i a' (subst AllDiffer same_numbers differ) rest here' in
    let J : (W → Frame → Option A) → Type 0 = λ j. OwnAt brick_of j (asks (after m (m.hear s told) events)) (told_to m (m.hear s told) events) i a' in
    let same : OwnAt brick_of (lawful s) (asks (after m (m.hear s told) events)) (told_to m (m.hear s told) events) i a' = subst J (is.lawful_is s told) later in
    let more : List Told = told_to m (m.hear s told) events brick in
    let is_mine : is_of brick (m.next s) ≡ st.mine = ap (is_of brick) (is.next_is s) ∙ st.is_mine in
    let C : Bool → Type 0 = λ mine. Own (lawful s a.who) brick a.ear same.end (if mine then told ∷ more else more) in
    record {
      end = same.end;
      here = same.here;
      own = subst C (sym is_mine) (joined brick (lawful s a.who) st.mine a.ear same.end told more st.fitting same.own);
    }

-- writes and reads are such machines
pub write_asking : Asking write_machine (λ (s : WriteState). s.asks) (λ (brick : BrickNo). brick) (λ (s : WriteState). put_lawful s.nonce s.key) (λ (s : WriteState). turn_after_asks s.asks)
write_asking = record { next_is = λ s. refl; hear_is = λ s told. refl; lawful_is = λ s told. refl; stands = λ s t h. turn_after_asks-stands s.asks t h }

pub read_asking : Asking read_machine (λ (s : ReadState). s.asks) (λ (holder : Holder). holder.brick) (λ (s : ReadState). get_lawful s.nonce s.key s.version s.expiry) turn_of_read
read_asking = record { next_is = λ s. refl; hear_is = λ s told. refl; lawful_is = λ s told. refl; stands = turn_of_read-stands }

pub write-own : (events : List Told) (s : WriteState) (i : ℕ) (a : Ask BrickNo WriteReply) → AllDiffer (numbers (λ (brick : BrickNo). brick) s.asks) → Fits write_machine s events → slice_get s.asks i ≡ Some a → OwnAt (λ (brick : BrickNo). brick) (put_lawful s.nonce s.key) (after write_machine s events).asks (told_to write_machine s events) i a
write-own events s i a differ fitting here = own_events write_machine (λ (s : WriteState). s.asks) (λ (brick : BrickNo). brick) (λ (s : WriteState). put_lawful s.nonce s.key) (λ (s : WriteState). turn_after_asks s.asks) write_asking events s i a differ fitting here

pub read-own : (events : List Told) (s : ReadState) (i : ℕ) (a : Ask Holder ReadReply) → AllDiffer (numbers (λ (holder : Holder). holder.brick) s.asks) → Fits read_machine s events → slice_get s.asks i ≡ Some a → OwnAt (λ (holder : Holder). holder.brick) (get_lawful s.nonce s.key s.version s.expiry) (after read_machine s events).asks (told_to read_machine s events) i a
read-own events s i a differ fitting here = own_events read_machine (λ (s : ReadState). s.asks) (λ (holder : Holder). holder.brick) (λ (s : ReadState). get_lawful s.nonce s.key s.version s.expiry) turn_of_read read_asking events s i a differ fitting here
