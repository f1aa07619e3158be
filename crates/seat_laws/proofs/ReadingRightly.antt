-- What a seat that stands reads of its session was written.
use Rattle.std.proofs.Common.{◌≡◌, ◌⊎◌, inl, inr, ◌∙◌, ◌≤◌, ℕ, List, [], ◌++◌, length, Option, Some, None, Result, refl, sym, ap, subst, ◌∷◌, map, Ok, Err, arith}
use Rattle.std.specs.Prelude.{slice_get}
use Rattle.auction_calls.specs.declared.action.ActionCall.{ActionCall}
use Rattle.lane_link.specs.Twins.{ByEvents, IsTwin, call_held}
use Rattle.lane_link.specs.declared.link.LaneLink.{LaneLink}
use Rattle.brick_store.specs.declared.kept.Kept.{Kept}
use Rattle.crash_base.specs.declared.numbers.BrickNo.{BrickNo}
use Rattle.session_cookie.specs.declared.cookie.Cookie.{Cookie}
use Rattle.session_cookie.specs.declared.cookie.Holder.{Holder}
use Rattle.ssm_frames.specs.declared.frame.Frame.TheVariants.{Put}
use Rattle.ssm_stub.specs.Writes.{WriteState, write_answer}
use Rattle.ssm_stub.specs.declared.cause.BrickCause.{BrickCause}
use Rattle.ssm_stub.specs.declared.event.Told.{Told}
use Rattle.session_lanes.specs.Lanes.{LanesState}
use Rattle.session_lanes.specs.Sound.{LanesAreSound}
use Rattle.session_way.specs.Reading.{answer_of_read, cookie_asked}
use Rattle.session_way.specs.Way.{answer_held}
use Rattle.session_way.specs.declared.session_read.ReadOutcome.{ReadOutcome}
use Rattle.session_way.specs.declared.session_read.ReadOutcome.TheVariants as read
use Rattle.session_way.specs.declared.way.SessionWay.{SessionWay}
use Rattle.session_way.specs.declared.way.SessionWay.TheVariants as way
use Rattle.shepherd.specs.Shepherds.{turn}
use Rattle.shepherd.specs.declared.shepherd.Stage.{Stage}
use Rattle.shepherd_steps.specs.Alone.{gone_alone}
use Rattle.shepherd_steps.specs.Stepping.{World, event_at, step}
use Rattle.ssm_stub.specs.Reads.{ReadState, read_answer}
use Rattle.ssm_stub.specs.declared.read_call.ReadRefusal.{ReadRefusal}
use Rattle.ssm_stub.specs.declared.write_call.WriteRefusal.TheVariants.{Missed}
use Rattle.ssm_world.specs.Claims.{AreLost, IsAcknowledged, IsRight, ReadAfter, ReadOrder, WasMissed, kept_for, read_world, told_since}
use Rattle.ssm_world.specs.Sound.{IsSound, WriteIsSound}
use Rattle.ssm_world.specs.Worlds.{IsMade, WorldValue, after, bricks_of, new_world}
use Rattle.ssm_world.specs.declared.call.Call.{Call}
use Rattle.ssm_world.specs.declared.call.Call.TheVariants as call
use Rattle.ssm_world.specs.declared.event.WorldEvent.{WorldEvent}
use Rattle.seat_steps.specs.Replies.{SeatHears}
use Rattle.seat_steps.specs.Seats.{SeatGivens, SeatWorld, givens_in, making_by, seat_step, seen_by}
use Rattle.seat_steps.specs.Twinned.{value_put, twinned, twinned_by, way_in}
use Rattle.seat_steps.specs.declared.seat.Seat.{Seat}
use Rattle.seat_laws.proofs.Assembling.{BeginLaws, by-events}
use Rattle.seat_laws.proofs.HearingReads.{HasRead, Waits, outcome-answers, step-ends, under-way}
use Rattle.seat_laws.proofs.Moving.{MoveLaws, Moves, events-on, moves-events, same-world}
use Rattle.seat_laws.proofs.ReadBegins.{ReadBegan, after-on, calls-rise, read-began}
use Rattle.seat_laws.proofs.Twinning.{EventLaws, Moved, Twinnable, event-moved}
use Rattle.seat_laws.specs.Reads.{IsFoundOrLost, MissedFor, ReadsRightly, ReadsSince, order_of, read_heard, read_under_way, value_written}
use Rattle.seat_laws.specs.Standing.{HasTwin, SeatStands}

-- the laws of worlds by which a read is right, and an acknowledged cookie stays so
pub record WorldLaws : Type 0 where
  pub right : (bricks : ℕ) (earlier later : List WorldEvent) (order : ReadOrder) (value : List ℕ) (read : ReadState) (answer : Result (List ℕ) ReadRefusal)
      → ReadAfter (after (new_world bricks) earlier) order value later read → read_answer read ≡ Some answer
      → IsRight (read_world (after (new_world bricks) earlier) order later) order value (told_since (after (new_world bricks) earlier) order later) answer
  pub stays : (bricks : ℕ) (earlier later : List WorldEvent) (cookie : Cookie) (value : List ℕ) → IsAcknowledged (after (new_world bricks) earlier) cookie value
      → IsAcknowledged (after (after (new_world bricks) earlier) later) cookie value

-- the same of any world that events made
right-in : WorldLaws → (w : WorldValue) → IsMade w → (later : List WorldEvent) (order : ReadOrder) (value : List ℕ) (read : ReadState) (answer : Result (List ℕ) ReadRefusal)
    → ReadAfter w order value later read → read_answer read ≡ Some answer → IsRight (read_world w order later) order value (told_since w order later) answer
right-in laws w made later order value read answer =
    let P : WorldValue → Type 0 = λ v. ReadAfter v order value later read → read_answer read ≡ Some answer → IsRight (read_world v order later) order value (told_since v order later) answer in
    subst P (sym made.made) (laws.right made.bricks made.events later order value read answer)

stays-in : WorldLaws → (w : WorldValue) → IsMade w → (later : List WorldEvent) (cookie : Cookie) (value : List ℕ) → IsAcknowledged w cookie value → IsAcknowledged (after w later) cookie value
stays-in laws w made later cookie value =
    let P : WorldValue → Type 0 = λ v. IsAcknowledged v cookie value → IsAcknowledged (after v later) cookie value in
    subst P (sym made.made) (laws.stays made.bricks made.events later cookie value)

made-on : (w : WorldValue) (later : List WorldEvent) → IsMade w → IsMade (after w later)
made-on w later made = record {
  bricks = made.bricks;
  events = made.events ++ later;
  made = ap (λ (v : WorldValue). after v later) made.made ∙ sym (after-on made.events (new_world made.bricks) later);
}

-- A read that has its answer in a later world is right, where it began after its cookie was acknowledged.
read-right : WorldLaws → (earlier now later : LanesState) (place : ℕ) (r end : ReadState) (value : List ℕ) (o : ReadOutcome) → IsMade earlier.world → ByEvents earlier now → ByEvents now later
    → length earlier.world.calls ≤ place → slice_get now.world.calls place ≡ Some (call.Read r) → slice_get later.world.calls place ≡ Some (call.Read end)
    → read_answer end ≡ Some (answer_of_read o) → IsAcknowledged earlier.world (cookie_asked r) value → ReadsRightly earlier later (order_of r) value o
read-right laws earlier now later place r end value o made first second late there ends answers acknowledged =
    let began : ReadBegan earlier.world first.0 place r = read-began first.0 earlier.world place r made (ap (λ (v : WorldValue). slice_get v.calls place) (sym first.1) ∙ there) late in
    let start : WorldValue = after earlier.world began.before in
    let since : List WorldEvent = began.since ++ second.0 in
    let whole : later.world ≡ read_world start (order_of r) since =
    second.1 ∙ ap (λ (v : WorldValue). after v second.0) (first.1 ∙ began.parts) ∙ sym (after-on began.since (read_world start (order_of r) []) second.0) in
    let right : IsRight (read_world start (order_of r) since) (order_of r) value (told_since start (order_of r) since) (answer_of_read o) =
    right-in laws start (made-on earlier.world began.before made) since (order_of r) value end (answer_of_read o)
    (record {
      acknowledged = stays-in laws earlier.world made began.before (cookie_asked r) value acknowledged;
      may_begin = began.may_begin;
      there = ap (λ (n : ℕ). slice_get (read_world start (order_of r) since).calls n) (sym began.place_is) ∙ ap (λ (v : WorldValue). slice_get v.calls place) (sym whole) ∙ ends;
    })
    answers in
    record {
      before = began.before;
      since = since;
      later_is = whole;
      right = subst (λ (v : WorldValue). IsRight v (order_of r) value (told_since start (order_of r) since) (answer_of_read o)) (sym whole) right;
    }

-- each holder has its cause
lost-each : (w : WorldValue) (order : ReadOrder) (kept : Kept) (told : Holder → List Told) (holders : List Holder) (causes : List BrickCause) → AreLost w order kept told holders causes
    → map (λ (c : BrickCause). c.brick) causes ≡ bricks_of holders
lost-each w order kept told [] [] lost = refl
lost-each w order kept told (holder ∷ holders) (c ∷ causes) lost =
    ap (λ (b : BrickNo). b ∷ map (λ (x : BrickCause). x.brick) causes) lost.0 ∙ ap (λ (bs : List BrickNo). holder.brick ∷ bs) (lost-each w order kept told holders causes lost.2)
lost-each w order kept told [] (c ∷ causes) lost = absurd lost
lost-each w order kept told (holder ∷ holders) [] lost = absurd lost

-- a right answer within the lease
right-in-time : (w : WorldValue) (order : ReadOrder) (value : List ℕ) (told : Holder → List Told) (o : ReadOutcome) → order.moment.0 ≤ order.cookie.expiry.0 → IsRight w order value told (answer_of_read o)
    → IsFoundOrLost value order.cookie.bricks o
right-in-time w order value told (read.Found lease) early right = right.0
right-in-time w order value told (read.Expired now expiry) early right = (let past = right.2 in omega (arith, past, early))
right-in-time w order value told (read.Lost causes) early right = lost-each w order (kept_for order.cookie value) told order.cookie.bricks causes right.1

-- lanes stay where a twin is there already
twinned-same : (to : SessionWay) (twin : Option ℕ) (n : ℕ) (st : LanesState) → twin ≡ Some n → (twinned to twin st).store ≡ st
twinned-same to twin n st is = ap (λ (t : Option ℕ). (twinned to t st).store) is ∙ by (call_held to) where
  by : (o : Option Call) → (twinned_by o (Some n) to st).store ≡ st
  by None = refl
  by (Some held) = refl

-- the twin of a read
read-twin : (st : LanesState) (to : SessionWay) (r : ReadState) (n : ℕ) → to ≡ way.Reading r → IsTwin st n to → slice_get st.world.calls n ≡ Some (call.Read r)
read-twin st to r n is twin = twin.there ∙ sym twin.holds ∙ ap call_held is

-- a read has a twin
has-read-twin : (st : LanesState) (to : SessionWay) (r : ReadState) (twin : Option ℕ) → to ≡ way.Reading r → HasTwin to twin st → (n : ℕ) × (twin ≡ Some n) × IsTwin st n to
has-read-twin st to r None is none = absurd (let e : None ≡ Some (call.Read r) = sym none ∙ ap call_held is in cc)
has-read-twin st to r (Some n) is twin = (n, refl, twin)

still-twin : (st : LanesState) (to : SessionWay) (r : ReadState) (twin : Option ℕ) (n : ℕ) → to ≡ way.Reading r → twin ≡ Some n → Twinnable to twin st → IsTwin st n to
still-twin st to r twin n is at may = by (subst (λ (t : Option ℕ). Twinnable to t st) at may) where
  by : (call_held to ≡ None) ⊎ IsTwin st n to → IsTwin st n to
  by (inl none) = absurd (let e : None ≡ Some (call.Read r) = sym none ∙ ap call_held is in cc)
  by (inr twin) = twin

module _ (moves : MoveLaws) (events : EventLaws) (g : SeatGivens) (seat : Seat) (w : SeatWorld) (stands : SeatStands seat w.store) (spelled : SeatHears seat w.store) where
  abbrev E : World ActionCall LaneLink
  E = (event_at (givens_in g w) (turn seat.connection) (seen_by seat w)).0

  abbrev mid : LanesState
  mid = record (E.link.lanes) { windows = E.windows }

  moved : Moved w.store seat.twin (way_in E.connection.stage) mid
  moved = event-moved events g seat w stands spelled

  -- What a seat hears of its session in a step is right.
  pub reads-rightly : WorldLaws → (earlier : LanesState) (r : ReadState) (value : List ℕ) (o : ReadOutcome) → ReadsSince earlier seat w.store r → IsAcknowledged earlier.world (cookie_asked r) value
      → read_heard (seat_step g seat w).seat.connection.stage ≡ Some o → ReadsRightly earlier (seat_step g seat w).world.store (order_of r) value o
  unfolding seat_step step
  reads-rightly laws earlier r value o reads acknowledged heard =
      let waits : Waits seat.connection.stage r = under-way seat.connection.stage r reads.waits in
      let way_is : way_in seat.connection.stage ≡ way.Reading r = ap (λ (x : Stage ActionCall). way_in x) waits.is in
      let twin = has-read-twin w.store (way_in seat.connection.stage) r seat.twin way_is stands.twin in
      let end : HasRead (way_in E.connection.stage) o = step-ends g w (record { lanes = w.store; active = seat.twin }) o seat.connection r reads.waits heard in
      let still : IsTwin mid twin.0 (way_in E.connection.stage) = still-twin mid (way_in E.connection.stage) end.read seat.twin twin.0 end.is twin.1 moved.twinnable in
      let after_it : LanesState = (twinned (way_in (gone_alone (making_by g) E.connection).0.stage) seat.twin mid).store in
      let same : after_it ≡ mid = twinned-same (way_in (gone_alone (making_by g) E.connection).0.stage) seat.twin twin.0 mid twin.1 in
      subst (λ (st : LanesState). ReadsRightly earlier st (order_of r) value o) (sym same)
      (read-right laws earlier w.store mid twin.0 r end.read value o reads.sound.made reads.events (moves-events moves w.store mid seat.twin stands.sound moved.moves) (reads.begins twin.0 twin.1)
      (read-twin w.store (way_in seat.connection.stage) r twin.0 way_is twin.2) (read-twin mid (way_in E.connection.stage) end.read twin.0 end.is still) (outcome-answers end.read o end.came) acknowledged)

  -- Within the lease it is found or lost.
  pub found-or-lost : WorldLaws → (earlier : LanesState) (r : ReadState) (value : List ℕ) (o : ReadOutcome) → ReadsSince earlier seat w.store r → IsAcknowledged earlier.world (cookie_asked r) value
      → read_heard (seat_step g seat w).seat.connection.stage ≡ Some o → r.moment.0 ≤ r.expiry.0 → IsFoundOrLost value (cookie_asked r).bricks o
  found-or-lost laws earlier r value o reads acknowledged heard early =
      let it : ReadsRightly earlier (seat_step g seat w).world.store (order_of r) value o = reads-rightly laws earlier r value o reads acknowledged heard in
      right-in-time (seat_step g seat w).world.store.world (order_of r) value (told_since (after earlier.world it.before) (order_of r) it.since) o early it.right

  -- A twin that begins is the last call.
  pub begins-last : (number : ℕ) → seat.twin ≡ None → (seat_step g seat w).seat.twin ≡ Some number → number ≡ length w.store.world.calls
  unfolding seat_step step
  begins-last number none begun = by (call_held to) (ap (λ (t : Option ℕ). (twinned to t mid).twin) (sym none) ∙ begun) where
    to : SessionWay
    to = way_in (gone_alone (making_by g) E.connection).0.stage

    by : (o : Option Call) → (twinned_by o None to mid).twin ≡ Some number → number ≡ length w.store.world.calls
    by None is = absurd (cc)
    by (Some held) is =
        let last : length mid.world.calls ≡ number = let e : Some (length mid.world.calls) ≡ Some number = is in cc in
        let world : mid.world ≡ w.store.world = same-world w.store mid (subst (λ (t : Option ℕ). Moves w.store t mid) none moved.moves) in
        sym last ∙ ap (λ (x : WorldValue). length x.calls) world

-- A twin that is there stays, or goes.
pub stays-same : (g : SeatGivens) (seat : Seat) (w : SeatWorld) (number other : ℕ) → seat.twin ≡ Some number → (seat_step g seat w).seat.twin ≡ Some other → other ≡ number
unfolding seat_step step
stays-same g seat w number other is still = by (call_held to) (ap (λ (t : Option ℕ). (twinned to t mid).twin) (sym is) ∙ still) where
  e : World ActionCall LaneLink
  e = (event_at (givens_in g w) (turn seat.connection) (seen_by seat w)).0

  mid : LanesState
  mid = record (e.link.lanes) { windows = e.windows }

  to : SessionWay
  to = way_in (gone_alone (making_by g) e.connection).0.stage

  by : (o : Option Call) → (twinned_by o (Some number) to mid).twin ≡ Some other → other ≡ number
  by None same = absurd (cc)
  by (Some held) same = let e : Some number ≡ Some other = same in cc

-- the law by which worlds are sound
abbrev pub SoundLaw : Type 0
SoundLaw = (bricks : ℕ) (events : List WorldEvent) → IsSound (after (new_world bricks) events)

-- a write with an answer is acknowledged in its world
write-acknowledged : SoundLaw → (w : WorldValue) (place : ℕ) (s : WriteState) (cookie : Cookie) → IsMade w → slice_get w.calls place ≡ Some (call.Write s) → write_answer s ≡ Some (Ok cookie)
    → IsAcknowledged w cookie (value_put s.ask)
write-acknowledged law w place s cookie made there answers =
    let sound : IsSound w = subst IsSound (sym made.made) (law made.bricks made.events) in
    let write : WriteIsSound w s = sound.calls place (call.Write s) there in
    record {
      place = place;
      write = s;
      there = there;
      answers = answers;
      value_is = write.ask_is ∙ ap (λ (v : List ℕ). Put s.nonce s.key s.nonce s.expiry v) (sym (ap value_put write.ask_is));
    }

-- A cookie that the write of a seat answers is acknowledged.
pub seat-acknowledged : SoundLaw → (seat : Seat) (st : LanesState) (cookie : Cookie) → SeatStands seat st → answer_held (way_in seat.connection.stage) ≡ Some (Ok cookie)
    → IsAcknowledged st.world cookie (value_written (way_in seat.connection.stage))
seat-acknowledged law seat st cookie stands answers = by (way_in seat.connection.stage) seat.twin stands.twin answers where
  written : (to : SessionWay) (s : WriteState) (twin : Option ℕ) → call_held to ≡ Some (call.Write s) → HasTwin to twin st → write_answer s ≡ Some (Ok cookie) → IsAcknowledged st.world cookie (value_put s.ask)
  written to s None holds none answer = absurd (let e : None ≡ Some (call.Write s) = sym none ∙ holds in cc)
  written to s (Some n) holds twin answer = write-acknowledged law st.world n s cookie stands.sound.made (twin.there ∙ sym twin.holds ∙ holds) answer

  by : (to : SessionWay) (twin : Option ℕ) → HasTwin to twin st → answer_held to ≡ Some (Ok cookie) → IsAcknowledged st.world cookie (value_written to)
  by way.Resting twin has answer = absurd (cc)
  by (way.Reading r) twin has answer = absurd (cc)
  by (way.Ordered order) twin has answer = absurd (cc)
  by (way.Writing x) twin has answer = written (way.Writing x) x.write twin refl has answer
  by (way.Settling x) twin has answer = written (way.Settling x) x.write twin refl has answer
  by (way.Holding passes) twin has answer = absurd (cc)

-- the law by which missed writes have their causes
abbrev pub MissLaw : Type 0
MissLaw = (bricks : ℕ) (events : List WorldEvent) (place : ℕ) (write : WriteState) (causes : List BrickCause) → slice_get (after (new_world bricks) events).calls place ≡ Some (call.Write write)
    → write_answer write ≡ Some (Err (Missed causes)) → WasMissed bricks events place write causes

-- A write that the seat missed has its causes.
pub seat-missed : MissLaw → (seat : Seat) (st : LanesState) (causes : List BrickCause) → SeatStands seat st → answer_held (way_in seat.connection.stage) ≡ Some (Err (Missed causes))
    → MissedFor (way_in seat.connection.stage) st.world causes
seat-missed law seat st causes stands answers = by (way_in seat.connection.stage) seat.twin stands.twin answers where
  missed : (to : SessionWay) (s : WriteState) (twin : Option ℕ) → call_held to ≡ Some (call.Write s) → HasTwin to twin st → write_answer s ≡ Some (Err (Missed causes)) → MissedFor to st.world causes
  missed to s None holds none answer = absurd (let e : None ≡ Some (call.Write s) = sym none ∙ holds in cc)
  missed to s (Some n) holds twin answer =
      let made : IsMade st.world = stands.sound.made in
      let there : slice_get st.world.calls n ≡ Some (call.Write s) = twin.there ∙ sym twin.holds ∙ holds in
      record {
        write = s;
        held = holds;
        place = n;
        there = there;
        bricks = made.bricks;
        events = made.events;
        made = made.made;
        missed = law made.bricks made.events n s causes (ap (λ (v : WorldValue). slice_get v.calls n) (sym made.made) ∙ there) answer;
      }

  by : (to : SessionWay) (twin : Option ℕ) → HasTwin to twin st → answer_held to ≡ Some (Err (Missed causes)) → MissedFor to st.world causes
  by way.Resting twin has answer = absurd (cc)
  by (way.Reading r) twin has answer = absurd (cc)
  by (way.Ordered order) twin has answer = absurd (cc)
  by (way.Writing x) twin has answer = missed (way.Writing x) x.write twin refl has answer
  by (way.Settling x) twin has answer = missed (way.Settling x) x.write twin refl has answer
  by (way.Holding passes) twin has answer = absurd (cc)

-- A seat waits as before over later lanes.
pub since-meanwhile : (earlier st later : LanesState) (seat : Seat) (r : ReadState) → ByEvents st later → ReadsSince earlier seat st r → ReadsSince earlier seat later r
since-meanwhile earlier st later seat r more reads =
    record { waits = reads.waits; sound = reads.sound; events = events-on earlier st later reads.events more; begins = reads.begins }

module _ (moves : MoveLaws) (events : EventLaws) (begins : BeginLaws) (g : SeatGivens) (seat : Seat) (w : SeatWorld) (stands : SeatStands seat w.store) (spelled : SeatHears seat w.store) where
  abbrev new : Seat
  new = (seat_step g seat w).seat

  abbrev later : LanesState
  later = (seat_step g seat w).world.store

  on : ByEvents w.store later
  on = by-events moves events begins g seat w stands spelled

  -- A seat that begins to wait in a step waits for a read that had not begun in any lanes before.
  pub since-begun : (earlier : LanesState) (r : ReadState) → LanesAreSound earlier → ByEvents earlier w.store → seat.twin ≡ None → read_under_way new.connection.stage ≡ Some r → ReadsSince earlier new later r
  since-begun earlier r sound before none waits = record {
    waits = waits;
    sound = sound;
    events = events-on earlier w.store later before on;
    begins = λ number is.
        let rise : length earlier.world.calls ≤ length w.store.world.calls =
        subst (λ (v : WorldValue). length earlier.world.calls ≤ length v.calls) (sym before.1) (calls-rise before.0 earlier.world) in
        subst (λ (n : ℕ). length earlier.world.calls ≤ n) (sym (begins-last moves events g seat w stands spelled number none is)) rise;
  }

  -- And so it does behind each later step, while it waits.
  pub since-step : (earlier : LanesState) (r then : ReadState) → ReadsSince earlier seat w.store r → read_under_way new.connection.stage ≡ Some then → ReadsSince earlier new later then
  since-step earlier r then reads waits =
      let way_is : way_in seat.connection.stage ≡ way.Reading r = ap (λ (x : Stage ActionCall). way_in x) (under-way seat.connection.stage r reads.waits).is in
      let twin = has-read-twin w.store (way_in seat.connection.stage) r seat.twin way_is stands.twin in
      record {
        waits = waits;
        sound = reads.sound;
        events = events-on earlier w.store later reads.events on;
        begins = λ number is. subst (λ (n : ℕ). length earlier.world.calls ≤ n) (sym (stays-same g seat w twin.0 number twin.1 is)) (reads.begins twin.0 twin.1);
      }
