-- A seat stands behind its step, and so do others.
use Rattle.std.proofs.Common.{◌≡◌, inl, inr, ◌∙◌, ℕ, ◌≤◌, ◌<◌, arith, true, List, [], ◌∷◌, length, Option, Some, None, refl, sym, ap, subst}
use Rattle.std.proofs.lemmas.Option.{slice_get_within}
use Rattle.auction_calls.specs.declared.action.ActionCall.{ActionCall}
use Rattle.crash_base.specs.declared.numbers.Moment.{Moment}
use Rattle.crash_base.specs.declared.numbers.Version.{Version}
use Rattle.lane_link.specs.Twins.{ByEvents, IsTwin, NoneTurns, call_held}
use Rattle.lane_link.specs.declared.link.LaneLink.{LaneLink}
use Rattle.send_windows.specs.Windows.{AreTaken, KeepLimits}
use Rattle.send_windows.specs.declared.pass.Pass.{Pass}
use Rattle.session_cookie.specs.Cookie.{AreHolders}
use Rattle.session_cookie.specs.declared.cookie.Cookie.{Cookie}
use Rattle.session_cookie.specs.declared.cookie.TheConstants.{MAX_HOLDERS}
use Rattle.session_lanes.specs.Lanes.{LanesState, begun_read, begun_write}
use Rattle.session_lanes.specs.Sound.{LanesAreSound}
use Rattle.session_lanes.specs.Steps.{BeginsRead, BeginsWrite, LanesStep, after_steps}
use Rattle.session_way.specs.Reading.{cookie_asked}
use Rattle.session_way.specs.Writing.{WritingState, write_begun}
use Rattle.session_way.specs.declared.session_write.WriteOrder.{WriteOrder}
use Rattle.session_way.specs.declared.way.SessionWay.{SessionWay}
use Rattle.session_way.specs.declared.way.SessionWay.TheVariants as way
use Rattle.shepherd.specs.Shepherds.{turn}
use Rattle.shepherd.specs.declared.shepherd.Shepherd.{Shepherd}
use Rattle.shepherd_steps.specs.Alone.{gone_alone}
use Rattle.shepherd_steps.specs.Stepping.{World, event_at, step}
use Rattle.ssm_stub.specs.Reads.{ReadState, read_start}
use Rattle.ssm_world.specs.Worlds.{WorldValue, is_new, nonce_of}
use Rattle.ssm_world.specs.declared.call.Call.{Call}
use Rattle.ssm_world.specs.declared.call.Call.TheVariants as call
use Rattle.seat_steps.specs.Replies.{SeatHears}
use Rattle.seat_steps.specs.Seats.{SeatGivens, SeatWorld, givens_in, making_by, seat_step, seen_by}
use Rattle.seat_steps.specs.Twinned.{Twinned, begun_there, twinned, twinned_by, value_put, way_in, write_there}
use Rattle.seat_steps.specs.declared.seat.Seat.{Seat}
use Rattle.seat_laws.specs.Standing.{AreApart, HasTwin, HoldsNew, SeatStands}
use Rattle.seat_laws.proofs.Alone.{gone-in}
use Rattle.seat_laws.proofs.Moving.{MoveLaws, Moves, events-on, moves-events, moves-sound, none-of, one-of, other-stays, same-world}
use Rattle.seat_laws.proofs.Twinning.{EventLaws, MayBegin, Moved, Twinnable, event-moved, stays-twinnable}

-- the laws by which calls begin
pub record BeginLaws : Type 0 where
  pub read : (st : LanesState) (nonce : Version) (now : Moment) (cookie : Cookie) → is_new st.world nonce ≡ true → AreHolders cookie.bricks
      → IsTwin (begun_read st nonce now cookie) (length st.world.calls) (way.Reading (read_start now nonce cookie))
  pub write : (st : LanesState) (order : WriteOrder) (most : ℕ) (passes : List Pass) → is_new st.world order.nonce ≡ true → 1 ≤ st.windows.wq → most ≤ MAX_HOLDERS → AreTaken st.windows.wq most passes
      → IsTwin (begun_write st order.nonce order.key order.value order.expiry passes) (length st.world.calls) (way.Writing (write_begun order st.windows.wq passes))
  pub told : (now : Moment) (nonce : Version) (cookie : Cookie) → cookie_asked (read_start now nonce cookie) ≡ cookie

-- Lanes came to others by calls that begin, at most.
pub record Begins (st later : LanesState) : Type 0 where
  pub steps : List LanesStep
  pub none : (n : ℕ) → NoneTurns n steps
  pub is : later ≡ after_steps st steps
  pub windows : later.windows ≡ st.windows

none-begins : (st : LanesState) → Begins st st
none-begins st = record { steps = []; none = none-of; is = refl; windows = refl }

write-begins : (st : LanesState) (w : WritingState) → Begins st (write_there st w)
write-begins st w = record {
  steps = BeginsWrite w.write.nonce w.write.key (value_put w.write.ask) w.write.expiry w.passes ∷ [];
  none = λ n. one-of n (BeginsWrite w.write.nonce w.write.key (value_put w.write.ask) w.write.expiry w.passes) refl;
  is = refl;
  windows = refl;
}

there-begins : (st : LanesState) (to : SessionWay) → Begins st (begun_there st to)
there-begins st way.Resting = none-begins st
there-begins st (way.Reading r) = record { steps = BeginsRead r.nonce r.moment (cookie_asked r) ∷ []; none = λ n. one-of n (BeginsRead r.nonce r.moment (cookie_asked r)) refl; is = refl; windows = refl }
there-begins st (way.Ordered order) = none-begins st
there-begins st (way.Writing w) = write-begins st w
there-begins st (way.Settling w) = write-begins st w
there-begins st (way.Holding passes) = none-begins st

twinned-begins : (to : SessionWay) (twin : Option ℕ) (st : LanesState) → Begins st (twinned to twin st).store
twinned-begins to twin st = by (call_held to) twin where
  by : (o : Option Call) (twin : Option ℕ) → Begins st (twinned_by o twin to st).store
  by None twin = none-begins st
  by (Some held) None = there-begins st to
  by (Some held) (Some n) = none-begins st

-- what may begin in lanes is the twin there, where its nonce is new
may-begin : BeginLaws → (st : LanesState) (to : SessionWay) → MayBegin st to → HoldsNew st to → IsTwin (begun_there st to) (length st.world.calls) to
may-begin laws st way.Resting may new = absurd may
may-begin laws st (way.Reading r) may new =
    let first : IsTwin (begun_there st (way.Reading (read_start may.now may.nonce may.cookie))) (length st.world.calls) (way.Reading (read_start may.now may.nonce may.cookie)) =
    subst (λ (c : Cookie). IsTwin (begun_read st may.nonce may.now c) (length st.world.calls) (way.Reading (read_start may.now may.nonce may.cookie))) (sym (laws.told may.now may.nonce may.cookie))
    (laws.read st may.nonce may.now may.cookie (subst (λ (x : ReadState). is_new st.world x.nonce ≡ true) may.is (new (call.Read r) refl)) may.holders) in
    subst (λ (x : ReadState). IsTwin (begun_there st (way.Reading x)) (length st.world.calls) (way.Reading x)) (sym may.is) first
may-begin laws st (way.Ordered order) may new = absurd may
may-begin laws st (way.Writing w) may new =
    let begun : WritingState = write_begun may.order st.windows.wq may.passes in
    let first : IsTwin (begun_there st (way.Writing begun)) (length st.world.calls) (way.Writing begun) =
    laws.write st may.order may.most may.passes (subst (λ (x : WritingState). is_new st.world x.write.nonce ≡ true) may.is (new (call.Write w.write) refl)) may.some may.few may.lawful in
    subst (λ (x : WritingState). IsTwin (begun_there st (way.Writing x)) (length st.world.calls) (way.Writing x)) (sym may.is) first
may-begin laws st (way.Settling w) may new = absurd may
may-begin laws st (way.Holding passes) may new = absurd may

-- what a way holds has its twin then
twinned-has : BeginLaws → (st : LanesState) (to : SessionWay) (twin : Option ℕ) → Twinnable to twin st → (twin ≡ None → HoldsNew st to)
    → (let t : Twinned = twinned to twin st in HasTwin to t.twin t.store)
twinned-has laws st to twin may new = by (call_held to) refl twin may new where
  by : (o : Option Call) → call_held to ≡ o → (twin : Option ℕ) → Twinnable to twin st → (twin ≡ None → HoldsNew st to)
      → (let t : Twinned = twinned_by o twin to st in HasTwin to t.twin t.store)
  by None is twin may new = is
  by (Some held) is None (inl none) new = absurd (let e : None ≡ Some held = sym none ∙ is in cc)
  by (Some held) is None (inr may) new = may-begin laws st to may (new refl)
  by (Some held) is (Some n) (inl none) new = absurd (let e : None ≡ Some held = sym none ∙ is in cc)
  by (Some held) is (Some n) (inr twin) new = twin

module _ (moves : MoveLaws) (events : EventLaws) (begins : BeginLaws) (g : SeatGivens) (seat : Seat) (w : SeatWorld) (stands : SeatStands seat w.store) (spelled : SeatHears seat w.store) where
  abbrev E : World ActionCall LaneLink
  E = (event_at (givens_in g w) (turn seat.connection) (seen_by seat w)).0

  abbrev mid : LanesState
  mid = record (E.link.lanes) { windows = E.windows }

  abbrev end : Shepherd ActionCall
  end = (gone_alone (making_by g) E.connection).0

  moved : Moved w.store seat.twin (way_in E.connection.stage) mid
  moved = event-moved events g seat w stands spelled

  twinnable : Twinnable (way_in end.stage) seat.twin mid
  twinnable = stays-twinnable (way_in E.connection.stage) (way_in end.stage) seat.twin mid (gone-in (making_by g) E.connection) moved.twinnable

  mid-sound : LanesAreSound mid
  mid-sound = moves-sound moves w.store mid seat.twin stands.sound moved.moves

  begun : Begins mid (twinned (way_in end.stage) seat.twin mid).store
  begun = twinned-begins (way_in end.stage) seat.twin mid

  later-sound : LanesAreSound (twinned (way_in end.stage) seat.twin mid).store
  later-sound = subst LanesAreSound (sym begun.is) (moves.sound mid begun.steps mid-sound)

  later-limits : KeepLimits (twinned (way_in end.stage) seat.twin mid).store.windows
  later-limits = subst KeepLimits (sym begun.windows) moved.limits

  -- a nonce is as new behind the event as before it, where there was no twin
  new-still : (seat.twin ≡ None → HoldsNew w.store (way_in end.stage)) → seat.twin ≡ None → HoldsNew mid (way_in end.stage)
  new-still new none =
      λ held holds. ap (λ (x : WorldValue). is_new x (nonce_of held)) (same-world w.store mid (subst (λ (t : Option ℕ). Moves w.store t mid) none moved.moves)) ∙ new none held holds

  pub stands-still : (seat.twin ≡ None → HoldsNew w.store (way_in (seat_step g seat w).seat.connection.stage)) → SeatStands (seat_step g seat w).seat (seat_step g seat w).world.store
  unfolding seat_step step
  stands-still new = record {
    sound = later-sound;
    limits = later-limits;
    twin = twinned-has begins mid (way_in end.stage) seat.twin twinnable (new-still new);
  }

  pub by-events : ByEvents w.store (seat_step g seat w).world.store
  unfolding seat_step step
  by-events =
      let e = moves.events mid begun.steps in
      events-on w.store mid (twinned (way_in end.stage) seat.twin mid).store (moves-events moves w.store mid seat.twin stands.sound moved.moves)
      (e.0, ap (λ (l : LanesState). l.world) begun.is ∙ e.1)

  pub other-stands : (other : Seat) → SeatStands other w.store → AreApart seat.twin other.twin → SeatStands other (seat_step g seat w).world.store
  unfolding seat_step step
  other-stands other its apart = record { sound = later-sound; limits = later-limits; twin = by other.twin apart its.twin } where
    by : (twin : Option ℕ) → AreApart seat.twin twin → HasTwin (way_in other.connection.stage) twin w.store
        → HasTwin (way_in other.connection.stage) twin (twinned (way_in end.stage) seat.twin mid).store
    by None apart none = none
    by (Some n) apart twin =
        let there : IsTwin mid n (way_in other.connection.stage) = other-stays moves w.store mid seat.twin stands.sound moved.moves n (way_in other.connection.stage) apart twin in
        subst (λ (l : LanesState). IsTwin l n (way_in other.connection.stage)) (sym begun.is)
        (moves.stays mid begun.steps n (way_in other.connection.stage) mid-sound there (begun.none n))

  -- its twin is none of those before: where one begins, it is the last call
  pub apart-still : (other : Seat) → SeatStands other w.store → AreApart seat.twin other.twin → AreApart (seat_step g seat w).seat.twin other.twin
  unfolding seat_step step
  apart-still other its apart = by (call_held (way_in end.stage)) seat.twin refl where
    by : (o : Option Call) (twin : Option ℕ) → seat.twin ≡ twin → AreApart (twinned_by o twin (way_in end.stage) mid).twin other.twin
    by None twin is = λ number none. absurd (let e : None ≡ Some number = none in cc)
    by (Some held) (Some n) is = λ number same. apart number (is ∙ same)
    by (Some held) None is = λ number same other_is.
        let it : IsTwin w.store number (way_in other.connection.stage) = subst (λ (t : Option ℕ). HasTwin (way_in other.connection.stage) t w.store) other_is its.twin in
        let world : mid.world ≡ w.store.world = same-world w.store mid (subst (λ (t : Option ℕ). Moves w.store t mid) is moved.moves) in
        let last : length mid.world.calls ≡ number = let e : Some (length mid.world.calls) ≡ Some number = same in cc in
        let within : number < length w.store.world.calls = slice_get_within w.store.world.calls number it.held (it.there) in
        let calls : length mid.world.calls ≡ length w.store.world.calls = ap (λ (x : WorldValue). length x.calls) world in
        let less : number < number = subst (λ (n : ℕ). number < n) (sym calls ∙ last) within in
        omega (arith, less)
