-- What a step of a seat leaves of the bricks is what its steps of them leave.
use Rattle.std.proofs.Common.{◌≡◌, ◌∙◌, ℕ, Bool, true, false, nat_lt, if◌then◌else◌, List, [], ◌∷◌, ◌++◌, Option, Some, None, refl, sym, ap}
use Rattle.std.specs.Prelude.{slice_get}
use Rattle.auction_calls.specs.declared.action.ActionCall.{ActionCall}
use Rattle.lane_link.specs.Links.{lane_link_tally}
use Rattle.lane_link.specs.Twins.{call_held}
use Rattle.lane_link.specs.declared.link.LaneLink.{LaneLink}
use Rattle.request_visit.specs.Visits.{overloaded}
use Rattle.request_visit.specs.declared.visit.Visit.{Visit}
use Rattle.send_windows.specs.Facts.{full_facts, open_count}
use Rattle.send_windows.specs.Windows.{WindowsValue, refused, taken}
use Rattle.session_lanes.proofs.Ending.{made_is_sound, turn_keeps}
use Rattle.session_lanes.specs.Lanes.{LanesState, turn_of}
use Rattle.session_lanes.specs.Steps.{TakesTurn as TurnStep, after_step}
use Rattle.session_steps.specs.Lent.{LentStep, after_lent, after_lent_step}
use Rattle.session_way.specs.Way.{passes_for, wants}
use Rattle.session_way.specs.Writing.{write_begun}
use Rattle.session_way.specs.declared.way.SessionWay.{SessionWay}
use Rattle.session_way.specs.declared.way.SessionWay.TheVariants as way
use Rattle.session_way.specs.declared.way.Wants.TheVariants as wanted
use Rattle.shepherd.specs.Shepherds.{turn}
use Rattle.shepherd.specs.declared.shepherd.Shepherd.{Shepherd}
use Rattle.shepherd.specs.declared.shepherd.ShepherdTurn.{ShepherdTurn}
use Rattle.shepherd.specs.declared.shepherd.ShepherdTurn.TheVariants as turns
use Rattle.shepherd.specs.declared.shepherd.Stage.{Stage}
use Rattle.shepherd.specs.declared.shepherd.Stage.TheVariants.{Resting, Serving, Refusing, Over}
use Rattle.shepherd_steps.specs.Outside.{outside, way_outside}
use Rattle.shepherd_steps.specs.Passes.{goes, windows_by, windows_step}
use Rattle.shepherd_steps.specs.Stepping.{World, event_at, step, steps_in}
use Rattle.ssm_world.specs.declared.call.Call.{Call}
use Rattle.seat_steps.proofs.Begins.{twin-begins}
use Rattle.seat_steps.specs.Begins.{begin_steps}
use Rattle.seat_steps.specs.Replies.{HearsSpelled, SeatHears, lane_replies}
use Rattle.seat_steps.specs.Seats.{SeatGivens, SeatWorld, givens_in, seat_step, seen_by}
use Rattle.seat_steps.specs.Twinned.{way_in}
use Rattle.seat_steps.specs.declared.seat.Seat.{Seat}
use Rattle.seat_laws.specs.Lending.{event_steps, seat_lends, twin_steps, window_steps}
use Rattle.seat_laws.specs.Standing.{HasTwin, SeatStands}
use Rattle.seat_laws.proofs.Hearing.{outside-holds, way-steps}
use Rattle.seat_laws.proofs.Twinning.{OpenOutside, TurnLaw, open-outside}

-- bricks after steps, and then others
pub lent-on : (a : List LentStep) (st : LanesState) (b : List LentStep) → after_lent st (a ++ b) ≡ after_lent (after_lent st a) b
lent-on [] st b = refl
lent-on (s ∷ a) st b = lent-on a (after_lent_step st s) b

pub windows-lent : (v : Visit ActionCall) (to : SessionWay) (st : LanesState) → (let l : LanesState = record st { windows = (windows_by v to st.windows).1 } in l) ≡ after_lent st (window_steps to)
windows-lent v way.Resting st = refl
windows-lent v (way.Reading r) st = refl
windows-lent v (way.Ordered order) st = by (nat_lt (open_count st.windows.facts) st.windows.wq) where
  by : (b : Bool) → (let l : LanesState = record st {
    windows = (if b then (record v { way = way.Resting; work = overloaded (full_facts st.windows.facts) v.work }, refused st.windows)
        else goes v (way.Writing (write_begun order st.windows.wq (passes_for order st.windows))) (taken st.windows (passes_for order st.windows))).1;
  } in l)
      ≡ (let l : LanesState = record st { windows = (if b then refused st.windows else taken st.windows (passes_for order st.windows)) } in l)
  by true = refl
  by false = refl
windows-lent v (way.Writing w) st = refl
windows-lent v (way.Settling w) st = refl
windows-lent v (way.Holding passes) st = refl

module _ (turn_law : TurnLaw) (g : SeatGivens) (seat : Seat) (w : SeatWorld) (stands : SeatStands seat w.store) (spelled : SeatHears seat w.store) where
  abbrev s : Shepherd ActionCall
  s = seat.connection

  abbrev st : LanesState
  st = w.store

  abbrev link : LaneLink
  link = record { lanes = st; active = seat.twin }

  abbrev Mid : World ActionCall LaneLink → LanesState
  Mid e = record (e.link.lanes) { windows = e.windows }

  turned-lent : (n : ℕ) (c : Call) → slice_get st.world.calls n ≡ Some c → (after_step st (TurnStep n)).windows ≡ st.windows
  turned-lent n c there =
      ap (λ (o : Option Call). (turn_of st n o).windows) there ∙ (turn_keeps st n c stands.sound.lanes (made_is_sound st.world stands.sound.made) there).windows

  way-lent : (to : SessionWay) → HearsSpelled to link → wants to ≡ wanted.Outside → HasTwin to seat.twin st
      → (let l : LanesState = record ((way_outside lane_replies to link).1.lanes) { windows = st.windows } in l) ≡ after_lent st (twin_steps seat.twin)
  way-lent to heard is twin = by seat.twin refl twin where
    by : (o : Option ℕ) → seat.twin ≡ o → HasTwin to o st → (let l : LanesState = record ((way_outside lane_replies to link).1.lanes) { windows = st.windows } in l) ≡ after_lent st (twin_steps o)
    by None at none = absurd (outside-holds to is none)
    by (Some n) at own =
        let turned = turn_law link (way_outside lane_replies to link).1 n to (way_outside lane_replies to link).0 stands.sound at own (way-steps link to heard is) in
        ap (λ (l : LaneLink). let x : LanesState = record (l.lanes) { windows = st.windows } in x) turned.turn
        ∙ ap (λ (x : WindowsValue). let y : LanesState = record (after_step st (TurnStep n)) { windows = x } in y) (sym (turned-lent n own.held own.there))

  outside-lent : turn s ≡ turns.Outside → Mid (event_at (givens_in g w) turns.Outside (seen_by seat w)).0 ≡ after_lent st (twin_steps seat.twin)
  unfolding outside
  outside-lent is = go s.stage (open-outside s is) (spelled is) stands.twin where
    go : (stage : Stage ActionCall) → OpenOutside stage → HearsSpelled (way_in stage) link → HasTwin (way_in stage) seat.twin st
        → (let x = steps_in (outside lane_replies lane_link_tally) stage link in (let l : LanesState = record (x.1.lanes) { windows = st.windows } in l) ≡ after_lent st (twin_steps seat.twin))
    go Resting e heard twin = absurd e
    go (Serving v call) e heard twin = way-lent v.way heard e twin
    go (Refusing why bytes) e heard twin = absurd e
    go (Over end) e heard twin = absurd e

  windows-lent-at : Mid (event_at (givens_in g w) turns.Windows (seen_by seat w)).0 ≡ after_lent st (window_steps (way_in s.stage))
  unfolding windows_step
  windows-lent-at = go s.stage where
    go : (stage : Stage ActionCall) → (let x = steps_in windows_step stage st.windows in (let l : LanesState = record st { windows = x.1 } in l) ≡ after_lent st (window_steps (way_in stage)))
    go Resting = refl
    go (Serving v call) = windows-lent v v.way st
    go (Refusing why bytes) = refl
    go (Over end) = refl

  event-lent : (t : ShepherdTurn) → turn s ≡ t → Mid (event_at (givens_in g w) t (seen_by seat w)).0 ≡ after_lent st (event_steps t seat.twin (way_in s.stage))
  event-lent turns.Bytes is = refl
  event-lent turns.Request is = refl
  event-lent turns.Outside is = outside-lent is
  event-lent turns.Windows is = windows-lent-at
  event-lent turns.Inside is = refl
  event-lent turns.Program is = refl
  event-lent turns.Own is = refl
  event-lent turns.Output is = refl
  event-lent turns.Item is = refl
  event-lent (turns.Ended end) is = refl

  -- The bricks behind a step of a seat are those behind what it does with them.
  pub seat-lends : (seat_step g seat w).world.store ≡ after_lent st (seat_lends g seat w)
  unfolding seat_step step seat_lends
  seat-lends =
      let end : SessionWay = way_in (seat_step g seat w).seat.connection.stage in
      let mid : LanesState = Mid (event_at (givens_in g w) (turn s) (seen_by seat w)).0 in
      twin-begins (call_held end) seat.twin end mid
      ∙ (ap (λ (l : LanesState). after_lent l (begin_steps (call_held end) seat.twin end)) (event-lent (turn s) refl)
      ∙ sym (lent-on (event_steps (turn s) seat.twin (way_in s.stage)) st (begin_steps (call_held end) seat.twin end)))
