-- Bricks stay sound behind a step of any seat, and where one is given up.
use Rattle.std.proofs.Common.{ℕ, Bool, true, false, if◌then◌else◌, List, [], ◌∷◌, Option, Some, None, sym, subst}
use Rattle.auction_calls.specs.declared.action.ActionCall.{ActionCall}
use Rattle.crash_base.specs.declared.numbers.BrickNo.{BrickNo}
use Rattle.lane_link.specs.Links.{lane_link_tally, turned, turned_by, unwanted, wants_to_hear, wants_to_send}
use Rattle.lane_link.specs.Twins.{call_held}
use Rattle.lane_link.specs.declared.link.LaneLink.{LaneLink}
use Rattle.send_windows.specs.Windows.{WindowsValue}
use Rattle.session_lanes.specs.Lanes.{LanesState}
use Rattle.session_steps.specs.Kept.{HasSoundStore}
use Rattle.session_steps.specs.Lent.{HearsNone, LentStep, TakesTurn, after_lent}
use Rattle.session_way.specs.declared.way.SessionWay.{SessionWay}
use Rattle.session_way.specs.declared.way.SessionWay.TheVariants as way
use Rattle.shepherd.specs.Shepherds.{turn}
use Rattle.shepherd.specs.declared.shepherd.ShepherdTurn.{ShepherdTurn}
use Rattle.shepherd.specs.declared.shepherd.ShepherdTurn.TheVariants as turns
use Rattle.shepherd.specs.declared.shepherd.Stage.{Stage}
use Rattle.shepherd.specs.declared.shepherd.Stage.TheVariants.{Resting, Serving, Refusing, Over}
use Rattle.shepherd_steps.specs.Outside.{heard_over, outside, way_outside}
use Rattle.shepherd_steps.specs.Stepping.{World, event_at, step, steps_in}
use Rattle.ssm_frames.specs.Spelling.{encode_of}
use Rattle.ssm_stub.specs.Reads.{read_ask, read_machine}
use Rattle.ssm_stub.specs.Writes.{write_machine}
use Rattle.ssm_stub.specs.declared.event.StubNext.{StubNext}
use Rattle.ssm_stub.specs.declared.event.StubNext.TheVariants as next
use Rattle.seat_steps.proofs.Begins.{twin-begins}
use Rattle.seat_steps.specs.Begins.{begin_steps}
use Rattle.seat_steps.specs.Gone.{seat_gone, stage_gone}
use Rattle.seat_steps.specs.Replies.{lane_replies}
use Rattle.seat_steps.specs.Seats.{SeatGivens, SeatWorld, givens_in, seat_step, seen_by}
use Rattle.seat_steps.specs.Twinned.{way_in}
use Rattle.seat_steps.specs.declared.seat.Seat.{Seat}

-- bricks are as events and lanes made them
abbrev Sound : LanesState → Type 0
Sound st = HasSoundStore (Some st)

-- lent bricks stay sound
abbrev pub LentLaw : Type 0
LentLaw = (st : LanesState) (steps : List LentStep) → HasSoundStore (Some st) → HasSoundStore (Some (after_lent st steps))

-- other windows change nothing of it
windowed : (st : LanesState) (windows : WindowsValue) → Sound st → Sound (record st { windows = windows })
windowed st windows (made, lanes) = (made, record { as_many = lanes.as_many; queue = lanes.queue; made = lanes.made })

-- nor do windows to which a seat gave back what it held
pub gone-sound : (seat : Seat) (st : LanesState) → Sound st → Sound (seat_gone seat st).store
unfolding stage_gone
gone-sound seat st sound = windowed st (seat_gone seat st).store.windows sound

module _ (lent : LentLaw) where
  turned-sound : (link : LaneLink) → Sound link.lanes → Sound (turned link).lanes
  turned-sound link sound = go link.active where
    go : (active : Option ℕ) → Sound (turned_by link.lanes active)
    go None = sound
    go (Some n) = lent link.lanes (TakesTurn n ∷ []) sound

  unwanted-sound : (link : LaneLink) (brick : BrickNo) → Sound link.lanes → Sound (unwanted link brick).lanes
  unwanted-sound link brick sound = lent link.lanes (HearsNone brick.0 ∷ []) sound

  wanted-sound : (b : Bool) (link : LaneLink) (brick : BrickNo) → Sound link.lanes → Sound (if b then turned link else unwanted link brick).lanes
  wanted-sound true link brick sound = turned-sound link sound
  wanted-sound false link brick sound = unwanted-sound link brick sound

  over-sound : (ask : List ℕ) (wanted : StubNext) (link : LaneLink) → Sound link.lanes → Sound (heard_over lane_replies ask wanted link).1.lanes
  unfolding lane_replies
  over-sound ask (next.Send brick) link sound = wanted-sound (wants_to_send link brick ask) link brick sound
  over-sound ask (next.Receive brick) link sound = wanted-sound (wants_to_hear link brick) link brick sound
  over-sound ask next.Ended link sound = sound

  way-sound : (to : SessionWay) (link : LaneLink) → Sound link.lanes → Sound (way_outside lane_replies to link).1.lanes
  way-sound way.Resting link sound = sound
  way-sound (way.Reading r) link sound = over-sound (encode_of (read_ask r)) (read_machine.next r) link sound
  way-sound (way.Ordered order) link sound = sound
  way-sound (way.Writing w) link sound = over-sound (encode_of w.write.ask) (write_machine.next w.write) link sound
  way-sound (way.Settling w) link sound = over-sound (encode_of w.write.ask) (write_machine.next w.write) link sound
  way-sound (way.Holding passes) link sound = sound

  outside-sound : (stage : Stage ActionCall) (link : LaneLink) → Sound link.lanes → Sound (steps_in (outside lane_replies lane_link_tally) stage link).1.lanes
  unfolding outside
  outside-sound Resting link sound = sound
  outside-sound (Serving v call) link sound = way-sound v.way link sound
  outside-sound (Refusing why bytes) link sound = sound
  outside-sound (Over end) link sound = sound

  abbrev Mid : World ActionCall LaneLink → LanesState
  Mid e = record (e.link.lanes) { windows = e.windows }

  event-sound : (g : SeatGivens) (seat : Seat) (w : SeatWorld) (t : ShepherdTurn) → Sound w.store → Sound (Mid (event_at (givens_in g w) t (seen_by seat w)).0)
  event-sound g seat w turns.Bytes sound = sound
  event-sound g seat w turns.Request sound = sound
  event-sound g seat w turns.Outside sound =
      let e = (event_at (givens_in g w) turns.Outside (seen_by seat w)).0 in
      windowed e.link.lanes e.windows (outside-sound seat.connection.stage (record { lanes = w.store; active = seat.twin }) sound)
  event-sound g seat w turns.Windows sound =
      windowed w.store (event_at (givens_in g w) turns.Windows (seen_by seat w)).0.windows sound
  event-sound g seat w turns.Inside sound = sound
  event-sound g seat w turns.Program sound = sound
  event-sound g seat w turns.Own sound = sound
  event-sound g seat w turns.Output sound = sound
  event-sound g seat w turns.Item sound = sound
  event-sound g seat w (turns.Ended end) sound = sound

  -- Bricks stay sound behind a step of a seat.
  pub step-sound : (g : SeatGivens) (seat : Seat) (w : SeatWorld) → Sound w.store → Sound (seat_step g seat w).world.store
  unfolding seat_step step
  step-sound g seat w sound =
      let end : SessionWay = way_in (seat_step g seat w).seat.connection.stage in
      let mid : LanesState = Mid (event_at (givens_in g w) (turn seat.connection) (seen_by seat w)).0 in
      subst Sound (sym (twin-begins (call_held end) seat.twin end mid))
      (lent mid (begin_steps (call_held end) seat.twin end) (event-sound g seat w (turn seat.connection) sound))
