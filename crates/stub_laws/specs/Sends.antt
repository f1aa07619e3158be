-- What the calls of a link send, and to which bricks.
use Rattle.std.specs.Prelude.{ℕ, List, map, filter_map, Option, Some, None}
use Rattle.crash_base.specs.declared.numbers.BrickNo.{BrickNo}
use Rattle.outside.specs.declared.link.LinkEvent.{LinkEvent}
use Rattle.outside.specs.declared.link.LinkEvent.TheVariants.{Sends, SendsInSilence, Gets, HearsSilence, WantsToSend, WantsToReceive}
use Rattle.session_cookie.specs.declared.cookie.Holder.{Holder}

-- A frame that was sent, and the brick to which it went.
pub record SentFrame : Type 0 where
  pub to : BrickNo
  pub frame : List ℕ

-- what a call of the link sends, if it sends: also where the brick was silent
abbrev pub send_in : LinkEvent → Option SentFrame
send_in (Sends to frame) = Some (record { to = to; frame = frame })
send_in (SendsInSilence to frame) = Some (record { to = to; frame = frame })
send_in (Gets from frame) = None
send_in (HearsSilence from) = None
send_in (WantsToSend to frame) = None
send_in (WantsToReceive from) = None

-- what calls of the link send, in order
abbrev pub sends_in : List LinkEvent → List SentFrame
sends_in calls = filter_map send_in calls

-- one ask, sent to each of these bricks once, in order
abbrev pub each_sent : List ℕ → List BrickNo → List SentFrame
each_sent ask bricks = map (λ (brick : BrickNo). record { to = brick; frame = ask }) bricks

-- the bricks of holders
abbrev pub bricks_of_holders : List Holder → List BrickNo
bricks_of_holders holders = map (λ (holder : Holder). holder.brick) holders
