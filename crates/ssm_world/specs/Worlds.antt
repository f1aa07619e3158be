-- A world: the bricks by their histories, all packets ever sent, and all calls; and its events.
use Rattle.std.specs.Prelude.{◌≡◌, ℕ, zero, suc, ◌==◌, ◌&&◌, ◌||◌, ◌-◌, ◌^◌, nat_lt, nat_le, not, Bool, true, false, if◌then◌else◌, List, [], ◌∷◌, ◌++◌, length, map, slice_get, slice_set, Option, Some, None, is_some}
use Rattle.std.specs.Option.{option_and_then}
use Rattle.std.specs.List.{list_any}
use lib.ListN.{replicate}
use Rattle.crash_base.specs.declared.numbers.BrickNo.{BrickNo}
use Rattle.crash_base.specs.declared.numbers.Moment.{Moment}
use Rattle.crash_base.specs.declared.numbers.Version.{Version}
use Rattle.crash_base.specs.Same.{same_version}
use Rattle.session_cookie.specs.declared.cookie.Holder.{Holder}
use Rattle.session_cookie.specs.declared.cookie.TheConstants.{MAX_HOLDERS}
use Rattle.ssm_frames.specs.declared.frame.Frame.{Frame}
use Rattle.ssm_frames.specs.Requests.{is_request}
use Rattle.brick_store.specs.declared.event.BrickEvent.{BrickEvent}
use Rattle.brick_store.specs.declared.event.BrickEvent.TheVariants as happened
use Rattle.brick_store.specs.Bricks.{BrickValue, reply}
use Rattle.brick_store.specs.History.{all_held, incarnation_after, swept_after}
use Rattle.brick_store.specs.Standing.{heard}
use Rattle.ssm_stub.specs.declared.event.Told.{Told}
use Rattle.ssm_stub.specs.declared.event.Told.TheVariants as told
use Rattle.ssm_stub.specs.declared.event.StubNext.{StubNext}
use Rattle.ssm_stub.specs.declared.event.StubNext.TheVariants as next
use Rattle.ssm_stub.specs.Writes.{write_start, write_next, hear_write}
use Rattle.ssm_stub.specs.Reads.{read_start, read_ask, read_next, hear_read}
use Rattle.ssm_world.specs.declared.call.Call.{Call}
use Rattle.ssm_world.specs.declared.call.Call.TheVariants as call
use Rattle.ssm_world.specs.declared.event.Packet.{Packet}
use Rattle.ssm_world.specs.declared.event.WorldEvent.{WorldEvent}
use Rattle.ssm_world.specs.declared.event.WorldEvent.TheVariants.{Write, Read, Send, Deliver, Hear, Hush, Crash, Sweep}

-- A world: the histories of bricks 1, 2 and so on, newest event first; and all packets ever sent and all
-- calls, oldest first.
pub record WorldValue : Type 0 where
  pub histories : List (List BrickEvent)
  pub packets : List Packet
  pub calls : List Call

-- a world of so many bricks, each of incarnation 1, before any event
abbrev pub new_world : ℕ → WorldValue
new_world bricks = record { histories = replicate bricks []; packets = []; calls = [] }

-- the nonce of a call
abbrev pub nonce_of : Call → Version
nonce_of (call.Write s) = s.nonce
nonce_of (call.Read s) = s.nonce

-- the request by which a call asks
abbrev pub ask_of : Call → Frame
ask_of (call.Write s) = s.ask
ask_of (call.Read s) = read_ask s

-- what a call wants next
abbrev pub next_of : Call → StubNext
next_of (call.Write s) = write_next s
next_of (call.Read s) = read_next s

-- a call after it was told something
abbrev pub hear : Call → Told → Call
hear (call.Write s) told = call.Write (hear_write s told)
hear (call.Read s) told = call.Read (hear_read s told)

-- the history at the place of a number, if there is one
abbrev pub history_at : List (List BrickEvent) → ℕ → Option (List BrickEvent)
history_at histories zero = None
history_at histories (suc place) = slice_get histories place

-- the history of the brick of a number, if there is one
abbrev pub history : WorldValue → BrickNo → Option (List BrickEvent)
history w brick = history_at w.histories brick.0

-- the histories with this one at the place of a number
abbrev pub with_history_at : List (List BrickEvent) → ℕ → List BrickEvent → List (List BrickEvent)
with_history_at histories zero h = histories
with_history_at histories (suc place) h = slice_set histories place h

-- the world with this history of a brick
abbrev pub with_history : WorldValue → BrickNo → List BrickEvent → WorldValue
with_history w brick h = record w { histories = with_history_at w.histories brick.0 h }

-- the world with one packet more
abbrev pub with_packet : WorldValue → Packet → WorldValue
with_packet w packet = record w { packets = w.packets ++ packet ∷ [] }

-- the world with one packet more, if there is one
abbrev pub with_sent : WorldValue → Option Packet → WorldValue
with_sent w None = w
with_sent w (Some packet) = with_packet w packet

-- the world with one call more
abbrev pub with_new_call : WorldValue → Call → WorldValue
with_new_call w c = record w { calls = w.calls ++ c ∷ [] }

-- the world with this call at a place
abbrev pub with_call : WorldValue → ℕ → Call → WorldValue
with_call w place c = record w { calls = slice_set w.calls place c }

-- whether no call has this nonce
abbrev pub is_new : WorldValue → Version → Bool
is_new w nonce = not (list_any (λ (c : Call). same_version (nonce_of c) nonce) w.calls)

-- whether a brick is this one
abbrev pub same_brick : BrickNo → BrickNo → Bool
same_brick a b = a.0 == b.0

-- whether no brick stands twice
abbrev pub are_distinct : List BrickNo → Bool
are_distinct [] = true
are_distinct (brick ∷ bricks) = not (list_any (same_brick brick) bricks) && are_distinct bricks

-- whether a call may ask these: they are 1 to 16 distinct bricks
abbrev pub may_be_asked : List BrickNo → Bool
may_be_asked bricks =
    (nat_le 1 (length bricks) && nat_le (length bricks) MAX_HOLDERS) && are_distinct bricks

-- whether a write may begin with this nonce, at these bricks, of which so many are to store
abbrev pub may_write : WorldValue → Version → List BrickNo → ℕ → Bool
may_write w nonce bricks least =
    (is_new w nonce && may_be_asked bricks) && (nat_le 1 least && nat_le least (length bricks))

-- the bricks of holders
abbrev pub bricks_of : List Holder → List BrickNo
bricks_of holders = map (λ (holder : Holder). holder.brick) holders

-- whether a read may begin with this nonce, at these holders
abbrev pub may_read : WorldValue → Version → List Holder → Bool
may_read w nonce holders = is_new w nonce && may_be_asked (bricks_of holders)

-- what a call that wants this is told where it sends, or the link is silent to that
abbrev pub told_by_send : Bool → StubNext → Option Told
told_by_send silent (next.Send brick) = Some (if silent then told.Silent else told.Sent)
told_by_send silent (next.Receive brick) = None
told_by_send silent next.Ended = None

-- what it is told where the link is silent to its receiving
abbrev pub told_by_hush : StubNext → Option Told
told_by_hush (next.Send brick) = None
told_by_hush (next.Receive brick) = Some told.Silent
told_by_hush next.Ended = None

-- what it is told where a packet comes that is a reply of the brick that it receives from
abbrev pub told_by_packet : Option Packet → StubNext → Option Told
told_by_packet packet (next.Send brick) = None
told_by_packet None (next.Receive brick) = None
told_by_packet (Some packet) (next.Receive brick) =
    if same_brick packet.brick brick && not (is_request packet.frame)
    then Some (told.Came (Some packet.frame))
    else None
told_by_packet packet next.Ended = None

-- the packet with the ask of a call that wants this, where it is sent
abbrev pub packet_by_send : Bool → Frame → StubNext → Option Packet
packet_by_send is_sent ask (next.Send brick) =
    if is_sent then Some (record { brick = brick; frame = ask }) else None
packet_by_send is_sent ask (next.Receive brick) = None
packet_by_send is_sent ask next.Ended = None

-- the world where the call at a place was told this, if it was told anything
abbrev pub with_told : WorldValue → ℕ → Call → Option Told → WorldValue
with_told w place c None = w
with_told w place c (Some told) = with_call w place (hear c told)

-- the world after a call sent, and the packet was sent or not
abbrev pub sent : WorldValue → ℕ → Bool → Bool → Option Call → WorldValue
sent w place silent is_sent None = w
sent w place silent is_sent (Some c) =
    with_sent (with_told w place c (told_by_send silent (next_of c)))
    (packet_by_send is_sent (ask_of c) (next_of c))

-- the world after a packet came to a call
abbrev pub came : WorldValue → ℕ → Option Packet → Option Call → WorldValue
came w place packet None = w
came w place packet (Some c) = with_told w place c (told_by_packet packet (next_of c))

-- the world after the link was silent to a call that receives
abbrev pub hushed : WorldValue → ℕ → Option Call → WorldValue
hushed w place None = w
hushed w place (Some c) = with_told w place c (told_by_hush (next_of c))

-- a brick of this number that went through this history, from incarnation 1 on
abbrev pub brick_after : BrickNo → List BrickEvent → BrickValue
brick_after number h =
    record {
      number = number;
      incarnation = incarnation_after 1 h;
      swept = swept_after h;
      kept = all_held h;
    }

-- the world after a brick of this history replied to a packet, if it did: the reply is sent
abbrev pub replied : WorldValue → Packet → List BrickEvent → Option Frame → WorldValue
replied w packet h None = w
replied w packet h (Some frame) =
    with_packet (with_history w packet.brick (heard h packet.frame))
    (record { brick = packet.brick; frame = frame })

-- the world after a packet reached its brick, if there is one
abbrev pub reached : WorldValue → Packet → Option (List BrickEvent) → WorldValue
reached w packet None = w
reached w packet (Some h) = replied w packet h (reply (brick_after packet.brick h) packet.frame)

-- the world after a packet was delivered, if there is one
abbrev pub delivered : WorldValue → Option Packet → WorldValue
delivered w None = w
delivered w (Some packet) = reached w packet (history w packet.brick)

-- the world after a brick crashed, if there is one and its incarnation is not the last
abbrev pub crashed : WorldValue → BrickNo → Option (List BrickEvent) → WorldValue
crashed w brick None = w
crashed w brick (Some h) =
    if nat_lt (incarnation_after 1 h) (2 ^ 64 - 1) then with_history w brick (happened.Crash ∷ h) else w

-- the world after a brick was swept, if there is one
abbrev pub swept : WorldValue → BrickNo → Moment → Option (List BrickEvent) → WorldValue
swept w brick moment None = w
swept w brick moment (Some h) = with_history w brick (happened.Sweep moment ∷ h)

-- The world after an event. An event that may not happen changes nothing.
abbrev pub step : WorldValue → WorldEvent → WorldValue
step w (Write nonce key value expiry bricks least) =
    if may_write w nonce bricks least
    then with_new_call w (call.Write (write_start bricks least nonce key value expiry))
    else w
step w (Read nonce moment cookie) =
    if may_read w nonce cookie.bricks then with_new_call w (call.Read (read_start moment nonce cookie)) else w
step w (Send place silent is_sent) =
    sent w place silent (not silent || is_sent) (slice_get w.calls place)
step w (Deliver packet) = delivered w (slice_get w.packets packet)
step w (Hear place packet) = came w place (slice_get w.packets packet) (slice_get w.calls place)
step w (Hush place) = hushed w place (slice_get w.calls place)
step w (Crash brick) = crashed w brick (history w brick)
step w (Sweep brick moment) = swept w brick moment (history w brick)

-- what a call at a place is told, if there is one
abbrev pub told_if : (StubNext → Option Told) → Option Call → Option Told
told_if told c = option_and_then (λ (c : Call). told (next_of c)) c

-- what a brick replies to a packet that reaches it, if it does
abbrev pub reply_to : Packet → Option (List BrickEvent) → Option Frame
reply_to packet h =
    option_and_then (λ (h : List BrickEvent). reply (brick_after packet.brick h) packet.frame) h

-- whether a brick of this history, if there is one, may crash: its incarnation is not the last
abbrev pub may_crash : Option (List BrickEvent) → Bool
may_crash None = false
may_crash (Some h) = nat_lt (incarnation_after 1 h) (2 ^ 64 - 1)

-- Whether an event may happen.
abbrev pub may_happen : WorldValue → WorldEvent → Bool
may_happen w (Write nonce key value expiry bricks least) = may_write w nonce bricks least
may_happen w (Read nonce moment cookie) = may_read w nonce cookie.bricks
may_happen w (Send place silent is_sent) =
    is_some (told_if (told_by_send silent) (slice_get w.calls place))
may_happen w (Deliver packet) =
    is_some (option_and_then (λ (p : Packet). reply_to p (history w p.brick)) (slice_get w.packets packet))
may_happen w (Hear place packet) =
    is_some (told_if (told_by_packet (slice_get w.packets packet)) (slice_get w.calls place))
may_happen w (Hush place) = is_some (told_if told_by_hush (slice_get w.calls place))
may_happen w (Crash brick) = may_crash (history w brick)
may_happen w (Sweep brick moment) = is_some (history w brick)

-- the world after events, the first first
abbrev pub after : WorldValue → List WorldEvent → WorldValue
after w [] = w
after w (event ∷ events) = after (step w event) events

-- some events made this world of a new one
pub record IsMade (w : WorldValue) : Type 0 where
  pub bricks : ℕ
  pub events : List WorldEvent
  pub made : w ≡ after (new_world bricks) events
