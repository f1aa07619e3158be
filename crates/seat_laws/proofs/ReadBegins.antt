-- A read that is in a world, and was not in an earlier one, began by an event between.
use Rattle.std.proofs.Common.{◌≡◌, ◌⊎◌, inl, inr, ◌∙◌, ◌<◌, ◌≤◌, ◌-◌, ◌^◌, nat_lt, ℕ, Bool, true, false, not, ◌||◌, if◌then◌else◌, List, [], ◌∷◌, ◌++◌, length, Option, Some, None, refl, sym, ap, subst, arith}
use Rattle.std.specs.Prelude.{slice_get}
use Rattle.std.proofs.lemmas.Bool.{cases_lt}
use Rattle.std.proofs.lemmas.List.{length-append, length-set}
use Rattle.std.proofs.lemmas.Option.{slice_get_within}
use Rattle.brick_store.specs.Bricks.{reply}
use Rattle.brick_store.specs.declared.event.BrickEvent.{BrickEvent}
use Rattle.brick_store.specs.declared.event.BrickEvent.TheVariants as happened
use Rattle.brick_store.specs.History.{incarnation_after}
use Rattle.crash_base.specs.declared.numbers.BrickNo.{BrickNo}
use Rattle.crash_base.specs.declared.numbers.Moment.{Moment}
use Rattle.session_cookie.specs.declared.cookie.Holder.{Holder}
use Rattle.ssm_frames.specs.declared.frame.Frame.{Frame}
use Rattle.ssm_stub.specs.Reads.{ReadState, read_start}
use Rattle.ssm_stub.specs.Writes.{WriteState, write_start}
use Rattle.ssm_stub.specs.declared.event.Told.{Told}
use Rattle.ssm_stub.specs.declared.reply.ReadReply.{ReadReply}
use Rattle.ssm_world.proofs.Asks.{asked_none}
use Rattle.ssm_world.proofs.Lists.{get_new}
use Rattle.ssm_world.proofs.Making.{step_made}
use Rattle.ssm_world.proofs.Steps.{worlds_grow}
use Rattle.ssm_world.specs.Claims.{ReadOrder, read_world}
use Rattle.ssm_world.specs.Sound.{Grows, asked_of, untold}
use Rattle.ssm_world.specs.Worlds.{IsMade, WorldValue, after, ask_of, brick_after, came, crashed, delivered, hear, history, hushed, may_read, may_write, next_of, packet_by_send, reached, replied, sent, step, swept, told_by_hush, told_by_packet, told_by_send, with_history, with_new_call, with_sent, with_told}
use Rattle.ssm_world.specs.declared.call.Call.{Call}
use Rattle.ssm_world.specs.declared.call.Call.TheVariants as call
use Rattle.ssm_world.specs.declared.event.Packet.{Packet}
use Rattle.ssm_world.specs.declared.event.WorldEvent.{WorldEvent}
use Rattle.ssm_world.specs.declared.event.WorldEvent.TheVariants.{Write, Read, Send, Deliver, Hear, Hush, Crash, Sweep}
use Rattle.seat_laws.specs.Reads.{order_of}

-- a world has as many calls as another one
abbrev AsMany : WorldValue → WorldValue → Type 0
AsMany w v = length v.calls ≡ length w.calls

told-many : (w : WorldValue) (place : ℕ) (c : Call) (o : Option Told) → AsMany w (with_told w place c o)
told-many w place c None = refl
told-many w place c (Some t) = length-set w.calls place (hear c t)

sent-many : (w : WorldValue) (o : Option Packet) → AsMany w (with_sent w o)
sent-many w None = refl
sent-many w (Some packet) = refl

sends-many : (w : WorldValue) (place : ℕ) (silent is_sent : Bool) (o : Option Call) → AsMany w (sent w place silent is_sent o)
sends-many w place silent is_sent None = refl
sends-many w place silent is_sent (Some c) =
    sent-many (with_told w place c (told_by_send silent (next_of c))) (packet_by_send is_sent (ask_of c) (next_of c))
    ∙ told-many w place c (told_by_send silent (next_of c))

came-many : (w : WorldValue) (place : ℕ) (packet : Option Packet) (o : Option Call) → AsMany w (came w place packet o)
came-many w place packet None = refl
came-many w place packet (Some c) = told-many w place c (told_by_packet packet (next_of c))

hushed-many : (w : WorldValue) (place : ℕ) (o : Option Call) → AsMany w (hushed w place o)
hushed-many w place None = refl
hushed-many w place (Some c) = told-many w place c (told_by_hush (next_of c))

replied-many : (w : WorldValue) (p : Packet) (h : List BrickEvent) (o : Option Frame) → AsMany w (replied w p h o)
replied-many w p h None = refl
replied-many w p h (Some frame) = refl

reached-many : (w : WorldValue) (p : Packet) (o : Option (List BrickEvent)) → AsMany w (reached w p o)
reached-many w p None = refl
reached-many w p (Some h) = replied-many w p h (reply (brick_after p.brick h) p.frame)

delivered-many : (w : WorldValue) (o : Option Packet) → AsMany w (delivered w o)
delivered-many w None = refl
delivered-many w (Some p) = reached-many w p (history w p.brick)

crashed-many : (w : WorldValue) (brick : BrickNo) (o : Option (List BrickEvent)) → AsMany w (crashed w brick o)
crashed-many w brick None = refl
crashed-many w brick (Some h) = by (nat_lt (incarnation_after 1 h) (2 ^ 64 - 1)) where
  by : (b : Bool) → AsMany w (if b then with_history w brick (happened.Crash ∷ h) else w)
  by true = refl
  by false = refl

swept-many : (w : WorldValue) (brick : BrickNo) (moment : Moment) (o : Option (List BrickEvent)) → AsMany w (swept w brick moment o)
swept-many w brick moment None = refl
swept-many w brick moment (Some h) = refl

-- A call began by an event, as the last one.
record Begun (w : WorldValue) (e : WorldEvent) (c : Call) : Type 0 where
  calls : (step w e).calls ≡ w.calls ++ c ∷ []

-- A read began so.
record BegunRead (w : WorldValue) (e : WorldEvent) : Type 0 where
  order : ReadOrder
  event_is : e ≡ Read order.nonce order.moment order.cookie
  may_begin : may_read w order.nonce order.cookie.bricks ≡ true
  begun : Begun w e (call.Read (read_start order.moment order.nonce order.cookie))

-- a write began so
BegunWrite : WorldValue → WorldEvent → Type 0
BegunWrite w e = (s : WriteState) × Begun w e (call.Write s)

-- what an event does to the calls
abbrev Calls : WorldValue → WorldEvent → Type 0
Calls w e = AsMany w (step w e) ⊎ (BegunWrite w e ⊎ BegunRead w e)

step-calls : (w : WorldValue) (e : WorldEvent) → Calls w e
unfolding BegunWrite
step-calls w (Write nonce key value expiry bricks least) = by (may_write w nonce bricks least) refl where
  s : WriteState
  s = write_start bricks least nonce key value expiry

  by : (b : Bool) → may_write w nonce bricks least ≡ b → Calls w (Write nonce key value expiry bricks least)
  by true is = inr (inl (s, record { calls = ap (λ (x : Bool). (if x then with_new_call w (call.Write s) else w).calls) is }))
  by false is = inl (ap (λ (x : Bool). length (if x then with_new_call w (call.Write s) else w).calls) is)
step-calls w (Read nonce moment cookie) = by (may_read w nonce cookie.bricks) refl where
  c : Call
  c = call.Read (read_start moment nonce cookie)

  by : (b : Bool) → may_read w nonce cookie.bricks ≡ b → Calls w (Read nonce moment cookie)
  by true is = inr (inr (record {
    order = record { nonce = nonce; moment = moment; cookie = cookie };
    event_is = refl;
    may_begin = is;
    begun = record { calls = ap (λ (x : Bool). (if x then with_new_call w c else w).calls) is };
  }))
  by false is = inl (ap (λ (x : Bool). length (if x then with_new_call w c else w).calls) is)
step-calls w (Send place silent is_sent) = inl (sends-many w place silent (not silent || is_sent) (slice_get w.calls place))
step-calls w (Deliver packet) = inl (delivered-many w (slice_get w.packets packet))
step-calls w (Hear place packet) = inl (came-many w place (slice_get w.packets packet) (slice_get w.calls place))
step-calls w (Hush place) = inl (hushed-many w place (slice_get w.calls place))
step-calls w (Crash brick) = inl (crashed-many w brick (history w brick))
step-calls w (Sweep brick moment) = inl (swept-many w brick moment (history w brick))

-- events that were made one after the other
pub after-on : (first : List WorldEvent) (w : WorldValue) (more : List WorldEvent) → after w (first ++ more) ≡ after (after w first) more
after-on [] w more = refl
after-on (e ∷ first) w more = after-on first (step w e) more

-- the order of a call that is a read, and else this
order_in : ReadOrder → Call → ReadOrder
order_in other (call.Write s) = other
order_in other (call.Read s) = order_of s

-- a read is ordered as it was before it heard anything
untold-order : (other : ReadOrder) (r : ReadState) → order_in other (untold (call.Read r)) ≡ order_of r
unfolding order_in
untold-order other r =
    ap (λ (hs : List Holder). let o : ReadOrder = record { nonce = r.nonce; moment = r.moment; cookie = record { key = r.key; version = r.version; expiry = r.expiry; bricks = hs } } in o)
    (asked_none ReadReply (asked_of r.asks))

start-order : (order : ReadOrder) → order_of (read_start order.moment order.nonce order.cookie) ≡ order
start-order order =
    ap (λ (hs : List Holder). let o : ReadOrder = record { nonce = order.nonce; moment = order.moment; cookie = record (order.cookie) { bricks = hs } } in o)
    (asked_none ReadReply order.cookie.bricks)

same-order : (order : ReadOrder) (r : ReadState) → untold (call.Read r) ≡ untold (call.Read (read_start order.moment order.nonce order.cookie)) → order_of r ≡ order
same-order order r same =
    sym (untold-order order r) ∙ ap (order_in order) same ∙ untold-order order (read_start order.moment order.nonce order.cookie) ∙ start-order order

-- a world that events made has grown by others
made-grows : (w : WorldValue) (later : List WorldEvent) → IsMade w → Grows w (after w later)
made-grows w later made = subst (λ (v : WorldValue). Grows v (after v later)) (sym made.made) (worlds_grow made.bricks made.events later)

-- How a read began among events that follow a world.
pub record ReadBegan (w : WorldValue) (events : List WorldEvent) (place : ℕ) (r : ReadState) : Type 0 where
  pub before : List WorldEvent
  pub since : List WorldEvent
  pub parts : after w events ≡ read_world (after w before) (order_of r) since
  pub may_begin : may_read (after w before) r.nonce (order_of r).cookie.bricks ≡ true
  pub place_is : place ≡ length (after w before).calls

-- the call that began by an event, as it is after others
begun-there : (w : WorldValue) (e : WorldEvent) (events : List WorldEvent) (c d : Call) (place : ℕ) → IsMade w → Begun w e c → place ≡ length w.calls → slice_get (after (step w e) events).calls place ≡ Some d → untold d ≡ untold c
begun-there w e events c d place made begun at there =
    let first : slice_get (step w e).calls place ≡ Some c = ap (slice_get (step w e).calls) at ∙ ap (λ (cs : List Call). slice_get cs (length w.calls)) begun.calls ∙ get_new w.calls c in
    let grown = (made-grows (step w e) events (step_made w e made)).calls place c first in
    let same : Some d ≡ Some grown.0 = sym there ∙ grown.1 in
    let is : d ≡ grown.0 = cc in
    ap untold is ∙ grown.2

-- a place is that of the last call, or behind it
behind : (w : WorldValue) (e : WorldEvent) (c : Call) (place : ℕ) → Begun w e c → length w.calls < place → length (step w e).calls ≤ place
behind w e c place begun more = omega (arith, ap (λ (cs : List Call). length cs) begun.calls, length-append w.calls (c ∷ []), more)

at-last : (m n : ℕ) → m ≤ n → (n ≡ m) ⊎ (m < n)
at-last m n le = elim (cases_lt m n) [
  | inl less ↦ inr less
  | inr not ↦ inl (omega (arith, le, not))
]

later-began : (w : WorldValue) (e : WorldEvent) (events : List WorldEvent) (place : ℕ) (r : ReadState) → ReadBegan (step w e) events place r → ReadBegan w (e ∷ events) place r
later-began w e events place r began =
    record { before = e ∷ began.before; since = began.since; parts = began.parts; may_begin = began.may_begin; place_is = began.place_is }

now-began : (w : WorldValue) (e : WorldEvent) (events : List WorldEvent) (place : ℕ) (r : ReadState) → IsMade w → (x : BegunRead w e) → place ≡ length w.calls
    → slice_get (after (step w e) events).calls place ≡ Some (call.Read r) → ReadBegan w (e ∷ events) place r
now-began w e events place r made x at there =
    let same : order_of r ≡ x.order = same-order x.order r (begun-there w e events (call.Read (read_start x.order.moment x.order.nonce x.order.cookie)) (call.Read r) place made x.begun at there) in
    record {
      before = [];
      since = events;
      parts = ap (λ (v : WorldEvent). after (step w v) events) (x.event_is ∙ ap (λ (o : ReadOrder). Read o.nonce o.moment o.cookie) (sym same));
      may_begin = ap (λ (o : ReadOrder). may_read w o.nonce o.cookie.bricks) same ∙ x.may_begin;
      place_is = at;
    }

-- no write is a read later
no-write : (w : WorldValue) (e : WorldEvent) (events : List WorldEvent) (place : ℕ) (r : ReadState) → IsMade w → (x : BegunWrite w e) → place ≡ length w.calls
    → slice_get (after (step w e) events).calls place ≡ Some (call.Read r) → ⊥
unfolding BegunWrite
no-write w e events place r made x at there =
    let same : untold (call.Read r) ≡ untold (call.Write x.0) = begun-there w e events (call.Write x.0) (call.Read r) place made x.1 at there in cc

begun-write : (w : WorldValue) (e : WorldEvent) (place : ℕ) → BegunWrite w e → length w.calls < place → length (step w e).calls ≤ place
unfolding BegunWrite
begun-write w e place x more = behind w e (call.Write x.0) place x.1 more

-- calls never go
pub calls-rise : (events : List WorldEvent) (w : WorldValue) → length w.calls ≤ length (after w events).calls
unfolding BegunWrite
calls-rise [] w = omega arith
calls-rise (e ∷ events) w =
    let more : length (step w e).calls ≤ length (after (step w e) events).calls = calls-rise events (step w e) in
    elim (step-calls w e) [
      | inl many ↦ omega (arith, many, more)
      | inr (inl x) ↦ omega (arith, ap (λ (cs : List Call). length cs) x.1.calls, length-append w.calls (call.Write x.0 ∷ []), more)
      | inr (inr x) ↦ omega (arith, ap (λ (cs : List Call). length cs) x.begun.calls, length-append w.calls (call.Read (read_start x.order.moment x.order.nonce x.order.cookie) ∷ []), more)
    ]

-- A read that is behind the calls of a world began among the events since.
pub read-began : (events : List WorldEvent) (w : WorldValue) (place : ℕ) (r : ReadState) → IsMade w → slice_get (after w events).calls place ≡ Some (call.Read r) → length w.calls ≤ place → ReadBegan w events place r
read-began [] w place r made there late = absurd (let within : place < length w.calls = slice_get_within w.calls place (call.Read r) there in omega arith)
read-began (e ∷ events) w place r made there late =
    let on : length (step w e).calls ≤ place → ReadBegan w (e ∷ events) place r =
    λ behind_it. later-began w e events place r (read-began events (step w e) place r (step_made w e made) there behind_it) in
    elim (step-calls w e) [
      | inl many ↦ on (omega (arith, many, late))
      | inr (inl x) ↦ elim (at-last (length w.calls) place late) [
        | inl at ↦ absurd (no-write w e events place r made x at there)
        | inr more ↦ on (begun-write w e place x more)
      ]
      | inr (inr x) ↦ elim (at-last (length w.calls) place late) [
        | inl at ↦ now-began w e events place r made x at there
        | inr more ↦ on (behind w e (call.Read (read_start x.order.moment x.order.nonce x.order.cookie)) place x.begun more)
      ]
    ]
