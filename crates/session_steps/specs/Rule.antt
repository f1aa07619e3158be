-- What a read answers, by the lanes and the histories of the bricks when it begins.
use Rattle.std.specs.Prelude.{ℕ, ◌+◌, nat_lt, ◌||◌, if◌then◌else◌, List, length, map, filter_map, Option, Some, None, Result, Ok, Err}
use Rattle.std.specs.Option.{option_and_then}
use Rattle.crash_base.specs.declared.numbers.Moment.{Moment}
use Rattle.crash_base.specs.declared.numbers.Version.{Version}
use Rattle.session_cookie.specs.declared.cookie.Cookie.{Cookie}
use Rattle.session_cookie.specs.declared.cookie.Holder.{Holder}
use Rattle.ssm_frames.specs.declared.frame.Frame.TheVariants.{Get}
use Rattle.brick_store.specs.declared.event.BrickEvent.{BrickEvent}
use Rattle.ssm_stub.specs.declared.ask.Ask.{Ask}
use Rattle.ssm_stub.specs.declared.cause.BrickCause.{BrickCause}
use Rattle.ssm_stub.specs.declared.ear.TheConstants.{MAX_STRAYS}
use Rattle.ssm_stub.specs.declared.ear.Outcome.{Outcome}
use Rattle.ssm_stub.specs.declared.ear.Outcome.TheVariants.{Answered, Silent, Strayed}
use Rattle.ssm_stub.specs.declared.ear.Ear.TheVariants.{Heard}
use Rattle.ssm_stub.specs.declared.reply.ReadReply.{ReadReply}
use Rattle.ssm_stub.specs.declared.read_call.ReadRefusal.{ReadRefusal}
use Rattle.ssm_stub.specs.declared.read_call.ReadRefusal.TheVariants.{Expired, Lost}
use Rattle.ssm_stub.specs.Reads.{get_lawful, found_in, loss_of}
use Rattle.ssm_world.specs.Worlds.{history, reply_to}
use Rattle.session_lanes.specs.Lane.{LaneState, lane_at}
use Rattle.session_lanes.specs.Lanes.{LanesState}

-- the lawful reply of a holder's brick, by its history, to a read with this nonce of a cookie; None where its reply is
-- not lawful
abbrev pub reply_by : Option (List BrickEvent) → Version → Cookie → Holder → Option ReadReply
reply_by h nonce cookie holder =
    option_and_then (get_lawful nonce cookie.key cookie.version cookie.expiry holder)
    (reply_to (record { brick = holder.brick; frame = Get nonce cookie.key cookie.version }) h)

-- what is heard of a brick whose reply comes behind so many others: one that is not lawful is a stray as they are
abbrev pub heard_behind : ℕ → Option ReadReply → Outcome ReadReply
heard_behind others (Some reply) = Answered reply
heard_behind others None = if nat_lt (others + 1) MAX_STRAYS then Silent else Strayed

-- What is heard of a brick with this lane, whose reply would be this. 64 replies to other calls are strays enough. Of
-- fewer, a brick is silent behind them whose ask is dropped or whose reply is lost.
abbrev pub heard_on_lane : Option LaneState → Option ReadReply → Outcome ReadReply
heard_on_lane None reply = Silent
heard_on_lane (Some lane) reply =
    if nat_lt (length lane.queue) MAX_STRAYS
    then (if nat_lt 0 lane.to_drop || nat_lt 0 lane.to_lose then Silent else heard_behind (length lane.queue) reply)
    else Strayed

-- what a read with this nonce of a cookie hears of a holder that it asks
abbrev pub outcome_by_rule : LanesState → Version → Cookie → Holder → Outcome ReadReply
outcome_by_rule st nonce cookie holder =
    heard_on_lane (lane_at st.lanes holder.brick.0) (reply_by (history st.world holder.brick) nonce cookie holder)

-- the holders of a cookie, each with what a read with this nonce hears of it
abbrev pub asks_by_rule : LanesState → Version → Cookie → List (Ask Holder ReadReply)
asks_by_rule st nonce cookie =
    map (λ (holder : Holder). record { who = holder; ear = Heard (outcome_by_rule st nonce cookie holder) }) cookie.bricks

-- the value that was found, or that it was lost with these causes
abbrev pub found_or_lost : Option (List ℕ) → List BrickCause → Result (List ℕ) ReadRefusal
found_or_lost (Some value) causes = Ok value
found_or_lost None causes = Err (Lost causes)

-- What a read with this nonce answers that is made of a cookie now: Expired past its expiry; else the value of the
-- first holder that gives one; else Lost, with the cause of each holder in order.
abbrev pub result_by_rule : LanesState → Version → Moment → Cookie → Result (List ℕ) ReadRefusal
result_by_rule st nonce now cookie =
    if nat_lt cookie.expiry.0 now.0
    then Err (Expired now cookie.expiry)
    else found_or_lost (found_in (asks_by_rule st nonce cookie)) (filter_map loss_of (asks_by_rule st nonce cookie))
