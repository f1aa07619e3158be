-- What asking and hearing bricks over the link, one after another, comes to by the rule.
use Rattle.std.specs.Prelude.{ℕ, zero, suc, ◌-◌, nat_lt, if◌then◌else◌, List, [], ◌∷◌, length, Option, Some, None}
use Rattle.crash_base.specs.declared.numbers.BrickNo.{BrickNo}
use Rattle.crash_base.specs.declared.numbers.Moment.{Moment}
use Rattle.session_cookie.specs.declared.cookie.Holder.{Holder}
use Rattle.ssm_frames.specs.declared.frame.Frame.{Frame}
use Rattle.ssm_stub.specs.declared.ask.Ask.{Ask}
use Rattle.ssm_stub.specs.declared.ear.Stage.TheVariants.{Asked}
use Rattle.ssm_stub.specs.declared.ear.Outcome.{Outcome}
use Rattle.ssm_stub.specs.declared.ear.Outcome.TheVariants.{Answered, Silent, Strayed}
use Rattle.ssm_stub.specs.declared.ear.Ear.{Ear}
use Rattle.ssm_stub.specs.declared.ear.Ear.TheVariants.{Open, Heard}
use Rattle.ssm_stub.specs.declared.reply.WriteReply.{WriteReply}
use Rattle.ssm_stub.specs.declared.reply.WriteReply.TheVariants.{Stored, Full}
use Rattle.ssm_stub.specs.declared.reply.ReadReply.{ReadReply}
use Rattle.ssm_stub.specs.Turns.{none_asked}
use Rattle.ssm_stub.specs.Reads.{value_by}
use Rattle.link_lanes.specs.Lanes.{lane_of, with_lane}
use Rattle.link_memory.specs.Lane.{LaneValue, asked, counted_times}
use Rattle.link_memory.specs.Leaving.{after_hearing, silences_after}
use Rattle.link_memory.specs.Rule.{Hearing, heard_from}
use Rattle.link_memory.specs.Script.{ScriptValue, hushed_by}

-- What was heard, and the link then.
pub record Over (X : Type 0) : Type 0 where
  pub heard : X
  pub link : ScriptValue

-- the link after this was heard from the lane of a brick: the frames that were taken and a silence are
-- counted
abbrev pub link_after : {A : Type 0} → Hearing A → BrickNo → LaneValue → ScriptValue → ScriptValue
link_after hearing brick lane link =
    with_lane (record link {
      hushed = silences_after hearing.outcome link.hushed;
      got = counted_times (length lane.queue - length hearing.left) link.got;
    })
    brick.0 (Some (after_hearing hearing lane))

-- what is heard of a brick whose lane is this: it is heard by the rule, and a number without a lane is
-- silent
abbrev pub heard_at : {A : Type 0} → (Frame → Option A) → BrickNo → Option LaneValue → ScriptValue → Over (Outcome A)
heard_at lawful brick None link = record { heard = Silent; link = hushed_by brick link }
heard_at lawful brick (Some lane) link =
    let hearing = heard_from lawful lane.queue in
    record { heard = hearing.outcome; link = link_after hearing brick lane link }

-- What is heard of a brick over the link.
abbrev pub heard_over : {A : Type 0} → (Frame → Option A) → BrickNo → ScriptValue → Over (Outcome A)
heard_over lawful brick link = heard_at lawful brick (lane_of link brick.0) link

-- what an ask comes to that is sent to a brick whose lane is this: a number without a lane is silent
abbrev pub asked_at : {A : Type 0} → List ℕ → BrickNo → Option LaneValue → ScriptValue → Over (Ear A)
asked_at ask brick None link = record { heard = Heard Silent; link = hushed_by brick link }
asked_at ask brick (Some lane) link =
    record { heard = Open (Asked 0); link = with_lane link brick.0 (Some (asked ask lane)) }

-- What an ask comes to that is sent to a brick over the link.
abbrev pub asked_over : {A : Type 0} → List ℕ → BrickNo → ScriptValue → Over (Ear A)
asked_over ask brick link = asked_at ask brick (lane_of link brick.0) link

-- an outcome over the link, as what was heard of a brick
abbrev pub to_ear : {A : Type 0} → Over (Outcome A) → Over (Ear A)
to_ear over = record { heard = Heard over.heard; link = over.link }

-- a brick of which this was heard is heard to its outcome; one that has it is passed over
abbrev pub heard_out : {A : Type 0} → (Frame → Option A) → BrickNo → Ear A → ScriptValue → Over (Ear A)
heard_out lawful brick (Open stage) link = to_ear (heard_over lawful brick link)
heard_out lawful brick (Heard outcome) link = record { heard = Heard outcome; link = link }

-- one that was asked, before others
abbrev pub with_ask : {W A : Type 0} → W → Ear A → Over (List (Ask W A)) → Over (List (Ask W A))
with_ask who ear others =
    record { heard = record { who = who; ear = ear } ∷ others.heard; link = others.link }

-- The ask is sent to these bricks, in order.
abbrev pub asked_in_order : {A : Type 0} → List ℕ → List BrickNo → ScriptValue → Over (List (Ask BrickNo A))
asked_in_order ask [] link = record { heard = []; link = link }
asked_in_order {A} ask (brick ∷ bricks) link =
    let over = asked_over {A = A} ask brick link in
    with_ask brick over.heard (asked_in_order ask bricks over.link)

-- how many more bricks are to store the value after a brick of which the first was heard came to the
-- second: it counts where it had no outcome, and stored the value
abbrev pub missing_after : Ear WriteReply → Ear WriteReply → ℕ → ℕ
missing_after (Open stage) (Open later) missing = missing
missing_after (Open stage) (Heard (Answered (Stored incarnation))) missing = missing - 1
missing_after (Open stage) (Heard (Answered (Full entries bytes))) missing = missing
missing_after (Open stage) (Heard Silent) missing = missing
missing_after (Open stage) (Heard Strayed) missing = missing
missing_after (Heard outcome) ear missing = missing

-- The bricks that were asked are heard, in order, until so many more have stored the value. The others
-- are not heard.
abbrev pub heard_in_order : (BrickNo → Frame → Option WriteReply) → ℕ → List (Ask BrickNo WriteReply) → ScriptValue → Over (List (Ask BrickNo WriteReply))
heard_in_order lawful zero asks link = record { heard = asks; link = link }
heard_in_order lawful (suc missing) [] link = record { heard = []; link = link }
heard_in_order lawful (suc missing) (ask ∷ asks) link =
    let over = heard_out (lawful ask.who) ask.who ask.ear link in
    with_ask ask.who over.heard
    (heard_in_order lawful (missing_after ask.ear over.heard (suc missing)) asks over.link)

-- the same of bricks that were asked over the link
abbrev pub heard_after_asks : (BrickNo → Frame → Option WriteReply) → ℕ → Over (List (Ask BrickNo WriteReply)) → Over (List (Ask BrickNo WriteReply))
heard_after_asks lawful missing over = heard_in_order lawful missing over.heard over.link

-- A write up to its answer: all bricks are asked, in order, and then heard, in order, until `least` have
-- stored the value. Where that is none, nothing is done.
abbrev pub write_over : (BrickNo → Frame → Option WriteReply) → List ℕ → ℕ → List BrickNo → ScriptValue → Over (List (Ask BrickNo WriteReply))
write_over lawful ask zero bricks link = record { heard = none_asked bricks; link = link }
write_over lawful ask (suc more) bricks link =
    heard_after_asks lawful (suc more) (asked_in_order ask bricks link)

-- a brick is asked, and heard to its outcome
abbrev pub asked_and_heard : {A : Type 0} → (Frame → Option A) → List ℕ → BrickNo → ScriptValue → Over (Ear A)
asked_and_heard {A} lawful ask brick link =
    let over = asked_over {A = A} ask brick link in
    heard_out lawful brick over.heard over.link

-- the one where a value was found, and else the other
abbrev pub unless_found : {X : Type 0} → Option (List ℕ) → X → X → X
unless_found (Some value) here later = here
unless_found None here later = later

-- The holders are asked and heard, one after another, until one gives the value. The others are not
-- asked.
abbrev pub read_in_order : (Holder → Frame → Option ReadReply) → List ℕ → List Holder → ScriptValue → Over (List (Ask Holder ReadReply))
read_in_order lawful ask [] link = record { heard = []; link = link }
read_in_order lawful ask (holder ∷ holders) link =
    let over = asked_and_heard (lawful holder) ask holder.brick link in
    with_ask holder over.heard
    (unless_found (value_by over.heard)
    (record { heard = none_asked holders; link = over.link })
    (read_in_order lawful ask holders over.link))

-- A read up to its answer: at a moment past the expiry nothing is done, and else the holders are asked
-- and heard in order.
abbrev pub read_over : (Holder → Frame → Option ReadReply) → List ℕ → Moment → Moment → List Holder → ScriptValue → Over (List (Ask Holder ReadReply))
read_over lawful ask now expiry holders link =
    if nat_lt expiry.0 now.0
    then record { heard = none_asked holders; link = link }
    else read_in_order lawful ask holders link
