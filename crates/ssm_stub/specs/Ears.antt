-- What is heard of one brick.
use Rattle.std.specs.Prelude.{◌+◌, ◌-◌, nat_lt, if◌then◌else◌, List, Option, Some, None}
use Rattle.std.specs.Option.{option_and_then}
use Rattle.std.specs.List.{fold}
use Rattle.ssm_frames.specs.declared.frame.Frame.{Frame}
use Rattle.ssm_stub.specs.declared.ear.TheConstants.{MAX_STRAYS}
use Rattle.ssm_stub.specs.declared.ear.Stage.{Stage}
use Rattle.ssm_stub.specs.declared.ear.Stage.TheVariants.{Unasked, Asked}
use Rattle.ssm_stub.specs.declared.ear.Outcome.TheVariants.{Answered, Silent, Strayed}
use Rattle.ssm_stub.specs.declared.ear.Ear.{Ear}
use Rattle.ssm_stub.specs.declared.ear.Ear.TheVariants.{Open, Heard}
use Rattle.ssm_stub.specs.declared.event.Told.{Told}
use Rattle.ssm_stub.specs.declared.event.Told.TheVariants.{Sent, Came, Silent as NoneCame}

-- a brick without outcome after the ask was sent
abbrev pub after_sent : {A : Type 0} → Stage → Ear A
after_sent Unasked = Open (Asked 0)
after_sent (Asked strays) = Open (Asked strays)

-- A brick without outcome after a frame came, which is this lawful reply or none: an asked one has the
-- reply as its outcome, and its 64th stray ends the hearing.
abbrev pub after_frame : {A : Type 0} → Stage → Option A → Ear A
after_frame Unasked reply = Open Unasked
after_frame (Asked strays) (Some reply) = Heard (Answered reply)
after_frame (Asked strays) None =
    if nat_lt strays (MAX_STRAYS - 1) then Open (Asked (strays + 1)) else Heard Strayed

-- a brick without outcome after an event, where this says which frames are lawful replies
abbrev pub heard : {A : Type 0} → (Frame → Option A) → Stage → Told → Ear A
heard lawful stage Sent = after_sent stage
heard lawful stage (Came frame) = after_frame stage (option_and_then lawful frame)
heard lawful stage NoneCame = Heard Silent

-- a brick after one more event: an outcome stays
abbrev pub heard_on : {A : Type 0} → (Frame → Option A) → Ear A → Told → Ear A
heard_on lawful (Open stage) told = heard lawful stage told
heard_on lawful (Heard outcome) told = Heard outcome

-- what is heard of a brick that was told these events, and none before
abbrev pub ear_after : {A : Type 0} → (Frame → Option A) → List Told → Ear A
ear_after lawful events = fold (heard_on lawful) (Open Unasked) events
