-- What the events of a world tell a call.
use Rattle.std.specs.Prelude.{ℕ, ◌==◌, if◌then◌else◌, List, [], ◌∷◌, slice_get, Option, Some, None}
use Rattle.std.specs.List.{cons_option}
use Rattle.ssm_stub.specs.declared.event.Told.{Told}
use Rattle.ssm_stub.specs.declared.event.StubNext.{StubNext}
use Rattle.ssm_world.specs.declared.call.Call.{Call}
use Rattle.ssm_world.specs.declared.event.WorldEvent.{WorldEvent}
use Rattle.ssm_world.specs.declared.event.WorldEvent.TheVariants.{Write, Read, Send, Deliver, Hear, Hush, Crash, Sweep}
use Rattle.ssm_world.specs.Worlds.{WorldValue, next_of, told_by_send, told_by_hush, told_by_packet, step}

-- what an event tells the call at a place that wants this, if it tells it anything
abbrev pub told_by : WorldValue → ℕ → StubNext → WorldEvent → Option Told
told_by w place next (Write nonce key value expiry bricks least) = None
told_by w place next (Read nonce moment cookie) = None
told_by w place next (Send at silent is_sent) =
    if at == place then told_by_send silent next else None
told_by w place next (Deliver packet) = None
told_by w place next (Hear at packet) =
    if at == place then told_by_packet (slice_get w.packets packet) next else None
told_by w place next (Hush at) = if at == place then told_by_hush next else None
told_by w place next (Crash brick) = None
told_by w place next (Sweep brick moment) = None

-- what an event tells this call at a place, if it tells it anything
abbrev pub told_at : WorldValue → ℕ → WorldEvent → Option Call → Option Told
told_at w place event None = None
told_at w place event (Some c) = told_by w place (next_of c) event

-- what the events that follow a world tell the call at a place, in order
abbrev pub all_told : WorldValue → ℕ → List WorldEvent → List Told
all_told w place [] = []
all_told w place (event ∷ events) =
    cons_option (told_at w place event (slice_get w.calls place)) (all_told (step w event) place events)
