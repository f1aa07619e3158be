-- What is said of histories and of frames.
use Rattle.std.specs.Prelude.{◌≡◌, ℕ, Bool, false, List, [], ◌∷◌, ◌++◌}
use Rattle.std.specs.List.{list_any}
use Rattle.crash_base.specs.declared.numbers.Moment.{Moment}
use Rattle.crash_base.specs.declared.numbers.Version.{Version}
use Rattle.ssm_frames.specs.declared.frame.Frame.{Frame}
use Rattle.ssm_frames.specs.declared.frame.Frame.TheVariants as frame
use Rattle.brick_store.specs.declared.kept.Kept.{Kept}
use Rattle.brick_store.specs.declared.event.BrickEvent.{BrickEvent}
use Rattle.brick_store.specs.declared.event.BrickEvent.TheVariants.{Stored, Sweep, Crash}
use Rattle.brick_store.specs.History.{incarnation_after}
use Rattle.brick_store.specs.Kept.{is_late}
use Rattle.crash_base.specs.Same.{same_version}
use Rattle.ssm_world.specs.declared.event.WorldEvent.{WorldEvent}
use Rattle.ssm_world.specs.declared.event.WorldEvent.TheVariants.{Write, Read, Send, Deliver, Hear, Hush}
use Rattle.ssm_world.specs.declared.event.WorldEvent.TheVariants as happens

-- whether this is a sweep that is late for an expiry
abbrev pub is_late_sweep : Moment → BrickEvent → Bool
is_late_sweep expiry (Stored s) = false
is_late_sweep expiry (Sweep moment) = is_late moment expiry
is_late_sweep expiry Crash = false

-- whether a sweep that is late for an expiry is among these events
abbrev pub has_late_sweep : Moment → List BrickEvent → Bool
has_late_sweep expiry h = list_any (is_late_sweep expiry) h

-- each value that was ever stored is so
abbrev pub AllStored : (Kept → Type 0) → List BrickEvent → Type 0
AllStored P [] = Unit {0}
AllStored P (Stored s ∷ h) = P s × AllStored P h
AllStored P (Sweep moment ∷ h) = AllStored P h
AllStored P (Crash ∷ h) = AllStored P h

-- A value was stored in this incarnation: these events came before, and those after.
pub record WasStored (h : List BrickEvent) (incarnation : ℕ) (s : Kept) : Type 0 where
  pub earlier : List BrickEvent
  pub later : List BrickEvent
  pub parts : h ≡ later ++ Stored s ∷ earlier
  pub incarnation_is : incarnation_after 1 earlier ≡ incarnation

-- A brick was swept at this moment in this incarnation: these events came before, and those after.
pub record WasSweptAt (h : List BrickEvent) (incarnation : ℕ) (moment : Moment) : Type 0 where
  pub earlier : List BrickEvent
  pub later : List BrickEvent
  pub parts : h ≡ later ++ Sweep moment ∷ earlier
  pub incarnation_is : incarnation_after 1 earlier ≡ incarnation

-- whether a call begins with this nonce by an event, where it may
abbrev pub begins : Version → WorldEvent → Bool
begins nonce (Write its key value expiry bricks least) = same_version its nonce
begins nonce (Read its moment cookie) = same_version its nonce
begins nonce (Send call silent is_sent) = false
begins nonce (Deliver packet) = false
begins nonce (Hear call packet) = false
begins nonce (Hush call) = false
begins nonce (happens.Crash brick) = false
begins nonce (happens.Sweep brick moment) = false

-- the nonce of a frame
abbrev pub frame_nonce : Frame → Version
frame_nonce (frame.Put nonce key version expiry value) = nonce
frame_nonce (frame.Get nonce key version) = nonce
frame_nonce (frame.Sweep nonce moment) = nonce
frame_nonce (frame.Stored nonce key version brick incarnation) = nonce
frame_nonce (frame.Found nonce key version brick incarnation expiry value) = nonce
frame_nonce (frame.Absent nonce key version brick incarnation swept) = nonce
frame_nonce (frame.BrickFull nonce key version brick incarnation entries bytes) = nonce
frame_nonce (frame.Swept nonce brick incarnation moment) = nonce
