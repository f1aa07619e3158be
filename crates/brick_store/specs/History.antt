-- What the history of a brick says: a list of what happened to it, newest first.
use Rattle.std.specs.Prelude.{ℕ, ◌+◌, nat_lt, if◌then◌else◌, List, [], ◌∷◌, filter, Option, Some, None}
use Rattle.crash_base.specs.declared.numbers.Moment.{Moment}
use Rattle.crash_base.specs.declared.numbers.SessionKey.{SessionKey}
use Rattle.crash_base.specs.declared.numbers.Version.{Version}
use Rattle.brick_store.specs.declared.kept.Kept.{Kept}
use Rattle.brick_store.specs.declared.event.BrickEvent.{BrickEvent}
use Rattle.brick_store.specs.declared.event.BrickEvent.TheVariants.{Stored, Sweep, Crash}
use Rattle.brick_store.specs.Kept.{is_under, is_late, outlives, with_kept}

-- what a sweep leaves of a value
abbrev pub left_by : Moment → Option Kept → Option Kept
left_by moment None = None
left_by moment (Some s) = if is_late moment s.expiry then None else Some s

-- The value held under a key and version: the last one that was stored under them since the last
-- crash, where no later sweep took it.
abbrev pub held : List BrickEvent → SessionKey → Version → Option Kept
held [] key version = None
held (Stored s ∷ h) key version = if is_under key version s then Some s else held h key version
held (Sweep moment ∷ h) key version = left_by moment (held h key version)
held (Crash ∷ h) key version = None

-- all values held, in order of key and version
abbrev pub all_held : List BrickEvent → List Kept
all_held [] = []
all_held (Stored s ∷ h) = with_kept s (all_held h)
all_held (Sweep moment ∷ h) = filter (outlives moment) (all_held h)
all_held (Crash ∷ h) = []

-- the incarnation after a history: the first one, and one more for each crash
abbrev pub incarnation_after : ℕ → List BrickEvent → ℕ
incarnation_after first [] = first
incarnation_after first (Stored s ∷ h) = incarnation_after first h
incarnation_after first (Sweep moment ∷ h) = incarnation_after first h
incarnation_after first (Crash ∷ h) = incarnation_after first h + 1

-- the later of two moments
abbrev pub later : Moment → Moment → Moment
later a b = if nat_lt a.0 b.0 then b else a

-- the greatest moment of a sweep since the last crash, or 0
abbrev pub swept_after : List BrickEvent → Moment
swept_after [] = record { 0 = 0 }
swept_after (Stored s ∷ h) = swept_after h
swept_after (Sweep moment ∷ h) = later (swept_after h) moment
swept_after (Crash ∷ h) = record { 0 = 0 }
