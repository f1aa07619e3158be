-- What is heard from a queue of replies that wait.
use Rattle.std.specs.Prelude.{ℕ, ◌+◌, nat_lt, if◌then◌else◌, List, [], ◌∷◌, length, drop, Option, Some, None}
use Rattle.ssm_frames.specs.declared.frame.Frame.{Frame}
use Rattle.ssm_stub.specs.declared.ear.TheConstants.{MAX_STRAYS}
use Rattle.ssm_stub.specs.declared.ear.Outcome.{Outcome}
use Rattle.ssm_stub.specs.declared.ear.Outcome.TheVariants.{Answered, Silent, Strayed}

-- What was heard, and the replies that are left.
pub record Hearing (A : Type 0) : Type 0 where
  pub outcome : Outcome A
  pub left : List Frame

-- The first lawful reply of a queue, and how many frames stand before it.
pub record FirstLawful (A : Type 0) : Type 0 where
  pub before : ℕ
  pub reply : A

-- the same with so many frames more before it
abbrev pub later_by : {A : Type 0} → ℕ → Option (FirstLawful A) → Option (FirstLawful A)
later_by more None = None
later_by more (Some first) = Some (record { before = more + first.before; reply = first.reply })

-- the first lawful reply where this is the verdict on the front, and this the first behind it
abbrev pub first_of : {A : Type 0} → Option A → Option (FirstLawful A) → Option (FirstLawful A)
first_of (Some reply) behind = Some (record { before = 0; reply = reply })
first_of None behind = later_by 1 behind

-- the first lawful reply of a queue, if there is one
abbrev pub first_lawful : {A : Type 0} → (Frame → Option A) → List Frame → Option (FirstLawful A)
first_lawful lawful [] = None
first_lawful lawful (frame ∷ queue) = first_of (lawful frame) (first_lawful lawful queue)

-- nothing lawful is heard: of 64 frames or more 64 go, and the brick strayed; of fewer all go, and the
-- brick was silent
abbrev pub heard_none : {A : Type 0} → List Frame → Hearing A
heard_none queue =
    if nat_lt (length queue) MAX_STRAYS
    then record { outcome = Silent; left = [] }
    else record { outcome = Strayed; left = drop MAX_STRAYS queue }

-- The first lawful reply, if there is one, is heard where fewer than 64 frames stand before it, and
-- goes with them.
abbrev pub heard_first : {A : Type 0} → List Frame → Option (FirstLawful A) → Hearing A
heard_first queue None = heard_none queue
heard_first queue (Some first) =
    if nat_lt first.before MAX_STRAYS
    then record { outcome = Answered first.reply; left = drop (first.before + 1) queue }
    else heard_none queue

-- What is heard from a queue: its first lawful reply, where fewer than 64 frames stand before it; else
-- 64 strays, where so many stand there; else silence.
abbrev pub heard_from : {A : Type 0} → (Frame → Option A) → List Frame → Hearing A
heard_from lawful queue = heard_first queue (first_lawful lawful queue)
