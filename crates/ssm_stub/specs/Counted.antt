-- What a link has counted where bricks have causes.
use Rattle.std.specs.Prelude.{◌*◌, All, Bool, true, false, IsTrue, List}
use Rattle.std.specs.List.{count_by}
use Rattle.outside.specs.Faults.{Rose, RoseBy}
use Rattle.outside.specs.Link.{Tally}
use Rattle.ssm_stub.specs.declared.cause.BrickCause.{BrickCause}
use Rattle.ssm_stub.specs.declared.cause.Cause.TheVariants.{Silent, Strayed, Full, Crashed, Swept}
use Rattle.ssm_stub.specs.declared.ear.TheConstants.{MAX_STRAYS}

-- whether it is that the brick was silent
abbrev pub is_silent : BrickCause → Bool
is_silent c = elim c.cause [
  | Silent ↦ true
  | Strayed ↦ false
  | Full entries bytes ↦ false
  | Crashed incarnation ↦ false
  | Swept moment ↦ false
]

-- whether it is that the brick strayed
abbrev pub is_strayed : BrickCause → Bool
is_strayed c = elim c.cause [
  | Silent ↦ false
  | Strayed ↦ true
  | Full entries bytes ↦ false
  | Crashed incarnation ↦ false
  | Swept moment ↦ false
]

-- The link counted what these causes say: a silence of each brick that was silent, as many silences over
-- all bricks, and 64 frames for each brick that strayed.
pub record AreCounted (old new : Tally) (causes : List BrickCause) : Type 0 where
  pub silences : All (λ (c : BrickCause). IsTrue (is_silent c) → Rose (old.silences c.brick.0) (new.silences c.brick.0)) causes
  pub hushed : RoseBy (count_by is_silent causes) old.hushed new.hushed
  pub got : RoseBy (MAX_STRAYS * count_by is_strayed causes) old.got new.got
