use Rattle.std.proofs.Common.{◌∷◌, map, refl, sym}
use Rattle.ssm_stub.specs.declared.event.Told.TheVariants.{Sent}
use Rattle.ssm_stub.specs.Runs.{told_of}
use Rattle.ssm_stub.proofs.HearingEnds.{heard_so}
use Rattle.ssm_stub.proofs.laws.settled_bricks_have_outcomes.Goals as goal

pub returns : goal.returns
returns g c = λ brick lawful old new events outcome ran.
    heard_so lawful brick (Sent ∷ map told_of events) outcome (refl, ran.fitting) (sym ran.ends)
