use Rattle.request_intake.proofs.Admitting.{told_refusal}
use Rattle.request_intake.proofs.laws.refused_requests_draw_nothing.Goals as goal

pub returns-clause-told : goal.returns-clause-told
returns-clause-told g c = λ key home head random random_after serials serials_after i why takes is.
    told_refusal g.R.Random.gives g.S.Serials.looks key home head random serials i random_after serials_after why takes is
