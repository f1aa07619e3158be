use Rattle.request_intake.proofs.Admitting.{admitted, cut_short}
use Rattle.request_intake.proofs.laws.ordered_requests_bear_what_was_drawn.Goals as goal

pub returns-clause-admitted : goal.returns-clause-admitted
returns-clause-admitted g c = λ key home head random random_after serials serials_after i a takes is.
    admitted g.R.Random.gives g.S.Serials.looks key home head random serials i random_after serials_after a
    c.each_draw_has_its_cause.ensures.request c.each_draw_has_its_cause.ensures.read c.each_draw_has_its_cause.ensures.others c.each_draw_has_its_cause.ensures.drawn takes is

pub returns-clause-short : goal.returns-clause-short
returns-clause-short g c = λ key home head random random_after serials serials_after i request seen takes is.
    cut_short g.R.Random.gives g.S.Serials.looks key home head random serials i random_after serials_after request seen takes is
