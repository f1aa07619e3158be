use Rattle.std.proofs.Common.{refl, ap, ◌∙◌}
use Rattle.auction_calls.specs.Calls.{is_call}
use Rattle.auction_site.specs.Actions.{steps_of}
use Rattle.site_programs.proofs.laws.site_programs_are_accepted.Goals as goal

pub returns-clause-accepted : goal.returns-clause-accepted
returns-clause-accepted c = λ maker call text program made. (refl, ap is_call made.program_is ∙ made.spelled.in_ranges)

pub returns-clause-asks : goal.returns-clause-asks
returns-clause-asks c = λ maker call program start s parts made.
    record { parts_are = parts; spelled = made.spelled; steps_are = ap steps_of made.program_is }
