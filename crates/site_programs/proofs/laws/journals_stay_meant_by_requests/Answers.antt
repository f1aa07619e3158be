use Rattle.site_programs.proofs.Growing.{stays_meant, visit_meant}
use Rattle.site_programs.proofs.laws.journals_stay_meant_by_requests.Goals as goal

pub returns-clause-requests : goal.returns-clause-requests
returns-clause-requests c = stays_meant c.calls_run_as_the_site.ensures

pub returns-clause-visits : goal.returns-clause-visits
returns-clause-visits c = visit_meant c.calls_run_as_the_site.ensures
