use Rattle.site_programs.proofs.Showing.{earlier_meant, earlier_page, no_room, one_meaning, own_page, own_shown}
use Rattle.site_programs.proofs.laws.pages_are_what_the_site_means.Goals as goal

pub returns-clause-own : goal.returns-clause-own
returns-clause-own c = own_page c.calls_run_as_the_site.ensures

pub returns-clause-shown : goal.returns-clause-shown
returns-clause-shown c = own_shown c.calls_run_as_the_site.ensures

pub returns-clause-one : goal.returns-clause-one
returns-clause-one c = one_meaning c.calls_run_as_the_site.ensures c.texts_spell_one_call.ensures

pub returns-clause-again : goal.returns-clause-again
returns-clause-again c = earlier_page

pub returns-clause-again_meant : goal.returns-clause-again_meant
returns-clause-again_meant c = earlier_meant

pub returns-clause-full : goal.returns-clause-full
returns-clause-full c = no_room c.calls_run_as_the_site.ensures
