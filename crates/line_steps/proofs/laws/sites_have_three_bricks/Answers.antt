use Rattle.std.proofs.Common.{refl}
use Rattle.line_steps.proofs.SiteBricks.{site_bricks, site_done, site_once, site_taken}
use Rattle.line_steps.proofs.laws.sites_have_three_bricks.Goals as goal

pub returns-clause-limits : goal.returns-clause-limits
returns-clause-limits c = (refl, refl, refl)

pub returns-clause-declared : goal.returns-clause-declared
returns-clause-declared c = site_bricks

pub returns-clause-parts : goal.returns-clause-parts
returns-clause-parts c = site_done

pub returns-clause-taken : goal.returns-clause-taken
returns-clause-taken c = site_taken

pub returns-clause-taken_once : goal.returns-clause-taken_once
returns-clause-taken_once c = site_once
