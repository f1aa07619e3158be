use Rattle.std.proofs.Common.{◌≡◌, ◌∙◌, ap}
use Rattle.session_steps.specs.Sessions.{reopened}
use Rattle.boot_core.specs.Boot.{BootValue}
use Rattle.scenario_engine.proofs.running.Running.over.Goals as goal

pub returns-clause-started : goal.returns-clause-started
returns-clause-started g c = λ start e none.
    let sessions : c.reopen.new.self ≡ reopened c.args.sessions start.boot =
    c.reopen.ensures ∙ ap (reopened c.args.sessions) (c.boot.ensures ∙ ap (λ (b : BootValue). b.start.boot) e) in
    let callers = c.new.ensures in cc
