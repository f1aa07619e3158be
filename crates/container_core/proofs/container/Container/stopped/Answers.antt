use Rattle.std.proofs.Common.{◌∙◌, sym}
use Rattle.container_core.proofs.Laid.{stop_is}
use Rattle.container_core.proofs.container.Container.stopped.Goals as goal

pub returns : goal.returns
returns g c =
    rw (← c.self.view_is) (c.is_stopped.ensures ∙ sym (stop_is 0 c.self.inside.boot.value.entries c.self.inside.history.marks))
