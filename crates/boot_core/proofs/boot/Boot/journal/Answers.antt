use Rattle.std.proofs.Common.{subst}
use Rattle.boot_core.specs.Boot.{BootValue}
use Rattle.boot_core.specs.Sound.{IsSound}
use Rattle.boot_core.proofs.boot.Boot.journal.Goals as goal

pub returns-clause-sound : goal.returns-clause-sound
returns-clause-sound c =
    let P : BootValue → Type 0 = λ v. IsSound v in
    subst P c.self.view_is c.self.invariant.sound
