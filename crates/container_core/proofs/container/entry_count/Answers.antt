use Rattle.std.proofs.Common.{length, ap, arith}
use Rattle.boot_core.specs.Boot.{BootValue}
use Rattle.container_core.proofs.container.entry_count.Goals as goal

pub returns-clause-value : goal.returns-clause-value
returns-clause-value c =
    omega (arith, ap length c.entries.ensures.value, ap length c.journal.ensures.entries, ap (λ (b : BootValue). length b.entries) c.deref.ensures)
