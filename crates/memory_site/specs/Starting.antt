-- Why the site is not started.
use Rattle.std.specs.Prelude.{◌≡◌, ◌⊎◌, Some}
use Rattle.boot_core.specs.declared.refusals.StartRefusal.{StartRefusal}
use Rattle.boot_core.specs.declared.refusals.StartRefusal.TheVariants.{OutOfMemory}
use Rattle.container_core.specs.Start.{IsRefusedStart}
use Rattle.outside.specs.MapKeeper.{MapKeeperState}

-- Why the site was not started over a keeper, and how that is handed back: there was no memory, and it was not called;
-- or its container was not started.
abbrev pub IsRefusedSite : StartRefusal → MapKeeperState → MapKeeperState → Type 0
IsRefusedSite why old new =
    ((why ≡ OutOfMemory) × (new ≡ old)) ⊎ IsRefusedStart why (Some old.told) (Some new.told)
