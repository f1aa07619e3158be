use Rattle.std.proofs.Common.{◌≡◌, Some, slice_get, ap, ◌∙◌, refl}
use Rattle.journal_model.specs.declared.entry.Entry.TheVariants.{Down, Up}
use Rattle.boot_core.specs.Boot.{BootValue, with_entry}
use Rattle.container_core.specs.Container.{ContainerValue}
use Rattle.container_core.proofs.Kept.{kept_push, pushed_is, grown_by, holds_still}
use Rattle.container_core.proofs.container.Container.end_reboot.Goals as goal

pub invariant_of-self : goal.invariant_of-self
invariant_of-self g c =
    let here : slice_get c.self.inside.boot.value.entries c.args.down.0 ≡ Some (Down c.requires.0) = ap (λ (v : ContainerValue). slice_get v.boot.entries c.args.down.0) c.self.view_is ∙ c.requires.1.down in
    let made : c.end_reboot.new.self ≡ with_entry c.self.inside.boot.value (Up c.requires.0) = c.end_reboot.ensures.up c.requires.0 (ap (λ (b : BootValue). slice_get b.entries c.args.down.0) c.deref_mut.ensures.value ∙ here) ∙ ap (λ (b : BootValue). with_entry b (Up c.requires.0)) c.deref_mut.ensures.value in
    kept_push c.self.inside.boot.value c.end_reboot.new.self c.self.inside.history.marks (g.K.Keeper.told c.self.inside.keeper) (g.K.Keeper.told c.self.inside.keeper) (Up c.requires.0) made c.self.invariant
    (holds_still (g.K.Keeper.told c.self.inside.keeper) c.self.inside.boot.value (Up c.requires.0) refl c.self.invariant.rows)

pub returns-clause-up : goal.returns-clause-up
returns-clause-up g c = λ s is.
    let here : slice_get c.self.inside.boot.value.entries c.args.down.0 ≡ Some (Down s) = ap (λ (v : ContainerValue). slice_get v.boot.entries c.args.down.0) c.self.view_is ∙ is in
    let made : c.end_reboot.new.self ≡ with_entry c.self.inside.boot.value (Up s) = c.end_reboot.ensures.up s (ap (λ (b : BootValue). slice_get b.entries c.args.down.0) c.deref_mut.ensures.value ∙ here) ∙ ap (λ (b : BootValue). with_entry b (Up s)) c.deref_mut.ensures.value in
    rw (← c.self.view_is) (pushed_is c.self.inside.boot.value c.end_reboot.new.self c.self.inside.history.marks (g.K.Keeper.told c.self.inside.keeper) (g.K.Keeper.told c.self.inside.keeper) (g.K.Keeper.faults c.self.inside.keeper) (g.K.Keeper.faults c.self.inside.keeper) (Up s) made c.self.invariant.marked)

pub returns-clause-grown : goal.returns-clause-grown
returns-clause-grown g c =
    let here : slice_get c.self.inside.boot.value.entries c.args.down.0 ≡ Some (Down c.requires.0) = ap (λ (v : ContainerValue). slice_get v.boot.entries c.args.down.0) c.self.view_is ∙ c.requires.1.down in
    let made : c.end_reboot.new.self ≡ with_entry c.self.inside.boot.value (Up c.requires.0) = c.end_reboot.ensures.up c.requires.0 (ap (λ (b : BootValue). slice_get b.entries c.args.down.0) c.deref_mut.ensures.value ∙ here) ∙ ap (λ (b : BootValue). with_entry b (Up c.requires.0)) c.deref_mut.ensures.value in
    rw (← c.self.view_is) (grown_by c.self.inside.boot.value c.end_reboot.new.self c.self.inside.history.marks (g.K.Keeper.told c.self.inside.keeper) (g.K.Keeper.told c.self.inside.keeper) (g.K.Keeper.faults c.self.inside.keeper) (g.K.Keeper.faults c.self.inside.keeper) (Up c.requires.0) made c.self.invariant.marked)
