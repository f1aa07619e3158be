use Rattle.std.proofs.Common.{◌≡◌, OnOk, OnErr, refl, ap, ◌∙◌}
use Rattle.std.proofs.lemmas.Result.{on_ok_weaker, on_err_weaker}
use Rattle.journal_model.specs.declared.entry.Entry.TheVariants.{Down}
use Rattle.boot_core.specs.Boot.{BootValue, with_entry}
use Rattle.container_core.proofs.Kept.{kept_if_pushed, pushed_if, grown_if}
use Rattle.container_core.proofs.container.Container.begin_reboot.Goals as goal

pub invariant_of-self : goal.invariant_of-self
invariant_of-self g c =
    let down : OnOk c.begin_reboot.result (c.begin_reboot.new.self ≡ with_entry c.self.inside.boot.value (Down c.args.scope)) = on_ok_weaker c.begin_reboot.result (λ (made : c.begin_reboot.new.self ≡ with_entry c.deref_mut.result.now (Down c.args.scope)). made ∙ ap (λ (b : BootValue). with_entry b (Down c.args.scope)) c.deref_mut.ensures.value) c.begin_reboot.ensures.down in
    let same : OnErr c.begin_reboot.result (c.begin_reboot.new.self ≡ c.self.inside.boot.value) = on_err_weaker c.begin_reboot.result (λ (same : c.begin_reboot.new.self ≡ c.deref_mut.result.now). same ∙ c.deref_mut.ensures.value) c.begin_reboot.ensures.same in
    kept_if_pushed c.begin_reboot.result c.self.inside.boot.value c.begin_reboot.new.self c.self.inside.history.marks (g.K.Keeper.told c.self.inside.keeper) (Down c.args.scope) down same refl c.self.invariant

pub returns-clause-down : goal.returns-clause-down
returns-clause-down g c =
    let down : OnOk c.begin_reboot.result (c.begin_reboot.new.self ≡ with_entry c.self.inside.boot.value (Down c.args.scope)) = on_ok_weaker c.begin_reboot.result (λ (made : c.begin_reboot.new.self ≡ with_entry c.deref_mut.result.now (Down c.args.scope)). made ∙ ap (λ (b : BootValue). with_entry b (Down c.args.scope)) c.deref_mut.ensures.value) c.begin_reboot.ensures.down in
    rw (← c.self.view_is) (pushed_if c.begin_reboot.result c.self.inside.boot.value c.begin_reboot.new.self c.self.inside.history.marks (g.K.Keeper.told c.self.inside.keeper) (g.K.Keeper.faults c.self.inside.keeper) (Down c.args.scope) down c.self.invariant.marked)

pub returns-clause-grown : goal.returns-clause-grown
returns-clause-grown g c =
    let down : OnOk c.begin_reboot.result (c.begin_reboot.new.self ≡ with_entry c.self.inside.boot.value (Down c.args.scope)) = on_ok_weaker c.begin_reboot.result (λ (made : c.begin_reboot.new.self ≡ with_entry c.deref_mut.result.now (Down c.args.scope)). made ∙ ap (λ (b : BootValue). with_entry b (Down c.args.scope)) c.deref_mut.ensures.value) c.begin_reboot.ensures.down in
    let same : OnErr c.begin_reboot.result (c.begin_reboot.new.self ≡ c.self.inside.boot.value) = on_err_weaker c.begin_reboot.result (λ (same : c.begin_reboot.new.self ≡ c.deref_mut.result.now). same ∙ c.deref_mut.ensures.value) c.begin_reboot.ensures.same in
    rw (← c.self.view_is) (grown_if c.begin_reboot.result c.self.inside.boot.value c.begin_reboot.new.self c.self.inside.history.marks (g.K.Keeper.told c.self.inside.keeper) (g.K.Keeper.faults c.self.inside.keeper) (Down c.args.scope) down same c.self.invariant.marked)
