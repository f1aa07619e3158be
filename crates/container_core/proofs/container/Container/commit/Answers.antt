use Rattle.std.proofs.Common.{◌≡◌, length, ap, ◌∙◌, refl}
use Rattle.journal_model.specs.declared.entry.Entry.TheVariants.{Commit}
use Rattle.journal_model.specs.Calls.{entry_of}
use Rattle.boot_core.specs.Boot.{BootValue, with_entry}
use Rattle.container_core.proofs.Kept.{kept_push, holds_commit, pushed_is, grown_by, kept_refused, refused_as, grown_by_refused}
use Rattle.container_core.proofs.container.Container.commit.Goals as goal

pub invariant_of-self-in-Ok : goal.invariant_of-self-in-Ok
invariant_of-self-in-Ok g c =
    let e = Commit (entry_of c.args.ticket.call c.args.action) in
    let made : c.commit.new.self ≡ with_entry c.self.inside.boot.value e = c.in-Ok.ensures.committed ∙ ap (λ (b : BootValue). with_entry b e) c.deref_mut-2.ensures.value in
    rw (c.reserve.ensures.marks, c.in-Ok.ensures.keeps) (kept_push c.self.inside.boot.value c.commit.new.self c.self.inside.history.marks (g.K.Keeper.told c.self.inside.keeper) _ e made c.self.invariant
    (holds_commit (g.K.Keeper.told c.self.inside.keeper) c.self.inside.boot.value e c.args.ticket.call.writes refl c.self.invariant.rows))

pub invariant_of-self-in-Err : goal.invariant_of-self-in-Err
invariant_of-self-in-Err g c =
    let same : c.commit.new.self ≡ c.self.inside.boot.value = c.in-Err.ensures.same ∙ c.deref_mut-2.ensures.value in
    kept_refused c.in-Err.refused.cause c.args.ticket.call.writes c.self.inside.boot.value c.commit.new.self c.self.inside.history.marks c.mark_failure.new.history.marks (g.K.Keeper.told c.self.inside.keeper) (g.K.Keeper.told c.commit.new.keeper) (record { 0 = c.entry_count.result }) c.in-Err.refused.request
    same c.entry_count.ensures.value (rw c.reserve.ensures.marks at c.mark_failure.ensures) c.in-Err.ensures.keeps c.self.invariant

pub returns-in-Ok-clause-leaves : goal.returns-in-Ok-clause-leaves
returns-in-Ok-clause-leaves g c =
    let e = Commit (entry_of c.args.ticket.call c.args.action) in
    let made : c.commit.new.self ≡ with_entry c.self.inside.boot.value e = c.in-Ok.ensures.committed ∙ ap (λ (b : BootValue). with_entry b e) c.deref_mut-2.ensures.value in
    rw (← c.self.view_is) (c.in-Ok.ensures.place ∙ ap (λ (b : BootValue). length b.entries) c.deref_mut-2.ensures.value, rw (c.reserve.ensures.marks, ← c.in-Ok.ensures.keeps) (pushed_is c.self.inside.boot.value c.commit.new.self c.self.inside.history.marks (g.K.Keeper.told c.self.inside.keeper) (g.K.Keeper.told c.commit.new.keeper) (g.K.Keeper.faults c.self.inside.keeper) (g.K.Keeper.faults c.commit.new.keeper) e made c.self.invariant.marked))

pub returns-in-Ok-clause-grown : goal.returns-in-Ok-clause-grown
returns-in-Ok-clause-grown g c =
    let e = Commit (entry_of c.args.ticket.call c.args.action) in
    let made : c.commit.new.self ≡ with_entry c.self.inside.boot.value e = c.in-Ok.ensures.committed ∙ ap (λ (b : BootValue). with_entry b e) c.deref_mut-2.ensures.value in
    rw (← c.self.view_is, c.reserve.ensures.marks) (grown_by c.self.inside.boot.value c.commit.new.self c.self.inside.history.marks (g.K.Keeper.told c.self.inside.keeper) (g.K.Keeper.told c.commit.new.keeper) (g.K.Keeper.faults c.self.inside.keeper) (g.K.Keeper.faults c.commit.new.keeper) e made c.self.invariant.marked)

pub returns-in-Err-clause-leaves : goal.returns-in-Err-clause-leaves
returns-in-Err-clause-leaves g c =
    let same : c.commit.new.self ≡ c.self.inside.boot.value = c.in-Err.ensures.same ∙ c.deref_mut-2.ensures.value in
    rw (← c.self.view_is) (
      refused_as c.in-Err.refused.cause c.args.ticket.call c.self.inside.boot.value c.commit.new.self c.self.inside.history.marks c.mark_failure.new.history.marks (g.K.Keeper.told c.self.inside.keeper) (g.K.Keeper.told c.commit.new.keeper) (g.K.Keeper.faults c.self.inside.keeper) (g.K.Keeper.faults c.commit.new.keeper) (record { 0 = c.entry_count.result }) c.in-Err.refused.request
          same c.entry_count.ensures.value c.in-Err.ensures.request (rw c.reserve.ensures.marks at c.mark_failure.ensures) c.self.invariant.marked
          (λ tested. (ap g.K.Keeper.told (c.in-Err.ensures.tested tested), ap g.K.Keeper.faults (c.in-Err.ensures.tested tested))),
      c.in-Err.ensures.keeps,
    )

pub returns-in-Err-clause-grown : goal.returns-in-Err-clause-grown
returns-in-Err-clause-grown g c =
    let same : c.commit.new.self ≡ c.self.inside.boot.value = c.in-Err.ensures.same ∙ c.deref_mut-2.ensures.value in
    rw (← c.self.view_is) (grown_by_refused c.in-Err.refused.cause c.self.inside.boot.value c.commit.new.self c.self.inside.history.marks c.mark_failure.new.history.marks (g.K.Keeper.told c.self.inside.keeper) (g.K.Keeper.told c.commit.new.keeper) (g.K.Keeper.faults c.self.inside.keeper) (g.K.Keeper.faults c.commit.new.keeper) (record { 0 = c.entry_count.result }) c.in-Err.refused.request
    same c.entry_count.ensures.value (rw c.reserve.ensures.marks at c.mark_failure.ensures) c.self.invariant.marked)
