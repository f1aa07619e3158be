use Rattle.std.proofs.Common.{Some, sym, ap, ◌∙◌, option_map}
use Rattle.journal_model.specs.declared.entry.Entry.{Entry}
use Rattle.journal_model.proofs.Growing.{legal_in_turn}
use Rattle.journal_model.proofs.Following.{may_come_up}
use Rattle.component_pool.specs.Pool.{entered_in}
use Rattle.boot_core.specs.Keeping.{start_of}
use Rattle.boot_core.proofs.Kept.{kept_up, undone_here}
use Rattle.boot_core.proofs.boot.Boot.end_reboot.Goals as goal

pub set_scope_up-requires : goal.set_scope_up-requires
set_scope_up-requires c =
    let undone = undone_here c.args.self.now (start_of c.self.inside.number c.self.inside.rows.base c.self.inside.deployment c.self.inside.pool.plans c.self.inside.journal.limits) c.self.inside.journal.entries (entered_in c.self.inside.pool) c.args.down.0 c.in-Some-Down.scope c.self.view_is c.requires (sym c.get.ensures ∙ ap (option_map (λ e. e.now)) c.in-Some-Down.is ∙ ap (λ (e : Entry). Some e) c.in-Some-Down.field-0-is) in
    may_come_up c.self.inside.names.statuses c.self.inside.journal.entries c.in-Some-Down.scope c.self.invariant.follows.statuses (record { place = c.args.down.0; undone = undone })

pub invariant_of-self : goal.invariant_of-self
invariant_of-self c =
    let undone = undone_here c.args.self.now (start_of c.self.inside.number c.self.inside.rows.base c.self.inside.deployment c.self.inside.pool.plans c.self.inside.journal.limits) c.self.inside.journal.entries (entered_in c.self.inside.pool) c.args.down.0 c.in-Some-Down.scope c.self.view_is c.requires (sym c.get.ensures ∙ ap (option_map (λ e. e.now)) c.in-Some-Down.is ∙ ap (λ (e : Entry). Some e) c.in-Some-Down.field-0-is) in
    kept_up c.self.inside.number c.self.inside.deployment c.self.inside.journal c.push.new.self c.self.inside.names c.set_scope_up.new.self c.self.inside.rows c.self.inside.pool c.in-Some-Down.scope c.args.down.0 c.self.invariant undone c.push.ensures.entries c.push.ensures.limits
    (c.set_scope_up.ensures.journal c.self.inside.deployment c.self.inside.journal.entries c.self.invariant.follows (legal_in_turn c.self.inside.rows.base c.self.inside.journal.entries c.self.invariant.sound.legal) (record { place = c.args.down.0; undone = undone }))
