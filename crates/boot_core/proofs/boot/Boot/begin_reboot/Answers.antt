use Rattle.std.proofs.Common.{◌≡◌, None, [], ◌∷◌, ◌++◌, length, sym, ap, ◌∙◌, arith, length-append}
use Rattle.journal_model.specs.declared.entry.Entry.TheVariants.{Down}
use Rattle.component_pool.specs.Journal.{reboots_in}
use Rattle.component_pool.specs.Pool.{entered_in, times}
use Rattle.component_pool.proofs.Journals.{follows_may}
use Rattle.boot_core.specs.Refusals.{reboot_refusal}
use Rattle.boot_core.specs.Keeping.{start_of}
use Rattle.boot_core.proofs.Kept.{kept_down, can_push_down, grown_by}
use Rattle.boot_core.proofs.Sounding.{may_reboot}
use Rattle.journal_model.proofs.Following.{may_go_down, generations_within}
use Rattle.boot_core.proofs.boot.Boot.begin_reboot.Goals as goal

pub push-place-requires : goal.push-place-requires
push-place-requires c =
    let none : reboot_refusal c.self.inside.journal.limits c.self.inside.journal.entries c.args.scope ≡ None = sym c.reboot_refusal.ensures.value ∙ c.in_default.is in
    can_push_down c.self.inside.journal c.reserve.new.self c.args.scope c.reserve.ensures.entries c.reserve.ensures.limits c.in-Ok.ensures.room (may_reboot c.self.inside.journal.limits c.self.inside.journal.entries c.args.scope c.requires none)

pub set_scope_down-requires-clause-up : goal.set_scope_down-requires-clause-up
set_scope_down-requires-clause-up c =
    let none : reboot_refusal c.self.inside.journal.limits c.self.inside.journal.entries c.args.scope ≡ None = sym c.reboot_refusal.ensures.value ∙ c.in_default.is in
    may_go_down c.self.inside.names.statuses c.self.inside.journal.entries c.args.scope c.self.invariant.follows.statuses (may_reboot c.self.inside.journal.limits c.self.inside.journal.entries c.args.scope c.requires none).begins

pub set_scope_down-requires-clause-few : goal.set_scope_down-requires-clause-few
set_scope_down-requires-clause-few c = λ g within held.
    let longer = ap length (c.push-place.ensures.entries ∙ ap (λ es. es ++ Down c.args.scope ∷ []) c.reserve.ensures.entries) ∙ length-append c.self.inside.journal.entries (Down c.args.scope ∷ []) in
    omega (arith, generations_within c.self.inside.names.statuses c.self.inside.journal.entries g c.self.invariant.follows.statuses within, longer, c.push-place.ensures.few)

pub drop_scope-requires : goal.drop_scope-requires
drop_scope-requires c =
    let pool = c.self.inside.pool in
    let longer = ap length (c.push-place.ensures.entries ∙ ap (λ es. es ++ Down c.args.scope ∷ []) c.reserve.ensures.entries) ∙ length-append c.self.inside.journal.entries (Down c.args.scope ∷ []) in
    follows_may pool c.self.inside.deployment pool.plans (times (entered_in pool)) c.self.inside.journal.entries c.args.scope c.self.invariant.stands (omega (arith, longer, c.push-place.ensures.few))

pub invariant_of-self : goal.invariant_of-self
invariant_of-self c =
    let pool = c.self.inside.pool in
    let none : reboot_refusal c.self.inside.journal.limits c.self.inside.journal.entries c.args.scope ≡ None = sym c.reboot_refusal.ensures.value ∙ c.in_default.is in
    let grown : c.push-place.new.self.entries ≡ c.self.inside.journal.entries ++ Down c.args.scope ∷ [] = c.push-place.ensures.entries ∙ ap (λ es. es ++ Down c.args.scope ∷ []) c.reserve.ensures.entries in
    let place : c.push-place.result.0 ≡ length c.self.inside.journal.entries = c.push-place.ensures.place ∙ ap length c.reserve.ensures.entries in
    kept_down c.self.inside.number c.self.inside.deployment c.self.inside.journal c.push-place.new.self c.self.inside.names c.set_scope_down.new.self c.self.inside.rows pool c.drop_scope.new.self c.args.scope c.self.invariant c.requires none grown (c.push-place.ensures.limits ∙ c.reserve.ensures.limits)
    (c.set_scope_down.ensures.journal c.self.inside.deployment c.self.inside.journal.entries c.self.invariant.follows place)
    c.drop_scope.ensures.plans c.drop_scope.ensures.counted (c.drop_scope.ensures.stands c.self.inside.deployment pool.plans (times (entered_in pool)) (reboots_in c.self.inside.journal.entries) c.self.invariant.stands)

pub returns-in-Ok-clause-grown : goal.returns-in-Ok-clause-grown
returns-in-Ok-clause-grown c =
    let inside = c.self.inside in
    let grown : c.push-place.new.self.entries ≡ inside.journal.entries ++ Down c.args.scope ∷ [] = c.push-place.ensures.entries ∙ ap (λ es. es ++ Down c.args.scope ∷ []) c.reserve.ensures.entries in
    let limits = ap (start_of inside.number inside.rows.base inside.deployment inside.pool.plans) (c.push-place.ensures.limits ∙ c.reserve.ensures.limits) in
    let plans = ap (λ given. start_of inside.number inside.rows.base inside.deployment given c.push-place.new.self.limits) c.drop_scope.ensures.plans in
    grown_by c.args.self.now (start_of inside.number inside.rows.base inside.deployment inside.pool.plans inside.journal.limits) (start_of inside.number inside.rows.base inside.deployment c.drop_scope.new.self.plans c.push-place.new.self.limits) inside.journal.entries c.push-place.new.self.entries (entered_in inside.pool) (entered_in c.drop_scope.new.self) (Down c.args.scope) c.self.view_is
    (plans ∙ limits) grown
