-- A call that has entered A or C is in the component that owns its table.
use Rattle.std.proofs.Common.{◌≡◌, ℕ, ◌<◌, ◌%◌, Bool, true, false, List, [], ◌∷◌, ◌++◌, length, refl, sym, ap, ◌∙◌, subst, arith}
use Rattle.std.specs.Prelude.{◌==◌, if◌then◌else◌}
use Rattle.crash_base.specs.declared.numbers.ComponentNo.{ComponentNo}
use Rattle.journal_model.specs.declared.entry.Entry.{Entry}
use Rattle.deployment.specs.declared.parts.Parts.{Parts}
use Rattle.deployment.specs.Parts.{component_no}
use Rattle.call_ticket.specs.Access.{is_in_owner, is_inside}
use Rattle.call_ticket.specs.Ticket.{TicketValue}
use Rattle.boot_core.specs.Steps.{ticket_entered}
use Rattle.workload.specs.Parts.{work_components, work_tables, work_parts}
use Rattle.workload.specs.Turns.{own_table, entered_by}
use Rattle.workload.specs.declared.deploying.TheConstants.{A, C, A_TABLE, C_TABLE}

-- A or C
abbrev either : Bool → ComponentNo
either e = if e then component_no A else component_no C

-- frames are those of the component that owns the table of a call in them
abbrev AreInside : Parts → List ComponentNo → Type 0
AreInside parts frames = is_inside parts frames (if is_inside parts frames A_TABLE then A_TABLE else C_TABLE) ≡ true

inside_either : (e : Bool) → AreInside work_parts (either e ∷ [])
unfolding work_tables
inside_either true = refl
inside_either false = refl

known_either : (e : Bool) → (either e).0 < length work_components
unfolding work_components
known_either true = omega arith
known_either false = omega arith

-- A and C are components of the workload
pub known_component : (parts : Parts) (c : ComponentNo) (key : ℕ) → parts ≡ work_parts → c ≡ entered_by key → c.0 < length parts.components
known_component parts c key is which =
    let P : Parts → ComponentNo → Type 0 = λ p x. x.0 < length p.components in
    subst (λ p. P p c) (sym is) (subst (λ x. P work_parts x) (sym which) (known_either (key % 2 == 0)))

pub entered_inside : (parts : Parts) (es : List Entry) (old new : TicketValue) (g : ℕ) (c : ComponentNo) (key : ℕ) → parts ≡ work_parts → old.call.frames ≡ [] → c ≡ entered_by key → new ≡ ticket_entered es g c old → is_in_owner parts new.call (own_table parts new.call) ≡ true
entered_inside parts es old new g c key known outside which is =
    let frames : new.call.frames ≡ either (key % 2 == 0) ∷ [] = ap (λ (t : TicketValue). t.call.frames) is ∙ ap (λ f. f ++ c ∷ []) outside ∙ ap (λ x. x ∷ []) which in
    subst (λ f. AreInside parts f) (sym frames) (subst (λ p. AreInside p (either (key % 2 == 0) ∷ [])) (sym known) (inside_either (key % 2 == 0)))

pub a_known : (parts : Parts) → parts ≡ work_parts → A < length parts.components
a_known parts is = subst (λ (p : Parts). A < length p.components) (sym is) (known_either true)

pub c_known : (parts : Parts) → parts ≡ work_parts → C < length parts.components
c_known parts is = subst (λ (p : Parts). C < length p.components) (sym is) (known_either false)
