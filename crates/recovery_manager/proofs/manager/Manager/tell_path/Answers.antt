use Rattle.std.proofs.Common.{◌≡◌, ◌∙◌, List, length, filter, refl, sym, ap, subst, rules, arith}
use Rattle.std.proofs.lemmas.Grind.{common_steps}
use Rattle.crash_base.specs.declared.numbers.GroupNo.{GroupNo}
use Rattle.failure_scores.specs.declared.report.FailureReport.TheVariants.{Path}
use Rattle.failure_scores.specs.declared.report.PathReport.{PathReport}
use Rattle.failure_scores.specs.Scores as scores
use Rattle.recovery_manager.specs.declared.acts.Act.{Act}
use Rattle.recovery_manager.specs.Events.{unconsumed}
use Rattle.recovery_manager.specs.Kept.{AreKnown, ManagerValue}
use Rattle.recovery_manager.specs.Levels.{is_recent}
use Rattle.recovery_manager.specs.Telling.{told}
use Rattle.recovery_manager.proofs.Hearing.{reports_and, reports_are, known_told, decision_told, manager_told}
use Rattle.recovery_manager.proofs.Keeping.{known_more}
use Rattle.recovery_manager.proofs.manager.Manager.tell_path.Goals as goal

pub decide-decision-requires : goal.decide-decision-requires
decide-decision-requires c =
    let s : ManagerValue = record { groups = c.self.inside.groups.items; reports = c.self.inside.scores; acts = c.self.inside.acts.items; latest = c.self.inside.latest } in
    let count : c.len.result ≡ length s.groups = first_of (cc, search rules, grind (arith, common_steps)) in
    let kept : c.add_report.new.self ≡ reports_and s c.args.report = reports_are s c.args.report c.len.result c.known_path-path.result c.add_report.new.self count c.known_path-path.ensures c.in_ok-add_report.ensures.ok in
    subst (λ (gs : List GroupNo). AreKnown (length gs) c.add_report.new.self) (sym c.deref.ensures.value)
    (subst (λ (rs : List PathReport). AreKnown (length s.groups) rs) (sym kept) (known_more s.groups s.reports c.args.report c.self.invariant))

pub invariant_of-self-2 : goal.invariant_of-self-2
invariant_of-self-2 c =
    let s : ManagerValue = record { groups = c.self.inside.groups.items; reports = c.self.inside.scores; acts = c.self.inside.acts.items; latest = c.self.inside.latest } in
    let count : c.len.result ≡ length s.groups = first_of (cc, search rules, grind (arith, common_steps)) in
    let kept : c.add_report.new.self ≡ reports_and s c.args.report = reports_are s c.args.report c.len.result c.known_path-path.result c.add_report.new.self count c.known_path-path.ensures c.in_ok-add_report.ensures.ok in
    known_told s c.args.report c.decide-decision.result c.forget.new.self c.self.invariant
    (c.forget.ensures ∙ ap (λ (rs : List PathReport). filter (scores.is_recent c.args.report.moment) rs) (c.in_default.ensures.reports ∙ ap (λ (rs : List PathReport). unconsumed c.decide-decision.result rs) kept))

pub returns-clause-decision : goal.returns-clause-decision
returns-clause-decision c =
    let s : ManagerValue = record { groups = c.self.inside.groups.items; reports = c.self.inside.scores; acts = c.self.inside.acts.items; latest = c.self.inside.latest } in
    let count : c.len.result ≡ length s.groups = first_of (cc, search rules, grind (arith, common_steps)) in
    let kept : c.add_report.new.self ≡ reports_and s c.args.report = reports_are s c.args.report c.len.result c.known_path-path.result c.add_report.new.self count c.known_path-path.ensures c.in_ok-add_report.ensures.ok in
    decision_told s c.args.report c.deref.result.now c.add_report.new.self c.deref-2.result.now c.decide-decision.result c.deref.ensures.value kept c.deref-2.ensures.value c.decide-decision.ensures
    ∙ ap (λ (m : ManagerValue). (told m (Path c.args.report)).decision) c.self.view_is

pub returns-clause-after : goal.returns-clause-after
returns-clause-after c =
    let s : ManagerValue = record { groups = c.self.inside.groups.items; reports = c.self.inside.scores; acts = c.self.inside.acts.items; latest = c.self.inside.latest } in
    let count : c.len.result ≡ length s.groups = first_of (cc, search rules, grind (arith, common_steps)) in
    let kept : c.add_report.new.self ≡ reports_and s c.args.report = reports_are s c.args.report c.len.result c.known_path-path.result c.add_report.new.self count c.known_path-path.ensures c.in_ok-add_report.ensures.ok in
    let t : ManagerValue = record { groups = c.self.inside.groups.items; reports = c.forget.new.self; acts = c.forget-2.new.acts.items; latest = c.args.report.moment } in
    manager_told s t c.args.report c.decide-decision.result
    (decision_told s c.args.report c.deref.result.now c.add_report.new.self c.deref-2.result.now c.decide-decision.result c.deref.ensures.value kept c.deref-2.ensures.value c.decide-decision.ensures)
    refl
    (c.forget.ensures ∙ ap (λ (rs : List PathReport). filter (scores.is_recent c.args.report.moment) rs) (c.in_default.ensures.reports ∙ ap (λ (rs : List PathReport). unconsumed c.decide-decision.result rs) kept))
    (c.forget-2.ensures ∙ ap (λ (acts : List Act). filter (is_recent c.args.report.moment) acts) c.in_default.ensures.acts)
    refl
    ∙ ap (λ (m : ManagerValue). (told m (Path c.args.report)).manager) c.self.view_is
