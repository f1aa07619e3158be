-- What is made of a report by what is kept is what all events so far make of it.
use Rattle.std.proofs.Common.{◌≡◌, ◌∙◌, ℕ, ◌≤◌, nat_lt, Bool, true, false, cond, List, [], ◌∷◌, ◌++◌, length, filter, refl, sym, ap, subst, arith}
use Rattle.std.proofs.lemmas.Bool.Decides.{nat_tests}
use Rattle.std.proofs.lemmas.List.Sums.{fold-append}
use Rattle.crash_base.specs.declared.numbers.ComponentNo.{ComponentNo}
use Rattle.crash_base.specs.declared.numbers.GroupNo.{GroupNo}
use Rattle.crash_base.specs.declared.numbers.Level.TheVariants.{Process}
use Rattle.crash_base.specs.declared.numbers.Moment.{Moment}
use Rattle.deployment.specs.declared.parts.Parts.{Parts}
use Rattle.failure_scores.specs.declared.report.FailureReport.{FailureReport}
use Rattle.failure_scores.specs.declared.report.FailureReport.TheVariants.{Path, JournalFull}
use Rattle.failure_scores.specs.declared.report.PathReport.{PathReport}
use Rattle.failure_scores.specs.Scores as scores
use Rattle.recovery_manager.specs.declared.decision.Decision.{Decision}
use Rattle.recovery_manager.specs.declared.decision.Decision.TheVariants.{Reboot}
use Rattle.recovery_manager.specs.declared.acts.Act.{Act}
use Rattle.recovery_manager.specs.Events.{ManagerEvent, Reported, JournalFilled, acts_by, unconsumed, later, no_earlier, event_on, decided_in, last_moment, decision_after, events_and, events_after}
use Rattle.recovery_manager.specs.Kept.{AreKnown, ManagerValue, known_path, known_report, kept_decision, StandsFor}
use Rattle.recovery_manager.specs.Levels.{is_recent}
use Rattle.recovery_manager.specs.Telling.{new_manager, told, handed_on}
use Rattle.recovery_manager.proofs.Keeping.{decided_by_kept, stands_reported, stands_filled, known_more, known_recent, known_left}

-- when a report is of
abbrev pub moment_in : FailureReport → Moment
moment_in (Path report) = report.moment
moment_in (JournalFull moment) = moment

same_managers : (m n : ManagerValue) → m.groups ≡ n.groups → m.reports ≡ n.reports → m.acts ≡ n.acts → m.latest ≡ n.latest → m ≡ n
same_managers m n groups reports acts latest =
    ap (λ (x : List GroupNo). with_parts x m.reports m.acts m.latest) groups
    ∙ ap (λ (x : List PathReport). with_parts n.groups x m.acts m.latest) reports
    ∙ ap (λ (x : List Act). with_parts n.groups n.reports x m.latest) acts
    ∙ ap (λ (x : Moment). with_parts n.groups n.reports n.acts x) latest
  where
    with_parts : List GroupNo → List PathReport → List Act → Moment → ManagerValue
    with_parts gs rs xs moment = record { groups = gs; reports = rs; acts = xs; latest = moment }

-- the reports that a manager decides by on one more
abbrev pub reports_and : ManagerValue → PathReport → List PathReport
reports_and m report = m.reports ++ known_report (length m.groups) report ∷ []

-- the reports with one more, whose path was cut to known components
pub reports_are : (m : ManagerValue) (report : PathReport) (count : ℕ) (path : List ComponentNo) (reports : List PathReport) → count ≡ length m.groups → path ≡ known_path count report.path → reports ≡ m.reports ++ scores.report_of path report.moment ∷ [] → reports ≡ reports_and m report
reports_are m report count path reports counts cut more =
    more ∙ ap (λ (p : List ComponentNo). m.reports ++ scores.report_of p report.moment ∷ []) (cut ∙ ap (λ (n : ℕ). known_path n report.path) counts)

-- what a manager keeps of reports of known components, after it decided on one more, is such too
pub known_told : (m : ManagerValue) (report : PathReport) (decision : Decision) (reports : List PathReport) → AreKnown (length m.groups) m.reports → reports ≡ filter (scores.is_recent report.moment) (unconsumed decision (reports_and m report)) → AreKnown (length m.groups) reports
known_told m report decision reports known same =
    subst (λ (rs : List PathReport). AreKnown (length m.groups) rs) (sym same)
    (known_recent (length m.groups) (unconsumed decision (reports_and m report)) report.moment (known_left (length m.groups) (reports_and m report) decision (known_more m.groups m.reports report known)))

-- what is decided by what a manager has in its fields
pub decision_told : (m : ManagerValue) (report : PathReport) (groups : List GroupNo) (reports : List PathReport) (acts : List Act) (decision : Decision) → groups ≡ m.groups → reports ≡ reports_and m report → acts ≡ m.acts → decision ≡ kept_decision groups reports acts report.moment → decision ≡ (told m (Path report)).decision
unfolding told
decision_told m report groups reports acts decision same_groups same_reports same_acts decides =
    decides
    ∙ ap (λ (gs : List GroupNo). kept_decision gs reports acts report.moment) same_groups
    ∙ ap (λ (rs : List PathReport). kept_decision m.groups rs acts report.moment) same_reports
    ∙ ap (λ (xs : List Act). kept_decision m.groups (reports_and m report) xs report.moment) same_acts

-- a manager that kept what it was to after a report
pub manager_told : (m n : ManagerValue) (report : PathReport) (decision : Decision) → decision ≡ (told m (Path report)).decision
    → n.groups ≡ m.groups
    → n.reports ≡ filter (scores.is_recent report.moment) (unconsumed decision (reports_and m report))
    → n.acts ≡ filter (is_recent report.moment) (m.acts ++ acts_by report.moment decision)
    → n.latest ≡ report.moment
    → n ≡ (told m (Path report)).manager
unfolding told
manager_told m n report decision decides groups reports acts latest = same_managers n (told m (Path report)).manager groups (reports ∙ ap (λ (d : Decision). filter (scores.is_recent report.moment) (unconsumed d (reports_and m report))) decides) (acts ∙ ap (λ (d : Decision). filter (is_recent report.moment) (m.acts ++ acts_by report.moment d)) decides) latest

-- a manager that kept what it was to after a journal was full
pub manager_filled : (m n : ManagerValue) (moment : Moment)
    → n.groups ≡ m.groups
    → n.reports ≡ filter (scores.is_recent moment) m.reports
    → n.acts ≡ filter (is_recent moment) (m.acts ++ acts_by moment (Reboot Process))
    → n.latest ≡ moment
    → n ≡ (told m (JournalFull moment)).manager
unfolding told
manager_filled m n moment groups reports acts latest = same_managers n (told m (JournalFull moment)).manager groups reports acts latest

pub decision_filled : (m : ManagerValue) (moment : Moment) → Reboot Process ≡ (told m (JournalFull moment)).decision
unfolding told
decision_filled m moment = refl

pub latest_told : (m : ManagerValue) (report : PathReport) → (told m (Path report)).manager.latest ≡ report.moment
unfolding told
latest_told m report = refl

pub latest_filled : (m : ManagerValue) (moment : Moment) → (told m (JournalFull moment)).manager.latest ≡ moment
unfolding told
latest_filled m moment = refl

pub decided_told_path : (parts : Parts) (events : List ManagerEvent) (m : ManagerValue) (report : PathReport) → StandsFor m parts events → m.latest.0 ≤ report.moment.0 → (told m (Path report)).decision ≡ decision_after parts events report
unfolding told
decided_told_path parts events m report stands in_order = decided_by_kept parts events m report stands in_order

pub stands_told_path : (parts : Parts) (events : List ManagerEvent) (m : ManagerValue) (report : PathReport) (decision : Decision) → decision ≡ (told m (Path report)).decision → StandsFor m parts events → m.latest.0 ≤ report.moment.0 → StandsFor (told m (Path report)).manager parts (events ++ Reported report decision ∷ [])
unfolding told
stands_told_path parts events m report decision decides stands in_order =
    subst (λ (d : Decision). StandsFor (told m (Path report)).manager parts (events ++ Reported report d ∷ [])) (sym decides)
    (stands_reported parts events m (told m (Path report)).manager report.path report.moment (told m (Path report)).decision stands in_order refl refl refl refl)

pub stands_told_full : (parts : Parts) (events : List ManagerEvent) (m : ManagerValue) (moment : Moment) → StandsFor m parts events → m.latest.0 ≤ moment.0 → StandsFor (told m (JournalFull moment)).manager parts (events ++ JournalFilled moment ∷ [])
unfolding told
stands_told_full parts events m moment stands in_order = stands_filled parts events m (told m (JournalFull moment)).manager moment stands in_order refl refl refl refl

decided_told : (parts : Parts) (events : List ManagerEvent) (m : ManagerValue) (report : FailureReport) → StandsFor m parts events → m.latest.0 ≤ (moment_in report).0 → (told m report).decision ≡ decided_in (event_on parts events report)
unfolding event_on
decided_told parts events m (Path report) stands in_order = decided_told_path parts events m report stands in_order
decided_told parts events m (JournalFull moment) stands in_order = sym (decision_filled m moment)

stands_told : (parts : Parts) (events : List ManagerEvent) (m : ManagerValue) (report : FailureReport) → StandsFor m parts events → m.latest.0 ≤ (moment_in report).0 → StandsFor (told m report).manager parts (events ++ event_on parts events report ∷ [])
unfolding event_on
stands_told parts events m (Path report) stands in_order = stands_told_path parts events m report (decision_after parts events report) (sym (decided_told_path parts events m report stands in_order)) stands in_order
stands_told parts events m (JournalFull moment) stands in_order = stands_told_full parts events m moment stands in_order

not_before : (a b : Moment) → a.0 ≤ (later a b).0
not_before a b = go (nat_lt a.0 b.0) refl
  where
    go : (t : Bool) → nat_lt a.0 b.0 ≡ t → a.0 ≤ (cond t b a).0
    go true less = grind (arith, nat_tests)
    go false more = omega arith

in_order : (moment : Moment) (report : FailureReport) → moment.0 ≤ (moment_in (no_earlier moment report)).0
unfolding no_earlier
in_order moment (Path report) = not_before moment report.moment
in_order moment (JournalFull at) = not_before moment at

pub decided_heard : (m : ManagerValue) (parts : Parts) (events : List ManagerEvent) (report : FailureReport) → StandsFor m parts events → (told m (handed_on m report)).decision ≡ decided_in (event_on parts events (no_earlier (last_moment events) report))
decided_heard m parts events report stands =
    decided_told parts events m (handed_on m report) stands (in_order m.latest report)
    ∙ ap (λ (moment : Moment). decided_in (event_on parts events (no_earlier moment report))) stands.latest

pub stands_heard : (m : ManagerValue) (parts : Parts) (events : List ManagerEvent) (report : FailureReport) → StandsFor m parts events → StandsFor (told m (handed_on m report)).manager parts (events_and parts events report)
stands_heard m parts events report stands =
    subst (λ (moment : Moment). StandsFor (told m (handed_on m report)).manager parts (events ++ event_on parts events (no_earlier moment report) ∷ [])) stands.latest
    (stands_told parts events m (handed_on m report) stands (in_order m.latest report))

pub events_more : (parts : Parts) (reports : List FailureReport) (report : FailureReport) → events_after parts (reports ++ report ∷ []) ≡ events_and parts (events_after parts reports) report
events_more parts reports report = fold-append (events_and parts) [] reports (report ∷ [])

pub stands_more : (m : ManagerValue) (parts : Parts) (reports : List FailureReport) (report : FailureReport) → StandsFor m parts (events_after parts reports) → StandsFor (told m (handed_on m report)).manager parts (events_after parts (reports ++ report ∷ []))
stands_more m parts reports report stands =
    subst (λ (events : List ManagerEvent). StandsFor (told m (handed_on m report)).manager parts events) (sym (events_more parts reports report))
    (stands_heard m parts (events_after parts reports) report stands)

pub stands_new : (parts : Parts) → StandsFor (new_manager parts) parts []
unfolding new_manager
stands_new parts = record { groups = refl; reports = refl; acts = refl; latest = refl }
