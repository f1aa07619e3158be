-- What is kept of reports and acts decides as all of them do.
use Rattle.std.proofs.Common.{◌≡◌, ◌∙◌, ℕ, ◌<◌, ◌≤◌, ◌==◌, ◌&&◌, ◌||◌, nat_lt, Bool, true, false, cond, List, [], ◌∷◌, ◌++◌, length, map, filter, All, refl, sym, ap, subst, arith}
use Rattle.std.specs.List.{list_any}
use Rattle.std.proofs.lemmas.Bool.Decides.{nat_tests}
use Rattle.std.proofs.lemmas.Grind.{flat_map-append}
use Rattle.std.proofs.lemmas.List.{append_assoc, append-nil, map-append}
use Rattle.std.proofs.lemmas.List.Elements.{All-nil, All-push, All-filter, All-weaker, filter-append, filter_passes}
use Rattle.std.proofs.lemmas.List.Folds.{list_any-append}
use Rattle.std.proofs.lemmas.List.FromFn.{length-map-range_with_len}
use Rattle.std.proofs.lemmas.List.Sums.{fold-append}
use Rattle.crash_base.specs.declared.numbers.ComponentNo.{ComponentNo}
use Rattle.crash_base.specs.declared.numbers.GroupNo.{GroupNo}
use Rattle.crash_base.specs.declared.numbers.Level.TheVariants.{Process}
use Rattle.crash_base.specs.declared.numbers.Moment.{Moment}
use Rattle.deployment.specs.declared.parts.Parts.{Parts}
use Rattle.deployment.specs.Groups.{group_no, group_of}
use Rattle.failure_scores.specs.declared.report.PathReport.{PathReport}
use Rattle.failure_scores.specs.Scores as scores
use Rattle.failure_scores.specs.Scores.{report_of, is_on, counts, score}
use Rattle.failure_scores.proofs.Counting.{filter_within, within_before, recent_before}
use Rattle.failure_scores.specs.declared.report.TheConstants.{SCORED_MILLISECONDS}
use Rattle.recovery_manager.specs.declared.acts.TheConstants.{WIDENED_MILLISECONDS}
use Rattle.recovery_manager.specs.declared.acts.Act.{Act}
use Rattle.recovery_manager.specs.declared.decision.Decision.{Decision}
use Rattle.recovery_manager.specs.declared.decision.Decision.TheVariants.{None, Reboot}
use Rattle.recovery_manager.specs.Decisions.{decision_of}
use Rattle.recovery_manager.specs.Events.{ManagerEvent, Reported, JournalFilled, acts_by, acts_in, acts_of, consumes, reports_in, pending, unconsumed, moment_of, last_moment, decision_after}
use Rattle.recovery_manager.specs.Kept.{AreKnown, ManagerValue, groups_of, known_path, known_report, kept_decision, StandsFor}
use Rattle.recovery_manager.specs.Levels.{is_recent}
use Rattle.recovery_manager.proofs.Blaming.{decided_by_scores, decision_kept}

-- whether reports are consumed by one of the events and a last one
consumed_by_last : (events : List ManagerEvent) (event : ManagerEvent) → list_any consumes (events ++ event ∷ []) ≡ (list_any consumes events || (consumes event || false))
consumed_by_last events event = list_any-append consumes events (event ∷ [])

or_none : (a b : Bool) → b ≡ false → (a || (b || false)) ≡ a
or_none true b none = refl
or_none false b none = ap (λ (c : Bool). c || false) none

or_some : (a b : Bool) → b ≡ true → (a || (b || false)) ≡ true
or_some true b some = refl
or_some false b some = ap (λ (c : Bool). c || false) some

pub pending_more : (events : List ManagerEvent) (event : ManagerEvent) → consumes event ≡ false → pending (events ++ event ∷ []) ≡ pending events ++ reports_in event
pending_more [] event none = ap (λ (b : Bool). cond (b || false) [] (reports_in event ++ [])) none ∙ append-nil (reports_in event)
pending_more (first ∷ events) event none =
    ap (λ (b : Bool). cond b (pending (events ++ event ∷ [])) (reports_in first ++ pending (events ++ event ∷ []))) (consumed_by_last (first ∷ events) event ∙ or_none (list_any consumes (first ∷ events)) (consumes event) none)
    ∙ go (pending_more events event none) (list_any consumes (first ∷ events))
  where
    go : pending (events ++ event ∷ []) ≡ pending events ++ reports_in event → (b : Bool) → cond b (pending (events ++ event ∷ [])) (reports_in first ++ pending (events ++ event ∷ [])) ≡ cond b (pending events) (reports_in first ++ pending events) ++ reports_in event
    go more true = more
    go more false = ap (λ (rs : List PathReport). reports_in first ++ rs) more ∙ sym (append_assoc (reports_in first) (pending events) (reports_in event))

pub pending_consumed : (events : List ManagerEvent) (event : ManagerEvent) → consumes event ≡ true → pending (events ++ event ∷ []) ≡ []
pending_consumed [] event some = ap (λ (b : Bool). cond (b || false) [] (reports_in event ++ [])) some
pending_consumed (first ∷ events) event some =
    ap (λ (b : Bool). cond b (pending (events ++ event ∷ [])) (reports_in first ++ pending (events ++ event ∷ []))) (consumed_by_last (first ∷ events) event ∙ or_some (list_any consumes (first ∷ events)) (consumes event) some)
    ∙ pending_consumed events event some

-- the reports that are left by a decision on a report
pending_reported : (events : List ManagerEvent) (report : PathReport) (decision : Decision) → pending (events ++ Reported report decision ∷ []) ≡ unconsumed decision (pending events ++ report ∷ [])
pending_reported events report None = pending_more events (Reported report None) refl
pending_reported events report (Reboot level) = pending_consumed events (Reported report (Reboot level)) refl

pub acts_more : (events : List ManagerEvent) (event : ManagerEvent) → acts_of (events ++ event ∷ []) ≡ acts_of events ++ acts_in event
acts_more events event = flat_map-append acts_in events (event ∷ []) ∙ ap (λ (acts : List Act). acts_of events ++ acts) (append-nil (acts_in event))

pub no_act_more : (events : List ManagerEvent) (report : PathReport) → acts_of (events ++ Reported report None ∷ []) ≡ acts_of events
no_act_more events report = acts_more events (Reported report None) ∙ append-nil (acts_of events)

last_more : (events : List ManagerEvent) (event : ManagerEvent) → last_moment (events ++ event ∷ []) ≡ moment_of event
last_more events event = fold-append (λ (before : Moment) (e : ManagerEvent). moment_of e) (record { 0 = 0 }) events (event ∷ [])

-- filtering by what is recent now what was filtered so before changes nothing
filter_later : {X : Type 0} (then now : X → Bool) → ((x : X) → now x ≡ true → then x ≡ true) → (xs ys : List X) → filter now (filter then xs ++ ys) ≡ filter now (xs ++ ys)
filter_later {X} then now implied xs ys = filter-append now (filter then xs) ys ∙ ap (λ (zs : List X). zs ++ filter now ys) (filter_within now then implied xs) ∙ sym (filter-append now xs ys)

recent_report : (then now : Moment) → then.0 ≤ now.0 → (r : PathReport) → scores.is_recent now r ≡ true → scores.is_recent then r ≡ true
recent_report then now earlier r recent = within_before then.0 now.0 r.moment.0 SCORED_MILLISECONDS earlier recent

recent_act : (then now : Moment) → then.0 ≤ now.0 → (a : Act) → is_recent now a ≡ true → is_recent then a ≡ true
recent_act then now earlier a recent = within_before then.0 now.0 a.moment.0 WIDENED_MILLISECONDS earlier recent

-- a component of the deployment is on a path where it is among those of its components that are
is_on_known : (count : ℕ) (c : ComponentNo) (path : List ComponentNo) → c.0 < count → is_on c (known_path count path) ≡ is_on c path
is_on_known count c [] below = refl
is_on_known count c (d ∷ path) below = go (is_on_known count c path below) (nat_lt d.0 count) refl (d.0 == c.0) refl
  where
    apart : nat_lt d.0 count ≡ false → (d.0 == c.0) ≡ true → true ≡ false
    apart above same = let equal : d.0 ≡ c.0 = grind (arith, nat_tests) in let more : count ≤ d.0 = grind (arith, nat_tests) in absurd (omega arith)

    go : is_on c (known_path count path) ≡ is_on c path → (b : Bool) → nat_lt d.0 count ≡ b → (e : Bool) → (d.0 == c.0) ≡ e → is_on c (cond b (d ∷ known_path count path) (known_path count path)) ≡ ((d.0 == c.0) || is_on c path)
    go more true within e same = ap (λ (t : Bool). (d.0 == c.0) || t) more
    go more false above true same = let wrong : true ≡ false = apart above same in cc
    go more false above false differs = more ∙ sym (ap (λ (t : Bool). t || is_on c path) differs)

-- a component of the deployment scores by the components on the paths what it does by the paths
score_known : (count : ℕ) (reports : List PathReport) (c : ComponentNo) (now : Moment) → c.0 < count → score (map (known_report count) reports) c now ≡ score reports c now
score_known count [] c now below = refl
score_known count (r ∷ rs) c now below =
    ap (λ (b : Bool). length (cond b (known_report count r ∷ filter (counts c now) (map (known_report count) rs)) (filter (counts c now) (map (known_report count) rs)))) same
    ∙ go (score_known count rs c now below) (counts c now r)
  where
    same : counts c now (known_report count r) ≡ counts c now r
    same = ap (λ (t : Bool). scores.is_recent now r && t) (is_on_known count c r.path below)

    go : length (filter (counts c now) (map (known_report count) rs)) ≡ length (filter (counts c now) rs) → (b : Bool) → length (cond b (known_report count r ∷ filter (counts c now) (map (known_report count) rs)) (filter (counts c now) (map (known_report count) rs))) ≡ length (cond b (r ∷ filter (counts c now) rs) (filter (counts c now) rs))
    go more true = omega arith
    go more false = more

-- the scores by what is kept and one more report
kept_score : (count : ℕ) (reports : List PathReport) (report : PathReport) (then now : Moment) (c : ComponentNo) → then.0 ≤ now.0 → score (filter (scores.is_recent then) (map (known_report count) reports) ++ known_report count report ∷ []) c now ≡ score (map (known_report count) (reports ++ report ∷ [])) c now
kept_score count reports report then now c earlier =
    ap (λ (rs : List PathReport). length rs) (filter_later (scores.is_recent then) (counts c now) (recent_before then now c earlier) (map (known_report count) reports) (known_report count report ∷ []))
    ∙ ap (λ (rs : List PathReport). score rs c now) (sym (map-append (known_report count) reports (report ∷ [])))

count_of : (parts : Parts) (groups : List GroupNo) → groups ≡ groups_of parts → length groups ≡ length parts.components
count_of parts groups same = ap (λ (gs : List GroupNo). length gs) same ∙ length-map-range_with_len (λ (n : ℕ). group_no (group_of parts n)) 0 (length parts.components)

-- what is decided by what is kept and one more report is decided by all
pub decided_by_kept : (parts : Parts) (events : List ManagerEvent) (old : ManagerValue) (report : PathReport) → StandsFor old parts events → old.latest.0 ≤ report.moment.0 → kept_decision old.groups (old.reports ++ known_report (length old.groups) report ∷ []) old.acts report.moment ≡ decision_after parts events report
decided_by_kept parts events old report stands in_order =
    decided_by_scores parts old.groups (old.reports ++ known_report (length old.groups) report ∷ []) (pending events ++ report ∷ []) old.acts report.moment stands.groups same_scores
    ∙ ap (λ (acts : List Act). decision_of parts (pending events ++ report ∷ []) acts report.moment) stands.acts
    ∙ decision_kept parts (pending events ++ report ∷ []) (acts_of events) (last_moment events) report.moment earlier
  where
    earlier : (last_moment events).0 ≤ report.moment.0
    earlier = subst (λ (m : Moment). m.0 ≤ report.moment.0) stands.latest in_order

    kept_is : old.reports ++ known_report (length old.groups) report ∷ [] ≡ filter (scores.is_recent (last_moment events)) (map (known_report (length parts.components)) (pending events)) ++ known_report (length parts.components) report ∷ []
    kept_is = ap (λ (n : ℕ). old.reports ++ known_report n report ∷ []) (count_of parts old.groups stands.groups) ∙ ap (λ (rs : List PathReport). rs ++ known_report (length parts.components) report ∷ []) stands.reports

    same_scores : (c : ComponentNo) → c.0 < length parts.components → score (old.reports ++ known_report (length old.groups) report ∷ []) c report.moment ≡ score (pending events ++ report ∷ []) c report.moment
    same_scores c below =
        ap (λ (rs : List PathReport). score rs c report.moment) kept_is
        ∙ kept_score (length parts.components) (pending events) report (last_moment events) report.moment c earlier
        ∙ score_known (length parts.components) (pending events ++ report ∷ []) c report.moment below

-- of reports and one more those that a decision leaves are kept
unconsumed_kept : (count : ℕ) (reports : List PathReport) (report : PathReport) (decision : Decision) (then now : Moment) → then.0 ≤ now.0 → filter (scores.is_recent now) (unconsumed decision (filter (scores.is_recent then) (map (known_report count) reports) ++ known_report count report ∷ [])) ≡ filter (scores.is_recent now) (map (known_report count) (unconsumed decision (reports ++ report ∷ [])))
unconsumed_kept count reports report None then now earlier =
    filter_later (scores.is_recent then) (scores.is_recent now) (recent_report then now earlier) (map (known_report count) reports) (known_report count report ∷ [])
    ∙ ap (λ (rs : List PathReport). filter (scores.is_recent now) rs) (sym (map-append (known_report count) reports (report ∷ [])))
unconsumed_kept count reports report (Reboot level) then now earlier = refl

-- a manager that kept what it was to after a report
pub stands_reported : (parts : Parts) (events : List ManagerEvent) (old new : ManagerValue) (path : List ComponentNo) (moment : Moment) (decision : Decision) → StandsFor old parts events → old.latest.0 ≤ moment.0
    → new.groups ≡ old.groups
    → new.reports ≡ filter (scores.is_recent moment) (unconsumed decision (old.reports ++ report_of (known_path (length old.groups) path) moment ∷ []))
    → new.acts ≡ filter (is_recent moment) (old.acts ++ acts_by moment decision)
    → new.latest ≡ moment
    → StandsFor new parts (events ++ Reported (report_of path moment) decision ∷ [])
stands_reported parts events old new path moment decision stands in_order groups reports acts latest = record {
  groups = groups ∙ stands.groups;
  reports = reports
      ∙ ap (λ (rs : List PathReport). filter (scores.is_recent moment) (unconsumed decision (rs ++ report_of (known_path (length old.groups) path) moment ∷ []))) stands.reports
      ∙ ap (λ (n : ℕ). filter (scores.is_recent moment) (unconsumed decision (filter (scores.is_recent (last_moment events)) (map (known_report (length parts.components)) (pending events)) ++ report_of (known_path n path) moment ∷ []))) (count_of parts old.groups stands.groups)
      ∙ unconsumed_kept (length parts.components) (pending events) (report_of path moment) decision (last_moment events) moment earlier
      ∙ ap (λ (rs : List PathReport). filter (scores.is_recent moment) (map (known_report (length parts.components)) rs)) (sym (pending_reported events (report_of path moment) decision))
      ∙ ap (λ (m : Moment). filter (scores.is_recent m) (map (known_report (length parts.components)) (pending (events ++ Reported (report_of path moment) decision ∷ [])))) (sym last);
  acts = acts
      ∙ ap (λ (xs : List Act). filter (is_recent moment) (xs ++ acts_by moment decision)) stands.acts
      ∙ filter_later (is_recent (last_moment events)) (is_recent moment) (recent_act (last_moment events) moment earlier) (acts_of events) (acts_by moment decision)
      ∙ ap (λ (xs : List Act). filter (is_recent moment) xs) (sym (acts_more events (Reported (report_of path moment) decision)))
      ∙ ap (λ (m : Moment). filter (is_recent m) (acts_of (events ++ Reported (report_of path moment) decision ∷ []))) (sym last);
  latest = latest ∙ sym last;
}
  where
    earlier : (last_moment events).0 ≤ moment.0
    earlier = subst (λ (m : Moment). m.0 ≤ moment.0) stands.latest in_order

    last : last_moment (events ++ Reported (report_of path moment) decision ∷ []) ≡ moment
    last = last_more events (Reported (report_of path moment) decision)

-- a manager that kept what it was to after a journal was full
pub stands_filled : (parts : Parts) (events : List ManagerEvent) (old new : ManagerValue) (moment : Moment) → StandsFor old parts events → old.latest.0 ≤ moment.0
    → new.groups ≡ old.groups
    → new.reports ≡ filter (scores.is_recent moment) old.reports
    → new.acts ≡ filter (is_recent moment) (old.acts ++ record { moment = moment; level = Process } ∷ [])
    → new.latest ≡ moment
    → StandsFor new parts (events ++ JournalFilled moment ∷ [])
stands_filled parts events old new moment stands in_order groups reports acts latest = record {
  groups = groups ∙ stands.groups;
  reports = reports
      ∙ ap (λ (rs : List PathReport). filter (scores.is_recent moment) rs) stands.reports
      ∙ filter_within (scores.is_recent moment) (scores.is_recent (last_moment events)) (recent_report (last_moment events) moment earlier) (map (known_report (length parts.components)) (pending events))
      ∙ ap (λ (rs : List PathReport). filter (scores.is_recent moment) (map (known_report (length parts.components)) rs)) (sym (pending_more events (JournalFilled moment) refl ∙ append-nil (pending events)))
      ∙ ap (λ (m : Moment). filter (scores.is_recent m) (map (known_report (length parts.components)) (pending (events ++ JournalFilled moment ∷ [])))) (sym last);
  acts = acts
      ∙ ap (λ (xs : List Act). filter (is_recent moment) (xs ++ acts_in (JournalFilled moment))) stands.acts
      ∙ filter_later (is_recent (last_moment events)) (is_recent moment) (recent_act (last_moment events) moment earlier) (acts_of events) (acts_in (JournalFilled moment))
      ∙ ap (λ (xs : List Act). filter (is_recent moment) xs) (sym (acts_more events (JournalFilled moment)))
      ∙ ap (λ (m : Moment). filter (is_recent m) (acts_of (events ++ JournalFilled moment ∷ []))) (sym last);
  latest = latest ∙ sym last;
}
  where
    earlier : (last_moment events).0 ≤ moment.0
    earlier = subst (λ (m : Moment). m.0 ≤ moment.0) stands.latest in_order

    last : last_moment (events ++ JournalFilled moment ∷ []) ≡ moment
    last = last_more events (JournalFilled moment)

pub pending_full : (events : List ManagerEvent) (moment : Moment) → pending (events ++ JournalFilled moment ∷ []) ≡ pending events
pending_full events moment = pending_more events (JournalFilled moment) refl ∙ append-nil (pending events)

-- reports of known components and one more, without the numbers on its path that are none's
pub known_more : (groups : List GroupNo) (reports : List PathReport) (report : PathReport) → AreKnown (length groups) reports → AreKnown (length groups) (reports ++ known_report (length groups) report ∷ [])
known_more groups reports report known =
    All-push (λ (r : PathReport). All (λ (c : ComponentNo). c.0 < length groups) r.path) reports (known_report (length groups) report) known
    (All-weaker (λ (c : ComponentNo). nat_lt c.0 (length groups) ≡ true) (λ (c : ComponentNo). c.0 < length groups) (λ c test. less c.0 (length groups) test) (known_path (length groups) report.path) (filter_passes (λ (c : ComponentNo). nat_lt c.0 (length groups)) report.path))
  where
    less : (a b : ℕ) → nat_lt a b ≡ true → a < b
    less a b test = grind (arith, nat_tests)

pub known_recent : (count : ℕ) (reports : List PathReport) (now : Moment) → AreKnown count reports → AreKnown count (filter (scores.is_recent now) reports)
known_recent count reports now known = All-filter (scores.is_recent now) (λ (r : PathReport). All (λ (c : ComponentNo). c.0 < count) r.path) reports known

pub known_left : (count : ℕ) (reports : List PathReport) (decision : Decision) → AreKnown count reports → AreKnown count (unconsumed decision reports)
known_left count reports None known = known
known_left count reports (Reboot level) known = All-nil (λ (r : PathReport). All (λ (c : ComponentNo). c.0 < count) r.path)
