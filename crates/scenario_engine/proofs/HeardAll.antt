-- Over all turns the manager has heard just what was reported, and has decided by all of it.
use Rattle.std.proofs.Common.{◌≡◌, ℕ, ◌+◌, Bool, true, false, cond, nat_lt, List, [], ◌∷◌, ◌++◌, append-nil, append_assoc, length, refl, sym, ap, ◌∙◌, subst}
use Rattle.std.proofs.lemmas.List.{map-append}
use Rattle.deployment.specs.declared.parts.Parts.{Parts}
use Rattle.failure_scores.specs.declared.report.FailureReport.{FailureReport}
use Rattle.recovery_manager.specs.Events.{ManagerEvent, decided_in, event_on, events_after, last_moment, no_earlier}
use Rattle.recovery_manager.specs.Kept.{ManagerValue, StandsFor}
use Rattle.recovery_manager.specs.Telling.{handed_on, new_manager, told}
use Rattle.scenario_text.specs.declared.line.TheConstants.{MAX_LINE_BYTES}
use Rattle.scenario_engine.proofs.HeardSteps.{HeardLaws, Hears}
use Rattle.scenario_engine.proofs.HeardTurns.{HeardTo, heard-turn}
use Rattle.scenario_engine.proofs.Keeping.{LeavesTo}
use Rattle.scenario_engine.specs.Reports.{HasDecided, HasHeard, ReportMade, decided_by_all, decided_on, reports_by, reports_from, turn_reports}
use Rattle.scenario_engine.specs.State.{State, Heading, Running, Outcome, RefusedIn, DoneTo, UnstartedIn, UnderWayIn}
use Rattle.scenario_engine.specs.Transcript.{Turn, RefusedAt, TooLong, Unstarted, UnderWay, end_from, first, last_state, turn_outcome}

-- what managers promise of one report more
pub record DecideLaws : Type 0 where
  pub decision : (m : ManagerValue) (parts : Parts) (events : List ManagerEvent) (report : FailureReport) → StandsFor m parts events
      → (told m (handed_on m report)).decision ≡ decided_in (event_on parts events (no_earlier (last_moment events) report))
  pub reports : (m : ManagerValue) (parts : Parts) (reports : List FailureReport) (report : FailureReport) → StandsFor m parts (events_after parts reports)
      → StandsFor (told m (handed_on m report)).manager parts (events_after parts (reports ++ report ∷ []))
  pub none : (parts : Parts) → StandsFor (new_manager parts) parts []

-- Each of these was decided by all before it, which come behind those.
abbrev pub AllDecided : List FailureReport → List ReportMade → Type 0
AllDecided before [] = Unit {0}
AllDecided before (made ∷ more) =
    (decided_on made ≡ decided_by_all made.site.boot.start.deployment before made.report)
    × AllDecided (before ++ made.report ∷ []) more

-- one report is behind some, and more behind it
one-more : (before : List FailureReport) (made : ReportMade) (more : List ReportMade) → (before ++ made.report ∷ []) ++ reports_by more ≡ before ++ reports_by (made ∷ more)
one-more before made more = append_assoc before (made.report ∷ []) (reports_by more)

reports-append : (xs ys : List ReportMade) → reports_by (xs ++ ys) ≡ reports_by xs ++ reports_by ys
reports-append xs ys = map-append (λ (m : ReportMade). m.report) xs ys

decided-append : (before : List FailureReport) (xs ys : List ReportMade) → AllDecided before xs → AllDecided (before ++ reports_by xs) ys → AllDecided before (xs ++ ys)
decided-append before [] ys its more = subst (λ (rs : List FailureReport). AllDecided rs ys) (append-nil before) more
decided-append before (made ∷ xs) ys (its, rest) more =
    (its, decided-append (before ++ made.report ∷ []) xs ys rest (subst (λ (rs : List FailureReport). AllDecided rs ys) (sym (one-more before made xs)) more))

decided-at : (before : List FailureReport) (xs ys : List ReportMade) (made : ReportMade) → AllDecided before (xs ++ made ∷ ys) → decided_on made ≡ decided_by_all made.site.boot.start.deployment (before ++ reports_by xs) made.report
decided-at before [] ys made all =
    subst (λ (rs : List FailureReport). decided_on made ≡ decided_by_all made.site.boot.start.deployment rs made.report) (sym (append-nil before)) all.0
decided-at before (x ∷ xs) ys made all =
    subst (λ (rs : List FailureReport). decided_on made ≡ decided_by_all made.site.boot.start.deployment rs made.report) (one-more before x xs)
    (decided-at (before ++ x.report ∷ []) xs ys made all.1)

-- A manager stands for all that was reported, and these were decided by all before them.
record Stands (parts : Parts) (before : List FailureReport) (xs : List ReportMade) (q : ManagerValue) : Type 0 where
  stands : StandsFor q parts (events_after parts (before ++ reports_by xs))
  decided : AllDecided before xs

module _ (laws : DecideLaws) where
  decided-one : (parts : Parts) (m : ManagerValue) (before : List FailureReport) (made : ReportMade) → StandsFor m parts (events_after parts before) → made.site.seats.manager ≡ m → made.site.boot.start.deployment ≡ parts
      → decided_on made ≡ decided_by_all made.site.boot.start.deployment before made.report
  decided-one parts m before made stands site of =
      ap (λ (x : ManagerValue). (told x (handed_on x made.report)).decision) site
      ∙ (laws.decision m parts (events_after parts before) made.report stands
      ∙ ap (λ (p : Parts). decided_by_all p before made.report) (sym of))

  stands-on : (parts : Parts) (m q : ManagerValue) (before : List FailureReport) (xs : List ReportMade) → StandsFor m parts (events_after parts before) → Hears parts m xs q → Stands parts before xs q
  stands-on parts m q before [] stands is = record {
    stands = subst (λ (rs : List FailureReport). StandsFor q parts (events_after parts rs)) (sym (append-nil before))
        (subst (λ (x : ManagerValue). StandsFor x parts (events_after parts before)) (sym is) stands);
    decided = tt;
  }
  stands-on parts m q before (made ∷ xs) stands (site, of, rest) =
      let next : ManagerValue = (told m (handed_on m made.report)).manager in
      let later : Stands parts (before ++ made.report ∷ []) xs q = stands-on parts next q (before ++ made.report ∷ []) xs (laws.reports m parts before made.report stands) rest in
      record {
        stands = subst (λ (rs : List FailureReport). StandsFor q parts (events_after parts rs)) (one-more before made xs) later.stands;
        decided = (decided-one parts m before made stands site of, later.decided);
      }

  -- a state has heard all that was reported, and it was decided by it
  record HasHeardAll (before : List FailureReport) (xs : List ReportMade) (t : State) : Type 0 where
    heard : HasHeard (before ++ reports_by xs) t
    decided : AllDecided before xs

  -- it is so behind one turn
  heard-to : (s t : State) (before : List FailureReport) (xs : List ReportMade) → HasHeard before s → HeardTo s xs t → HasHeardAll before xs t
  heard-to (Running r) (Heading head) before xs has none = absurd none
  heard-to (Running r) (Running q) before xs has (same, its) =
      let all : Stands r.boot.start.deployment before xs q.seats.manager = stands-on r.boot.start.deployment r.seats.manager q.seats.manager before xs has its in
      record {
        heard = subst (λ (p : Parts). StandsFor q.seats.manager p (events_after p (before ++ reports_by xs))) (sym same) all.stands;
        decided = all.decided;
      }
  heard-to (Heading head) (Heading next) before xs none is = record {
    heard = ap (λ (rs : List FailureReport). rs ++ reports_by xs) none ∙ ap reports_by is;
    decided = subst (AllDecided before) (sym is) tt;
  }
  heard-to (Heading head) (Running q) before xs none its =
      let parts : Parts = q.boot.start.deployment in
      let new : StandsFor (new_manager parts) parts (events_after parts before) = subst (λ (rs : List FailureReport). StandsFor (new_manager parts) parts (events_after parts rs)) (sym none) (laws.none parts) in
      let all : Stands parts before xs q.seats.manager = stands-on parts (new_manager parts) q.seats.manager before xs new its in
      record { heard = all.stands; decided = all.decided }

  module _ (steps : HeardLaws) where
    -- it is so behind an outcome
    heard-behind : (s : State) (before : List FailureReport) (xs : List ReportMade) (o : Outcome) → HasHeard before s → LeavesTo (HeardTo s xs) o → LeavesTo (HasHeardAll before xs) o
    heard-behind s before xs (RefusedIn t) has to = heard-to s t before xs has to
    heard-behind s before xs (DoneTo t text) has to = heard-to s t before xs has to
    heard-behind s before xs (UnstartedIn t cause) has to = heard-to s t before xs has to
    heard-behind s before xs (UnderWayIn t) has to = heard-to s t before xs has to

    -- nothing more is reported
    no-more : (before : List FailureReport) (xs : List ReportMade) (t : State) → HasHeardAll before xs t → HasHeardAll before (xs ++ []) t
    no-more before xs t all = subst (λ (ys : List ReportMade). HasHeardAll before ys t) (sym (append-nil xs)) all

    -- and more is
    and-more : (before : List FailureReport) (xs ys : List ReportMade) (t u : State) → HasHeardAll before xs t → HasHeardAll (before ++ reports_by xs) ys u → HasHeardAll before (xs ++ ys) u
    and-more before xs ys t u its more =
        let as_one : (before ++ reports_by xs) ++ reports_by ys ≡ before ++ reports_by (xs ++ ys) =
        append_assoc before (reports_by xs) (reports_by ys) ∙ ap (λ (rs : List FailureReport). before ++ rs) (sym (reports-append xs ys)) in
        record {
          heard = subst (λ (rs : List FailureReport). HasHeard rs u) as_one more.heard;
          decided = decided-append before xs ys its.decided more.decided;
        }

    heard-turns : (s : State) (n : ℕ) (turns : List Turn) (before : List FailureReport) → HasHeard before s → HasHeardAll before (reports_from s turns) (last_state (end_from s n turns))
    heard-turns s n [] before has = record { heard = subst (λ (rs : List FailureReport). HasHeard rs s) (sym (append-nil before)) has; decided = tt }
    heard-turns s n (turn ∷ turns) before has =
        go (λ t rs its. heard-turns t (n + 1) turns rs its) (nat_lt MAX_LINE_BYTES (length turn.line)) (turn_outcome s turn)
        (heard-behind s before Here (turn_outcome s turn) has (heard-turn steps s turn))
      where
        Here : List ReportMade
        Here = turn_reports s turn

        go : ((t : State) (rs : List FailureReport) → HasHeard rs t → HasHeardAll rs (reports_from t turns) (last_state (end_from t (n + 1) turns))) → (long : Bool) (o : Outcome) → LeavesTo (HasHeardAll before Here) o
            → HasHeardAll before (cond long [] (Here ++ elim o [
              | RefusedIn t ↦ []
              | DoneTo t text ↦ reports_from t turns
              | UnstartedIn t cause ↦ []
              | UnderWayIn t ↦ []
            ])) (last_state (cond long (TooLong s n) (elim o [
              | RefusedIn t ↦ RefusedAt t n
              | DoneTo t text ↦ end_from t (n + 1) turns
              | UnstartedIn t cause ↦ Unstarted t cause
              | UnderWayIn t ↦ UnderWay t n
            ])))
        go later true o left = record { heard = subst (λ (rs : List FailureReport). HasHeard rs s) (sym (append-nil before)) has; decided = tt }
        go later false (RefusedIn t) left = no-more before Here t left
        go later false (DoneTo t text) left =
            and-more before Here (reports_from t turns) t (last_state (end_from t (n + 1) turns)) left (later t (before ++ reports_by Here) left.heard)
        go later false (UnstartedIn t cause) left = no-more before Here t left
        go later false (UnderWayIn t) left = no-more before Here t left

    -- By all reports so far it was decided, whatever the turns.
    pub all-decided : (turns : List Turn) → HasDecided turns
    all-decided turns = record {
      heard = λ before more are. (heard-turns first 1 before [] refl).heard;
      decided = λ before behind made are.
          decided-at [] before behind made (subst (AllDecided []) are (heard-turns first 1 turns [] refl).decided);
    }
