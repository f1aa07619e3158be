-- What is reported of the request that is open, and that it is what its end tells.
use Rattle.std.specs.Prelude.{option_map}
use Rattle.std.proofs.Common.{◌≡◌, ◌↔◌, ◌⊎◌, inl, inr, Bool, List, Option, Some, None, refl, sym, ap, ◌∙◌, subst}
use Rattle.call_ticket.specs.declared.next.Answer.{Answer}
use Rattle.call_ticket.specs.declared.next.Next.{Next}
use Rattle.container_core.specs.Container.{ContainerValue, events_of}
use Rattle.crash_base.specs.declared.numbers.Moment.{Moment}
use Rattle.failure_scores.specs.declared.report.FailureReport.{FailureReport}
use Rattle.failure_scores.specs.declared.report.FailureReport.TheVariants as reports
use Rattle.failure_scores.specs.declared.report.PathReport.{PathReport}
use Rattle.outcome_items.specs.Reports.{path_report, report_of, report_of_end}
use Rattle.outcome_items.specs.declared.outcome.ItemOutcome.{ItemOutcome}
use Rattle.outcome_items.specs.declared.outcome.ItemOutcome.TheVariants as item
use Rattle.request_tries.specs.Ends.{Errand, MayEnd, done_of}
use Rattle.request_tries.specs.Serving.{TriesValue, errand_of}
use Rattle.request_tries.specs.declared.outcome.Ended.{Ended}
use Rattle.request_tries.specs.declared.outcome.RequestOutcome.{RequestOutcome}
use Rattle.request_tries.specs.declared.outcome.RequestOutcome.TheVariants.{Page, Sentinel, Hung, Raised, Revoked, Conflict, JournalFull, KeeperFailed}
use Rattle.request_visit.specs.Ready.{ready_of}
use Rattle.request_visit.specs.Serving.{closed_with, closing_of, holds_of}
use Rattle.request_visit.specs.Stepping.{OnServing, ServesWork, VisitsInside, after_closing_if, left_so}
use Rattle.request_visit.specs.Visits.{turn as visit_turn, turn_by as visit_turn_by}
use Rattle.request_visit.specs.declared.ready.Ready.{Ready}
use Rattle.request_visit.specs.declared.ready.Ready.TheVariants.{Respond, Write}
use Rattle.request_visit.specs.declared.serving.Closed.TheVariants as closes
use Rattle.request_visit.specs.declared.serving.Closing.{Closing}
use Rattle.request_visit.specs.declared.visit.Turn.TheVariants as visit
use Rattle.request_visit.specs.declared.visit.Visit.{Visit}
use Rattle.request_visit.specs.declared.visit.Work.{Work}
use Rattle.request_visit.specs.declared.visit.Work.TheVariants.{Reading, Opening, Serving as ServingBy, Committed, Decided, Answered, Left}
use Rattle.session_way.specs.Way.{wants}
use Rattle.session_way.specs.declared.way.Wants.{Wants}
use Rattle.shepherd.specs.Reports.{FoundFull, HasFailed, TellsOfEnd, report_by, report_in}
use Rattle.shepherd.specs.Shepherds.{turn}
use Rattle.shepherd.specs.Steps.{OnVisit, ShepherdSteps}
use Rattle.shepherd.specs.declared.shepherd.AskedCall.{AskedCall}
use Rattle.shepherd.specs.declared.shepherd.Shepherd.{Shepherd}
use Rattle.shepherd.specs.declared.shepherd.ShepherdTurn.TheVariants as turns
use Rattle.shepherd.specs.declared.shepherd.Stage.{Stage}
use Rattle.shepherd.specs.declared.shepherd.Stage.TheVariants.{Resting, Serving, Refusing, Over}
use Rattle.shepherd.proofs.Counting.{went}
use Rattle.shepherd.proofs.Turning.{asks_visit, is_visit_turn}

same_path : (a b : PathReport) → Some (reports.Path a) ≡ Some (reports.Path b) → a ≡ b
same_path a b e = cc

same_moment : (a b : Moment) → Some (reports.JournalFull a) ≡ Some (reports.JournalFull b) → a ≡ b
same_moment a b e = cc

-- A request that came to an end by a component has failed along its path.
failed_so : {P : Type 0} (v : Visit P) (r : PathReport) (end : RequestOutcome) → v.work ≡ Decided (item.Ended end) → report_of_end v.facts.now end ≡ Some (reports.Path r) → HasFailed r.path r.moment v
failed_so v r (Page place again) is e = absurd (cc)
failed_so v r (Sentinel group down) is e = absurd (cc)
failed_so v r (Hung component fault path) is e =
    let same = same_path (record { path = path; moment = v.facts.now }) r e in record {
      component = component;
      fault = fault;
      moment_is = ap (λ (x : PathReport). x.moment) same;
      became = inl (is ∙ ap (λ (x : PathReport). Decided (item.Ended (Hung component fault x.path))) same);
    }
failed_so v r (Raised component fault path) is e =
    let same = same_path (record { path = path; moment = v.facts.now }) r e in record {
      component = component;
      fault = fault;
      moment_is = ap (λ (x : PathReport). x.moment) same;
      became = inr (is ∙ ap (λ (x : PathReport). Decided (item.Ended (Raised component fault x.path))) same);
    }
failed_so v r (Revoked tries) is e = absurd (cc)
failed_so v r (Conflict tries) is e = absurd (cc)
failed_so v r (JournalFull full) is e = absurd (cc)
failed_so v r KeeperFailed is e = absurd (cc)

full_so : {P : Type 0} (v : Visit P) (moment : Moment) (end : RequestOutcome) → v.work ≡ Decided (item.Ended end) → report_of_end v.facts.now end ≡ Some (reports.JournalFull moment) → FoundFull moment v
full_so v moment (Page place again) is e = absurd (cc)
full_so v moment (Sentinel group down) is e = absurd (cc)
full_so v moment (Hung component fault path) is e = absurd (cc)
full_so v moment (Raised component fault path) is e = absurd (cc)
full_so v moment (Revoked tries) is e = absurd (cc)
full_so v moment (Conflict tries) is e = absurd (cc)
full_so v moment (JournalFull full) is e = record { full = full; moment_is = same_moment v.facts.now moment e; became = is }
full_so v moment KeeperFailed is e = absurd (cc)

-- what is reported of an outcome is reported of an end in the container
by_outcome : {P : Type 0} (So : Type 0) (v : Visit P) (report : FailureReport) → ((end : RequestOutcome) → v.work ≡ Decided (item.Ended end) → report_of_end v.facts.now end ≡ Some report → So)
    → (became : ItemOutcome) → v.work ≡ Decided became → report_of v.facts.now became ≡ Some report → So
by_outcome So v report so (item.Refused why) is e = absurd (cc)
by_outcome So v report so (item.SerialsSpent seen) is e = absurd (cc)
by_outcome So v report so (item.Expired now expiry) is e = absurd (cc)
by_outcome So v report so (item.Lost causes) is e = absurd (cc)
by_outcome So v report so (item.Ended end) is e = so end is e
by_outcome So v report so (item.Overload place again full) is e = absurd (cc)
by_outcome So v report so (item.Missed place again causes) is e = absurd (cc)

by_work : {P : Type 0} (So : Type 0) (v : Visit P) (report : FailureReport) → ((end : RequestOutcome) → v.work ≡ Decided (item.Ended end) → report_of_end v.facts.now end ≡ Some report → So)
    → (work : Work P) → v.work ≡ work → report_by v.facts.now work ≡ Some report → So
by_work So v report so Reading is e = absurd (cc)
by_work So v report so Opening is e = absurd (cc)
by_work So v report so (ServingBy tries program) is e = absurd (cc)
by_work So v report so (Committed place again shown) is e = absurd (cc)
by_work So v report so (Decided became) is e = by_outcome So v report so became is e
by_work So v report so (Answered fate bytes) is e = absurd (cc)
by_work So v report so (Left fate) is e = absurd (cc)

-- what is reported of a request of which this became
told_by : {P : Type 0} (v : Visit P) (end : RequestOutcome) → v.work ≡ Decided (item.Ended end) → report_by v.facts.now v.work ≡ report_of_end v.facts.now end
told_by {P} v end is = ap (λ (w : Work P). report_by v.facts.now w) is

path_told : {P : Type 0} (v : Visit P) (r : PathReport) → HasFailed r.path r.moment v → report_by v.facts.now v.work ≡ Some (reports.Path r)
path_told v r h = by h.became where
  moved : Some (path_report v.facts.now r.path) ≡ Some (reports.Path r)
  moved = ap (λ (m : Moment). Some (path_report m r.path)) h.moment_is

  by : (v.work ≡ Decided (item.Ended (Hung h.component h.fault r.path))) ⊎ (v.work ≡ Decided (item.Ended (Raised h.component h.fault r.path))) → report_by v.facts.now v.work ≡ Some (reports.Path r)
  by (inl is) = told_by v (Hung h.component h.fault r.path) is ∙ moved
  by (inr is) = told_by v (Raised h.component h.fault r.path) is ∙ moved

full_told : {P : Type 0} (v : Visit P) (moment : Moment) → FoundFull moment v → report_by v.facts.now v.work ≡ Some (reports.JournalFull moment)
full_told v moment h = told_by v (JournalFull h.full) h.became ∙ ap (λ (m : Moment). Some (reports.JournalFull m)) h.moment_is

-- A path is reported exactly where a component has failed the request that is open.
pub failed : {P : Type 0} (stage : Stage P) (r : PathReport) → (report_in stage ≡ Some (reports.Path r)) ↔ OnVisit stage (λ v call. HasFailed r.path r.moment v)
unfolding report_in
failed Resting r = (λ e. absurd (cc), λ h. absurd h)
failed (Serving v call) r = (λ e. by_work (HasFailed r.path r.moment v) v (reports.Path r) (failed_so v r) v.work refl e, λ h. path_told v r h)
failed (Refusing why bytes) r = (λ e. absurd (cc), λ h. absurd h)
failed (Over end) r = (λ e. absurd (cc), λ h. absurd h)

-- A full journal is reported exactly where the request that is open found it so.
pub full : {P : Type 0} (stage : Stage P) (moment : Moment) → (report_in stage ≡ Some (reports.JournalFull moment)) ↔ OnVisit stage (λ v call. FoundFull moment v)
unfolding report_in
full Resting moment = (λ e. absurd (cc), λ h. absurd h)
full (Serving v call) moment = (λ e. by_work (FoundFull moment v) v (reports.JournalFull moment) (full_so v moment) v.work refl e, λ h. full_told v moment h)
full (Refusing why bytes) moment = (λ e. absurd (cc), λ h. absurd h)
full (Over end) moment = (λ e. absurd (cc), λ h. absurd h)

-- nothing is reported of a request whose step is in the container
none_inside : {P : Type 0} (moment : Moment) (work : Work P) (want : Wants) → visit_turn_by work want ≡ visit.Inside → report_by moment work ≡ None
none_inside moment Reading want is = refl
none_inside moment Opening want is = refl
none_inside moment (ServingBy tries program) want is = refl
none_inside moment (Committed place again shown) want is = refl
none_inside moment (Decided became) want is = absurd (cc)
none_inside moment (Answered fate bytes) want is = refl
none_inside moment (Left fate) want is = refl

inside_none : {P : Type 0} (stage : Stage P) → OnVisit stage (λ v call. visit_turn v ≡ visit.Inside) → report_in stage ≡ None
unfolding report_in
inside_none Resting h = refl
inside_none (Serving v call) h = none_inside v.facts.now v.work (wants v.way) h
inside_none (Refusing why bytes) h = refl
inside_none (Over end) h = refl

-- Nothing is reported of a request that goes on.
pub goes_on : {P : Type 0} (s : Shepherd P) → turn s ≡ turns.Inside → report_in s.stage ≡ None
goes_on s is = inside_none s.stage (asks_visit s visit.Inside (is_visit_turn turns.Inside visit.Inside refl (turn s) is))

-- what is reported of a request, by its facts and its work
abbrev reported : {P : Type 0} → Visit P → Option FailureReport
reported v = report_by v.facts.now v.work

-- a request that has left the container by an end tells of that
left_tells : {P : Type 0} (v : Visit P) (ready : Bool → Ready) (end : RequestOutcome) (report : FailureReport) → reported (left_so (closed_with ready end) v) ≡ Some report
    → report_of_end v.facts.now end ≡ Some report
left_tells v ready (Page place again) report e = by_ready (ready again) e where
  by_ready : (r : Ready) → reported (left_so (closes.Page place again r) v) ≡ Some report → report_of_end v.facts.now (Page place again) ≡ Some report
  by_ready (Respond bytes) e = e
  by_ready (Write order shown) e = e
left_tells v ready (Sentinel group down) report e = e
left_tells v ready (Hung component fault path) report e = e
left_tells v ready (Raised component fault path) report e = e
left_tells v ready (Revoked tries) report e = e
left_tells v ready (Conflict tries) report e = e
left_tells v ready (JournalFull full) report e = e
left_tells v ready KeeperFailed report e = e

-- A request that made a step in the container tells of the end of that step, and goes on where that has none.
module _ {P : Type 0} (v w : Visit P) (after : ContainerValue) (report : FailureReport) (told : reported w ≡ Some report) where
  by_end : (later : Work P) (tries : TriesValue) (program : P) (closing : Option Closing) (end : Option Ended) (errand : Errand) → later ≡ ServingBy tries program
      → w ≡ after_closing_if closing (record v { work = later }) → closing ≡ option_map (closing_of v.facts v.lease (events_of after)) end
      → MayEnd after.boot.start (events_of after) errand end → TellsOfEnd after.boot.start (events_of after) errand v.facts.now report
  by_end later tries program closing None errand going is closes stands =
      let same : reported w ≡ None = ap reported is ∙ ap (λ (c : Option Closing). reported (after_closing_if c (record v { work = later }))) closes ∙ ap (λ (x : Work P). report_by v.facts.now x) going in
      absurd (let some = told in cc)
  by_end later tries program closing (Some e) errand going is closes stands =
      let there = ap reported is ∙ ap (λ (c : Option Closing). reported (after_closing_if c (record v { work = later }))) closes in
      record {
        ended = e;
        stands = stands;
        tells = left_tells (record v { work = later; holds = holds_of e }) (λ again. ready_of v.facts v.lease (done_of (events_of after) e)) e.outcome report (sym there ∙ told);
      }

  -- this is told of a request that was served so
  abbrev Told : (P → List Answer → Next) → TriesValue → P → Type 0
  Told asks tries program = TellsOfEnd after.boot.start (events_of after) (errand_of tries (asks program)) v.facts.now report

  by_serving : (asks : P → List Answer → Next) (container : ContainerValue) (later : Work P) (closing : Option Closing) → w ≡ after_closing_if closing (record v { work = later })
      → (work : Work P) → ServesWork asks container v.facts v.lease work closing after later → OnServing work (Told asks)
  by_serving asks container later closing is Reading s = absurd s
  by_serving asks container later closing is Opening s = absurd s
  by_serving asks container later closing is (ServingBy tries program) s =
      by_end later s.after program closing s.serves.end (errand_of tries (asks program)) s.work_is is s.serves.closing_is s.serves.brings.ended
  by_serving asks container later closing is (Committed place again shown) s = absurd s
  by_serving asks container later closing is (Decided became) s = absurd s
  by_serving asks container later closing is (Answered fate bytes) s = absurd s
  by_serving asks container later closing is (Left fate) s = absurd s

reported_in : {P : Type 0} (stage : Stage P) (v : Visit P) (call : Option AskedCall) → stage ≡ Serving v call → report_in stage ≡ reported v
unfolding report_in
reported_in stage v call is = ap report_in is

-- What is reported behind a step in the container is what the end of that step tells.
pub told : {P : Type 0} (asks : P → List Answer → Next) (old new : Shepherd P) (container after : ContainerValue) (report : FailureReport)
    → ShepherdSteps (λ v w. VisitsInside asks v container w after) old new → report_in new.stage ≡ Some report
    → OnVisit old.stage (λ v call. OnServing v.work (λ tries program. TellsOfEnd after.boot.start (events_of after) (errand_of tries (asks program)) v.facts.now report))
told {P} asks old new container after report steps e =
    let h = went (λ v w. VisitsInside asks v container w after) old new steps in
    let some : reported h.after ≡ Some report = sym (reported_in new.stage h.after h.call h.is) ∙ e in
    subst (λ (stage : Stage P). OnVisit stage (λ v call. OnServing v.work (λ tries program. TellsOfEnd after.boot.start (events_of after) (errand_of tries (asks program)) v.facts.now report))) (sym h.was)
    (by_serving h.visit h.after after report some asks container h.so.work h.so.closing h.so.new_is h.visit.work h.so.serves)
