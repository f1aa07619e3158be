-- Journals stay meant by what requests of the site add.
use Rattle.std.specs.Prelude.{IfSome}
use Rattle.std.proofs.Common.{◌≡◌, ℕ, true, false, List, [], ◌∷◌, ◌++◌, length, take, Option, Some, None, refl, sym, ap, ◌∙◌, subst, arith, length-append}
use Rattle.std.proofs.lemmas.Grind.{flat_map-append}
use Rattle.std.proofs.lemmas.List.{append-nil, take_all}
use Rattle.std.proofs.Math.Seq.{take-append_seam}
use Rattle.crash_base.specs.declared.rows.RowWrite.{RowWrite}
use Rattle.journal_model.specs.declared.entry.Entry.{Entry}
use Rattle.journal_model.specs.declared.entry.Entry.TheVariants.{Commit}
use Rattle.journal_model.specs.Rows.{rows_after}
use Rattle.journal_model.proofs.Growing.{each_push}
use Rattle.auction_calls.specs.declared.action.ActionCall.{ActionCall}
use Rattle.auction_site.specs.Actions.{steps_of}
use Rattle.auction_site.specs.Meant.{AreMeant, IsMeantEntry}
use Rattle.boot_core.specs.declared.boot.Start.{Start}
use Rattle.container_core.specs.Container.{ContainerValue, event_count, events_of}
use Rattle.container_core.specs.History.{entries_in, entry_in}
use Rattle.container_core.specs.declared.history.Event.{Event}
use Rattle.container_core.specs.declared.history.Event.TheVariants.{Added, KeeperFailed as FailedMark}
use Rattle.request_tries.specs.Ends.{Adds, EndStands, Errand, IsServed, MayEnd, StepAdds}
use Rattle.request_tries.specs.Serving.{TriesValue, errand_of}
use Rattle.request_tries.specs.Steps.{Brings}
use Rattle.request_tries.specs.declared.outcome.Ended.{Ended}
use Rattle.request_tries.specs.declared.outcome.RequestOutcome.{RequestOutcome}
use Rattle.request_tries.specs.declared.outcome.RequestOutcome.TheVariants.{Page, Sentinel, Hung, Raised, Revoked, Conflict, JournalFull, KeeperFailed}
use Rattle.request_visit.specs.Stepping.{OnServing, ServesWork, VisitsInside}
use Rattle.request_visit.specs.declared.facts.VisitFacts.{VisitFacts}
use Rattle.request_visit.specs.declared.serving.Closing.{Closing}
use Rattle.request_visit.specs.declared.visit.Visit.{Visit}
use Rattle.request_visit.specs.declared.visit.Work.{Work}
use Rattle.request_visit.specs.declared.visit.Work.TheVariants.{Reading, Opening, Serving, Committed, Decided, Answered, Left}
use Rattle.session_way.specs.declared.lease.SessionLease.{SessionLease}
use Rattle.site_programs.specs.Errands.{AsksSite}
use Rattle.site_programs.proofs.Meanings.{RunRule, made_so, outcome_is_meant}
use Rattle.site_programs.proofs.Showing.{outcome_of_end, served_entries}

-- two lists with one item more at the end are one without it too
same_front : {A : Type 0} (xs ys : List A) (x y : A) → xs ++ x ∷ [] ≡ ys ++ y ∷ [] → xs ≡ ys
same_front xs ys x y e =
    let long : length xs ≡ length ys = omega (arith, length-append xs (x ∷ []), length-append ys (y ∷ []), ap length e) in
    sym (take-append_seam xs (x ∷ [])) ∙ ap (λ l. take (length xs) l) e ∙ ap (λ n. take n (ys ++ y ∷ [])) long ∙ take-append_seam ys (y ∷ [])

-- a journal that is meant stays so by the entry of a request that was served behind it
served_meant : RunRule → (start : Start) (seen : List Event) (errand : Errand) (call : ActionCall) (from place : ℕ) → AsksSite start errand call
    → (served : IsServed start seen errand from place) → AreMeant start.base (entries_in served.before) → AreMeant start.base (entries_in seen)
served_meant rule start seen errand call from place asks served are =
    let before : List Entry = entries_in served.before in
    let rows : List RowWrite = rows_after start.base before in
    let meant : IsMeantEntry rows (Commit served.entry) =
    outcome_is_meant start errand call rows served.entry asks (made_so rule start errand call from rows served.entry served.done asks served.asked_for served.made) in
    let P : List Entry → Type 0 = λ es. AreMeant start.base es in
    subst P (sym (served_entries start seen errand from place served))
    (record { each = each_push (λ es x. IsMeantEntry (rows_after start.base es) x) before (Commit served.entry) are.each meant })

-- by what an end adds
ended_meant : RunRule → (old new : ContainerValue) (errand : Errand) (call : ActionCall) (e : Ended) → AsksSite new.boot.start errand call
    → EndStands new.boot.start (events_of new) errand e → e.held ≡ event_count new → (o : RequestOutcome) → e.outcome ≡ o → Adds errand.request o old new
    → AreMeant new.boot.start.base (entries_in old.since) → AreMeant new.boot.start.base (entries_in new.since)
ended_meant rule old new errand call e asks stands counted = go
  where
    P : List Event → Type 0
    P events = AreMeant new.boot.start.base (entries_in events)

    go : (o : RequestOutcome) → e.outcome ≡ o → Adds errand.request o old new → P old.since → P new.since
    go (Page place true) is adds are = subst P (sym adds) are
    go (Page place false) is adds are =
        let whole : take e.held (events_of new) ≡ events_of new = ap (λ (n : ℕ). take n (events_of new)) counted ∙ take_all (length (events_of new)) (events_of new) (omega arith) in
        let served : IsServed new.boot.start (events_of new) errand e.from.0 place.0 =
        subst (λ (seen : List Event). IsServed new.boot.start seen errand e.from.0 place.0) whole (outcome_of_end new.boot.start (events_of new) errand e (Page place false) stands is) in
        let grown : entries_in new.since ≡ entries_in old.since ++ Commit adds.0 ∷ [] = ap entries_in adds.1 ∙ flat_map-append entry_in old.since (Added (Commit adds.0) ∷ []) in
        let here : entries_in new.since ≡ entries_in served.before ++ Commit served.entry ∷ [] = served_entries new.boot.start (events_of new) errand e.from.0 place.0 served in
        let front : entries_in old.since ≡ entries_in served.before =
        same_front (entries_in old.since) (entries_in served.before) (Commit adds.0) (Commit served.entry) (sym grown ∙ here) in
        served_meant rule new.boot.start (events_of new) errand call e.from.0 place.0 asks served (subst (λ (es : List Entry). AreMeant new.boot.start.base es) front are)
    go (Sentinel group down) is adds are = subst P (sym adds) are
    go (Hung component fault path) is adds are = subst P (sym adds) are
    go (Raised component fault path) is adds are = subst P (sym adds) are
    go (Revoked tries) is adds are = subst P (sym adds) are
    go (Conflict tries) is adds are = subst P (sym adds) are
    go (JournalFull full) is adds are = subst P (sym adds) are
    go KeeperFailed is adds are =
        let grown : entries_in new.since ≡ entries_in old.since =
        ap entries_in adds ∙ flat_map-append entry_in old.since (FailedMark errand.request ∷ []) ∙ append-nil (entries_in old.since) in
        subst (λ (es : List Entry). AreMeant new.boot.start.base es) (sym grown) are

-- by what a step or a commit brings
brought_meant : RunRule → (old new : ContainerValue) (errand : Errand) (call : ActionCall) (end : Option Ended) → AsksSite new.boot.start errand call
    → MayEnd new.boot.start (events_of new) errand end → IfSome end (λ e. e.held ≡ event_count new) → StepAdds errand.request end old new
    → AreMeant new.boot.start.base (entries_in old.since) → AreMeant new.boot.start.base (entries_in new.since)
brought_meant rule old new errand call None asks ended counted adds are =
    subst (λ (events : List Event). AreMeant new.boot.start.base (entries_in events)) (sym adds) are
brought_meant rule old new errand call (Some e) asks ended counted adds are = ended_meant rule old new errand call e asks ended counted e.outcome refl adds are

pub stays_meant : RunRule → (old new : ContainerValue) (call : ActionCall) (s after : TriesValue) (end : Option Ended) → AsksSite new.boot.start (errand_of s (steps_of call)) call
    → Brings old new (steps_of call) s after end → AreMeant new.boot.start.base (entries_in (events_of old)) → AreMeant new.boot.start.base (entries_in (events_of new))
stays_meant rule old new call s after end asks brings are = brought_meant rule old new (errand_of s (steps_of call)) call end asks brings.ended brings.counted brings.adds are

-- what a request asks for that is served by a program of the site
abbrev AsksBy : Start → TriesValue → ActionCall → Type 0
AsksBy start s call = AsksSite start (errand_of s (steps_of call)) call

-- by the step of a request, whatever its work
work_meant : RunRule → (old new : ContainerValue) (facts : VisitFacts) (lease : Option SessionLease) (closing : Option Closing) (next : Work ActionCall) → AreMeant new.boot.start.base (entries_in (events_of old))
    → (work : Work ActionCall) → OnServing work (AsksBy new.boot.start) → ServesWork steps_of old facts lease work closing new next → AreMeant new.boot.start.base (entries_in (events_of new))
work_meant rule old new facts lease closing next are Reading asks serves = absurd asks
work_meant rule old new facts lease closing next are Opening asks serves = absurd asks
work_meant rule old new facts lease closing next are (Serving s call) asks serves =
    stays_meant rule old new call s serves.after serves.serves.end asks serves.serves.brings are
work_meant rule old new facts lease closing next are (Committed place again shown) asks serves = absurd asks
work_meant rule old new facts lease closing next are (Decided became) asks serves = absurd asks
work_meant rule old new facts lease closing next are (Answered fate bytes) asks serves = absurd asks
work_meant rule old new facts lease closing next are (Left fate) asks serves = absurd asks

pub visit_meant : RunRule → (old new : ContainerValue) (v after : Visit ActionCall) → OnServing v.work (λ s call. AsksSite new.boot.start (errand_of s (steps_of call)) call)
    → VisitsInside steps_of v old after new → AreMeant new.boot.start.base (entries_in (events_of old)) → AreMeant new.boot.start.base (entries_in (events_of new))
visit_meant rule old new v after asks visits are = work_meant rule old new v.facts v.lease visits.closing visits.work are v.work asks visits.serves
