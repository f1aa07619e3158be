-- A connection that stops accounts for what it has added and left.
use Rattle.std.proofs.Common.{◌≡◌, ◌≢◌, ◌⊎◌, inl, inr, ◌≤◌, true, false, List, [], ◌∷◌, ◌++◌, length, map, slice_get, refl, sym, ap, ◌∙◌, subst, Option, Some, None, arith}
use Rattle.std.proofs.lemmas.List.Elements.{All-weaker}
use Rattle.std.proofs.lemmas.List.{append-nil, append_assoc}
use Rattle.boot_core.specs.declared.boot.Start.{Start}
use Rattle.call_ticket.specs.declared.next.Answer.{Answer}
use Rattle.call_ticket.specs.declared.next.Next.{Next}
use Rattle.container_core.specs.declared.history.Event.{Event}
use Rattle.crash_base.specs.declared.numbers.RequestNo.{RequestNo}
use Rattle.journal_model.specs.declared.entry.Entry.{Entry}
use Rattle.outcome_items.specs.Traces.{added_if, events_of_end, mark_of, marks_of_outcome, uncounted, window_trace, window_traces}
use Rattle.outcome_items.specs.declared.item.Holds.{Holds}
use Rattle.outcome_items.specs.declared.item.Item.{Item}
use Rattle.outcome_items.specs.declared.outcome.ItemOutcome.{ItemOutcome}
use Rattle.outcome_items.specs.declared.outcome.ItemOutcome.TheVariants as item_is
use Rattle.request_tries.specs.Ends.{Errand}
use Rattle.request_tries.specs.Serving.{TriesValue}
use Rattle.request_tries.specs.declared.outcome.RequestOutcome.{RequestOutcome}
use Rattle.request_tries.specs.declared.outcome.RequestOutcome.TheVariants.{Page, Sentinel, Hung, Raised, Revoked, Conflict, JournalFull, KeeperFailed}
use Rattle.request_visit.specs.Accounts.{AccountsOf, Became, EndsWith, FateStands, IsUnheld}
use Rattle.request_visit.specs.Advancing.{IsItemOf}
use Rattle.request_visit.specs.Marks.{HasWrite, IsSettling, Marks, MarksOf, MayBeRead, Rests, WritesWith}
use Rattle.request_visit.specs.Stepping.{OnServing}
use Rattle.request_visit.specs.Visits.{after_outcome, fate_missed, fate_written, turn as visit_turn, turn_by as visit_turn_by, with_fate}
use Rattle.request_visit.specs.declared.facts.VisitFacts.{VisitFacts}
use Rattle.request_visit.specs.declared.visit.Fate.{Fate}
use Rattle.request_visit.specs.declared.visit.Fate.TheVariants.{Known, Writing}
use Rattle.request_visit.specs.declared.visit.Turn.TheVariants as visit
use Rattle.request_visit.specs.declared.visit.Visit.{Visit}
use Rattle.request_visit.specs.declared.visit.Work.{Work}
use Rattle.request_visit.specs.declared.visit.Work.TheVariants.{Reading, Opening, Serving as ServingBy, Committed, Decided, Answered, Left}
use Rattle.send_windows.specs.Windows.{WindowsValue}
use Rattle.send_windows.specs.declared.history.WindowMark.{WindowMark}
use Rattle.send_windows.specs.declared.history.WindowMark.TheVariants as mark
use Rattle.send_windows.specs.declared.windows.TakeRefusal.TheVariants as taking
use Rattle.session_cookie.specs.declared.cookie.Cookie.{Cookie}
use Rattle.session_way.specs.Marks.{marks_by}
use Rattle.session_way.specs.Way.{IsRefused, wants}
use Rattle.session_way.specs.declared.session_write.WriteOutcome.{WriteOutcome}
use Rattle.session_way.specs.declared.session_write.WriteOutcome.TheVariants as outcome
use Rattle.session_way.specs.declared.way.SessionWay.{SessionWay}
use Rattle.session_way.specs.declared.way.SessionWay.TheVariants as way
use Rattle.session_way.specs.declared.way.Wants.{Wants}
use Rattle.session_way.specs.declared.way.Wants.TheVariants as wanted
use Rattle.shepherd.specs.Accounting.{Accounting, IsAccountedFor, IsTold, StageTells, told_events, told_marks, traces_in}
use Rattle.shepherd.specs.Shepherds.{fresh, has_item, is_over}
use Rattle.shepherd.specs.Standing.{has_left}
use Rattle.shepherd.specs.Steps.{GivesBack, IfOpen, IsServedStill, OnVisit, StepsVisit, dropped_stage}
use Rattle.shepherd.specs.Stopping.{AreMarksOf, AreOfOne, StageMarks, Stopped, StopsWith}
use Rattle.shepherd.specs.declared.shepherd.Shepherd.{Shepherd}
use Rattle.shepherd.specs.declared.shepherd.Stage.{Stage}
use Rattle.shepherd.specs.declared.shepherd.Stage.TheVariants.{Resting, Serving, Refusing, Over}
use Rattle.shepherd.proofs.Counting.{GrowsWith, ItemTells, accounted, told_longer}

-- what an end adds is one event at most
one_entry : (e : Option Entry) → length (added_if e) ≤ 1
one_entry None = omega arith
one_entry (Some e) = omega arith

one_mark : (request : Option RequestNo) → length (mark_of request) ≤ 1
one_mark None = omega arith
one_mark (Some r) = omega arith

one_event : (es : List Entry) (request : Option RequestNo) (end : RequestOutcome) → length (events_of_end es request end) ≤ 1
one_event es request (Page place true) = omega arith
one_event es request (Page place false) = one_entry (slice_get es place.0)
one_event es request (Sentinel group down) = omega arith
one_event es request (Hung component fault path) = omega arith
one_event es request (Raised component fault path) = omega arith
one_event es request (Revoked tries) = omega arith
one_event es request (Conflict tries) = omega arith
one_event es request (JournalFull full) = omega arith
one_event es request KeeperFailed = one_mark request

none_added : (facts : VisitFacts) (holds : Holds) (own : List Event) → IsUnheld facts holds own → length own ≤ 1
none_added facts holds own h = subst (λ (es : List Event). length es ≤ 1) (sym h.own_is) (omega arith)

end_added : (start : Start) (history : List Event) (errand : Errand) (facts : VisitFacts) (holds : Holds) (end : RequestOutcome) (own : List Event) → EndsWith start history errand facts holds end own → length own ≤ 1
end_added start history errand facts holds end own h = subst (λ (es : List Event). length es ≤ 1) (sym h.own_is) (one_event _ facts.request end)

became_added : (start : Start) (history : List Event) (errand : Errand) (facts : VisitFacts) (holds : Holds) (own : List Event) (became : ItemOutcome) → Became start history errand facts holds own became → length own ≤ 1
became_added start history errand facts holds own (item_is.Refused why) h = none_added facts holds own h
became_added start history errand facts holds own (item_is.SerialsSpent seen) h = none_added facts holds own h
became_added start history errand facts holds own (item_is.Expired now expiry) h = none_added facts holds own h
became_added start history errand facts holds own (item_is.Lost causes) h = none_added facts holds own h
became_added start history errand facts holds own (item_is.Ended end) h = end_added start history errand facts holds end own h
became_added start history errand facts holds own (item_is.Overload place again full) h = end_added start history errand facts holds (Page place again) own h
became_added start history errand facts holds own (item_is.Missed place again causes) h = end_added start history errand facts holds (Page place again) own h

fate_added : (start : Start) (history : List Event) (errand : Errand) (facts : VisitFacts) (holds : Holds) (own : List Event) (fate : Fate) → FateStands start history errand facts holds own fate → length own ≤ 1
fate_added start history errand facts holds own (Known became) h = became_added start history errand facts holds own became h
fate_added start history errand facts holds own (Writing place again) h = end_added start history errand facts holds (Page place again) own h

-- A request has added one event at most.
few_added : {P : Type 0} (asks : P → List Answer → Next) (start : Start) (history : List Event) (errand : Errand) (facts : VisitFacts) (holds : Holds) (own : List Event) (w : Work P)
    → AccountsOf asks start history errand facts holds own w → length own ≤ 1
few_added asks start history errand facts holds own Reading h = none_added facts holds own h
few_added asks start history errand facts holds own Opening h = none_added facts holds own h
few_added asks start history errand facts holds own (ServingBy tries program) h = none_added facts holds own h.unheld_is
few_added asks start history errand facts holds own (Committed place again shown) h = end_added start history errand facts holds (Page place again) own h
few_added asks start history errand facts holds own (Decided became) h = became_added start history errand facts holds own became h
few_added asks start history errand facts holds own (Answered fate bytes) h = fate_added start history errand facts holds own fate h
few_added asks start history errand facts holds own (Left fate) h = fate_added start history errand facts holds own fate h

-- the marks of an outcome are those of a session with which nothing is done any more
outcome_marks : (cookie : Option Cookie) (became : ItemOutcome) → AreMarksOf way.Resting (marks_of_outcome cookie became)
outcome_marks cookie (item_is.Refused why) = inl refl
outcome_marks cookie (item_is.SerialsSpent seen) = inl refl
outcome_marks cookie (item_is.Expired now expiry) = inl refl
outcome_marks cookie (item_is.Lost causes) = inl refl
outcome_marks None (item_is.Ended end) = inl refl
outcome_marks (Some c) (item_is.Ended end) = inr (inr refl)
outcome_marks cookie (item_is.Overload place again full) = inr (inl refl)
outcome_marks cookie (item_is.Missed place again causes) = inr (inr refl)

resting_marks : (marks left : List WindowMark) (w : SessionWay) → Rests marks w left → AreMarksOf way.Resting left → AreMarksOf w marks
resting_marks marks left w r so = subst (λ (x : SessionWay). AreMarksOf x marks) (sym r.rests) (subst (λ (ms : List WindowMark). AreMarksOf way.Resting ms) (sym r.marks_are) so)

read_marks : (marks : List WindowMark) (w : SessionWay) → marks ≡ [] → MayBeRead w → AreMarksOf w marks
read_marks marks way.Resting none m = inl none
read_marks marks (way.Reading r) none m = none
read_marks marks (way.Ordered order) none m = absurd m
read_marks marks (way.Writing v) none m = absurd m
read_marks marks (way.Settling v) none m = absurd m
read_marks marks (way.Holding passes) none m = absurd m

write_marks : (marks : List WindowMark) (w : SessionWay) → WritesWith marks w → AreMarksOf w marks
write_marks marks way.Resting m = absurd m
write_marks marks (way.Reading r) m = absurd m
write_marks marks (way.Ordered order) m = m
write_marks marks (way.Writing v) m = m
write_marks marks (way.Settling v) m = absurd m
write_marks marks (way.Holding passes) m = absurd m

held_marks : (marks : List WindowMark) (w : SessionWay) → marks ≡ mark.Taken 0 ∷ [] → HasWrite w → AreMarksOf w marks
held_marks marks way.Resting taken m = absurd m
held_marks marks (way.Reading r) taken m = absurd m
held_marks marks (way.Ordered order) taken m = absurd m
held_marks marks (way.Writing v) taken m = taken
held_marks marks (way.Settling v) taken m = absurd m
held_marks marks (way.Holding passes) taken m = absurd m

settling_marks : (marks : List WindowMark) (w : SessionWay) → marks ≡ mark.Taken 0 ∷ [] → IsSettling w → AreMarksOf w marks
settling_marks marks way.Resting taken m = absurd m
settling_marks marks (way.Reading r) taken m = absurd m
settling_marks marks (way.Ordered order) taken m = absurd m
settling_marks marks (way.Writing v) taken m = absurd m
settling_marks marks (way.Settling v) taken m = taken
settling_marks marks (way.Holding passes) taken m = absurd m

-- The marks of a request are those of what it does with its session.
way_marks : {P : Type 0} (marks : List WindowMark) (cookie : Option Cookie) (w : SessionWay) (x : Work P) → MarksOf marks cookie w x → AreMarksOf w marks
way_marks marks cookie w Reading m = read_marks marks w m.1 m.2
way_marks marks cookie w Opening m = resting_marks marks [] w m.1 (inl refl)
way_marks marks cookie w (ServingBy tries program) m = resting_marks marks [] w m.1 (inl refl)
way_marks marks cookie w (Committed place again shown) m = write_marks marks w m.1
way_marks marks cookie w (Decided became) m = resting_marks marks (marks_of_outcome None became) w m.1 (outcome_marks None became)
way_marks marks cookie w (Answered (Known became) bytes) m = resting_marks marks (marks_of_outcome cookie became) w m (outcome_marks cookie became)
way_marks marks cookie w (Answered (Writing place again) bytes) m = held_marks marks w m.marks_are m.held_so
way_marks marks cookie w (Left (Known became)) m = resting_marks marks (marks_of_outcome cookie became) w m (outcome_marks cookie became)
way_marks marks cookie w (Left (Writing place again)) m = settling_marks marks w m.marks_are m.held_so

pub stops : {P : Type 0} (asks : P → List Answer → Next) (start : Start) (history own : List Event) (marks : List WindowMark) (items : List Item) (s : Shepherd P)
    → Accounting asks start history own marks items s → Stopped asks start history own marks items s
stops {P} asks start history own marks items s h = record {
  told = h.told;
  open_own = h.open_own;
  open_marks = h.open_marks;
  items_are = h.items_are;
  stand = h.stand;
  own_is = h.own_is;
  marks_are = h.marks_are;
  few = few s.stage h.tells;
  stage_marks = so s.stage h.tells;
} where
  none : h.open_own ≡ [] → length h.open_own ≤ 1
  none is = subst (λ (es : List Event). length es ≤ 1) (sym is) (omega arith)

  few : (x : Stage P) → StageTells asks start history h.open_own h.open_marks x → length h.open_own ≤ 1
  few Resting t = none t.0
  few (Serving v call) t = few_added asks start history t.errand v.facts v.holds h.open_own v.work t.accounts
  few (Refusing why bytes) t = none t.0
  few (Over end) t = none t.0

  so : (x : Stage P) → StageTells asks start history h.open_own h.open_marks x → StageMarks x h.open_marks
  so Resting t = t.1
  so (Serving v call) t = way_marks h.open_marks v.cookie v.way v.work t.marks_are
  so (Refusing why bytes) t = t.1
  so (Over end) t = t.1

pub meanwhile : {P : Type 0} (asks : P → List Answer → Next) → GrowsWith asks → (start : Start) (history more own : List Event) (marks : List WindowMark) (items : List Item) (s : Shepherd P)
    → Stopped asks start history own marks items s → Stopped asks start (history ++ more) own marks items s
meanwhile asks grows start history more own marks items s h = record {
  told = h.told;
  open_own = h.open_own;
  open_marks = h.open_marks;
  items_are = h.items_are;
  stand = All-weaker (IsTold asks start history) (IsTold asks start (history ++ more)) (told_longer asks grows start history more) h.told h.stand;
  own_is = h.own_is;
  marks_are = h.marks_are;
  few = h.few;
  stage_marks = h.stage_marks;
}

-- A connection at another stage has stopped so too, with these marks more.
staged : {P : Type 0} (asks : P → List Answer → Next) (start : Start) (history own : List Event) (marks added : List WindowMark) (items : List Item) (s new : Shepherd P)
    (h : Stopped asks start history own marks items s) → StageMarks new.stage (h.open_marks ++ map uncounted added) → Stopped asks start history own (marks ++ map uncounted added) items new
staged asks start history own marks added items s new h so = record {
  told = h.told;
  open_own = h.open_own;
  open_marks = h.open_marks ++ map uncounted added;
  items_are = h.items_are;
  stand = h.stand;
  own_is = h.own_is;
  marks_are = ap (λ xs. xs ++ map uncounted added) h.marks_are ∙ append_assoc (told_marks h.told) h.open_marks (map uncounted added);
  few = h.few;
  stage_marks = so;
}

-- the same, with none
with_stage : {P : Type 0} (asks : P → List Answer → Next) (start : Start) (history own : List Event) (marks : List WindowMark) (items : List Item) (s new : Shepherd P)
    (h : Stopped asks start history own marks items s) → StageMarks new.stage h.open_marks → Stopped asks start history own marks items new
with_stage asks start history own marks items s new h so = record {
  told = h.told;
  open_own = h.open_own;
  open_marks = h.open_marks;
  items_are = h.items_are;
  stand = h.stand;
  own_is = h.own_is;
  marks_are = h.marks_are;
  few = h.few;
  stage_marks = so;
}

pub still : {P : Type 0} (asks : P → List Answer → Next) (start : Start) (history own : List Event) (marks : List WindowMark) (items : List Item) (s new : Shepherd P)
    → new.stage ≡ s.stage → Stopped asks start history own marks items s → Stopped asks start history own marks items new
still asks start history own marks items s new same h =
    with_stage asks start history own marks items s new h (subst (λ x. StageMarks x h.open_marks) (sym same) h.stage_marks)

pub kept : {P : Type 0} (asks : P → List Answer → Next) (start : Start) (history own : List Event) (marks : List WindowMark) (items : List Item) (s new : Shepherd P)
    → StepsVisit (λ v w. w.way ≡ v.way) s.stage new.stage → Stopped asks start history own marks items s → Stopped asks start history own marks items new
kept {P} asks start history own marks items s new steps h = with_stage asks start history own marks items s new h (by s.stage steps h.stage_marks) where
  by : (x : Stage P) → StepsVisit (λ v w. w.way ≡ v.way) x new.stage → StageMarks x h.open_marks → StageMarks new.stage h.open_marks
  by Resting steps m = absurd steps
  by (Serving v call) steps m = subst (λ x. StageMarks x h.open_marks) (sym steps.2) (subst (λ (w : SessionWay). AreMarksOf w h.open_marks) (sym steps.1) m)
  by (Refusing why bytes) steps m = absurd steps
  by (Over end) steps m = absurd steps

pub opening : {P : Type 0} (asks : P → List Answer → Next) (start : Start) (history own : List Event) (marks : List WindowMark) (items : List Item) (s new : Shepherd P)
    → StepsVisit (λ v w. w ≡ record v { work = Opening }) s.stage new.stage → Stopped asks start history own marks items s → Stopped asks start history own marks items new
opening {P} asks start history own marks items s new steps h = kept asks start history own marks items s new (by s.stage steps) h where
  by : (x : Stage P) → StepsVisit (λ v w. w ≡ record v { work = Opening }) x new.stage → StepsVisit (λ v w. w.way ≡ v.way) x new.stage
  by Resting steps = absurd steps
  by (Serving v call) steps = (steps.0, ap (λ (x : Visit P). x.way) steps.1, steps.2)
  by (Refusing why bytes) steps = absurd steps
  by (Over end) steps = absurd steps

pub inside : {P : Type 0} (asks : P → List Answer → Next) (start : Start) (history own : List Event) (marks : List WindowMark) (items : List Item) (s new : Shepherd P)
    → StepsVisit IsServedStill s.stage new.stage → Stopped asks start history own marks items s → Stopped asks start history own marks items new
inside {P} asks start history own marks items s new steps h = kept asks start history own marks items s new (by s.stage steps) h where
  same : (v after : Visit P) (w : Work P) → OnServing w (λ tries program. (later : TriesValue) × (after ≡ record v { work = ServingBy later program })) → after.way ≡ v.way
  same v after Reading so = absurd so
  same v after Opening so = absurd so
  same v after (ServingBy tries program) so = ap (λ (x : Visit P). x.way) so.1
  same v after (Committed place again shown) so = absurd so
  same v after (Decided became) so = absurd so
  same v after (Answered fate bytes) so = absurd so
  same v after (Left fate) so = absurd so

  by : (x : Stage P) → StepsVisit IsServedStill x new.stage → StepsVisit (λ v w. w.way ≡ v.way) x new.stage
  by Resting steps = absurd steps
  by (Serving v call) steps = (steps.0, same v steps.0 v.work steps.1, steps.2)
  by (Refusing why bytes) steps = absurd steps
  by (Over end) steps = absurd steps

pub unmade : {P : Type 0} (asks : P → List Answer → Next) (start : Start) (history own : List Event) (marks : List WindowMark) (items : List Item) (s new : Shepherd P)
    → OnVisit s.stage (λ v call. new.stage ≡ Serving v None) → Stopped asks start history own marks items s → Stopped asks start history own marks items new
unmade {P} asks start history own marks items s new is h = with_stage asks start history own marks items s new h (by s.stage is h.stage_marks) where
  by : (x : Stage P) → OnVisit x (λ v call. new.stage ≡ Serving v None) → StageMarks x h.open_marks → StageMarks new.stage h.open_marks
  by Resting is m = absurd is
  by (Serving v call) is m = subst (λ x. StageMarks x h.open_marks) (sym is) m
  by (Refusing why bytes) is m = absurd is
  by (Over end) is m = absurd is

pub given_up : {P : Type 0} (asks : P → List Answer → Next) (start : Start) (history own : List Event) (marks : List WindowMark) (items : List Item) (s : Shepherd P)
    → Stopped asks start history own marks items s → Stopped asks start history own marks items (record s { stage = dropped_stage s.stage })
given_up {P} asks start history own marks items s h = with_stage asks start history own marks items s (record s { stage = dropped_stage s.stage }) h (by s.stage h.stage_marks) where
  by : (x : Stage P) → StageMarks x h.open_marks → StageMarks (dropped_stage x) h.open_marks
  by Resting m = m
  by (Serving v call) m = m
  by (Refusing why bytes) m = m
  by (Over end) m = m

-- passes that are to be taken and cannot be: what is held then, and its marks
refused_marks : (marks : List WindowMark) (w after : SessionWay) (win later : WindowsValue) → IsRefused w win after later taking.OutOfMemory → AreMarksOf w marks
    → (added : List WindowMark) × (later.history ≡ win.history ++ added) × AreMarksOf after (marks ++ map uncounted added)
refused_marks marks way.Resting after win later r m = absurd r
refused_marks marks (way.Reading x) after win later r m = absurd r
refused_marks marks (way.Ordered order) after win later (inl same) m =
    ([], ap (λ (x : WindowsValue). x.history) same.1 ∙ sym (append-nil win.history), subst (λ (x : SessionWay). AreMarksOf x (marks ++ [])) (sym same.0) (inl (append-nil marks ∙ m)))
refused_marks marks (way.Ordered order) after win later (inr holding) m =
    (_, ap (λ (x : WindowsValue). x.history) holding.after, subst (λ (x : SessionWay). AreMarksOf x (marks ++ mark.Taken 0 ∷ [])) (sym holding.holds) (ap (λ (ms : List WindowMark). ms ++ mark.Taken 0 ∷ []) m))
refused_marks marks (way.Writing x) after win later r m = absurd r
refused_marks marks (way.Settling x) after win later r m = absurd r
refused_marks marks (way.Holding passes) after win later r m = absurd r

pub refused : {P : Type 0} (asks : P → List Answer → Next) (start : Start) (history own : List Event) (marks : List WindowMark) (items : List Item) (s new : Shepherd P) (win after : WindowsValue)
    → StepsVisit (λ v w. IsRefused v.way win w.way after taking.OutOfMemory) s.stage new.stage → Stopped asks start history own marks items s → StopsWith asks start history own marks items win after new
refused {P} asks start history own marks items s new win after steps h = by s.stage steps h.stage_marks where
  by : (x : Stage P) → StepsVisit (λ v w. IsRefused v.way win w.way after taking.OutOfMemory) x new.stage → StageMarks x h.open_marks → StopsWith asks start history own marks items win after new
  by Resting steps m = absurd steps
  by (Serving v call) steps m =
      let found = refused_marks h.open_marks v.way steps.0.way win after steps.1 m in
      record {
        added = found.0;
        grown = found.1;
        stopped = staged asks start history own marks found.0 items s new h (subst (λ x. StageMarks x (h.open_marks ++ map uncounted found.0)) (sym steps.2) found.2);
      }
  by (Refusing why bytes) steps m = absurd steps
  by (Over end) steps m = absurd steps

-- a request that gave back what it held does nothing more with its session
rests_behind : {P : Type 0} (old : Visit P) (told : Option WriteOutcome) → (after_outcome told (record old { way = way.Resting })).way ≡ way.Resting
rests_behind old None = refl
rests_behind old (Some (outcome.Written cookie)) = refl
rests_behind old (Some (outcome.Missed causes)) = refl

back_marks : (marks : List WindowMark) (w : SessionWay) → AreMarksOf w marks → AreMarksOf way.Resting (marks ++ map uncounted (marks_by w way.Resting))
back_marks marks way.Resting m = subst (λ (ms : List WindowMark). AreMarksOf way.Resting ms) (sym (append-nil marks)) m
back_marks marks (way.Reading r) m = inl (append-nil marks ∙ m)
back_marks marks (way.Ordered order) m = inl (append-nil marks ∙ m)
back_marks marks (way.Writing w) m = inr (inr (ap (λ (ms : List WindowMark). ms ++ mark.Spent ∷ []) m))
back_marks marks (way.Settling w) m = inr (inr (ap (λ (ms : List WindowMark). ms ++ mark.Spent ∷ []) m))
back_marks marks (way.Holding passes) m = inr (inr (ap (λ (ms : List WindowMark). ms ++ mark.Spent ∷ []) m))

pub given_back : {P : Type 0} (asks : P → List Answer → Next) (start : Start) (history own : List Event) (marks : List WindowMark) (items : List Item) (s : Shepherd P) (stage : Stage P) (win after : WindowsValue)
    → GivesBack s.stage win stage after → Stopped asks start history own marks items s → StopsWith asks start history own marks items win after (record s { stage = stage })
given_back {P} asks start history own marks items s stage win after back h = by s.stage back h.stage_marks where
  none : (x : Stage P) → stage ≡ x → after ≡ win → StageMarks x h.open_marks → StopsWith asks start history own marks items win after (record s { stage = stage })
  none x is same m = record {
    added = [];
    grown = ap (λ (w : WindowsValue). w.history) same ∙ sym (append-nil win.history);
    stopped = staged asks start history own marks [] items s (record s { stage = stage }) h
        (subst (λ y. StageMarks y (h.open_marks ++ [])) (sym is) (subst (λ (ms : List WindowMark). StageMarks x ms) (sym (append-nil h.open_marks)) m));
  }

  by : (x : Stage P) → GivesBack x win stage after → StageMarks x h.open_marks → StopsWith asks start history own marks items win after (record s { stage = stage })
  by Resting back m = none Resting back.0 back.1 m
  by (Serving v call) back m =
      let added : List WindowMark = marks_by v.way way.Resting in
      let rests : back.0.way ≡ way.Resting = ap (λ (x : Visit P). x.way) back.1.back.new_is ∙ rests_behind v back.1.back.outcome in
      record {
        added = added;
        grown = back.1.marks;
        stopped = staged asks start history own marks added items s (record s { stage = stage }) h
            (subst (λ y. StageMarks y (h.open_marks ++ map uncounted added)) (sym back.2)
            (subst (λ (w : SessionWay). AreMarksOf w (h.open_marks ++ map uncounted added)) (sym rests) (back_marks h.open_marks v.way m)));
      }
  by (Refusing why bytes) back m = none (Refusing why bytes) back.0 back.1 m
  by (Over end) back m = none (Over end) back.0 back.1 m

of_one : (marks : List WindowMark) (w : SessionWay) → AreMarksOf w marks → AreOfOne marks
of_one marks way.Resting (inl none) = inl none
of_one marks way.Resting (inr (inl refused)) = inr (inl refused)
of_one marks way.Resting (inr (inr spent)) = inr (inr (inr spent))
of_one marks (way.Reading r) m = inl m
of_one marks (way.Ordered order) m = inl m
of_one marks (way.Writing w) m = inr (inr (inl m))
of_one marks (way.Settling w) m = inr (inr (inl m))
of_one marks (way.Holding passes) m = inr (inr (inl m))

pub told : {P : Type 0} (asks : P → List Answer → Next) → ItemTells asks
    → ((marks : List WindowMark) (v : Visit P) (i : Item) → visit_turn v ≡ visit.Over → IsItemOf v v.work i → Marks marks v → marks ≡ window_trace i)
    → (start : Start) (history own : List Event) (marks : List WindowMark) (items : List Item) (s : Shepherd P) → Stopped asks start history own marks items s
    → (open_own : List Event) × (open_marks : List WindowMark) × IsAccountedFor start history own marks items open_own open_marks × (length open_own ≤ 1) × AreOfOne open_marks × StageMarks s.stage open_marks
told {P} asks tells marked start history own marks items s h = (h.open_own, h.open_marks, whole, h.few, by s.stage h.stage_marks, h.stage_marks) where
  closed : Accounting asks start history (told_events h.told) (told_marks h.told) items fresh
  closed = record {
    told = h.told;
    open_own = [];
    open_marks = [];
    items_are = h.items_are;
    stand = h.stand;
    own_is = sym (append-nil (told_events h.told));
    marks_are = sym (append-nil (told_marks h.told));
    tells = (refl, refl);
  }

  whole : IsAccountedFor start history own marks items h.open_own h.open_marks
  whole =
      let found = accounted asks tells marked start history (told_events h.told) (told_marks h.told) items fresh closed in
      record {
        events = h.own_is ∙ ap (λ xs. xs ++ h.open_own) (found.2.events ∙ ap (λ xs. traces_in history items ++ xs) found.3.0 ∙ append-nil (traces_in history items));
        marks_are = h.marks_are ∙ ap (λ xs. xs ++ h.open_marks) (found.2.marks_are ∙ ap (λ xs. window_traces items ++ xs) found.3.1 ∙ append-nil (window_traces items));
        stand = found.2.stand;
      }

  by : (x : Stage P) → StageMarks x h.open_marks → AreOfOne h.open_marks
  by Resting m = inl m
  by (Serving v call) m = of_one h.open_marks v.way m
  by (Refusing why bytes) m = inl m
  by (Over end) m = inl m

-- no marks, or those of a session with which nothing is done any more, are not those of passes that were never spent
none_spent : (marks : List WindowMark) → marks ≡ [] → marks ≢ mark.Taken 0 ∷ []
none_spent marks none taken = absurd (cc)

resting_spent : (marks : List WindowMark) → AreMarksOf way.Resting marks → marks ≢ mark.Taken 0 ∷ []
resting_spent marks (inl none) taken = absurd (cc)
resting_spent marks (inr (inl refused)) taken = absurd (cc)
resting_spent marks (inr (inr spent)) taken = absurd (cc)

-- Where the passes of a request were given back, none are left that were never spent.
back_spent : {P : Type 0} (marks : List WindowMark) (x stage : Stage P) (win after : WindowsValue) → GivesBack x win stage after → StageMarks stage marks → marks ≢ mark.Taken 0 ∷ []
back_spent marks Resting stage win after back m = none_spent marks (subst (λ y. StageMarks y marks) back.0 m)
back_spent {P} marks (Serving v call) stage win after back m =
    let rests : back.0.way ≡ way.Resting = ap (λ (x : Visit P). x.way) back.1.back.new_is ∙ rests_behind v back.1.back.outcome in
    resting_spent marks (subst (λ (w : SessionWay). AreMarksOf w marks) rests (subst (λ y. StageMarks y marks) back.2 m))
back_spent marks (Refusing why bytes) stage win after back m = none_spent marks (subst (λ y. StageMarks y marks) back.0 m)
back_spent marks (Over end) stage win after back m = none_spent marks (subst (λ y. StageMarks y marks) back.0 m)

pub spent : {P : Type 0} (asks : P → List Answer → Next) → ItemTells asks
    → ((marks : List WindowMark) (v : Visit P) (i : Item) → visit_turn v ≡ visit.Over → IsItemOf v v.work i → Marks marks v → marks ≡ window_trace i)
    → (start : Start) (history own : List Event) (marks : List WindowMark) (items : List Item) (s : Shepherd P) (stage : Stage P) (win after : WindowsValue)
    → GivesBack s.stage win stage after → Stopped asks start history own marks items s
    → (added : List WindowMark) × (after.history ≡ win.history ++ added) × (open_own : List Event) × (open_marks : List WindowMark)
    × IsAccountedFor start history own (marks ++ map uncounted added) items open_own open_marks × (length open_own ≤ 1) × AreOfOne open_marks × (open_marks ≢ mark.Taken 0 ∷ [])
spent {P} asks tells marked start history own marks items s stage win after back h =
    let given = given_back asks start history own marks items s stage win after back h in
    let found = told asks tells marked start history own (marks ++ map uncounted given.added) items (record s { stage = stage }) given.stopped in
    (given.added, given.grown, found.0, found.1, found.2, found.3, found.4, back_spent found.1 s.stage stage win after back found.5)

-- a response that has not left is none that is over
unsent_over : {P : Type 0} (w : Work P) (want : Wants) → has_left w ≡ false → is_over (visit_turn_by w want) ≡ false
unsent_over Reading wanted.Nothing e = refl
unsent_over Reading wanted.Outside e = refl
unsent_over Reading wanted.Windows e = refl
unsent_over Opening want e = refl
unsent_over (ServingBy tries program) want e = refl
unsent_over (Committed place again shown) wanted.Nothing e = refl
unsent_over (Committed place again shown) wanted.Outside e = refl
unsent_over (Committed place again shown) wanted.Windows e = refl
unsent_over (Decided became) want e = refl
unsent_over (Answered fate bytes) want e = refl
unsent_over (Left fate) want e = absurd (cc)

unsent_fated : {P : Type 0} (change : Fate → Fate) (w : Work P) → has_left w ≡ false → has_left (with_fate change w) ≡ false
unsent_fated change Reading e = refl
unsent_fated change Opening e = refl
unsent_fated change (ServingBy tries program) e = refl
unsent_fated change (Committed place again shown) e = refl
unsent_fated change (Decided became) e = refl
unsent_fated change (Answered fate bytes) e = refl
unsent_fated change (Left fate) e = e

unsent_behind : {P : Type 0} (old : Visit P) (told : Option WriteOutcome) → has_left old.work ≡ false → has_left (after_outcome told (record old { way = way.Resting })).work ≡ false
unsent_behind old None e = e
unsent_behind old (Some (outcome.Written cookie)) e = unsent_fated fate_written old.work e
unsent_behind old (Some (outcome.Missed causes)) e = unsent_fated (fate_missed causes) old.work e

pub no_item : {P : Type 0} (s : Shepherd P) (stage : Stage P) (win after : WindowsValue) → GivesBack s.stage win stage after → IfOpen s.stage (λ v call. has_left v.work ≡ false) → has_item stage ≡ false
no_item {P} s stage win after back unsent = by s.stage back unsent where
  by : (x : Stage P) → GivesBack x win stage after → IfOpen x (λ v call. has_left v.work ≡ false) → has_item stage ≡ false
  by Resting back unsent = ap has_item back.0
  by (Serving v call) back unsent =
      ap has_item back.2 ∙ unsent_over back.0.work (wants back.0.way) (ap (λ (x : Visit P). has_left x.work) back.1.back.new_is ∙ unsent_behind v back.1.back.outcome unsent)
  by (Refusing why bytes) back unsent = ap has_item back.0
  by (Over end) back unsent = ap has_item back.0

-- Where the work of a request is lost, or it is served in the container still, its response has not left.
pub unsent : {P : Type 0} (s new : Shepherd P) → StepsVisit (λ v w. w ≡ record v { work = Opening }) s.stage new.stage ⊎ StepsVisit IsServedStill s.stage new.stage
    → IfOpen new.stage (λ v call. has_left v.work ≡ false)
unsent {P} s new steps = elim steps [ inl opened ↦ opened_by s.stage opened | inr served ↦ served_by s.stage served ] where
  opened_by : (x : Stage P) → StepsVisit (λ v w. w ≡ record v { work = Opening }) x new.stage → IfOpen new.stage (λ v call. has_left v.work ≡ false)
  opened_by Resting steps = absurd steps
  opened_by (Serving v call) steps = subst (λ (y : Stage P). IfOpen y (λ v call. has_left v.work ≡ false)) (sym steps.2) (ap (λ (x : Visit P). has_left x.work) steps.1)
  opened_by (Refusing why bytes) steps = absurd steps
  opened_by (Over end) steps = absurd steps

  inside_unsent : (v after : Visit P) (w : Work P) → OnServing w (λ tries program. (later : TriesValue) × (after ≡ record v { work = ServingBy later program })) → has_left after.work ≡ false
  inside_unsent v after Reading so = absurd so
  inside_unsent v after Opening so = absurd so
  inside_unsent v after (ServingBy tries program) so = ap (λ (x : Visit P). has_left x.work) so.1
  inside_unsent v after (Committed place again shown) so = absurd so
  inside_unsent v after (Decided became) so = absurd so
  inside_unsent v after (Answered fate bytes) so = absurd so
  inside_unsent v after (Left fate) so = absurd so

  served_by : (x : Stage P) → StepsVisit IsServedStill x new.stage → IfOpen new.stage (λ v call. has_left v.work ≡ false)
  served_by Resting steps = absurd steps
  served_by (Serving v call) steps = subst (λ (y : Stage P). IfOpen y (λ v call. has_left v.work ≡ false)) (sym steps.2) (inside_unsent v steps.0 v.work steps.1)
  served_by (Refusing why bytes) steps = absurd steps
  served_by (Over end) steps = absurd steps

-- Where all but the way of a session is as it was, or but the call, a response that had not left has not.
pub unsent_still : {P : Type 0} (s new : Shepherd P)
    → (new.stage ≡ s.stage) ⊎ (StepsVisit (λ v w. w ≡ record v { way = w.way }) s.stage new.stage ⊎ OnVisit s.stage (λ v call. new.stage ≡ Serving v None))
    → IfOpen s.stage (λ v call. has_left v.work ≡ false) → IfOpen new.stage (λ v call. has_left v.work ≡ false)
unsent_still {P} s new so before = elim so [
  | inl same ↦ subst (λ (y : Stage P). IfOpen y (λ v call. has_left v.work ≡ false)) (sym same) before
  | inr more ↦ elim more [ inl stepped ↦ stepped_by s.stage stepped before | inr unmade ↦ unmade_by s.stage unmade before ]
] where
  stepped_by : (x : Stage P) → StepsVisit (λ v w. w ≡ record v { way = w.way }) x new.stage → IfOpen x (λ v call. has_left v.work ≡ false) → IfOpen new.stage (λ v call. has_left v.work ≡ false)
  stepped_by Resting steps before = absurd steps
  stepped_by (Serving v call) steps before =
      subst (λ (y : Stage P). IfOpen y (λ v call. has_left v.work ≡ false)) (sym steps.2) (ap (λ (x : Visit P). has_left x.work) steps.1 ∙ before)
  stepped_by (Refusing why bytes) steps before = absurd steps
  stepped_by (Over end) steps before = absurd steps

  unmade_by : (x : Stage P) → OnVisit x (λ v call. new.stage ≡ Serving v None) → IfOpen x (λ v call. has_left v.work ≡ false) → IfOpen new.stage (λ v call. has_left v.work ≡ false)
  unmade_by Resting is before = absurd is
  unmade_by (Serving v call) is before = subst (λ (y : Stage P). IfOpen y (λ v call. has_left v.work ≡ false)) (sym is) before
  unmade_by (Refusing why bytes) is before = absurd is
  unmade_by (Over end) is before = absurd is
