-- A connection accounts for what it adds and leaves, by what its requests account for.
use Rattle.std.specs.Prelude.{All, IfSome}
use Rattle.std.proofs.Common.{◌≡◌, ◌≢◌, ℕ, Bool, true, false, List, [], ◌∷◌, ◌++◌, map, take, refl, sym, ap, ◌∙◌, subst, Option, Some, None}
use Rattle.std.proofs.lemmas.Grind.{flat_map-append}
use Rattle.std.proofs.lemmas.List.Elements.{All-cons, All-head, All-nil, All-push, All-tail, All-weaker}
use Rattle.std.proofs.lemmas.List.{append-nil, append_assoc, map-append}
use Rattle.auction_calls.specs.declared.action.ActionCall.{ActionCall}
use Rattle.boot_core.specs.declared.boot.Start.{Start}
use Rattle.call_ticket.specs.declared.next.Answer.{Answer}
use Rattle.call_ticket.specs.declared.next.Next.{Next}
use Rattle.container_core.specs.Container.{ContainerValue, HasGrownBy, events_of}
use Rattle.container_core.specs.History.{entries_in}
use Rattle.container_core.specs.declared.history.Event.{Event}
use Rattle.container_core.specs.declared.history.Event.TheVariants.{Started}
use Rattle.crash_base.specs.declared.numbers.Place.{Place}
use Rattle.crash_base.specs.declared.numbers.WorkerNo.{WorkerNo}
use Rattle.outcome_items.specs.Traces.{event_trace, uncounted, window_trace, window_traces}
use Rattle.outcome_items.specs.declared.item.Item.{Item}
use Rattle.outside.specs.Link.{Tally}
use Rattle.outside.specs.declared.link.LinkCounts.{LinkCounts}
use Rattle.outside.specs.declared.link.LinkEvent.{LinkEvent}
use Rattle.request_tries.specs.Ends.{Errand}
use Rattle.request_tries.specs.Serving.{TriesValue, errand_of, unbegun}
use Rattle.request_visit.specs.Accounts.{Accounts, AddsOwn, Became}
use Rattle.request_visit.specs.Advancing.{Advances, IsItemOf, after_leaving}
use Rattle.request_visit.specs.Marks.{AddsMarks, Marks, MarksOf}
use Rattle.request_visit.specs.Stepping.{IsGivenBack, VisitsInside, VisitsWindows, counted, dropped}
use Rattle.request_visit.specs.Visits.{turn as visit_turn, turn_by as visit_turn_by}
use Rattle.request_visit.specs.declared.visit.Fate.{Fate}
use Rattle.request_visit.specs.declared.visit.Fate.TheVariants.{Writing}
use Rattle.request_visit.specs.declared.visit.Turn.{Turn}
use Rattle.request_visit.specs.declared.visit.Turn.TheVariants as visit
use Rattle.request_visit.specs.declared.visit.Visit.{Visit}
use Rattle.request_visit.specs.declared.visit.Work.{Work}
use Rattle.request_visit.specs.declared.visit.Work.TheVariants.{Reading, Opening, Serving as ServingBy, Committed, Decided, Answered, Left}
use Rattle.send_windows.specs.Windows.{WindowsValue}
use Rattle.send_windows.specs.declared.history.WindowMark.{WindowMark}
use Rattle.session_cookie.specs.declared.cookie.Cookie.{Cookie}
use Rattle.session_way.specs.Marks.{marks_by}
use Rattle.session_way.specs.Way.{StepsOutside, answer_held, wants}
use Rattle.session_way.specs.declared.way.SessionWay.{SessionWay}
use Rattle.session_way.specs.declared.way.SessionWay.TheVariants as way
use Rattle.session_way.specs.declared.way.Wants.{Wants}
use Rattle.session_way.specs.declared.way.Wants.TheVariants as wanted
use Rattle.shepherd.specs.Accounting.{Accounting, AddsEvents, IsAccountedFor, IsTold, ItemStands, LeavesMarks, StageTells, Tells, Told, told_events, told_items, told_marks, trace_in, traces_in}
use Rattle.shepherd.specs.Shepherds.{fresh, has_item, is_over, turn}
use Rattle.shepherd.specs.Standing.{has_left}
use Rattle.shepherd.specs.Steps.{GivesBack, HasAnswerIfOpen, HasLeftIfOpen, MayPutOut, OnVisit, OpensCall, OpensStage, PutsOut, ShepherdSteps, StepsVisit, TakesItem, VisitsOutside, dropped_stage, rested}
use Rattle.shepherd.specs.declared.shepherd.AskedCall.{AskedCall}
use Rattle.shepherd.specs.declared.shepherd.Shepherd.{Shepherd}
use Rattle.shepherd.specs.declared.shepherd.ShepherdTurn.TheVariants as turns
use Rattle.shepherd.specs.declared.shepherd.Stage.{Stage}
use Rattle.shepherd.specs.declared.shepherd.Stage.TheVariants.{Resting, Serving, Refusing, Over}
use Rattle.shepherd.proofs.Keeping.{Keeps, advance_keeps, back_keeps, inside_keeps, outside_keeps, windows_keep}
use Rattle.shepherd.proofs.Turning.{asks_output, asks_visit, fate_of, step_of}

pub begins : {P : Type 0} (asks : P → List Answer → Next) (start : Start) (history : List Event) → Accounting asks start history [] [] [] fresh
begins asks start history = record {
  told = [];
  open_own = [];
  open_marks = [];
  items_are = refl;
  stand = All-nil (IsTold asks start history);
  own_is = refl;
  marks_are = refl;
  tells = (refl, refl);
}

-- what a law tells of a request whose history grows
abbrev pub GrowsWith : {P : Type 0} → (P → List Answer → Next) → Type 0
GrowsWith {P} asks = (start : Start) (history more : List Event) (errand : Errand) (own : List Event) (v : Visit P) → Accounts asks start history errand own v → Accounts asks start (history ++ more) errand own v

pub told_longer : {P : Type 0} (asks : P → List Answer → Next) → GrowsWith asks → (start : Start) (history more : List Event) (t : Told P) → IsTold asks start history t → IsTold asks start (history ++ more) t
told_longer asks grows start history more t h = record {
  over = h.over;
  is_item = h.is_item;
  accounts = grows start history more t.errand t.own t.visit h.accounts;
  marks_are = h.marks_are;
}

stage_longer : {P : Type 0} (asks : P → List Answer → Next) → GrowsWith asks → (start : Start) (history more own : List Event) (marks : List WindowMark) (stage : Stage P)
    → StageTells asks start history own marks stage → StageTells asks start (history ++ more) own marks stage
stage_longer asks grows start history more own marks Resting h = h
stage_longer asks grows start history more own marks (Serving v call) h = record {
  errand = h.errand;
  accounts = grows start history more h.errand own v h.accounts;
  marks_are = h.marks_are;
  number = h.number;
}
stage_longer asks grows start history more own marks (Refusing why bytes) h = h
stage_longer asks grows start history more own marks (Over end) h = h

pub meanwhile : {P : Type 0} (asks : P → List Answer → Next) → GrowsWith asks → (start : Start) (history more own : List Event) (marks : List WindowMark) (items : List Item) (s : Shepherd P)
    → Accounting asks start history own marks items s → Accounting asks start (history ++ more) own marks items s
meanwhile asks grows start history more own marks items s h = record {
  told = h.told;
  open_own = h.open_own;
  open_marks = h.open_marks;
  items_are = h.items_are;
  stand = All-weaker (IsTold asks start history) (IsTold asks start (history ++ more)) (told_longer asks grows start history more) h.told h.stand;
  own_is = h.own_is;
  marks_are = h.marks_are;
  tells = stage_longer asks grows start history more h.open_own h.open_marks s.stage h.tells;
}

-- Another stage tells the same.
pub with_stage : {P : Type 0} (asks : P → List Answer → Next) (start : Start) (history own : List Event) (marks : List WindowMark) (items : List Item) (s new : Shepherd P)
    (h : Accounting asks start history own marks items s) → StageTells asks start history h.open_own h.open_marks new.stage → Accounting asks start history own marks items new
with_stage asks start history own marks items s new h tells = record {
  told = h.told;
  open_own = h.open_own;
  open_marks = h.open_marks;
  items_are = h.items_are;
  stand = h.stand;
  own_is = h.own_is;
  marks_are = h.marks_are;
  tells = tells;
}

pub still : {P : Type 0} (asks : P → List Answer → Next) (start : Start) (history own : List Event) (marks : List WindowMark) (items : List Item) (s new : Shepherd P)
    → new.stage ≡ s.stage → Accounting asks start history own marks items s → Accounting asks start history own marks items new
still asks start history own marks items s new same h =
    with_stage asks start history own marks items s new h (subst (λ x. StageTells asks start history h.open_own h.open_marks x) (sym same) h.tells)

-- a request made a step, as the one that is open
pub record Went {P : Type 0} (So : Visit P → Visit P → Type 0) (old new : Shepherd P) : Type 0 where
  pub visit : Visit P
  pub after : Visit P
  pub call : Option AskedCall
  pub was : old.stage ≡ Serving visit call
  pub is : new.stage ≡ Serving after call
  pub so : So visit after

pub went : {P : Type 0} (So : Visit P → Visit P → Type 0) (old new : Shepherd P) → ShepherdSteps So old new → Went So old new
went {P} So old new steps = by old.stage refl steps.steps where
  by : (x : Stage P) → old.stage ≡ x → StepsVisit So x new.stage → Went So old new
  by Resting was s = absurd s
  by (Serving v call) was s = record { visit = v; after = s.0; call = call; was = was; is = s.2; so = s.1 }
  by (Refusing why bytes) was s = absurd s
  by (Over end) was s = absurd s

-- what the request that is open tells
opened : {P : Type 0} (asks : P → List Answer → Next) (start : Start) (history own : List Event) (marks : List WindowMark) (stage : Stage P) (v : Visit P) (call : Option AskedCall)
    → stage ≡ Serving v call → StageTells asks start history own marks stage → Tells asks start history own marks v call
opened asks start history own marks stage v call was h = subst (λ x. StageTells asks start history own marks x) was h

-- the number of its call is that of its facts still
number_kept : {P : Type 0} (v w : Visit P) (call : Option AskedCall) → Keeps v w → IfSome call (λ (a : AskedCall). v.facts.request ≡ Some a.request) → IfSome call (λ (a : AskedCall). w.facts.request ≡ Some a.request)
number_kept v w call keeps number = subst (λ f. IfSome call (λ (a : AskedCall). f.request ≡ Some a.request)) (sym keeps.facts) number

-- its turn
pub turned_so : {P : Type 0} (s : Shepherd P) (wanted : Turn) (v : Visit P) (call : Option AskedCall) → s.stage ≡ Serving v call → step_of (turn s) ≡ Some wanted → visit_turn v ≡ wanted
turned_so s wanted v call was is = subst (λ x. OnVisit x (λ v call. visit_turn v ≡ wanted)) was (asks_visit s wanted is)

pub outside : {P L : Type 0} (asks : P → List Answer → Next) (makes : L → LinkEvent → L → Type 0) (tally : L → Tally)
    → ((start : Start) (history : List Event) (errand : Errand) (own : List Event) (v : Visit P) (way : SessionWay) (counts : LinkCounts)
    → Accounts asks start history errand own v → Accounts asks start history errand own (record v { way = way; counts = counts }))
    → ((marks : List WindowMark) (v : Visit P) (way : SessionWay) (counts : LinkCounts) (link after : L) → StepsOutside makes v.way link way after → Marks marks v
    → Marks marks (record v { way = way; counts = counts }))
    → (start : Start) (history own : List Event) (marks : List WindowMark) (items : List Item) (old new : Shepherd P) (link after : L)
    → ShepherdSteps (λ v w. VisitsOutside makes tally v link w after) old new → Accounting asks start history own marks items old → Accounting asks start history own marks items new
outside {P} {L} asks makes tally accounts marked start history own marks items old new link after steps h =
    let g = went (λ (v : Visit P) w. VisitsOutside makes tally v link w after) old new steps in
    let t = opened asks start history h.open_own h.open_marks old.stage g.visit g.call g.was h.tells in
    let v = g.visit in
    let w = g.after in
    with_stage asks start history own marks items old new h (subst (λ x. StageTells asks start history h.open_own h.open_marks x) (sym g.is) (record {
      errand = t.errand;
      accounts = subst (λ x. Accounts asks start history t.errand h.open_own x) (sym g.so.rest) (accounts start history t.errand h.open_own v w.way (counted (tally after)) t.accounts);
      marks_are = subst (λ x. Marks h.open_marks x) (sym g.so.rest) (marked h.open_marks v w.way (counted (tally after)) link after g.so.steps t.marks_are);
      number = number_kept v w g.call (outside_keeps makes tally v link w after g.so) t.number;
    }))

pub windows : {P : Type 0} (asks : P → List Answer → Next)
    → ((start : Start) (history : List Event) (errand : Errand) (own : List Event) (old new : Visit P) (windows after : WindowsValue) → VisitsWindows old windows new after
    → Accounts asks start history errand own old → Accounts asks start history errand own new)
    → ((marks : List WindowMark) (old new : Visit P) (windows after : WindowsValue) → visit_turn old ≡ visit.Windows → VisitsWindows old windows new after → Marks marks old → AddsMarks marks windows after new)
    → (start : Start) (history own : List Event) (marks : List WindowMark) (items : List Item) (old new : Shepherd P) (windows after : WindowsValue) → turn old ≡ turns.Windows
    → ShepherdSteps (λ v w. VisitsWindows v windows w after) old new → Accounting asks start history own marks items old → LeavesMarks asks start history own marks items windows after new
windows {P} asks accounts marked start history own marks items old new win after is steps h =
    let g = went (λ (v : Visit P) w. VisitsWindows v win w after) old new steps in
    let t = opened asks start history h.open_own h.open_marks old.stage g.visit g.call g.was h.tells in
    let adds = marked h.open_marks g.visit g.after win after (turned_so old visit.Windows g.visit g.call g.was (ap step_of is)) g.so t.marks_are in
    record {
      added = adds.added;
      grown = adds.grown;
      accounts = record {
        told = h.told;
        open_own = h.open_own;
        open_marks = h.open_marks ++ map uncounted adds.added;
        items_are = h.items_are;
        stand = h.stand;
        own_is = h.own_is;
        marks_are = ap (λ xs. xs ++ map uncounted adds.added) h.marks_are ∙ append_assoc (told_marks h.told) h.open_marks (map uncounted adds.added);
        tells = subst (λ x. StageTells asks start history h.open_own (h.open_marks ++ map uncounted adds.added) x) (sym g.is) (record {
          errand = t.errand;
          accounts = accounts start history t.errand h.open_own g.visit g.after win after g.so t.accounts;
          marks_are = adds.told;
          number = number_kept g.visit g.after g.call (windows_keep g.visit win g.after after g.so) t.number;
        });
      };
    }

pub inside : {P : Type 0} (asks : P → List Answer → Next) → GrowsWith asks
    → ((start : Start) (errand : Errand) (own : List Event) (old new : Visit P) (container after : ContainerValue) → VisitsInside asks old container new after
    → Accounts asks start (events_of container) errand own old → entries_in container.since ≡ container.boot.entries → AddsOwn asks errand own container after new)
    → ((marks : List WindowMark) (old new : Visit P) (container after : ContainerValue) → VisitsInside asks old container new after → Marks marks old → Marks marks new)
    → (own : List Event) (marks : List WindowMark) (items : List Item) (old new : Shepherd P) (container after : ContainerValue)
    → ShepherdSteps (λ v w. VisitsInside asks v container w after) old new → entries_in container.since ≡ container.boot.entries → HasGrownBy container after
    → Accounting asks container.boot.start (events_of container) own marks items old → AddsEvents asks own marks items container after new
inside {P} asks grows accounts marked own marks items old new container after steps is grown h =
    let start = container.boot.start in
    let g = went (λ (v : Visit P) w. VisitsInside asks v container w after) old new steps in
    let t = opened asks start (events_of container) h.open_own h.open_marks old.stage g.visit g.call g.was h.tells in
    let adds = accounts start t.errand h.open_own g.visit g.after container after g.so t.accounts is in
    let longer : events_of after ≡ events_of container ++ adds.added =
    ap (λ x. Started x ∷ after.since) grown.boot.start ∙ ap (λ xs. Started container.boot.start ∷ xs) adds.grown in
    record {
      added = adds.added;
      grown = adds.grown;
      accounts = record {
        told = h.told;
        open_own = h.open_own ++ adds.added;
        open_marks = h.open_marks;
        items_are = h.items_are;
        stand = All-weaker (IsTold asks start (events_of container)) (IsTold asks after.boot.start (events_of after))
            (λ x told. subst (λ st. IsTold asks st (events_of after) x) (sym grown.boot.start) (subst (λ es. IsTold asks start es x) (sym longer) (told_longer asks grows start (events_of container) adds.added x told)))
            h.told h.stand;
        own_is = ap (λ xs. xs ++ adds.added) h.own_is ∙ append_assoc (told_events h.told) h.open_own adds.added;
        marks_are = h.marks_are;
        tells = subst (λ x. StageTells asks after.boot.start (events_of after) (h.open_own ++ adds.added) h.open_marks x) (sym g.is) (record {
          errand = t.errand;
          accounts = adds.accounts;
          marks_are = marked h.open_marks g.visit g.after container after g.so t.marks_are;
          number = number_kept g.visit g.after g.call (inside_keeps asks g.visit container g.after after g.so) t.number;
        });
      };
    }

pub advance : {P : Type 0} (asks : P → List Answer → Next)
    → ((start : Start) (history : List Event) (errand : Errand) (own : List Event) (old new : Visit P) (key : List ℕ) → Advances key old old.work new
    → Accounts asks start history errand own old → Accounts asks start history errand own new)
    → ((marks : List WindowMark) (key : List ℕ) (old new : Visit P) → visit_turn old ≡ visit.Own → Advances key old old.work new → Marks marks old → Marks marks new)
    → (start : Start) (history own : List Event) (marks : List WindowMark) (key : List ℕ) (items : List Item) (old new : Shepherd P) → turn old ≡ turns.Own
    → ShepherdSteps (λ v w. Advances key v v.work w) old new → Accounting asks start history own marks items old → Accounting asks start history own marks items new
advance {P} asks accounts marked start history own marks key items old new is steps h =
    let g = went (λ (v : Visit P) w. Advances key v v.work w) old new steps in
    let t = opened asks start history h.open_own h.open_marks old.stage g.visit g.call g.was h.tells in
    with_stage asks start history own marks items old new h (subst (λ x. StageTells asks start history h.open_own h.open_marks x) (sym g.is) (record {
      errand = t.errand;
      accounts = accounts start history t.errand h.open_own g.visit g.after key g.so t.accounts;
      marks_are = marked h.open_marks key g.visit g.after (turned_so old visit.Own g.visit g.call g.was (ap step_of is)) g.so t.marks_are;
      number = number_kept g.visit g.after g.call (advance_keeps key g.visit g.after g.so) t.number;
    }))

-- a request whose program is to be made is at that stage
pub opening : {P : Type 0} (w : Work P) (want : Wants) → visit_turn_by w want ≡ visit.Program → w ≡ Opening
opening Reading wanted.Nothing is = absurd (cc)
opening Reading wanted.Outside is = absurd (cc)
opening Reading wanted.Windows is = absurd (cc)
opening Opening want is = refl
opening (ServingBy tries program) want is = absurd (cc)
opening (Committed place again shown) wanted.Nothing is = absurd (cc)
opening (Committed place again shown) wanted.Outside is = absurd (cc)
opening (Committed place again shown) wanted.Windows is = absurd (cc)
opening (Decided became) want is = absurd (cc)
opening (Answered fate bytes) want is = absurd (cc)
opening (Left fate) wanted.Nothing is = absurd (cc)
opening (Left fate) wanted.Outside is = absurd (cc)
opening (Left fate) wanted.Windows is = absurd (cc)

pub opens : {P M : Type 0} (asks : P → List Answer → Next) (makes : M → ActionCall → List ℕ → P → Type 0)
    → ((start : Start) (history : List Event) (errand : Errand) (own : List Event) (v : Visit P) (tries : TriesValue) (program : P) → v.work ≡ Opening → v.facts.request ≡ Some tries.request
    → Accounts asks start history errand own v → Accounts asks start history (errand_of tries (asks program)) own (record v { work = ServingBy tries program }))
    → (start : Start) (history own : List Event) (marks : List WindowMark) (items : List Item) (s : Shepherd P) (stage : Stage P) (maker : M) (worker : WorkerNo) → turn s ≡ turns.Program
    → OpensStage makes maker worker s.stage stage → Accounting asks start history own marks items s → Accounting asks start history own marks items (record s { stage = stage })
opens {P} asks makes accounts start history own marks items s stage maker worker is does h = by s.stage refl does where
  one : (v : Visit P) (call : Option AskedCall) → s.stage ≡ Serving v call → OpensCall makes maker worker v call stage → StageTells asks start history h.open_own h.open_marks stage
  one v None was does = absurd does
  one v (Some asked) was does =
      let t = opened asks start history h.open_own h.open_marks s.stage v (Some asked) was h.tells in
      let early : v.work ≡ Opening = opening v.work (wants v.way) (turned_so s visit.Program v (Some asked) was (ap step_of is)) in
      let tries : TriesValue = unbegun asked.request worker does.1.text in
      subst (λ x. StageTells asks start history h.open_own h.open_marks x) (sym (does.2 ∙ ap (λ x. Serving x None) does.1.new_is)) (record {
        errand = errand_of tries (asks does.1.program);
        accounts = accounts start history t.errand h.open_own v tries does.1.program early t.number t.accounts;
        marks_are = subst (λ w. MarksOf h.open_marks v.cookie v.way w) early t.marks_are;
        number = tt;
      })

  by : (x : Stage P) → s.stage ≡ x → OpensStage makes maker worker x stage → Accounting asks start history own marks items (record s { stage = stage })
  by Resting was does = absurd does
  by (Serving v call) was does = with_stage asks start history own marks items s (record s { stage = stage }) h (one v call was does)
  by (Refusing why bytes) was does = absurd does
  by (Over end) was does = absurd does

pub out : {P : Type 0} (asks : P → List Answer → Next)
    → ((start : Start) (history : List Event) (errand : Errand) (own : List Event) (v : Visit P) → Accounts asks start history errand own v → Accounts asks start history errand own (after_leaving v))
    → ((marks : List WindowMark) (v : Visit P) → visit_turn v ≡ visit.Output → Marks marks v → Marks marks (after_leaving v))
    → (start : Start) (history own : List Event) (marks : List WindowMark) (bytes : List ℕ) (items : List Item) (s : Shepherd P) (stage : Stage P) → turn s ≡ turns.Output
    → PutsOut s.stage bytes stage → Accounting asks start history own marks items s → Accounting asks start history own marks items (record s { stage = stage })
out {P} asks accounts marked start history own marks bytes items s stage is puts h =
    with_stage asks start history own marks items s (record s { stage = stage }) h (by s.stage h.tells (asks_output s is) puts) where
      by : (x : Stage P) → StageTells asks start history h.open_own h.open_marks x → MayPutOut x → PutsOut x bytes stage → StageTells asks start history h.open_own h.open_marks stage
      by Resting t may puts = absurd may
      by (Serving v call) t may puts = subst (λ x. StageTells asks start history h.open_own h.open_marks x) (sym puts.1) (record {
        errand = t.errand;
        accounts = accounts start history t.errand h.open_own v t.accounts;
        marks_are = marked h.open_marks v may t.marks_are;
        number = t.number;
      })
      by (Refusing why last) t may puts = subst (λ x. StageTells asks start history h.open_own h.open_marks x) (sym puts.1) t
      by (Over end) t may puts = absurd may

pub over_now : (t : Turn) → is_over t ≡ true → t ≡ visit.Over
over_now visit.Outside is = absurd (cc)
over_now visit.Windows is = absurd (cc)
over_now visit.Inside is = absurd (cc)
over_now visit.Program is = absurd (cc)
over_now visit.Own is = absurd (cc)
over_now visit.Output is = absurd (cc)
over_now visit.Over is = refl

nothing_told : {P : Type 0} (asks : P → List Answer → Next) (start : Start) (history : List Event) (b : Bool) → StageTells asks start history [] [] (rested b)
nothing_told asks start history true = (refl, refl)
nothing_told asks start history false = (refl, refl)

pub item : {P : Type 0} (asks : P → List Answer → Next) (start : Start) (history own : List Event) (marks : List WindowMark) (items : List Item) (i : Item) (s : Shepherd P) (stage : Stage P)
    → has_item s.stage ≡ true → TakesItem s.stage i stage → Accounting asks start history own marks items s
    → Accounting asks start history own marks (items ++ i ∷ []) (record s { front = i.holds.front; stage = stage })
item {P} asks start history own marks items i s stage is takes h = by s.stage refl takes where
  by : (x : Stage P) → s.stage ≡ x → TakesItem x i stage → Accounting asks start history own marks (items ++ i ∷ []) (record s { front = i.holds.front; stage = stage })
  by Resting was takes = absurd takes
  by (Serving v call) was takes =
      let t = opened asks start history h.open_own h.open_marks s.stage v call was h.tells in
      let one : Told P = record { visit = v; item = i; errand = t.errand; own = h.open_own; marks = h.open_marks } in
      record {
        told = h.told ++ one ∷ [];
        open_own = [];
        open_marks = [];
        items_are = ap (λ xs. xs ++ i ∷ []) h.items_are ∙ sym (map-append (λ (x : Told P). x.item) h.told (one ∷ []));
        stand = All-push (IsTold asks start history) h.told one h.stand (record {
          over = over_now (visit_turn v) (sym (ap has_item was) ∙ is);
          is_item = takes.0;
          accounts = t.accounts;
          marks_are = t.marks_are;
        });
        own_is = h.own_is ∙ ap (λ xs. told_events h.told ++ xs) (sym (append-nil h.open_own)) ∙ sym (flat_map-append (λ (x : Told P). x.own) h.told (one ∷ [])) ∙ sym (append-nil (told_events (h.told ++ one ∷ [])));
        marks_are = h.marks_are ∙ ap (λ xs. told_marks h.told ++ xs) (sym (append-nil h.open_marks)) ∙ sym (flat_map-append (λ (x : Told P). x.marks) h.told (one ∷ [])) ∙ sym (append-nil (told_marks (h.told ++ one ∷ [])));
        tells = subst (λ x. StageTells asks start history [] [] x) (sym takes.1) (nothing_told asks start history v.facts.close);
      }
  by (Refusing why bytes) was takes = absurd takes
  by (Over end) was takes = absurd takes

pub dropped_marks : {P : Type 0} (marks : List WindowMark) (cookie : Option Cookie) (way : SessionWay) (w : Work P) → MarksOf marks cookie way w → MarksOf marks cookie way (dropped w)
dropped_marks marks cookie way Reading m = m
dropped_marks marks cookie way Opening m = m
dropped_marks marks cookie way (ServingBy tries program) m = m
dropped_marks marks cookie way (Committed place again shown) m = m
dropped_marks marks cookie way (Decided became) m = m
dropped_marks marks cookie way (Answered fate bytes) m = m
dropped_marks marks cookie way (Left fate) m = m

pub given_up : {P : Type 0} (asks : P → List Answer → Next)
    → ((start : Start) (history : List Event) (errand : Errand) (own : List Event) (v : Visit P) → Accounts asks start history errand own v → Accounts asks start history errand own (record v { work = dropped v.work }))
    → (start : Start) (history own : List Event) (marks : List WindowMark) (items : List Item) (s : Shepherd P) → Accounting asks start history own marks items s
    → Accounting asks start history own marks items (record s { stage = dropped_stage s.stage })
given_up {P} asks accounts start history own marks items s h =
    with_stage asks start history own marks items s (record s { stage = dropped_stage s.stage }) h (by s.stage h.tells) where
      by : (x : Stage P) → StageTells asks start history h.open_own h.open_marks x → StageTells asks start history h.open_own h.open_marks (dropped_stage x)
      by Resting t = t
      by (Serving v call) t = record {
        errand = t.errand;
        accounts = accounts start history t.errand h.open_own v t.accounts;
        marks_are = dropped_marks h.open_marks v.cookie v.way v.work t.marks_are;
        number = t.number;
      }
      by (Refusing why bytes) t = t
      by (Over end) t = t

-- the turn of a request whose passes were given back behind its response
pub over_behind : {P : Type 0}
    → ((old new : Visit P) (fate : Fate) → IsGivenBack old new → old.work ≡ Left fate → visit_turn new ≡ visit.Over)
    → (s : Shepherd P) (stage : Stage P) (win after : WindowsValue) → GivesBack s.stage win stage after → OnVisit s.stage (λ v call. has_left v.work ≡ true) → has_item stage ≡ true
over_behind {P} over s stage win after back left = by s.stage back left where
  by : (x : Stage P) → GivesBack x win stage after → OnVisit x (λ v call. has_left v.work ≡ true) → has_item stage ≡ true
  by Resting back left = absurd left
  by (Serving v call) back left = let fate = fate_of v.work left in ap has_item back.2 ∙ ap is_over (over v back.0 fate.0 back.1.back fate.1)
  by (Refusing why bytes) back left = absurd left
  by (Over end) back left = absurd left

-- passes are given back behind a response
pub given_back : {P : Type 0} (asks : P → List Answer → Next)
    → ((start : Start) (history : List Event) (errand : Errand) (own : List Event) (old new : Visit P) → IsGivenBack old new → Accounts asks start history errand own old → Accounts asks start history errand own new)
    → ((marks : List WindowMark) (old new : Visit P) (fate : Fate) → IsGivenBack old new → old.work ≡ Left fate
    → ((place : Place) (again : Bool) → fate ≡ Writing place again → answer_held old.way ≢ None) → Marks marks old → Marks (marks ++ map uncounted (marks_by old.way way.Resting)) new)
    → (start : Start) (history own : List Event) (marks : List WindowMark) (items : List Item) (s : Shepherd P) (stage : Stage P) (win after : WindowsValue) → GivesBack s.stage win stage after
    → HasLeftIfOpen s.stage → HasAnswerIfOpen s.stage → Accounting asks start history own marks items s
    → LeavesMarks asks start history own marks items win after (record s { stage = stage })
given_back {P} asks accounts marked start history own marks items s stage win after back left has h = by s.stage h.tells back left has where
  none : (x : Stage P) → stage ≡ x → after ≡ win → StageTells asks start history h.open_own h.open_marks x → LeavesMarks asks start history own marks items win after (record s { stage = stage })
  none x is same tells = record {
    added = [];
    grown = ap (λ (w : WindowsValue). w.history) same ∙ sym (append-nil win.history);
    accounts = subst (λ ms. Accounting asks start history own ms items (record s { stage = stage })) (sym (append-nil marks))
        (with_stage asks start history own marks items s (record s { stage = stage }) h (subst (λ y. StageTells asks start history h.open_own h.open_marks y) (sym is) tells));
  }

  by : (x : Stage P) → StageTells asks start history h.open_own h.open_marks x → GivesBack x win stage after → HasLeftIfOpen x → HasAnswerIfOpen x
      → LeavesMarks asks start history own marks items win after (record s { stage = stage })
  by Resting t back left has = none Resting back.0 back.1 t
  by (Serving v call) t back left has =
      let fate = fate_of v.work left in
      let added : List WindowMark = marks_by v.way way.Resting in
      record {
        added = added;
        grown = back.1.marks;
        accounts = record {
          told = h.told;
          open_own = h.open_own;
          open_marks = h.open_marks ++ map uncounted added;
          items_are = h.items_are;
          stand = h.stand;
          own_is = h.own_is;
          marks_are = ap (λ xs. xs ++ map uncounted added) h.marks_are ∙ append_assoc (told_marks h.told) h.open_marks (map uncounted added);
          tells = subst (λ x. StageTells asks start history h.open_own (h.open_marks ++ map uncounted added) x) (sym back.2) (record {
            errand = t.errand;
            accounts = accounts start history t.errand h.open_own v back.0 back.1.back t.accounts;
            marks_are = marked h.open_marks v back.0 fate.0 back.1.back fate.1 (λ place again is. has place again (fate.1 ∙ ap (λ (f : Fate). Left f) is)) t.marks_are;
            number = number_kept v back.0 call (back_keeps v back.0 back.1.back) t.number;
          });
        };
      }
  by (Refusing why bytes) t back left has = none (Refusing why bytes) back.0 back.1 t
  by (Over end) t back left has = none (Over end) back.0 back.1 t

-- the holds of an item are those of its request
pub item_holds : {P : Type 0} (v : Visit P) (w : Work P) (i : Item) → IsItemOf v w i → i.holds ≡ v.holds
item_holds v Reading i is = absurd is
item_holds v Opening i is = absurd is
item_holds v (ServingBy tries program) i is = absurd is
item_holds v (Committed place again shown) i is = absurd is
item_holds v (Decided became) i is = absurd is
item_holds v (Answered fate bytes) i is = absurd is
item_holds v (Left fate) i is = ap (λ (x : Item). x.holds) is

-- and so are its number and its moment
item_facts : {P : Type 0} (v : Visit P) (w : Work P) (i : Item) → IsItemOf v w i → (i.request ≡ v.facts.request) × (i.moment ≡ v.facts.now)
item_facts v Reading i is = absurd is
item_facts v Opening i is = absurd is
item_facts v (ServingBy tries program) i is = absurd is
item_facts v (Committed place again shown) i is = absurd is
item_facts v (Decided became) i is = absurd is
item_facts v (Answered fate bytes) i is = absurd is
item_facts v (Left fate) i is = (ap (λ (x : Item). x.request) is, ap (λ (x : Item). x.moment) is)

-- what a law tells of an item
abbrev pub ItemTells : {P : Type 0} → (P → List Answer → Next) → Type 0
ItemTells {P} asks = (start : Start) (history : List Event) (errand : Errand) (own : List Event) (v : Visit P) (i : Item) → IsItemOf v v.work i → Accounts asks start history errand own v
    → Became start history errand v.facts v.holds own i.outcome × (own ≡ event_trace (entries_in (take i.holds.held history)) i)

item_stands : {P : Type 0} (asks : P → List Answer → Next) → ItemTells asks → (start : Start) (history : List Event) (t : Told P) → IsTold asks start history t → ItemStands start history t.item
item_stands asks tells start history t h =
    let found = tells start history t.errand t.own t.visit t.item h.is_item h.accounts in
    record {
      errand = t.errand;
      facts = t.visit.facts;
      request_is = (item_facts t.visit t.visit.work t.item h.is_item).0;
      moment_is = (item_facts t.visit t.visit.work t.item h.is_item).1;
      became = subst (λ x. Became start history t.errand t.visit.facts x (trace_in history t.item) t.item.outcome) (sym (item_holds t.visit t.visit.work t.item h.is_item))
          (subst (λ x. Became start history t.errand t.visit.facts t.visit.holds x t.item.outcome) found.1 found.0);
    }

all_stand : {P : Type 0} (asks : P → List Answer → Next) → ItemTells asks → (start : Start) (history : List Event) (told : List (Told P)) → All (IsTold asks start history) told → All (ItemStands start history) (told_items told)
all_stand asks tells start history [] h = All-nil (ItemStands start history)
all_stand asks tells start history (t ∷ told) h =
    All-cons (ItemStands start history) t.item (told_items told) (item_stands asks tells start history t (All-head (IsTold asks start history) t told h)) (all_stand asks tells start history told (All-tail (IsTold asks start history) t told h))

events_traced : {P : Type 0} (asks : P → List Answer → Next) → ItemTells asks → (start : Start) (history : List Event) (told : List (Told P)) → All (IsTold asks start history) told → told_events told ≡ traces_in history (told_items told)
events_traced asks tells start history [] h = refl
events_traced asks tells start history (t ∷ told) h =
    let first : IsTold asks start history t = All-head (IsTold asks start history) t told h in
    ap (λ xs. xs ++ told_events told) (tells start history t.errand t.own t.visit t.item first.is_item first.accounts).1
    ∙ ap (λ xs. trace_in history t.item ++ xs) (events_traced asks tells start history told (All-tail (IsTold asks start history) t told h))

marks_traced : {P : Type 0} (asks : P → List Answer → Next)
    → ((marks : List WindowMark) (v : Visit P) (i : Item) → visit_turn v ≡ visit.Over → IsItemOf v v.work i → Marks marks v → marks ≡ window_trace i)
    → (start : Start) (history : List Event) (told : List (Told P)) → All (IsTold asks start history) told → told_marks told ≡ window_traces (told_items told)
marks_traced asks marked start history [] h = refl
marks_traced asks marked start history (t ∷ told) h =
    let first : IsTold asks start history t = All-head (IsTold asks start history) t told h in
    ap (λ xs. xs ++ told_marks told) (marked t.marks t.visit t.item first.over first.is_item first.marks_are)
    ∙ ap (λ xs. window_trace t.item ++ xs) (marks_traced asks marked start history told (All-tail (IsTold asks start history) t told h))

pub accounted : {P : Type 0} (asks : P → List Answer → Next) → ItemTells asks
    → ((marks : List WindowMark) (v : Visit P) (i : Item) → visit_turn v ≡ visit.Over → IsItemOf v v.work i → Marks marks v → marks ≡ window_trace i)
    → (start : Start) (history own : List Event) (marks : List WindowMark) (items : List Item) (s : Shepherd P) → Accounting asks start history own marks items s
    → (open_own : List Event) × (open_marks : List WindowMark) × IsAccountedFor start history own marks items open_own open_marks × StageTells asks start history open_own open_marks s.stage
accounted asks tells marked start history own marks items s h = (
  h.open_own,
  h.open_marks,
  record {
    events = h.own_is ∙ ap (λ xs. xs ++ h.open_own) (events_traced asks tells start history h.told h.stand ∙ ap (traces_in history) (sym h.items_are));
    marks_are = h.marks_are ∙ ap (λ xs. xs ++ h.open_marks) (marks_traced asks marked start history h.told h.stand ∙ ap window_traces (sym h.items_are));
    stand = subst (λ xs. All (ItemStands start history) xs) (sym h.items_are) (all_stand asks tells start history h.told h.stand);
  },
  h.tells,
)
