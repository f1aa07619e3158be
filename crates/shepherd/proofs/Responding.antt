-- A connection answers its requests, as each request says what became of it.
use Rattle.std.specs.Prelude.{All}
use Rattle.std.proofs.Common.{arith, ◌≡◌, ◌≢◌, ℕ, ◌≤◌, Bool, true, false, List, [], ◌∷◌, ◌++◌, length, map, take, refl, sym, ap, ◌∙◌, subst, Option, Some, None}
use Rattle.std.specs.List.{flat_map}
use Rattle.std.proofs.lemmas.Grind.{flat_map-append}
use Rattle.std.proofs.lemmas.List.Elements.{All-cons, All-head, All-nil, All-push, All-tail, All-weaker}
use Rattle.std.proofs.lemmas.List.{append-nil, map-append}
use Rattle.auction_calls.specs.declared.action.ActionCall.{ActionCall}
use Rattle.call_ticket.specs.declared.next.Answer.{Answer}
use Rattle.call_ticket.specs.declared.next.Next.{Next}
use Rattle.container_core.specs.Container.{ContainerValue, HasGrownBy, events_of}
use Rattle.container_core.specs.History.{entries_in}
use Rattle.container_core.specs.declared.history.Event.{Event}
use Rattle.container_core.specs.declared.history.Event.TheVariants.{Started}
use Rattle.crash_base.specs.declared.numbers.Place.{Place}
use Rattle.crash_base.specs.declared.numbers.WorkerNo.{WorkerNo}
use Rattle.http_wire.specs.declared.taken.Head.{Head}
use Rattle.outcome_items.specs.Answers.{IsResponse, is_head_only}
use Rattle.outcome_items.specs.Traces.{uncounted}
use Rattle.outcome_items.specs.declared.item.Item.{Item}
use Rattle.outside.specs.Link.{Tally}
use Rattle.outside.specs.declared.link.LinkCounts.{LinkCounts}
use Rattle.outside.specs.declared.link.LinkEvent.{LinkEvent}
use Rattle.request_tries.specs.Serving.{TriesValue, unbegun}
use Rattle.request_visit.specs.Advancing.{Advances, IsItemOf, after_leaving, cookie_in, response_in}
use Rattle.request_visit.specs.Marks.{AddsMarks, Marks, MarksOf}
use Rattle.request_visit.specs.Says.{Says, SaysOf}
use Rattle.request_visit.specs.Stepping.{IsGivenBack, VisitsInside, VisitsWindows, counted, dropped}
use Rattle.request_visit.specs.Visits.{turn as visit_turn}
use Rattle.request_visit.specs.declared.facts.VisitFacts.{VisitFacts}
use Rattle.request_visit.specs.declared.visit.Fate.{Fate}
use Rattle.request_visit.specs.declared.visit.Fate.TheVariants.{Writing}
use Rattle.request_visit.specs.declared.visit.Turn.TheVariants as visit
use Rattle.request_visit.specs.declared.visit.Visit.{Visit}
use Rattle.request_visit.specs.declared.visit.Work.{Work}
use Rattle.request_visit.specs.declared.visit.Work.TheVariants.{Reading, Opening, Serving as ServingBy, Committed, Decided, Answered as AnsweredBy, Left}
use Rattle.send_windows.specs.Windows.{WindowsValue}
use Rattle.send_windows.specs.declared.history.WindowMark.{WindowMark}
use Rattle.session_cookie.specs.declared.cookie.Cookie.{Cookie}
use Rattle.session_way.specs.Marks.{marks_by}
use Rattle.session_way.specs.Way.{StepsOutside, answer_held, wants}
use Rattle.session_way.specs.declared.way.SessionWay.{SessionWay}
use Rattle.session_way.specs.declared.way.SessionWay.TheVariants as way
use Rattle.shepherd.specs.Answering.{Answered, Answering, AreResponses, IsForHead, Responds, Response, SaidAll, SaysSo, StageSays, answered_bytes, answered_heads, answered_items}
use Rattle.shepherd.specs.Shepherds.{fresh, has_item, turn}
use Rattle.shepherd.specs.Standing.{has_left}
use Rattle.shepherd.specs.Steps.{GivesBack, HasAnswerIfOpen, HasLeftIfOpen, MayPutOut, OpensCall, OpensStage, PutsOut, ShepherdSteps, TakesItem, VisitsOutside, dropped_stage, rested}
use Rattle.shepherd.specs.declared.shepherd.AskedCall.{AskedCall}
use Rattle.shepherd.specs.declared.shepherd.Shepherd.{Shepherd}
use Rattle.shepherd.specs.declared.shepherd.ShepherdTurn.TheVariants as turns
use Rattle.shepherd.specs.declared.shepherd.Stage.{Stage}
use Rattle.shepherd.specs.declared.shepherd.Stage.TheVariants.{Resting, Serving, Refusing, Over}
use Rattle.shepherd.proofs.Counting.{dropped_marks, opening, over_now, turned_so, went}
use Rattle.shepherd.proofs.Keeping.{Keeps, advance_keeps, back_keeps, inside_keeps, outside_keeps, windows_keep}
use Rattle.shepherd.proofs.Requests.{then_left}
use Rattle.shepherd.proofs.Turning.{asks_output, fate_of, step_of, unmade, unsent}

pub begins : {P : Type 0} (key : List ℕ) (history : List Event) → Answering {P = P} key history [] [] [] fresh
begins {P} key history = record {
  answered = [];
  opened = [];
  sent = [];
  heads_are = refl;
  items_are = refl;
  written_is = refl;
  said = All-nil (SaidAll {P = P} key history);
  says = (refl, refl);
}

-- what a law tells of a request whose history grows
abbrev pub SaysOn : Type 0 → Type 0
SaysOn P = (key : List ℕ) (history more : List Event) (out : List ℕ) (v : Visit P) → Says key history out v → Says key (history ++ more) out v

said_longer : {P : Type 0} → SaysOn P → (key : List ℕ) (history more : List Event) (a : Answered P) → SaidAll key history a → SaidAll key (history ++ more) a
said_longer grows key history more a h = record {
  over = h.over;
  is_item = h.is_item;
  for_head = h.for_head;
  marks_are = h.marks_are;
  says = grows key history more a.sent a.visit h.says;
}

stage_longer : {P : Type 0} → SaysOn P → (key : List ℕ) (history more : List Event) (opened : List Head) (sent : List ℕ) (stage : Stage P) → StageSays key history opened sent stage → StageSays key (history ++ more) opened sent stage
stage_longer grows key history more opened sent Resting h = h
stage_longer grows key history more opened sent (Serving v call) h = record {
  head = h.head;
  opened_is = h.opened_is;
  for_head = h.for_head;
  marks = h.marks;
  marks_are = h.marks_are;
  says = grows key history more sent v h.says;
  unsent = h.unsent;
}
stage_longer grows key history more opened sent (Refusing why last) h = h
stage_longer grows key history more opened sent (Over end) h = h

pub meanwhile : {P : Type 0} → SaysOn P → (key : List ℕ) (history more : List Event) (heads : List Head) (written : List ℕ) (items : List Item) (s : Shepherd P)
    → Answering key history heads written items s → Answering key (history ++ more) heads written items s
meanwhile grows key history more heads written items s h = record {
  answered = h.answered;
  opened = h.opened;
  sent = h.sent;
  heads_are = h.heads_are;
  items_are = h.items_are;
  written_is = h.written_is;
  said = All-weaker (SaidAll key history) (SaidAll key (history ++ more)) (said_longer grows key history more) h.answered h.said;
  says = stage_longer grows key history more h.opened h.sent s.stage h.says;
}

-- Another stage says the same.
with_stage : {P : Type 0} (key : List ℕ) (history : List Event) (heads : List Head) (written : List ℕ) (items : List Item) (s new : Shepherd P) (h : Answering key history heads written items s)
    → StageSays key history h.opened h.sent new.stage → Answering key history heads written items new
with_stage key history heads written items s new h says = record {
  answered = h.answered;
  opened = h.opened;
  sent = h.sent;
  heads_are = h.heads_are;
  items_are = h.items_are;
  written_is = h.written_is;
  said = h.said;
  says = says;
}

pub still : {P : Type 0} (key : List ℕ) (history : List Event) (heads : List Head) (written : List ℕ) (items : List Item) (s new : Shepherd P) → new.stage ≡ s.stage
    → Answering key history heads written items s → Answering key history heads written items new
still key history heads written items s new same h =
    with_stage key history heads written items s new h (subst (λ x. StageSays key history h.opened h.sent x) (sym same) h.says)

-- what the request that is open says
opened_so : {P : Type 0} (key : List ℕ) (history : List Event) (opened : List Head) (sent : List ℕ) (stage : Stage P) (v : Visit P) (call : Option AskedCall) → stage ≡ Serving v call
    → StageSays key history opened sent stage → SaysSo key history opened sent v
opened_so key history opened sent stage v call was h = subst (λ x. StageSays key history opened sent x) was h

-- it is for the same head still
for_same : {P : Type 0} (head : Head) (v w : Visit P) → Keeps v w → IsForHead head v → IsForHead head w
for_same head v w keeps h = record { close_is = ap (λ f. f.close) keeps.facts ∙ h.close_is; head_only_is = ap (λ f. f.head_only) keeps.facts ∙ h.head_only_is }

-- A stage whose request made a step says the same, where its request does.
with_visit : {P : Type 0} (key : List ℕ) (history : List Event) (opened : List Head) (sent : List ℕ) (v w : Visit P) (call : Option AskedCall) (stage : Stage P) (t : SaysSo key history opened sent v) → stage ≡ Serving w call
    → Keeps v w → (marks : List WindowMark) → Marks marks w → Says key history sent w → StageSays key history opened sent stage
with_visit key history opened sent v w call stage t is keeps marks marked says = subst (λ x. StageSays key history opened sent x) (sym is) (record {
  head = t.head;
  opened_is = t.opened_is;
  for_head = for_same t.head v w keeps t.for_head;
  marks = marks;
  marks_are = marked;
  says = says;
  unsent = λ e. t.unsent (keeps.left e);
})

-- the cookie of an answer stays while a write is settled
abbrev pub CookieStays : {P : Type 0} → Visit P → Visit P → Type 0
CookieStays v w = (fate : Fate) → v.work ≡ Left fate → cookie_in (answer_held w.way) ≡ cookie_in (answer_held v.way)

pub outside : {P L : Type 0} (makes : L → LinkEvent → L → Type 0) (tally : L → Tally)
    → ((marks : List WindowMark) (v : Visit P) (way : SessionWay) (counts : LinkCounts) (link after : L) → StepsOutside makes v.way link way after → Marks marks v → Marks marks (record v { way = way; counts = counts }))
    → ((key : List ℕ) (history : List Event) (out : List ℕ) (v : Visit P) (way : SessionWay) (counts : LinkCounts) → visit_turn v ≡ visit.Outside
    → ((fate : Fate) → v.work ≡ Left fate → cookie_in (answer_held way) ≡ cookie_in (answer_held v.way)) → Says key history out v → Says key history out (record v { way = way; counts = counts }))
    → (key : List ℕ) (history : List Event) (heads : List Head) (written : List ℕ) (items : List Item) (old new : Shepherd P) (link after : L) → turn old ≡ turns.Outside
    → ShepherdSteps (λ v w. VisitsOutside makes tally v link w after × CookieStays v w) old new → Answering key history heads written items old → Answering key history heads written items new
outside {P} {L} makes tally marked said key history heads written items old new link after is steps h =
    let g = went (λ (v : Visit P) w. VisitsOutside makes tally v link w after × CookieStays v w) old new steps in
    let t = opened_so key history h.opened h.sent old.stage g.visit g.call g.was h.says in
    let v = g.visit in
    let w = g.after in
    with_stage key history heads written items old new h (with_visit key history h.opened h.sent v w g.call new.stage t g.is (outside_keeps makes tally v link w after g.so.0) t.marks
    (subst (λ x. Marks t.marks x) (sym g.so.0.rest) (marked t.marks v w.way (counted (tally after)) link after g.so.0.steps t.marks_are))
    (subst (λ x. Says key history h.sent x) (sym g.so.0.rest) (said key history h.sent v w.way (counted (tally after)) (turned_so old visit.Outside v g.call g.was (ap step_of is)) g.so.1 t.says)))

pub windows : {P : Type 0}
    → ((marks : List WindowMark) (old new : Visit P) (windows after : WindowsValue) → visit_turn old ≡ visit.Windows → VisitsWindows old windows new after → Marks marks old → AddsMarks marks windows after new)
    → ((key : List ℕ) (history : List Event) (out : List ℕ) (marks : List WindowMark) (old new : Visit P) (windows after : WindowsValue) → visit_turn old ≡ visit.Windows → VisitsWindows old windows new after
    → Marks marks old → Says key history out old → Says key history out new)
    → (key : List ℕ) (history : List Event) (heads : List Head) (written : List ℕ) (items : List Item) (old new : Shepherd P) (win after : WindowsValue) → turn old ≡ turns.Windows
    → ShepherdSteps (λ v w. VisitsWindows v win w after) old new → Answering key history heads written items old → Answering key history heads written items new
windows {P} marked said key history heads written items old new win after is steps h =
    let g = went (λ (v : Visit P) w. VisitsWindows v win w after) old new steps in
    let t = opened_so key history h.opened h.sent old.stage g.visit g.call g.was h.says in
    let turned = turned_so old visit.Windows g.visit g.call g.was (ap step_of is) in
    let adds = marked t.marks g.visit g.after win after turned g.so t.marks_are in
    with_stage key history heads written items old new h (with_visit key history h.opened h.sent g.visit g.after g.call new.stage t g.is (windows_keep g.visit win g.after after g.so) _ adds.told
    (said key history h.sent t.marks g.visit g.after win after turned g.so t.marks_are t.says))

pub advance : {P : Type 0}
    → ((marks : List WindowMark) (key : List ℕ) (old new : Visit P) → visit_turn old ≡ visit.Own → Advances key old old.work new → Marks marks old → Marks marks new)
    → ((key : List ℕ) (history : List Event) (out : List ℕ) (old new : Visit P) → Advances key old old.work new → Says key history out old → Says key history out new)
    → (key : List ℕ) (history : List Event) (heads : List Head) (written : List ℕ) (items : List Item) (old new : Shepherd P) → turn old ≡ turns.Own
    → ShepherdSteps (λ v w. Advances key v v.work w) old new → Answering key history heads written items old → Answering key history heads written items new
advance {P} marked said key history heads written items old new is steps h =
    let g = went (λ (v : Visit P) w. Advances key v v.work w) old new steps in
    let t = opened_so key history h.opened h.sent old.stage g.visit g.call g.was h.says in
    with_stage key history heads written items old new h (with_visit key history h.opened h.sent g.visit g.after g.call new.stage t g.is (advance_keeps key g.visit g.after g.so) t.marks
    (marked t.marks key g.visit g.after (turned_so old visit.Own g.visit g.call g.was (ap step_of is)) g.so t.marks_are)
    (said key history h.sent g.visit g.after g.so t.says))

longer_length : (before : List Event) (more : List Event) → length before ≤ length (before ++ more)
longer_length [] more = omega arith
longer_length (e ∷ before) more = let le = longer_length before more in omega (arith, le)

pub inside : {P : Type 0} (asks : P → List Answer → Next) → SaysOn P
    → ((marks : List WindowMark) (old new : Visit P) (container after : ContainerValue) → VisitsInside asks old container new after → Marks marks old → Marks marks new)
    → ((key out : List ℕ) (old new : Visit P) (container after : ContainerValue) → VisitsInside asks old container new after → length (events_of container) ≤ length (events_of after)
    → Says key (events_of container) out old → Says key (events_of after) out new)
    → (key : List ℕ) (heads : List Head) (written : List ℕ) (items : List Item) (old new : Shepherd P) (container after : ContainerValue)
    → ShepherdSteps (λ v w. VisitsInside asks v container w after) old new → HasGrownBy container after
    → Answering key (events_of container) heads written items old → Answering key (events_of after) heads written items new
inside {P} asks grows marked said key heads written items old new container after steps grown h =
    let g = went (λ (v : Visit P) w. VisitsInside asks v container w after) old new steps in
    let t = opened_so key (events_of container) h.opened h.sent old.stage g.visit g.call g.was h.says in
    let longer : events_of after ≡ events_of container ++ grown.more =
    ap (λ x. Started x ∷ after.since) grown.boot.start ∙ ap (λ xs. Started container.boot.start ∷ xs) grown.since in
    let le : length (events_of container) ≤ length (events_of after) = subst (λ es. length (events_of container) ≤ length es) (sym longer) (longer_length (events_of container) grown.more) in
    record {
      answered = h.answered;
      opened = h.opened;
      sent = h.sent;
      heads_are = h.heads_are;
      items_are = h.items_are;
      written_is = h.written_is;
      said = All-weaker (SaidAll key (events_of container)) (SaidAll key (events_of after))
          (λ x a. subst (λ es. SaidAll key es x) (sym longer) (said_longer grows key (events_of container) grown.more x a)) h.answered h.said;
      says = subst (λ x. StageSays key (events_of after) h.opened h.sent x) (sym g.is) (record {
        head = t.head;
        opened_is = t.opened_is;
        for_head = for_same t.head g.visit g.after (inside_keeps asks g.visit container g.after after g.so) t.for_head;
        marks = t.marks;
        marks_are = marked t.marks g.visit g.after container after g.so t.marks_are;
        says = said key h.sent g.visit g.after container after g.so le t.says;
        unsent = λ e. t.unsent ((inside_keeps asks g.visit container g.after after g.so).left e);
      });
    }

pub opens : {P M : Type 0} (makes : M → ActionCall → List ℕ → P → Type 0)
    → ((key : List ℕ) (history : List Event) (out : List ℕ) (v : Visit P) (tries : TriesValue) (program : P) → v.work ≡ Opening → Says key history out v → Says key history out (record v { work = ServingBy tries program }))
    → (key : List ℕ) (history : List Event) (heads : List Head) (written : List ℕ) (items : List Item) (s : Shepherd P) (stage : Stage P) (maker : M) (worker : WorkerNo) → turn s ≡ turns.Program
    → OpensStage makes maker worker s.stage stage → Answering key history heads written items s → Answering key history heads written items (record s { stage = stage })
opens {P} makes said key history heads written items s stage maker worker is does h = by s.stage refl does where
  one : (v : Visit P) (call : Option AskedCall) → s.stage ≡ Serving v call → OpensCall makes maker worker v call stage → StageSays key history h.opened h.sent stage
  one v None was does = absurd does
  one v (Some asked) was does =
      let t = opened_so key history h.opened h.sent s.stage v (Some asked) was h.says in
      let turned = turned_so s visit.Program v (Some asked) was (ap step_of is) in
      let early : v.work ≡ Opening = opening v.work (wants v.way) turned in
      subst (λ x. StageSays key history h.opened h.sent x) (sym (does.2 ∙ ap (λ x. Serving x None) does.1.new_is)) (record {
        head = t.head;
        opened_is = t.opened_is;
        for_head = record { close_is = t.for_head.close_is; head_only_is = t.for_head.head_only_is };
        marks = t.marks;
        marks_are = subst (λ w. MarksOf t.marks v.cookie v.way w) early t.marks_are;
        says = said key history h.sent v (unbegun asked.request worker does.1.text) does.1.program early t.says;
        unsent = λ e. t.unsent (unmade v.work (wants v.way) turned);
      })

  by : (x : Stage P) → s.stage ≡ x → OpensStage makes maker worker x stage → Answering key history heads written items (record s { stage = stage })
  by Resting was does = absurd does
  by (Serving v call) was does = with_stage key history heads written items s (record s { stage = stage }) h (one v call was does)
  by (Refusing why bytes) was does = absurd does
  by (Over end) was does = absurd does

-- what was put out, with more, where nothing was behind the last response to an item
with_bytes : {P : Type 0} (written bytes : List ℕ) (answered : List (Answered P)) (sent : List ℕ) → written ≡ answered_bytes answered ++ sent → sent ≡ [] → written ++ bytes ≡ answered_bytes answered ++ bytes
with_bytes written bytes answered sent is none =
    ap (λ xs. xs ++ bytes) (is ∙ ap (λ xs. answered_bytes answered ++ xs) none ∙ append-nil (answered_bytes answered))

pub out : {P : Type 0}
    → ((marks : List WindowMark) (v : Visit P) → visit_turn v ≡ visit.Output → Marks marks v → Marks marks (after_leaving v))
    → ((key : List ℕ) (history : List Event) (out : List ℕ) (v : Visit P) → visit_turn v ≡ visit.Output → Says key history out v → Says key history (response_in v.work) (after_leaving v))
    → (key : List ℕ) (history : List Event) (heads : List Head) (written bytes : List ℕ) (items : List Item) (s : Shepherd P) (stage : Stage P) → turn s ≡ turns.Output → PutsOut s.stage bytes stage
    → Answering key history heads written items s → Answering key history heads (written ++ bytes) items (record s { stage = stage })
out {P} marked said key history heads written bytes items s stage is puts h = by s.stage h.says (asks_output s is) puts where
  new_out : h.sent ≡ [] → StageSays key history h.opened bytes stage → Answering key history heads (written ++ bytes) items (record s { stage = stage })
  new_out none says = record {
    answered = h.answered;
    opened = h.opened;
    sent = bytes;
    heads_are = h.heads_are;
    items_are = h.items_are;
    written_is = with_bytes written bytes h.answered h.sent h.written_is none;
    said = h.said;
    says = says;
  }

  by : (x : Stage P) → StageSays key history h.opened h.sent x → MayPutOut x → PutsOut x bytes stage → Answering key history heads (written ++ bytes) items (record s { stage = stage })
  by Resting t may puts = absurd may
  by (Serving v call) t may puts = new_out (t.unsent (unsent v.work (wants v.way) may)) (subst (λ x. StageSays key history h.opened bytes x) (sym puts.1) (record {
    head = t.head;
    opened_is = t.opened_is;
    for_head = record { close_is = t.for_head.close_is; head_only_is = t.for_head.head_only_is };
    marks = t.marks;
    marks_are = marked t.marks v may t.marks_are;
    says = subst (λ bs. Says key history bs (after_leaving v)) (sym puts.0) (said key history h.sent v may t.says);
    unsent = λ e. absurd (let left = then_left v.work (wants v.way) may in cc);
  }))
  by (Refusing why last) t may puts = new_out t.1 (subst (λ x. StageSays key history h.opened bytes x) (sym puts.1) (t.0, puts.0 ∙ t.2))
  by (Over end) t may puts = absurd may

nothing_said : {P : Type 0} (program-like : Visit P) (key : List ℕ) (history : List Event) (b : Bool) → StageSays {P = P} key history [] [] (rested b)
nothing_said program-like key history true = (refl, refl)
nothing_said program-like key history false = (refl, refl)

pub item : {P : Type 0} (key : List ℕ) (history : List Event) (heads : List Head) (written : List ℕ) (items : List Item) (i : Item) (s : Shepherd P) (stage : Stage P) → has_item s.stage ≡ true
    → TakesItem s.stage i stage → Answering key history heads written items s → Answering key history heads written (items ++ i ∷ []) (record s { front = i.holds.front; stage = stage })
item {P} key history heads written items i s stage is takes h = by s.stage refl takes where
  by : (x : Stage P) → s.stage ≡ x → TakesItem x i stage → Answering key history heads written (items ++ i ∷ []) (record s { front = i.holds.front; stage = stage })
  by Resting was takes = absurd takes
  by (Serving v call) was takes =
      let t = opened_so key history h.opened h.sent s.stage v call was h.says in
      let one : Answered P = record { head = t.head; visit = v; item = i; marks = t.marks; sent = h.sent } in
      record {
        answered = h.answered ++ one ∷ [];
        opened = [];
        sent = [];
        heads_are = h.heads_are ∙ ap (λ xs. answered_heads h.answered ++ xs) t.opened_is ∙ sym (map-append (λ (x : Answered P). x.head) h.answered (one ∷ [])) ∙ sym (append-nil (answered_heads (h.answered ++ one ∷ [])));
        items_are = ap (λ xs. xs ++ i ∷ []) h.items_are ∙ sym (map-append (λ (x : Answered P). x.item) h.answered (one ∷ []));
        written_is = h.written_is ∙ ap (λ xs. answered_bytes h.answered ++ xs) (sym (append-nil h.sent)) ∙ sym (flat_map-append (λ (x : Answered P). x.sent) h.answered (one ∷ [])) ∙ sym (append-nil (answered_bytes (h.answered ++ one ∷ [])));
        said = All-push (SaidAll key history) h.answered one h.said (record {
          over = over_now (visit_turn v) (sym (ap has_item was) ∙ is);
          is_item = takes.0;
          for_head = t.for_head;
          marks_are = t.marks_are;
          says = t.says;
        });
        says = subst (λ x. StageSays key history [] [] x) (sym takes.1) (nothing_said v key history v.facts.close);
      }
  by (Refusing why bytes) was takes = absurd takes
  by (Over end) was takes = absurd takes

dropped_says : {P : Type 0} (key : List ℕ) (es : List Rattle.journal_model.specs.declared.entry.Entry.Entry) (facts : VisitFacts) (cookie : Option Cookie) (w : SessionWay) (out : List ℕ) (x : Work P)
    → SaysOf key es facts cookie w out x → SaysOf key es facts cookie w out (dropped x)
dropped_says key es facts cookie w out Reading h = h
dropped_says key es facts cookie w out Opening h = h
dropped_says key es facts cookie w out (ServingBy tries program) h = h
dropped_says key es facts cookie w out (Committed place again shown) h = h
dropped_says key es facts cookie w out (Decided became) h = h
dropped_says key es facts cookie w out (AnsweredBy fate bytes) h = h
dropped_says key es facts cookie w out (Left fate) h = h

same_left : {P : Type 0} (x : Work P) → has_left (dropped x) ≡ has_left x
same_left Reading = refl
same_left Opening = refl
same_left (ServingBy tries program) = refl
same_left (Committed place again shown) = refl
same_left (Decided became) = refl
same_left (AnsweredBy fate bytes) = refl
same_left (Left fate) = refl

pub given_up : {P : Type 0} (key : List ℕ) (history : List Event) (heads : List Head) (written : List ℕ) (items : List Item) (s : Shepherd P)
    → Answering key history heads written items s → Answering key history heads written items (record s { stage = dropped_stage s.stage })
given_up {P} key history heads written items s h = with_stage key history heads written items s (record s { stage = dropped_stage s.stage }) h (by s.stage h.says) where
  by : (x : Stage P) → StageSays key history h.opened h.sent x → StageSays key history h.opened h.sent (dropped_stage x)
  by Resting t = t
  by (Serving v call) t = record {
    head = t.head;
    opened_is = t.opened_is;
    for_head = record { close_is = t.for_head.close_is; head_only_is = t.for_head.head_only_is };
    marks = t.marks;
    marks_are = dropped_marks t.marks v.cookie v.way v.work t.marks_are;
    says = record { within = t.says.within; says = dropped_says key (entries_in (take v.holds.held history)) v.facts v.cookie v.way h.sent v.work t.says.says };
    unsent = λ e. t.unsent (sym (same_left v.work) ∙ e);
  }
  by (Refusing why bytes) t = t
  by (Over end) t = t

-- passes are given back behind a response
pub given_back : {P : Type 0}
    → ((marks : List WindowMark) (old new : Visit P) (fate : Fate) → IsGivenBack old new → old.work ≡ Left fate
    → ((place : Place) (again : Bool) → fate ≡ Writing place again → answer_held old.way ≢ None) → Marks marks old → Marks (marks ++ map uncounted (marks_by old.way way.Resting)) new)
    → ((key : List ℕ) (history : List Event) (out : List ℕ) (marks : List WindowMark) (old new : Visit P) (fate : Fate) → IsGivenBack old new → old.work ≡ Left fate
    → ((place : Place) (again : Bool) → fate ≡ Writing place again → answer_held old.way ≢ None) → Marks marks old → Says key history out old → Says key history out new)
    → (key : List ℕ) (history : List Event) (heads : List Head) (written : List ℕ) (items : List Item) (s : Shepherd P) (stage : Stage P) (win after : WindowsValue) → GivesBack s.stage win stage after
    → HasLeftIfOpen s.stage → HasAnswerIfOpen s.stage → Answering key history heads written items s → Answering key history heads written items (record s { stage = stage })
given_back {P} marked said key history heads written items s stage win after back left has h =
    with_stage key history heads written items s (record s { stage = stage }) h (by s.stage h.says back left has) where
      by : (x : Stage P) → StageSays key history h.opened h.sent x → GivesBack x win stage after → HasLeftIfOpen x → HasAnswerIfOpen x → StageSays key history h.opened h.sent stage
      by Resting t back left has = subst (λ x. StageSays key history h.opened h.sent x) (sym back.0) t
      by (Serving v call) t back left has =
          let fate = fate_of v.work left in
          let answered : (place : Place) (again : Bool) → fate.0 ≡ Writing place again → answer_held v.way ≢ None = λ place again is. has place again (fate.1 ∙ ap (λ (f : Fate). Left f) is) in
          with_visit key history h.opened h.sent v back.0 call stage t back.2 (back_keeps v back.0 back.1.back) (t.marks ++ map uncounted (marks_by v.way way.Resting))
          (marked t.marks v back.0 fate.0 back.1.back fate.1 answered t.marks_are)
          (said key history h.sent t.marks v back.0 fate.0 back.1.back fate.1 answered t.marks_are t.says)
      by (Refusing why bytes) t back left has = subst (λ x. StageSays key history h.opened h.sent x) (sym back.0) t
      by (Over end) t back left has = subst (λ x. StageSays key history h.opened h.sent x) (sym back.0) t

-- what a law tells of an item
abbrev pub ItemResponds : Type 0 → Type 0
ItemResponds P = (key : List ℕ) (history : List Event) (out : List ℕ) (marks : List WindowMark) (v : Visit P) (i : Item) (head : Head) → visit_turn v ≡ visit.Over → IsItemOf v v.work i → Marks marks v
    → v.facts.close ≡ head.close → v.facts.head_only ≡ is_head_only head.method → Says key history out v → IsResponse key (entries_in (take i.holds.held history)) i head out

response_of : {P : Type 0} → Answered P → Response
response_of a = record { head = a.head; item = a.item; bytes = a.sent }

abbrev responses : {P : Type 0} → List (Answered P) → List Response
responses {P} answered = map (λ (a : Answered P). record { head = a.head; item = a.item; bytes = a.sent }) answered

all_respond : {P : Type 0} → ItemResponds P → (key : List ℕ) (history : List Event) (answered : List (Answered P)) → All (SaidAll key history) answered → All (Responds key history) (responses answered)
all_respond responds key history [] h = All-nil (Responds key history)
all_respond {P} responds key history (a ∷ answered) h =
    let first : SaidAll key history a = All-head (SaidAll key history) a answered h in
    All-cons (Responds key history) (record { head = a.head; item = a.item; bytes = a.sent }) (responses answered)
    (responds key history a.sent a.marks a.visit a.item a.head first.over first.is_item first.marks_are first.for_head.close_is first.for_head.head_only_is first.says)
    (all_respond responds key history answered (All-tail (SaidAll key history) a answered h))

same_heads : {P : Type 0} (answered : List (Answered P)) → answered_heads answered ≡ map (λ (r : Response). r.head) (responses answered)
same_heads [] = refl
same_heads (a ∷ answered) = ap (λ xs. a.head ∷ xs) (same_heads answered)

same_items : {P : Type 0} (answered : List (Answered P)) → answered_items answered ≡ map (λ (r : Response). r.item) (responses answered)
same_items [] = refl
same_items (a ∷ answered) = ap (λ xs. a.item ∷ xs) (same_items answered)

same_bytes : {P : Type 0} (answered : List (Answered P)) → answered_bytes answered ≡ flat_map (λ (r : Response). r.bytes) (responses answered)
same_bytes [] = refl
same_bytes (a ∷ answered) = ap (λ xs. a.sent ++ xs) (same_bytes answered)

pub respond : {P : Type 0} → ItemResponds P → (key : List ℕ) (history : List Event) (heads : List Head) (written : List ℕ) (items : List Item) (s : Shepherd P) → Answering key history heads written items s
    → (opened : List Head) × (last : List ℕ) × AreResponses key history heads written items opened last × StageSays key history opened last s.stage
respond responds key history heads written items s h = (
  h.opened,
  h.sent,
  record {
    responses = responses h.answered;
    heads_are = h.heads_are ∙ ap (λ xs. xs ++ h.opened) (same_heads h.answered);
    items_are = h.items_are ∙ same_items h.answered;
    written_is = h.written_is ∙ ap (λ xs. xs ++ h.sent) (same_bytes h.answered);
    respond = all_respond responds key history h.answered h.said;
  },
  h.says,
)
