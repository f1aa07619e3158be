-- A connection goes on with each of its steps.
use Rattle.std.specs.Prelude.{IfSome}
use Rattle.std.proofs.Common.{◌≡◌, ◌≢◌, ℕ, ◌≤◌, ◌<◌, ◌^◌, Bool, true, false, if◌then◌else◌, List, ◌∷◌, ◌++◌, length, refl, sym, ap, ◌∙◌, subst, Option, Some, None, arith, length-append}
use Rattle.auction_calls.specs.declared.action.ActionCall.{ActionCall}
use Rattle.boot_core.specs.Boot.{BootValue, HasGrown}
use Rattle.call_ticket.specs.declared.next.Answer.{Answer}
use Rattle.call_ticket.specs.declared.next.Next.{Next}
use Rattle.container_core.specs.Container.{ContainerValue, HasGrownBy, events_of}
use Rattle.container_core.specs.declared.history.Event.{Event}
use Rattle.container_core.specs.declared.history.Event.TheVariants.{Started}
use Rattle.crash_base.specs.declared.numbers.Place.{Place}
use Rattle.crash_base.specs.declared.numbers.WorkerNo.{WorkerNo}
use Rattle.crash_base.specs.declared.numbers.Moment.{Moment}
use Rattle.crash_base.specs.declared.numbers.Version.{Version}
use Rattle.deployment.specs.declared.parts.Parts.{Parts}
use Rattle.http_wire.specs.Taking.{taken_of}
use Rattle.http_wire.specs.declared.taken.Head.{Head}
use Rattle.http_wire.specs.declared.taken.Taken.{Taken}
use Rattle.http_wire.specs.declared.taken.Taken.TheVariants as took
use Rattle.journal_model.specs.declared.entry.Entry.{Entry}
use Rattle.outcome_items.specs.declared.item.Item.{Item}
use Rattle.outcome_items.specs.declared.outcome.ItemOutcome.TheVariants as item_is
use Rattle.outside.specs.Link.{Tally}
use Rattle.outside.specs.declared.link.LinkCounts.{LinkCounts}
use Rattle.outside.specs.declared.link.LinkEvent.{LinkEvent}
use Rattle.request_decisions.specs.declared.decision.Refusal.{Refusal}
use Rattle.request_decisions.specs.declared.decision.Refusal.TheVariants as refusal
use Rattle.request_intake.specs.Intakes.{Gives, Looks}
use Rattle.request_intake.specs.declared.intake.Admission.{Admission}
use Rattle.request_intake.specs.declared.intake.Arrival.{Arrival}
use Rattle.request_intake.specs.declared.intake.Arrival.TheVariants.{Refused, SerialsSpent, Admitted}
use Rattle.request_intake.specs.declared.intake.HomeBoot.{HomeBoot}
use Rattle.request_tries.specs.Serving.{IsServing, TriesValue, unbegun}
use Rattle.request_visit.specs.Advancing.{Advances, after_leaving, cookie_in, departed}
use Rattle.request_visit.specs.Going.{MayGoOn}
use Rattle.request_visit.specs.Sessions.{SessionStands}
use Rattle.request_visit.specs.Stepping.{IsGivenBack, OnServing, VisitsInside, VisitsWindows, counted, dropped}
use Rattle.request_visit.specs.Visits.{begun, turn as visit_turn}
use Rattle.request_visit.specs.declared.facts.VisitFacts.{VisitFacts}
use Rattle.request_visit.specs.declared.visit.Fate.{Fate}
use Rattle.request_visit.specs.declared.visit.Fate.TheVariants.{Writing}
use Rattle.request_visit.specs.declared.visit.Turn.{Turn}
use Rattle.request_visit.specs.declared.visit.Turn.TheVariants as visit
use Rattle.request_visit.specs.declared.visit.Visit.{Visit}
use Rattle.request_visit.specs.declared.visit.Work.{Work}
use Rattle.request_visit.specs.declared.visit.Work.TheVariants.{Reading, Opening, Serving as ServingBy, Committed, Decided, Answered, Left}
use Rattle.send_windows.specs.Windows.{WindowsValue}
use Rattle.session_cookie.specs.Cookie.{AreHolders}
use Rattle.session_cookie.specs.declared.cookie.Cookie.{Cookie}
use Rattle.session_cookie.specs.declared.cookie.TheConstants.{MAX_HOLDERS}
use Rattle.session_way.specs.Way.{StepsOutside, answer_held, wants}
use Rattle.session_way.specs.declared.way.SessionWay.{SessionWay}
use Rattle.session_way.specs.declared.way.SessionWay.TheVariants as way
use Rattle.site_responses.specs.declared.answer.Untaken.{Untaken}
use Rattle.site_responses.specs.declared.answer.Untaken.TheVariants as untaken
use Rattle.ssm_stub.specs.Reads.{ReadState, read_start}
use Rattle.shepherd.specs.Going.{GoesOn, IsGoing, OpenGoesOn}
use Rattle.shepherd.specs.Shepherds.{stage_turn, turn}
use Rattle.shepherd.specs.Standing.{is_early}
use Rattle.shepherd.specs.Steps.{GivesBack, HasAnswerIfOpen, HasLeftIfOpen, IfOpen, MayPutOut, OnVisit, OpensCall, OpensStage, PutsOut, Refuses, ShepherdSteps, StepsVisit, TakesBy, TakesItem, TakesRequest, VisitsOutside, admitted_visit, bare_facts, begun_by, dropped_stage, facts_of, rested}
use Rattle.shepherd.specs.declared.shepherd.AskedCall.{AskedCall}
use Rattle.shepherd.specs.declared.shepherd.EndKind.TheVariants as ends
use Rattle.shepherd.specs.declared.shepherd.Shepherd.{Shepherd}
use Rattle.shepherd.specs.declared.shepherd.ShepherdTurn.TheVariants as turns
use Rattle.shepherd.specs.declared.shepherd.Stage.{Stage}
use Rattle.shepherd.specs.declared.shepherd.Stage.TheVariants.{Resting, Serving, Refusing, Over}
use Rattle.shepherd.proofs.Counting.{item_holds, opening, turned_so, went}
use Rattle.shepherd.proofs.Keeping.{Keeps, advance_keeps, back_keeps, dropping_keeps, inside_keeps, outside_keeps, windows_keep}
use Rattle.shepherd.proofs.Turning.{asks_output, asks_visit, early, fate_of, step_of}

-- a connection whose request has a step has not ended for want of memory
pub has_memory : {P : Type 0} (s : Shepherd P) (wanted : Turn) → step_of (turn s) ≡ Some wanted → s.wants_memory ≡ false
has_memory s wanted is = by s.wants_memory is where
  by : (m : Bool) → step_of (if m then turns.Ended ends.OutOfMemory else stage_turn s.stage s.received s.ended) ≡ Some wanted → m ≡ false
  by true e = absurd (cc)
  by false e = refl

-- what follows of the request that is open
pub if_open : {P : Type 0} (stage : Stage P) (So Then : Visit P → Option AskedCall → Type 0) → ((v : Visit P) (call : Option AskedCall) → So v call → Then v call) → IfOpen stage So → IfOpen stage Then
if_open Resting So Then follows o = tt
if_open (Serving v call) So Then follows o = follows v call o
if_open (Refusing why bytes) So Then follows o = tt
if_open (Over end) So Then follows o = tt

-- the same, where one is open
pub on_open : {P : Type 0} (stage : Stage P) (Here So Then : Visit P → Option AskedCall → Type 0) → ((v : Visit P) (call : Option AskedCall) → Here v call → So v call → Then v call) → OnVisit stage Here → IfOpen stage So → OnVisit stage Then
on_open Resting Here So Then follows here o = absurd here
on_open (Serving v call) Here So Then follows here o = follows v call here o
on_open (Refusing why bytes) Here So Then follows here o = absurd here
on_open (Over end) Here So Then follows here o = absurd here

module _ {P L : Type 0} (accepts : P → Parts → Type 0) (asks : P → List Answer → Next) (makes : L → LinkEvent → L → Type 0) where
  pub begins : (container : ContainerValue) (s : Shepherd P) → s.stage ≡ Resting → s.front ≡ record { 0 = 0 } → GoesOn accepts asks makes container s
  begins container s rest first memory = record {
    front = subst (λ (f : Place). f.0 ≤ length container.boot.entries) (sym first) (omega arith);
    opened = subst (λ x. IfOpen x (OpenGoesOn accepts asks makes container)) (sym rest) tt;
  }

  -- a request that made a step that keeps it goes on
  kept : (container after : ContainerValue) (v w : Visit P) (call : Option AskedCall) → Keeps v w → (o : OpenGoesOn accepts asks makes container v call)
      → MayGoOn accepts asks after.boot w → SessionStands makes o.begin (events_of after) w → OpenGoesOn accepts asks makes after w call
  kept container after v w call keeps o goes stands = record {
    goes_on = goes;
    begin = o.begin;
    session = stands;
    asked = λ e. o.asked (keeps.early e);
  }

  -- A connection whose request goes on after its step goes on.
  stepped : (So : Visit P → Visit P → Type 0) (container after : ContainerValue) (old new : Shepherd P) → length container.boot.entries ≤ length after.boot.entries
      → ((v w : Visit P) (call : Option AskedCall) → old.stage ≡ Serving v call → So v w → OpenGoesOn accepts asks makes container v call → OpenGoesOn accepts asks makes after w call)
      → ShepherdSteps So old new → GoesOn accepts asks makes container old → GoesOn accepts asks makes after new
  stepped So container after old new longer steps_on steps goes memory =
      let g = went So old new steps in
      let was : IsGoing accepts asks makes container old = goes (sym (ap (λ (x : Shepherd P). x.wants_memory) steps.rest) ∙ memory) in
      record {
        front = subst (λ (f : Place). f.0 ≤ length after.boot.entries) (sym (ap (λ (x : Shepherd P). x.front) steps.rest)) (omega (arith, was.front, longer));
        opened = subst (λ x. IfOpen x (OpenGoesOn accepts asks makes after)) (sym g.is)
            (steps_on g.visit g.after g.call g.was g.so (subst (λ x. IfOpen x (OpenGoesOn accepts asks makes container)) g.was was.opened));
      }

  -- A connection that comes to another stage goes on, where it does so there.
  staged : (container : ContainerValue) (s : Shepherd P) (stage : Stage P) → (IfOpen s.stage (OpenGoesOn accepts asks makes container) → IfOpen stage (OpenGoesOn accepts asks makes container))
      → GoesOn accepts asks makes container s → GoesOn accepts asks makes container (record s { stage = stage })
  staged container s stage so goes memory = let was = goes memory in record { front = was.front; opened = so was.opened }

  pub still : (container : ContainerValue) (s new : Shepherd P) → new.stage ≡ s.stage → new.front ≡ s.front → new.wants_memory ≡ s.wants_memory
      → GoesOn accepts asks makes container s → GoesOn accepts asks makes container new
  still container s new stage front same goes memory =
      let was = goes (sym same ∙ memory) in
      record {
        front = subst (λ (f : Place). f.0 ≤ length container.boot.entries) (sym front) was.front;
        opened = subst (λ x. IfOpen x (OpenGoesOn accepts asks makes container)) (sym stage) was.opened;
      }

  -- a journal that has grown is no shorter
  no_shorter : (container after : ContainerValue) → HasGrownBy container after → length container.boot.entries ≤ length after.boot.entries
  no_shorter container after grown =
      let more : length after.boot.entries ≡ length (container.boot.entries ++ grown.boot.more) = ap (λ (es : List Entry). length es) grown.boot.entries in
      omega (arith, more, length-append container.boot.entries grown.boot.more)

  -- and its events are those before, and more
  events_longer : (container after : ContainerValue) (grown : HasGrownBy container after) → events_of after ≡ events_of container ++ grown.more
  events_longer container after grown = ap (λ x. Started x ∷ after.since) grown.boot.start ∙ ap (λ xs. Started container.boot.start ∷ xs) grown.since

  no_fewer : (container after : ContainerValue) → HasGrownBy container after → length (events_of container) ≤ length (events_of after)
  no_fewer container after grown =
      let more : length (events_of after) ≡ length (events_of container ++ grown.more) = ap (λ (es : List Event). length es) (events_longer container after grown) in
      omega (arith, more, length-append (events_of container) grown.more)

  pub meanwhile : ((old new : BootValue) (v : Visit P) → HasGrown old new → MayGoOn accepts asks old v → MayGoOn accepts asks new v)
      → ((begin : Option ReadState) (history more : List Event) (v : Visit P) → SessionStands makes begin history v → SessionStands makes begin (history ++ more) v)
      → (container after : ContainerValue) (s : Shepherd P) → HasGrownBy container after → GoesOn accepts asks makes container s → GoesOn accepts asks makes after s
  meanwhile goes_later stands_later container after s grown goes memory =
      let was = goes memory in
      let longer = no_shorter container after grown in
      record {
        front = omega (arith, was.front, longer);
        opened = if_open s.stage (OpenGoesOn accepts asks makes container) (OpenGoesOn accepts asks makes after) (λ v call o. record {
          goes_on = goes_later container.boot after.boot v grown.boot o.goes_on;
          begin = o.begin;
          session = subst (λ es. SessionStands makes o.begin es v) (sym (events_longer container after grown)) (stands_later o.begin (events_of container) grown.more v o.session);
          asked = o.asked;
        }) was.opened;
      }

  pub outside : (tally : L → Tally)
      → ((boot : BootValue) (v : Visit P) (way : SessionWay) (counts : LinkCounts) → MayGoOn accepts asks boot v → MayGoOn accepts asks boot (record v { way = way; counts = counts }))
      → ((begin : Option ReadState) (history : List Event) (v : Visit P) (way : SessionWay) (counts : LinkCounts) (link after : L) → visit_turn v ≡ visit.Outside → StepsOutside makes v.way link way after
      → SessionStands makes begin history v → SessionStands makes begin history (record v { way = way; counts = counts }))
      → (container : ContainerValue) (old new : Shepherd P) (link after : L) → turn old ≡ turns.Outside → ShepherdSteps (λ v w. VisitsOutside makes tally v link w after) old new
      → GoesOn accepts asks makes container old → GoesOn accepts asks makes container new
  outside tally goes_so stands_so container old new link after is =
      stepped (λ v w. VisitsOutside makes tally v link w after) container container old new (omega arith)
      (λ v w call was so o. kept container container v w call (outside_keeps makes tally v link w after so) o
      (subst (λ (x : Visit P). MayGoOn accepts asks container.boot x) (sym so.rest) (goes_so container.boot v w.way (counted (tally after)) o.goes_on))
      (subst (λ (x : Visit P). SessionStands makes o.begin (events_of container) x) (sym so.rest)
      (stands_so o.begin (events_of container) v w.way (counted (tally after)) link after (turned_so old visit.Outside v call was (ap step_of is)) so.steps o.session)))

  pub windows : ((boot : BootValue) (old new : Visit P) (windows after : WindowsValue) → VisitsWindows old windows new after → MayGoOn accepts asks boot old → MayGoOn accepts asks boot new)
      → ((begin : Option ReadState) (history : List Event) (old new : Visit P) (windows after : WindowsValue) → 1 ≤ windows.wq → windows.wq ≤ MAX_HOLDERS → VisitsWindows old windows new after
      → SessionStands makes begin history old → SessionStands makes begin history new)
      → (container : ContainerValue) (old new : Shepherd P) (win after : WindowsValue) → 1 ≤ win.wq → win.wq ≤ MAX_HOLDERS → ShepherdSteps (λ v w. VisitsWindows v win w after) old new
      → GoesOn accepts asks makes container old → GoesOn accepts asks makes container new
  windows goes_so stands_so container old new win after some few =
      stepped (λ v w. VisitsWindows v win w after) container container old new (omega arith)
      (λ v w call was so o. kept container container v w call (windows_keep v win w after so) o
      (goes_so container.boot v w win after so o.goes_on) (stands_so o.begin (events_of container) v w win after some few so o.session))

  pub inside : ((old new : Visit P) (container after : ContainerValue) → VisitsInside asks old container new after → HasGrownBy container after
      → MayGoOn accepts asks container.boot old → MayGoOn accepts asks after.boot new)
      → ((begin : Option ReadState) (old new : Visit P) (container after : ContainerValue) → VisitsInside asks old container new after → length (events_of container) ≤ length (events_of after)
      → SessionStands makes begin (events_of container) old → SessionStands makes begin (events_of after) new)
      → (old new : Shepherd P) (container after : ContainerValue) → ShepherdSteps (λ v w. VisitsInside asks v container w after) old new → HasGrownBy container after
      → GoesOn accepts asks makes container old → GoesOn accepts asks makes after new
  inside goes_so stands_so old new container after steps grown =
      stepped (λ v w. VisitsInside asks v container w after) container after old new (no_shorter container after grown)
      (λ v w call was so o. kept container after v w call (inside_keeps asks v container w after so) o
      (goes_so v w container after so grown o.goes_on) (stands_so o.begin v w container after so (no_fewer container after grown) o.session))
      steps

  pub advance : ((boot : BootValue) (key : List ℕ) (old new : Visit P) → Advances key old old.work new → MayGoOn accepts asks boot old → MayGoOn accepts asks boot new)
      → ((begin : Option ReadState) (key : List ℕ) (history : List Event) (old new : Visit P) → visit_turn old ≡ visit.Own → Advances key old old.work new
      → SessionStands makes begin history old → SessionStands makes begin history new)
      → (container : ContainerValue) (key : List ℕ) (old new : Shepherd P) → turn old ≡ turns.Own → ShepherdSteps (λ v w. Advances key v v.work w) old new
      → GoesOn accepts asks makes container old → GoesOn accepts asks makes container new
  advance goes_so stands_so container key old new is =
      stepped (λ v w. Advances key v v.work w) container container old new (omega arith)
      (λ v w call was so o. kept container container v w call (advance_keeps key v w so) o
      (goes_so container.boot key v w so o.goes_on) (stands_so o.begin key (events_of container) v w (turned_so old visit.Own v call was (ap step_of is)) so o.session))

  pub opens : {M : Type 0} (makes_of : M → ActionCall → List ℕ → P → Type 0)
      → ((boot : BootValue) (v : Visit P) (request : Rattle.crash_base.specs.declared.numbers.RequestNo.RequestNo) (worker : WorkerNo) (text : List ℕ) (program : P) → v.work ≡ Opening → accepts program boot.start.deployment
      → MayGoOn accepts asks boot v → MayGoOn accepts asks boot (record v { work = ServingBy (unbegun request worker text) program }))
      → ((begin : Option ReadState) (history : List Event) (v : Visit P) (tries : TriesValue) (program : P) → v.work ≡ Opening → SessionStands makes begin history v
      → SessionStands makes begin history (record v { work = ServingBy tries program }))
      → (container : ContainerValue) (s : Shepherd P) (stage : Stage P) (maker : M) (worker : WorkerNo) → turn s ≡ turns.Program
      → ((call : ActionCall) (text : List ℕ) (program : P) → makes_of maker call text program → accepts program container.boot.start.deployment)
      → OpensStage makes_of maker worker s.stage stage → GoesOn accepts asks makes container s → GoesOn accepts asks makes container (record s { stage = stage })
  opens makes_of goes_so stands_so container s stage maker worker is accepted does =
      staged container s stage (by s.stage (asks_visit s visit.Program (ap step_of is)) does) where
        one : (v : Visit P) (call : Option AskedCall) → visit_turn v ≡ visit.Program → OpensCall makes_of maker worker v call stage → OpenGoesOn accepts asks makes container v call
            → IfOpen stage (OpenGoesOn accepts asks makes container)
        one v None turned does o = absurd does
        one v (Some asked) turned does o =
            let at : v.work ≡ Opening = opening v.work (wants v.way) turned in
            subst (λ x. IfOpen x (OpenGoesOn accepts asks makes container)) (sym (does.2 ∙ ap (λ x. Serving x None) does.1.new_is)) (record {
              goes_on = goes_so container.boot v asked.request worker does.1.text does.1.program at (accepted _ does.1.text does.1.program does.1.made) o.goes_on;
              begin = o.begin;
              session = stands_so o.begin (events_of container) v (unbegun asked.request worker does.1.text) does.1.program at o.session;
              asked = λ e. absurd (cc);
            })

        by : (x : Stage P) → OnVisit x (λ v call. visit_turn v ≡ visit.Program) → OpensStage makes_of maker worker x stage → IfOpen x (OpenGoesOn accepts asks makes container)
            → IfOpen stage (OpenGoesOn accepts asks makes container)
        by Resting turned does o = absurd does
        by (Serving v call) turned does o = one v call turned does o
        by (Refusing why bytes) turned does o = absurd does
        by (Over end) turned does o = absurd does

  -- a request whose response has left is no earlier
  departed_early : (w : Work P) → is_early (departed w) ≡ true → is_early w ≡ true
  departed_early Reading e = e
  departed_early Opening e = e
  departed_early (ServingBy tries program) e = e
  departed_early (Committed place again shown) e = e
  departed_early (Decided became) e = e
  departed_early (Answered fate bytes) e = absurd (cc)
  departed_early (Left fate) e = e

  pub out : ((boot : BootValue) (v : Visit P) → MayGoOn accepts asks boot v → MayGoOn accepts asks boot (after_leaving v))
      → ((begin : Option ReadState) (history : List Event) (v : Visit P) → visit_turn v ≡ visit.Output → SessionStands makes begin history v → SessionStands makes begin history (after_leaving v))
      → (container : ContainerValue) (bytes : List ℕ) (s : Shepherd P) (stage : Stage P) → turn s ≡ turns.Output → PutsOut s.stage bytes stage
      → GoesOn accepts asks makes container s → GoesOn accepts asks makes container (record s { stage = stage })
  out goes_so stands_so container bytes s stage is puts = staged container s stage (by s.stage (asks_output s is) puts) where
    by : (x : Stage P) → MayPutOut x → PutsOut x bytes stage → IfOpen x (OpenGoesOn accepts asks makes container) → IfOpen stage (OpenGoesOn accepts asks makes container)
    by Resting may puts o = absurd may
    by (Serving v call) may puts o = subst (λ x. IfOpen x (OpenGoesOn accepts asks makes container)) (sym puts.1) (record {
      goes_on = goes_so container.boot v o.goes_on;
      begin = o.begin;
      session = stands_so o.begin (events_of container) v may o.session;
      asked = λ e. o.asked (departed_early v.work e);
    })
    by (Refusing why last) may puts o = subst (λ x. IfOpen x (OpenGoesOn accepts asks makes container)) (sym puts.1) tt
    by (Over end) may puts o = absurd may

  nothing_open : (container : ContainerValue) (b : Bool) → IfOpen (rested b) (OpenGoesOn accepts asks makes container)
  nothing_open container true = tt
  nothing_open container false = tt

  pub item : (container : ContainerValue) (i : Item) (s : Shepherd P) (stage : Stage P) → TakesItem s.stage i stage
      → GoesOn accepts asks makes container s → GoesOn accepts asks makes container (record s { front = i.holds.front; stage = stage })
  item container i s stage takes goes memory = by s.stage takes (goes memory).opened where
    by : (x : Stage P) → TakesItem x i stage → IfOpen x (OpenGoesOn accepts asks makes container) → IsGoing accepts asks makes container (record s { front = i.holds.front; stage = stage })
    by Resting takes o = absurd takes
    by (Serving v call) takes o = record {
      front = subst (λ (h : Rattle.outcome_items.specs.declared.item.Holds.Holds). h.front.0 ≤ length container.boot.entries) (sym (item_holds v v.work i takes.0)) o.goes_on.within;
      opened = subst (λ x. IfOpen x (OpenGoesOn accepts asks makes container)) (sym takes.1) (nothing_open container v.facts.close);
    }
    by (Refusing why bytes) takes o = absurd takes
    by (Over end) takes o = absurd takes

  pub given_up : ((boot : BootValue) (v : Visit P) → MayGoOn accepts asks boot v → MayGoOn accepts asks boot (record v { work = dropped v.work }))
      → ((begin : Option ReadState) (history : List Event) (v : Visit P) → SessionStands makes begin history v → SessionStands makes begin history (record v { work = dropped v.work }))
      → (container : ContainerValue) (s : Shepherd P) → GoesOn accepts asks makes container s → GoesOn accepts asks makes container (record s { stage = dropped_stage s.stage })
  given_up goes_so stands_so container s = staged container s (dropped_stage s.stage) (by s.stage) where
    by : (x : Stage P) → IfOpen x (OpenGoesOn accepts asks makes container) → IfOpen (dropped_stage x) (OpenGoesOn accepts asks makes container)
    by Resting o = tt
    by (Serving v call) o = record {
      goes_on = goes_so container.boot v o.goes_on;
      begin = o.begin;
      session = stands_so o.begin (events_of container) v o.session;
      asked = λ e. o.asked ((dropping_keeps v).early e);
    }
    by (Refusing why bytes) o = tt
    by (Over end) o = tt

  pub given_back : ((boot : BootValue) (old new : Visit P) → IsGivenBack old new → MayGoOn accepts asks boot old → MayGoOn accepts asks boot new)
      → ((begin : Option ReadState) (history : List Event) (old new : Visit P) (fate : Fate) → IsGivenBack old new → old.work ≡ Left fate → SessionStands makes begin history old → SessionStands makes begin history new)
      → (container : ContainerValue) (s : Shepherd P) (stage : Stage P) (win after : WindowsValue) → GivesBack s.stage win stage after → HasLeftIfOpen s.stage
      → GoesOn accepts asks makes container s → GoesOn accepts asks makes container (record s { stage = stage })
  given_back goes_so stands_so container s stage win after back left = staged container s stage (by s.stage back left) where
    by : (x : Stage P) → GivesBack x win stage after → HasLeftIfOpen x → IfOpen x (OpenGoesOn accepts asks makes container) → IfOpen stage (OpenGoesOn accepts asks makes container)
    by Resting back left o = subst (λ x. IfOpen x (OpenGoesOn accepts asks makes container)) (sym back.0) tt
    by (Serving v call) back left o =
        let fate = fate_of v.work left in
        subst (λ x. IfOpen x (OpenGoesOn accepts asks makes container)) (sym back.2)
        (kept container container v back.0 call (back_keeps v back.0 back.1.back) o
        (goes_so container.boot v back.0 back.1.back o.goes_on) (stands_so o.begin (events_of container) v back.0 fate.0 back.1.back fate.1 o.session))
    by (Refusing why bytes) back left o = subst (λ x. IfOpen x (OpenGoesOn accepts asks makes container)) (sym back.0) tt
    by (Over end) back left o = subst (λ x. IfOpen x (OpenGoesOn accepts asks makes container)) (sym back.0) tt

  pub inside_turn : ((boot : BootValue) (v : Visit P) → visit_turn v ≡ visit.Inside → MayGoOn accepts asks boot v
      → OnServing v.work (λ tries program. accepts program boot.start.deployment × IsServing boot (asks program) tries))
      → (container : ContainerValue) (s : Shepherd P) → turn s ≡ turns.Inside → GoesOn accepts asks makes container s
      → OnVisit s.stage (λ v call. OnServing v.work (λ tries program. accepts program container.boot.start.deployment × IsServing container.boot (asks program) tries))
      × OnVisit s.stage (λ v call. v.facts.now.0 < 2 ^ 62)
  inside_turn serves container s is goes =
      let here = asks_visit s visit.Inside (ap step_of is) in
      let opened = (goes (has_memory s visit.Inside (ap step_of is))).opened in
      ((
        on_open s.stage (λ v call. visit_turn v ≡ visit.Inside) (OpenGoesOn accepts asks makes container)
            (λ v call. OnServing v.work (λ tries program. accepts program container.boot.start.deployment × IsServing container.boot (asks program) tries))
            (λ v call turned o. serves container.boot v turned o.goes_on) here opened,
        on_open s.stage (λ v call. visit_turn v ≡ visit.Inside) (OpenGoesOn accepts asks makes container) (λ v call. v.facts.now.0 < 2 ^ 62) (λ v call turned o. o.goes_on.small) here opened,
      ))

  pub own_turn : ((begin : Option ReadState) (history : List Event) (v : Visit P) → visit_turn v ≡ visit.Own → SessionStands makes begin history v → IfSome (cookie_in (answer_held v.way)) (λ c. AreHolders c.bricks))
      → (container : ContainerValue) (s : Shepherd P) → turn s ≡ turns.Own → GoesOn accepts asks makes container s
      → OnVisit s.stage (λ v call. IfSome (cookie_in (answer_held v.way)) (λ c. AreHolders c.bricks))
  own_turn holders container s is goes =
      on_open s.stage (λ v call. visit_turn v ≡ visit.Own) (OpenGoesOn accepts asks makes container) (λ v call. IfSome (cookie_in (answer_held v.way)) (λ c. AreHolders c.bricks))
      (λ v call turned o. holders o.begin (events_of container) v turned o.session)
      (asks_visit s visit.Own (ap step_of is)) (goes (has_memory s visit.Own (ap step_of is))).opened

  pub program_turn : (container : ContainerValue) (s : Shepherd P) → turn s ≡ turns.Program → GoesOn accepts asks makes container s → OnVisit s.stage (λ v call. call ≢ None)
  program_turn container s is goes =
      on_open s.stage (λ v call. visit_turn v ≡ visit.Program) (OpenGoesOn accepts asks makes container) (λ v call. call ≢ None)
      (λ v call turned o. o.asked (early v.work (wants v.way) turned))
      (asks_visit s visit.Program (ap step_of is)) (goes (has_memory s visit.Program (ap step_of is))).opened

  pub stays : (tally : L → Tally)
      → ((begin : Option ReadState) (history : List Event) (v : Visit P) (way : SessionWay) (link after : L) → StepsOutside makes v.way link way after → SessionStands makes begin history v
      → (fate : Fate) → v.work ≡ Left fate → cookie_in (answer_held way) ≡ cookie_in (answer_held v.way))
      → (container : ContainerValue) (old new : Shepherd P) (link after : L) → turn old ≡ turns.Outside → ShepherdSteps (λ v w. VisitsOutside makes tally v link w after) old new
      → GoesOn accepts asks makes container old
      → ShepherdSteps (λ v w. VisitsOutside makes tally v link w after × ((fate : Fate) → v.work ≡ Left fate → cookie_in (answer_held w.way) ≡ cookie_in (answer_held v.way))) old new
  stays tally same container old new link after is steps goes =
      let g = went (λ (v : Visit P) w. VisitsOutside makes tally v link w after) old new steps in
      let o = subst (λ x. IfOpen x (OpenGoesOn accepts asks makes container)) g.was (goes (has_memory old visit.Outside (ap step_of is))).opened in
      record {
        steps = subst (λ x. StepsVisit (λ v w. VisitsOutside makes tally v link w after × ((fate : Fate) → v.work ≡ Left fate → cookie_in (answer_held w.way) ≡ cookie_in (answer_held v.way))) x new.stage) (sym g.was)
            (g.after, (g.so, same o.begin (events_of container) g.visit g.after.way link after g.so.steps o.session), g.is);
        rest = steps.rest;
      }

  pub answered : ((begin : Option ReadState) (history : List Event) (v : Visit P) (place : Place) (again : Bool) → SessionStands makes begin history v → v.work ≡ Left (Writing place again) → answer_held v.way ≢ None)
      → (container : ContainerValue) (s : Shepherd P) → s.wants_memory ≡ false → GoesOn accepts asks makes container s → HasAnswerIfOpen s.stage
  answered has container s memory goes =
      if_open s.stage (OpenGoesOn accepts asks makes container) (λ v call. (place : Place) (again : Bool) → v.work ≡ Left (Writing place again) → answer_held v.way ≢ None)
      (λ v call o place again. has o.begin (events_of container) v place again o.session) (goes memory).opened

  -- what laws tell of requests that begin
  abbrev BeginSo : Type 0
  BeginSo = (boot : BootValue) (facts : VisitFacts) (counts : LinkCounts) (way : SessionWay) (why : Refusal) (seen : ℕ) → facts.front.0 ≤ length boot.entries → facts.now.0 < 2 ^ 62
      → MayGoOn accepts asks boot (begun facts counts way Reading) × MayGoOn accepts asks boot (begun facts counts way Opening)
      × MayGoOn accepts asks boot (begun facts counts way (Decided (item_is.Refused why))) × MayGoOn accepts asks boot (begun facts counts way (Decided (item_is.SerialsSpent seen)))

  abbrev ReadSo : Type 0
  ReadSo = (history : List Event) (facts : VisitFacts) (counts : LinkCounts) (nonce : Version) (cookie : Cookie) (v : Visit P) → v ≡ begun facts counts (way.Reading (read_start facts.now nonce cookie)) Reading
      → SessionStands makes (Some (read_start facts.now nonce cookie)) history v

  abbrev UnreadSo : Type 0
  UnreadSo = (history : List Event) (facts : VisitFacts) (counts : LinkCounts) (v : Visit P) → v ≡ begun facts counts way.Resting Opening → SessionStands makes None history v

  abbrev RefusedSo : Type 0
  RefusedSo = (history : List Event) (facts : VisitFacts) (counts : LinkCounts) (why : Refusal) (v : Visit P) → v ≡ begun facts counts way.Resting (Decided (item_is.Refused why)) → SessionStands makes None history v

  abbrev SpentSo : Type 0
  SpentSo = (history : List Event) (facts : VisitFacts) (counts : LinkCounts) (seen : ℕ) (v : Visit P) → v ≡ begun facts counts way.Resting (Decided (item_is.SerialsSpent seen)) → SessionStands makes None history v

  admitted_goes : BeginSo → ReadSo → UnreadSo → (container : ContainerValue) (facts : VisitFacts) (counts : LinkCounts) (a : Admission) (cookie : Option Cookie) → facts.front.0 ≤ length container.boot.entries → facts.now.0 < 2 ^ 62
      → IfOpen (admitted_visit facts counts a cookie) (OpenGoesOn accepts asks makes container)
  admitted_goes begin reads unread container facts counts a None within small = record {
    goes_on = (begin container.boot facts counts way.Resting refusal.NotThere 0 within small).1;
    begin = None;
    session = unread (events_of container) facts counts (begun facts counts way.Resting Opening) refl;
    asked = λ e n. absurd (cc);
  }
  admitted_goes begin reads unread container facts counts a (Some cookie) within small = record {
    goes_on = (begin container.boot facts counts (way.Reading (read_start facts.now a.read cookie)) refusal.NotThere 0 within small).0;
    begin = Some (read_start facts.now a.read cookie);
    session = reads (events_of container) facts counts a.read cookie (begun facts counts (way.Reading (read_start facts.now a.read cookie)) Reading) refl;
    asked = λ e n. absurd (cc);
  }

  begun_goes : BeginSo → ReadSo → UnreadSo → RefusedSo → SpentSo → (container : ContainerValue) (front : Place) (counts : LinkCounts) (head : Head) (now : Moment) (arrival : Arrival)
      → front.0 ≤ length container.boot.entries → now.0 < 2 ^ 62 → IfOpen (begun_by front counts head now arrival) (OpenGoesOn accepts asks makes container)
  begun_goes begin reads unread refused spent container front counts head now (Refused why) within small = record {
    goes_on = (begin container.boot (bare_facts None now front head) counts way.Resting why 0 within small).2;
    begin = None;
    session = refused (events_of container) (bare_facts None now front head) counts why (begun (bare_facts None now front head) counts way.Resting (Decided (item_is.Refused why))) refl;
    asked = λ e. absurd (cc);
  }
  begun_goes begin reads unread refused spent container front counts head now (SerialsSpent request seen) within small = record {
    goes_on = (begin container.boot (bare_facts request now front head) counts way.Resting refusal.NotThere seen within small).3;
    begin = None;
    session = spent (events_of container) (bare_facts request now front head) counts seen (begun (bare_facts request now front head) counts way.Resting (Decided (item_is.SerialsSpent seen))) refl;
    asked = λ e. absurd (cc);
  }
  begun_goes begin reads unread refused spent container front counts head now (Admitted a) within small = admitted_goes begin reads unread container (facts_of a now front head) counts a a.cookie within small

  pub taken : {C R S : Type 0} → BeginSo → ReadSo → UnreadSo → RefusedSo → SpentSo → (told : C → ℕ) (gives : Gives R) (looks : Looks S) (container : ContainerValue) (key : List ℕ) (home : HomeBoot) (counts : LinkCounts)
      (s new : Shepherd P) (clock clock_after : C) (random random_after : R) (serials serials_after : S)
      → TakesRequest told gives looks key home counts s clock random serials new clock_after random_after serials_after
      → GoesOn accepts asks makes container s → GoesOn accepts asks makes container new
  taken begin reads unread refused spent told gives looks container key home counts s new clock clock_after random random_after serials serials_after takes goes memory = by (taken_of s.received) takes where
    ends_so : (why : Untaken) → Refuses why s clock random serials new clock_after random_after serials_after → IsGoing accepts asks makes container new
    ends_so why r =
        let was = goes (sym (ap (λ (x : Shepherd P). x.wants_memory) r.new_is) ∙ memory) in
        subst (λ (x : Shepherd P). IsGoing accepts asks makes container x) (sym r.new_is) (record { front = was.front; opened = tt })

    by : (x : Taken) → TakesBy told gives looks key home counts x s clock random serials new clock_after random_after serials_after → IsGoing accepts asks makes container new
    by (took.Request head) b =
        let was = goes (sym (ap (λ (x : Shepherd P). x.wants_memory) b.new_is) ∙ memory) in
        subst (λ (x : Shepherd P). IsGoing accepts asks makes container x) (sym b.new_is) (record {
          front = was.front;
          opened = begun_goes begin reads unread refused spent container s.front counts head b.intake.now b.intake.arrival was.front b.small;
        })
    by took.Bad r = ends_so untaken.Bad r
    by (took.TooLong len lines) r = ends_so untaken.TooLong r
    by took.NoCoding r = ends_so untaken.NoCoding r
    by (took.BodyTooLong said) r = ends_so untaken.BodyTooLong r
    by took.More r = absurd r
