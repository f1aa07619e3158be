-- A connection attributes its items at each of its steps, as its request carries on what it was taken in with.
use Rattle.std.specs.Prelude.{option_map}
use Rattle.std.proofs.Common.{◌≡◌, ℕ, ◌≤◌, Bool, true, false, List, [], ◌∷◌, ◌++◌, length, arith, refl, sym, ap, ◌∙◌, subst, Option, Some, None}
use Rattle.std.proofs.lemmas.List.Elements.{All-nil, All-push, All-weaker}
use Rattle.std.proofs.lemmas.List.{append-nil, map-append}
use Rattle.auction_calls.specs.declared.action.ActionCall.{ActionCall}
use Rattle.boot_core.specs.declared.boot.Start.{Start}
use Rattle.call_ticket.specs.declared.next.Answer.{Answer}
use Rattle.call_ticket.specs.declared.next.Next.{Next}
use Rattle.container_core.specs.Container.{ContainerValue, HasGrownBy, events_of}
use Rattle.container_core.specs.History.{entries_in}
use Rattle.container_core.specs.declared.history.Event.{Event}
use Rattle.container_core.specs.declared.history.Event.TheVariants.{Started}
use Rattle.crash_base.specs.declared.numbers.Moment.{Moment}
use Rattle.crash_base.specs.declared.numbers.WorkerNo.{WorkerNo}
use Rattle.http_wire.specs.declared.taken.Head.{Head}
use Rattle.outcome_items.specs.declared.item.Item.{Item}
use Rattle.outside.specs.Link.{Tally}
use Rattle.outside.specs.declared.link.LinkCounts.{LinkCounts}
use Rattle.outside.specs.declared.link.LinkEvent.{LinkEvent}
use Rattle.request_decisions.specs.Calls.{call_by}
use Rattle.request_decisions.specs.Counts.{ascends}
use Rattle.request_decisions.specs.declared.draws.Draw.{Draw}
use Rattle.request_intake.specs.declared.intake.Arrival.{Arrival}
use Rattle.request_intake.specs.declared.intake.Arrival.TheVariants.{Refused, SerialsSpent, Admitted}
use Rattle.request_tries.specs.Ends.{Errand}
use Rattle.request_tries.specs.Serving.{TriesValue, errand_of, unbegun}
use Rattle.request_visit.specs.Accounts.{Accounts, AddsOwn}
use Rattle.request_visit.specs.Advancing.{Advances, after_leaving, value_of}
use Rattle.request_visit.specs.Sessions.{SessionStands}
use Rattle.request_visit.specs.Stepping.{IsGivenBack, VisitsInside, VisitsWindows, counted, dropped}
use Rattle.request_visit.specs.Visits.{turn as visit_turn}
use Rattle.request_visit.specs.declared.facts.VisitFacts.{VisitFacts}
use Rattle.request_visit.specs.declared.visit.Fate.{Fate}
use Rattle.request_visit.specs.declared.visit.Turn.TheVariants as visit
use Rattle.request_visit.specs.declared.visit.Visit.{Visit}
use Rattle.request_visit.specs.declared.visit.Work.{Work}
use Rattle.request_visit.specs.declared.visit.Work.TheVariants.{Opening, Serving as ServingBy, Left}
use Rattle.send_windows.specs.Windows.{WindowsValue}
use Rattle.session_cookie.specs.declared.cookie.TheConstants.{MAX_HOLDERS}
use Rattle.session_way.specs.Way.{StepsOutside, wants}
use Rattle.session_way.specs.declared.lease.SessionLease.{SessionLease}
use Rattle.session_way.specs.declared.way.SessionWay.{SessionWay}
use Rattle.shepherd.specs.Shepherds.{fresh, has_item, turn}
use Rattle.shepherd.specs.Steps.{GivesBack, HasLeftIfOpen, OpensCall, OpensStage, PutsOut, ShepherdSteps, StepsVisit, TakesItem, VisitsOutside, asked_call, dropped_stage, rested}
use Rattle.shepherd.specs.declared.shepherd.AskedCall.{AskedCall}
use Rattle.shepherd.specs.declared.shepherd.Shepherd.{Shepherd}
use Rattle.shepherd.specs.declared.shepherd.ShepherdTurn.TheVariants as turns
use Rattle.shepherd.specs.declared.shepherd.Stage.{Stage}
use Rattle.shepherd.specs.declared.shepherd.Stage.TheVariants.{Resting, Serving, Refusing, Over}
use Rattle.ssm_stub.specs.Reads.{ReadState}
use Rattle.served_items.specs.Attributing.{Attributed, AttributesBy, GoesBack, IsAttributed, IsErrandOf, IsOpenBy, OnAdmitted, StageBy, TakenIn, WorkBy, drawn_for_all, facts_by, taken_heads, moments_of, read_by, taken_in}
use Rattle.served_items.proofs.Carrying.{Carries, advance_carries, back_carries, dropping_carries, inside_carries, leaving_carries, outside_carries, windows_carry}
use Rattle.served_items.proofs.Rising.{rises_at, rises_to}
use Rattle.served_items.proofs.Turning.{fate_of, opening, over_now, turned, visit_step}

-- a request made a step, as the one that is open
pub record Went {P : Type 0} (So : Visit P → Visit P → Type 0) (old new : Shepherd P) : Type 0 where
  pub visit : Visit P
  pub after : Visit P
  pub call : Option AskedCall
  pub was : old.stage ≡ Serving visit call
  pub is : new.stage ≡ Serving after call
  pub so : So visit after

pub went : {P : Type 0} (So : Visit P → Visit P → Type 0) (old new : Shepherd P) → ShepherdSteps So old new → Went So old new
went {P} So old new steps = by old.stage refl steps.steps where
  by : (x : Stage P) → old.stage ≡ x → StepsVisit So x new.stage → Went So old new
  by Resting was s = absurd s
  by (Serving v call) was s = record { visit = v; after = s.0; call = call; was = was; is = s.2; so = s.1 }
  by (Refusing why bytes) was s = absurd s
  by (Over end) was s = absurd s

pub longer_length : (before more : List Event) → length before ≤ length (before ++ more)
longer_length [] more = omega arith
longer_length (e ∷ before) more = let le = longer_length before more in omega (arith, le)

-- what laws tell of a request whose history grows
abbrev pub AccountsGrow : {P : Type 0} → (P → List Answer → Next) → Type 0
AccountsGrow {P} asks = (start : Start) (history more : List Event) (errand : Errand) (own : List Event) (v : Visit P) → Accounts asks start history errand own v → Accounts asks start (history ++ more) errand own v

abbrev pub SessionsGrow : {L : Type 0} (P : Type 0) → (L → LinkEvent → L → Type 0) → Type 0
SessionsGrow P calls = (begin : Option ReadState) (history more : List Event) (v : Visit P) → SessionStands calls begin history v → SessionStands calls begin (history ++ more) v

module _ {P L : Type 0} (asks : P → List Answer → Next) (calls : L → LinkEvent → L → Type 0) (makes : ActionCall → List ℕ → P → Type 0) (came : TakenIn → Type 0) where
  -- A request goes back after a step that carries on what it was taken in with.
  carried : (start : Start) (history : List Event) (start_after : Start) (history_after : List Event) (t : TakenIn) (errand : Errand) (own own_after : List Event) (v w : Visit P) (call : Option AskedCall)
      → Carries t.intake.arrival (λ lease a. IsErrandOf asks makes (option_map value_of lease) errand a) call v w
      → SessionStands calls (read_by t.intake.now t.intake.arrival) history_after w → Accounts asks start_after history_after errand own_after w
      → GoesBack asks calls makes came start history t errand own v call → GoesBack asks calls makes came start_after history_after t errand own_after w call
  carried start history start_after history_after t errand own own_after v w call c session accounts h = record {
    came_so = h.came_so;
    facts_are = c.facts ∙ h.facts_are ∙ ap (λ (f : VisitFacts). facts_by f.front t.head t.intake.now t.intake.arrival) (sym c.facts);
    session = session;
    accounts = accounts;
    work = c.work h.work;
  }

  -- Another stage goes back in the same way.
  pub with_stage : (start : Start) (history : List Event) (heads : List Head) (drawn : List Draw) (earliest latest : ℕ) (items : List Item) (s new : Shepherd P) (h : AttributesBy asks calls makes came start history heads drawn earliest latest items s)
      → StageBy asks calls makes came start history h.opened new.stage → AttributesBy asks calls makes came start history heads drawn earliest latest items new
  with_stage start history heads drawn earliest latest items s new h stands = record {
    served = h.served;
    opened = h.opened;
    heads_are = h.heads_are;
    drawn_are = h.drawn_are;
    rise = h.rise;
    items_are = h.items_are;
    attributed = h.attributed;
    is_open = stands;
  }

  pub begins : (start : Start) (history : List Event) (now : ℕ) → AttributesBy asks calls makes came start history [] [] now now [] fresh
  begins start history now = record {
    served = [];
    opened = [];
    heads_are = refl;
    drawn_are = refl;
    rise = rises_at now;
    items_are = refl;
    attributed = All-nil (IsAttributed asks calls makes came start history);
    is_open = refl;
  }

  pub still : (start : Start) (history : List Event) (heads : List Head) (drawn : List Draw) (earliest latest : ℕ) (items : List Item) (s new : Shepherd P) → new.stage ≡ s.stage
      → AttributesBy asks calls makes came start history heads drawn earliest latest items s → AttributesBy asks calls makes came start history heads drawn earliest latest items new
  still start history heads drawn earliest latest items s new same h =
      with_stage start history heads drawn earliest latest items s new h (subst (λ (x : Stage P). StageBy asks calls makes came start history h.opened x) (sym same) h.is_open)

  longer : AccountsGrow asks → SessionsGrow P calls → (start : Start) (history more : List Event) (t : TakenIn) (errand : Errand) (own : List Event) (v : Visit P) (call : Option AskedCall)
      → GoesBack asks calls makes came start history t errand own v call → GoesBack asks calls makes came start (history ++ more) t errand own v call
  longer accounts sessions start history more t errand own v call h = record {
    came_so = h.came_so;
    facts_are = h.facts_are;
    session = sessions (read_by t.intake.now t.intake.arrival) history more v h.session;
    accounts = accounts start history more errand own v h.accounts;
    work = h.work;
  }

  attributed_longer : AccountsGrow asks → SessionsGrow P calls → (start : Start) (history more : List Event) (x : Attributed P) → IsAttributed asks calls makes came start history x → IsAttributed asks calls makes came start (history ++ more) x
  attributed_longer accounts sessions start history more x h = record {
    over = h.over;
    is_item = h.is_item;
    goes_back = longer accounts sessions start history more x.taken x.errand x.own x.visit x.call h.goes_back;
  }

  stage_longer : AccountsGrow asks → SessionsGrow P calls → (start : Start) (history more : List Event) (opened : List TakenIn) (stage : Stage P) → StageBy asks calls makes came start history opened stage → StageBy asks calls makes came start (history ++ more) opened stage
  stage_longer accounts sessions start history more opened Resting h = h
  stage_longer accounts sessions start history more opened (Serving v call) h = record {
    taken = h.taken;
    opened_is = h.opened_is;
    errand = h.errand;
    own = h.own;
    goes_back = longer accounts sessions start history more h.taken h.errand h.own v call h.goes_back;
  }
  stage_longer accounts sessions start history more opened (Refusing why bytes) h = h
  stage_longer accounts sessions start history more opened (Over end) h = h

  pub meanwhile : AccountsGrow asks → SessionsGrow P calls → (start : Start) (history more : List Event) (heads : List Head) (drawn : List Draw) (earliest latest : ℕ) (items : List Item) (later : ℕ) (s : Shepherd P) → latest ≤ later
      → AttributesBy asks calls makes came start history heads drawn earliest latest items s → AttributesBy asks calls makes came start (history ++ more) heads drawn earliest later items s
  meanwhile accounts sessions start history more heads drawn earliest latest items later s less h = record {
    served = h.served;
    opened = h.opened;
    heads_are = h.heads_are;
    drawn_are = h.drawn_are;
    rise = rises_to (earliest ∷ moments_of (taken_in h.served ++ h.opened)) latest later less h.rise;
    items_are = h.items_are;
    attributed = All-weaker (IsAttributed asks calls makes came start history) (IsAttributed asks calls makes came start (history ++ more)) (attributed_longer accounts sessions start history more) h.served h.attributed;
    is_open = stage_longer accounts sessions start history more h.opened s.stage h.is_open;
  }

  -- what is so of the request that is open
  opened_so : (start : Start) (history : List Event) (opened : List TakenIn) (stage : Stage P) (v : Visit P) (call : Option AskedCall) → stage ≡ Serving v call
      → StageBy asks calls makes came start history opened stage → IsOpenBy asks calls makes came start history opened v call
  opened_so start history opened stage v call was h = subst (λ (x : Stage P). StageBy asks calls makes came start history opened x) was h

  -- a step after which the request that is open goes back as it did
  abbrev Goes : Start → List Event → (Visit P → Visit P → Type 0) → Shepherd P → Type 0
  Goes start history So old = (v w : Visit P) (call : Option AskedCall) → old.stage ≡ Serving v call → So v w → (t : TakenIn) (errand : Errand) (own : List Event)
      → GoesBack asks calls makes came start history t errand own v call → GoesBack asks calls makes came start history t errand own w call

  stepped : (So : Visit P → Visit P → Type 0) (start : Start) (history : List Event) (heads : List Head) (drawn : List Draw) (earliest latest : ℕ) (items : List Item) (old new : Shepherd P) → ShepherdSteps So old new → Goes start history So old
      → AttributesBy asks calls makes came start history heads drawn earliest latest items old → AttributesBy asks calls makes came start history heads drawn earliest latest items new
  stepped So start history heads drawn earliest latest items old new steps goes h =
      let g = went So old new steps in
      let t = opened_so start history h.opened old.stage g.visit g.call g.was h.is_open in
      with_stage start history heads drawn earliest latest items old new h (subst (λ (x : Stage P). StageBy asks calls makes came start history h.opened x) (sym g.is) (record {
        taken = t.taken;
        opened_is = t.opened_is;
        errand = t.errand;
        own = t.own;
        goes_back = goes g.visit g.after g.call g.was g.so t.taken t.errand t.own t.goes_back;
      }))

  pub outside : (tally : L → Tally)
      → ((start : Start) (history : List Event) (errand : Errand) (own : List Event) (v : Visit P) (way : SessionWay) (counts : LinkCounts)
      → Accounts asks start history errand own v → Accounts asks start history errand own (record v { way = way; counts = counts }))
      → ((begin : Option ReadState) (history : List Event) (v : Visit P) (way : SessionWay) (counts : LinkCounts) (link after : L) → visit_turn v ≡ visit.Outside → StepsOutside calls v.way link way after
      → SessionStands calls begin history v → SessionStands calls begin history (record v { way = way; counts = counts }))
      → (start : Start) (history : List Event) (heads : List Head) (drawn : List Draw) (earliest latest : ℕ) (items : List Item) (old new : Shepherd P) (link after : L) → turn old ≡ turns.Outside
      → ShepherdSteps (λ v w. VisitsOutside calls tally v link w after) old new
      → AttributesBy asks calls makes came start history heads drawn earliest latest items old → AttributesBy asks calls makes came start history heads drawn earliest latest items new
  outside tally accounts sessions start history heads drawn earliest latest items old new link after is steps h =
      stepped (λ (v : Visit P) w. VisitsOutside calls tally v link w after) start history heads drawn earliest latest items old new steps
      (λ v w call was so t errand own g. carried start history start history t errand own own v w call
      (outside_carries t.intake.arrival (λ lease a. IsErrandOf asks makes (option_map value_of lease) errand a) call calls tally v link w after so)
      (subst (λ (x : Visit P). SessionStands calls (read_by t.intake.now t.intake.arrival) history x) (sym so.rest)
      (sessions (read_by t.intake.now t.intake.arrival) history v w.way (counted (tally after)) link after (turned old v call visit.Outside was (ap visit_step is)) so.steps g.session))
      (subst (λ (x : Visit P). Accounts asks start history errand own x) (sym so.rest) (accounts start history errand own v w.way (counted (tally after)) g.accounts)) g) h

  pub windows : ((start : Start) (history : List Event) (errand : Errand) (own : List Event) (old new : Visit P) (windows after : WindowsValue) → VisitsWindows old windows new after
      → Accounts asks start history errand own old → Accounts asks start history errand own new)
      → ((begin : Option ReadState) (history : List Event) (old new : Visit P) (windows after : WindowsValue) → 1 ≤ windows.wq → windows.wq ≤ MAX_HOLDERS → VisitsWindows old windows new after
      → SessionStands calls begin history old → SessionStands calls begin history new)
      → (start : Start) (history : List Event) (heads : List Head) (drawn : List Draw) (earliest latest : ℕ) (items : List Item) (old new : Shepherd P) (win after : WindowsValue) → 1 ≤ win.wq → win.wq ≤ MAX_HOLDERS
      → ShepherdSteps (λ v w. VisitsWindows v win w after) old new
      → AttributesBy asks calls makes came start history heads drawn earliest latest items old → AttributesBy asks calls makes came start history heads drawn earliest latest items new
  windows accounts sessions start history heads drawn earliest latest items old new win after some few steps h =
      stepped (λ (v : Visit P) w. VisitsWindows v win w after) start history heads drawn earliest latest items old new steps
      (λ v w call was so t errand own g. carried start history start history t errand own own v w call
      (windows_carry t.intake.arrival (λ lease a. IsErrandOf asks makes (option_map value_of lease) errand a) call v win w after so)
      (sessions (read_by t.intake.now t.intake.arrival) history v w win after some few so g.session) (accounts start history errand own v w win after so g.accounts) g) h

  pub advance : ((start : Start) (history : List Event) (errand : Errand) (own : List Event) (old new : Visit P) (key : List ℕ) → Advances key old old.work new
      → Accounts asks start history errand own old → Accounts asks start history errand own new)
      → ((begin : Option ReadState) (key : List ℕ) (history : List Event) (old new : Visit P) → visit_turn old ≡ visit.Own → Advances key old old.work new
      → SessionStands calls begin history old → SessionStands calls begin history new)
      → (start : Start) (history : List Event) (heads : List Head) (drawn : List Draw) (earliest latest : ℕ) (items : List Item) (key : List ℕ) (old new : Shepherd P) → turn old ≡ turns.Own
      → ShepherdSteps (λ v w. Advances key v v.work w) old new
      → AttributesBy asks calls makes came start history heads drawn earliest latest items old → AttributesBy asks calls makes came start history heads drawn earliest latest items new
  advance accounts sessions start history heads drawn earliest latest items key old new is steps h =
      stepped (λ (v : Visit P) w. Advances key v v.work w) start history heads drawn earliest latest items old new steps
      (λ v w call was so t errand own g. carried start history start history t errand own own v w call
      (advance_carries t.intake.arrival (λ lease a. IsErrandOf asks makes (option_map value_of lease) errand a) call key v w so)
      (sessions (read_by t.intake.now t.intake.arrival) key history v w (turned old v call visit.Own was (ap visit_step is)) so g.session) (accounts start history errand own v w key so g.accounts) g) h

  pub inside : AccountsGrow asks → SessionsGrow P calls
      → ((start : Start) (errand : Errand) (own : List Event) (old new : Visit P) (container after : ContainerValue) → VisitsInside asks old container new after
      → Accounts asks start (events_of container) errand own old → entries_in container.since ≡ container.boot.entries → AddsOwn asks errand own container after new)
      → ((begin : Option ReadState) (old new : Visit P) (container after : ContainerValue) → VisitsInside asks old container new after → length (events_of container) ≤ length (events_of after)
      → SessionStands calls begin (events_of container) old → SessionStands calls begin (events_of after) new)
      → (heads : List Head) (drawn : List Draw) (earliest latest : ℕ) (items : List Item) (old new : Shepherd P) (container after : ContainerValue)
      → ShepherdSteps (λ v w. VisitsInside asks v container w after) old new → entries_in container.since ≡ container.boot.entries → HasGrownBy container after
      → AttributesBy asks calls makes came container.boot.start (events_of container) heads drawn earliest latest items old
      → AttributesBy asks calls makes came after.boot.start (events_of after) heads drawn earliest latest items new
  inside accounts_grow sessions_grow accounts sessions heads drawn earliest latest items old new container after steps is grown h =
      let start = container.boot.start in
      let history = events_of container in
      let g = went (λ (v : Visit P) w. VisitsInside asks v container w after) old new steps in
      let t = opened_so start history h.opened old.stage g.visit g.call g.was h.is_open in
      let longer : events_of after ≡ events_of container ++ grown.more =
      ap (λ x. Started x ∷ after.since) grown.boot.start ∙ ap (λ xs. Started container.boot.start ∷ xs) grown.since in
      let le : length (events_of container) ≤ length (events_of after) = subst (λ es. length (events_of container) ≤ length es) (sym longer) (longer_length (events_of container) grown.more) in
      let adds = accounts start t.errand t.own g.visit g.after container after g.so t.goes_back.accounts is in
      record {
        served = h.served;
        opened = h.opened;
        heads_are = h.heads_are;
        drawn_are = h.drawn_are;
        rise = h.rise;
        items_are = h.items_are;
        attributed = All-weaker (IsAttributed asks calls makes came start history) (IsAttributed asks calls makes came after.boot.start (events_of after))
            (λ x a. subst (λ st. IsAttributed asks calls makes came st (events_of after) x) (sym grown.boot.start) (subst (λ es. IsAttributed asks calls makes came start es x) (sym longer) (attributed_longer accounts_grow sessions_grow start history grown.more x a)))
            h.served h.attributed;
        is_open = subst (λ (x : Stage P). StageBy asks calls makes came after.boot.start (events_of after) h.opened x) (sym g.is) (record {
          taken = t.taken;
          opened_is = t.opened_is;
          errand = t.errand;
          own = t.own ++ adds.added;
          goes_back = carried start history after.boot.start (events_of after) t.taken t.errand t.own (t.own ++ adds.added) g.visit g.after g.call
              (inside_carries t.taken.intake.arrival (λ lease a. IsErrandOf asks makes (option_map value_of lease) t.errand a) g.call asks g.visit container g.after after g.so)
              (sessions (read_by t.taken.intake.now t.taken.intake.arrival) g.visit g.after container after g.so le t.goes_back.session) adds.accounts t.goes_back;
        });
      }

  -- the number that an admitted request is known by
  number_by : (arrival : Arrival) (asked : AskedCall) (v : Visit P) (head : Head) (now : Moment) → OnAdmitted arrival (λ a. Some asked ≡ Some (asked_call a))
      → v.facts ≡ facts_by v.facts.front head now arrival → v.facts.request ≡ Some asked.request
  number_by (Refused why) asked v head now made facts = absurd made
  number_by (SerialsSpent request seen) asked v head now made facts = absurd made
  number_by (Admitted a) asked v head now made facts =
      let same : asked ≡ asked_call a = cc in
      ap (λ (f : VisitFacts). f.request) facts ∙ ap (λ (x : AskedCall). Some x.request) (sym same)

  made_by : (arrival : Arrival) (asked : AskedCall) (lease : Option SessionLease) (text : List ℕ) (program : P) → OnAdmitted arrival (λ a. Some asked ≡ Some (asked_call a))
      → makes (call_by asked.call (option_map value_of lease)) text program
      → OnAdmitted arrival (λ a. IsErrandOf asks makes (option_map value_of lease) (record { request = asked.request; text = text; asks = asks program }) a)
  made_by (Refused why) asked lease text program is made = absurd is
  made_by (SerialsSpent request seen) asked lease text program is made = absurd is
  made_by (Admitted a) asked lease text program is made =
      let same : asked ≡ asked_call a = cc in
      record {
        text = text;
        program = program;
        made = subst (λ (x : AskedCall). makes (call_by x.call (option_map value_of lease)) text program) same made;
        errand_is = ap (λ (x : AskedCall). record { request = x.request; text = text; asks = asks program }) same;
      }

  pub out : ((start : Start) (history : List Event) (errand : Errand) (own : List Event) (v : Visit P) → Accounts asks start history errand own v → Accounts asks start history errand own (after_leaving v))
      → ((begin : Option ReadState) (history : List Event) (v : Visit P) → visit_turn v ≡ visit.Output → SessionStands calls begin history v → SessionStands calls begin history (after_leaving v))
      → (start : Start) (history : List Event) (heads : List Head) (drawn : List Draw) (earliest latest : ℕ) (items : List Item) (bytes : List ℕ) (s : Shepherd P) (stage : Stage P) → turn s ≡ turns.Output
      → PutsOut s.stage bytes stage
      → AttributesBy asks calls makes came start history heads drawn earliest latest items s → AttributesBy asks calls makes came start history heads drawn earliest latest items (record s { stage = stage })
  out accounts sessions start history heads drawn earliest latest items bytes s stage is puts h = with_stage start history heads drawn earliest latest items s (record s { stage = stage }) h (by s.stage refl h.is_open puts) where
    by : (x : Stage P) → s.stage ≡ x → StageBy asks calls makes came start history h.opened x → PutsOut x bytes stage → StageBy asks calls makes came start history h.opened stage
    by Resting was t puts = absurd puts
    by (Serving v call) was t puts = subst (λ (x : Stage P). StageBy asks calls makes came start history h.opened x) (sym puts.1) (record {
      taken = t.taken;
      opened_is = t.opened_is;
      errand = t.errand;
      own = t.own;
      goes_back = carried start history start history t.taken t.errand t.own t.own v (after_leaving v) call
          (leaving_carries t.taken.intake.arrival (λ lease a. IsErrandOf asks makes (option_map value_of lease) t.errand a) call v)
          (sessions (read_by t.taken.intake.now t.taken.intake.arrival) history v (turned s v call visit.Output was (ap visit_step is)) t.goes_back.session)
          (accounts start history t.errand t.own v t.goes_back.accounts) t.goes_back;
    })
    by (Refusing why last) was t puts = subst (λ (x : Stage P). StageBy asks calls makes came start history h.opened x) (sym puts.1) t
    by (Over end) was t puts = absurd puts

  nothing_open : (start : Start) (history : List Event) (b : Bool) → StageBy asks calls makes came start history [] (rested b)
  nothing_open start history true = refl
  nothing_open start history false = refl

  pub item : (start : Start) (history : List Event) (heads : List Head) (drawn : List Draw) (earliest latest : ℕ) (items : List Item) (i : Item) (s : Shepherd P) (stage : Stage P) → has_item s.stage ≡ true → TakesItem s.stage i stage
      → AttributesBy asks calls makes came start history heads drawn earliest latest items s
      → AttributesBy asks calls makes came start history heads drawn earliest latest (items ++ i ∷ []) (record s { front = i.holds.front; stage = stage })
  item start history heads drawn earliest latest items i s stage is takes h = by s.stage refl takes where
    by : (x : Stage P) → s.stage ≡ x → TakesItem x i stage → AttributesBy asks calls makes came start history heads drawn earliest latest (items ++ i ∷ []) (record s { front = i.holds.front; stage = stage })
    by Resting was takes = absurd takes
    by (Serving v call) was takes =
        let t = opened_so start history h.opened s.stage v call was h.is_open in
        let one : Attributed P = record { taken = t.taken; visit = v; call = call; item = i; errand = t.errand; own = t.own } in
        let same : taken_in h.served ++ h.opened ≡ taken_in (h.served ++ one ∷ []) ++ [] =
        ap (λ xs. taken_in h.served ++ xs) t.opened_is ∙ sym (map-append (λ (x : Attributed P). x.taken) h.served (one ∷ [])) ∙ sym (append-nil (taken_in (h.served ++ one ∷ []))) in
        record {
          served = h.served ++ one ∷ [];
          opened = [];
          heads_are = h.heads_are ∙ ap taken_heads same;
          drawn_are = h.drawn_are ∙ ap drawn_for_all same;
          rise = subst (λ xs. ascends (earliest ∷ (moments_of xs ++ latest ∷ [])) ≡ true) same h.rise;
          items_are = ap (λ xs. xs ++ i ∷ []) h.items_are ∙ sym (map-append (λ (x : Attributed P). x.item) h.served (one ∷ []));
          attributed = All-push (IsAttributed asks calls makes came start history) h.served one h.attributed (record {
            over = over_now (visit_turn v) (sym (ap has_item was) ∙ is);
            is_item = takes.0;
            goes_back = t.goes_back;
          });
          is_open = subst (λ (x : Stage P). StageBy asks calls makes came start history [] x) (sym takes.1) (nothing_open start history v.facts.close);
        }
    by (Refusing why bytes) was takes = absurd takes
    by (Over end) was takes = absurd takes

  pub given_up : ((start : Start) (history : List Event) (errand : Errand) (own : List Event) (v : Visit P) → Accounts asks start history errand own v → Accounts asks start history errand own (record v { work = dropped v.work }))
      → ((begin : Option ReadState) (history : List Event) (v : Visit P) → SessionStands calls begin history v → SessionStands calls begin history (record v { work = dropped v.work }))
      → (start : Start) (history : List Event) (heads : List Head) (drawn : List Draw) (earliest latest : ℕ) (items : List Item) (s : Shepherd P)
      → AttributesBy asks calls makes came start history heads drawn earliest latest items s → AttributesBy asks calls makes came start history heads drawn earliest latest items (record s { stage = dropped_stage s.stage })
  given_up accounts sessions start history heads drawn earliest latest items s h = with_stage start history heads drawn earliest latest items s (record s { stage = dropped_stage s.stage }) h (by s.stage h.is_open) where
    by : (x : Stage P) → StageBy asks calls makes came start history h.opened x → StageBy asks calls makes came start history h.opened (dropped_stage x)
    by Resting t = t
    by (Serving v call) t = record {
      taken = t.taken;
      opened_is = t.opened_is;
      errand = t.errand;
      own = t.own;
      goes_back = carried start history start history t.taken t.errand t.own t.own v (record v { work = dropped v.work }) call
          (dropping_carries t.taken.intake.arrival (λ lease a. IsErrandOf asks makes (option_map value_of lease) t.errand a) call v)
          (sessions (read_by t.taken.intake.now t.taken.intake.arrival) history v t.goes_back.session) (accounts start history t.errand t.own v t.goes_back.accounts) t.goes_back;
    }
    by (Refusing why bytes) t = t
    by (Over end) t = t

  pub back : ((start : Start) (history : List Event) (errand : Errand) (own : List Event) (old new : Visit P) → IsGivenBack old new → Accounts asks start history errand own old → Accounts asks start history errand own new)
      → ((begin : Option ReadState) (history : List Event) (old new : Visit P) (fate : Fate) → IsGivenBack old new → old.work ≡ Left fate → SessionStands calls begin history old → SessionStands calls begin history new)
      → (start : Start) (history : List Event) (heads : List Head) (drawn : List Draw) (earliest latest : ℕ) (items : List Item) (s : Shepherd P) (stage : Stage P) (win after : WindowsValue) → HasLeftIfOpen s.stage
      → GivesBack s.stage win stage after
      → AttributesBy asks calls makes came start history heads drawn earliest latest items s → AttributesBy asks calls makes came start history heads drawn earliest latest items (record s { stage = stage })
  back accounts sessions start history heads drawn earliest latest items s stage win after answered gives h = with_stage start history heads drawn earliest latest items s (record s { stage = stage }) h (by s.stage answered h.is_open gives) where
    by : (x : Stage P) → HasLeftIfOpen x → StageBy asks calls makes came start history h.opened x → GivesBack x win stage after → StageBy asks calls makes came start history h.opened stage
    by Resting answered t gives = subst (λ (x : Stage P). StageBy asks calls makes came start history h.opened x) (sym gives.0) t
    by (Serving v call) answered t gives =
        let fate = fate_of v.work answered in
        subst (λ (x : Stage P). StageBy asks calls makes came start history h.opened x) (sym gives.2) (record {
          taken = t.taken;
          opened_is = t.opened_is;
          errand = t.errand;
          own = t.own;
          goes_back = carried start history start history t.taken t.errand t.own t.own v gives.0 call
              (back_carries t.taken.intake.arrival (λ lease a. IsErrandOf asks makes (option_map value_of lease) t.errand a) call v gives.0 gives.1.back)
              (sessions (read_by t.taken.intake.now t.taken.intake.arrival) history v gives.0 fate.0 gives.1.back fate.1 t.goes_back.session)
              (accounts start history t.errand t.own v gives.0 gives.1.back t.goes_back.accounts) t.goes_back;
        })
    by (Refusing why bytes) answered t gives = subst (λ (x : Stage P). StageBy asks calls makes came start history h.opened x) (sym gives.0) t
    by (Over end) answered t gives = subst (λ (x : Stage P). StageBy asks calls makes came start history h.opened x) (sym gives.0) t

-- The program of the request that is open is made of its own call.
pub opens : {P L M : Type 0} (asks : P → List Answer → Next) (calls : L → LinkEvent → L → Type 0) (makes : M → ActionCall → List ℕ → P → Type 0) (maker : M) (came : TakenIn → Type 0)
    → ((start : Start) (history : List Event) (errand : Errand) (own : List Event) (v : Visit P) (tries : TriesValue) (program : P) → v.work ≡ Opening → v.facts.request ≡ Some tries.request
    → Accounts asks start history errand own v → Accounts asks start history (errand_of tries (asks program)) own (record v { work = ServingBy tries program }))
    → ((begin : Option ReadState) (history : List Event) (v : Visit P) (tries : TriesValue) (program : P) → v.work ≡ Opening → SessionStands calls begin history v
    → SessionStands calls begin history (record v { work = ServingBy tries program }))
    → (start : Start) (history : List Event) (heads : List Head) (drawn : List Draw) (earliest latest : ℕ) (items : List Item) (s : Shepherd P) (stage : Stage P) (worker : WorkerNo) → turn s ≡ turns.Program
    → OpensStage makes maker worker s.stage stage
    → AttributesBy asks calls (makes maker) came start history heads drawn earliest latest items s → AttributesBy asks calls (makes maker) came start history heads drawn earliest latest items (record s { stage = stage })
opens {P} asks calls makes maker came accounts sessions start history heads drawn earliest latest items s stage worker is does h = with_stage asks calls (makes maker) came start history heads drawn earliest latest items s (record s { stage = stage }) h (by s.stage refl does) where
  one : (v : Visit P) (call : Option AskedCall) → s.stage ≡ Serving v call → OpensCall makes maker worker v call stage → StageBy asks calls (makes maker) came start history h.opened stage
  one v None was does = absurd does
  one v (Some asked) was does =
      let t = opened_so asks calls (makes maker) came start history h.opened s.stage v (Some asked) was h.is_open in
      let g = t.goes_back in
      let early : v.work ≡ Opening = opening v.work (wants v.way) (turned s v (Some asked) visit.Program was (ap visit_step is)) in
      let is_call = subst (λ (w : Work P). WorkBy t.taken.intake.arrival (λ a. IsErrandOf asks (makes maker) (option_map value_of v.lease) t.errand a) (Some asked) w) early g.work in
      let tries : TriesValue = unbegun asked.request worker does.1.text in
      subst (λ (x : Stage P). StageBy asks calls (makes maker) came start history h.opened x) (sym (does.2 ∙ ap (λ (x : Visit P). Serving x None) does.1.new_is)) (record {
        taken = t.taken;
        opened_is = t.opened_is;
        errand = errand_of tries (asks does.1.program);
        own = t.own;
        goes_back = record {
          came_so = g.came_so;
          facts_are = g.facts_are;
          session = sessions (read_by t.taken.intake.now t.taken.intake.arrival) history v tries does.1.program early g.session;
          accounts = accounts start history t.errand t.own v tries does.1.program early (number_by asks calls (makes maker) came t.taken.intake.arrival asked v t.taken.head t.taken.intake.now is_call g.facts_are) g.accounts;
          work = made_by asks calls (makes maker) came t.taken.intake.arrival asked v.lease does.1.text does.1.program is_call does.1.made;
        };
      })

  by : (x : Stage P) → s.stage ≡ x → OpensStage makes maker worker x stage → StageBy asks calls (makes maker) came start history h.opened stage
  by Resting was does = absurd does
  by (Serving v call) was does = one v call was does
  by (Refusing why bytes) was does = absurd does
  by (Over end) was does = absurd does
