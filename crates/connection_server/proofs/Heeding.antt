-- A connection heeds that its container was stopped, step by step.
use Rattle.std.proofs.Common.{◌≡◌, inl, inr, ℕ, Bool, true, false, List, [], ◌∷◌, ◌++◌, length, take, arith, refl, sym, ap, ◌∙◌, subst, Option, Some, None}
use Rattle.std.proofs.lemmas.List.{take-append-le, take_all}
use Rattle.std.proofs.lemmas.List.Elements.{All-push, All-weaker}
use mathlib.Core.List.{IsPrefix}
use Rattle.auction_calls.specs.declared.action.ActionCall.{ActionCall}
use Rattle.call_ticket.specs.declared.next.Answer.{Answer}
use Rattle.call_ticket.specs.declared.next.Next.{Next}
use Rattle.container_core.specs.Container.{ContainerValue, events_of}
use Rattle.container_core.specs.History.{is_stopped}
use Rattle.container_core.specs.declared.history.Event.{Event}
use Rattle.crash_base.specs.declared.numbers.Moment.{Moment}
use Rattle.crash_base.specs.declared.numbers.Place.{Place}
use Rattle.crash_base.specs.declared.numbers.WorkerNo.{WorkerNo}
use Rattle.http_wire.specs.Taking.{taken_of}
use Rattle.http_wire.specs.declared.taken.Head.{Head}
use Rattle.http_wire.specs.declared.taken.Taken.{Taken}
use Rattle.http_wire.specs.declared.taken.Taken.TheVariants as took
use Rattle.outcome_items.specs.declared.item.Holds.{Holds}
use Rattle.outcome_items.specs.declared.item.Item.{Item}
use Rattle.outside.specs.declared.link.LinkCounts.{LinkCounts}
use Rattle.request_intake.specs.Intakes.{Gives, Looks}
use Rattle.request_intake.specs.declared.intake.Admission.{Admission}
use Rattle.request_intake.specs.declared.intake.Arrival.{Arrival}
use Rattle.request_intake.specs.declared.intake.Arrival.TheVariants.{Refused, SerialsSpent, Admitted}
use Rattle.request_intake.specs.declared.intake.HomeBoot.{HomeBoot}
use Rattle.request_visit.specs.Stepping.{VisitsInside}
use Rattle.request_visit.specs.Visits.{turn as visit_turn}
use Rattle.request_visit.specs.declared.facts.VisitFacts.{VisitFacts}
use Rattle.request_visit.specs.declared.visit.Visit.{Visit}
use Rattle.send_windows.specs.Windows.{WindowsValue}
use Rattle.session_cookie.specs.declared.cookie.Cookie.{Cookie}
use Rattle.shepherd.specs.Shepherds.{turn_by}
use Rattle.shepherd.specs.Steps.{GivesBack, OnVisit, OpensCall, OpensStage, PutsOut, StepsVisit, TakesBy, TakesItem, TakesRequest, admitted_visit, begun_by, dropped_stage, facts_of, rested}
use Rattle.shepherd.specs.declared.shepherd.AskedCall.{AskedCall}
use Rattle.shepherd.specs.declared.shepherd.EndKind.{EndKind}
use Rattle.shepherd.specs.declared.shepherd.EndKind.TheVariants as ends
use Rattle.shepherd.specs.declared.shepherd.Shepherd.{Shepherd}
use Rattle.shepherd.specs.declared.shepherd.Stage.{Stage}
use Rattle.shepherd.specs.declared.shepherd.Stage.TheVariants.{Resting, Serving, Refusing, Over}
use Rattle.connection_server.specs.Closing.{EndsBy}
use Rattle.connection_server.specs.Heeding.{AtMostLastStopped, Heeds, LastStopped, NoneStopped, StageHeeds, WasFound}
use Rattle.connection_server.specs.Turning.{is_inside}
use Rattle.connection_server.proofs.Growing.{prefix_length}
use Rattle.connection_server.proofs.Kept.{HeldSo, back_keeps, inside_holds, item_keeps, leaves, stays}

-- what was found stays so when the history goes on
pub found_stays : (history after : List Event) (holds : Holds) (b : Bool) → IsPrefix history after → WasFound history holds b → WasFound after holds b
found_stays history after holds b on f =
    let longer = prefix_length history after on in
    let within = f.within in
    record {
      within = omega (arith, within, longer);
      found = subst (λ (es : List Event). is_stopped (take holds.held es) ≡ b) on.1 (ap is_stopped (take-append-le holds.held history on.0 f.within) ∙ f.found);
    }

none_stays : (history after : List Event) (items : List Item) → IsPrefix history after → NoneStopped history items → NoneStopped after items
none_stays history after items on h =
    All-weaker (λ (i : Item). WasFound history i.holds false) (λ (i : Item). WasFound after i.holds false) (λ i f. found_stays history after i.holds false on f) items h

pub last_stays : (history after : List Event) (items : List Item) → IsPrefix history after → LastStopped history items → LastStopped after items
last_stays history after items on h = record {
  before = h.before;
  last = h.last;
  items_are = h.items_are;
  running = none_stays history after h.before on h.running;
  stopped = found_stays history after h.last.holds true on h.stopped;
}

pub none_stopped_stays : (history after : List Event) (items : List Item) → IsPrefix history after → NoneStopped history items → NoneStopped after items
none_stopped_stays = none_stays

pub at_most_stays : (history after : List Event) (items : List Item) → IsPrefix history after → AtMostLastStopped history items → AtMostLastStopped after items
at_most_stays history after items on (inl none) = inl (none_stays history after items on none)
at_most_stays history after items on (inr last) = inr (last_stays history after items on last)

pub ends_stay : (end : EndKind) (left : Option (List ℕ)) (fed : List ℕ) (history after : List Event) (items : List Item) → IsPrefix history after → EndsBy end left fed history items → EndsBy end left fed after items
ends_stay ends.Closed left fed history after items on (inl h) = inl (h.0, none_stays history after items on h.1)
ends_stay ends.Closed left fed history after items on (inr h) = inr (h.0, at_most_stays history after items on h.1)
ends_stay ends.Cut left fed history after items on h = (h.0, none_stays history after items on h.1)
ends_stay (ends.Refused why) left fed history after items on h = none_stays history after items on h
ends_stay ends.OutOfMemory left fed history after items on h = none_stays history after items on h

-- one more item
pub item_found : (history : List Event) (items : List Item) (i : Item) (stopped : Bool) → NoneStopped history items → WasFound history i.holds stopped → AtMostLastStopped history (items ++ i ∷ [])
item_found history items i false h f = inl (All-push (λ (x : Item). WasFound history x.holds false) items i h f)
item_found history items i true h f = inr (record { before = items; last = i; items_are = refl; running = h; stopped = f })

module _ {P : Type 0} (history : List Event) (items : List Item) (stopped : Bool) where
  -- what was found of the request that is open
  abbrev Found : Stage P → Type 0
  Found stage = StageHeeds history stopped stage

  abbrev HeedsAt : Stage P → Type 0
  HeedsAt stage = Heeds history items stopped stage

  with_stage : (old new : Stage P) → Found new → HeedsAt old → HeedsAt new
  with_stage old new found h = record { running = h.running; is_open = found }

  pub still : (old new : Stage P) → new ≡ old → HeedsAt old → HeedsAt new
  still old new same h = subst (λ (x : Stage P). HeedsAt x) (sym same) h

  held_so : (v w : Visit P) → w.holds ≡ v.holds → WasFound history v.holds stopped → WasFound history w.holds stopped
  held_so v w same f = subst (λ (x : Holds). WasFound history x stopped) (sym same) f

  -- the request that is open makes a step that leaves how far the container had come for it
  pub stepped : (So : Visit P → Visit P → Type 0) (old new : Stage P) → ((v w : Visit P) → So v w → w.holds ≡ v.holds) → StepsVisit So old new → HeedsAt old → HeedsAt new
  stepped So old new same steps h = with_stage old new (by old h.is_open steps) h where
    by : (x : Stage P) → Found x → StepsVisit So x new → Found new
    by Resting o s = absurd s
    by (Serving v call) o s = subst (λ (x : Stage P). Found x) (sym s.2) (held_so v s.0 (same v s.0 s.1) o)
    by (Refusing why bytes) o s = absurd s
    by (Over end) o s = absurd s

  pub opens : {M : Type 0} (makes : M → ActionCall → List ℕ → P → Type 0) (maker : M) (worker : WorkerNo) (old new : Stage P) → OpensStage makes maker worker old new → HeedsAt old → HeedsAt new
  opens makes maker worker old new does h = with_stage old new (by old h.is_open does) h where
    one : (v : Visit P) (call : Option AskedCall) → WasFound history v.holds stopped → OpensCall makes maker worker v call new → Found new
    one v None o does = absurd does
    one v (Some asked) o does = subst (λ (x : Stage P). Found x) (sym does.2) (held_so v does.0 (ap (λ (x : Visit P). x.holds) does.1.new_is) o)

    by : (x : Stage P) → Found x → OpensStage makes maker worker x new → Found new
    by Resting o does = absurd does
    by (Serving v call) o does = one v call o does
    by (Refusing why bytes) o does = absurd does
    by (Over end) o does = absurd does

  -- its call is lost
  pub unmade : (old new : Stage P) → OnVisit old (λ v call. new ≡ Serving v None) → HeedsAt old → HeedsAt new
  unmade old new does h = with_stage old new (by old h.is_open does) h where
    by : (x : Stage P) → Found x → OnVisit x (λ v call. new ≡ Serving v None) → Found new
    by Resting o does = absurd does
    by (Serving v call) o does = subst (λ (x : Stage P). Found x) (sym does) o
    by (Refusing why bytes) o does = absurd does
    by (Over end) o does = absurd does

  pub out : (bytes : List ℕ) (old new : Stage P) → PutsOut old bytes new → HeedsAt old → HeedsAt new
  out bytes old new puts h = with_stage old new (by old h.is_open puts) h where
    to : (x : Stage P) → new ≡ x → Found x → Found new
    to x is o = subst (λ (y : Stage P). Found y) (sym is) o

    by : (x : Stage P) → Found x → PutsOut x bytes new → Found new
    by Resting o puts = absurd puts
    by (Serving v call) o puts = to _ puts.1 (record { within = o.within; found = o.found })
    by (Refusing why last) o puts = to _ puts.1 tt
    by (Over end) o puts = absurd puts

  pub given_up : (old : Stage P) → HeedsAt old → HeedsAt (dropped_stage old)
  given_up old h = with_stage old (dropped_stage old) (by old h.is_open) h where
    by : (x : Stage P) → Found x → Found (dropped_stage x)
    by Resting o = tt
    by (Serving v call) o = record { within = o.within; found = o.found }
    by (Refusing why bytes) o = tt
    by (Over end) o = o

  pub given_back : (old new : Stage P) (windows after : WindowsValue) → GivesBack old windows new after → HeedsAt old → HeedsAt new
  given_back old new windows after gives h = with_stage old new (by old h.is_open gives) h where
    to : (x : Stage P) → new ≡ x → Found x → Found new
    to x is o = subst (λ (y : Stage P). Found y) (sym is) o

    by : (x : Stage P) → Found x → GivesBack x windows new after → Found new
    by Resting o gives = to Resting gives.0 tt
    by (Serving v call) o gives = to (Serving gives.0 call) gives.2 (held_so v gives.0 (back_keeps v gives.0 gives.1.back) o)
    by (Refusing why bytes) o gives = to (Refusing why bytes) gives.0 tt
    by (Over end) o gives = to (Over end) gives.0 o

  -- an item tells what was found
  pub item : (old new : Stage P) (i : Item) → TakesItem old i new → HeedsAt old → WasFound history i.holds stopped
  item old new i takes h = by old h.is_open takes where
    by : (x : Stage P) → Found x → TakesItem x i new → WasFound history i.holds stopped
    by Resting o takes = absurd takes
    by (Serving v call) o takes = subst (λ (x : Holds). WasFound history x stopped) (sym (item_keeps v i takes.0)) o
    by (Refusing why bytes) o takes = absurd takes
    by (Over end) o takes = absurd takes

  -- behind an item no request is open
  pub rests : (old new : Stage P) (i : Item) → TakesItem old i new → Found new
  rests old new i takes = by old takes where
    at_rest : (close : Bool) → Found (rested close)
    at_rest true = tt
    at_rest false = tt

    by : (x : Stage P) → TakesItem x i new → Found new
    by Resting takes = absurd takes
    by (Serving v call) takes = subst (λ (x : Stage P). Found x) (sym takes.1) (at_rest v.facts.close)
    by (Refusing why bytes) takes = absurd takes
    by (Over end) takes = absurd takes

-- the container is not held yet for a request that begins
unheld : (history : List Event) (holds : Holds) → holds.held ≡ 0 → WasFound history holds false
unheld history holds none = record { within = omega (arith, none); found = ap (λ (n : ℕ). is_stopped (take n history)) none }

-- a request that begins
admitted : (P : Type 0) (history : List Event) (facts : VisitFacts) (counts : LinkCounts) (a : Admission) (cookie : Option Cookie) → StageHeeds {P = P} history false (admitted_visit facts counts a cookie)
admitted P history facts counts a None = unheld history (record { from = facts.front; front = facts.front; held = 0 }) refl
admitted P history facts counts a (Some cookie) = unheld history (record { from = facts.front; front = facts.front; held = 0 }) refl

by_arrival : (P : Type 0) (history : List Event) (front : Place) (counts : LinkCounts) (head : Head) (now : Moment) (arrival : Arrival) → StageHeeds {P = P} history false (begun_by front counts head now arrival)
by_arrival P history front counts head now (Refused why) = unheld history (record { from = front; front = front; held = 0 }) refl
by_arrival P history front counts head now (SerialsSpent request seen) = unheld history (record { from = front; front = front; held = 0 }) refl
by_arrival P history front counts head now (Admitted a) = admitted P history (facts_of a now front head) counts a a.cookie

module _ {P : Type 0} where
  pub meanwhile : (history after : List Event) (items : List Item) (stopped : Bool) (stage : Stage P) → IsPrefix history after → Heeds history items stopped stage → Heeds after items stopped stage
  meanwhile history after items stopped stage on h = record { running = none_stays history after items on h.running; is_open = by stage h.is_open } where
    by : (x : Stage P) → StageHeeds history stopped x → StageHeeds after stopped x
    by Resting o = tt
    by (Serving v call) o = found_stays history after v.holds stopped on o
    by (Refusing why bytes) o = tt
    by (Over end) o = o

  pub taken : {C R S : Type 0} (told : C → ℕ) (gives : Gives R) (looks : Looks S) (key : List ℕ) (home : HomeBoot) (counts : LinkCounts) (history : List Event) (items : List Item) (stopped : Bool) (s new : Shepherd P)
      (clock clock_after : C) (random random_after : R) (serials serials_after : S) → TakesRequest told gives looks key home counts s clock random serials new clock_after random_after serials_after
      → Heeds history items stopped s.stage → Heeds history items false new.stage
  taken told gives looks key home counts history items stopped s new clock clock_after random random_after serials serials_after takes h =
      record { running = h.running; is_open = by (taken_of s.received) takes }
    where
      to : (stage : Stage P) → new.stage ≡ stage → StageHeeds history false stage → StageHeeds history false new.stage
      to stage same found = subst (λ (x : Stage P). StageHeeds history false x) (sym same) found

      by : (x : Taken) → TakesBy told gives looks key home counts x s clock random serials new clock_after random_after serials_after → StageHeeds history false new.stage
      by (took.Request head) b =
          to (begun_by s.front counts head b.intake.now b.intake.arrival) (ap (λ (x : Shepherd P). x.stage) b.new_is) (by_arrival P history s.front counts head b.intake.now b.intake.arrival)
      by took.Bad b = to _ (ap (λ (x : Shepherd P). x.stage) b.new_is) tt
      by (took.TooLong len lines) b = to _ (ap (λ (x : Shepherd P). x.stage) b.new_is) tt
      by took.NoCoding b = to _ (ap (λ (x : Shepherd P). x.stage) b.new_is) tt
      by (took.BodyTooLong said) b = to _ (ap (λ (x : Shepherd P). x.stage) b.new_is) tt
      by took.More b = absurd b

  -- whether more bytes come stays, where a request is taken off them
  pub taken_ended : {C R S : Type 0} (told : C → ℕ) (gives : Gives R) (looks : Looks S) (key : List ℕ) (home : HomeBoot) (counts : LinkCounts) (s new : Shepherd P) (clock clock_after : C) (random random_after : R) (serials serials_after : S)
      → TakesRequest told gives looks key home counts s clock random serials new clock_after random_after serials_after → new.ended ≡ s.ended
  taken_ended told gives looks key home counts s new clock clock_after random random_after serials serials_after takes = by (taken_of s.received) takes where
    by : (x : Taken) → TakesBy told gives looks key home counts x s clock random serials new clock_after random_after serials_after → new.ended ≡ s.ended
    by (took.Request head) b = ap (λ (x : Shepherd P). x.ended) b.new_is
    by took.Bad b = ap (λ (x : Shepherd P). x.ended) b.new_is
    by (took.TooLong len lines) b = ap (λ (x : Shepherd P). x.ended) b.new_is
    by took.NoCoding b = ap (λ (x : Shepherd P). x.ended) b.new_is
    by (took.BodyTooLong said) b = ap (λ (x : Shepherd P). x.ended) b.new_is
    by took.More b = absurd b

  -- a step in the container: where the request has left it, it was found so at the end of the step
  pub inside : (asks : P → List Answer → Next) (items : List Item) (before now found : Bool) (old new : Stage P) (container after : ContainerValue) → StepsVisit (λ v w. VisitsInside asks v container w after) old new
      → found ≡ is_stopped (events_of after)
      → ((v : Visit P) (call : Option AskedCall) → new ≡ Serving v call → is_inside (turn_by (visit_turn v)) ≡ true → now ≡ before)
      → ((v : Visit P) (call : Option AskedCall) → new ≡ Serving v call → is_inside (turn_by (visit_turn v)) ≡ false → now ≡ found)
      → Heeds (events_of after) items before old → Heeds (events_of after) items now new
  inside asks items before now found old new container after steps is as_before as_found h = record { running = h.running; is_open = by old h.is_open steps } where
    of : (v w : Visit P) (call : Option AskedCall) → new ≡ Serving w call → WasFound (events_of after) v.holds before → HeldSo v w after → WasFound (events_of after) w.holds now
    of v w call at o (stays inside same) =
        subst (λ (b : Bool). WasFound (events_of after) w.holds b) (sym (as_before w call at inside)) (held_so (events_of after) items before v w same o)
    of v w call at o (leaves outside all) =
        subst (λ (b : Bool). WasFound (events_of after) w.holds b) (sym (as_found w call at outside))
        (record {
          within = omega (arith, all);
          found = ap (λ (n : ℕ). is_stopped (take n (events_of after))) all ∙ ap is_stopped (take_all (length (events_of after)) (events_of after) (omega arith)) ∙ sym is;
        })

    by : (x : Stage P) → StageHeeds (events_of after) before x → StepsVisit (λ v w. VisitsInside asks v container w after) x new → StageHeeds (events_of after) now new
    by Resting o s = absurd s
    by (Serving v call) o s =
        subst (λ (x : Stage P). StageHeeds (events_of after) now x) (sym s.2) (of v s.0 call s.2 o (inside_holds asks v container s.0 after s.1))
    by (Refusing why bytes) o s = absurd s
    by (Over end) o s = absurd s
