-- What items tell of the requests that they are for.
use Rattle.std.specs.Prelude.{All, option_map}
use Rattle.std.proofs.Common.{◌≡◌, ℕ, ◌≤◌, true, List, [], ◌∷◌, ◌++◌, length, map, take, arith, refl, sym, ap, ◌∙◌, subst, Option, Some}
use Rattle.std.proofs.lemmas.List.Elements.{All-cons, All-head, All-nil, All-tail}
use Rattle.std.proofs.lemmas.List.{append_assoc, map-append}
use Rattle.auction_calls.specs.declared.action.ActionCall.{ActionCall}
use Rattle.boot_core.specs.declared.boot.Start.{Start}
use Rattle.call_ticket.specs.declared.next.Answer.{Answer}
use Rattle.call_ticket.specs.declared.next.Next.{Next}
use Rattle.container_core.specs.History.{entries_in}
use Rattle.container_core.specs.declared.history.Event.{Event}
use Rattle.crash_base.specs.declared.numbers.Moment.{Moment}
use Rattle.crash_base.specs.declared.numbers.Place.{Place}
use Rattle.http_wire.specs.declared.taken.Head.{Head}
use Rattle.outcome_items.specs.Traces.{event_trace}
use Rattle.outcome_items.specs.declared.item.Holds.{Holds}
use Rattle.outcome_items.specs.declared.item.Item.{Item}
use Rattle.outcome_items.specs.declared.outcome.ItemOutcome.{ItemOutcome}
use Rattle.outside.specs.declared.link.LinkEvent.{LinkEvent}
use Rattle.request_decisions.specs.Counts.{ascends}
use Rattle.request_decisions.specs.declared.draws.Draw.{Draw}
use Rattle.request_intake.specs.Intakes.{Gives, Looks}
use Rattle.request_intake.specs.declared.intake.Admission.{Admission}
use Rattle.request_intake.specs.declared.intake.Arrival.{Arrival}
use Rattle.request_intake.specs.declared.intake.Arrival.TheVariants.{Refused, SerialsSpent, Admitted}
use Rattle.request_tries.specs.Ends.{Errand}
use Rattle.request_tries.specs.Serving.{TriesValue}
use Rattle.request_visit.specs.Accounts.{Accounts, AccountsOf, Became}
use Rattle.request_visit.specs.Advancing.{IsItemOf, value_of}
use Rattle.request_visit.specs.Sessions.{SessionStands, TellsSession}
use Rattle.request_visit.specs.Visits.{turn as visit_turn}
use Rattle.request_visit.specs.declared.facts.VisitFacts.{VisitFacts}
use Rattle.request_visit.specs.declared.visit.Fate.TheVariants.{Known, Writing}
use Rattle.request_visit.specs.declared.visit.Turn.TheVariants as visit
use Rattle.request_visit.specs.declared.visit.Visit.{Visit}
use Rattle.request_visit.specs.declared.visit.Work.{Work}
use Rattle.request_visit.specs.declared.visit.Work.TheVariants.{Reading, Opening, Serving as ServingBy, Committed, Decided, Answered, Left}
use Rattle.shepherd.specs.Accounting.{trace_in}
use Rattle.shepherd.specs.declared.shepherd.AskedCall.{AskedCall}
use Rattle.shepherd.specs.declared.shepherd.Shepherd.{Shepherd}
use Rattle.shepherd.specs.declared.shepherd.Stage.{Stage}
use Rattle.shepherd.specs.declared.shepherd.Stage.TheVariants.{Resting, Serving, Refusing, Over}
use Rattle.ssm_stub.specs.Reads.{ReadState}
use Rattle.served_items.specs.Attributing.{Attributed, AttributesBy, BecameBy, IsAttributed, IsErrandOf, Service, StageBy, TakenIn, WasTakenIn, WorkBy, attributed_items, drawn_for_all, facts_by, taken_heads, moments_of, read_by, taken_in}
use Rattle.served_items.specs.Served.{AreServed, IsItemFor, ServedItem}

-- what an item tells of its request
pub record Facts {P : Type 0} (v : Visit P) (i : Item) : Type 0 where
  pub number : i.request ≡ v.facts.request
  pub moment : i.moment ≡ v.facts.now
  pub holds : i.holds ≡ v.holds
  pub value : i.value ≡ option_map value_of v.lease

pub item_facts : {P : Type 0} (v : Visit P) (w : Work P) (i : Item) → IsItemOf v w i → Facts v i
item_facts v Reading i is = absurd is
item_facts v Opening i is = absurd is
item_facts v (ServingBy tries program) i is = absurd is
item_facts v (Committed place again shown) i is = absurd is
item_facts v (Decided became) i is = absurd is
item_facts v (Answered fate bytes) i is = absurd is
item_facts v (Left fate) i is = record {
  number = ap (λ (x : Item). x.request) is;
  moment = ap (λ (x : Item). x.moment) is;
  holds = ap (λ (x : Item). x.holds) is;
  value = ap (λ (x : Item). x.value) is;
}

item_by : {P : Type 0} (arrival : Arrival) (So : Admission → Type 0) (call : Option AskedCall) (v : Visit P) (w : Work P) (i : Item) → IsItemOf v w i → WorkBy arrival So call w → BecameBy arrival So i.outcome
item_by arrival So call v Reading i is h = absurd is
item_by arrival So call v Opening i is h = absurd is
item_by arrival So call v (ServingBy tries program) i is h = absurd is
item_by arrival So call v (Committed place again shown) i is h = absurd is
item_by arrival So call v (Decided became) i is h = absurd is
item_by arrival So call v (Answered fate bytes) i is h = absurd is
item_by arrival So call v (Left (Known became)) i is h = subst (λ (o : ItemOutcome). BecameBy arrival So o) (sym (ap (λ (x : Item). x.outcome) is)) h
item_by arrival So call v (Left (Writing place again)) i is h = subst (λ (o : ItemOutcome). BecameBy arrival So o) (sym (ap (λ (x : Item). x.outcome) is)) h

moment_by : (front : Place) (head : Head) (now : Moment) (arrival : Arrival) → (facts_by front head now arrival).now ≡ now
moment_by front head now (Refused why) = refl
moment_by front head now (SerialsSpent request seen) = refl
moment_by front head now (Admitted a) = refl

-- what laws tell of an item
abbrev pub ItemBecame : {P : Type 0} → (P → List Answer → Next) → Type 0
ItemBecame {P} asks = (start : Start) (history : List Event) (errand : Errand) (own : List Event) (v : Visit P) (i : Item) → IsItemOf v v.work i → Accounts asks start history errand own v
    → Became start history errand v.facts v.holds own i.outcome × (own ≡ event_trace (entries_in (take i.holds.held history)) i)

abbrev pub ItemSession : {L : Type 0} (P : Type 0) → (L → LinkEvent → L → Type 0) → Type 0
ItemSession P calls = (begin : Option ReadState) (history : List Event) (v : Visit P) (i : Item) → visit_turn v ≡ visit.Over → IsItemOf v v.work i → SessionStands calls begin history v
    → TellsSession calls begin v.facts (entries_in (take i.holds.held history)) i

module _ {P L : Type 0} (asks : P → List Answer → Next) (calls : L → LinkEvent → L → Type 0) (makes : ActionCall → List ℕ → P → Type 0) (came : TakenIn → Type 0) (start : Start) (history : List Event) where
  item_for : ItemBecame asks → ItemSession P calls → (x : Attributed P) → IsAttributed asks calls makes came start history x → IsItemFor asks calls makes came start history x.taken x.item
  item_for became sessions x h =
      let v = x.visit in
      let g = h.goes_back in
      let f = item_facts v v.work x.item h.is_item in
      let found = became start history x.errand x.own v x.item h.is_item g.accounts in
      record {
        came_so = g.came_so;
        facts = v.facts;
        facts_are = g.facts_are;
        number_is = f.number;
        moment_is = f.moment ∙ ap (λ (y : VisitFacts). y.now) g.facts_are ∙ moment_by v.facts.front x.taken.head x.taken.intake.now x.taken.intake.arrival;
        session = sessions (read_by x.taken.intake.now x.taken.intake.arrival) history v x.item h.over h.is_item g.session;
        errand = x.errand;
        became = subst (λ (y : Holds). Became start history x.errand v.facts y (trace_in history x.item) x.item.outcome) (sym f.holds)
            (subst (λ (y : List Event). Became start history x.errand v.facts v.holds y x.item.outcome) found.1 found.0);
        became_by = subst (λ (y : Option (List ℕ)). BecameBy x.taken.intake.arrival (λ a. IsErrandOf asks makes y x.errand a) x.item.outcome) (sym f.value)
            (item_by x.taken.intake.arrival (λ a. IsErrandOf asks makes (option_map value_of v.lease) x.errand a) x.call v v.work x.item h.is_item g.work);
      }

abbrev told : {P : Type 0} → List (Attributed P) → List ServedItem
told {P} served = map (λ (x : Attributed P). record { taken = x.taken; item = x.item }) served

told_taken : {P : Type 0} (served : List (Attributed P)) → taken_in served ≡ map (λ (x : ServedItem). x.taken) (told served)
told_taken [] = refl
told_taken (x ∷ served) = ap (λ xs. x.taken ∷ xs) (told_taken served)

told_items : {P : Type 0} (served : List (Attributed P)) → attributed_items served ≡ map (λ (x : ServedItem). x.item) (told served)
told_items [] = refl
told_items (x ∷ served) = ap (λ xs. x.item ∷ xs) (told_items served)

all_for : {P L : Type 0} (asks : P → List Answer → Next) (calls : L → LinkEvent → L → Type 0) (makes : ActionCall → List ℕ → P → Type 0) (came : TakenIn → Type 0) (start : Start) (history : List Event) → ItemBecame asks → ItemSession P calls
    → (served : List (Attributed P)) → All (IsAttributed asks calls makes came start history) served → All (λ (x : ServedItem). IsItemFor asks calls makes came start history x.taken x.item) (told served)
all_for asks calls makes came start history became sessions [] h = All-nil (λ (x : ServedItem). IsItemFor asks calls makes came start history x.taken x.item)
all_for asks calls makes came start history became sessions (x ∷ served) h =
    All-cons (λ (y : ServedItem). IsItemFor asks calls makes came start history y.taken y.item) (record { taken = x.taken; item = x.item }) (told served)
    (item_for asks calls makes came start history became sessions x (All-head (IsAttributed asks calls makes came start history) x served h))
    (all_for asks calls makes came start history became sessions served (All-tail (IsAttributed asks calls makes came start history) x served h))

same_moments : {P L : Type 0} (asks : P → List Answer → Next) (calls : L → LinkEvent → L → Type 0) (makes : ActionCall → List ℕ → P → Type 0) (came : TakenIn → Type 0) (start : Start) (history : List Event)
    (served : List (Attributed P)) → All (IsAttributed asks calls makes came start history) served → moments_of (taken_in served) ≡ map (λ (i : Item). i.moment.0) (attributed_items served)
same_moments asks calls makes came start history [] h = refl
same_moments asks calls makes came start history (x ∷ served) h =
    let first : IsAttributed asks calls makes came start history x = All-head (IsAttributed asks calls makes came start history) x served h in
    let moment : x.item.moment ≡ x.taken.intake.now = (item_facts x.visit x.visit.work x.item first.is_item).moment ∙ ap (λ (y : VisitFacts). y.now) first.goes_back.facts_are
    ∙ moment_by x.visit.facts.front x.taken.head x.taken.intake.now x.taken.intake.arrival in
    ap (λ (m : Moment). m.0 ∷ moments_of (taken_in served)) (sym moment)
    ∙ ap (λ ms. x.item.moment.0 ∷ ms) (same_moments asks calls makes came start history served (All-tail (IsAttributed asks calls makes came start history) x served h))

one_at_most : {P L : Type 0} (asks : P → List Answer → Next) (calls : L → LinkEvent → L → Type 0) (makes : ActionCall → List ℕ → P → Type 0) (came : TakenIn → Type 0) (start : Start) (history : List Event) (opened : List TakenIn) (stage : Stage P)
    → StageBy asks calls makes came start history opened stage → length opened ≤ 1
one_at_most asks calls makes came start history opened Resting h = subst (λ (ts : List TakenIn). length ts ≤ 1) (sym h) (omega arith)
one_at_most asks calls makes came start history opened (Serving v call) h = subst (λ (ts : List TakenIn). length ts ≤ 1) (sym h.opened_is) (omega arith)
one_at_most asks calls makes came start history opened (Refusing why bytes) h = subst (λ (ts : List TakenIn). length ts ≤ 1) (sym h) (omega arith)
one_at_most asks calls makes came start history opened (Over end) h = subst (λ (ts : List TakenIn). length ts ≤ 1) (sym h) (omega arith)

pub served : {P L M R S : Type 0} (asks : P → List Answer → Next) (calls : L → LinkEvent → L → Type 0) (makes : M → ActionCall → List ℕ → P → Type 0) (gives : Gives R) (looks : Looks S) → ItemBecame asks → ItemSession P calls
    → (service : Service M) (start : Start) (history : List Event) (heads : List Head) (drawn : List Draw) (earliest latest : ℕ) (items : List Item) (s : Shepherd P)
    → AttributesBy asks calls (makes service.maker) (WasTakenIn gives looks service.key service.home) start history heads drawn earliest latest items s
    → AreServed asks calls makes gives looks service start history heads drawn earliest latest items
served {P} {L} {M} {R} {S} asks calls makes gives looks became sessions service start history heads drawn earliest latest items s h =
    let moments : moments_of (taken_in h.served ++ h.opened) ++ latest ∷ [] ≡ map (λ (i : Item). i.moment.0) items ++ (moments_of h.opened ++ latest ∷ []) =
    ap (λ ms. ms ++ latest ∷ []) (map-append (λ (t : TakenIn). t.intake.now.0) (taken_in h.served) h.opened)
    ∙ append_assoc (moments_of (taken_in h.served)) (moments_of h.opened) (latest ∷ [])
    ∙ ap (λ ms. ms ++ (moments_of h.opened ++ latest ∷ [])) (same_moments asks calls (makes service.maker) (WasTakenIn gives looks service.key service.home) start history h.served h.attributed
    ∙ ap (λ is. map (λ (i : Item). i.moment.0) is) (sym h.items_are)) in
    record {
      served = told h.served;
      opened = h.opened;
      one_open = one_at_most asks calls (makes service.maker) (WasTakenIn gives looks service.key service.home) start history h.opened s.stage h.is_open;
      heads_are = h.heads_are ∙ ap (λ ts. taken_heads (ts ++ h.opened)) (told_taken h.served);
      drawn_are = h.drawn_are ∙ ap (λ ts. drawn_for_all (ts ++ h.opened)) (told_taken h.served);
      items_are = h.items_are ∙ told_items h.served;
      rise = subst (λ ms. ascends (earliest ∷ ms) ≡ true) moments h.rise;
      each = all_for asks calls (makes service.maker) (WasTakenIn gives looks service.key service.home) start history became sessions h.served h.attributed;
    }

-- The tries of the request that is open bear its number.
pub bear : {P L : Type 0} (asks : P → List Answer → Next) (calls : L → LinkEvent → L → Type 0) (makes : ActionCall → List ℕ → P → Type 0) (came : TakenIn → Type 0) (start : Start) (history : List Event) (heads : List Head) (drawn : List Draw) (earliest latest : ℕ) (items : List Item) (s : Shepherd P)
    (v : Visit P) (call : Option AskedCall) (tries : TriesValue) (program : P) → AttributesBy asks calls makes came start history heads drawn earliest latest items s → s.stage ≡ Serving v call → v.work ≡ ServingBy tries program
    → v.facts.request ≡ Some tries.request
bear {P} asks calls makes came start history heads drawn earliest latest items s v call tries program h was is =
    let t = subst (λ (x : Stage P). StageBy asks calls makes came start history h.opened x) was h.is_open in
    let a = subst (λ (w : Work P). AccountsOf asks start history t.errand v.facts v.holds t.own w) is t.goes_back.accounts in
    a.number_is ∙ ap (λ (e : Errand). Some e.request) a.errand_is
