-- To which request each item of a connection goes back: to its head, and to what was decided of it and drawn for it.
use Rattle.std.specs.Prelude.{◌≡◌, ℕ, true, List, [], ◌∷◌, ◌++◌, map, All, Option, Some, None, option_map}
use Rattle.std.specs.List.{flat_map}
use Rattle.auction_calls.specs.declared.action.ActionCall.{ActionCall}
use Rattle.boot_core.specs.declared.boot.Start.{Start}
use Rattle.call_ticket.specs.declared.next.Answer.{Answer}
use Rattle.call_ticket.specs.declared.next.Next.{Next}
use Rattle.container_core.specs.declared.history.Event.{Event}
use Rattle.crash_base.specs.declared.numbers.Moment.{Moment}
use Rattle.crash_base.specs.declared.numbers.Place.{Place}
use Rattle.crash_base.specs.declared.numbers.RequestNo.{RequestNo}
use Rattle.http_wire.specs.declared.taken.Head.{Head}
use Rattle.outcome_items.specs.declared.item.Item.{Item}
use Rattle.outcome_items.specs.declared.outcome.ItemOutcome.{ItemOutcome}
use Rattle.outcome_items.specs.declared.outcome.ItemOutcome.TheVariants as item
use Rattle.outside.specs.declared.link.LinkEvent.{LinkEvent}
use Rattle.request_decisions.specs.Calls.{call_by}
use Rattle.request_decisions.specs.Counts.{ascends}
use Rattle.request_decisions.specs.declared.draws.Draw.{Draw}
use Rattle.request_intake.specs.Intakes.{Gives, Looks, TakesIn}
use Rattle.request_intake.specs.declared.intake.Admission.{Admission}
use Rattle.request_intake.specs.declared.intake.Arrival.{Arrival}
use Rattle.request_intake.specs.declared.intake.Arrival.TheVariants.{Refused, SerialsSpent, Admitted}
use Rattle.request_intake.specs.declared.intake.HomeBoot.{HomeBoot}
use Rattle.request_intake.specs.declared.intake.Intake.{Intake}
use Rattle.request_tries.specs.Ends.{Errand}
use Rattle.request_visit.specs.Accounts.{Accounts}
use Rattle.request_visit.specs.Advancing.{IsItemOf, value_of}
use Rattle.request_visit.specs.Sessions.{SessionStands}
use Rattle.request_visit.specs.Visits.{turn as visit_turn}
use Rattle.request_visit.specs.declared.facts.VisitFacts.{VisitFacts}
use Rattle.request_visit.specs.declared.visit.Fate.{Fate}
use Rattle.request_visit.specs.declared.visit.Fate.TheVariants.{Known, Writing}
use Rattle.request_visit.specs.declared.visit.Turn.TheVariants as visit
use Rattle.request_visit.specs.declared.visit.Visit.{Visit}
use Rattle.request_visit.specs.declared.visit.Work.{Work}
use Rattle.request_visit.specs.declared.visit.Work.TheVariants.{Reading, Opening, Serving as ServingBy, Committed, Decided, Answered, Left}
use Rattle.session_cookie.specs.declared.cookie.Cookie.{Cookie}
use Rattle.ssm_stub.specs.Reads.{ReadState, read_start}
use Rattle.shepherd.specs.Steps.{asked_call, bare_facts, facts_of}
use Rattle.shepherd.specs.declared.shepherd.AskedCall.{AskedCall}
use Rattle.shepherd.specs.declared.shepherd.Shepherd.{Shepherd}
use Rattle.shepherd.specs.declared.shepherd.Stage.{Stage}
use Rattle.shepherd.specs.declared.shepherd.Stage.TheVariants.{Resting, Serving, Refusing, Over}

-- a request that was taken off the bytes and taken in: its head, and what was decided of it and drawn for it
pub record TakenIn : Type 0 where
  pub head : Head
  pub intake : Intake

-- The request of a head was taken in under a key and in a boot, with what some random words and serial numbers gave.
abbrev pub WasTakenIn : {R S : Type 0} → Gives R → Looks S → List ℕ → HomeBoot → TakenIn → Type 0
WasTakenIn {R} {S} gives looks key home t =
    (random : R) × (serials : S) × (random_after : R) × (serials_after : S)
    × TakesIn gives looks key home t.head random serials t.intake random_after serials_after

-- what is known of a request that was taken in, behind an item with this front
abbrev pub facts_by : Place → Head → Moment → Arrival → VisitFacts
facts_by front head now (Refused why) = bare_facts None now front head
facts_by front head now (SerialsSpent request seen) = bare_facts request now front head
facts_by front head now (Admitted a) = facts_of a now front head

-- how the read of its session begins, if it has one: by the cookie that it was admitted with, and with the nonce that
-- was drawn for that read
abbrev pub read_by : Moment → Arrival → Option ReadState
read_by now (Refused why) = None
read_by now (SerialsSpent request seen) = None
read_by now (Admitted a) = option_map (λ (c : Cookie). read_start now a.read c) a.cookie

-- a request was admitted, and this is so of its admission
abbrev pub OnAdmitted : Arrival → (Admission → Type 0) → Type 0
OnAdmitted (Refused why) So = ⊥
OnAdmitted (SerialsSpent request seen) So = ⊥
OnAdmitted (Admitted a) So = So a

-- What a request asks of the container goes back to its admission: it has its number, and a text and a program that
-- were made of its own call, as the user of a session with this value asks for it.
pub record IsErrandOf {P : Type 0} (asks : P → List Answer → Next) (makes : ActionCall → List ℕ → P → Type 0) (value : Option (List ℕ)) (errand : Errand) (a : Admission) : Type 0 where
  pub text : List ℕ
  pub program : P
  pub made : makes (call_by a.call value) text program
  pub errand_is : errand ≡ record { request = a.request; text = text; asks = asks program }

-- What became of a request goes back to how it arrived: it is refused, or told that a serial number is spent, exactly
-- where it arrived so; its session is gone only where it was admitted; and where it came to the container, it was
-- admitted, and this is so of its admission.
abbrev pub BecameBy : Arrival → (Admission → Type 0) → ItemOutcome → Type 0
BecameBy arrival So (item.Refused why) = arrival ≡ Refused why
BecameBy arrival So (item.SerialsSpent seen) = (request : Option RequestNo) × (arrival ≡ SerialsSpent request seen)
BecameBy arrival So (item.Expired now expiry) = OnAdmitted arrival (λ a. Unit {0})
BecameBy arrival So (item.Lost causes) = OnAdmitted arrival (λ a. Unit {0})
BecameBy arrival So (item.Ended end) = OnAdmitted arrival So
BecameBy arrival So (item.Overload place again full) = OnAdmitted arrival So
BecameBy arrival So (item.Missed place again causes) = OnAdmitted arrival So

-- the same, of what is told of it so far
abbrev pub FateBy : Arrival → (Admission → Type 0) → Fate → Type 0
FateBy arrival So (Known became) = BecameBy arrival So became
FateBy arrival So (Writing place again) = OnAdmitted arrival So

-- How far a request has come goes back to how it arrived: until its program is made, what it asks for is its own call;
-- and from then on this is so of its admission.
abbrev pub WorkBy : {P : Type 0} → Arrival → (Admission → Type 0) → Option AskedCall → Work P → Type 0
WorkBy arrival So call Reading = OnAdmitted arrival (λ a. call ≡ Some (asked_call a))
WorkBy arrival So call Opening = OnAdmitted arrival (λ a. call ≡ Some (asked_call a))
WorkBy arrival So call (ServingBy tries program) = OnAdmitted arrival So
WorkBy arrival So call (Committed place again shown) = OnAdmitted arrival So
WorkBy arrival So call (Decided became) = BecameBy arrival So became
WorkBy arrival So call (Answered fate bytes) = FateBy arrival So fate
WorkBy arrival So call (Left fate) = FateBy arrival So fate

-- A request goes back to how it was taken in: what is known of it, the read of its session, and its errand are all that
-- of its own head and its own intake; and what it added to the history is what this errand adds.
pub record GoesBack {P L : Type 0} (asks : P → List Answer → Next) (calls : L → LinkEvent → L → Type 0) (makes : ActionCall → List ℕ → P → Type 0) (came : TakenIn → Type 0) (start : Start) (history : List Event) (t : TakenIn) (errand : Errand) (own : List Event) (v : Visit P) (call : Option AskedCall) : Type 0 where
  pub came_so : came t
  pub facts_are : v.facts ≡ facts_by v.facts.front t.head t.intake.now t.intake.arrival
  pub session : SessionStands calls (read_by t.intake.now t.intake.arrival) history v
  pub accounts : Accounts asks start history errand own v
  pub work : WorkBy t.intake.arrival (λ a. IsErrandOf asks makes (option_map value_of v.lease) errand a) call v.work

-- a request that was served: how it was taken in; how it was at its end, and its call, if no program was made of that;
-- its item; and what it asked of the container, and added to the history of that
pub record Attributed (P : Type 0) : Type 0 where
  pub taken : TakenIn
  pub visit : Visit P
  pub call : Option AskedCall
  pub item : Item
  pub errand : Errand
  pub own : List Event

-- how they were taken in
abbrev pub taken_in : {P : Type 0} → List (Attributed P) → List TakenIn
taken_in {P} served = map (λ (x : Attributed P). x.taken) served

-- their items
abbrev pub attributed_items : {P : Type 0} → List (Attributed P) → List Item
attributed_items {P} served = map (λ (x : Attributed P). x.item) served

-- the heads of requests that were taken in
abbrev pub taken_heads : List TakenIn → List Head
taken_heads taken = map (λ (t : TakenIn). t.head) taken

-- what was drawn for them, in order
abbrev pub drawn_for_all : List TakenIn → List Draw
drawn_for_all taken = flat_map (λ (t : TakenIn). t.intake.drawn) taken

-- their moments
abbrev pub moments_of : List TakenIn → List ℕ
moments_of taken = map (λ (t : TakenIn). t.intake.now.0) taken

-- A request that was served has come to its end, and goes back to how it was taken in.
pub record IsAttributed {P L : Type 0} (asks : P → List Answer → Next) (calls : L → LinkEvent → L → Type 0) (makes : ActionCall → List ℕ → P → Type 0) (came : TakenIn → Type 0) (start : Start) (history : List Event) (x : Attributed P) : Type 0 where
  pub over : visit_turn x.visit ≡ visit.Over
  pub is_item : IsItemOf x.visit x.visit.work x.item
  pub goes_back : GoesBack asks calls makes came start history x.taken x.errand x.own x.visit x.call

-- The request that is open is the one that was taken in last, and goes back to how that was.
pub record IsOpenBy {P L : Type 0} (asks : P → List Answer → Next) (calls : L → LinkEvent → L → Type 0) (makes : ActionCall → List ℕ → P → Type 0) (came : TakenIn → Type 0) (start : Start) (history : List Event) (opened : List TakenIn) (v : Visit P) (call : Option AskedCall) : Type 0 where
  pub taken : TakenIn
  pub opened_is : opened ≡ taken ∷ []
  pub errand : Errand
  pub own : List Event
  pub goes_back : GoesBack asks calls makes came start history taken errand own v call

-- the same of a stage
abbrev pub StageBy : {P L : Type 0} → (P → List Answer → Next) → (L → LinkEvent → L → Type 0) → (ActionCall → List ℕ → P → Type 0) → (TakenIn → Type 0) → Start → List Event → List TakenIn → Stage P → Type 0
StageBy asks calls makes came start history opened Resting = opened ≡ []
StageBy asks calls makes came start history opened (Serving v call) =
    IsOpenBy asks calls makes came start history opened v call
StageBy asks calls makes came start history opened (Refusing why bytes) = opened ≡ []
StageBy asks calls makes came start history opened (Over end) = opened ≡ []

-- A connection attributes each of its items to its request. Its heads are those of the requests that were taken in, in
-- order: those of its items, and the one that is open. All that was drawn was drawn for them, in order. And no moment
-- is less than the earliest one, which the clock told when the connection began, or than the one before it, or more
-- than the latest one that the clock told.
pub record AttributesBy {P L : Type 0} (asks : P → List Answer → Next) (calls : L → LinkEvent → L → Type 0) (makes : ActionCall → List ℕ → P → Type 0) (came : TakenIn → Type 0) (start : Start) (history : List Event) (heads : List Head) (drawn : List Draw) (earliest latest : ℕ) (items : List Item) (s : Shepherd P) : Type 0 where
  pub served : List (Attributed P)
  pub opened : List TakenIn
  pub heads_are : heads ≡ taken_heads (taken_in served ++ opened)
  pub drawn_are : drawn ≡ drawn_for_all (taken_in served ++ opened)
  pub rise : ascends (earliest ∷ (moments_of (taken_in served ++ opened) ++ latest ∷ [])) ≡ true
  pub items_are : items ≡ attributed_items served
  pub attributed : All (IsAttributed asks calls makes came start history) served
  pub is_open : StageBy asks calls makes came start history opened s.stage

-- what requests are served by: the key of the service, the boot that takes them in, and what makes programs of calls
pub record Service (M : Type 0) : Type 0 where
  pub key : List ℕ
  pub home : HomeBoot
  pub maker : M

-- the same of a connection of a service
abbrev pub Attributing : {P L M R S : Type 0} → (P → List Answer → Next) → (L → LinkEvent → L → Type 0) → (M → ActionCall → List ℕ → P → Type 0) → Gives R → Looks S → Service M → Start → List Event → List Head → List Draw → ℕ → ℕ → List Item → Shepherd P → Type 0
Attributing asks calls makes gives looks service start history heads drawn earliest latest items s =
    AttributesBy asks calls (makes service.maker) (WasTakenIn gives looks service.key service.home) start history heads drawn earliest latest items s
