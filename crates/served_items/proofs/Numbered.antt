-- The number of a request is of the boot that took it in.
use Rattle.std.specs.Prelude.{◌↔◌, ◌==◌}
use Rattle.std.proofs.Common.{◌≡◌, ℕ, Bool, true, false, if◌then◌else◌, List, length, refl, sym, ap, ◌∙◌, subst, Option, Some, None}
use Rattle.auction_calls.specs.declared.action.ActionCall.{ActionCall}
use Rattle.boot_core.specs.declared.boot.Start.{Start}
use Rattle.call_ticket.specs.declared.next.Answer.{Answer}
use Rattle.call_ticket.specs.declared.next.Next.{Next}
use Rattle.container_core.specs.declared.history.Event.{Event}
use Rattle.crash_base.specs.declared.numbers.Place.{Place}
use Rattle.crash_base.specs.declared.numbers.RequestNo.{RequestNo}
use Rattle.http_wire.specs.declared.taken.Head.{Head}
use Rattle.http_wire.specs.declared.taken.MethodKind.{MethodKind}
use Rattle.http_wire.specs.declared.taken.MethodKind.TheVariants.{Get, HeadOnly, Post, Other}
use Rattle.outcome_items.specs.declared.item.Item.{Item}
use Rattle.outside.specs.declared.link.LinkEvent.{LinkEvent}
use Rattle.request_decisions.specs.Calls.{request_of}
use Rattle.request_decisions.specs.Decisions.{IsDecided, IsNumbered, IsOrdered}
use Rattle.request_decisions.specs.declared.decision.Decision.{Decision}
use Rattle.request_decisions.specs.declared.decision.Decision.TheVariants as decided
use Rattle.request_decisions.specs.declared.decision.Order.{Order}
use Rattle.request_decisions.specs.declared.draws.Draw.{Draw}
use Rattle.request_intake.specs.Intakes.{Gives, Looks, TakesInBy, TakesInOrder, known_request}
use Rattle.request_intake.specs.declared.intake.Admission.{Admission}
use Rattle.request_intake.specs.declared.intake.Arrival.{Arrival}
use Rattle.request_intake.specs.declared.intake.Arrival.TheVariants.{Refused, SerialsSpent, Admitted}
use Rattle.request_intake.specs.declared.intake.HomeBoot.{HomeBoot}
use Rattle.request_tries.specs.Serving.{TriesValue}
use Rattle.request_visit.specs.declared.facts.VisitFacts.{VisitFacts}
use Rattle.request_visit.specs.declared.visit.Visit.{Visit}
use Rattle.request_visit.specs.declared.visit.Work.TheVariants.{Serving as ServingBy}
use Rattle.shepherd.specs.declared.shepherd.AskedCall.{AskedCall}
use Rattle.shepherd.specs.declared.shepherd.Shepherd.{Shepherd}
use Rattle.shepherd.specs.declared.shepherd.Stage.{Stage}
use Rattle.shepherd.specs.declared.shepherd.Stage.TheVariants.{Serving}
use Rattle.served_items.specs.Attributing.{AttributesBy, StageBy, TakenIn, WasTakenIn, facts_by}
use Rattle.served_items.specs.Served.{IsItemFor}
use Rattle.served_items.proofs.Serving.{bear}

-- that the orders are these, as a law says it
abbrev pub AreOrders : Type 0
AreOrders = (key : List ℕ) (boot : ℕ) (head : Head) (o : Order) → IsDecided key boot head (decided.Ordered o) ↔ IsOrdered key boot head o

-- the number of a token is of the boot
of_token : (key : List ℕ) (boot : ℕ) (method : MethodKind) (form : List ℕ) (o : Order) (number : RequestNo) → IsNumbered key boot method form o → o.number ≡ Some number → number.boot ≡ boot
of_token key boot Get form o number h is = absurd (cc)
of_token key boot HeadOnly form o number h is = absurd (cc)
of_token key boot Other form o number h is = absurd (cc)
of_token key boot Post form o number h is =
    let token : o.number ≡ Some h.request = h.number_is in
    let same : number ≡ h.request = cc in
    ap (λ (r : RequestNo). r.boot) same ∙ h.in_boot

-- a number that was drawn is of the boot too
of_draw : (boot : ℕ) (number : Option RequestNo) (drawn : List Draw) → ((n : RequestNo) → number ≡ Some n → n.boot ≡ boot) → (request_of boot number drawn).boot ≡ boot
of_draw boot (Some n) drawn token = token n refl
of_draw boot None drawn token = refl

of_known : (boot : ℕ) (number : Option RequestNo) (drawn : List Draw) (request : RequestNo) → ((n : RequestNo) → number ≡ Some n → n.boot ≡ boot) → known_request boot number drawn ≡ Some request → request.boot ≡ boot
of_known boot (Some n) drawn request token is =
    let same : request ≡ n = cc in
    ap (λ (r : RequestNo). r.boot) same ∙ token n refl
of_known boot None drawn request token is = by (length drawn == 0) is where
  by : (test : Bool) → (if test then None else Some (request_of boot None drawn)) ≡ Some request → request.boot ≡ boot
  by true is = absurd (cc)
  by false is =
      let same : request ≡ request_of boot None drawn = cc in
      ap (λ (r : RequestNo). r.boot) same

pub of_boot : {R S : Type 0} (orders : AreOrders) (gives : Gives R) (looks : Looks S) (key : List ℕ) (home : HomeBoot) (t : TakenIn) (front : Place) (request : RequestNo) → WasTakenIn gives looks key home t
    → (facts_by front t.head t.intake.now t.intake.arrival).request ≡ Some request → request.boot ≡ home.boot
of_boot {R} {S} orders gives looks key home t front request (random, serials, random_after, serials_after, takes) is = by takes.decision takes.decided takes.follows where
  at : (arrival : Arrival) → t.intake.arrival ≡ arrival → (facts_by front t.head t.intake.now arrival).request ≡ Some request
  at arrival so = subst (λ (x : Arrival). (facts_by front t.head t.intake.now x).request ≡ Some request) so is

  ordered : (o : Order) → IsDecided key home.boot t.head (decided.Ordered o) → (arrival : Arrival) → t.intake.arrival ≡ arrival
      → TakesInOrder gives looks key home o t.intake.now random serials t.intake.drawn arrival random_after serials_after → request.boot ≡ home.boot
  ordered o decision (Refused why) so x = absurd x
  ordered o decision (SerialsSpent known seen) so x =
      of_known home.boot o.number t.intake.drawn request
      (λ n. of_token key home.boot t.head.method t.head.body o n ((orders key home.boot t.head o).0 decision).numbered) (sym x.1 ∙ at (SerialsSpent known seen) so)
  ordered o decision (Admitted a) so x =
      let some : Some a.request ≡ Some request = at (Admitted a) so in
      let same : request ≡ a.request = cc in
      ap (λ (r : RequestNo). r.boot) same ∙ ap (λ (y : Admission). y.request.boot) x.1
      ∙ of_draw home.boot o.number t.intake.drawn (λ n. of_token key home.boot t.head.method t.head.body o n ((orders key home.boot t.head o).0 decision).numbered)

  by : (d : Decision) → IsDecided key home.boot t.head d → TakesInBy gives looks key home d random serials t.intake random_after serials_after → request.boot ≡ home.boot
  by (decided.Refused why) decision x = absurd (let none : None ≡ Some request = at (Refused why) x.0 in cc)
  by (decided.Ordered o) decision x = ordered o decision t.intake.arrival refl x

module _ {P L R S : Type 0} (orders : AreOrders) (asks : P → List Answer → Next) (calls : L → LinkEvent → L → Type 0) (makes : ActionCall → List ℕ → P → Type 0) (gives : Gives R) (looks : Looks S) (key : List ℕ) (home : HomeBoot) (start : Start) (history : List Event) where
  -- an item has a number of the boot
  pub item_of_boot : (t : TakenIn) (i : Item) (request : RequestNo) → IsItemFor asks calls makes (WasTakenIn gives looks key home) start history t i → i.request ≡ Some request → request.boot ≡ home.boot
  item_of_boot t i request h is =
      of_boot orders gives looks key home t h.facts.front request h.came_so (sym (ap (λ (f : VisitFacts). f.request) h.facts_are) ∙ sym h.number_is ∙ is)

  -- and so have the tries of the request that is open
  pub tries_of_boot : (heads : List Head) (drawn : List Draw) (earliest latest : ℕ) (items : List Item) (s : Shepherd P) (v : Visit P) (call : Option AskedCall) (tries : TriesValue) (program : P)
      → AttributesBy asks calls makes (WasTakenIn gives looks key home) start history heads drawn earliest latest items s → s.stage ≡ Serving v call → v.work ≡ ServingBy tries program → tries.request.boot ≡ home.boot
  tries_of_boot heads drawn earliest latest items s v call tries program h was is =
      let t = subst (λ (x : Stage P). StageBy asks calls makes (WasTakenIn gives looks key home) start history h.opened x) was h.is_open in
      of_boot orders gives looks key home t.taken v.facts.front tries.request t.goes_back.came_so
      (sym (ap (λ (f : VisitFacts). f.request) t.goes_back.facts_are)
      ∙ bear asks calls makes (WasTakenIn gives looks key home) start history heads drawn earliest latest items s v call tries program h was is)
