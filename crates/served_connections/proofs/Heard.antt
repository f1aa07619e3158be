-- How a connection attributes its items over the calls that it made, as it makes more of them.
use Rattle.std.proofs.Common.{◌≡◌, ◌∙◌, ℕ, List, [], ◌∷◌, ◌++◌, take, Option, refl, sym, ap, subst}
use Rattle.std.proofs.lemmas.List.{append_assoc}
use Rattle.std.proofs.lemmas.List.Elements.{All-append, All-cons, All-head, All-nil, All-tail, All-weaker}
use Rattle.auction_calls.specs.declared.action.ActionCall.{ActionCall}
use Rattle.boot_core.specs.declared.boot.Start.{Start}
use Rattle.call_ticket.specs.declared.next.Answer.{Answer}
use Rattle.call_ticket.specs.declared.next.Next.{Next}
use Rattle.container_core.specs.History.{entries_in}
use Rattle.container_core.specs.declared.history.Event.{Event}
use Rattle.deployment.specs.declared.parts.Parts.{Parts}
use Rattle.http_wire.specs.declared.taken.Head.{Head}
use Rattle.outcome_items.specs.declared.item.Item.{Item}
use Rattle.outcome_items.specs.declared.outcome.ItemOutcome.TheVariants as item
use Rattle.outside.specs.Link.{Made, Tally}
use Rattle.outside.specs.declared.link.LinkCounts.{LinkCounts}
use Rattle.outside.specs.declared.link.LinkEvent.{LinkEvent}
use Rattle.request_decisions.specs.declared.draws.Draw.{Draw}
use Rattle.request_intake.specs.Intakes.{Gives, Looks}
use Rattle.request_tries.specs.Ends.{Errand}
use Rattle.request_visit.specs.Sessions.{MakesAmong}
use Rattle.request_visit.specs.declared.visit.Visit.{Visit}
use Rattle.request_visit.specs.declared.visit.Work.TheVariants.{Decided, Opening}
use Rattle.request_visit.proofs.Standing.{reading_begins, unread_begins}
use Rattle.served_items.specs.Attributing.{Attributed, AttributesBy, GoesBack, IsAttributed, Service, StageBy, TakenIn, WasTakenIn, read_by}
use Rattle.served_items.specs.Served.{IsItemFor}
use Rattle.served_items.proofs.Taking.{SessionsBegin}
use Rattle.session_way.specs.Way.{BreaksOffOutside, StepsOutside}
use Rattle.session_way.specs.declared.way.SessionWay.{SessionWay}
use Rattle.session_way.specs.declared.way.SessionWay.TheVariants as way
use Rattle.shepherd.specs.Steps.{OnVisit, ShepherdSteps, StepsVisit, VisitsOutside}
use Rattle.shepherd.specs.declared.shepherd.AskedCall.{AskedCall}
use Rattle.shepherd.specs.declared.shepherd.Shepherd.{Shepherd}
use Rattle.shepherd.specs.declared.shepherd.Stage.{Stage}
use Rattle.shepherd.specs.declared.shepherd.Stage.TheVariants.{Resting, Serving, Refusing, Over}
use Rattle.ssm_frames.specs.Spelling.{encode_of}
use Rattle.ssm_stub.specs.Reads.{read_ask, read_machine}
use Rattle.ssm_stub.specs.Runs.{Machine, Steps, call_of}
use Rattle.ssm_stub.specs.Writes.{write_machine}
use Rattle.served_connections.specs.Courses.{Begun, Course}
use Rattle.served_connections.specs.Heard.{AreCallsOf, HeardIn}
use Rattle.served_connections.specs.Serving.{Serves}
use Rattle.served_connections.proofs.Among.{AreAmong, stands_among, tells_among}

-- the calls that were made are among all that were made later
pub still_heard : (heard more : List LinkEvent) → AreAmong (HeardIn heard) (HeardIn (heard ++ more))
still_heard heard more call (old, new, (before, behind, is)) =
    (old, new, (before, behind ++ more, ap (λ (l : List LinkEvent). l ++ more) is ∙ append_assoc before (call ∷ behind) more))

-- each of them is a call of the link
pub called_among : {L : Type 0} (calls : L → LinkEvent → L → Type 0) (heard : List LinkEvent) → AreCallsOf calls heard → AreAmong (HeardIn heard) calls
called_among calls heard all call (old, new, (before, behind, is)) = there before (subst (λ (l : List LinkEvent). AreCallsOf calls l) is all) where
  there : (first : List LinkEvent) → AreCallsOf calls (first ++ call ∷ behind) → MakesAmong calls tt call tt
  there [] so = All-head (λ (c : LinkEvent). MakesAmong calls tt c tt) call behind so
  there (c ∷ first) so = there first (All-tail (λ (x : LinkEvent). MakesAmong calls tt x tt) c (first ++ call ∷ behind) so)

-- calls in a row are calls of the link
pub made_called : {L : Type 0} (calls : L → LinkEvent → L → Type 0) (old : L) (made : List LinkEvent) (new : L) → Made calls old made new → AreCallsOf calls made
made_called calls old [] new h = All-nil (λ (c : LinkEvent). MakesAmong calls tt c tt)
made_called calls old (call ∷ made) new (next, here, rest) =
    All-cons (λ (c : LinkEvent). MakesAmong calls tt c tt) call made (old, next, here) (made_called calls next made new rest)

-- calls behind others, one after another
made_in : (heard before made : List LinkEvent) → heard ≡ before ++ made → Made (HeardIn heard) tt made tt
made_in heard before [] is = refl
made_in heard before (call ∷ made) is = (tt, (before, made, is), made_in heard (before ++ call ∷ []) made (is ∙ sym (append_assoc before (call ∷ []) made)))

-- A way made one step outside, over these calls, which come behind others.
pub record StepsHeard {L : Type 0} (calls : L → LinkEvent → L → Type 0) (heard : List LinkEvent) (old : SessionWay) (link : L) (new : SessionWay) (after : L) : Type 0 where
  pub made : List LinkEvent
  pub leads : Made calls link made after
  pub steps : StepsOutside (HeardIn (heard ++ made)) old tt new tt

module _ {L : Type 0} (calls : L → LinkEvent → L → Type 0) (heard : List LinkEvent) where
  step_heard : {S : Type 0} (m : Machine S) (ask : List ℕ) (start end : S) (link after : L) (s : Steps m calls ask start link end after) → Steps m (HeardIn (heard ++ call_of ask (m.next start) s.event)) ask start tt end tt
  step_heard m ask start end link after s = record {
    event = s.event;
    fitting = s.fitting;
    made = made_in (heard ++ call_of ask (m.next start) s.event) heard (call_of ask (m.next start) s.event) refl;
    hears = s.hears;
  }

  steps_heard : (old new : SessionWay) (link after : L) → StepsOutside calls old link new after → StepsHeard calls heard old link new after
  steps_heard way.Resting new link after s = absurd s
  steps_heard (way.Reading r) new link after s = record {
    made = call_of (encode_of (read_ask r)) (read_machine.next r) s.2.event;
    leads = s.2.made;
    steps = (s.0, s.1, step_heard read_machine (encode_of (read_ask r)) r s.0 link after s.2);
  }
  steps_heard (way.Ordered order) new link after s = absurd s
  steps_heard (way.Writing w) new link after s = record {
    made = call_of (encode_of w.write.ask) (write_machine.next w.write) s.2.event;
    leads = s.2.made;
    steps = (s.0, s.1, step_heard write_machine (encode_of w.write.ask) w.write s.0 link after s.2);
  }
  steps_heard (way.Settling w) new link after s = record {
    made = call_of (encode_of w.write.ask) (write_machine.next w.write) s.2.event;
    leads = s.2.made;
    steps = (s.0, s.1, step_heard write_machine (encode_of w.write.ask) w.write s.0 link after s.2);
  }
  steps_heard (way.Holding passes) new link after s = absurd s

-- The request that is open made one step outside, over these calls, which come behind others.
pub record ShepherdHeard {P L : Type 0} (calls : L → LinkEvent → L → Type 0) (tally : L → Tally) (heard : List LinkEvent) (old : Shepherd P) (link : L) (new : Shepherd P) (after : L) : Type 0 where
  pub made : List LinkEvent
  pub leads : Made calls link made after
  pub steps : ShepherdSteps (λ (v : Visit P) w. VisitsOutside (HeardIn (heard ++ made)) (λ (u : Unit {0}). tally after) v tt w tt) old new

pub outside_heard : {P L : Type 0} (calls : L → LinkEvent → L → Type 0) (tally : L → Tally) (heard : List LinkEvent) (old : Shepherd P) (link : L) (new : Shepherd P) (after : L)
    → ShepherdSteps (λ v w. VisitsOutside calls tally v link w after) old new → ShepherdHeard calls tally heard old link new after
outside_heard {P} calls tally heard old link new after steps = by old.stage refl steps.steps where
  by : (x : Stage P) → old.stage ≡ x → StepsVisit (λ v w. VisitsOutside calls tally v link w after) x new.stage → ShepherdHeard calls tally heard old link new after
  by Resting was s = absurd s
  by (Serving v call) was s =
      let one = steps_heard calls heard v.way s.0.way link after s.1.steps in
      record {
        made = one.made;
        leads = one.leads;
        steps = record {
          steps = subst (λ (x : Stage P). StepsVisit (λ (v : Visit P) w. VisitsOutside (HeardIn (heard ++ one.made)) (λ (u : Unit {0}). tally after) v tt w tt) x new.stage) (sym was)
              (s.0, record { steps = one.steps; rest = s.1.rest }, s.2);
          rest = steps.rest;
        };
      }
  by (Refusing why bytes) was s = absurd s
  by (Over end) was s = absurd s

-- the calls of a step that broke off
pub record BrokeOff {L : Type 0} (calls : L → LinkEvent → L → Type 0) (link after : L) : Type 0 where
  pub made : List LinkEvent
  pub leads : Made calls link made after

pub broke_off : {P L : Type 0} (calls : L → LinkEvent → L → Type 0) (stage : Stage P) (link after : L) → OnVisit stage (λ v call. BreaksOffOutside calls v.way link after) → BrokeOff calls link after
broke_off {P} {L} calls Resting link after broke = absurd broke
broke_off {P} {L} calls (Serving v call) link after broke = by v.way broke where
  by : (w : SessionWay) → BreaksOffOutside calls w link after → BrokeOff calls link after
  by way.Resting b = absurd b
  by (way.Reading r) b = record { made = b.last; leads = b.made }
  by (way.Ordered order) b = absurd b
  by (way.Writing x) b = record { made = b.last; leads = b.made }
  by (way.Settling x) b = record { made = b.last; leads = b.made }
  by (way.Holding passes) b = absurd b
broke_off {P} {L} calls (Refusing why bytes) link after broke = absurd broke
broke_off {P} {L} calls (Over end) link after broke = absurd broke

-- Requests that are attributed over calls are so over more.
module _ {P L M : Type 0} (asks : P → List Answer → Next) (calls : L → LinkEvent → L → Type 0) (more : M → LinkEvent → M → Type 0) (among : AreAmong calls more) (makes : ActionCall → List ℕ → P → Type 0) (came : TakenIn → Type 0) (start : Start) (history : List Event) where
  goes_among : (t : TakenIn) (errand : Errand) (own : List Event) (v : Visit P) (call : Option AskedCall) → GoesBack asks calls makes came start history t errand own v call → GoesBack asks more makes came start history t errand own v call
  goes_among t errand own v call g = record {
    came_so = g.came_so;
    facts_are = g.facts_are;
    session = stands_among calls more among (read_by t.intake.now t.intake.arrival) history v g.session;
    accounts = g.accounts;
    work = g.work;
  }

  each_among : (x : Attributed P) → IsAttributed asks calls makes came start history x → IsAttributed asks more makes came start history x
  each_among x h = record { over = h.over; is_item = h.is_item; goes_back = goes_among x.taken x.errand x.own x.visit x.call h.goes_back }

  stage_among : (opened : List TakenIn) (stage : Stage P) → StageBy asks calls makes came start history opened stage → StageBy asks more makes came start history opened stage
  stage_among opened Resting h = h
  stage_among opened (Serving v call) h = record {
    taken = h.taken;
    opened_is = h.opened_is;
    errand = h.errand;
    own = h.own;
    goes_back = goes_among h.taken h.errand h.own v call h.goes_back;
  }
  stage_among opened (Refusing why bytes) h = h
  stage_among opened (Over end) h = h

  pub attributes_among : (heads : List Head) (drawn : List Draw) (earliest latest : ℕ) (items : List Item) (s : Shepherd P)
      → AttributesBy asks calls makes came start history heads drawn earliest latest items s → AttributesBy asks more makes came start history heads drawn earliest latest items s
  attributes_among heads drawn earliest latest items s h = record {
    served = h.served;
    opened = h.opened;
    heads_are = h.heads_are;
    drawn_are = h.drawn_are;
    rise = h.rise;
    items_are = h.items_are;
    attributed = All-weaker (IsAttributed asks calls makes came start history) (IsAttributed asks more makes came start history) each_among h.served h.attributed;
    is_open = stage_among h.opened s.stage h.is_open;
  }

  -- An item that is for its request over calls is so over more.
  pub item_among : (t : TakenIn) (i : Item) → IsItemFor asks calls makes came start history t i → IsItemFor asks more makes came start history t i
  item_among t i h = record {
    came_so = h.came_so;
    facts = h.facts;
    facts_are = h.facts_are;
    number_is = h.number_is;
    moment_is = h.moment_is;
    session = tells_among calls more among (read_by t.intake.now t.intake.arrival) h.facts (entries_in (take i.holds.held history)) i h.session;
    errand = h.errand;
    became = h.became;
    became_by = h.became_by;
  }

-- how the sessions of requests begin, over any calls
pub sessions_begin : {P L : Type 0} (calls : L → LinkEvent → L → Type 0) → SessionsBegin P calls
sessions_begin calls = record {
  read = λ history facts counts nonce cookie v is. reading_begins calls history facts counts nonce cookie v is;
  unread = λ history facts counts v is. unread_begins calls history facts counts Opening v is (tt, refl, refl);
  refused = λ history facts counts why v is. unread_begins calls history facts counts (Decided (item.Refused why)) v is ((tt, refl), refl);
  spent = λ history facts counts seen v is. unread_begins calls history facts counts (Decided (item.SerialsSpent seen)) v is ((tt, refl), refl);
}

-- A connection that is served, and whose link made more calls, which are told of nowhere.
pub served_longer : {P L M R S : Type 0} (accepts : P → Parts → Type 0) (asks : P → List Answer → Next) (calls : L → LinkEvent → L → Type 0) (makes : M → ActionCall → List ℕ → P → Type 0) (gives : Gives R) (looks : Looks S) (service : Service M) (start : Start) (begun : Begun)
    (history : List Event) (counts : LinkCounts) (now : ℕ) (c : Course) (s : Shepherd P) (link : L) (made : List LinkEvent) (after : L) → Made calls link made after → Serves accepts asks calls makes gives looks service start begun history counts now c s
    → Serves accepts asks calls makes gives looks service start begun history counts now (record c { heard = c.heard ++ made }) s
served_longer accepts asks calls makes gives looks service start begun history counts now c s link made after leads h = record {
  heads = h.heads;
  stands = h.stands;
  answers = h.answers;
  accounts = h.accounts;
  attributes = attributes_among asks (HeardIn c.heard) (HeardIn (c.heard ++ made)) (still_heard c.heard made) (makes service.maker) (WasTakenIn gives looks service.key service.home) start history h.heads c.drawn begun.moment now c.items s h.attributes;
  holds = h.holds;
  counted = h.counted;
  follow = h.follow;
  keep = h.keep;
  begin = h.begin;
  finds = h.finds;
  full = h.full;
  called = All-append (λ (call : LinkEvent). MakesAmong calls tt call tt) c.heard made h.called (made_called calls link made after leads);
  remembers = h.remembers;
  goes = h.goes;
}
