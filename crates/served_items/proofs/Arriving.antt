-- What an item tells, by how its request arrived and by what became of it.
use Rattle.std.specs.Prelude.{option_map}
use Rattle.std.proofs.Common.{◌≡◌, ℕ, ◌≤◌, ◌+◌, Bool, true, false, List, [], take, refl, sym, ap, ◌∙◌, subst, Option, Some, None}
use Rattle.auction_calls.specs.declared.action.ActionCall.{ActionCall}
use Rattle.boot_core.specs.declared.boot.Start.{Start}
use Rattle.call_ticket.specs.Runs.{Makes}
use Rattle.call_ticket.specs.declared.next.Answer.{Answer}
use Rattle.call_ticket.specs.declared.next.Next.{Next}
use Rattle.container_core.specs.History.{entries_in}
use Rattle.container_core.specs.declared.history.Event.{Event}
use Rattle.crash_base.specs.declared.numbers.Moment.{Moment}
use Rattle.crash_base.specs.declared.numbers.Place.{Place}
use Rattle.crash_base.specs.declared.numbers.RequestNo.{RequestNo}
use Rattle.crash_base.specs.declared.numbers.Version.{Version}
use Rattle.journal_model.specs.Requests.{commit_of}
use Rattle.journal_model.specs.Rows.{rows_after}
use Rattle.journal_model.specs.declared.entry.Entry.{Entry}
use Rattle.outcome_items.specs.Traces.{again_in, is_outside}
use Rattle.outcome_items.specs.declared.item.Holds.{Holds}
use Rattle.outcome_items.specs.declared.item.Item.{Item}
use Rattle.outcome_items.specs.declared.outcome.ItemOutcome.{ItemOutcome}
use Rattle.outcome_items.specs.declared.outcome.ItemOutcome.TheVariants as item
use Rattle.outside.specs.declared.link.LinkEvent.{LinkEvent}
use Rattle.auction_rows.specs.Session.{session_user}
use Rattle.request_decisions.specs.Calls.{call_by}
use Rattle.request_decisions.specs.Decisions.{IsDecided}
use Rattle.request_decisions.specs.Draws.{AreDrawn}
use Rattle.request_decisions.specs.declared.decision.Decision.{Decision}
use Rattle.request_decisions.specs.declared.decision.Decision.TheVariants as decided
use Rattle.request_decisions.specs.declared.decision.Order.{Order}
use Rattle.request_decisions.specs.declared.decision.Refusal.{Refusal}
use Rattle.request_intake.specs.Intakes.{Gives, Looks, TakesInBy, TakesInOrder, admission_of}
use Rattle.request_intake.specs.declared.intake.Admission.{Admission}
use Rattle.request_intake.specs.declared.intake.Arrival.{Arrival}
use Rattle.request_intake.specs.declared.intake.Arrival.TheVariants.{Refused, SerialsSpent, Admitted}
use Rattle.request_intake.specs.declared.intake.HomeBoot.{HomeBoot}
use Rattle.request_tries.specs.Ends.{Errand, IsServed, OutcomeStands}
use Rattle.request_tries.specs.declared.outcome.RequestOutcome.{RequestOutcome}
use Rattle.request_tries.specs.declared.outcome.RequestOutcome.TheVariants.{Page, Sentinel, Hung, Raised, Revoked, Conflict, JournalFull, KeeperFailed}
use Rattle.request_visit.specs.Accounts.{Became, EndsWith}
use Rattle.request_visit.specs.Sessions.{IsGone, IsKnown, SessionTold, TellsSession}
use Rattle.request_visit.specs.declared.facts.VisitFacts.{VisitFacts}
use Rattle.session_cookie.specs.Cookie.{AreHolders}
use Rattle.session_cookie.specs.declared.cookie.Cookie.{Cookie}
use Rattle.session_way.specs.declared.lease.SessionLease.{SessionLease}
use Rattle.shepherd.specs.Accounting.{trace_in}
use Rattle.ssm_stub.specs.Reads.{ReadState, read_start}
use Rattle.ssm_stub.specs.declared.cause.BrickCause.{BrickCause}
use Rattle.ssm_stub.specs.declared.read_call.ReadRefusal.{ReadRefusal}
use Rattle.ssm_stub.specs.declared.read_call.ReadRefusal.TheVariants as read_refusal
use Rattle.served_items.specs.Attributing.{BecameBy, IsErrandOf, OnAdmitted, TakenIn, WasTakenIn, facts_by, read_by}
use Rattle.served_items.specs.Served.{HasOwnEntry, IsCallOf, IsItemFor, IsOfOwnCall, IsReadGone, IsValueRead, committed_at}

-- a request that was admitted
record WasAdmitted (arrival : Arrival) (So : Admission → Type 0) : Type 0 where
  a : Admission
  is : arrival ≡ Admitted a
  so : So a

was_admitted : (arrival : Arrival) (So : Admission → Type 0) → OnAdmitted arrival So → WasAdmitted arrival So
was_admitted (Refused why) So h = absurd h
was_admitted (SerialsSpent request seen) So h = absurd h
was_admitted (Admitted a) So h = record { a = a; is = refl; so = h }

-- what is told of a request that was refused
pub refused_outcome : (arrival : Arrival) (So : Admission → Type 0) (why : Refusal) (became : ItemOutcome) → arrival ≡ Refused why → BecameBy arrival So became → became ≡ item.Refused why
refused_outcome arrival So why (item.Refused other) is h = let e : Refused other ≡ Refused why = sym h ∙ is in cc
refused_outcome arrival So why (item.SerialsSpent seen) is h = absurd (let e : Refused why ≡ SerialsSpent h.0 seen = sym is ∙ h.1 in cc)
refused_outcome arrival So why (item.Expired now expiry) is h = absurd (subst (λ (x : Arrival). OnAdmitted x (λ a. Unit {0})) is h)
refused_outcome arrival So why (item.Lost causes) is h = absurd (subst (λ (x : Arrival). OnAdmitted x (λ a. Unit {0})) is h)
refused_outcome arrival So why (item.Ended end) is h = absurd (subst (λ (x : Arrival). OnAdmitted x So) is h)
refused_outcome arrival So why (item.Overload place again full) is h = absurd (subst (λ (x : Arrival). OnAdmitted x So) is h)
refused_outcome arrival So why (item.Missed place again causes) is h = absurd (subst (λ (x : Arrival). OnAdmitted x So) is h)

pub refused_arrival : (arrival : Arrival) (So : Admission → Type 0) (why : Refusal) (became : ItemOutcome) → became ≡ item.Refused why → BecameBy arrival So became → arrival ≡ Refused why
refused_arrival arrival So why became is h = subst (λ (o : ItemOutcome). BecameBy arrival So o) is h

-- what is told of one for which a serial number was spent
pub spent_outcome : (arrival : Arrival) (So : Admission → Type 0) (request : Option RequestNo) (seen : ℕ) (became : ItemOutcome) → arrival ≡ SerialsSpent request seen → BecameBy arrival So became → became ≡ item.SerialsSpent seen
spent_outcome arrival So request seen (item.Refused why) is h = absurd (let e : SerialsSpent request seen ≡ Refused why = sym is ∙ h in cc)
spent_outcome arrival So request seen (item.SerialsSpent other) is h = let e : SerialsSpent h.0 other ≡ SerialsSpent request seen = sym h.1 ∙ is in cc
spent_outcome arrival So request seen (item.Expired now expiry) is h = absurd (subst (λ (x : Arrival). OnAdmitted x (λ a. Unit {0})) is h)
spent_outcome arrival So request seen (item.Lost causes) is h = absurd (subst (λ (x : Arrival). OnAdmitted x (λ a. Unit {0})) is h)
spent_outcome arrival So request seen (item.Ended end) is h = absurd (subst (λ (x : Arrival). OnAdmitted x So) is h)
spent_outcome arrival So request seen (item.Overload place again full) is h = absurd (subst (λ (x : Arrival). OnAdmitted x So) is h)
spent_outcome arrival So request seen (item.Missed place again causes) is h = absurd (subst (λ (x : Arrival). OnAdmitted x So) is h)

-- a request that came to the container was admitted, with this errand
came_to : (arrival : Arrival) (So : Admission → Type 0) (became : ItemOutcome) → is_outside became ≡ false → BecameBy arrival So became → WasAdmitted arrival So
came_to arrival So (item.Refused why) out h = absurd (cc)
came_to arrival So (item.SerialsSpent seen) out h = absurd (cc)
came_to arrival So (item.Expired now expiry) out h = absurd (cc)
came_to arrival So (item.Lost causes) out h = absurd (cc)
came_to arrival So (item.Ended end) out h = was_admitted arrival So h
came_to arrival So (item.Overload place again full) out h = was_admitted arrival So h
came_to arrival So (item.Missed place again causes) out h = was_admitted arrival So h

module _ {P L : Type 0} (asks : P → List Answer → Next) (calls : L → LinkEvent → L → Type 0) (makes : ActionCall → List ℕ → P → Type 0) (came : TakenIn → Type 0) (start : Start) (history : List Event) (t : TakenIn) (i : Item) (h : IsItemFor asks calls makes came start history t i) where
  -- the facts, by how the request arrived
  facts_at : (arrival : Arrival) → t.intake.arrival ≡ arrival → h.facts ≡ facts_by h.facts.front t.head t.intake.now arrival
  facts_at arrival is = h.facts_are ∙ ap (λ (x : Arrival). facts_by h.facts.front t.head t.intake.now x) is

  session_at : (arrival : Arrival) (became : ItemOutcome) → t.intake.arrival ≡ arrival → i.outcome ≡ became → SessionTold calls (read_by t.intake.now arrival) (entries_in (take i.holds.held history)) h.facts h.session.lease i.cookie became
  session_at arrival became is so =
      subst (λ (o : ItemOutcome). SessionTold calls (read_by t.intake.now arrival) (entries_in (take i.holds.held history)) h.facts h.session.lease i.cookie o) so
      (subst (λ (x : Arrival). SessionTold calls (read_by t.intake.now x) (entries_in (take i.holds.held history)) h.facts h.session.lease i.cookie i.outcome) is h.session.told)

  unread : (lease : Option SessionLease) → IsKnown calls None lease → option_map (λ (l : SessionLease). l.value) lease ≡ None
  unread None known = refl
  unread (Some lease) known = absurd known

  pub refused_bare : (why : Refusal) → t.intake.arrival ≡ Refused why → (i.request ≡ None) × (i.value ≡ None) × (i.cookie ≡ None)
  refused_bare why is =
      let told = session_at (Refused why) (item.Refused why) is (refused_outcome t.intake.arrival (λ a. IsErrandOf asks makes i.value h.errand a) why i.outcome is h.became_by) in
      (h.number_is ∙ ap (λ (f : VisitFacts). f.request) (facts_at (Refused why) is), h.session.value_is ∙ unread h.session.lease told.0, told.1)

  pub spent_number : (request : Option RequestNo) (seen : ℕ) → t.intake.arrival ≡ SerialsSpent request seen → i.request ≡ request
  spent_number request seen is = h.number_is ∙ ap (λ (f : VisitFacts). f.request) (facts_at (SerialsSpent request seen) is)

  pub admitted_number : (a : Admission) → t.intake.arrival ≡ Admitted a → i.request ≡ Some a.request
  admitted_number a is = h.number_is ∙ ap (λ (f : VisitFacts). f.request) (facts_at (Admitted a) is)

  value_so : (now : Moment) (nonce : Version) (cookie : Option Cookie) (lease : Option SessionLease) → IsKnown calls (option_map (λ (c : Cookie). read_start now nonce c) cookie) lease
      → IsValueRead calls now nonce cookie (option_map (λ (l : SessionLease). l.value) lease)
  value_so now nonce None None known = refl
  value_so now nonce None (Some lease) known = absurd known
  value_so now nonce (Some cookie) None known = absurd known
  value_so now nonce (Some cookie) (Some lease) known = (lease.value, refl, known.2)

  known_at : (a : Admission) (became : ItemOutcome) → t.intake.arrival ≡ Admitted a → i.outcome ≡ became → is_outside became ≡ false → IsKnown calls (read_by t.intake.now (Admitted a)) h.session.lease
  known_at a (item.Refused why) is so out = absurd (cc)
  known_at a (item.SerialsSpent seen) is so out = absurd (cc)
  known_at a (item.Expired now expiry) is so out = absurd (cc)
  known_at a (item.Lost causes) is so out = absurd (cc)
  known_at a (item.Ended end) is so out = (session_at (Admitted a) (item.Ended end) is so).0
  known_at a (item.Overload place again full) is so out = (session_at (Admitted a) (item.Overload place again full) is so).0
  known_at a (item.Missed place again causes) is so out = (session_at (Admitted a) (item.Missed place again causes) is so).0

  pub value_read : (a : Admission) → t.intake.arrival ≡ Admitted a → is_outside i.outcome ≡ false → IsValueRead calls t.intake.now a.read a.cookie i.value
  value_read a is out =
      subst (λ (x : Option (List ℕ)). IsValueRead calls t.intake.now a.read a.cookie x) (sym h.session.value_is)
      (value_so t.intake.now a.read a.cookie h.session.lease (known_at a i.outcome is refl out))

  gone_so : (now : Moment) (nonce : Version) (cookie : Option Cookie) (why : ReadRefusal) → IsGone calls (option_map (λ (c : Cookie). read_start now nonce c) cookie) why → IsReadGone calls now nonce cookie why
  gone_so now nonce None why gone = absurd gone
  gone_so now nonce (Some cookie) why gone = gone

  pub expired_so : (now expiry : Moment) → i.outcome ≡ item.Expired now expiry → (a : Admission) × (t.intake.arrival ≡ Admitted a) × IsReadGone calls t.intake.now a.read a.cookie (read_refusal.Expired now expiry)
  expired_so now expiry so =
      let w = was_admitted t.intake.arrival (λ a. Unit {0}) (subst (λ (o : ItemOutcome). BecameBy t.intake.arrival (λ a. IsErrandOf asks makes i.value h.errand a) o) so h.became_by) in
      (w.a, w.is, gone_so t.intake.now w.a.read w.a.cookie (read_refusal.Expired now expiry) (session_at (Admitted w.a) (item.Expired now expiry) w.is so).2)

  pub lost_so : (causes : List BrickCause) → i.outcome ≡ item.Lost causes → (a : Admission) × (t.intake.arrival ≡ Admitted a) × IsReadGone calls t.intake.now a.read a.cookie (read_refusal.Lost causes)
  lost_so causes so =
      let w = was_admitted t.intake.arrival (λ a. Unit {0}) (subst (λ (o : ItemOutcome). BecameBy t.intake.arrival (λ a. IsErrandOf asks makes i.value h.errand a) o) so h.became_by) in
      (w.a, w.is, gone_so t.intake.now w.a.read w.a.cookie (read_refusal.Lost causes) (session_at (Admitted w.a) (item.Lost causes) w.is so).2)

  call_of : (a : Admission) (value : Option (List ℕ)) → IsCallOf a value (call_by a.call value)
  call_of a None = record { same = refl; nobody = λ none. refl; somebody = λ bytes some. absurd (cc) }
  call_of a (Some value) = record { same = refl; nobody = λ none. absurd (cc); somebody = λ bytes some. (let same : value ≡ bytes = cc in ap session_user same) }

  made_of : (a : Admission) → t.intake.arrival ≡ Admitted a → (e : IsErrandOf asks makes i.value h.errand a) → IsOfOwnCall makes t i e.text e.program
  made_of a is e = record {
    admission = a;
    arrived = is;
    number_is = admitted_number a is;
    call = call_by a.call i.value;
    call_is = call_of a i.value;
    made = e.made;
  }

  pub call_made : is_outside i.outcome ≡ false → (text : List ℕ) × (program : P) × IsOfOwnCall makes t i text program
  call_made out =
      let w = came_to t.intake.arrival (λ a. IsErrandOf asks makes i.value h.errand a) i.outcome out h.became_by in
      (w.so.text, w.so.program, made_of w.a w.is w.so)

  own_entry : (place : Place) (a : Admission) → t.intake.arrival ≡ Admitted a → IsErrandOf asks makes i.value h.errand a → committed_at i.outcome ≡ Some place
      → EndsWith start history h.errand h.facts i.holds (Page place false) (trace_in history i) → HasOwnEntry asks makes start history t i
  own_entry place a is e at ends =
      let held : ends.ended.held ≡ i.holds.held = sym (ap (λ (x : Holds). x.held) ends.holds_is) in
      let from : ends.ended.from ≡ i.holds.from = sym (ap (λ (x : Holds). x.from) ends.holds_is) in
      let so : IsServed start (take ends.ended.held history) h.errand ends.ended.from.0 place.0 =
      subst (λ (o : RequestOutcome). OutcomeStands start (take ends.ended.held history) h.errand ends.ended.from.0 o) ends.outcome_is ends.stands.outcome in
      record {
        text = e.text;
        program = e.program;
        made_of = made_of a is e;
        before = so.before;
        entry = so.entry;
        done = so.done;
        last = ap (λ (n : ℕ). take n history) (sym held) ∙ so.last;
        place = place;
        committed = at;
        place_is = so.place_is;
        number_is = admitted_number a is ∙ ap (λ (x : Errand). Some x.request) (sym e.errand_is) ∙ ap Some (sym so.asked_for.request);
        action_is = so.asked_for.action ∙ ap (λ (x : Errand). Some (record { text = x.text; done = so.done })) e.errand_is;
        since = subst (λ (p : Place). p.0 ≤ so.entry.at.0) from so.asked_for.since;
        runs = subst (λ (x : Errand). Makes start.deployment x.asks (rows_after start.base (entries_in so.before)) so.entry so.done) e.errand_is so.made;
      }

  -- an end in the container that is a page, by whether an earlier call had committed
  abbrev Committed_so : Bool → Type 0
  Committed_so again = (place : Place) × (committed_at i.outcome ≡ Some place) × EndsWith start history h.errand h.facts i.holds (Page place again) (trace_in history i)
      × WasAdmitted t.intake.arrival (λ a. IsErrandOf asks makes i.value h.errand a)

  by_end : (again : Bool) (end : RequestOutcome) → i.outcome ≡ item.Ended end → again_in (item.Ended end) ≡ Some again → EndsWith start history h.errand h.facts i.holds end (trace_in history i)
      → OnAdmitted t.intake.arrival (λ a. IsErrandOf asks makes i.value h.errand a) → Committed_so again
  by_end again (Page place earlier) so is ends on =
      let same : earlier ≡ again = cc in
      (place, ap committed_at so, subst (λ (b : Bool). EndsWith start history h.errand h.facts i.holds (Page place b) (trace_in history i)) same ends, was_admitted t.intake.arrival (λ a. IsErrandOf asks makes i.value h.errand a) on)
  by_end again (Sentinel group down) so is ends on = absurd (cc)
  by_end again (Hung component fault path) so is ends on = absurd (cc)
  by_end again (Raised component fault path) so is ends on = absurd (cc)
  by_end again (Revoked tries) so is ends on = absurd (cc)
  by_end again (Conflict tries) so is ends on = absurd (cc)
  by_end again (JournalFull full) so is ends on = absurd (cc)
  by_end again KeeperFailed so is ends on = absurd (cc)

  committed_so : (again : Bool) (became : ItemOutcome) → i.outcome ≡ became → again_in became ≡ Some again → Became start history h.errand h.facts i.holds (trace_in history i) became
      → BecameBy t.intake.arrival (λ a. IsErrandOf asks makes i.value h.errand a) became → Committed_so again
  committed_so again (item.Refused why) so is became on = absurd (cc)
  committed_so again (item.SerialsSpent seen) so is became on = absurd (cc)
  committed_so again (item.Expired now expiry) so is became on = absurd (cc)
  committed_so again (item.Lost causes) so is became on = absurd (cc)
  committed_so again (item.Ended end) so is became on = by_end again end so is became on
  committed_so again (item.Overload place earlier full) so is became on =
      let same : earlier ≡ again = cc in
      (place, ap committed_at so, subst (λ (b : Bool). EndsWith start history h.errand h.facts i.holds (Page place b) (trace_in history i)) same became, was_admitted t.intake.arrival (λ a. IsErrandOf asks makes i.value h.errand a) on)
  committed_so again (item.Missed place earlier causes) so is became on =
      let same : earlier ≡ again = cc in
      (place, ap committed_at so, subst (λ (b : Bool). EndsWith start history h.errand h.facts i.holds (Page place b) (trace_in history i)) same became, was_admitted t.intake.arrival (λ a. IsErrandOf asks makes i.value h.errand a) on)

  pub own_page : again_in i.outcome ≡ Some false → HasOwnEntry asks makes start history t i
  own_page is = let c = committed_so false i.outcome refl is h.became h.became_by in own_entry c.0 c.3.a c.3.is c.3.so c.1 c.2

  pub page_again : again_in i.outcome ≡ Some true
      → (place : Place) × (request : RequestNo) × (committed_at i.outcome ≡ Some place) × (i.request ≡ Some request) × (commit_of (entries_in (take i.holds.held history)) request ≡ Some place)
  page_again is =
      let c = committed_so true i.outcome refl is h.became h.became_by in
      let ends = c.2 in
      let held : ends.ended.held ≡ i.holds.held = sym (ap (λ (x : Holds). x.held) ends.holds_is) in
      let so : commit_of (entries_in (take ends.ended.held history)) h.errand.request ≡ Some c.0 =
      subst (λ (o : RequestOutcome). OutcomeStands start (take ends.ended.held history) h.errand ends.ended.from.0 o) ends.outcome_is ends.stands.outcome in (
        c.0,
        c.3.a.request,
        c.1,
        admitted_number c.3.a c.3.is,
        subst (λ (n : ℕ). commit_of (entries_in (take n history)) c.3.a.request ≡ Some c.0) held
            (subst (λ (x : Errand). commit_of (entries_in (take ends.ended.held history)) x.request ≡ Some c.0) c.3.so.errand_is so),
      )

  -- a cookie is set only by a page
  paged : (begin : Option ReadState) (became : ItemOutcome) (c : Cookie) → i.cookie ≡ Some c → SessionTold calls begin (entries_in (take i.holds.held history)) h.facts h.session.lease i.cookie became → is_outside became ≡ false
  paged begin (item.Refused why) c some told = absurd (let none = told.1 in cc)
  paged begin (item.SerialsSpent seen) c some told = absurd (let none = told.1 in cc)
  paged begin (item.Expired now expiry) c some told = absurd (let none = told.1 in cc)
  paged begin (item.Lost causes) c some told = absurd (let none = told.1 in cc)
  paged begin (item.Ended end) c some told = refl
  paged begin (item.Overload place again full) c some told = refl
  paged begin (item.Missed place again causes) c some told = refl

  pub cookie_so : ((begin : Option ReadState) (facts : VisitFacts) (es : List Entry) (i : Item) (c : Cookie) → TellsSession calls begin facts es i → i.cookie ≡ Some c
      → (c.key ≡ facts.key) × (c.version ≡ facts.write) × (c.expiry.0 ≡ facts.now.0 + 1800000) × AreHolders c.bricks)
      → (c : Cookie) → i.cookie ≡ Some c → (a : Admission) × (t.intake.arrival ≡ Admitted a) × (c.key ≡ a.call.key) × (c.version ≡ a.write) × (c.expiry.0 ≡ t.intake.now.0 + 1800000)
  cookie_so tells c some =
      let w = came_to t.intake.arrival (λ a. IsErrandOf asks makes i.value h.errand a) i.outcome (paged (read_by t.intake.now t.intake.arrival) i.outcome c some h.session.told) h.became_by in
      let so = tells (read_by t.intake.now t.intake.arrival) h.facts (entries_in (take i.holds.held history)) i c h.session some in
      let facts = facts_at (Admitted w.a) w.is in
      (w.a, w.is, so.0 ∙ ap (λ (f : VisitFacts). f.key) facts, so.1 ∙ ap (λ (f : VisitFacts). f.write) facts, so.2 ∙ ap (λ (f : VisitFacts). f.now.0 + 1800000) facts)

-- what is drawn for a request that is refused
pub refused_draws : {R S : Type 0} (gives : Gives R) (looks : Looks S) (key : List ℕ) (home : HomeBoot) (t : TakenIn) (why : Refusal) → WasTakenIn gives looks key home t → t.intake.arrival ≡ Refused why → t.intake.drawn ≡ []
refused_draws {R} {S} gives looks key home t why (random, serials, random_after, serials_after, takes) is = by takes.decision takes.follows where
  by : (d : Decision) → TakesInBy gives looks key home d random serials t.intake random_after serials_after → t.intake.drawn ≡ []
  by (decided.Refused other) x = x.1
  by (decided.Ordered o) x = absurd (subst (λ (y : Arrival). TakesInOrder gives looks key home o t.intake.now random serials t.intake.drawn y random_after serials_after) is x)

-- what a request is admitted with
pub admitted_with : {R S : Type 0} (gives : Gives R) (looks : Looks S) (key : List ℕ) (home : HomeBoot) (t : TakenIn) (a : Admission) → WasTakenIn gives looks key home t → t.intake.arrival ≡ Admitted a
    → (o : Order) × IsDecided key home.boot t.head (decided.Ordered o) × AreDrawn o t.intake.drawn × (a ≡ admission_of key home o t.intake.now t.intake.drawn)
admitted_with {R} {S} gives looks key home t a (random, serials, random_after, serials_after, takes) is = by takes.decision takes.decided takes.follows where
  by : (d : Decision) → IsDecided key home.boot t.head d → TakesInBy gives looks key home d random serials t.intake random_after serials_after
      → (o : Order) × IsDecided key home.boot t.head (decided.Ordered o) × AreDrawn o t.intake.drawn × (a ≡ admission_of key home o t.intake.now t.intake.drawn)
  by (decided.Refused other) so x = absurd (let e : Admitted a ≡ Refused other = sym is ∙ x.0 in cc)
  by (decided.Ordered o) so x =
      let y = subst (λ (z : Arrival). TakesInOrder gives looks key home o t.intake.now random serials t.intake.drawn z random_after serials_after) is x in
      (o, so, y.0.0, y.1)
