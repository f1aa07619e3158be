-- What is told over calls of a link is so over all calls among which these are.
use Rattle.std.proofs.Common.{ℕ, List, [], ◌∷◌, take, Option, Some, None, Result, Ok, Err}
use Rattle.container_core.specs.History.{entries_in}
use Rattle.container_core.specs.declared.history.Event.{Event}
use Rattle.journal_model.specs.declared.entry.DoneText.{DoneText}
use Rattle.journal_model.specs.declared.entry.Entry.{Entry}
use Rattle.outcome_items.specs.declared.item.Item.{Item}
use Rattle.outcome_items.specs.declared.outcome.ItemOutcome.{ItemOutcome}
use Rattle.outcome_items.specs.declared.outcome.ItemOutcome.TheVariants as item
use Rattle.outside.specs.Link.{Made}
use Rattle.outside.specs.declared.link.LinkEvent.{LinkEvent}
use Rattle.request_tries.specs.Ends.{done_at}
use Rattle.request_tries.specs.declared.outcome.RequestOutcome.{RequestOutcome}
use Rattle.request_tries.specs.declared.outcome.RequestOutcome.TheVariants.{Page, Sentinel, Hung, Raised, Revoked, Conflict, JournalFull, KeeperFailed}
use Rattle.request_visit.specs.Sessions.{CookieTold, EndTold, FateTold, HasAnswer, HasCome, IsGone, IsKnown, IsReading, IsWriting, MakesAmong, ReadsTo, RunsOn, SessionOf, SessionStands, SessionTold, SettlesWith, TellsSession, WritesBy, WritesTo}
use Rattle.request_visit.specs.declared.facts.VisitFacts.{VisitFacts}
use Rattle.request_visit.specs.declared.visit.Fate.{Fate}
use Rattle.request_visit.specs.declared.visit.Fate.TheVariants.{Known, Writing}
use Rattle.request_visit.specs.declared.visit.Visit.{Visit}
use Rattle.request_visit.specs.declared.visit.Work.{Work}
use Rattle.request_visit.specs.declared.visit.Work.TheVariants.{Reading, Opening, Serving, Committed, Decided, Answered, Left}
use Rattle.session_cookie.specs.declared.cookie.Cookie.{Cookie}
use Rattle.session_way.specs.declared.lease.SessionLease.{SessionLease}
use Rattle.session_way.specs.declared.session_write.WriteOrder.{WriteOrder}
use Rattle.session_way.specs.declared.way.SessionWay.{SessionWay}
use Rattle.session_way.specs.declared.way.SessionWay.TheVariants as way
use Rattle.ssm_frames.specs.Spelling.{encode_of}
use Rattle.ssm_stub.specs.Reads.{ReadState, read_ask, read_machine}
use Rattle.ssm_stub.specs.Runs.{Machine, Ran, calls as calls_in}
use Rattle.ssm_stub.specs.Writes.{WriteState, write_machine, write_until}
use Rattle.ssm_stub.specs.declared.event.StubEvent.{StubEvent}
use Rattle.ssm_stub.specs.declared.read_call.ReadRefusal.{ReadRefusal}
use Rattle.ssm_stub.specs.declared.read_call.ReadRefusal.TheVariants as read_refusal
use Rattle.ssm_stub.specs.declared.write_call.WriteRefusal.{WriteRefusal}
use Rattle.ssm_stub.specs.declared.write_call.WriteRefusal.TheVariants as write_refusal

-- each of these calls is among those
abbrev pub AreAmong : {L M : Type 0} → (L → LinkEvent → L → Type 0) → (M → LinkEvent → M → Type 0) → Type 0
AreAmong calls more = (call : LinkEvent) → MakesAmong calls tt call tt → MakesAmong more tt call tt

module _ {L M : Type 0} (calls : L → LinkEvent → L → Type 0) (more : M → LinkEvent → M → Type 0) (among : AreAmong calls more) where
  made_among : (old : Unit {0}) (made : List LinkEvent) (new : Unit {0}) → Made (MakesAmong calls) old made new → Made (MakesAmong more) old made new
  made_among old [] new h = h
  made_among old (call ∷ made) new (next, here, rest) = (next, among call here, made_among next made new rest)

  ran_among : {S : Type 0} (m : Machine S) (ask : List ℕ) (start : S) (old new : Unit {0}) (events : List StubEvent) (end : S) → Ran m (MakesAmong calls) ask start old events end new → Ran m (MakesAmong more) ask start old events end new
  ran_among m ask start old new events end r = record { fitting = r.fitting; made = made_among old (calls_in m ask start events) new r.made; ends = r.ends }

  pub reads_among : (start : ReadState) (answer : Result (List ℕ) ReadRefusal) → ReadsTo calls start answer → ReadsTo more start answer
  reads_among start answer r = record { events = r.events; end = r.end; ran = ran_among read_machine (encode_of (read_ask start)) start tt tt r.events r.end r.ran; answers = r.answers }

  pub known_among : (begin : Option ReadState) (lease : Option SessionLease) → IsKnown calls begin lease → IsKnown more begin lease
  known_among None None k = k
  known_among None (Some lease) k = k
  known_among (Some start) None k = k
  known_among (Some start) (Some lease) k = (k.0, k.1, reads_among start (Ok lease.value) k.2)

  gone_among : (begin : Option ReadState) (why : ReadRefusal) → IsGone calls begin why → IsGone more begin why
  gone_among None why k = k
  gone_among (Some start) why k = reads_among start (Err why) k

  reading_among : (begin : Option ReadState) (w : SessionWay) → IsReading calls begin w → IsReading more begin w
  reading_among begin way.Resting k = k
  reading_among begin (way.Reading r) k =
      (k.0, k.1, record { events = k.2.events; ran = ran_among read_machine (encode_of (read_ask k.0)) k.0 tt tt k.2.events r k.2.ran; same = k.2.same })
  reading_among begin (way.Ordered order) k = k
  reading_among begin (way.Writing w) k = k
  reading_among begin (way.Settling w) k = k
  reading_among begin (way.Holding passes) k = k

  writing_among : (order : WriteOrder) (here : WriteState) → IsWriting calls order here → IsWriting more order here
  writing_among order here k = record {
    begun = k.begun;
    has_begun = k.has_begun;
    ran = record { events = k.ran.events; ran = ran_among write_until (encode_of k.begun.write.ask) k.begun.write tt tt k.ran.events here k.ran.ran; same = k.ran.same };
  }

  writes_among : (order : WriteOrder) (answer : Result Cookie WriteRefusal) → WritesTo calls order answer → WritesTo more order answer
  writes_among order answer k = record { end = k.end; writing = writing_among order k.end k.writing; answers = k.answers }

  runs_among : (order : WriteOrder) (answer : Result Cookie WriteRefusal) (here : WriteState) → RunsOn calls order answer here → RunsOn more order answer here
  runs_among order answer here k = record {
    begun = k.begun;
    has_begun = k.has_begun;
    ran = record { events = k.ran.events; ran = ran_among write_machine (encode_of k.begun.write.ask) k.begun.write tt tt k.ran.events here k.ran.ran; same = k.ran.same };
    answers = k.answers;
  }

  ordered_among : (order : WriteOrder) (w : SessionWay) → WritesBy calls order w → WritesBy more order w
  ordered_among order way.Resting k = k
  ordered_among order (way.Reading r) k = k
  ordered_among order (way.Ordered now) k = k
  ordered_among order (way.Writing w) k = writing_among order w.write k
  ordered_among order (way.Settling w) k = k
  ordered_among order (way.Holding passes) k = k

  answer_among : (w : SessionWay) (order : WriteOrder) (answer : Result Cookie WriteRefusal) → HasAnswer calls w order answer → HasAnswer more w order answer
  answer_among way.Resting order answer k = k
  answer_among (way.Reading r) order answer k = k
  answer_among (way.Ordered now) order answer k = k
  answer_among (way.Writing w) order answer k = runs_among order answer w.write k
  answer_among (way.Settling w) order answer k = k
  answer_among (way.Holding passes) order answer k = k

  settles_among : (w : SessionWay) (order : WriteOrder) (answer : Result Cookie WriteRefusal) → SettlesWith calls w order answer → SettlesWith more w order answer
  settles_among way.Resting order answer k = k
  settles_among (way.Reading r) order answer k = k
  settles_among (way.Ordered now) order answer k = k
  settles_among (way.Writing w) order answer k = k
  settles_among (way.Settling w) order answer k = runs_among order answer w.write k
  settles_among (way.Holding passes) order answer k = k

  come_among : (facts : VisitFacts) (lease : Option SessionLease) (what : Option DoneText) (answer : Result Cookie WriteRefusal) → HasCome calls facts lease what answer → HasCome more facts lease what answer
  come_among facts lease what answer k = record { order = k.order; is_order = k.is_order; writes_to = writes_among k.order answer k.writes_to }

  cookie_among : (facts : VisitFacts) (lease : Option SessionLease) (what : Option DoneText) (cookie : Option Cookie) → CookieTold calls facts lease what cookie → CookieTold more facts lease what cookie
  cookie_among facts lease what None k = k
  cookie_among facts lease what (Some cookie) k = come_among facts lease what (Ok cookie) k

  end_among : (es : List Entry) (facts : VisitFacts) (lease : Option SessionLease) (cookie : Option Cookie) (end : RequestOutcome) → EndTold calls es facts lease cookie end → EndTold more es facts lease cookie end
  end_among es facts lease cookie (Page place again) k = cookie_among facts lease (done_at es place) cookie k
  end_among es facts lease cookie (Sentinel group down) k = k
  end_among es facts lease cookie (Hung component fault path) k = k
  end_among es facts lease cookie (Raised component fault path) k = k
  end_among es facts lease cookie (Revoked tries) k = k
  end_among es facts lease cookie (Conflict tries) k = k
  end_among es facts lease cookie (JournalFull full) k = k
  end_among es facts lease cookie KeeperFailed k = k

  module _ (begin : Option ReadState) (es : List Entry) (facts : VisitFacts) (lease : Option SessionLease) (cookie : Option Cookie) where
    told_among : (became : ItemOutcome) → SessionTold calls begin es facts lease cookie became → SessionTold more begin es facts lease cookie became
    told_among (item.Refused why) k = (known_among begin lease k.0, k.1)
    told_among (item.SerialsSpent seen) k = (known_among begin lease k.0, k.1)
    told_among (item.Expired now expiry) k = (k.0, k.1, gone_among begin (read_refusal.Expired now expiry) k.2)
    told_among (item.Lost causes) k = (k.0, k.1, gone_among begin (read_refusal.Lost causes) k.2)
    told_among (item.Ended end) k = (known_among begin lease k.0, end_among es facts lease cookie end k.1)
    told_among (item.Overload place again full) k = (known_among begin lease k.0, k.1, k.2, k.3)
    told_among (item.Missed place again causes) k =
        (known_among begin lease k.0, k.1, come_among facts lease (done_at es place) (Err (write_refusal.Missed causes)) k.2)

    fate_among : (w : SessionWay) (HeldSo : WriteOrder → Result Cookie WriteRefusal → Type 0) (HeldMore : WriteOrder → Result Cookie WriteRefusal → Type 0)
        → ((order : WriteOrder) (answer : Result Cookie WriteRefusal) → HeldSo order answer → HeldMore order answer)
        → (fate : Fate) → FateTold calls begin es facts lease cookie w HeldSo fate → FateTold more begin es facts lease cookie w HeldMore fate
    fate_among w HeldSo HeldMore held (Known became) k = (told_among became k.0, k.1)
    fate_among w HeldSo HeldMore held (Writing place again) k =
        let a = k.2 in
        (known_among begin lease k.0, k.1, record { order = a.order; answer = a.answer; is_order = a.is_order; writes_to = writes_among a.order a.answer a.writes_to; held_so = held a.order a.answer a.held_so })

    work_among : {P : Type 0} (w : SessionWay) (work : Work P) → SessionOf calls begin es facts lease cookie w work → SessionOf more begin es facts lease cookie w work
    work_among w Reading k = (k.0, k.1, reading_among begin w k.2)
    work_among w Opening k = (known_among begin lease k.0, k.1, k.2)
    work_among w (Serving tries program) k = (known_among begin lease k.0, k.1, k.2)
    work_among w (Committed place again shown) k =
        let a = k.2 in
        (known_among begin lease k.0, k.1, record { order = a.order; is_order = a.is_order; writes = ordered_among a.order w a.writes })
    work_among w (Decided became) k = (told_among became k.0, k.1)
    work_among w (Answered fate bytes) k = fate_among w (HasAnswer calls w) (HasAnswer more w) (answer_among w) fate k
    work_among w (Left fate) k = fate_among w (SettlesWith calls w) (SettlesWith more w) (settles_among w) fate k

  -- What is so of the session of a request over these calls is so over more.
  pub stands_among : {P : Type 0} (begin : Option ReadState) (history : List Event) (v : Visit P) → SessionStands calls begin history v → SessionStands more begin history v
  stands_among begin history v s =
      record { within = s.within; so = work_among begin (entries_in (take v.holds.held history)) v.facts v.lease v.cookie v.way v.work s.so }

  -- What an item tells of its session over these calls is so over more.
  pub tells_among : (begin : Option ReadState) (facts : VisitFacts) (es : List Entry) (i : Item) → TellsSession calls begin facts es i → TellsSession more begin facts es i
  tells_among begin facts es i t =
      record { lease = t.lease; value_is = t.value_is; moment_is = t.moment_is; told = told_among begin es facts t.lease i.cookie i.outcome t.told }
