-- What is so of the session of a request: what its read answered, and what came of its write. The calls of the link are
-- the request's own: others may call it between two of these.
use Rattle.std.specs.Prelude.{◌≡◌, ◌≤◌, ◌<◌, ◌+◌, ℕ, List, length, take, Option, Some, None, Result, Ok, Err, option_map}
use Rattle.container_core.specs.History.{entries_in}
use Rattle.container_core.specs.declared.history.Event.{Event}
use Rattle.journal_model.specs.declared.entry.DoneText.{DoneText}
use Rattle.journal_model.specs.declared.entry.Entry.{Entry}
use Rattle.outside.specs.declared.link.LinkEvent.{LinkEvent}
use Rattle.send_windows.specs.Facts.{full_facts, open_count}
use Rattle.send_windows.specs.Windows.{WindowsValue}
use Rattle.send_windows.specs.declared.fact.WindowFact.{WindowFact}
use Rattle.session_cookie.specs.declared.cookie.Cookie.{Cookie}
use Rattle.session_cookie.specs.declared.cookie.TheConstants.{MAX_HOLDERS}
use Rattle.ssm_stub.specs.Ends.{ReadEnds}
use Rattle.ssm_stub.specs.Reads.{ReadState}
use Rattle.ssm_stub.specs.Writes.{WriteState, write_answer}
use Rattle.ssm_stub.specs.declared.read_call.ReadRefusal.{ReadRefusal}
use Rattle.ssm_stub.specs.declared.read_call.ReadRefusal.TheVariants as read_refusal
use Rattle.ssm_stub.specs.declared.write_call.WriteRefusal.{WriteRefusal}
use Rattle.ssm_stub.specs.declared.write_call.WriteRefusal.TheVariants as write_refusal
use Rattle.session_way.specs.Lease.{value_to_write}
use Rattle.session_way.specs.Runs.{HasRead, HasSettled, HasWritten}
use Rattle.session_way.specs.Way.{IsTaken}
use Rattle.session_way.specs.Writing.{WritingState}
use Rattle.session_way.specs.declared.lease.SessionLease.{SessionLease}
use Rattle.session_way.specs.declared.session_write.WriteOrder.{WriteOrder}
use Rattle.session_way.specs.declared.way.SessionWay.{SessionWay}
use Rattle.session_way.specs.declared.way.SessionWay.TheVariants as way
use Rattle.request_tries.specs.Ends.{done_at}
use Rattle.request_tries.specs.declared.outcome.RequestOutcome.{RequestOutcome}
use Rattle.request_tries.specs.declared.outcome.RequestOutcome.TheVariants.{Page, Sentinel, Hung, Raised, Revoked, Conflict, JournalFull, KeeperFailed}
use Rattle.outcome_items.specs.declared.item.Item.{Item}
use Rattle.outcome_items.specs.declared.outcome.ItemOutcome.{ItemOutcome}
use Rattle.outcome_items.specs.declared.outcome.ItemOutcome.TheVariants as item
use Rattle.request_visit.specs.Ready.{set_in}
use Rattle.request_visit.specs.declared.facts.VisitFacts.{VisitFacts}
use Rattle.request_visit.specs.declared.visit.Fate.{Fate}
use Rattle.request_visit.specs.declared.visit.Fate.TheVariants.{Known, Writing}
use Rattle.request_visit.specs.declared.visit.Visit.{Visit}
use Rattle.request_visit.specs.declared.visit.Work.{Work}
use Rattle.request_visit.specs.declared.visit.Work.TheVariants.{Reading, Opening, Serving, Committed, Decided, Answered, Left}

-- A link makes this call, from some state of it to some other: which these are is left out, since others may have
-- called it before.
abbrev pub MakesAmong : {L : Type 0} → (L → LinkEvent → L → Type 0) → Unit {0} → LinkEvent → Unit {0} → Type 0
MakesAmong {L} makes old call new = (before : L) × (after : L) × makes before call after

-- a read that begins so came to this answer
abbrev pub ReadsTo : {L : Type 0} → (L → LinkEvent → L → Type 0) → ReadState → Result (List ℕ) ReadRefusal → Type 0
ReadsTo makes start answer = ReadEnds (MakesAmong makes) start tt tt answer

-- What is known of a session is what its read answered, under the key and until the expiry of its cookie; and nothing
-- where none was read.
abbrev pub IsKnown : {L : Type 0} → (L → LinkEvent → L → Type 0) → Option ReadState → Option SessionLease → Type 0
IsKnown makes None None = Unit {0}
IsKnown makes None (Some lease) = ⊥
IsKnown makes (Some start) None = ⊥
IsKnown makes (Some start) (Some lease) =
    (lease.key ≡ start.key) × (lease.expiry ≡ start.expiry) × ReadsTo makes start (Ok lease.value)

-- a session was read, and refused for this
abbrev pub IsGone : {L : Type 0} → (L → LinkEvent → L → Type 0) → Option ReadState → ReadRefusal → Type 0
IsGone makes None why = ⊥
IsGone makes (Some start) why = ReadsTo makes start (Err why)

-- The order by which a session is written after a page whose entry answers this: with the value that follows, under the
-- key and with the nonce of the request, for half an hour.
pub record IsOrderOf (facts : VisitFacts) (lease : Option SessionLease) (what : Option DoneText) (order : WriteOrder) : Type 0 where
  pub value_is : value_to_write (set_in what) facts.now lease ≡ Some order.value
  pub key_is : order.key ≡ facts.key
  pub nonce_is : order.nonce ≡ facts.write
  pub expiry_is : order.expiry.0 ≡ facts.now.0 + 1800000

-- A write of this order has begun by passes that were taken for it; its value is to be stored by at least one brick,
-- and by no more than a cookie may name.
pub record HasBegun (order : WriteOrder) (begun : WritingState) : Type 0 where
  pub old : WindowsValue
  pub new : WindowsValue
  pub is_taken : IsTaken order old (way.Writing begun) new
  pub some : 1 ≤ old.wq
  pub few : old.wq ≤ MAX_HOLDERS

-- A write of this order has run so far, at most to its answer.
pub record IsWriting {L : Type 0} (makes : L → LinkEvent → L → Type 0) (order : WriteOrder) (here : WriteState) : Type 0 where
  pub begun : WritingState
  pub has_begun : HasBegun order begun
  pub ran : HasWritten (MakesAmong makes) begun.write tt here tt

-- A write of this order came to this answer.
pub record WritesTo {L : Type 0} (makes : L → LinkEvent → L → Type 0) (order : WriteOrder) (answer : Result Cookie WriteRefusal) : Type 0 where
  pub end : WriteState
  pub writing : IsWriting makes order end
  pub answers : write_answer end ≡ Some answer

-- A write of this order has this answer, and may have run on beyond it.
pub record RunsOn {L : Type 0} (makes : L → LinkEvent → L → Type 0) (order : WriteOrder) (answer : Result Cookie WriteRefusal) (here : WriteState) : Type 0 where
  pub begun : WritingState
  pub has_begun : HasBegun order begun
  pub ran : HasSettled (MakesAmong makes) begun.write tt here tt
  pub answers : write_answer here ≡ Some answer

-- the session is read so far, from this begin
abbrev pub IsReading : {L : Type 0} → (L → LinkEvent → L → Type 0) → Option ReadState → SessionWay → Type 0
IsReading makes begin way.Resting = ⊥
IsReading makes begin (way.Reading r) = (start : ReadState) × (begin ≡ Some start) × HasRead (MakesAmong makes) start tt r tt
IsReading makes begin (way.Ordered order) = ⊥
IsReading makes begin (way.Writing w) = ⊥
IsReading makes begin (way.Settling w) = ⊥
IsReading makes begin (way.Holding passes) = ⊥

-- the session is to be written by this order, or is written so far
abbrev pub WritesBy : {L : Type 0} → (L → LinkEvent → L → Type 0) → WriteOrder → SessionWay → Type 0
WritesBy makes order way.Resting = ⊥
WritesBy makes order (way.Reading r) = ⊥
WritesBy makes order (way.Ordered now) = now ≡ order
WritesBy makes order (way.Writing w) = IsWriting makes order w.write
WritesBy makes order (way.Settling w) = ⊥
WritesBy makes order (way.Holding passes) = ⊥

-- its write has this answer, and its response is to leave
abbrev pub HasAnswer : {L : Type 0} → (L → LinkEvent → L → Type 0) → SessionWay → WriteOrder → Result Cookie WriteRefusal → Type 0
HasAnswer makes way.Resting order answer = ⊥
HasAnswer makes (way.Reading r) order answer = ⊥
HasAnswer makes (way.Ordered now) order answer = ⊥
HasAnswer makes (way.Writing w) order answer = RunsOn makes order answer w.write
HasAnswer makes (way.Settling w) order answer = ⊥
HasAnswer makes (way.Holding passes) order answer = ⊥

-- its write has this answer, and is settled since its response has left
abbrev pub SettlesWith : {L : Type 0} → (L → LinkEvent → L → Type 0) → SessionWay → WriteOrder → Result Cookie WriteRefusal → Type 0
SettlesWith makes way.Resting order answer = ⊥
SettlesWith makes (way.Reading r) order answer = ⊥
SettlesWith makes (way.Ordered now) order answer = ⊥
SettlesWith makes (way.Writing w) order answer = ⊥
SettlesWith makes (way.Settling w) order answer = RunsOn makes order answer w.write
SettlesWith makes (way.Holding passes) order answer = ⊥

-- A page whose entry answers this waits for the write of its session.
pub record Awaits {L : Type 0} (makes : L → LinkEvent → L → Type 0) (facts : VisitFacts) (lease : Option SessionLease) (what : Option DoneText) (w : SessionWay) : Type 0 where
  pub order : WriteOrder
  pub is_order : IsOrderOf facts lease what order
  pub writes : WritesBy makes order w

-- The write that follows a page whose entry answers this has an answer, and is held so.
pub record IsAnswered {L : Type 0} (makes : L → LinkEvent → L → Type 0) (facts : VisitFacts) (lease : Option SessionLease) (what : Option DoneText) (HeldSo : WriteOrder → Result Cookie WriteRefusal → Type 0) : Type 0 where
  pub order : WriteOrder
  pub answer : Result Cookie WriteRefusal
  pub is_order : IsOrderOf facts lease what order
  pub writes_to : WritesTo makes order answer
  pub held_so : HeldSo order answer

-- The write that follows a page whose entry answers this came to this answer.
pub record HasCome {L : Type 0} (makes : L → LinkEvent → L → Type 0) (facts : VisitFacts) (lease : Option SessionLease) (what : Option DoneText) (answer : Result Cookie WriteRefusal) : Type 0 where
  pub order : WriteOrder
  pub is_order : IsOrderOf facts lease what order
  pub writes_to : WritesTo makes order answer

-- A page has a cookie exactly where its session was to be written, and the cookie is what that write gave.
abbrev pub CookieTold : {L : Type 0} → (L → LinkEvent → L → Type 0) → VisitFacts → Option SessionLease → Option DoneText → Option Cookie → Type 0
CookieTold makes facts lease what None = value_to_write (set_in what) facts.now lease ≡ None
CookieTold makes facts lease what (Some cookie) = HasCome makes facts lease what (Ok cookie)

-- the cookie of a request that has ended so: none where it shows no page
abbrev pub EndTold : {L : Type 0} → (L → LinkEvent → L → Type 0) → List Entry → VisitFacts → Option SessionLease → Option Cookie → RequestOutcome → Type 0
EndTold makes es facts lease cookie (Page place again) = CookieTold makes facts lease (done_at es place) cookie
EndTold makes es facts lease cookie (Sentinel group down) = cookie ≡ None
EndTold makes es facts lease cookie (Hung component fault path) = cookie ≡ None
EndTold makes es facts lease cookie (Raised component fault path) = cookie ≡ None
EndTold makes es facts lease cookie (Revoked tries) = cookie ≡ None
EndTold makes es facts lease cookie (Conflict tries) = cookie ≡ None
EndTold makes es facts lease cookie (JournalFull full) = cookie ≡ None
EndTold makes es facts lease cookie KeeperFailed = cookie ≡ None

-- Passes were refused while these windows were full: fewer were open than a write needs, and these are all others.
abbrev pub WereFull : List WindowFact → Type 0
WereFull full = (windows : WindowsValue) × (open_count windows.facts < windows.wq) × (full ≡ full_facts windows.facts)

-- What came of a session, by what became of its request.
abbrev pub SessionTold : {L : Type 0} → (L → LinkEvent → L → Type 0) → Option ReadState → List Entry → VisitFacts → Option SessionLease → Option Cookie → ItemOutcome → Type 0
SessionTold makes begin es facts lease cookie (item.Refused why) = IsKnown makes begin lease × (cookie ≡ None)
SessionTold makes begin es facts lease cookie (item.SerialsSpent seen) = IsKnown makes begin lease × (cookie ≡ None)
SessionTold makes begin es facts lease cookie (item.Expired now expiry) =
    (lease ≡ None) × (cookie ≡ None) × IsGone makes begin (read_refusal.Expired now expiry)
SessionTold makes begin es facts lease cookie (item.Lost causes) =
    (lease ≡ None) × (cookie ≡ None) × IsGone makes begin (read_refusal.Lost causes)
SessionTold makes begin es facts lease cookie (item.Ended end) =
    IsKnown makes begin lease × EndTold makes es facts lease cookie end
SessionTold makes begin es facts lease cookie (item.Overload place again full) =
    IsKnown makes begin lease × (cookie ≡ None) × ((order : WriteOrder) × IsOrderOf facts lease (done_at es place) order)
    × WereFull full
SessionTold makes begin es facts lease cookie (item.Missed place again causes) =
    IsKnown makes begin lease × (cookie ≡ None) × HasCome makes facts lease (done_at es place) (Err (write_refusal.Missed causes))

-- the same, by what is told of it so far: a write that has an answer is held so
abbrev pub FateTold : {L : Type 0} → (L → LinkEvent → L → Type 0) → Option ReadState → List Entry → VisitFacts → Option SessionLease → Option Cookie → SessionWay → (WriteOrder → Result Cookie WriteRefusal → Type 0) → Fate → Type 0
FateTold makes begin es facts lease cookie w HeldSo (Known became) =
    SessionTold makes begin es facts lease cookie became × (w ≡ way.Resting)
FateTold makes begin es facts lease cookie w HeldSo (Writing place again) =
    IsKnown makes begin lease × (cookie ≡ None) × IsAnswered makes facts lease (done_at es place) HeldSo

-- What is so of the session of a request, by how far the request has come.
abbrev pub SessionOf : {P L : Type 0} → (L → LinkEvent → L → Type 0) → Option ReadState → List Entry → VisitFacts → Option SessionLease → Option Cookie → SessionWay → Work P → Type 0
SessionOf makes begin es facts lease cookie w Reading = (lease ≡ None) × (cookie ≡ None) × IsReading makes begin w
SessionOf makes begin es facts lease cookie w Opening = IsKnown makes begin lease × (cookie ≡ None) × (w ≡ way.Resting)
SessionOf makes begin es facts lease cookie w (Serving tries program) =
    IsKnown makes begin lease × (cookie ≡ None) × (w ≡ way.Resting)
SessionOf makes begin es facts lease cookie w (Committed place again shown) =
    IsKnown makes begin lease × (cookie ≡ None) × Awaits makes facts lease (done_at es place) w
SessionOf makes begin es facts lease cookie w (Decided became) =
    SessionTold makes begin es facts lease cookie became × (w ≡ way.Resting)
SessionOf makes begin es facts lease cookie w (Answered fate bytes) =
    FateTold makes begin es facts lease cookie w (HasAnswer makes w) fate
SessionOf makes begin es facts lease cookie w (Left fate) =
    FateTold makes begin es facts lease cookie w (SettlesWith makes w) fate

-- This is so of the session of a request that began by this read, if by one, over the journal as it was when the
-- container was last held for it.
pub record SessionStands {P L : Type 0} (makes : L → LinkEvent → L → Type 0) (begin : Option ReadState) (history : List Event) (v : Visit P) : Type 0 where
  pub within : v.holds.held ≤ length history
  pub so : SessionOf makes begin (entries_in (take v.holds.held history)) v.facts v.lease v.cookie v.way v.work

-- What an item says of its session is what came of it.
pub record TellsSession {L : Type 0} (makes : L → LinkEvent → L → Type 0) (begin : Option ReadState) (facts : VisitFacts) (es : List Entry) (i : Item) : Type 0 where
  pub lease : Option SessionLease
  pub value_is : i.value ≡ option_map (λ (l : SessionLease). l.value) lease
  pub moment_is : i.moment ≡ facts.now
  pub told : SessionTold makes begin es facts lease i.cookie i.outcome
