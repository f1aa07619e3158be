-- What is so of the session of a request, step by step.
use Rattle.std.specs.Prelude.{option_map, IfSome}
use Rattle.std.proofs.Common.{◌≡◌, ◌≢◌, ◌≤◌, ◌+◌, ℕ, Bool, List, [], ◌++◌, length, take, Option, Some, None, Result, Ok, Err, refl, sym, ap, ◌∙◌, subst, inl, inr, arith, length-append}
use Rattle.std.proofs.lemmas.List.{take-append-le}
use Rattle.crash_base.specs.declared.numbers.Moment.{Moment}
use Rattle.crash_base.specs.declared.numbers.Place.{Place}
use Rattle.crash_base.specs.declared.numbers.Version.{Version}
use Rattle.call_ticket.specs.declared.next.Answer.{Answer}
use Rattle.call_ticket.specs.declared.next.Next.{Next}
use Rattle.container_core.specs.Container.{ContainerValue, events_of}
use Rattle.container_core.specs.History.{entries_in}
use Rattle.container_core.specs.declared.history.Event.{Event}
use Rattle.journal_model.specs.declared.entry.DoneText.{DoneText}
use Rattle.journal_model.specs.declared.entry.Entry.{Entry}
use Rattle.outside.specs.declared.link.LinkCounts.{LinkCounts}
use Rattle.outside.specs.declared.link.LinkEvent.{LinkEvent}
use Rattle.send_windows.specs.Windows.{WindowsValue}
use Rattle.send_windows.specs.declared.fact.WindowFact.{WindowFact}
use Rattle.send_windows.specs.declared.windows.TakeRefusal.TheVariants as refusal
use Rattle.session_cookie.specs.Cookie.{AreHolders}
use Rattle.session_cookie.specs.declared.cookie.Cookie.{Cookie}
use Rattle.session_cookie.specs.declared.cookie.TheConstants.{MAX_HOLDERS}
use Rattle.ssm_stub.specs.Reads.{ReadState, read_answer, read_start}
use Rattle.ssm_stub.specs.Writes.{write_answer}
use Rattle.ssm_stub.specs.declared.read_call.ReadRefusal.TheVariants as read_refusal
use Rattle.ssm_stub.specs.declared.write_call.WriteRefusal.{WriteRefusal}
use Rattle.session_way.specs.Lease.{value_to_write}
use Rattle.session_way.specs.Reading.{answer_of_read}
use Rattle.session_way.specs.Runs.{HasRead}
use Rattle.session_way.specs.Way.{IsRefused, IsTaken, StepsOutside, StepsWindows, answer_held, passes_for, settled, wants}
use Rattle.session_way.specs.Writing.{WritingState, answer_of_write, write_begun}
use Rattle.session_way.specs.declared.lease.SessionLease.{SessionLease}
use Rattle.session_way.specs.declared.session_read.ReadOutcome.{ReadOutcome}
use Rattle.session_way.specs.declared.session_read.ReadOutcome.TheVariants as read
use Rattle.session_way.specs.declared.session_write.WriteOrder.{WriteOrder}
use Rattle.session_way.specs.declared.session_write.WriteOutcome.{WriteOutcome}
use Rattle.session_way.specs.declared.session_write.WriteOutcome.TheVariants as outcome
use Rattle.session_way.specs.declared.way.SessionWay.{SessionWay}
use Rattle.session_way.specs.declared.way.SessionWay.TheVariants as way
use Rattle.session_way.specs.declared.way.Wants.{Wants}
use Rattle.session_way.specs.declared.way.Wants.TheVariants as wanted
use Rattle.request_tries.specs.Ends.{MayEnd, done_at, done_of}
use Rattle.request_tries.specs.Serving.{TriesValue, errand_of}
use Rattle.request_tries.specs.declared.outcome.Ended.{Ended}
use Rattle.request_tries.specs.declared.outcome.RequestOutcome.{RequestOutcome}
use Rattle.request_tries.specs.declared.outcome.RequestOutcome.TheVariants.{Page, Sentinel, Hung, Raised, Revoked, Conflict, JournalFull, KeeperFailed}
use Rattle.outcome_items.specs.declared.item.Item.{Item}
use Rattle.outcome_items.specs.declared.outcome.ItemOutcome.{ItemOutcome}
use Rattle.outcome_items.specs.declared.outcome.ItemOutcome.TheVariants as item
use Rattle.request_visit.specs.Advancing.{Advances, HearsReadOf, IsItemOf, IsOfRead, after_leaving, after_read, cookie_in, departed}
use Rattle.request_visit.specs.Ready.{ready_by, ready_of, set_in}
use Rattle.request_visit.specs.Marks.{IsSettling}
use Rattle.request_visit.specs.Serving.{closed_with, closing_of, holds_of}
use Rattle.request_visit.specs.Sessions.{IsAnswered, Awaits, CookieTold, EndTold, FateTold, HasAnswer, HasCome, IsGone, IsKnown, IsReading, MakesAmong, ReadsTo, SessionOf, SessionStands, SessionTold, SettlesWith, TellsSession, WritesBy, WritesTo, WereFull}
use Rattle.request_visit.specs.Stepping.{IsGivenBack, ServesWork, VisitsInside, VisitsWindows, after_closing_if, dropped, left_so, shown_so}
use Rattle.request_visit.specs.Visits.{after_outcome, begun, or_over, or_own, overloaded, turn, turn_by}
use Rattle.request_visit.specs.declared.facts.VisitFacts.{VisitFacts}
use Rattle.request_visit.specs.declared.ready.Ready.{Ready}
use Rattle.request_visit.specs.declared.ready.Ready.TheVariants.{Respond, Write}
use Rattle.request_visit.specs.declared.serving.Closed.TheVariants as closes
use Rattle.request_visit.specs.declared.serving.Closing.{Closing}
use Rattle.request_visit.specs.declared.visit.Fate.{Fate}
use Rattle.request_visit.specs.declared.visit.Fate.TheVariants.{Known, Writing}
use Rattle.request_visit.specs.declared.visit.Turn.TheVariants as turns
use Rattle.request_visit.specs.declared.visit.Visit.{Visit}
use Rattle.request_visit.specs.declared.visit.Work.{Work}
use Rattle.request_visit.specs.declared.visit.Work.TheVariants.{Reading, Opening, Serving, Committed, Decided, Answered, Left}
use Rattle.request_visit.proofs.Chaining.{Stays, holders_of, read_on, settle_on, settled_from, write_on, written_so}
use Rattle.request_visit.proofs.Following.{responds, writes}
use Rattle.request_visit.proofs.Marking.{cookie_told, none_told, over_nothing, settling_wants, work_told}
use Rattle.request_visit.proofs.Turning.{outside_wanted, own_nothing}

-- the law that a write that wants nothing more has its answer
abbrev pub WriteAnswers : Type 0
WriteAnswers = (w : WritingState) → wants (way.Writing w) ≡ wanted.Nothing → write_answer w.write ≢ None

over_own : (w : Wants) → or_over w ≡ turns.Own → ⊥
over_own wanted.Nothing e = cc
over_own wanted.Outside e = cc
over_own wanted.Windows e = cc

own_output : (w : Wants) → or_own w ≡ turns.Output → ⊥
own_output wanted.Nothing e = cc
own_output wanted.Outside e = cc
own_output wanted.Windows e = cc

over_output : (w : Wants) → or_over w ≡ turns.Output → ⊥
over_output wanted.Nothing e = cc
over_output wanted.Outside e = cc
over_output wanted.Windows e = cc

module _ {L : Type 0} (makes : L → LinkEvent → L → Type 0) (begin : Option ReadState) where
  -- a journal's entries stay where a history grows
  pub meanwhile_stands : {P : Type 0} (history more : List Event) (v : Visit P) → SessionStands makes begin history v → SessionStands makes begin (history ++ more) v
  meanwhile_stands {P} history more v s = record {
    within = omega (arith, s.within, length-append history more);
    so = subst (λ (seen : List Event). SessionOf makes begin (entries_in seen) v.facts v.lease v.cookie v.way v.work) (sym (take-append-le v.holds.held history more s.within)) s.so;
  }

  pub opened_stands : {P : Type 0} (history : List Event) (v : Visit P) (tries : TriesValue) (program : P)
      → v.work ≡ Opening → SessionStands makes begin history v → SessionStands makes begin history (record v { work = Serving tries program })
  opened_stands {P} history v tries program is s = record {
    within = s.within;
    so = subst (λ (w : Work P). SessionOf makes begin (entries_in (take v.holds.held history)) v.facts v.lease v.cookie v.way w) is s.so;
  }

  dropped_of : {P : Type 0} (es : List Entry) (facts : VisitFacts) (lease : Option SessionLease) (cookie : Option Cookie) (w : SessionWay) (work : Work P)
      → SessionOf makes begin es facts lease cookie w work → SessionOf makes begin es facts lease cookie w (dropped work)
  dropped_of es facts lease cookie w Reading s = s
  dropped_of es facts lease cookie w Opening s = s
  dropped_of es facts lease cookie w (Serving tries program) s = s
  dropped_of es facts lease cookie w (Committed place again shown) s = s
  dropped_of es facts lease cookie w (Decided became) s = s
  dropped_of es facts lease cookie w (Answered fate bytes) s = s
  dropped_of es facts lease cookie w (Left fate) s = s

  pub dropped_stands : {P : Type 0} (history : List Event) (v : Visit P) → SessionStands makes begin history v → SessionStands makes begin history (record v { work = dropped v.work })
  dropped_stands history v s =
      record { within = s.within; so = dropped_of (entries_in (take v.holds.held history)) v.facts v.lease v.cookie v.way v.work s.so }

  -- a session that rests makes no step outside
  rests_outside : (w after : SessionWay) (link later : L) → StepsOutside makes w link after later → w ≡ way.Resting → ⊥
  rests_outside w after link later s rests = subst (λ (x : SessionWay). StepsOutside makes x link after later) rests s

  read_outside : (w after : SessionWay) (link later : L) → StepsOutside makes w link after later → IsReading makes begin w → IsReading makes begin after
  read_outside way.Resting after link later s k = absurd k
  read_outside (way.Reading r) after link later s k =
      subst (λ (x : SessionWay). IsReading makes begin x) (sym s.1) (k.0, k.1, read_on makes k.0 r s.0 link later k.2 s.2)
  read_outside (way.Ordered order) after link later s k = absurd k
  read_outside (way.Writing v) after link later s k = absurd k
  read_outside (way.Settling v) after link later s k = absurd k
  read_outside (way.Holding passes) after link later s k = absurd k

  write_outside : (order : WriteOrder) (w after : SessionWay) (link later : L) → wants w ≡ wanted.Outside → StepsOutside makes w link after later → WritesBy makes order w → WritesBy makes order after
  write_outside order way.Resting after link later e s k = absurd k
  write_outside order (way.Reading r) after link later e s k = absurd k
  write_outside order (way.Ordered now) after link later e s k = absurd s
  write_outside order (way.Writing v) after link later e s k =
      subst (λ (x : SessionWay). WritesBy makes order x) (sym s.1)
      (record { begun = k.begun; has_begun = k.has_begun; ran = write_on makes k.begun.write v.write s.0 link later k.ran e s.2 })
  write_outside order (way.Settling v) after link later e s k = absurd k
  write_outside order (way.Holding passes) after link later e s k = absurd k

  settle_outside : (law : Stays) (w after : SessionWay) (link later : L) (order : WriteOrder) (answer : Result Cookie WriteRefusal) → StepsOutside makes w link after later → SettlesWith makes w order answer → SettlesWith makes after order answer
  settle_outside law way.Resting after link later order answer s k = absurd k
  settle_outside law (way.Reading r) after link later order answer s k = absurd k
  settle_outside law (way.Ordered now) after link later order answer s k = absurd k
  settle_outside law (way.Writing v) after link later order answer s k = absurd k
  settle_outside law (way.Settling v) after link later order answer s k =
      subst (λ (x : SessionWay). SettlesWith makes x order answer) (sym s.1) (settle_on law makes order answer v.write s.0 link later k s.2)
  settle_outside law (way.Holding passes) after link later order answer s k = absurd k

  -- a write that is settled holds its answer
  settles_answer : (w : SessionWay) (order : WriteOrder) (answer : Result Cookie WriteRefusal) → SettlesWith makes w order answer → answer_held w ≡ Some answer
  settles_answer way.Resting order answer k = absurd k
  settles_answer (way.Reading r) order answer k = absurd k
  settles_answer (way.Ordered now) order answer k = absurd k
  settles_answer (way.Writing v) order answer k = absurd k
  settles_answer (way.Settling v) order answer k = k.answers
  settles_answer (way.Holding passes) order answer k = absurd k

  left_outside : (law : Stays) (es : List Entry) (facts : VisitFacts) (lease : Option SessionLease) (cookie : Option Cookie) (w after : SessionWay) (link later : L) (fate : Fate)
      → StepsOutside makes w link after later → FateTold makes begin es facts lease cookie w (SettlesWith makes w) fate → FateTold makes begin es facts lease cookie after (SettlesWith makes after) fate
  left_outside law es facts lease cookie w after link later (Known became) s k = absurd (rests_outside w after link later s k.1)
  left_outside law es facts lease cookie w after link later (Writing place again) s k =
      let a = k.2 in
      (k.0, k.1, record { order = a.order; answer = a.answer; is_order = a.is_order; writes_to = a.writes_to; held_so = settle_outside law w after link later a.order a.answer s a.held_so })

  outside_of : {P : Type 0} (law : Stays) (es : List Entry) (facts : VisitFacts) (lease : Option SessionLease) (cookie : Option Cookie) (w after : SessionWay) (link later : L) (work : Work P)
      → turn_by work (wants w) ≡ turns.Outside → StepsOutside makes w link after later → SessionOf makes begin es facts lease cookie w work → SessionOf makes begin es facts lease cookie after work
  outside_of law es facts lease cookie w after link later Reading turned s k = (k.0, k.1, read_outside w after link later s k.2)
  outside_of law es facts lease cookie w after link later Opening turned s k = absurd (cc)
  outside_of law es facts lease cookie w after link later (Serving tries program) turned s k = absurd (cc)
  outside_of {P} law es facts lease cookie w after link later (Committed place again shown) turned s k =
      let a = k.2 in
      let e : wants w ≡ wanted.Outside = outside_wanted {P = P} (Committed place again shown) (wants w) turned in
      (k.0, k.1, record { order = a.order; is_order = a.is_order; writes = write_outside a.order w after link later e s a.writes })
  outside_of law es facts lease cookie w after link later (Decided became) turned s k = absurd (cc)
  outside_of law es facts lease cookie w after link later (Answered fate bytes) turned s k = absurd (cc)
  outside_of law es facts lease cookie w after link later (Left fate) turned s k = left_outside law es facts lease cookie w after link later fate s k

  pub outside_stands : {P : Type 0} (law : Stays) (history : List Event) (v : Visit P) (after : SessionWay) (counts : LinkCounts) (link later : L)
      → turn v ≡ turns.Outside → StepsOutside makes v.way link after later → SessionStands makes begin history v → SessionStands makes begin history (record v { way = after; counts = counts })
  outside_stands law history v after counts link later turned steps s =
      record { within = s.within; so = outside_of law (entries_in (take v.holds.held history)) v.facts v.lease v.cookie v.way after link later v.work turned steps s.so }

  -- the cookie of a write that is settled stays
  stays_of : (law : Stays) (es : List Entry) (facts : VisitFacts) (lease : Option SessionLease) (cookie : Option Cookie) (w after : SessionWay) (link later : L) (fate : Fate)
      → StepsOutside makes w link after later → FateTold makes begin es facts lease cookie w (SettlesWith makes w) fate → cookie_in (answer_held after) ≡ cookie_in (answer_held w)
  stays_of law es facts lease cookie w after link later (Known became) s k = absurd (rests_outside w after link later s k.1)
  stays_of law es facts lease cookie w after link later (Writing place again) s k =
      let a = k.2 in
      ap cookie_in (settles_answer after a.order a.answer (settle_outside law w after link later a.order a.answer s a.held_so) ∙ sym (settles_answer w a.order a.answer a.held_so))

  pub cookie_stays : {P : Type 0} (law : Stays) (history : List Event) (v : Visit P) (after : SessionWay) (link later : L) (fate : Fate)
      → StepsOutside makes v.way link after later → SessionStands makes begin history v → v.work ≡ Left fate → cookie_in (answer_held after) ≡ cookie_in (answer_held v.way)
  cookie_stays {P} law history v after link later fate steps s is =
      stays_of law (entries_in (take v.holds.held history)) v.facts v.lease v.cookie v.way after link later fate steps
      (subst (λ (w : Work P). SessionOf makes begin (entries_in (take v.holds.held history)) v.facts v.lease v.cookie v.way w) is s.so)

  -- a write whose response has left has its answer
  answered_of : (es : List Entry) (facts : VisitFacts) (lease : Option SessionLease) (cookie : Option Cookie) (w : SessionWay) (place : Place) (again : Bool)
      → FateTold makes begin es facts lease cookie w (SettlesWith makes w) (Writing place again) → answer_held w ≢ None
  answered_of es facts lease cookie w place again k =
      let some : answer_held w ≡ Some k.2.answer = settles_answer w k.2.order k.2.answer k.2.held_so in
      λ none. cc

  pub answered_stands : {P : Type 0} (history : List Event) (v : Visit P) (place : Place) (again : Bool)
      → SessionStands makes begin history v → v.work ≡ Left (Writing place again) → answer_held v.way ≢ None
  answered_stands {P} history v place again s is =
      answered_of (entries_in (take v.holds.held history)) v.facts v.lease v.cookie v.way place again
      (subst (λ (w : Work P). SessionOf makes begin (entries_in (take v.holds.held history)) v.facts v.lease v.cookie v.way w) is s.so)

  -- what a write came to is told of a request whose response has left
  abbrev ToldSo : (P : Type 0) → List Entry → VisitFacts → Option SessionLease → Option Cookie → SessionWay → Option WriteOutcome → Fate → Type 0
  ToldSo P es facts lease cookie after told fate =
      SessionOf {P = P} makes begin es facts lease (cookie_told told cookie) after (work_told told (Left fate))

  spent_of : (P : Type 0) (es : List Entry) (facts : VisitFacts) (lease : Option SessionLease) (cookie : Option Cookie) (w after : SessionWay) (told : Option WriteOutcome) (place : Place) (again : Bool)
      → after ≡ way.Resting → option_map answer_of_write told ≡ answer_held w → FateTold makes begin es facts lease cookie w (SettlesWith makes w) (Writing place again) → ToldSo P es facts lease cookie after told (Writing place again)
  spent_of P es facts lease cookie w after None place again rests is k =
      let a = k.2 in
      absurd (let h : None ≡ Some a.answer = is ∙ settles_answer w a.order a.answer a.held_so in cc)
  spent_of P es facts lease cookie w after (Some (outcome.Written given)) place again rests is k =
      let a = k.2 in
      let h : Some (Ok given) ≡ Some a.answer = is ∙ settles_answer w a.order a.answer a.held_so in
      let same : a.answer ≡ Ok given = cc in
      ((k.0, record { order = a.order; is_order = a.is_order; writes_to = subst (λ (x : Result Cookie WriteRefusal). WritesTo makes a.order x) same a.writes_to }), rests)
  spent_of P es facts lease cookie w after (Some (outcome.Missed causes)) place again rests is k =
      let a = k.2 in
      let h : Some (answer_of_write (outcome.Missed causes)) ≡ Some a.answer = is ∙ settles_answer w a.order a.answer a.held_so in
      let same : a.answer ≡ answer_of_write (outcome.Missed causes) = cc in
      ((k.0, k.1, record { order = a.order; is_order = a.is_order; writes_to = subst (λ (x : Result Cookie WriteRefusal). WritesTo makes a.order x) same a.writes_to }), rests)

  -- a step of the windows leaves nothing that rests, is read, or has an answer that is to leave
  rests_given : (w after : SessionWay) (windows later : WindowsValue) → StepsWindows w windows after later → w ≡ way.Resting → ⊥
  rests_given w after windows later s rests = subst (λ (x : SessionWay). StepsWindows x windows after later) rests s

  read_given : (w after : SessionWay) (windows later : WindowsValue) → StepsWindows w windows after later → IsReading makes begin w → ⊥
  read_given way.Resting after windows later s k = k
  read_given (way.Reading r) after windows later s k = s
  read_given (way.Ordered order) after windows later s k = k
  read_given (way.Writing v) after windows later s k = k
  read_given (way.Settling v) after windows later s k = k
  read_given (way.Holding passes) after windows later s k = k

  answer_given : (w after : SessionWay) (windows later : WindowsValue) (order : WriteOrder) (answer : Result Cookie WriteRefusal) → StepsWindows w windows after later → HasAnswer makes w order answer → ⊥
  answer_given way.Resting after windows later order answer s k = k
  answer_given (way.Reading r) after windows later order answer s k = k
  answer_given (way.Ordered now) after windows later order answer s k = k
  answer_given (way.Writing v) after windows later order answer s k = s
  answer_given (way.Settling v) after windows later order answer s k = k
  answer_given (way.Holding passes) after windows later order answer s k = k

  spent_rests : (w after : SessionWay) (windows later : WindowsValue) (order : WriteOrder) (answer : Result Cookie WriteRefusal) → StepsWindows w windows after later → SettlesWith makes w order answer → after ≡ way.Resting
  spent_rests way.Resting after windows later order answer s k = absurd k
  spent_rests (way.Reading r) after windows later order answer s k = absurd k
  spent_rests (way.Ordered now) after windows later order answer s k = absurd k
  spent_rests (way.Writing v) after windows later order answer s k = absurd k
  spent_rests (way.Settling v) after windows later order answer s k = s.0
  spent_rests (way.Holding passes) after windows later order answer s k = absurd k

  -- passes were taken for a write of this order
  begun_by : (order : WriteOrder) (after : SessionWay) (windows later : WindowsValue) → 1 ≤ windows.wq → windows.wq ≤ MAX_HOLDERS → IsTaken order windows after later → WritesBy makes order after
  begun_by order after windows later some few taken =
      let begun : WritingState = write_begun order windows.wq (passes_for order windows) in
      subst (λ (x : SessionWay). WritesBy makes order x) (sym taken.writes)
      (record {
        begun = begun;
        has_begun = record {
          old = windows;
          new = later;
          is_taken = record { writes = refl; after = taken.after; lawful = taken.lawful };
          some = some;
          few = few;
        };
        ran = record { events = []; ran = record { fitting = tt; made = refl; ends = refl }; same = refl };
      })

  write_given : (order : WriteOrder) (w after : SessionWay) (windows later : WindowsValue) (told : Option WriteOutcome) → 1 ≤ windows.wq → windows.wq ≤ MAX_HOLDERS
      → StepsWindows w windows after later → option_map answer_of_write told ≡ answer_held w → WritesBy makes order w → (told ≡ None) × WritesBy makes order after
  write_given order way.Resting after windows later told some few s is k = absurd k
  write_given order (way.Reading r) after windows later told some few s is k = absurd k
  write_given order (way.Ordered now) after windows later told some few s is k =
      (none_told told is, begun_by order after windows later some few (subst (λ (o : WriteOrder). IsTaken o windows after later) k s))
  write_given order (way.Writing v) after windows later told some few s is k = absurd s
  write_given order (way.Settling v) after windows later told some few s is k = absurd k
  write_given order (way.Holding passes) after windows later told some few s is k = absurd k

  given_of : {P : Type 0} (es : List Entry) (facts : VisitFacts) (lease : Option SessionLease) (cookie : Option Cookie) (w after : SessionWay) (windows later : WindowsValue) (told : Option WriteOutcome) (work : Work P)
      → 1 ≤ windows.wq → windows.wq ≤ MAX_HOLDERS → StepsWindows w windows after later → option_map answer_of_write told ≡ answer_held w
      → SessionOf makes begin es facts lease cookie w work → SessionOf makes begin es facts lease (cookie_told told cookie) after (work_told told work)
  given_of es facts lease cookie w after windows later told Reading some few s is k = absurd (read_given w after windows later s k.2)
  given_of es facts lease cookie w after windows later told Opening some few s is k = absurd (rests_given w after windows later s k.2)
  given_of es facts lease cookie w after windows later told (Serving tries program) some few s is k = absurd (rests_given w after windows later s k.2)
  given_of {P} es facts lease cookie w after windows later told (Committed place again shown) some few s is k =
      let a = k.2 in
      let h = write_given a.order w after windows later told some few s is a.writes in
      let So : Option WriteOutcome → Type 0 = λ t. SessionOf {P = P} makes begin es facts lease (cookie_told t cookie) after (work_told t (Committed place again shown)) in
      subst So (sym h.0) (k.0, k.1, record { order = a.order; is_order = a.is_order; writes = h.1 })
  given_of es facts lease cookie w after windows later told (Decided became) some few s is k = absurd (rests_given w after windows later s k.1)
  given_of es facts lease cookie w after windows later told (Answered (Known became) bytes) some few s is k = absurd (rests_given w after windows later s k.1)
  given_of es facts lease cookie w after windows later told (Answered (Writing place again) bytes) some few s is k =
      absurd (answer_given w after windows later k.2.order k.2.answer s k.2.held_so)
  given_of es facts lease cookie w after windows later told (Left (Known became)) some few s is k = absurd (rests_given w after windows later s k.1)
  given_of {P} es facts lease cookie w after windows later told (Left (Writing place again)) some few s is k =
      spent_of P es facts lease cookie w after told place again (spent_rests w after windows later k.2.order k.2.answer s k.2.held_so) is k

  told_stands : {P : Type 0} (history : List Event) (told : Option WriteOutcome) (v : Visit P) → v.holds.held ≤ length history
      → SessionOf makes begin (entries_in (take v.holds.held history)) v.facts v.lease (cookie_told told v.cookie) v.way (work_told told v.work) → SessionStands makes begin history (after_outcome told v)
  told_stands history None v within s = record { within = within; so = s }
  told_stands history (Some (outcome.Written given)) v within s = record { within = within; so = s }
  told_stands history (Some (outcome.Missed causes)) v within s = record { within = within; so = s }

  -- passes are refused to a session that is to be written, and to no other
  rests_refused : (w after : SessionWay) (windows later : WindowsValue) (full : List WindowFact) → IsRefused w windows after later (refusal.Overload full) → w ≡ way.Resting → ⊥
  rests_refused w after windows later full r rests = subst (λ (x : SessionWay). IsRefused x windows after later (refusal.Overload full)) rests r

  read_refused : (w after : SessionWay) (windows later : WindowsValue) (full : List WindowFact) → IsRefused w windows after later (refusal.Overload full) → IsReading makes begin w → ⊥
  read_refused way.Resting after windows later full r k = k
  read_refused (way.Reading x) after windows later full r k = r
  read_refused (way.Ordered order) after windows later full r k = k
  read_refused (way.Writing v) after windows later full r k = k
  read_refused (way.Settling v) after windows later full r k = k
  read_refused (way.Holding passes) after windows later full r k = k

  answer_refused : (w after : SessionWay) (windows later : WindowsValue) (full : List WindowFact) (order : WriteOrder) (answer : Result Cookie WriteRefusal) → IsRefused w windows after later (refusal.Overload full) → HasAnswer makes w order answer → ⊥
  answer_refused way.Resting after windows later full order answer r k = k
  answer_refused (way.Reading x) after windows later full order answer r k = k
  answer_refused (way.Ordered now) after windows later full order answer r k = k
  answer_refused (way.Writing v) after windows later full order answer r k = r
  answer_refused (way.Settling v) after windows later full order answer r k = k
  answer_refused (way.Holding passes) after windows later full order answer r k = k

  settling_refused : (w after : SessionWay) (windows later : WindowsValue) (full : List WindowFact) (order : WriteOrder) (answer : Result Cookie WriteRefusal) → IsRefused w windows after later (refusal.Overload full) → SettlesWith makes w order answer → ⊥
  settling_refused way.Resting after windows later full order answer r k = k
  settling_refused (way.Reading x) after windows later full order answer r k = k
  settling_refused (way.Ordered now) after windows later full order answer r k = k
  settling_refused (way.Writing v) after windows later full order answer r k = k
  settling_refused (way.Settling v) after windows later full order answer r k = r
  settling_refused (way.Holding passes) after windows later full order answer r k = k

  write_refused : (order : WriteOrder) (w after : SessionWay) (windows later : WindowsValue) (full : List WindowFact) → IsRefused w windows after later (refusal.Overload full) → WritesBy makes order w → after ≡ way.Resting
  write_refused order way.Resting after windows later full r k = absurd k
  write_refused order (way.Reading x) after windows later full r k = absurd k
  write_refused order (way.Ordered now) after windows later full r k = r.0
  write_refused order (way.Writing v) after windows later full r k = absurd r
  write_refused order (way.Settling v) after windows later full r k = absurd k
  write_refused order (way.Holding passes) after windows later full r k = absurd k

  were_full : (order : WriteOrder) (w after : SessionWay) (windows later : WindowsValue) (full : List WindowFact) → IsRefused w windows after later (refusal.Overload full) → WritesBy makes order w → WereFull full
  were_full order way.Resting after windows later full r k = absurd k
  were_full order (way.Reading x) after windows later full r k = absurd k
  were_full order (way.Ordered now) after windows later full r k = (windows, r.1.0, r.1.1)
  were_full order (way.Writing v) after windows later full r k = absurd r
  were_full order (way.Settling v) after windows later full r k = absurd k
  were_full order (way.Holding passes) after windows later full r k = absurd k

  refused_of : {P : Type 0} (es : List Entry) (facts : VisitFacts) (lease : Option SessionLease) (cookie : Option Cookie) (w after : SessionWay) (windows later : WindowsValue) (full : List WindowFact) (work : Work P)
      → IsRefused w windows after later (refusal.Overload full) → SessionOf makes begin es facts lease cookie w work → SessionOf makes begin es facts lease cookie after (overloaded full work)
  refused_of es facts lease cookie w after windows later full Reading r k = absurd (read_refused w after windows later full r k.2)
  refused_of es facts lease cookie w after windows later full Opening r k = absurd (rests_refused w after windows later full r k.2)
  refused_of es facts lease cookie w after windows later full (Serving tries program) r k = absurd (rests_refused w after windows later full r k.2)
  refused_of es facts lease cookie w after windows later full (Committed place again shown) r k =
      let a = k.2 in
      ((k.0, k.1, (a.order, a.is_order), were_full a.order w after windows later full r a.writes), write_refused a.order w after windows later full r a.writes)
  refused_of es facts lease cookie w after windows later full (Decided became) r k = absurd (rests_refused w after windows later full r k.1)
  refused_of es facts lease cookie w after windows later full (Answered (Known became) bytes) r k = absurd (rests_refused w after windows later full r k.1)
  refused_of es facts lease cookie w after windows later full (Answered (Writing place again) bytes) r k =
      absurd (answer_refused w after windows later full k.2.order k.2.answer r k.2.held_so)
  refused_of es facts lease cookie w after windows later full (Left (Known became)) r k = absurd (rests_refused w after windows later full r k.1)
  refused_of es facts lease cookie w after windows later full (Left (Writing place again)) r k =
      absurd (settling_refused w after windows later full k.2.order k.2.answer r k.2.held_so)

  pub windows_stand : {P : Type 0} (history : List Event) (old new : Visit P) (windows after : WindowsValue) → 1 ≤ windows.wq → windows.wq ≤ MAX_HOLDERS
      → VisitsWindows old windows new after → SessionStands makes begin history old → SessionStands makes begin history new
  windows_stand {P} history old new windows after some few visits s =
      elim visits [
        | inl given ↦ subst (λ (v : Visit P). SessionStands makes begin history v) (sym given.new_is)
            (told_stands history given.outcome (record old { way = new.way }) s.within
            (given_of (entries_in (take old.holds.held history)) old.facts old.lease old.cookie old.way new.way windows after given.outcome old.work some few given.step given.is_outcome s.so))
        | inr refused ↦ subst (λ (v : Visit P). SessionStands makes begin history v) (sym refused.new_is)
            (record { within = s.within; so = refused_of (entries_in (take old.holds.held history)) old.facts old.lease old.cookie old.way new.way windows after refused.full old.work refused.refused s.so })
      ]

  -- passes are given back behind a response
  back_of : (P : Type 0) (es : List Entry) (facts : VisitFacts) (lease : Option SessionLease) (cookie : Option Cookie) (w : SessionWay) (told : Option WriteOutcome) (fate : Fate)
      → option_map answer_of_write told ≡ answer_held w → FateTold makes begin es facts lease cookie w (SettlesWith makes w) fate → ToldSo P es facts lease cookie way.Resting told fate
  back_of P es facts lease cookie w told (Known became) is k =
      let none : told ≡ None = none_told told (is ∙ ap answer_held k.1) in
      subst (λ (t : Option WriteOutcome). ToldSo P es facts lease cookie way.Resting t (Known became)) (sym none) (k.0, refl)
  back_of P es facts lease cookie w told (Writing place again) is k = spent_of P es facts lease cookie w way.Resting told place again refl is k

  pub back_stands : {P : Type 0} (history : List Event) (old new : Visit P) (fate : Fate) → IsGivenBack old new → old.work ≡ Left fate → SessionStands makes begin history old → SessionStands makes begin history new
  back_stands {P} history old new fate back is s =
      let es : List Entry = entries_in (take old.holds.held history) in
      let was : FateTold makes begin es old.facts old.lease old.cookie old.way (SettlesWith makes old.way) fate =
      subst (λ (w : Work P). SessionOf makes begin es old.facts old.lease old.cookie old.way w) is s.so in
      subst (λ (v : Visit P). SessionStands makes begin history v) (sym back.new_is)
      (told_stands history back.outcome (record old { way = way.Resting }) s.within
      (subst (λ (w : Work P). SessionOf makes begin es old.facts old.lease (cookie_told back.outcome old.cookie) way.Resting (work_told back.outcome w)) (sym is)
      (back_of P es old.facts old.lease old.cookie old.way back.outcome fate back.is_outcome was)))

  -- what follows a page is what its entry says
  ready_of_page : {P : Type 0} (es : List Entry) (v : Visit P) (place : Place) (again : Bool) (ready : Ready)
      → ready ≡ ready_by v.facts (done_at es place) (value_to_write (set_in (done_at es place)) v.facts.now v.lease) → IsKnown makes begin v.lease → v.cookie ≡ None → v.way ≡ way.Resting
      → SessionOf makes begin es (shown_so place again ready v).facts (shown_so place again ready v).lease (shown_so place again ready v).cookie (shown_so place again ready v).way (shown_so place again ready v).work
  ready_of_page es v place again (Respond bytes) is known none rests =
      let r = responds v.facts (done_at es place) (value_to_write (set_in (done_at es place)) v.facts.now v.lease) bytes (sym is) in
      ((known, subst (λ (c : Option Cookie). CookieTold makes v.facts v.lease (done_at es place) c) (sym none) r.0), rests)
  ready_of_page es v place again (Write order shown) is known none rests =
      let r = writes v.facts (done_at es place) (value_to_write (set_in (done_at es place)) v.facts.now v.lease) order shown (sym is) in
      (known, none, record { order = order; is_order = record { value_is = r.0; key_is = r.1; nonce_is = r.2; expiry_is = r.3 }; writes = refl })

  left_of : {P : Type 0} (events : List Event) (v : Visit P) (e : Ended) (work : Work P) → e.held ≤ length events → IsKnown makes begin v.lease → v.cookie ≡ None → v.way ≡ way.Resting
      → SessionStands makes begin events (left_so (closed_with (λ again. ready_of v.facts v.lease (done_of events e)) e.outcome) (record v { work = work; holds = holds_of e }))
  left_of {P} events v e work within known none rests = by_end e.outcome refl where
    by_end : (end : RequestOutcome) → e.outcome ≡ end → SessionStands makes begin events (left_so (closed_with (λ again. ready_of v.facts v.lease (done_of events e)) end) (record v { work = work; holds = holds_of e }))
    by_end (Page place again) is = page (ready_of v.facts v.lease (done_of events e)) (ap (λ (x : RequestOutcome). ready_of v.facts v.lease (done_of events (record e { outcome = x }))) is) where
      page : (ready : Ready) → ready ≡ ready_of v.facts v.lease (done_at (entries_in (take e.held events)) place) → SessionStands makes begin events (left_so (closes.Page place again ready) (record v { work = work; holds = holds_of e }))
      page (Respond bytes) r = record { within = within; so = ready_of_page (entries_in (take e.held events)) (record v { work = work; holds = holds_of e }) place again (Respond bytes) r known none rests }
      page (Write order shown) r = record { within = within; so = ready_of_page (entries_in (take e.held events)) (record v { work = work; holds = holds_of e }) place again (Write order shown) r known none rests }
    by_end (Sentinel group down) is = record { within = within; so = ((known, none), rests) }
    by_end (Hung component fault path) is = record { within = within; so = ((known, none), rests) }
    by_end (Raised component fault path) is = record { within = within; so = ((known, none), rests) }
    by_end (Revoked tries) is = record { within = within; so = ((known, none), rests) }
    by_end (Conflict tries) is = record { within = within; so = ((known, none), rests) }
    by_end (JournalFull full) is = record { within = within; so = ((known, none), rests) }
    by_end KeeperFailed is = record { within = within; so = ((known, none), rests) }

  end_of : {P : Type 0} (events : List Event) (v : Visit P) (end : Option Ended) (work : Work P)
      → IsKnown makes begin v.lease → v.cookie ≡ None → v.way ≡ way.Resting → v.holds.held ≤ length events
      → SessionOf makes begin (entries_in (take v.holds.held events)) v.facts v.lease v.cookie v.way work
      → ((e : Ended) → end ≡ Some e → e.held ≤ length events)
      → SessionStands makes begin events (after_closing_if (option_map (closing_of v.facts v.lease events) end) (record v { work = work }))
  end_of events v None work known none rests within goes ends = record { within = within; so = goes }
  end_of events v (Some e) work known none rests within goes ends = left_of events v e work (ends e refl) known none rests

  -- a step in the container, by how far the request had come
  serving_of : {P : Type 0} (asks : P → List Answer → Next) (old new : Visit P) (container after : ContainerValue) (closing : Option Closing) (before work : Work P) (es : List Entry)
      → ServesWork asks container old.facts old.lease before closing after work → new ≡ after_closing_if closing (record old { work = work })
      → SessionOf makes begin es old.facts old.lease old.cookie old.way before → old.holds.held ≤ length (events_of after) → SessionStands makes begin (events_of after) new
  serving_of asks old new container after closing Reading work es serves is_new s within = absurd serves
  serving_of asks old new container after closing Opening work es serves is_new s within = absurd serves
  serving_of {P} asks old new container after closing (Serving tries program) work es serves is_new s within =
      let by = serves.serves in
      let to : new ≡ after_closing_if (option_map (closing_of old.facts old.lease (events_of after)) by.end) (record old { work = work }) =
      is_new ∙ ap (λ (c : Option Closing). after_closing_if c (record old { work = work })) by.closing_is in
      let goes : SessionOf makes begin (entries_in (take old.holds.held (events_of after))) old.facts old.lease old.cookie old.way work =
      subst (λ (w : Work P). SessionOf makes begin (entries_in (take old.holds.held (events_of after))) old.facts old.lease old.cookie old.way w) (sym serves.work_is) s in
      subst (λ (v : Visit P). SessionStands makes begin (events_of after) v) (sym to)
      (end_of (events_of after) old by.end work s.0 s.1 s.2 within goes (λ e is. held_of by.end e is by.brings.ended)) where
        held_of : (end : Option Ended) (e : Ended) → end ≡ Some e → MayEnd after.boot.start (events_of after) (errand_of tries (asks program)) end → e.held ≤ length (events_of after)
        held_of None e is ends = absurd (cc)
        held_of (Some x) e is ends = let same : x ≡ e = cc in subst (λ (y : Ended). y.held ≤ length (events_of after)) same ends.held
  serving_of asks old new container after closing (Committed place again shown) work es serves is_new s within = absurd serves
  serving_of asks old new container after closing (Decided became) work es serves is_new s within = absurd serves
  serving_of asks old new container after closing (Answered fate bytes) work es serves is_new s within = absurd serves
  serving_of asks old new container after closing (Left fate) work es serves is_new s within = absurd serves

  pub inside_stands : {P : Type 0} (asks : P → List Answer → Next) (old new : Visit P) (container after : ContainerValue)
      → VisitsInside asks old container new after → length (events_of container) ≤ length (events_of after) → SessionStands makes begin (events_of container) old → SessionStands makes begin (events_of after) new
  inside_stands asks old new container after visits longer s =
      serving_of asks old new container after visits.closing old.work visits.work (entries_in (take old.holds.held (events_of container))) visits.serves visits.new_is s.so
      (omega (arith, s.within, longer))

  -- a request heard what its read came to
  heard_of : {P : Type 0} (history : List Event) (v : Visit P) (r start : ReadState) (told : ReadOutcome) → begin ≡ Some start → HasRead (MakesAmong makes) start tt r tt
      → read_answer r ≡ Some (answer_of_read told) → IsOfRead r told → v.lease ≡ None → v.cookie ≡ None → v.holds.held ≤ length history → SessionStands makes begin history (after_read told v)
  heard_of history v r start (read.Found lease) is h answers of_read unread none within =
      let key : lease.key ≡ start.key = of_read.0 ∙ ap (λ (s : ReadState). s.key) h.same in
      let expiry : lease.expiry ≡ start.expiry = of_read.1 ∙ ap (λ (s : ReadState). s.expiry) h.same in
      let known : IsKnown makes (Some start) (Some lease) = (key, expiry, record { events = h.events; end = r; ran = h.ran; answers = answers }) in
      record { within = within; so = (subst (λ (b : Option ReadState). IsKnown makes b (Some lease)) (sym is) known, none, refl) }
  heard_of history v r start (read.Expired now expiry) is h answers of_read unread none within =
      record { within = within; so = ((unread, none, gone start is (record { events = h.events; end = r; ran = h.ran; answers = answers })), refl) } where
        gone : (s : ReadState) → begin ≡ Some s → ReadsTo makes s (Err (read_refusal.Expired now expiry)) → IsGone makes begin (read_refusal.Expired now expiry)
        gone s e reads = subst (λ (b : Option ReadState). IsGone makes b (read_refusal.Expired now expiry)) (sym e) reads
  heard_of history v r start (read.Lost causes) is h answers of_read unread none within =
      record { within = within; so = ((unread, none, gone start is (record { events = h.events; end = r; ran = h.ran; answers = answers })), refl) } where
        gone : (s : ReadState) → begin ≡ Some s → ReadsTo makes s (Err (read_refusal.Lost causes)) → IsGone makes begin (read_refusal.Lost causes)
        gone s e reads = subst (λ (b : Option ReadState). IsGone makes b (read_refusal.Lost causes)) (sym e) reads

  hear_of : {P : Type 0} (history : List Event) (old new : Visit P) (w : SessionWay) → HearsReadOf w old new → IsReading makes begin w → old.lease ≡ None → old.cookie ≡ None → old.holds.held ≤ length history → SessionStands makes begin history new
  hear_of history old new way.Resting hears k unread none within = absurd k
  hear_of {P} history old new (way.Reading r) hears k unread none within =
      subst (λ (v : Visit P). SessionStands makes begin history v) (sym hears.new_is)
      (heard_of history old r k.0 hears.outcome k.1 k.2 hears.is_outcome hears.of_read unread none within)
  hear_of history old new (way.Ordered order) hears k unread none within = absurd k
  hear_of history old new (way.Writing v) hears k unread none within = absurd k
  hear_of history old new (way.Settling v) hears k unread none within = absurd k
  hear_of history old new (way.Holding passes) hears k unread none within = absurd k

  -- a write that is to be taken in has its answer
  answers_of : (law : WriteAnswers) (facts : VisitFacts) (lease : Option SessionLease) (what : Option DoneText) (w : SessionWay) → wants w ≡ wanted.Nothing → Awaits makes facts lease what w → IsAnswered makes facts lease what (HasAnswer makes w)
  answers_of law facts lease what w e a = by_way w e a.writes where
    by_way : (x : SessionWay) → wants x ≡ wanted.Nothing → WritesBy makes a.order x → IsAnswered makes facts lease what (HasAnswer makes x)
    by_way way.Resting e k = absurd k
    by_way (way.Reading r) e k = absurd k
    by_way (way.Ordered now) e k = absurd (cc)
    by_way (way.Writing v) e k = answered (write_answer v.write) refl where
      answered : (o : Option (Result Cookie WriteRefusal)) → write_answer v.write ≡ o → IsAnswered makes facts lease what (HasAnswer makes (way.Writing v))
      answered None is = absurd (law v e is)
      answered (Some answer) is = record {
        order = a.order;
        answer = answer;
        is_order = a.is_order;
        writes_to = record { end = v.write; writing = k; answers = is };
        held_so = record { begun = k.begun; has_begun = k.has_begun; ran = settled_from (MakesAmong makes) k.begun.write v.write tt tt k.ran; answers = is };
      }
    by_way (way.Settling v) e k = absurd k
    by_way (way.Holding passes) e k = absurd k

  itself_of : {P : Type 0} (law : WriteAnswers) (key : List ℕ) (history : List Event) (old new : Visit P) (work : Work P)
      → old.work ≡ work → turn_by work (wants old.way) ≡ turns.Own → Advances key old work new → old.holds.held ≤ length history
      → SessionOf makes begin (entries_in (take old.holds.held history)) old.facts old.lease old.cookie old.way work → SessionStands makes begin history new
  itself_of law key history old new Reading is turned advances within s = hear_of history old new old.way advances s.2 s.0 s.1 within
  itself_of law key history old new Opening is turned advances within s = absurd (cc)
  itself_of law key history old new (Serving tries program) is turned advances within s = absurd (cc)
  itself_of {P} law key history old new (Committed place again shown) is turned advances within s =
      let es : List Entry = entries_in (take old.holds.held history) in
      subst (λ (v : Visit P). SessionStands makes begin history v) (sym advances.new_is)
      (record { within = within; so = (s.0, s.1, answers_of law old.facts old.lease (done_at es place) old.way (own_nothing (wants old.way) turned) s.2) })
  itself_of {P} law key history old new (Decided became) is turned advances within s =
      subst (λ (v : Visit P). SessionStands makes begin history v) (sym advances) (record { within = within; so = s })
  itself_of law key history old new (Answered fate bytes) is turned advances within s = absurd (cc)
  itself_of law key history old new (Left fate) is turned advances within s = absurd (over_own (wants old.way) turned)

  pub advance_stands : {P : Type 0} (law : WriteAnswers) (key : List ℕ) (history : List Event) (old new : Visit P)
      → turn old ≡ turns.Own → Advances key old old.work new → SessionStands makes begin history old → SessionStands makes begin history new
  advance_stands law key history old new turned advances s = itself_of law key history old new old.work refl turned advances s.within s.so

  -- a write with an answer is settled once its response has left
  leaves_with : (w : SessionWay) (order : WriteOrder) (answer : Result Cookie WriteRefusal) → HasAnswer makes w order answer → SettlesWith makes (settled w) order answer
  leaves_with way.Resting order answer k = absurd k
  leaves_with (way.Reading r) order answer k = absurd k
  leaves_with (way.Ordered now) order answer k = absurd k
  leaves_with (way.Writing v) order answer k = k
  leaves_with (way.Settling v) order answer k = absurd k
  leaves_with (way.Holding passes) order answer k = absurd k

  leave_of : {P : Type 0} (es : List Entry) (facts : VisitFacts) (lease : Option SessionLease) (cookie : Option Cookie) (w : SessionWay) (work : Work P)
      → turn_by work (wants w) ≡ turns.Output → SessionOf makes begin es facts lease cookie w work → SessionOf makes begin es facts lease cookie (settled w) (departed work)
  leave_of es facts lease cookie w Reading turned s = absurd (own_output (wants w) turned)
  leave_of es facts lease cookie w Opening turned s = absurd (cc)
  leave_of es facts lease cookie w (Serving tries program) turned s = absurd (cc)
  leave_of es facts lease cookie w (Committed place again shown) turned s = absurd (own_output (wants w) turned)
  leave_of es facts lease cookie w (Decided became) turned s = absurd (cc)
  leave_of es facts lease cookie w (Answered (Known became) bytes) turned s = (s.0, ap settled s.1)
  leave_of es facts lease cookie w (Answered (Writing place again) bytes) turned s =
      let a = s.2 in
      (s.0, s.1, record { order = a.order; answer = a.answer; is_order = a.is_order; writes_to = a.writes_to; held_so = leaves_with w a.order a.answer a.held_so })
  leave_of es facts lease cookie w (Left fate) turned s = absurd (over_output (wants w) turned)

  pub leave_stands : {P : Type 0} (history : List Event) (v : Visit P) → turn v ≡ turns.Output → SessionStands makes begin history v → SessionStands makes begin history (after_leaving v)
  leave_stands history v turned s =
      record { within = s.within; so = leave_of (entries_in (take v.holds.held history)) v.facts v.lease v.cookie v.way v.work turned s.so }

  -- the cookie that is held may be read
  held_by : (law : WriteAnswers) (facts : VisitFacts) (lease : Option SessionLease) (what : Option DoneText) (w : SessionWay) → wants w ≡ wanted.Nothing → Awaits makes facts lease what w → IfSome (cookie_in (answer_held w)) (λ (c : Cookie). AreHolders c.bricks)
  held_by law facts lease what w e a = by_way w a.writes where
    by_way : (x : SessionWay) → WritesBy makes a.order x → IfSome (cookie_in (answer_held x)) (λ (c : Cookie). AreHolders c.bricks)
    by_way way.Resting k = absurd k
    by_way (way.Reading r) k = absurd k
    by_way (way.Ordered now) k = tt
    by_way (way.Writing v) k = answered (write_answer v.write) refl where
      answered : (o : Option (Result Cookie WriteRefusal)) → write_answer v.write ≡ o → IfSome (cookie_in o) (λ (c : Cookie). AreHolders c.bricks)
      answered None is = tt
      answered (Some (Ok cookie)) is = holders_of makes a.order cookie (record { end = v.write; writing = k; answers = is })
      answered (Some (Err why)) is = tt
    by_way (way.Settling v) k = absurd k
    by_way (way.Holding passes) k = absurd k

  read_holds : (w : SessionWay) → IsReading makes begin w → IfSome (cookie_in (answer_held w)) (λ (c : Cookie). AreHolders c.bricks)
  read_holds way.Resting k = absurd k
  read_holds (way.Reading r) k = tt
  read_holds (way.Ordered now) k = absurd k
  read_holds (way.Writing v) k = absurd k
  read_holds (way.Settling v) k = absurd k
  read_holds (way.Holding passes) k = absurd k

  rest_holds : (w : SessionWay) → w ≡ way.Resting → IfSome (cookie_in (answer_held w)) (λ (c : Cookie). AreHolders c.bricks)
  rest_holds w rests = subst (λ (x : SessionWay). IfSome (cookie_in (answer_held x)) (λ (c : Cookie). AreHolders c.bricks)) (sym rests) tt

  holders_by : {P : Type 0} (law : WriteAnswers) (es : List Entry) (facts : VisitFacts) (lease : Option SessionLease) (cookie : Option Cookie) (w : SessionWay) (work : Work P)
      → turn_by work (wants w) ≡ turns.Own → SessionOf makes begin es facts lease cookie w work → IfSome (cookie_in (answer_held w)) (λ (c : Cookie). AreHolders c.bricks)
  holders_by law es facts lease cookie w Reading turned s = read_holds w s.2
  holders_by law es facts lease cookie w Opening turned s = rest_holds w s.2
  holders_by law es facts lease cookie w (Serving tries program) turned s = rest_holds w s.2
  holders_by law es facts lease cookie w (Committed place again shown) turned s = held_by law facts lease (done_at es place) w (own_nothing (wants w) turned) s.2
  holders_by law es facts lease cookie w (Decided became) turned s = rest_holds w s.1
  holders_by law es facts lease cookie w (Answered fate bytes) turned s = absurd (cc)
  holders_by law es facts lease cookie w (Left fate) turned s = absurd (over_own (wants w) turned)

  pub holders_stand : {P : Type 0} (law : WriteAnswers) (history : List Event) (v : Visit P) → turn v ≡ turns.Own → SessionStands makes begin history v → IfSome (cookie_in (answer_held v.way)) (λ (c : Cookie). AreHolders c.bricks)
  holders_stand law history v turned s = holders_by law (entries_in (take v.holds.held history)) v.facts v.lease v.cookie v.way v.work turned s.so

  -- a write that is settled wants something
  settles_wants : (w : SessionWay) (order : WriteOrder) (answer : Result Cookie WriteRefusal) → SettlesWith makes w order answer → IsSettling w
  settles_wants way.Resting order answer k = k
  settles_wants (way.Reading r) order answer k = k
  settles_wants (way.Ordered now) order answer k = k
  settles_wants (way.Writing v) order answer k = k
  settles_wants (way.Settling v) order answer k = tt
  settles_wants (way.Holding passes) order answer k = k

  item_of_work : {P : Type 0} (history : List Event) (v : Visit P) (work : Work P) (i : Item)
      → turn_by work (wants v.way) ≡ turns.Over → IsItemOf v work i → SessionOf makes begin (entries_in (take v.holds.held history)) v.facts v.lease v.cookie v.way work
      → TellsSession makes begin v.facts (entries_in (take i.holds.held history)) i
  item_of_work history v Reading i turned is s = absurd is
  item_of_work history v Opening i turned is s = absurd is
  item_of_work history v (Serving tries program) i turned is s = absurd is
  item_of_work history v (Committed place again shown) i turned is s = absurd is
  item_of_work history v (Decided became) i turned is s = absurd is
  item_of_work history v (Answered fate bytes) i turned is s = absurd is
  item_of_work history v (Left (Known became)) i turned is s =
      subst (λ (x : Item). TellsSession makes begin v.facts (entries_in (take x.holds.held history)) x) (sym is)
      (record { lease = v.lease; value_is = refl; moment_is = refl; told = s.0 })
  item_of_work history v (Left (Writing place again)) i turned is s =
      absurd (settling_wants v.way (settles_wants v.way s.2.order s.2.answer s.2.held_so) (over_nothing (wants v.way) turned))

  pub item_stands : {P : Type 0} (history : List Event) (v : Visit P) (i : Item)
      → turn v ≡ turns.Over → IsItemOf v v.work i → SessionStands makes begin history v → TellsSession makes begin v.facts (entries_in (take i.holds.held history)) i
  item_stands history v i turned is s = item_of_work history v v.work i turned is s.so

module _ {P L : Type 0} (makes : L → LinkEvent → L → Type 0) where
  -- a request begins by a read, or without one
  pub reading_begins : (history : List Event) (facts : VisitFacts) (counts : LinkCounts) (nonce : Version) (cookie : Cookie) (v : Visit P)
      → v ≡ begun facts counts (way.Reading (read_start facts.now nonce cookie)) Reading → SessionStands makes (Some (read_start facts.now nonce cookie)) history v
  reading_begins history facts counts nonce cookie v is =
      let start : ReadState = read_start facts.now nonce cookie in
      subst (λ (x : Visit P). SessionStands makes (Some start) history x) (sym is)
      (record { within = omega arith; so = (refl, refl, (start, refl, record { events = []; ran = record { fitting = tt; made = refl; ends = refl }; same = refl })) })

  pub unread_begins : (history : List Event) (facts : VisitFacts) (counts : LinkCounts) (work : Work P) (v : Visit P)
      → v ≡ begun facts counts way.Resting work → SessionOf makes None (entries_in []) facts None None way.Resting work → SessionStands makes None history v
  unread_begins history facts counts work v is so =
      subst (λ (x : Visit P). SessionStands makes None history x) (sym is) (record { within = omega arith; so = so })

-- the cookie that an item tells, by what became of its request
abbrev pub IsCookieOf : VisitFacts → Cookie → Type 0
IsCookieOf facts c = (c.key ≡ facts.key) × (c.version ≡ facts.write) × (c.expiry.0 ≡ facts.now.0 + 1800000) × AreHolders c.bricks

module _ {L : Type 0} (makes : L → LinkEvent → L → Type 0) (begin : Option ReadState) where
  no_cookie : (facts : VisitFacts) (c : Cookie) (cookie : Option Cookie) → cookie ≡ Some c → cookie ≡ None → IsCookieOf facts c
  no_cookie facts c cookie some none = absurd (let h : None ≡ Some c = sym none ∙ some in cc)

  of_order : (facts : VisitFacts) (lease : Option SessionLease) (what : Option DoneText) (c : Cookie) → HasCome makes facts lease what (Ok c) → IsCookieOf facts c
  of_order facts lease what c h =
      let w = written_so makes h.order c h.writes_to in (
        w.key_is ∙ h.is_order.key_is,
        w.version_is ∙ h.is_order.nonce_is,
        ap (λ (m : Moment). m.0) w.expiry_is ∙ h.is_order.expiry_is,
        holders_of makes h.order c h.writes_to,
      )

  of_end : (es : List Entry) (facts : VisitFacts) (lease : Option SessionLease) (c : Cookie) (cookie : Option Cookie) (end : RequestOutcome) → cookie ≡ Some c → EndTold makes es facts lease cookie end → IsCookieOf facts c
  of_end es facts lease c cookie (Page place again) some k = of_order facts lease (done_at es place) c (subst (λ (x : Option Cookie). CookieTold makes facts lease (done_at es place) x) some k)
  of_end es facts lease c cookie (Sentinel group down) some k = no_cookie facts c cookie some k
  of_end es facts lease c cookie (Hung component fault path) some k = no_cookie facts c cookie some k
  of_end es facts lease c cookie (Raised component fault path) some k = no_cookie facts c cookie some k
  of_end es facts lease c cookie (Revoked tries) some k = no_cookie facts c cookie some k
  of_end es facts lease c cookie (Conflict tries) some k = no_cookie facts c cookie some k
  of_end es facts lease c cookie (JournalFull full) some k = no_cookie facts c cookie some k
  of_end es facts lease c cookie KeeperFailed some k = no_cookie facts c cookie some k

  of_outcome : (es : List Entry) (facts : VisitFacts) (lease : Option SessionLease) (c : Cookie) (cookie : Option Cookie) (became : ItemOutcome) → cookie ≡ Some c → SessionTold makes begin es facts lease cookie became → IsCookieOf facts c
  of_outcome es facts lease c cookie (item.Refused why) some k = no_cookie facts c cookie some k.1
  of_outcome es facts lease c cookie (item.SerialsSpent seen) some k = no_cookie facts c cookie some k.1
  of_outcome es facts lease c cookie (item.Expired now expiry) some k = no_cookie facts c cookie some k.1
  of_outcome es facts lease c cookie (item.Lost causes) some k = no_cookie facts c cookie some k.1
  of_outcome es facts lease c cookie (item.Ended end) some k = of_end es facts lease c cookie end some k.1
  of_outcome es facts lease c cookie (item.Overload place again full) some k = no_cookie facts c cookie some k.1
  of_outcome es facts lease c cookie (item.Missed place again causes) some k = no_cookie facts c cookie some k.1

  pub cookie_told_by : (es : List Entry) (facts : VisitFacts) (i : Item) (c : Cookie) → TellsSession makes begin facts es i → i.cookie ≡ Some c → IsCookieOf facts c
  cookie_told_by es facts i c t some = of_outcome es facts t.lease c i.cookie i.outcome some t.told
