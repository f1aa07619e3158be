-- What a request has left in the history of the windows, step by step.
use Rattle.std.specs.Prelude.{map, option_map}
use Rattle.std.proofs.Common.{◌≡◌, ◌≢◌, ◌⊎◌, ℕ, Bool, List, [], ◌∷◌, ◌++◌, append-nil, Option, Some, None, refl, sym, ap, ◌∙◌, subst, inl, inr}
use Rattle.call_ticket.specs.declared.next.Answer.{Answer}
use Rattle.call_ticket.specs.declared.next.Next.{Next}
use Rattle.container_core.specs.Container.{ContainerValue, events_of}
use Rattle.outside.specs.declared.link.LinkCounts.{LinkCounts}
use Rattle.outside.specs.declared.link.LinkEvent.{LinkEvent}
use Rattle.send_windows.specs.declared.fact.WindowFact.{WindowFact}
use Rattle.send_windows.specs.declared.history.WindowMark.{WindowMark}
use Rattle.send_windows.specs.declared.history.WindowMark.TheVariants as mark
use Rattle.send_windows.specs.declared.windows.TakeRefusal.TheVariants as refusal
use Rattle.send_windows.specs.Windows.{WindowsValue}
use Rattle.session_cookie.specs.declared.cookie.Cookie.{Cookie}
use Rattle.ssm_stub.specs.Reads.{ReadState}
use Rattle.ssm_stub.specs.Writes.{write_answer, write_next}
use Rattle.ssm_stub.specs.declared.event.StubNext.{StubNext}
use Rattle.ssm_stub.specs.declared.event.StubNext.TheVariants as stub
use Rattle.crash_base.specs.declared.numbers.Place.{Place}
use Rattle.send_windows.specs.declared.pass.Pass.{Pass}
use Rattle.session_way.specs.Marks.{marks_between, marks_by}
use Rattle.session_way.specs.Way.{IsRefused, StepsOutside, StepsWindows, answer_held, held, outside_or, settled, wants}
use Rattle.session_way.specs.Writing.{WritingState, answer_of_write, passes_spent}
use Rattle.session_way.specs.declared.session_read.ReadOutcome.{ReadOutcome}
use Rattle.session_way.specs.declared.session_read.ReadOutcome.TheVariants as read
use Rattle.session_way.specs.declared.session_write.WriteOutcome.{WriteOutcome}
use Rattle.session_way.specs.declared.session_write.WriteOutcome.TheVariants as outcome
use Rattle.session_way.specs.declared.way.SessionWay.{SessionWay}
use Rattle.session_way.specs.declared.way.SessionWay.TheVariants as way
use Rattle.session_way.specs.declared.way.Wants.{Wants}
use Rattle.session_way.specs.declared.way.Wants.TheVariants as wanted
use Rattle.request_tries.specs.Ends.{done_of}
use Rattle.request_tries.specs.Serving.{TriesValue}
use Rattle.request_tries.specs.declared.outcome.Ended.{Ended}
use Rattle.request_tries.specs.declared.outcome.RequestOutcome.{RequestOutcome}
use Rattle.request_tries.specs.declared.outcome.RequestOutcome.TheVariants.{Page, Sentinel, Hung, Raised, Revoked, Conflict, JournalFull, KeeperFailed}
use Rattle.outcome_items.specs.Traces.{marks_of_outcome, marks_of_write, uncounted, window_trace}
use Rattle.outcome_items.specs.declared.item.Item.{Item}
use Rattle.request_visit.specs.Advancing.{Advances, HearsReadOf, IsItemOf, after_read, departed}
use Rattle.request_visit.specs.Marks.{AddsMarks, HasWrite, IsSettling, Marks, MarksOf, MayBeRead, Rests, WritesWith}
use Rattle.request_visit.specs.Ready.{ready_of}
use Rattle.request_visit.specs.Serving.{closed_with, closing_of, holds_of}
use Rattle.request_visit.specs.Stepping.{IsGivenBack, ServesWork, VisitsInside, VisitsWindows, after_closing_if, dropped, left_so}
use Rattle.request_visit.specs.Visits.{after_outcome, begun, fate_missed, fate_written, or_over, or_own, overloaded, turn, turn_by, with_fate}
use Rattle.request_visit.specs.declared.ready.Ready.{Ready}
use Rattle.request_visit.specs.declared.ready.Ready.TheVariants.{Respond, Write}
use Rattle.request_visit.specs.declared.serving.Closed.TheVariants as closes
use Rattle.request_visit.specs.declared.serving.Closing.{Closing}
use Rattle.request_visit.specs.declared.facts.VisitFacts.{VisitFacts}
use Rattle.request_visit.specs.declared.visit.Fate.{Fate}
use Rattle.request_visit.specs.declared.visit.Fate.TheVariants.{Known, Writing}
use Rattle.request_visit.specs.declared.visit.Turn.TheVariants as turns
use Rattle.request_visit.specs.declared.visit.Visit.{Visit}
use Rattle.request_visit.specs.declared.visit.Work.{Work}
use Rattle.request_visit.specs.declared.visit.Work.TheVariants.{Reading, Opening, Serving, Committed, Decided, Answered, Left}
use Rattle.request_visit.proofs.Turning.{own_nothing, own_windows, over_windows}

-- a session that is read wants no windows
no_windows : (next : StubNext) → outside_or wanted.Nothing next ≡ wanted.Windows → ⊥
no_windows (stub.Send brick) e = cc
no_windows (stub.Receive brick) e = cc
no_windows stub.Ended e = cc

pub read_wants : (w : SessionWay) → MayBeRead w → wants w ≡ wanted.Windows → ⊥
read_wants way.Resting m e = cc
read_wants (way.Reading r) m e = no_windows _ e
read_wants (way.Ordered order) m e = m
read_wants (way.Writing v) m e = m
read_wants (way.Settling v) m e = m
read_wants (way.Holding passes) m e = m

pub over_nothing : (w : Wants) → or_over w ≡ turns.Over → w ≡ wanted.Nothing
over_nothing wanted.Nothing e = refl
over_nothing wanted.Outside e = absurd (cc)
over_nothing wanted.Windows e = absurd (cc)

-- a session that rests wants nothing of the windows
pub rests_wants : (w : SessionWay) → w ≡ way.Resting → wants w ≡ wanted.Windows → ⊥
rests_wants w rests e = let same : wants way.Resting ≡ wanted.Windows = ap wants (sym rests) ∙ e in cc

-- a write that is settled wants something
pub settling_wants : (w : SessionWay) → IsSettling w → wants w ≡ wanted.Nothing → ⊥
settling_wants way.Resting s e = s
settling_wants (way.Reading r) s e = s
settling_wants (way.Ordered order) s e = s
settling_wants (way.Writing v) s e = s
settling_wants (way.Settling v) s e = by_next (write_next v.write) e where
  by_next : (next : StubNext) → outside_or wanted.Windows next ≡ wanted.Nothing → ⊥
  by_next (stub.Send brick) e = cc
  by_next (stub.Receive brick) e = cc
  by_next stub.Ended e = cc
settling_wants (way.Holding passes) s e = s

-- a write that is to be taken in wants nothing more
writing_waits : (marks : List WindowMark) (w : SessionWay) → WritesWith marks w → wants w ≡ wanted.Nothing → (marks ≡ mark.Taken 0 ∷ []) × HasWrite w
writing_waits marks way.Resting k e = absurd k
writing_waits marks (way.Reading r) k e = absurd k
writing_waits marks (way.Ordered order) k e = absurd (cc)
writing_waits marks (way.Writing v) k e = (k, tt)
writing_waits marks (way.Settling v) k e = absurd k
writing_waits marks (way.Holding passes) k e = absurd k

-- once its response has left, it is settled
settles : (w : SessionWay) → HasWrite w → IsSettling (settled w)
settles way.Resting h = absurd h
settles (way.Reading r) h = absurd h
settles (way.Ordered order) h = absurd h
settles (way.Writing v) h = tt
settles (way.Settling v) h = absurd h
settles (way.Holding passes) h = absurd h

-- the cookie, and the work, of a request that is told what its write came to
abbrev pub cookie_told : Option WriteOutcome → Option Cookie → Option Cookie
cookie_told None cookie = cookie
cookie_told (Some (outcome.Written given)) cookie = Some given
cookie_told (Some (outcome.Missed causes)) cookie = cookie

abbrev pub work_told : {P : Type 0} → Option WriteOutcome → Work P → Work P
work_told None work = work
work_told (Some (outcome.Written given)) work = with_fate fate_written work
work_told (Some (outcome.Missed causes)) work = with_fate (fate_missed causes) work

pub told_marks : {P : Type 0} (marks : List WindowMark) (told : Option WriteOutcome) (v : Visit P)
    → MarksOf marks (cookie_told told v.cookie) v.way (work_told told v.work) → Marks marks (after_outcome told v)
told_marks marks None v m = m
told_marks marks (Some (outcome.Written given)) v m = m
told_marks marks (Some (outcome.Missed causes)) v m = m

-- the law that a write that is settled has its answer
abbrev pub Answers : Type 0
Answers = (w : WritingState) → wants (way.Settling w) ≡ wanted.Windows → write_answer w.write ≢ None

-- nothing was told of a write without an answer
pub none_told : (told : Option WriteOutcome) → option_map answer_of_write told ≡ None → told ≡ None
none_told None e = refl
none_told (Some o) e = absurd (cc)

-- passes were taken for a write
taken_marks : (marks : List WindowMark) (w after : SessionWay) (v : WritingState) → after ≡ way.Writing v → held w ≡ None → marks ≡ []
    → WritesWith (marks ++ map uncounted (marks_by w after)) after
taken_marks marks w after v is none empty =
    subst (λ (a : SessionWay). WritesWith (marks ++ map uncounted (marks_between (held w) (held a))) a) (sym is)
    (subst (λ (h : Option (List Pass)). marks ++ map uncounted (marks_between h (Some (passes_spent v))) ≡ mark.Taken 0 ∷ []) (sym none)
    (ap (λ (m : List WindowMark). m ++ mark.Taken 0 ∷ []) empty))

-- passes were spent
spent_marks : (marks : List WindowMark) (v : WritingState) (after : SessionWay) → after ≡ way.Resting → marks ≡ mark.Taken 0 ∷ []
    → marks ++ map uncounted (marks_by (way.Settling v) after) ≡ mark.Taken 0 ∷ mark.Spent ∷ []
spent_marks marks v after rests taken =
    ap (λ (a : SessionWay). marks ++ map uncounted (marks_by (way.Settling v) a)) rests ∙ ap (λ (m : List WindowMark). m ++ mark.Spent ∷ []) taken

-- the write of a committed request begins
pub committed_given : (marks : List WindowMark) (cookie : Option Cookie) (w after : SessionWay) (windows later : WindowsValue) (told : Option WriteOutcome)
    → WritesWith marks w → wants w ≡ wanted.Windows → cookie ≡ None → StepsWindows w windows after later → option_map answer_of_write told ≡ answer_held w
    → (told ≡ None) × WritesWith (marks ++ map uncounted (marks_by w after)) after
committed_given marks cookie way.Resting after windows later told k e none step is = absurd k
committed_given marks cookie (way.Reading r) after windows later told k e none step is = absurd k
committed_given marks cookie (way.Ordered order) after windows later told k e none step is =
    (none_told told is, taken_marks marks (way.Ordered order) after _ step.writes refl k)
committed_given marks cookie (way.Writing v) after windows later told k e none step is = absurd (no_windows _ e)
committed_given marks cookie (way.Settling v) after windows later told k e none step is = absurd k
committed_given marks cookie (way.Holding passes) after windows later told k e none step is = absurd k

-- what is so of a request whose response has left, once its passes are spent
abbrev SpentSo : List WindowMark → Option Cookie → SessionWay → Option WriteOutcome → Place → Bool → Type 0
SpentSo marks cookie after told place again =
    MarksOf {P = Unit {0}} marks (cookie_told told cookie) after (work_told told (Left (Writing place again)))

left_given : (law : Answers) (marks : List WindowMark) (cookie : Option Cookie) (w after : SessionWay) (windows later : WindowsValue) (told : Option WriteOutcome) (place : Place) (again : Bool)
    → IsSettling w → wants w ≡ wanted.Windows → marks ≡ mark.Taken 0 ∷ [] → StepsWindows w windows after later → option_map answer_of_write told ≡ answer_held w
    → SpentSo (marks ++ map uncounted (marks_by w after)) cookie after told place again
left_given law marks cookie way.Resting after windows later told place again s e taken step is = absurd s
left_given law marks cookie (way.Reading r) after windows later told place again s e taken step is = absurd s
left_given law marks cookie (way.Ordered order) after windows later told place again s e taken step is = absurd s
left_given law marks cookie (way.Writing v) after windows later told place again s e taken step is = absurd s
left_given law marks cookie (way.Settling v) after windows later None place again s e taken step is = absurd (law v e (sym is))
left_given law marks cookie (way.Settling v) after windows later (Some (outcome.Written given)) place again s e taken step is =
    record { rests = step.0; marks_are = spent_marks marks v after step.0 taken }
left_given law marks cookie (way.Settling v) after windows later (Some (outcome.Missed causes)) place again s e taken step is =
    record { rests = step.0; marks_are = spent_marks marks v after step.0 taken }
left_given law marks cookie (way.Holding passes) after windows later told place again s e taken step is = absurd s

-- the same fact, of any program
of_any : (P : Type 0) (marks : List WindowMark) (cookie : Option Cookie) (after : SessionWay) (told : Option WriteOutcome) (place : Place) (again : Bool)
    → SpentSo marks cookie after told place again → MarksOf {P = P} marks (cookie_told told cookie) after (work_told told (Left (Writing place again)))
of_any P marks cookie after None place again h = h
of_any P marks cookie after (Some (outcome.Written given)) place again h = h
of_any P marks cookie after (Some (outcome.Missed causes)) place again h = h

given_by : {P : Type 0} (law : Answers) (marks : List WindowMark) (cookie : Option Cookie) (w after : SessionWay) (windows later : WindowsValue) (told : Option WriteOutcome) (work : Work P)
    → turn_by work (wants w) ≡ turns.Windows → MarksOf marks cookie w work → StepsWindows w windows after later → option_map answer_of_write told ≡ answer_held w
    → MarksOf (marks ++ map uncounted (marks_by w after)) (cookie_told told cookie) after (work_told told work)
given_by law marks cookie w after windows later told Reading turned m step is = absurd (read_wants w m.2 (own_windows (wants w) turned))
given_by law marks cookie w after windows later told Opening turned m step is = absurd (cc)
given_by law marks cookie w after windows later told (Serving tries program) turned m step is = absurd (cc)
given_by {P} law marks cookie w after windows later told (Committed place again shown) turned m step is =
    let h = committed_given marks cookie w after windows later told m.1 (own_windows (wants w) turned) m.0 step is in
    let So : Option WriteOutcome → Type 0 = λ t. MarksOf {P = P} (marks ++ map uncounted (marks_by w after)) (cookie_told t cookie) after (work_told t (Committed place again shown)) in
    subst So (sym h.0) (m.0, h.1)
given_by law marks cookie w after windows later told (Decided became) turned m step is = absurd (cc)
given_by law marks cookie w after windows later told (Answered fate bytes) turned m step is = absurd (cc)
given_by law marks cookie w after windows later told (Left (Known became)) turned m step is = absurd (rests_wants w m.rests (over_windows (wants w) turned))
given_by {P} law marks cookie w after windows later told (Left (Writing place again)) turned m step is =
    of_any P (marks ++ map uncounted (marks_by w after)) cookie after told place again
    (left_given law marks cookie w after windows later told place again m.held_so (over_windows (wants w) turned) m.marks_are step is)

-- passes are refused to a session that is to be written, and to no other
refused_read : (w after : SessionWay) (windows later : WindowsValue) (full : List WindowFact) → MayBeRead w → IsRefused w windows after later (refusal.Overload full) → ⊥
refused_read way.Resting after windows later full m r = r
refused_read (way.Reading x) after windows later full m r = r
refused_read (way.Ordered order) after windows later full m r = m
refused_read (way.Writing v) after windows later full m r = m
refused_read (way.Settling v) after windows later full m r = m
refused_read (way.Holding passes) after windows later full m r = m

refused_write : (marks : List WindowMark) (w after : SessionWay) (windows later : WindowsValue) (full : List WindowFact)
    → WritesWith marks w → IsRefused w windows after later (refusal.Overload full) → (after ≡ way.Resting) × (marks ≡ [])
refused_write marks way.Resting after windows later full k r = absurd k
refused_write marks (way.Reading x) after windows later full k r = absurd k
refused_write marks (way.Ordered order) after windows later full k r = (r.0, k)
refused_write marks (way.Writing v) after windows later full k r = absurd r
refused_write marks (way.Settling v) after windows later full k r = absurd k
refused_write marks (way.Holding passes) after windows later full k r = absurd k

refused_rest : (w after : SessionWay) (windows later : WindowsValue) (full : List WindowFact) → w ≡ way.Resting → IsRefused w windows after later (refusal.Overload full) → ⊥
refused_rest w after windows later full rests r = subst (λ (x : SessionWay). IsRefused x windows after later (refusal.Overload full)) rests r

pub refused_settling : (w after : SessionWay) (windows later : WindowsValue) (full : List WindowFact) → IsSettling w → IsRefused w windows after later (refusal.Overload full) → ⊥
refused_settling way.Resting after windows later full s r = s
refused_settling (way.Reading x) after windows later full s r = s
refused_settling (way.Ordered order) after windows later full s r = s
refused_settling (way.Writing v) after windows later full s r = s
refused_settling (way.Settling v) after windows later full s r = r
refused_settling (way.Holding passes) after windows later full s r = s

refused_by : {P : Type 0} (marks : List WindowMark) (cookie : Option Cookie) (w after : SessionWay) (windows later : WindowsValue) (full : List WindowFact) (work : Work P)
    → turn_by work (wants w) ≡ turns.Windows → MarksOf marks cookie w work → IsRefused w windows after later (refusal.Overload full)
    → MarksOf (marks ++ mark.Refused ∷ []) cookie after (overloaded full work)
refused_by marks cookie w after windows later full Reading turned m r = absurd (refused_read w after windows later full m.2 r)
refused_by marks cookie w after windows later full Opening turned m r = absurd (cc)
refused_by marks cookie w after windows later full (Serving tries program) turned m r = absurd (cc)
refused_by marks cookie w after windows later full (Committed place again shown) turned m r =
    let h = refused_write marks w after windows later full m.1 r in
    (m.0, record { rests = h.0; marks_are = ap (λ (x : List WindowMark). x ++ mark.Refused ∷ []) h.1 })
refused_by marks cookie w after windows later full (Decided became) turned m r = absurd (cc)
refused_by marks cookie w after windows later full (Answered fate bytes) turned m r = absurd (cc)
refused_by marks cookie w after windows later full (Left (Known became)) turned m r = absurd (refused_rest w after windows later full m.rests r)
refused_by marks cookie w after windows later full (Left (Writing place again)) turned m r = absurd (refused_settling w after windows later full m.held_so r)

pub windows_mark : {P : Type 0} (law : Answers) (marks : List WindowMark) (old new : Visit P) (windows after : WindowsValue)
    → turn old ≡ turns.Windows → VisitsWindows old windows new after → Marks marks old → AddsMarks marks windows after new
windows_mark {P} law marks old new windows after turned visits m =
    elim visits [
      | inl given ↦ record {
        added = marks_by old.way new.way;
        grown = given.marks;
        told = subst (λ (v : Visit P). Marks (marks ++ map uncounted (marks_by old.way new.way)) v) (sym given.new_is)
            (told_marks (marks ++ map uncounted (marks_by old.way new.way)) given.outcome (record old { way = new.way })
            (given_by law marks old.cookie old.way new.way windows after given.outcome old.work turned m given.step given.is_outcome));
      }
      | inr refused ↦ record {
        added = mark.Refused ∷ [];
        grown = refused.marks;
        told = subst (λ (v : Visit P). Marks (marks ++ mark.Refused ∷ []) v) (sym refused.new_is)
            (refused_by marks old.cookie old.way new.way windows after refused.full old.work turned m refused.refused);
      }
    ]

-- the marks of a request that has left the container
left_marks : {P : Type 0} (marks : List WindowMark) (v : Visit P) (ready : Bool → Ready) (end : RequestOutcome)
    → v.cookie ≡ None → Rests marks v.way [] → Marks marks (left_so (closed_with ready end) v)
left_marks marks v ready (Page place again) none rests = by_ready (ready again) where
  by_ready : (r : Ready) → Marks marks (left_so (closes.Page place again r) v)
  by_ready (Respond bytes) = record { rests = rests.rests; marks_are = rests.marks_are ∙ sym (ap marks_of_write none) }
  by_ready (Write order shown) = (none, rests.marks_are)
left_marks marks v ready (Sentinel group down) none rests = (none, rests)
left_marks marks v ready (Hung component fault path) none rests = (none, rests)
left_marks marks v ready (Raised component fault path) none rests = (none, rests)
left_marks marks v ready (Revoked tries) none rests = (none, rests)
left_marks marks v ready (Conflict tries) none rests = (none, rests)
left_marks marks v ready (JournalFull full) none rests = (none, rests)
left_marks marks v ready KeeperFailed none rests = (none, rests)

end_marks : {P : Type 0} (marks : List WindowMark) (v : Visit P) (container : ContainerValue) (end : Option Ended) (work : Work P)
    → v.cookie ≡ None → Rests marks v.way [] → MarksOf marks v.cookie v.way work
    → Marks marks (after_closing_if (option_map (closing_of v.facts v.lease (events_of container)) end) (record v { work = work }))
end_marks marks v container None work none rests m = m
end_marks marks v container (Some e) work none rests m =
    left_marks marks (record v { work = work; holds = holds_of e }) (λ again. ready_of v.facts v.lease (done_of (events_of container) e)) e.outcome none rests

serving_marks : {P : Type 0} (marks : List WindowMark) (asks : P → List Answer → Next) (old new : Visit P) (container after : ContainerValue) (closing : Option Closing) (before work : Work P)
    → ServesWork asks container old.facts old.lease before closing after work → new ≡ after_closing_if closing (record old { work = work })
    → MarksOf marks old.cookie old.way before → Marks marks new
serving_marks marks asks old new container after closing Reading work serves is_new m = absurd serves
serving_marks marks asks old new container after closing Opening work serves is_new m = absurd serves
serving_marks {P} marks asks old new container after closing (Serving tries program) work serves is_new m =
    let s = serves.serves in
    let to : new ≡ after_closing_if (option_map (closing_of old.facts old.lease (events_of after)) s.end) (record old { work = work }) =
    is_new ∙ ap (λ (c : Option Closing). after_closing_if c (record old { work = work })) s.closing_is in
    let goes : MarksOf marks old.cookie old.way work = subst (λ (w : Work P). MarksOf marks old.cookie old.way w) (sym serves.work_is) m in
    subst (λ (v : Visit P). Marks marks v) (sym to) (end_marks marks old after s.end work m.0 m.1 goes)
serving_marks marks asks old new container after closing (Committed place again shown) work serves is_new m = absurd serves
serving_marks marks asks old new container after closing (Decided became) work serves is_new m = absurd serves
serving_marks marks asks old new container after closing (Answered fate bytes) work serves is_new m = absurd serves
serving_marks marks asks old new container after closing (Left fate) work serves is_new m = absurd serves

pub inside_mark : {P : Type 0} (marks : List WindowMark) (asks : P → List Answer → Next) (old new : Visit P) (container after : ContainerValue)
    → VisitsInside asks old container new after → Marks marks old → Marks marks new
inside_mark marks asks old new container after visits m =
    serving_marks marks asks old new container after visits.closing old.work visits.work visits.serves visits.new_is m

-- a step outside leaves a session in its stage
outside_read : {L : Type 0} (makes : L → LinkEvent → L → Type 0) (w after : SessionWay) (link later : L) → StepsOutside makes w link after later → MayBeRead w → MayBeRead after
outside_read makes way.Resting after link later s m = absurd s
outside_read makes (way.Reading r) after link later s m = subst MayBeRead (sym s.1) tt
outside_read makes (way.Ordered order) after link later s m = absurd s
outside_read makes (way.Writing v) after link later s m = absurd m
outside_read makes (way.Settling v) after link later s m = absurd m
outside_read makes (way.Holding passes) after link later s m = absurd s

outside_write : {L : Type 0} (makes : L → LinkEvent → L → Type 0) (marks : List WindowMark) (w after : SessionWay) (link later : L) → StepsOutside makes w link after later → WritesWith marks w → WritesWith marks after
outside_write makes marks way.Resting after link later s k = absurd s
outside_write makes marks (way.Reading r) after link later s k = absurd k
outside_write makes marks (way.Ordered order) after link later s k = absurd s
outside_write makes marks (way.Writing v) after link later s k = subst (λ (x : SessionWay). WritesWith marks x) (sym s.1) k
outside_write makes marks (way.Settling v) after link later s k = absurd k
outside_write makes marks (way.Holding passes) after link later s k = absurd s

outside_has : {L : Type 0} (makes : L → LinkEvent → L → Type 0) (w after : SessionWay) (link later : L) → StepsOutside makes w link after later → HasWrite w → HasWrite after
outside_has makes way.Resting after link later s h = absurd s
outside_has makes (way.Reading r) after link later s h = absurd h
outside_has makes (way.Ordered order) after link later s h = absurd s
outside_has makes (way.Writing v) after link later s h = subst HasWrite (sym s.1) tt
outside_has makes (way.Settling v) after link later s h = absurd h
outside_has makes (way.Holding passes) after link later s h = absurd s

outside_settles : {L : Type 0} (makes : L → LinkEvent → L → Type 0) (w after : SessionWay) (link later : L) → StepsOutside makes w link after later → IsSettling w → IsSettling after
outside_settles makes way.Resting after link later s h = absurd s
outside_settles makes (way.Reading r) after link later s h = absurd h
outside_settles makes (way.Ordered order) after link later s h = absurd s
outside_settles makes (way.Writing v) after link later s h = absurd h
outside_settles makes (way.Settling v) after link later s h = subst IsSettling (sym s.1) tt
outside_settles makes (way.Holding passes) after link later s h = absurd s

outside_rests : {L : Type 0} (makes : L → LinkEvent → L → Type 0) (w after : SessionWay) (link later : L) → StepsOutside makes w link after later → w ≡ way.Resting → ⊥
outside_rests makes w after link later s rests = subst (λ (x : SessionWay). StepsOutside makes x link after later) rests s

pub outside_marks : {P L : Type 0} (makes : L → LinkEvent → L → Type 0) (marks : List WindowMark) (cookie : Option Cookie) (w after : SessionWay) (link later : L) (work : Work P)
    → StepsOutside makes w link after later → MarksOf marks cookie w work → MarksOf marks cookie after work
outside_marks makes marks cookie w after link later Reading s m = (m.0, m.1, outside_read makes w after link later s m.2)
outside_marks makes marks cookie w after link later Opening s m = absurd (outside_rests makes w after link later s m.1.rests)
outside_marks makes marks cookie w after link later (Serving tries program) s m = absurd (outside_rests makes w after link later s m.1.rests)
outside_marks makes marks cookie w after link later (Committed place again shown) s m = (m.0, outside_write makes marks w after link later s m.1)
outside_marks makes marks cookie w after link later (Decided became) s m = absurd (outside_rests makes w after link later s m.1.rests)
outside_marks makes marks cookie w after link later (Answered (Known became) bytes) s m = absurd (outside_rests makes w after link later s m.rests)
outside_marks makes marks cookie w after link later (Answered (Writing place again) bytes) s m =
    record { no_cookie = m.no_cookie; marks_are = m.marks_are; held_so = outside_has makes w after link later s m.held_so }
outside_marks makes marks cookie w after link later (Left (Known became)) s m = absurd (outside_rests makes w after link later s m.rests)
outside_marks makes marks cookie w after link later (Left (Writing place again)) s m =
    record { no_cookie = m.no_cookie; marks_are = m.marks_are; held_so = outside_settles makes w after link later s m.held_so }

read_marks : {P : Type 0} (marks : List WindowMark) (told : ReadOutcome) (v : Visit P) → v.cookie ≡ None → marks ≡ [] → Marks marks (after_read told v)
read_marks marks (read.Found lease) v none empty = (none, record { rests = refl; marks_are = empty })
read_marks marks (read.Expired now expiry) v none empty = (none, record { rests = refl; marks_are = empty })
read_marks marks (read.Lost causes) v none empty = (none, record { rests = refl; marks_are = empty })

hear_marks : {P : Type 0} (marks : List WindowMark) (old new : Visit P) (w : SessionWay) → old.way ≡ w → HearsReadOf w old new → old.cookie ≡ None → marks ≡ [] → MayBeRead w → Marks marks new
hear_marks {P} marks old new way.Resting is hears none empty m =
    subst (λ (v : Visit P). Marks marks v) (sym hears) (none, record { rests = is; marks_are = empty })
hear_marks {P} marks old new (way.Reading r) is hears none empty m =
    subst (λ (v : Visit P). Marks marks v) (sym hears.new_is) (read_marks marks hears.outcome old none empty)
hear_marks marks old new (way.Ordered order) is hears none empty m = absurd m
hear_marks marks old new (way.Writing v) is hears none empty m = absurd m
hear_marks marks old new (way.Settling v) is hears none empty m = absurd m
hear_marks marks old new (way.Holding passes) is hears none empty m = absurd m

itself_marks : {P : Type 0} (marks : List WindowMark) (key : List ℕ) (old new : Visit P) (work : Work P)
    → old.work ≡ work → turn_by work (wants old.way) ≡ turns.Own → Advances key old work new → MarksOf marks old.cookie old.way work → Marks marks new
itself_marks marks key old new Reading is turned advances m = hear_marks marks old new old.way refl advances m.0 m.1 m.2
itself_marks marks key old new Opening is turned advances m = absurd (cc)
itself_marks marks key old new (Serving tries program) is turned advances m = absurd (cc)
itself_marks {P} marks key old new (Committed place again shown) is turned advances m =
    let h = writing_waits marks old.way m.1 (own_nothing (wants old.way) turned) in
    subst (λ (v : Visit P). Marks marks v) (sym advances.new_is) (record { no_cookie = m.0; marks_are = h.0; held_so = h.1 })
itself_marks {P} marks key old new (Decided became) is turned advances m =
    subst (λ (v : Visit P). Marks marks v) (sym advances)
    (record { rests = m.1.rests; marks_are = m.1.marks_are ∙ sym (ap (λ (c : Option Cookie). marks_of_outcome c became) m.0) })
itself_marks marks key old new (Answered fate bytes) is turned advances m = absurd (cc)
itself_marks {P} marks key old new (Left fate) is turned advances m =
    subst (λ (v : Visit P). Marks marks v) (sym advances) (subst (λ (w : Work P). MarksOf marks old.cookie old.way w) (sym is) m)

pub advance_marks : {P : Type 0} (marks : List WindowMark) (key : List ℕ) (old new : Visit P)
    → turn old ≡ turns.Own → Advances key old old.work new → Marks marks old → Marks marks new
advance_marks marks key old new turned advances m = itself_marks marks key old new old.work refl turned advances m

pub leave_marks : {P : Type 0} (marks : List WindowMark) (cookie : Option Cookie) (w : SessionWay) (work : Work P)
    → turn_by work (wants w) ≡ turns.Output → MarksOf marks cookie w work → MarksOf marks cookie (settled w) (departed work)
leave_marks marks cookie w Reading turned m = absurd (by_wants (wants w) turned) where
  by_wants : (x : Wants) → or_own x ≡ turns.Output → ⊥
  by_wants wanted.Nothing e = cc
  by_wants wanted.Outside e = cc
  by_wants wanted.Windows e = cc
leave_marks marks cookie w Opening turned m = absurd (cc)
leave_marks marks cookie w (Serving tries program) turned m = absurd (cc)
leave_marks marks cookie w (Committed place again shown) turned m = absurd (by_wants (wants w) turned) where
  by_wants : (x : Wants) → or_own x ≡ turns.Output → ⊥
  by_wants wanted.Nothing e = cc
  by_wants wanted.Outside e = cc
  by_wants wanted.Windows e = cc
leave_marks marks cookie w (Decided became) turned m = absurd (cc)
leave_marks marks cookie w (Answered (Known became) bytes) turned m = record { rests = ap settled m.rests; marks_are = m.marks_are }
leave_marks marks cookie w (Answered (Writing place again) bytes) turned m =
    record { no_cookie = m.no_cookie; marks_are = m.marks_are; held_so = settles w m.held_so }
leave_marks marks cookie w (Left fate) turned m = absurd (by_wants (wants w) turned) where
  by_wants : (x : Wants) → or_over x ≡ turns.Output → ⊥
  by_wants wanted.Nothing e = cc
  by_wants wanted.Outside e = cc
  by_wants wanted.Windows e = cc

pub item_marks : {P : Type 0} (marks : List WindowMark) (v : Visit P) (work : Work P) (i : Item)
    → turn_by work (wants v.way) ≡ turns.Over → IsItemOf v work i → MarksOf marks v.cookie v.way work → marks ≡ window_trace i
item_marks marks v Reading i turned is m = absurd is
item_marks marks v Opening i turned is m = absurd is
item_marks marks v (Serving tries program) i turned is m = absurd is
item_marks marks v (Committed place again shown) i turned is m = absurd is
item_marks marks v (Decided became) i turned is m = absurd is
item_marks marks v (Answered fate bytes) i turned is m = absurd is
item_marks marks v (Left (Known became)) i turned is m = m.marks_are ∙ sym (ap window_trace is)
item_marks marks v (Left (Writing place again)) i turned is m = absurd (settling_wants v.way m.held_so (over_nothing (wants v.way) turned))

pub opened_marks : {P : Type 0} (marks : List WindowMark) (v : Visit P) (tries : TriesValue) (program : P)
    → v.work ≡ Opening → Marks marks v → Marks marks (record v { work = Serving tries program })
opened_marks {P} marks v tries program is m = subst (λ (w : Work P). MarksOf marks v.cookie v.way w) is m

pub dropped_marks : {P : Type 0} (marks : List WindowMark) (cookie : Option Cookie) (w : SessionWay) (work : Work P)
    → MarksOf marks cookie w work → MarksOf marks cookie w (dropped work)
dropped_marks marks cookie w Reading m = m
dropped_marks marks cookie w Opening m = m
dropped_marks marks cookie w (Serving tries program) m = m
dropped_marks marks cookie w (Committed place again shown) m = m
dropped_marks marks cookie w (Decided became) m = m
dropped_marks marks cookie w (Answered fate bytes) m = m
dropped_marks marks cookie w (Left fate) m = m

-- a write that waits for its passes has its answer
abbrev pub HasOutcome : SessionWay → Fate → Type 0
HasOutcome w fate = (place : Place) (again : Bool) → fate ≡ Writing place again → answer_held w ≢ None

spent_back : (marks : List WindowMark) (cookie : Option Cookie) (w : SessionWay) (told : Option WriteOutcome) (place : Place) (again : Bool)
    → IsSettling w → marks ≡ mark.Taken 0 ∷ [] → option_map answer_of_write told ≡ answer_held w → answer_held w ≢ None
    → SpentSo (marks ++ map uncounted (marks_by w way.Resting)) cookie way.Resting told place again
spent_back marks cookie way.Resting told place again s taken is some = absurd s
spent_back marks cookie (way.Reading r) told place again s taken is some = absurd s
spent_back marks cookie (way.Ordered order) told place again s taken is some = absurd s
spent_back marks cookie (way.Writing v) told place again s taken is some = absurd s
spent_back marks cookie (way.Settling v) None place again s taken is some = absurd (some (sym is))
spent_back marks cookie (way.Settling v) (Some (outcome.Written given)) place again s taken is some =
    record { rests = refl; marks_are = spent_marks marks v way.Resting refl taken }
spent_back marks cookie (way.Settling v) (Some (outcome.Missed causes)) place again s taken is some =
    record { rests = refl; marks_are = spent_marks marks v way.Resting refl taken }
spent_back marks cookie (way.Holding passes) told place again s taken is some = absurd s

-- passes are given back behind a response
back_by : (P : Type 0) (marks : List WindowMark) (cookie : Option Cookie) (w : SessionWay) (told : Option WriteOutcome) (fate : Fate)
    → option_map answer_of_write told ≡ answer_held w → HasOutcome w fate → MarksOf {P = P} marks cookie w (Left fate)
    → MarksOf {P = P} (marks ++ map uncounted (marks_by w way.Resting)) (cookie_told told cookie) way.Resting (work_told told (Left fate))
back_by P marks cookie w told (Known became) is some m =
    let none : told ≡ None = none_told told (is ∙ ap answer_held m.rests) in
    let kept : marks ++ map uncounted (marks_by w way.Resting) ≡ marks =
    ap (λ (x : SessionWay). marks ++ map uncounted (marks_by x way.Resting)) m.rests ∙ append-nil marks in
    let So : Option WriteOutcome → Type 0 = λ t. MarksOf {P = P} (marks ++ map uncounted (marks_by w way.Resting)) (cookie_told t cookie) way.Resting (work_told t (Left (Known became))) in
    subst So (sym none) (record { rests = refl; marks_are = kept ∙ m.marks_are })
back_by P marks cookie w told (Writing place again) is some m =
    of_any P (marks ++ map uncounted (marks_by w way.Resting)) cookie way.Resting told place again
    (spent_back marks cookie w told place again m.held_so m.marks_are is (some place again refl))

pub back_marks : {P : Type 0} (marks : List WindowMark) (old new : Visit P) (fate : Fate)
    → IsGivenBack old new → old.work ≡ Left fate → HasOutcome old.way fate → Marks marks old → Marks (marks ++ map uncounted (marks_by old.way way.Resting)) new
back_marks {P} marks old new fate back is some m =
    let later : List WindowMark = marks ++ map uncounted (marks_by old.way way.Resting) in
    subst (λ (v : Visit P). Marks later v) (sym back.new_is)
    (told_marks later back.outcome (record old { way = way.Resting })
    (subst (λ (w : Work P). MarksOf later (cookie_told back.outcome old.cookie) way.Resting (work_told back.outcome w)) (sym is)
    (back_by P marks old.cookie old.way back.outcome fate back.is_outcome some (subst (λ (w : Work P). MarksOf marks old.cookie old.way w) is m))))

pub begun_marks : {P : Type 0} (v : Visit P) (facts : VisitFacts) (counts : LinkCounts) (w : SessionWay) (work : Work P)
    → v ≡ begun facts counts w work → MarksOf [] None w work → Marks [] v
begun_marks {P} v facts counts w work is m = subst (λ (x : Visit P). Marks [] x) (sym is) m

pub either_marks : {P : Type 0} (v : Visit P) (facts : VisitFacts) (counts : LinkCounts) (r : ReadState)
    → ((v ≡ begun facts counts (way.Reading r) Reading) ⊎ (v ≡ begun facts counts way.Resting Opening)) → Marks [] v
either_marks v facts counts r (inl is) = begun_marks v facts counts (way.Reading r) Reading is (refl, refl, tt)
either_marks v facts counts r (inr is) = begun_marks v facts counts way.Resting Opening is (refl, record { rests = refl; marks_are = refl })
