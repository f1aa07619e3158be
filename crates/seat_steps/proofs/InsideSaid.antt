-- What a request does in the container leaves what it says, as the history shows that it then has.
use Rattle.std.specs.Prelude.{option_and_then}
use Rattle.std.proofs.Common.{◌≡◌, ◌≤◌, ◌+◌, ◌∙◌, ◌&&◌, ℕ, Bool, true, false, nat_lt, if◌then◌else◌, List, [], ◌∷◌, ◌++◌, append-nil, length, take, Option, Some, None, refl, sym, ap, subst, arith}
use Rattle.auction_calls.specs.declared.action.ActionCall.{ActionCall}
use Rattle.boot_core.specs.Boot.{BootValue}
use Rattle.boot_core.specs.declared.boot.Start.{Start}
use Rattle.boot_core.specs.declared.refusals.CommitRefusal.{CommitRefusal}
use Rattle.boot_core.specs.declared.refusals.CommitRefusal.TheVariants as commits
use Rattle.call_attempts.proofs.UnderWay.{boot_grows}
use Rattle.call_attempts.specs.Attempt.{AttemptValue, stop_of_attempt, wanted}
use Rattle.call_attempts.specs.declared.attempt.Stepped.{Stepped}
use Rattle.call_attempts.specs.declared.attempt.Stepped.TheVariants as coming
use Rattle.call_attempts.specs.declared.stop.Stop.{Stop}
use Rattle.call_attempts.specs.declared.stop.Stop.TheVariants as stops
use Rattle.auction_site.specs.Actions.{steps_of}
use Rattle.container_core.specs.Container.{ContainerValue, events_of}
use Rattle.container_core.specs.History.{entries_in}
use Rattle.container_core.specs.declared.history.Event.{Event}
use Rattle.container_core.specs.declared.history.Event.TheVariants.{Added, KeeperFailed as FailedMark, Started}
use Rattle.crash_base.specs.declared.numbers.ComponentNo.{ComponentNo}
use Rattle.crash_base.specs.declared.numbers.Place.{Place}
use Rattle.journal_model.specs.Calls.{entry_of}
use Rattle.journal_model.specs.declared.entry.DoneText.{DoneText}
use Rattle.journal_model.specs.declared.entry.Entry.{Entry}
use Rattle.journal_model.specs.declared.entry.Entry.TheVariants.{Commit}
use Rattle.outcome_items.specs.Answers.{IsTextWhere}
use Rattle.outcome_items.specs.Traces.{marks_of_write}
use Rattle.request_tries.specs.Ends.{done_at, done_of, page_of}
use Rattle.request_tries.specs.Serving.{TriesValue, closed, has_begun, with_try}
use Rattle.request_tries.specs.Steps.{action_of, ended_at, from_of, front_at, outcome_by, refusal_of, try_ended}
use Rattle.request_tries.specs.declared.outcome.Ended.{Ended}
use Rattle.request_tries.specs.declared.outcome.HistoryFront.{HistoryFront}
use Rattle.request_tries.specs.declared.outcome.RequestOutcome.{RequestOutcome}
use Rattle.request_tries.specs.declared.outcome.RequestOutcome.TheVariants.{Page, Sentinel, Hung, Raised, Revoked, Conflict, JournalFull, KeeperFailed}
use Rattle.request_tries.specs.declared.outcome.TheConstants.{MAX_TRIES}
use Rattle.request_tries.specs.declared.outcome.TryCause.{TryCause}
use Rattle.request_tries.specs.declared.outcome.TryCause.TheVariants as cause
use Rattle.request_visit.proofs.Following.{responds}
use Rattle.request_visit.specs.Marks.{Marks, MarksOf, Rests}
use Rattle.request_visit.specs.Ready.{ready_by, ready_of, set_in, shown_by}
use Rattle.request_visit.specs.Says.{Says, SaysOf}
use Rattle.request_visit.specs.Serving.{closed_with, holds_of}
use Rattle.request_visit.specs.Stepping.{left_so, shown_so}
use Rattle.request_visit.specs.declared.ready.Ready.{Ready}
use Rattle.request_visit.specs.declared.ready.Ready.TheVariants.{Respond, Write}
use Rattle.request_visit.specs.declared.serving.Closed.{Closed}
use Rattle.request_visit.specs.declared.serving.Closed.TheVariants as closes
use Rattle.request_visit.specs.declared.visit.Visit.{Visit}
use Rattle.request_visit.specs.declared.visit.Work.{Work}
use Rattle.request_visit.specs.declared.visit.Work.TheVariants.{Reading, Opening, Serving as ServingBy, Committed, Decided, Answered, Left}
use Rattle.send_windows.specs.declared.history.WindowMark.{WindowMark}
use Rattle.session_cookie.specs.declared.cookie.Cookie.{Cookie}
use Rattle.session_way.specs.Lease.{value_to_write}
use Rattle.session_way.specs.declared.lease.SessionLease.{SessionLease}
use Rattle.shepherd.specs.Standing.{has_left, is_early}
use Rattle.shepherd_steps.specs.Inside.{Course, Ends, Goes as GoesOn, Stride, after_commit, after_course, after_entry, after_refusal, after_stop, after_try, came_by, commits_by, inside, inside_of, since_refused, stride, stride_by, untold, with_keeper}
use Rattle.seat_steps.proofs.Visiting.{Goes, goes-still}
use Rattle.seat_steps.specs.Answering.{HearsItsWrite, IsAnsweredAt}

-- what follows a page says what its entry does
ready-says : (key : List ℕ) (es : List Entry) (out : List ℕ) (v : Visit ActionCall) (place : Place) (again : Bool) (ready : Ready) (value : Option (List ℕ))
    → ready ≡ ready_by v.facts (done_at es place) value → v.cookie ≡ None
    → SaysOf key es (shown_so place again ready v).facts (shown_so place again ready v).cookie (shown_so place again ready v).way out (shown_so place again ready v).work
ready-says key es out v place again (Respond bytes) value is none =
    let r = responds v.facts (done_at es place) value bytes (sym is) in
    record { text = None; text_is = subst (λ (c : Option Cookie). IsTextWhere key c None) (sym none) refl; bytes_are = r.1 }
ready-says key es out v place again (Write order shown) None is none = absurd (cc)
ready-says key es out v place again (Write order shown) (Some value) is none =
    let same : shown ≡ shown_by (done_at es place) = cc in
    (none, same)

-- a request that has left the container so
left-says : (key : List ℕ) (es : List Entry) (out : List ℕ) (v : Visit ActionCall) (lease : Option SessionLease) (end : RequestOutcome) → v.cookie ≡ None
    → SaysOf key es (left_so (closed_with (λ again. ready_of v.facts lease (option_and_then (done_at es) (page_of end))) end) v).facts
    (left_so (closed_with (λ again. ready_of v.facts lease (option_and_then (done_at es) (page_of end))) end) v).cookie
    (left_so (closed_with (λ again. ready_of v.facts lease (option_and_then (done_at es) (page_of end))) end) v).way out
    (left_so (closed_with (λ again. ready_of v.facts lease (option_and_then (done_at es) (page_of end))) end) v).work
left-says key es out v lease (Page place again) none =
    ready-says key es out v place again (ready_of v.facts lease (done_at es place)) (value_to_write (set_in (done_at es place)) v.facts.now lease) refl none
left-says key es out v lease (Sentinel group down) none = (none, λ p. p)
left-says key es out v lease (Hung component fault path) none = (none, λ p. p)
left-says key es out v lease (Raised component fault path) none = (none, λ p. p)
left-says key es out v lease (Revoked tries) none = (none, λ p. p)
left-says key es out v lease (Conflict tries) none = (none, λ p. p)
left-says key es out v lease (JournalFull full) none = (none, λ p. p)
left-says key es out v lease KeeperFailed none = (none, λ p. p)

-- the marks of a request that has left the container
left-marks : (marks : List WindowMark) (v : Visit ActionCall) (ready : Bool → Ready) (end : RequestOutcome) → v.cookie ≡ None → Rests marks v.way [] → Marks marks (left_so (closed_with ready end) v)
left-marks marks v ready (Page place again) none rests = by (ready again) where
  by : (r : Ready) → Marks marks (left_so (closes.Page place again r) v)
  by (Respond bytes) = record { rests = rests.rests; marks_are = rests.marks_are ∙ sym (ap marks_of_write none) }
  by (Write order shown) = (none, rests.marks_are)
left-marks marks v ready (Sentinel group down) none rests = (none, rests)
left-marks marks v ready (Hung component fault path) none rests = (none, rests)
left-marks marks v ready (Raised component fault path) none rests = (none, rests)
left-marks marks v ready (Revoked tries) none rests = (none, rests)
left-marks marks v ready (Conflict tries) none rests = (none, rests)
left-marks marks v ready (JournalFull full) none rests = (none, rests)
left-marks marks v ready KeeperFailed none rests = (none, rests)

-- a request that leaves the container by its end has what it had, and has not put out its response
record LeavesSo (v w : Visit ActionCall) : Type 0 where
  facts : w.facts ≡ v.facts
  left : has_left w.work ≡ false
  late : is_early w.work ≡ false
  hears : HearsItsWrite v → HearsItsWrite w

leaves-so : (c : Closed) (v : Visit ActionCall) → LeavesSo v (left_so c v)
leaves-so (closes.Page place again (Respond bytes)) v = record { facts = refl; left = refl; late = refl; hears = λ h. record { heard = h.heard; answered = tt } }
leaves-so (closes.Page place again (Write order shown)) v = record { facts = refl; left = refl; late = refl; hears = λ h. record { heard = tt; answered = tt } }
leaves-so (closes.Other became) v = record { facts = refl; left = refl; late = refl; hears = λ h. record { heard = h.heard; answered = tt } }

end-says : (key : List ℕ) (out : List ℕ) (v : Visit ActionCall) (events : List Event) (e : Ended) → v.cookie ≡ None → e.held ≤ length events
    → Says key events out (left_so (closed_with (λ again. ready_of v.facts v.lease (done_of events e)) e.outcome) (record v { holds = holds_of e }))
end-says key out v events e none within =
    pick (closed_with (λ again. ready_of v.facts v.lease (done_of events e)) e.outcome)
    (left-says key (entries_in (take e.held events)) out (record v { holds = holds_of e }) v.lease e.outcome none) where
      pick : (c : Closed) → SaysOf key (entries_in (take e.held events)) (left_so c (record v { holds = holds_of e })).facts (left_so c (record v { holds = holds_of e })).cookie (left_so c (record v { holds = holds_of e })).way out (left_so c (record v { holds = holds_of e })).work
          → Says key events out (left_so c (record v { holds = holds_of e }))
      pick (closes.Page place again (Respond bytes)) s = record { within = within; says = s }
      pick (closes.Page place again (Write order shown)) s = record { within = within; says = s }
      pick (closes.Other became) s = record { within = within; says = s }

-- the end that a step comes to tells of so many events at most
abbrev HeldAt : ℕ → Course → Type 0
HeldAt n (GoesOn tries) = Unit {0}
HeldAt n (Ends end) = end.held ≡ n

try-held : (now : HistoryFront) (s : TriesValue) (at : Place) (why : TryCause) (repeats : Bool) → HeldAt now.held (after_try now s at why repeats)
try-held now s at why repeats = by (nat_lt (length s.tries + 1) MAX_TRIES && repeats) where
  by : (b : Bool) → HeldAt now.held (if b then GoesOn (with_try s (try_ended now at why)) else Ends (ended_at now (from_of s at) (outcome_by why (s.tries ++ try_ended now at why ∷ [])) None))
  by true = tt
  by false = refl

stop-held : (now : HistoryFront) (s : TriesValue) (at : Place) (repeats : Bool) (entered : List ComponentNo) (stop : Stop) → HeldAt now.held (after_stop now s at repeats entered stop)
stop-held now s at repeats entered (stops.Sentinel group down) = refl
stop-held now s at repeats entered (stops.Hung component fault) = refl
stop-held now s at repeats entered (stops.Raised component fault) = refl
stop-held now s at repeats entered (stops.Revoked shown) = try-held now s at (cause.Revoked shown) repeats

refusal-held : (now : HistoryFront) (es : List Entry) (s : TriesValue) (at : Place) (repeats : Bool) (why : CommitRefusal) → HeldAt now.held (after_refusal now es s at repeats why)
refusal-held now es s at repeats (commits.Revoked shown) = try-held now s at (cause.Revoked shown) repeats
refusal-held now es s at repeats (commits.Conflict conflict) = try-held now s at (cause.Conflict conflict.mark conflict.newest) true
refusal-held now es s at repeats (commits.Already place) = refl
refusal-held now es s at repeats (commits.JournalFull full) = refl
refusal-held now es s at repeats commits.KeeperFailed = refl
refusal-held now es s at repeats commits.OutOfMemory = tt

commit-held : (now : HistoryFront) (es : List Entry) (s : TriesValue) (at : Place) (repeats : Bool) (place : Place) (why : Option CommitRefusal) → HeldAt now.held (after_commit now es s at repeats place why)
commit-held now es s at repeats place None = refl
commit-held now es s at repeats place (Some why) = refusal-held now es s at repeats why

-- a step leaves more events, and an end that it comes to tells of all
pub record Strides (old : ContainerValue) (s : Stride) : Type 0 where
  pub held : HeldAt (length (events_of s.container)) s.course
  pub more : List Event
  pub start : s.container.boot.start ≡ old.boot.start
  pub since : s.container.since ≡ old.since ++ more

still-strides : (c : ContainerValue) (course : Course) → HeldAt (length (events_of c)) course → Strides c (record { course = course; container = c })
still-strides c course held = record { held = held; more = []; start = refl; since = sym (append-nil c.since) }

entry-strides : (c : ContainerValue) (s : TriesValue) (a : AttemptValue) (done : DoneText) (why : Option CommitRefusal) → Strides c (commits_by c s a done why)
entry-strides c s a done None = record {
  held = commit-held (front_at (after_entry c a.ticket.call (action_of s done) None)) (after_entry c a.ticket.call (action_of s done) None).boot.entries (closed s) a.ticket.call.at a.repeats (record { 0 = length c.boot.entries }) None;
  more = Added (Commit (entry_of a.ticket.call (action_of s done))) ∷ [];
  start = refl;
  since = refl;
}
entry-strides c s a done (Some why) = record {
  held = commit-held (front_at (after_entry c a.ticket.call (action_of s done) (Some why))) (after_entry c a.ticket.call (action_of s done) (Some why)).boot.entries (closed s) a.ticket.call.at a.repeats (record { 0 = length c.boot.entries }) (Some why);
  more = (marked why).0;
  start = refl;
  since = (marked why).1;
} where
  marked : (x : CommitRefusal) → (more : List Event) × (since_refused c.since a.ticket.call.request x ≡ c.since ++ more)
  marked commits.KeeperFailed = (FailedMark a.ticket.call.request ∷ [], refl)
  marked commits.OutOfMemory = ([], sym (append-nil c.since))
  marked (commits.Already place) = ([], sym (append-nil c.since))
  marked (commits.Revoked shown) = ([], sym (append-nil c.since))
  marked (commits.Conflict conflict) = ([], sym (append-nil c.since))
  marked (commits.JournalFull full) = ([], sym (append-nil c.since))

stride-strides : (program : ActionCall) (keeps : Bool) (c : ContainerValue) (s : TriesValue) (a : Option AttemptValue) → Strides c (stride (steps_of program) keeps c s a)
stride-strides program keeps c s None = still-strides c (GoesOn (has_begun c.boot s)) tt
stride-strides program keeps c s (Some a) = by (came_by (wanted (steps_of program) a) (stop_of_attempt c.boot (steps_of program) a)) where
  by : (came : Stepped) → Strides c (stride_by (steps_of program) keeps c s a came)
  by coming.Went = record { held = tt; more = []; start = (boot_grows c.boot (wanted (steps_of program) a)).start; since = sym (append-nil c.since) }
  by (coming.Done done) = entry-strides c s a done (with_keeper (refusal_of c s a done) a.ticket.call.writes keeps)
  by (coming.Stopped stop) =
      still-strides c (after_stop (front_at c) (closed s) a.ticket.call.at a.repeats a.entered stop) (stop-held (front_at c) (closed s) a.ticket.call.at a.repeats a.entered stop)

-- What a step in the container comes to is what the request says, as the history then shows.
course-goes : (key : List ℕ) (c : ContainerValue) (v : Visit ActionCall) (tries : TriesValue) (program : ActionCall) (course : Course) → v.work ≡ ServingBy tries program → HeldAt (length (events_of c)) course
    → Goes key (events_of c) v (after_course v program c course)
course-goes key c v tries program (GoesOn to) was held = record {
  facts = refl;
  left = λ e. ap has_left was;
  early = λ e. absurd (cc);
  still = λ marks sent h m says. record {
    marks = marks;
    marked = subst (λ (x : Work ActionCall). MarksOf marks v.cookie v.way x) was m;
    says = record {
      within = says.within;
      says = subst (λ (x : Work ActionCall). SaysOf key (entries_in (take v.holds.held (events_of c))) v.facts v.cookie v.way sent x) was says.says;
    };
    hears = record { heard = h.heard; answered = tt };
  };
}
course-goes key c v tries program (Ends end) was held =
    let to : Closed = closed_with (λ again. ready_of v.facts v.lease (done_of (events_of c) end)) end.outcome in
    let so = leaves-so to (record v { holds = holds_of end }) in
    record {
      facts = so.facts;
      left = λ e. ap has_left was;
      early = λ e. absurd (let no : is_early (left_so to (record v { holds = holds_of end })).work ≡ false = so.late in cc);
      still = λ marks sent h m says.
          let served : MarksOf marks v.cookie v.way (ServingBy tries program) = subst (λ (x : Work ActionCall). MarksOf marks v.cookie v.way x) was m in
          record {
            marks = marks;
            marked = left-marks marks (record v { holds = holds_of end }) (λ again. ready_of v.facts v.lease (done_of (events_of c) end)) end.outcome served.0 served.1;
            says = end-says key sent v (events_of c) end served.0 (subst (λ (n : ℕ). end.held ≤ n) held (omega-refl end.held));
            hears = so.hears (record { heard = h.heard; answered = subst (λ (x : Work ActionCall). IsAnsweredAt x v.way) (sym was) tt });
          };
    } where
      omega-refl : (n : ℕ) → n ≤ n
      omega-refl n = omega arith

-- The history after a step in the container.
pub inside-grows : (keeps : Bool) (v : Visit ActionCall) (boot : BootValue) (since : List Event)
    → (more : List Event) × ((Started (inside steps_of keeps v boot since).boot.start ∷ (inside steps_of keeps v boot since).since) ≡ (Started boot.start ∷ since) ++ more)
unfolding inside
inside-grows keeps v boot since = by v.work where
  same : (more : List Event) × ((Started boot.start ∷ since) ≡ (Started boot.start ∷ since) ++ more)
  same = ([], sym (append-nil (Started boot.start ∷ since)))

  by : (w : Work ActionCall) → (more : List Event) × ((Started (inside_of steps_of keeps v w (untold boot since)).boot.start ∷ (inside_of steps_of keeps v w (untold boot since)).since) ≡ (Started boot.start ∷ since) ++ more)
  by Reading = same
  by Opening = same
  by (ServingBy tries program) =
      let s = stride-strides program keeps (untold boot since) tries tries.attempt in
      let to : Stride = stride (steps_of program) keeps (untold boot since) tries tries.attempt in
      (s.more, ap (λ (x : Start). Started x ∷ to.container.since) s.start ∙ ap (λ (xs : List Event). Started boot.start ∷ xs) s.since)
  by (Committed place again shown) = same
  by (Decided became) = same
  by (Answered fate bytes) = same
  by (Left fate) = same

-- A request that made its step in the container says what became of it.
pub inside-goes : (key : List ℕ) (keeps : Bool) (v : Visit ActionCall) (boot : BootValue) (since : List Event)
    → Goes key (Started (inside steps_of keeps v boot since).boot.start ∷ (inside steps_of keeps v boot since).since) v (inside steps_of keeps v boot since).visit
unfolding inside
inside-goes key keeps v boot since = by v.work refl where
  by : (w : Work ActionCall) → v.work ≡ w → Goes key (Started (inside_of steps_of keeps v w (untold boot since)).boot.start ∷ (inside_of steps_of keeps v w (untold boot since)).since) v (inside_of steps_of keeps v w (untold boot since)).visit
  by Reading was = goes-still key (Started boot.start ∷ since) v
  by Opening was = goes-still key (Started boot.start ∷ since) v
  by (ServingBy tries program) was =
      let s = stride-strides program keeps (untold boot since) tries tries.attempt in
      let to : Stride = stride (steps_of program) keeps (untold boot since) tries tries.attempt in
      course-goes key to.container v tries program to.course was s.held
  by (Committed place again shown) was = goes-still key (Started boot.start ∷ since) v
  by (Decided became) was = goes-still key (Started boot.start ∷ since) v
  by (Answered fate bytes) was = goes-still key (Started boot.start ∷ since) v
  by (Left fate) was = goes-still key (Started boot.start ∷ since) v
