-- Each step leaves fewer steps for a request.
use Rattle.std.specs.Prelude.{IfSome, IsSome, option_map}
use Rattle.std.proofs.Common.{arith, ◌≡◌, ◌+◌, ◌<◌, ◌≤◌, ℕ, Bool, List, Option, Some, None, inl, inr, refl, sym, ap, subst, ◌∙◌, length}
use Rattle.std.proofs.lemmas.List.{length-map}
use Rattle.call_ticket.specs.Runs.{run_of}
use Rattle.call_ticket.specs.declared.next.Answer.{Answer}
use Rattle.call_ticket.specs.declared.next.Next.{Next}
use Rattle.call_attempts.specs.Attempt.{AttemptValue, IsUnderWay, rows_at_begin}
use Rattle.container_core.specs.Container.{ContainerValue, events_of}
use Rattle.container_core.specs.declared.history.Event.{Event}
use Rattle.crash_base.specs.declared.numbers.Place.{Place}
use Rattle.crash_base.specs.declared.numbers.Version.{Version}
use Rattle.deployment.specs.declared.parts.Parts.{Parts}
use Rattle.outside.specs.declared.link.LinkCounts.{LinkCounts}
use Rattle.outside.specs.declared.link.LinkEvent.{LinkEvent}
use Rattle.send_windows.specs.declared.fact.TheConstants.{MAX_BRICKS}
use Rattle.send_windows.specs.declared.fact.WindowFact.{WindowFact}
use Rattle.send_windows.specs.declared.pass.Pass.{Pass}
use Rattle.send_windows.specs.declared.windows.TakeRefusal.TheVariants as refusal
use Rattle.send_windows.specs.Windows.{WindowsValue}
use Rattle.session_cookie.specs.Cookie.{AreHolders}
use Rattle.session_cookie.specs.declared.cookie.Cookie.{Cookie}
use Rattle.ssm_stub.specs.Ends.{bricks_of}
use Rattle.ssm_stub.specs.Reads.{read_start}
use Rattle.ssm_stub.specs.declared.reply.ReadReply.{ReadReply}
use Rattle.ssm_stub.specs.declared.reply.WriteReply.{WriteReply}
use Rattle.session_way.specs.Way.{IsRefused, StepsOutside, StepsWindows, passes_for, settled, wants}
use Rattle.session_way.specs.declared.lease.SessionLease.{SessionLease}
use Rattle.session_way.specs.declared.session_read.ReadOutcome.{ReadOutcome}
use Rattle.session_way.specs.declared.session_read.ReadOutcome.TheVariants as read
use Rattle.session_way.specs.declared.session_write.WriteOutcome.{WriteOutcome}
use Rattle.session_way.specs.declared.session_write.WriteOutcome.TheVariants as outcome
use Rattle.session_way.specs.declared.way.SessionWay.{SessionWay}
use Rattle.session_way.specs.declared.way.SessionWay.TheVariants as way
use Rattle.session_way.specs.declared.way.Wants.{Wants}
use Rattle.session_way.specs.declared.way.Wants.TheVariants as wanted
use Rattle.request_tries.specs.Ends.{done_of}
use Rattle.request_tries.specs.Serving.{IsOpen, IsServing, TriesValue}
use Rattle.request_tries.specs.Steps.{CommitsAs}
use Rattle.request_tries.specs.declared.outcome.Ended.{Ended}
use Rattle.request_tries.specs.declared.outcome.Progress.{Progress}
use Rattle.request_tries.specs.declared.outcome.Progress.TheVariants as progress
use Rattle.request_tries.specs.declared.outcome.RequestOutcome.{RequestOutcome}
use Rattle.request_tries.specs.declared.outcome.RequestOutcome.TheVariants.{Page, Sentinel, Hung, Raised, Revoked, Conflict, JournalFull, KeeperFailed}
use Rattle.request_visit.specs.Advancing.{Advances, HearsReadOf, after_leaving, after_read, departed}
use Rattle.request_visit.specs.Ready.{ready_of}
use Rattle.request_visit.specs.Serving.{GoesOn, closed_with, closing_of}
use Rattle.request_visit.specs.Stepping.{OnServing, ServesBy, ServesWork, VisitsInside, VisitsWindows, after_closing_if, left_so, shown_so}
use Rattle.request_visit.specs.Visits.{after_outcome, begun, or_over, or_own, overloaded, turn, turn_by}
use Rattle.request_visit.specs.declared.facts.VisitFacts.{VisitFacts}
use Rattle.request_visit.specs.declared.ready.Ready.{Ready}
use Rattle.request_visit.specs.declared.ready.Ready.TheVariants.{Respond, Write}
use Rattle.request_visit.specs.declared.serving.Closing.{Closing}
use Rattle.request_visit.specs.declared.visit.Turn.TheVariants as turns
use Rattle.request_visit.specs.declared.visit.Visit.{Visit}
use Rattle.request_visit.specs.declared.visit.Work.{Work}
use Rattle.request_visit.specs.declared.visit.Work.TheVariants.{Reading, Opening, Serving, Committed, Decided, Answered, Left}
use Rattle.request_visit.proofs.Marking.{work_told}
use Rattle.unhindered_requests.specs.CallsLeft.{calls_left}
use Rattle.unhindered_requests.specs.StepsLeft.{page_steps, request_steps, steps_left, work_left}
use Rattle.unhindered_requests.specs.TriesLeft.{steps_of, tries_left}
use Rattle.unhindered_requests.proofs.Calls.{calls_begin, outside_fewer}
use Rattle.unhindered_requests.proofs.Fewer.{DoneInTime, StepsOn, commit_fewer, few_left, some_left, step_fewer}

-- In the container.

-- what a step came to leaves fewer, where the request goes on
goes_fewer : (old new : ContainerValue) (s mid after : TriesValue) (to : Progress) (end : Option Ended) → StepsOn s to mid → GoesOn old mid to end new after → end ≡ None → tries_left after < tries_left s
goes_fewer old new s mid after progress.Went end on goes none = subst (λ (t : TriesValue). tries_left t < tries_left s) (sym goes.2) on
goes_fewer old new s mid after (progress.Done done) end on goes none =
    let a : AttemptValue = on.0 in
    let is_open : mid.attempt ≡ Some a = ap (λ (t : TriesValue). t.attempt) on.1 ∙ on.2 in
    let here : tries_left mid ≡ steps_of (length mid.tries) (Some a) = ap (λ o. steps_of (length mid.tries) o) is_open in
    let same : tries_left mid ≡ tries_left s = ap tries_left on.1 in
    let less = commit_fewer old new mid after a done end (subst (λ (o : Option AttemptValue). CommitsAs old mid o done end new after) is_open goes) none in
    omega (arith, here, same, less)
goes_fewer old new s mid after (progress.Ended e) end on goes none = absurd (let some = goes.0 in cc)

shown_fewer : {P : Type 0} (place : Place) (again : Bool) (ready : Ready) (v : Visit P) → steps_left (shown_so place again ready v) ≤ page_steps + calls_left v.way
shown_fewer place again (Respond bytes) v = omega arith
shown_fewer place again (Write order page) v = omega arith

pub closed_fewer : {P : Type 0} (ready : Bool → Ready) (o : RequestOutcome) (v : Visit P) → steps_left (left_so (closed_with ready o) v) ≤ page_steps + calls_left v.way
closed_fewer ready (Page place again) v = shown_fewer place again (ready again) v
closed_fewer ready (Sentinel group down) v = omega arith
closed_fewer ready (Hung component fault path) v = omega arith
closed_fewer ready (Raised component fault path) v = omega arith
closed_fewer ready (Revoked tries) v = omega arith
closed_fewer ready (Conflict tries) v = omega arith
closed_fewer ready (JournalFull full) v = omega arith
closed_fewer ready KeeperFailed v = omega arith

left_fewer : {P : Type 0} (facts : VisitFacts) (lease : Option SessionLease) (events : List Event) (end : Option Ended) (s after : TriesValue) (program : P) (v : Visit P) → (end ≡ None → tries_left after < tries_left s) → 1 ≤ tries_left s
    → steps_left (after_closing_if (option_map (closing_of facts lease events) end) (record v { work = Serving after program })) < tries_left s + page_steps + calls_left v.way
left_fewer facts lease events None s after program v less some = (let fewer = less refl in omega (arith, fewer))
left_fewer {P} facts lease events (Some e) s after program v less some =
    let here : Visit P = record v { holds = (closing_of facts lease events e).holds; work = Serving after program } in
    let most = closed_fewer (λ again. ready_of facts lease (done_of events e)) e.outcome here in
    omega (arith, most, some)

-- a program keeps the rules of calls over any rows, in a deployment that it accepts
abbrev pub DoneOver : {P : Type 0} → (P → List Answer → Next) → (P → Parts → Type 0) → Type 0
DoneOver {P} asks accepts = (program : P) (parts : Parts) (rows : List _) → accepts program parts → IsSome (run_of parts (asks program) rows)

under_way : (c : ContainerValue) (asks : List Answer → Next) (s : TriesValue) (o : Option AttemptValue) → IfSome o (λ a. IsOpen c.boot asks s a) → IfSome o (λ a. IsUnderWay c.boot asks a)
under_way c asks s None h = tt
under_way c asks s (Some a) h = h.way

pub inside_fewer : {P : Type 0} (law : DoneInTime) (asks : P → List Answer → Next) (accepts : P → Parts → Type 0) (done : DoneOver asks accepts) (old new : Visit P) (container after : ContainerValue) → VisitsInside asks old container new after
    → OnServing old.work (λ tries program. accepts program container.boot.start.deployment × IsServing container.boot (asks program) tries) → steps_left new < steps_left old
inside_fewer {P} law asks accepts done old new container after visits serving = by_work old.work visits.serves serving refl
  where
    served : (tries : TriesValue) (program : P) → ServesBy asks container old.facts old.lease tries program visits.closing after visits.work → accepts program container.boot.start.deployment → IsServing container.boot (asks program) tries → steps_left new < tries_left tries + page_steps + calls_left old.way
    served tries program s accepted serves =
        let on = step_fewer law container (asks program) tries s.serves.between s.serves.mid tries.attempt s.serves.to (λ a. done program container.boot.start.deployment (rows_at_begin container.boot a.ticket.call) accepted) serves.few (under_way container (asks program) tries tries.attempt serves.attempt) refl s.serves.steps in
        let less = goes_fewer s.serves.between after tries s.serves.mid s.after s.serves.to s.serves.end on s.serves.goes_on in
        subst (λ (v : Visit P). steps_left v < tries_left tries + page_steps + calls_left old.way) (sym visits.new_is)
        (subst (λ (c : Option Closing). steps_left (after_closing_if c (record old { work = visits.work })) < tries_left tries + page_steps + calls_left old.way) (sym s.serves.closing_is)
        (subst (λ (work : Work P). steps_left (after_closing_if (option_map (closing_of old.facts old.lease (events_of after)) s.serves.end) (record old { work = work })) < tries_left tries + page_steps + calls_left old.way) (sym s.work_is)
        (left_fewer old.facts old.lease (events_of after) s.serves.end tries s.after program old less (some_left tries tries.attempt serves.few))))

    by_work : (work : Work P) → ServesWork asks container old.facts old.lease work visits.closing after visits.work → OnServing work (λ tries program. accepts program container.boot.start.deployment × IsServing container.boot (asks program) tries) → old.work ≡ work → steps_left new < steps_left old
    by_work Reading s f is = absurd s
    by_work Opening s f is = absurd s
    by_work (Serving tries program) s f is = subst (λ (work : Work P). steps_left new < work_left work + calls_left old.way) (sym is) (served tries program s f.0 f.1)
    by_work (Committed place again page) s f is = absurd s
    by_work (Decided became) s f is = absurd s
    by_work (Answered fate bytes) s f is = absurd s
    by_work (Left fate) s f is = absurd s

-- a request whose program is given
pub opens_fewer : {P : Type 0} (v : Visit P) (tries : TriesValue) (program : P) → v.work ≡ Opening → steps_left (record v { work = Serving tries program }) < steps_left v
opens_fewer v tries program is =
    let before : work_left v.work ≡ request_steps = ap work_left is in
    let few = few_left (length tries.tries) tries.attempt in
    omega (arith, before, few)

-- At the windows.

pub told_same : {P : Type 0} (told : Option WriteOutcome) (work : Work P) → work_left (work_told told work) ≡ work_left work
told_same None work = refl
told_same (Some (outcome.Written cookie)) Reading = refl
told_same (Some (outcome.Written cookie)) Opening = refl
told_same (Some (outcome.Written cookie)) (Serving tries program) = refl
told_same (Some (outcome.Written cookie)) (Committed place again page) = refl
told_same (Some (outcome.Written cookie)) (Decided became) = refl
told_same (Some (outcome.Written cookie)) (Answered fate bytes) = refl
told_same (Some (outcome.Written cookie)) (Left fate) = refl
told_same (Some (outcome.Missed causes)) Reading = refl
told_same (Some (outcome.Missed causes)) Opening = refl
told_same (Some (outcome.Missed causes)) (Serving tries program) = refl
told_same (Some (outcome.Missed causes)) (Committed place again page) = refl
told_same (Some (outcome.Missed causes)) (Decided became) = refl
told_same (Some (outcome.Missed causes)) (Answered fate bytes) = refl
told_same (Some (outcome.Missed causes)) (Left fate) = refl

pub after_told : {P : Type 0} (told : Option WriteOutcome) (v : Visit P) → steps_left (after_outcome told v) ≡ work_left (work_told told v.work) + calls_left v.way
after_told None v = refl
after_told (Some (outcome.Written cookie)) v = refl
after_told (Some (outcome.Missed causes)) v = refl

pub overloaded_same : {P : Type 0} (full : List WindowFact) (work : Work P) → work_left (overloaded full work) ≡ work_left work
overloaded_same full Reading = refl
overloaded_same full Opening = refl
overloaded_same full (Serving tries program) = refl
overloaded_same full (Committed place again page) = refl
overloaded_same full (Decided became) = refl
overloaded_same full (Answered fate bytes) = refl
overloaded_same full (Left fate) = refl

-- a call of the windows leaves fewer for a session
given_fewer : (w after : SessionWay) (windows now : WindowsValue) → windows.w ≤ MAX_BRICKS → StepsWindows w windows after now → calls_left after < calls_left w
given_fewer way.Resting after windows now few steps = absurd steps
given_fewer (way.Reading r) after windows now few steps = absurd steps
given_fewer (way.Ordered order) after windows now few steps =
    let passes : List Pass = passes_for order windows in
    let most = steps.lawful.most in
    let bricks : length (bricks_of passes) ≡ length passes = length-map passes (λ (pass : Pass). pass.brick) in
    let calls = calls_begin WriteReply (bricks_of passes) in
    let left : calls_left after ≡ _ = ap calls_left steps.writes in
    omega (arith, few, most, bricks, calls, left)
given_fewer (way.Writing v) after windows now few steps = absurd steps
given_fewer (way.Settling v) after windows now few steps = (let left : calls_left after ≡ 0 = ap calls_left steps.0 in omega (arith, left))
given_fewer (way.Holding passes) after windows now few steps = (let left : calls_left after ≡ 0 = ap calls_left steps.0 in omega (arith, left))

refused_fewer : (w after : SessionWay) (windows now : WindowsValue) (full : List WindowFact) → IsRefused w windows after now (refusal.Overload full) → calls_left after < calls_left w
refused_fewer way.Resting after windows now full refused = absurd refused
refused_fewer (way.Reading r) after windows now full refused = absurd refused
refused_fewer (way.Ordered order) after windows now full refused = (let left : calls_left after ≡ 0 = ap calls_left refused.0 in omega (arith, left))
refused_fewer (way.Writing v) after windows now full refused = absurd refused
refused_fewer (way.Settling v) after windows now full refused = absurd refused
refused_fewer (way.Holding passes) after windows now full refused = absurd refused

pub windows_fewer : {P : Type 0} (old new : Visit P) (windows after : WindowsValue) → windows.w ≤ MAX_BRICKS → VisitsWindows old windows new after → steps_left new < steps_left old
windows_fewer old new windows after few (inl given) =
    let is : steps_left new ≡ _ = ap steps_left given.new_is in
    let told = after_told given.outcome (record old { way = new.way }) in
    let same = told_same given.outcome old.work in
    let less = given_fewer old.way new.way windows after few given.step in
    omega (arith, is, told, same, less)
windows_fewer old new windows after few (inr over) =
    let is : steps_left new ≡ _ = ap steps_left over.new_is in
    let same = overloaded_same over.full old.work in
    let less = refused_fewer old.way new.way windows after over.full over.refused in
    omega (arith, is, same, less)

-- At the link.

pub calls_fewer : {P L : Type 0} (makes : L → LinkEvent → L → Type 0) (v : Visit P) (w : SessionWay) (counts : LinkCounts) (link linked : L) → StepsOutside makes v.way link w linked → steps_left (record v { way = w; counts = counts }) < steps_left v
calls_fewer makes v w counts link linked steps = (let less = outside_fewer makes v.way w link linked steps in omega (arith, less))

-- By itself.

heard_fewer : {P : Type 0} (w : SessionWay) (old new : Visit P) → HearsReadOf w old new → old.way ≡ w → steps_left new < 1 + request_steps + calls_left old.way
heard_fewer way.Resting old new hears is = (let now : steps_left new ≡ _ = ap steps_left hears in omega (arith, now))
heard_fewer {P} (way.Reading r) old new hears is = by_outcome hears.outcome hears.new_is
  where
    by_outcome : (o : ReadOutcome) → new ≡ after_read o old → steps_left new < 1 + request_steps + calls_left old.way
    by_outcome (read.Found lease) new_is = (let now : steps_left new ≡ request_steps + 0 = ap steps_left new_is in omega (arith, now))
    by_outcome (read.Expired at expiry) new_is = (let now : steps_left new ≡ 2 + 0 = ap steps_left new_is in omega (arith, now))
    by_outcome (read.Lost causes) new_is = (let now : steps_left new ≡ 2 + 0 = ap steps_left new_is in omega (arith, now))
heard_fewer (way.Ordered order) old new hears is = (let now : steps_left new ≡ _ = ap steps_left hears in omega (arith, now))
heard_fewer (way.Writing v) old new hears is = (let now : steps_left new ≡ _ = ap steps_left hears in omega (arith, now))
heard_fewer (way.Settling v) old new hears is = (let now : steps_left new ≡ _ = ap steps_left hears in omega (arith, now))
heard_fewer (way.Holding passes) old new hears is = (let now : steps_left new ≡ _ = ap steps_left hears in omega (arith, now))

over_own : (w : Wants) → or_over w ≡ turns.Own → ⊥
over_own wanted.Nothing e = cc
over_own wanted.Outside e = cc
over_own wanted.Windows e = cc

advance_by : {P : Type 0} (key : List ℕ) (old new : Visit P) (work : Work P) → turn_by work (wants old.way) ≡ turns.Own → Advances key old work new → steps_left new < work_left work + calls_left old.way
advance_by key old new Reading own advances = heard_fewer old.way old new advances refl
advance_by key old new Opening own advances = absurd (cc)
advance_by key old new (Serving tries program) own advances = absurd (cc)
advance_by key old new (Committed place again page) own advances = (let now : steps_left new ≡ 1 + calls_left old.way = ap steps_left advances.new_is in omega (arith, now))
advance_by key old new (Decided became) own advances = (let now : steps_left new ≡ 1 + calls_left old.way = ap steps_left advances in omega (arith, now))
advance_by key old new (Answered fate bytes) own advances = absurd (cc)
advance_by key old new (Left fate) own advances = absurd (over_own (wants old.way) own)

pub advance_fewer : {P : Type 0} (key : List ℕ) (old new : Visit P) → turn old ≡ turns.Own → Advances key old old.work new → steps_left new < steps_left old
advance_fewer key old new own advances = advance_by key old new old.work own advances

settled_same : (w : SessionWay) → calls_left (settled w) ≡ calls_left w
settled_same way.Resting = refl
settled_same (way.Reading r) = refl
settled_same (way.Ordered order) = refl
settled_same (way.Writing v) = refl
settled_same (way.Settling v) = refl
settled_same (way.Holding passes) = refl

no_output : (w : Wants) → or_own w ≡ turns.Output → ⊥
no_output wanted.Nothing e = cc
no_output wanted.Outside e = cc
no_output wanted.Windows e = cc

over_output : (w : Wants) → or_over w ≡ turns.Output → ⊥
over_output wanted.Nothing e = cc
over_output wanted.Outside e = cc
over_output wanted.Windows e = cc

departs_fewer : {P : Type 0} (w : Wants) (work : Work P) → turn_by work w ≡ turns.Output → work_left (departed work) < work_left work
departs_fewer w Reading out = absurd (no_output w out)
departs_fewer w Opening out = absurd (cc)
departs_fewer w (Serving tries program) out = absurd (cc)
departs_fewer w (Committed place again page) out = absurd (no_output w out)
departs_fewer w (Decided became) out = absurd (cc)
departs_fewer w (Answered fate bytes) out = omega arith
departs_fewer w (Left fate) out = absurd (over_output w out)

pub leave_fewer : {P : Type 0} (v : Visit P) → turn v ≡ turns.Output → steps_left (after_leaving v) < steps_left v
leave_fewer v out =
    let less = departs_fewer (wants v.way) v.work out in
    let same = settled_same v.way in
    omega (arith, less, same)

-- At the begin.

pub unread_few : {P : Type 0} (facts : VisitFacts) (counts : LinkCounts) (v : Visit P) → v ≡ begun facts counts way.Resting Opening → steps_left v ≤ 1435
unread_few facts counts v is = (let now : steps_left v ≡ request_steps + 0 = ap steps_left is in omega (arith, now))

pub read_few : {P : Type 0} (facts : VisitFacts) (counts : LinkCounts) (nonce : Version) (cookie : Cookie) (v : Visit P) → v ≡ begun facts counts (way.Reading (read_start facts.now nonce cookie)) Reading → AreHolders cookie.bricks → steps_left v ≤ 2476
read_few facts counts nonce cookie v is holders =
    let now : steps_left v ≡ _ = ap steps_left is in
    let calls = calls_begin ReadReply cookie.bricks in
    let few = holders.1 in
    omega (arith, now, calls, few)
