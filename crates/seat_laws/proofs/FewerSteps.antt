-- Each step of a request leaves fewer steps for it, as a function.
use Rattle.std.specs.Prelude.{IfSome, IsSome, IsTrue, min}
use Rattle.std.proofs.Common.{arith, ◌≡◌, ◌⊎◌, ◌∙◌, ◌<◌, ◌≤◌, ◌+◌, ◌&&◌, inl, inr, ℕ, Bool, true, false, nat_lt, if◌then◌else◌, List, [], ◌∷◌, ◌++◌, length, map, Option, Some, None, Result, refl, sym, ap, subst, length-append}
use Rattle.std.proofs.lemmas.List.{length-map, length-take}
use Rattle.std.proofs.Math.Nat.{min-le_left}
use Rattle.auction_calls.specs.declared.action.ActionCall.{ActionCall}
use Rattle.auction_rows.specs.Parts.{site_parts}
use Rattle.auction_site.specs.Actions.{steps_of as program_steps}
use Rattle.boot_core.proofs.Ordering.{first_is}
use Rattle.boot_core.specs.Boot.{BootValue}
use Rattle.boot_core.specs.declared.refusals.CommitRefusal.{CommitRefusal}
use Rattle.boot_core.specs.declared.refusals.CommitRefusal.TheVariants as commits
use Rattle.call_attempts.specs.Attempt.{AttemptValue, Continues, IsUnderWay, answer_to, attempt_begun, rows_at_begin, stepped, stop_of_attempt, wanted as asked_by}
use Rattle.call_attempts.specs.declared.attempt.Stepped.TheVariants as coming
use Rattle.call_attempts.specs.declared.stop.Stop.{Stop}
use Rattle.call_attempts.specs.declared.stop.Stop.TheVariants as stops
use Rattle.call_ticket.specs.Runs.{run_of}
use Rattle.call_ticket.specs.declared.next.Answer.{Answer}
use Rattle.call_ticket.specs.declared.next.Next.{Next}
use Rattle.call_ticket.specs.declared.next.Next.TheVariants as next
use Rattle.container_core.specs.Container.{ContainerValue, events_of}
use Rattle.container_core.specs.declared.history.Event.{Event}
use Rattle.crash_base.specs.declared.numbers.BrickNo.{BrickNo}
use Rattle.crash_base.specs.declared.numbers.ComponentNo.{ComponentNo}
use Rattle.crash_base.specs.declared.numbers.Place.{Place}
use Rattle.crash_base.specs.declared.numbers.RequestNo.{RequestNo}
use Rattle.crash_base.specs.declared.rows.RowWrite.{RowWrite}
use Rattle.deployment.specs.declared.parts.Parts.{Parts}
use Rattle.journal_model.specs.Calls.{entry_of}
use Rattle.journal_model.specs.Conflicts.{conflict_of}
use Rattle.journal_model.specs.Limits.{entry_bytes, full_for}
use Rattle.journal_model.specs.Requests.{commit_of}
use Rattle.journal_model.specs.Stale.{stale_in}
use Rattle.journal_model.specs.declared.entry.DoneText.{DoneText}
use Rattle.journal_model.specs.declared.entry.Entry.{Entry}
use Rattle.journal_model.specs.declared.entry.Entry.TheVariants.{Commit}
use Rattle.outside.specs.Link.{Made, Tally}
use Rattle.outside.specs.declared.link.LinkEvent.{LinkEvent}
use Rattle.request_tries.specs.Ends.{done_of}
use Rattle.request_tries.specs.Serving.{TriesValue, closed, with_try}
use Rattle.request_tries.specs.Steps.{action_of, ended_at, from_of, front_at, outcome_by as outcome_of_try, refusal_of, try_ended}
use Rattle.request_tries.specs.declared.outcome.HistoryFront.{HistoryFront}
use Rattle.request_tries.specs.declared.outcome.TheConstants.{MAX_TRIES}
use Rattle.request_tries.specs.declared.outcome.TryCause.{TryCause}
use Rattle.request_tries.specs.declared.outcome.TryCause.TheVariants as cause
use Rattle.request_visit.specs.Ready.{ready_of}
use Rattle.request_visit.specs.Serving.{closing_of}
use Rattle.request_visit.specs.Stepping.{counted}
use Rattle.request_visit.specs.Visits.{or_over, or_own, overloaded, turn as visit_turn, turn_by as visit_turn_by}
use Rattle.request_visit.specs.declared.serving.Closing.{Closing}
use Rattle.request_visit.specs.declared.visit.Turn.TheVariants as visit
use Rattle.request_visit.specs.declared.visit.Visit.{Visit}
use Rattle.request_visit.specs.declared.visit.Work.{Work}
use Rattle.request_visit.specs.declared.visit.Work.TheVariants.{Reading, Opening, Serving as ServingBy, Committed, Decided, Answered, Left}
use Rattle.send_windows.specs.Facts.{full_facts, open_count, open_passes, round_from}
use Rattle.send_windows.specs.Passes.{hushed}
use Rattle.send_windows.specs.Windows.{WindowsValue, after_spend, refused, taken}
use Rattle.send_windows.specs.declared.fact.TheConstants.{MAX_BRICKS}
use Rattle.send_windows.specs.declared.pass.Pass.{Pass}
use Rattle.session_cookie.specs.declared.cookie.Cookie.{Cookie}
use Rattle.session_way.specs.Way.{StepsOutside, answer_held, outside_or, passes_for, wants}
use Rattle.session_way.specs.Writing.{passes_spent, write_begun}
use Rattle.session_way.specs.declared.session_read.ReadOutcome.{ReadOutcome}
use Rattle.session_way.specs.declared.session_read.ReadOutcome.TheVariants as read
use Rattle.session_way.specs.declared.session_write.WriteOrder.{WriteOrder}
use Rattle.session_way.specs.declared.way.SessionWay.{SessionWay}
use Rattle.session_way.specs.declared.way.SessionWay.TheVariants as way
use Rattle.session_way.specs.declared.way.Wants.{Wants}
use Rattle.session_way.specs.declared.way.Wants.TheVariants as wanted
use Rattle.shepherd_steps.specs.Inside.{Course, Ends, Goes, after_course, after_entry, after_refusal, after_stop, after_try, are_kept, came_by, commits_by, inside, inside_of, stride, stride_by, untold, with_keeper}
use Rattle.shepherd_steps.specs.Outside.{Replies, event_of_receive, event_of_send, heard_over, machine_after, outside, way_outside}
use Rattle.shepherd_steps.specs.Own.{heard_read, outcome_of_read, own, own_by, told_read}
use Rattle.shepherd_steps.specs.Passes.{goes, outcome_of, takes, windows_by, windows_step}
use Rattle.ssm_frames.specs.Spelling.{encode_of}
use Rattle.ssm_stub.specs.Ends.{bricks_of}
use Rattle.ssm_stub.specs.Reads.{read_ask, read_machine, read_next}
use Rattle.ssm_stub.specs.Runs.{Machine, Steps, call_of, fits, told_of}
use Rattle.ssm_stub.specs.Turns.{next_unless}
use Rattle.ssm_stub.specs.Writes.{WriteState, write_answer, write_machine, write_next, write_until}
use Rattle.ssm_stub.specs.declared.event.StubEvent.{StubEvent}
use Rattle.ssm_stub.specs.declared.event.StubEvent.TheVariants as event
use Rattle.ssm_stub.specs.declared.event.StubNext.{StubNext}
use Rattle.ssm_stub.specs.declared.event.StubNext.TheVariants.{Send, Receive, Ended}
use Rattle.ssm_stub.specs.declared.reply.WriteReply.{WriteReply}
use Rattle.ssm_stub.specs.declared.write_call.WriteRefusal.{WriteRefusal}
use Rattle.unhindered_requests.proofs.Calls.{calls_begin}
use Rattle.unhindered_requests.proofs.Ending.{after_told, calls_fewer, closed_fewer, overloaded_same, told_same}
use Rattle.unhindered_requests.proofs.Fewer.{DoneInTime, answered_fewer, begun_fewer, few_answers, some_left, tried_fewer}
use Rattle.unhindered_requests.specs.CallsLeft.{calls_left, calls_of, write_calls}
use Rattle.unhindered_requests.specs.StepsLeft.{page_steps, request_steps, steps_left, work_left}
use Rattle.unhindered_requests.specs.TriesLeft.{steps_of, tries_left}
use Rattle.seat_laws.proofs.Running.{action-runs}
use Rattle.seat_laws.specs.Fitting.{IfServed, IsOpenFor, ServesInBoot, WorksInBoot}

-- At the link.

-- any call may lead from any state of a link to any other
abbrev Any : {L : Type 0} → L → LinkEvent → L → Type 0
Any old call new = Unit {0}

untrue : false ≡ true → ⊥
untrue e = cc

made-any : {L : Type 0} (ask : List ℕ) (x : StubNext) (e : StubEvent) (old new : L) → IsTrue (fits x (told_of e)) → Made (Any {L = L}) old (call_of ask x e) new
made-any ask (Send brick) event.Sent old new fit = (new, tt, refl)
made-any ask (Send brick) (event.Frame bytes) old new fit = absurd (untrue fit)
made-any ask (Send brick) event.Silent old new fit = (new, tt, refl)
made-any ask (Receive brick) event.Sent old new fit = absurd (untrue fit)
made-any ask (Receive brick) (event.Frame bytes) old new fit = (new, tt, refl)
made-any ask (Receive brick) event.Silent old new fit = (new, tt, refl)
made-any ask Ended e old new fit = absurd (untrue fit)

sent-fits : (brick : BrickNo) (b : Bool) → IsTrue (fits (Send brick) (told_of (event_of_send b)))
sent-fits brick true = refl
sent-fits brick false = refl

came-fits : (brick : BrickNo) (o : Option (List ℕ)) → IsTrue (fits (Receive brick) (told_of (event_of_receive o)))
came-fits brick None = refl
came-fits brick (Some frame) = refl

heard-fits : {L : Type 0} (replies : Replies L) (ask : List ℕ) (x : StubNext) (link : L) → (x ≡ Ended → ⊥) → IsTrue (fits x (told_of (heard_over replies ask x link).0))
heard-fits replies ask (Send brick) link on = sent-fits brick (replies.sends link brick ask).0
heard-fits replies ask (Receive brick) link on = came-fits brick (replies.receives link brick).0
heard-fits replies ask Ended link on = absurd (on refl)

-- a machine that has not ended makes one step
steps-any : {S L : Type 0} (m : Machine S) (replies : Replies L) (ask : List ℕ) (s : S) (link : L) → (m.next s ≡ Ended → ⊥)
    → Steps m (Any {L = L}) ask s link (machine_after m replies ask s link).0 (machine_after m replies ask s link).1
steps-any {S} {L} m replies ask s link on =
    let heard : StubEvent × L = heard_over replies ask (m.next s) link in
    let fit : IsTrue (fits (m.next s) (told_of heard.0)) = heard-fits replies ask (m.next s) link on in
    record { event = heard.0; fitting = fit; made = made-any ask (m.next s) heard.0 link heard.1 fit; hears = refl }

-- what wants the link has not ended
goes-on : (rest : Wants) (x : StubNext) → (rest ≡ wanted.Outside → ⊥) → outside_or rest x ≡ wanted.Outside → x ≡ Ended → ⊥
goes-on rest x other out is = other (sym (ap (λ (y : StubNext). outside_or rest y) is) ∙ out)

nothing-not : wanted.Nothing ≡ wanted.Outside → ⊥
nothing-not e = cc

windows-not : wanted.Windows ≡ wanted.Outside → ⊥
windows-not e = cc

until-goes-on : (w : WriteState) → outside_or wanted.Nothing (write_until.next w) ≡ wanted.Outside → write_next w ≡ Ended → ⊥
until-goes-on w out is = by (write_answer w) out where
  by : (o : Option (Result Cookie WriteRefusal)) → outside_or wanted.Nothing (next_unless o (write_next w)) ≡ wanted.Outside → ⊥
  by (Some answer) e = nothing-not e
  by None e = goes-on wanted.Nothing (write_next w) nothing-not e is

way-steps : {L : Type 0} (replies : Replies L) (w : SessionWay) (link : L) → wants w ≡ wanted.Outside → StepsOutside (Any {L = L}) w link (way_outside replies w link).0 (way_outside replies w link).1
way-steps replies way.Resting link e = absurd (nothing-not e)
way-steps replies (way.Reading r) link e = (
  (machine_after read_machine replies (encode_of (read_ask r)) r link).0,
  refl,
  steps-any read_machine replies (encode_of (read_ask r)) r link (goes-on wanted.Nothing (read_next r) nothing-not e),
)
way-steps replies (way.Ordered order) link e = absurd (windows-not e)
way-steps replies (way.Writing w) link e = (
  (machine_after write_machine replies (encode_of w.write.ask) w.write link).0,
  refl,
  steps-any write_machine replies (encode_of w.write.ask) w.write link (until-goes-on w.write e),
)
way-steps replies (way.Settling w) link e = (
  (machine_after write_machine replies (encode_of w.write.ask) w.write link).0,
  refl,
  steps-any write_machine replies (encode_of w.write.ask) w.write link (goes-on wanted.Windows (write_next w.write) windows-not e),
)
way-steps replies (way.Holding passes) link e = absurd (windows-not e)

pub outside-fewer : {P L : Type 0} (replies : Replies L) (tally : L → Tally) (v : Visit P) (link : L) → wants v.way ≡ wanted.Outside → steps_left (outside replies tally v link).0 < steps_left v
unfolding outside
outside-fewer {P} {L} replies tally v link e =
    let after : SessionWay × L = way_outside replies v.way link in
    calls_fewer (Any {L = L}) v after.0 (counted (tally after.1)) link after.1 (way-steps replies v.way link e)

-- At the windows.

goes-fewer : {P : Type 0} (v : Visit P) (to : SessionWay) (windows : WindowsValue) → calls_left to < calls_left v.way → steps_left (goes v to windows).0 < steps_left v
goes-fewer {P} v to windows less =
    let told = after_told (outcome_of (answer_held v.way)) (record v { way = to }) in
    let same = told_same (outcome_of (answer_held v.way)) v.work in
    omega (arith, told, same, less)

taken-fewer : (order : WriteOrder) (windows : WindowsValue) → windows.w ≤ MAX_BRICKS → calls_left (way.Writing (write_begun order windows.wq (passes_for order windows))) < write_calls
taken-fewer order windows few =
    let free : List Pass = open_passes (round_from order.nonce.serial windows.facts) in
    let passes : List Pass = passes_for order windows in
    let size : length passes ≡ min windows.w (length free) = length-take windows.w free in
    let most = min-le_left windows.w (length free) in
    let bricks : length (bricks_of passes) ≡ length passes = length-map passes (λ (pass : Pass). pass.brick) in
    let calls = calls_begin WriteReply (bricks_of passes) in
    omega (arith, few, size, most, bricks, calls)

takes-fewer : {P : Type 0} (v : Visit P) (order : WriteOrder) (windows : WindowsValue) → v.way ≡ way.Ordered order → windows.w ≤ MAX_BRICKS → steps_left (takes v order windows).0 < steps_left v
takes-fewer {P} v order windows is few = by (nat_lt (open_count windows.facts) windows.wq) where
  before : calls_left v.way ≡ write_calls
  before = ap calls_left is

  by : (b : Bool) → steps_left (if b then (record v { way = way.Resting; work = overloaded (full_facts windows.facts) v.work }, refused windows)
      else goes v (way.Writing (write_begun order windows.wq (passes_for order windows))) (taken windows (passes_for order windows))).0 < steps_left v
  by true = (let same = overloaded_same (full_facts windows.facts) v.work in omega (arith, same, before))
  by false =
      goes-fewer v (way.Writing (write_begun order windows.wq (passes_for order windows))) (taken windows (passes_for order windows))
      (subst (λ (n : ℕ). calls_left (way.Writing (write_begun order windows.wq (passes_for order windows))) < n) (sym before) (taken-fewer order windows few))

no-windows : (x : StubNext) → outside_or wanted.Nothing x ≡ wanted.Windows → ⊥
no-windows (Send brick) e = cc
no-windows (Receive brick) e = cc
no-windows Ended e = cc

pub windows-fewer : {P : Type 0} (v : Visit P) (windows : WindowsValue) → wants v.way ≡ wanted.Windows → windows.w ≤ MAX_BRICKS → steps_left (windows_step v windows).0 < steps_left v
unfolding windows_step
windows-fewer {P} v windows e few = by v.way refl e where
  by : (w : SessionWay) → v.way ≡ w → wants w ≡ wanted.Windows → steps_left (windows_by v w windows).0 < steps_left v
  by way.Resting is e = absurd (cc)
  by (way.Reading r) is e = absurd (no-windows (read_next r) e)
  by (way.Ordered order) is e = takes-fewer v order windows is few
  by (way.Writing w) is e = absurd (no-windows (write_until.next w.write) e)
  by (way.Settling w) is e = goes-fewer v way.Resting (after_spend windows (passes_spent w)) (let before : calls_left v.way ≡ calls_of w.write.asks + 1 = ap calls_left is in omega (arith, before))
  by (way.Holding passes) is e = goes-fewer v way.Resting (after_spend windows (map hushed passes)) (let before : calls_left v.way ≡ 1 = ap calls_left is in omega (arith, before))

-- By itself.

-- a request that is as it was, or has fewer steps left
abbrev pub FewerOrSame : {P : Type 0} → Visit P → Visit P → Type 0
FewerOrSame old new = (steps_left new < steps_left old) ⊎ (new ≡ old)

reading-left : {P : Type 0} (v : Visit P) → v.work ≡ Reading → steps_left v ≡ 1 + request_steps + calls_left v.way
reading-left {P} v is = ap (λ (w : Work P). work_left w + calls_left v.way) is

told-fewer : {P : Type 0} (o : Option ReadOutcome) (v : Visit P) → v.work ≡ Reading → FewerOrSame v (told_read o v)
told-fewer None v is = inr refl
told-fewer (Some (read.Found lease)) v is = inl (let before = reading-left v is in omega (arith, before))
told-fewer (Some (read.Expired now expiry)) v is = inl (let before = reading-left v is in omega (arith, before))
told-fewer (Some (read.Lost causes)) v is = inl (let before = reading-left v is in omega (arith, before))

heard-fewer : {P : Type 0} (w : SessionWay) (v : Visit P) → v.work ≡ Reading → FewerOrSame v (heard_read w v)
heard-fewer (way.Reading r) v is = told-fewer (outcome_of_read r) v is
heard-fewer way.Resting v is = inl (let before = reading-left v is in omega (arith, before))
heard-fewer (way.Ordered order) v is = inl (let before = reading-left v is in omega (arith, before))
heard-fewer (way.Writing w) v is = inl (let before = reading-left v is in omega (arith, before))
heard-fewer (way.Settling w) v is = inl (let before = reading-left v is in omega (arith, before))
heard-fewer (way.Holding passes) v is = inl (let before = reading-left v is in omega (arith, before))

pub own-fewer : {P : Type 0} (key : List ℕ) (v : Visit P) → FewerOrSame v (own key v)
unfolding own
own-fewer {P} key v = by v.work refl where
  two : (w : Work P) → v.work ≡ w → work_left w ≡ 2 → steps_left v ≡ 2 + calls_left v.way
  two w is left = ap (λ (x : Work P). work_left x + calls_left v.way) is ∙ ap (λ (n : ℕ). n + calls_left v.way) left

  by : (w : Work P) → v.work ≡ w → FewerOrSame v (own_by key v w)
  by Reading is = heard-fewer v.way v is
  by Opening is = inr refl
  by (ServingBy tries program) is = inr refl
  by (Committed place again shown) is = inl (let before = two (Committed place again shown) is refl in omega (arith, before))
  by (Decided became) is = inl (let before = two (Decided became) is refl in omega (arith, before))
  by (Answered fate bytes) is = inr refl
  by (Left fate) is = inr refl

-- In the container.

-- what a step comes to leaves fewer steps in the container than so many, where the request is served still
abbrev CourseLeaves : ℕ → Course → Type 0
CourseLeaves n (Goes tries) = tries_left tries < n
CourseLeaves n (Ends end) = Unit {0}

try-leaves : (now : HistoryFront) (s : TriesValue) (a : AttemptValue) (at : Place) (why : TryCause) (repeats : Bool) → CourseLeaves (steps_of (length s.tries) (Some a)) (after_try now (closed s) at why repeats)
try-leaves now s a at why repeats = by (nat_lt (length s.tries + 1) MAX_TRIES && repeats) where
  by : (b : Bool) → CourseLeaves (steps_of (length s.tries) (Some a))
      (if b then Goes (with_try (closed s) (try_ended now at why)) else Ends (ended_at now (from_of (closed s) at) (outcome_of_try why (s.tries ++ try_ended now at why ∷ [])) None))
  by true = tried_fewer s (with_try (closed s) (try_ended now at why)) (try_ended now at why) a refl
  by false = tt

stop-leaves : (now : HistoryFront) (s : TriesValue) (a : AttemptValue) (at : Place) (repeats : Bool) (entered : List ComponentNo) (stop : Stop) → CourseLeaves (steps_of (length s.tries) (Some a)) (after_stop now (closed s) at repeats entered stop)
stop-leaves now s a at repeats entered (stops.Sentinel group down) = tt
stop-leaves now s a at repeats entered (stops.Hung component fault) = tt
stop-leaves now s a at repeats entered (stops.Raised component fault) = tt
stop-leaves now s a at repeats entered (stops.Revoked shown) = try-leaves now s a at (cause.Revoked shown) repeats

refusal-leaves : (now : HistoryFront) (es : List Entry) (s : TriesValue) (a : AttemptValue) (at : Place) (repeats : Bool) (refusal : CommitRefusal) → (refusal ≡ commits.OutOfMemory → ⊥)
    → CourseLeaves (steps_of (length s.tries) (Some a)) (after_refusal now es (closed s) at repeats refusal)
refusal-leaves now es s a at repeats (commits.Revoked shown) told = try-leaves now s a at (cause.Revoked shown) repeats
refusal-leaves now es s a at repeats (commits.Conflict conflict) told = try-leaves now s a at (cause.Conflict conflict.mark conflict.newest) true
refusal-leaves now es s a at repeats (commits.Already place) told = tt
refusal-leaves now es s a at repeats (commits.JournalFull full) told = tt
refusal-leaves now es s a at repeats commits.KeeperFailed told = tt
refusal-leaves now es s a at repeats commits.OutOfMemory told = absurd (told refl)

commit-leaves : (c : ContainerValue) (s : TriesValue) (a : AttemptValue) (done : DoneText) (o : Option CommitRefusal) → (o ≡ Some commits.OutOfMemory → ⊥) → CourseLeaves (steps_of (length s.tries) (Some a)) (commits_by c s a done o).course
commit-leaves c s a done None told = tt
commit-leaves c s a done (Some refusal) told =
    let after : ContainerValue = after_entry c a.ticket.call (action_of s done) (Some refusal) in
    refusal-leaves (front_at after) after.boot.entries s a a.ticket.call.at a.repeats refusal (λ is. told (ap (λ (r : CommitRefusal). Some r) is))

-- no commit is refused for want of memory, by the boot or by the keeper
boot-told : (c : ContainerValue) (s : TriesValue) (a : AttemptValue) (done : DoneText) → refusal_of c s a done ≡ Some commits.OutOfMemory → ⊥
boot-told c s a done is =
    let es : List Entry = c.boot.entries in
    (first_is (commit_of es a.ticket.call.request) (stale_in es a.ticket.call.touched) (conflict_of es a.ticket.call)
    (full_for c.boot.start.limits es 1 (entry_bytes (Commit (entry_of a.ticket.call (action_of s done))))) commits.OutOfMemory).0 is

keeper-told : (o : Option CommitRefusal) (writes : List RowWrite) (keeps : Bool) → (o ≡ Some commits.OutOfMemory → ⊥) → with_keeper o writes keeps ≡ Some commits.OutOfMemory → ⊥
keeper-told (Some refusal) writes keeps told is = told is
keeper-told None writes keeps told is = by (are_kept writes keeps) is where
  by : (b : Bool) → (if b then None else Some commits.KeeperFailed) ≡ Some commits.OutOfMemory → ⊥
  by true e = cc
  by false e = cc

module _ (law : DoneInTime) (asks : List Answer → Next) (keeps : Bool) (c : ContainerValue) (s : TriesValue) (runs : (a : AttemptValue) → IsSome (run_of c.boot.start.deployment asks (rows_at_begin c.boot a.ticket.call))) where
  went-leaves : (a : AttemptValue) → IsUnderWay c.boot asks a → (x : Next) → asked_by asks a ≡ x → Continues x
      → CourseLeaves (steps_of (length s.tries) (Some a)) (Goes (record s { attempt = Some (stepped c.boot a (asked_by asks a)) }))
  went-leaves a way x is there =
      let goes : Continues (asked_by asks a) = subst (λ (y : Next). Continues y) (sym is) there in
      answered_fewer (length s.tries) a (stepped c.boot a (asked_by asks a)) (few_answers law c asks a (runs a) way goes)
      (length-append a.answers (answer_to (rows_at_begin c.boot a.ticket.call) a.ticket.call (asked_by asks a) ∷ []))

  open-leaves : (a : AttemptValue) → IsUnderWay c.boot asks a → (x : Next) → asked_by asks a ≡ x → (o : Option Stop) → CourseLeaves (steps_of (length s.tries) (Some a)) (stride_by asks keeps c s a (came_by x o)).course
  open-leaves a way x is o = at x is o where
    stopped : (stop : Stop) → CourseLeaves (steps_of (length s.tries) (Some a)) (stride_by asks keeps c s a (coming.Stopped stop)).course
    stopped stop = stop-leaves (front_at c) s a a.ticket.call.at a.repeats a.entered stop

    at : (x : Next) → asked_by asks a ≡ x → (o : Option Stop) → CourseLeaves (steps_of (length s.tries) (Some a)) (stride_by asks keeps c s a (came_by x o)).course
    at (next.Enter component method) is None = went-leaves a way (next.Enter component method) is tt
    at (next.Enter component method) is (Some stop) = stopped stop
    at (next.Read id) is None = went-leaves a way (next.Read id) is tt
    at (next.Read id) is (Some stop) = stopped stop
    at (next.List table) is None = went-leaves a way (next.List table) is tt
    at (next.List table) is (Some stop) = stopped stop
    at (next.Put write) is None = went-leaves a way (next.Put write) is tt
    at (next.Put write) is (Some stop) = stopped stop
    at next.Exit is None = went-leaves a way next.Exit is tt
    at next.Exit is (Some stop) = stopped stop
    at (next.Done done) is o =
        commit-leaves c s a done (with_keeper (refusal_of c s a done) a.ticket.call.writes keeps)
        (keeper-told (refusal_of c s a done) a.ticket.call.writes keeps (boot-told c s a done))

  stride-leaves : length s.tries < MAX_TRIES → (o : Option AttemptValue) → IfSome o (λ (a : AttemptValue). IsUnderWay c.boot asks a) → CourseLeaves (steps_of (length s.tries) o) (stride asks keeps c s o).course
  stride-leaves few None way = begun_fewer (length s.tries) (attempt_begun s.request s.worker (record { 0 = length c.boot.entries })) few
  stride-leaves few (Some a) way = open-leaves a way (asked_by asks a) refl (stop_of_attempt c.boot asks a)

course-fewer : {P : Type 0} (v : Visit P) (program : P) (c : ContainerValue) (n : ℕ) (course : Course) → steps_left v ≡ n + page_steps + calls_left v.way → 1 ≤ n → CourseLeaves n course
    → steps_left (after_course v program c course) < steps_left v
course-fewer v program c n (Goes tries) is some less = omega (arith, is, less)
course-fewer {P} v program c n (Ends end) is some less =
    let closing : Closing = closing_of v.facts v.lease (events_of c) end in
    let here : Visit P = record v { holds = closing.holds } in
    let most = closed_fewer (λ again. ready_of v.facts v.lease (done_of (events_of c) end)) end.outcome here in
    omega (arith, is, some, most)

own-not : (x : Wants) → or_own x ≡ visit.Inside → ⊥
own-not wanted.Nothing e = cc
own-not wanted.Outside e = cc
own-not wanted.Windows e = cc

over-not : (x : Wants) → or_over x ≡ visit.Inside → ⊥
over-not wanted.Nothing e = cc
over-not wanted.Outside e = cc
over-not wanted.Windows e = cc

under-way : (boot : BootValue) (program : ActionCall) (request : RequestNo) (o : Option AttemptValue) → IfSome o (IsOpenFor boot program request) → IfSome o (λ (a : AttemptValue). IsUnderWay boot (program_steps program) a)
under-way boot program request None opened = tt
under-way boot program request (Some a) opened = opened.way

-- a request that is served in a boot of the site has fewer steps left behind a step in the container
pub inside-fewer : DoneInTime → (keeps : Bool) (v : Visit ActionCall) (boot : BootValue) (since : List Event) → boot.start.deployment ≡ site_parts → WorksInBoot boot v.work
    → IfServed (λ (tries : TriesValue) (program : ActionCall). length tries.tries < MAX_TRIES) v.work → visit_turn v ≡ visit.Inside
    → steps_left (inside program_steps keeps v boot since).visit < steps_left v
unfolding inside
inside-fewer law keeps v boot since site fits tried turned = by v.work refl fits tried turned where
  served : (tries : TriesValue) (program : ActionCall) → v.work ≡ ServingBy tries program → ServesInBoot boot tries program → length tries.tries < MAX_TRIES
      → steps_left (inside_of program_steps keeps v (ServingBy tries program) (untold boot since)).visit < steps_left v
  served tries program is serves few =
      let c : ContainerValue = untold boot since in
      let runs : (a : AttemptValue) → IsSome (run_of boot.start.deployment (program_steps program) (rows_at_begin boot a.ticket.call)) =
      λ a. subst (λ (p : Parts). IsSome (run_of p (program_steps program) (rows_at_begin boot a.ticket.call))) (sym site) (action-runs program (rows_at_begin boot a.ticket.call) serves.action) in
      let to = stride (program_steps program) keeps c tries tries.attempt in
      course-fewer v program to.container (tries_left tries) to.course (ap (λ (w : Work ActionCall). work_left w + calls_left v.way) is) (some_left tries tries.attempt few)
      (stride-leaves law (program_steps program) keeps c tries runs few tries.attempt (under-way boot program tries.request tries.attempt serves.attempt))

  by : (w : Work ActionCall) → v.work ≡ w → WorksInBoot boot w → IfServed (λ (tries : TriesValue) (program : ActionCall). length tries.tries < MAX_TRIES) w → visit_turn_by w (wants v.way) ≡ visit.Inside
      → steps_left (inside_of program_steps keeps v w (untold boot since)).visit < steps_left v
  by Reading is its few e = absurd (own-not (wants v.way) e)
  by Opening is its few e = absurd (cc)
  by (ServingBy tries program) is its few e = served tries program is its few
  by (Committed place again shown) is its few e = absurd (own-not (wants v.way) e)
  by (Decided became) is its few e = absurd (cc)
  by (Answered fate bytes) is its few e = absurd (cc)
  by (Left fate) is its few e = absurd (over-not (wants v.way) e)
