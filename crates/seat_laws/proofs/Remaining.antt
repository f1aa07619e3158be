-- Each step of a seat leaves fewer steps for it.
use Rattle.std.specs.Prelude.{IfSome}
use Rattle.std.proofs.Common.{arith, ◌≡◌, ◌≢◌, ◌⊎◌, ◌∙◌, ◌<◌, ◌≤◌, ◌+◌, ◌-◌, ◌*◌, ◌==◌, ◌&&◌, inl, inr, ℕ, Bool, true, false, nat_lt, if◌then◌else◌, List, [], ◌∷◌, ◌++◌, length, drop, Option, Some, None, refl, sym, ap, subst, length-append}
use Rattle.std.proofs.lemmas.Bool.{and_parts, ltb-true}
use Rattle.std.proofs.lemmas.List.{length-drop}
use Rattle.auction_calls.specs.declared.action.ActionCall.{ActionCall}
use Rattle.auction_site.specs.Actions.{steps_of as program_steps}
use Rattle.boot_core.specs.Boot.{BootValue, HasGrown}
use Rattle.boot_core.specs.declared.refusals.CommitRefusal.{CommitRefusal}
use Rattle.boot_core.specs.declared.refusals.CommitRefusal.TheVariants as commits
use Rattle.call_attempts.specs.Attempt.{AttemptValue, stop_of_attempt, wanted as asked_by}
use Rattle.call_attempts.specs.declared.stop.Stop.{Stop}
use Rattle.call_attempts.specs.declared.stop.Stop.TheVariants as stops
use Rattle.call_ticket.specs.declared.next.Answer.{Answer}
use Rattle.call_ticket.specs.declared.next.Next.{Next}
use Rattle.call_ticket.specs.declared.next.Next.TheVariants as next
use Rattle.container_core.specs.Container.{ContainerValue}
use Rattle.container_core.specs.declared.history.Event.{Event}
use Rattle.crash_base.specs.declared.numbers.ComponentNo.{ComponentNo}
use Rattle.crash_base.specs.declared.numbers.Place.{Place}
use Rattle.http_wire.specs.Taking.{settles, taken_of}
use Rattle.http_wire.specs.declared.taken.Head.{Head}
use Rattle.http_wire.specs.declared.taken.Taken.{Taken}
use Rattle.http_wire.specs.declared.taken.Taken.TheVariants as took
use Rattle.journal_model.specs.declared.entry.DoneText.{DoneText}
use Rattle.journal_model.specs.declared.entry.Entry.{Entry}
use Rattle.lane_link.specs.Links.{LaneLinkMakes, lane_link_tally}
use Rattle.lane_link.specs.Twins.{call_held}
use Rattle.lane_link.specs.declared.link.LaneLink.{LaneLink}
use Rattle.outside.specs.declared.link.LinkCounts.{LinkCounts}
use Rattle.request_decisions.specs.declared.decision.Decision.{Decision}
use Rattle.request_decisions.specs.declared.decision.Decision.TheVariants as decided
use Rattle.request_tries.specs.Serving.{TriesValue, closed, with_try}
use Rattle.request_tries.specs.Steps.{action_of, ended_at, from_of, front_at, outcome_by, refusal_of, try_ended}
use Rattle.request_tries.specs.declared.outcome.HistoryFront.{HistoryFront}
use Rattle.request_tries.specs.declared.outcome.TheConstants.{MAX_TRIES}
use Rattle.request_tries.specs.declared.outcome.TryCause.{TryCause}
use Rattle.request_tries.specs.declared.outcome.TryCause.TheVariants as cause
use Rattle.request_visit.specs.Going.{IsServedIn}
use Rattle.request_visit.specs.Stepping.{counted}
use Rattle.request_visit.specs.Visits.{begun, overloaded, turn as visit_turn, turn_by as visit_turn_by}
use Rattle.request_visit.specs.declared.facts.VisitFacts.{VisitFacts}
use Rattle.request_visit.specs.declared.visit.Turn.{Turn}
use Rattle.request_visit.specs.declared.visit.Turn.TheVariants as visit
use Rattle.request_visit.specs.declared.visit.Visit.{Visit}
use Rattle.request_visit.specs.declared.visit.Work.{Work}
use Rattle.request_visit.specs.declared.visit.Work.TheVariants.{Reading, Opening, Serving as ServingBy, Committed, Decided, Answered, Left}
use Rattle.send_windows.specs.Facts.{full_facts, open_count}
use Rattle.send_windows.specs.Windows.{WindowsValue, refused, taken}
use Rattle.send_windows.specs.declared.fact.TheConstants.{MAX_BRICKS}
use Rattle.session_cookie.specs.declared.cookie.Cookie.{Cookie}
use Rattle.session_lanes.specs.Lanes.{LanesState}
use Rattle.session_way.specs.Way.{passes_for, wants}
use Rattle.session_way.specs.Writing.{write_begun}
use Rattle.session_way.specs.declared.session_write.WriteOrder.{WriteOrder}
use Rattle.session_way.specs.declared.way.SessionWay.{SessionWay}
use Rattle.session_way.specs.declared.way.SessionWay.TheVariants as way
use Rattle.session_way.specs.declared.way.Wants.{Wants}
use Rattle.session_way.specs.declared.way.Wants.TheVariants as wanted
use Rattle.shepherd.specs.Going.{OpenGoesOn}
use Rattle.shepherd.specs.Shepherds.{resting_turn, stage_turn, turn, turn_by}
use Rattle.shepherd.specs.Steps.{IfOpen, OnVisit, admitted_visit, begun_by, facts_of, rested}
use Rattle.shepherd.specs.declared.shepherd.AskedCall.{AskedCall}
use Rattle.shepherd.specs.declared.shepherd.EndKind.{EndKind}
use Rattle.shepherd.specs.declared.shepherd.EndKind.TheVariants as ends
use Rattle.shepherd.specs.declared.shepherd.Shepherd.{Shepherd}
use Rattle.shepherd.specs.declared.shepherd.ShepherdTurn.{ShepherdTurn}
use Rattle.shepherd.specs.declared.shepherd.ShepherdTurn.TheVariants as turns
use Rattle.shepherd.specs.declared.shepherd.Stage.{Stage}
use Rattle.shepherd.specs.declared.shepherd.Stage.TheVariants.{Resting, Serving, Refusing, Over}
use Rattle.shepherd_steps.specs.Alone.{HasCall, Making, alone, alone_at, goes_alone, gone_alone, own_stage}
use Rattle.shepherd_steps.specs.Deciding.{decided_by}
use Rattle.shepherd_steps.specs.Events.{event_of}
use Rattle.shepherd_steps.specs.Inside.{Course, Ends, Goes, after_entry, after_refusal, after_stop, after_try, came_by, commits_by, inside, inside_of, stride, stride_by, untold, with_keeper}
use Rattle.shepherd_steps.specs.Leaving.{item_by, item_taken, output_of}
use Rattle.shepherd_steps.specs.Opening.{open_stage}
use Rattle.shepherd_steps.specs.Outside.{outside}
use Rattle.shepherd_steps.specs.Own.{own}
use Rattle.shepherd_steps.specs.Passes.{goes, windows_by, windows_step}
use Rattle.shepherd_steps.specs.Stepping.{Givens, World, event_at, step, step_inside, steps_in}
use Rattle.shepherd_steps.specs.Taking.{arrival_by, arrives_by, take_request, takes_by}
use Rattle.ssm_stub.specs.Reads.{read_start}
use Rattle.ssm_world.specs.declared.call.Call.{Call}
use Rattle.unhindered_requests.proofs.Ending.{leave_fewer, read_few, unread_few}
use Rattle.unhindered_requests.proofs.Fewer.{DoneInTime}
use Rattle.unhindered_requests.specs.CallsLeft.{calls_left}
use Rattle.unhindered_requests.specs.StepsLeft.{request_steps, steps_left, work_left}
use Rattle.seat_steps.specs.Going.{GoesOnAtSeat, IsAccepted}
use Rattle.seat_steps.specs.Replies.{lane_replies}
use Rattle.seat_steps.specs.Seats.{SeatGivens, SeatWorld, givens_in, making_by, readings_under, seat_step, seen_by, service_in}
use Rattle.seat_steps.specs.Twinned.{begun_there, twinned_by, way_in}
use Rattle.seat_steps.specs.declared.seat.Seat.{Seat}
use Rattle.seat_laws.proofs.Asking.{AskLaws, asked-holders}
use Rattle.seat_laws.proofs.FewerSteps.{FewerOrSame, inside-fewer, outside-fewer, own-fewer, windows-fewer}
use Rattle.seat_laws.proofs.Owing.{open-program, opening-so}
use Rattle.seat_laws.proofs.Passing.{AdmitsLaw, CourseServes, OpensLaw, admitted, by-windows-passes, course-passes, drawing, gone-passes, outside-passes, output-passes, request-passes, undrawn}
use Rattle.seat_laws.proofs.SeatsFit.{FitLaws, fits-meanwhile, fits-still, step-fits}
use Rattle.seat_laws.proofs.Twinning.{OpenOutside, at-turn, open-outside}
use Rattle.seat_laws.specs.Fitting.{IfServed, SeatFits, StageFits}
use Rattle.seat_laws.specs.StepsLeft.{HasTriesLeft, IsCounted, connection_left, seat_left, stage_left, steps_each}

-- By itself.

-- a connection that is as it was, or has fewer steps left
abbrev LessOrSame : Shepherd ActionCall → Shepherd ActionCall → Type 0
LessOrSame old new = (connection_left new < connection_left old) ⊎ (new ≡ old)

then-less : (a b c : Shepherd ActionCall) → LessOrSame a b → LessOrSame b c → LessOrSame a c
then-less a b c (inl one) (inl two) = inl (omega (arith, one, two))
then-less a b c (inl one) (inr same) = inl (subst (λ (x : Shepherd ActionCall). connection_left x < connection_left a) (sym same) one)
then-less a b c (inr same) (inl two) = inl (subst (λ (x : Shepherd ActionCall). connection_left c < connection_left x) same two)
then-less a b c (inr one) (inr two) = inr (two ∙ one)

at-most : (a b c : Shepherd ActionCall) → connection_left b < connection_left a → LessOrSame b c → connection_left c < connection_left a
at-most a b c less (inl more) = omega (arith, less, more)
at-most a b c less (inr same) = subst (λ (x : Shepherd ActionCall). connection_left x < connection_left a) (sym same) less

-- a stage that is as it was, or has fewer steps left
abbrev StageLess : Stage ActionCall → Stage ActionCall → Type 0
StageLess old new = (stage_left new < stage_left old) ⊎ (new ≡ old)

at-stage : (s : Shepherd ActionCall) (stage : Stage ActionCall) → StageLess s.stage stage → LessOrSame s (record s { stage = stage })
at-stage s stage (inl less) = inl (omega (arith, less))
at-stage s stage (inr same) = inr (ap (λ (x : Stage ActionCall). record s { stage = x }) same)

own-less : (key : List ℕ) (stage : Stage ActionCall) → StageLess stage (own_stage key stage)
own-less key Resting = inr refl
own-less key (Serving v call) = by (own-fewer key v) where
  by : FewerOrSame v (own key v) → StageLess (Serving v call) (Serving (own key v) call)
  by (inl less) = inl (omega (arith, less))
  by (inr same) = inr (ap (λ (x : Visit ActionCall). Serving x call) same)
own-less key (Refusing why bytes) = inr refl
own-less key (Over end) = inr refl

open-less : (m : Making ActionCall) (stage : Stage ActionCall) → OnVisit stage (λ (v : Visit ActionCall) (call : Option AskedCall). turn_by (visit_turn v) ≡ turns.Program) → StageLess stage (open_stage m.made m.worker stage)
unfolding open_stage
open-less m Resting at = inr refl
open-less m (Serving v None) at = inr refl
open-less m (Serving v (Some asked)) at =
    inl (let before : steps_left v ≡ request_steps + calls_left v.way = ap (λ (w : Work ActionCall). work_left w + calls_left v.way) (opening-so v.work (wants v.way) at) in omega (arith, before))
open-less m (Refusing why bytes) at = inr refl
open-less m (Over end) at = inr refl

item-less : (s : Shepherd ActionCall) → LessOrSame s (item_taken s).0
unfolding item_taken
item-less s = by s.stage refl where
  few : (close : Bool) → stage_left (rested close) ≤ 3
  few true = omega arith
  few false = omega arith

  by : (stage : Stage ActionCall) → s.stage ≡ stage → LessOrSame s (item_by s stage).0
  by Resting is = inr refl
  by (Serving v call) is = inl (let before : stage_left s.stage ≡ 4 + steps_left v = ap stage_left is in let after = few v.facts.close in omega (arith, before, after))
  by (Refusing why bytes) is = inr refl
  by (Over end) is = inr refl

alone-less : (m : Making ActionCall) (s : Shepherd ActionCall) → LessOrSame s (alone m s).0
unfolding alone
alone-less m s = by (turn s) refl where
  by : (t : ShepherdTurn) → turn s ≡ t → LessOrSame s (alone_at m t s).0
  by turns.Bytes is = inr refl
  by turns.Request is = inr refl
  by turns.Outside is = inr refl
  by turns.Windows is = inr refl
  by turns.Inside is = inr refl
  by turns.Program is = at-stage s (open_stage m.made m.worker s.stage) (open-less m s.stage (open-program s is))
  by turns.Own is = at-stage s (own_stage m.key s.stage) (own-less m.key s.stage)
  by turns.Output is = inr refl
  by turns.Item is = item-less s
  by (turns.Ended end) is = inr refl

gone-less : (m : Making ActionCall) (s : Shepherd ActionCall) → LessOrSame s (gone_alone m s).0
unfolding gone_alone
gone-less m s = then-less s (alone m s).0 (alone m (alone m s).0).0 (alone-less m s) (alone-less m (alone m s).0)

-- once it has gone on by itself, others are to step
abbrev pub RestLaw : Type 0
RestLaw = (m : Making ActionCall) (s : Shepherd ActionCall) → HasCall s.stage → goes_alone (turn (gone_alone m s).0) ≡ false

-- a connection that goes on by itself has fewer steps left once it did
alone-goes : RestLaw → (m : Making ActionCall) (s : Shepherd ActionCall) → HasCall s.stage → goes_alone (turn s) ≡ true → connection_left (gone_alone m s).0 < connection_left s
alone-goes rests m s called going = by (gone-less m s) where
  by : LessOrSame s (gone_alone m s).0 → connection_left (gone_alone m s).0 < connection_left s
  by (inl less) = less
  by (inr same) = absurd (let one = ap (λ (x : Shepherd ActionCall). goes_alone (turn x)) same in let other = rests m s called in cc)

-- At the turns of others.

-- whether a turn is one of a request that is open alone
abbrev of_request : ShepherdTurn → Bool
of_request turns.Bytes = false
of_request turns.Request = false
of_request turns.Outside = true
of_request turns.Windows = true
of_request turns.Inside = true
of_request turns.Program = true
of_request turns.Own = true
of_request turns.Output = false
of_request turns.Item = true
of_request (turns.Ended end) = false

rest-turn : (received : List ℕ) (ended : Bool) → of_request (resting_turn received ended) ≡ false
rest-turn received ended = by (settles (taken_of received)) ended (length received == 0) where
  by : (a b c : Bool) → of_request (if a then turns.Request else (if b then (if c then turns.Ended ends.Closed else turns.Ended ends.Cut) else turns.Bytes)) ≡ false
  by true b c = refl
  by false true true = refl
  by false true false = refl
  by false false c = refl

request-turn : (s : Shepherd ActionCall) (t : ShepherdTurn) → turn s ≡ t → of_request t ≡ true → OnVisit s.stage (λ (v : Visit ActionCall) (call : Option AskedCall). turn_by (visit_turn v) ≡ t)
request-turn s t is one = by s.stage (at-turn s t is (λ e. other (ap of_request e))) where
  other : false ≡ of_request t → ⊥
  other e = cc

  by : (stage : Stage ActionCall) → stage_turn stage s.received s.ended ≡ t → OnVisit stage (λ (v : Visit ActionCall) (call : Option AskedCall). turn_by (visit_turn v) ≡ t)
  by Resting e = absurd (other (sym (rest-turn s.received s.ended) ∙ ap of_request e))
  by (Serving v call) e = e
  by (Refusing why bytes) e = absurd (other (ap of_request e))
  by (Over end) e = absurd (other (ap of_request e))

wants-windows : (w : Work ActionCall) (x : Wants) → turn_by (visit_turn_by w x) ≡ turns.Windows → x ≡ wanted.Windows
wants-windows w wanted.Windows e = refl
wants-windows Reading wanted.Nothing e = absurd (cc)
wants-windows Reading wanted.Outside e = absurd (cc)
wants-windows Opening wanted.Nothing e = absurd (cc)
wants-windows Opening wanted.Outside e = absurd (cc)
wants-windows (ServingBy tries program) wanted.Nothing e = absurd (cc)
wants-windows (ServingBy tries program) wanted.Outside e = absurd (cc)
wants-windows (Committed place again shown) wanted.Nothing e = absurd (cc)
wants-windows (Committed place again shown) wanted.Outside e = absurd (cc)
wants-windows (Decided became) wanted.Nothing e = absurd (cc)
wants-windows (Decided became) wanted.Outside e = absurd (cc)
wants-windows (Answered fate bytes) wanted.Nothing e = absurd (cc)
wants-windows (Answered fate bytes) wanted.Outside e = absurd (cc)
wants-windows (Left fate) wanted.Nothing e = absurd (cc)
wants-windows (Left fate) wanted.Outside e = absurd (cc)

inside-turn : (t : Turn) → turn_by t ≡ turns.Inside → t ≡ visit.Inside
inside-turn visit.Outside e = absurd (cc)
inside-turn visit.Windows e = absurd (cc)
inside-turn visit.Inside e = refl
inside-turn visit.Program e = absurd (cc)
inside-turn visit.Own e = absurd (cc)
inside-turn visit.Output e = absurd (cc)
inside-turn visit.Over e = absurd (cc)

output-turn : (t : Turn) → turn_by t ≡ turns.Output → t ≡ visit.Output
output-turn visit.Outside e = absurd (cc)
output-turn visit.Windows e = absurd (cc)
output-turn visit.Inside e = absurd (cc)
output-turn visit.Program e = absurd (cc)
output-turn visit.Own e = absurd (cc)
output-turn visit.Output e = refl
output-turn visit.Over e = absurd (cc)

not-request : (t : Turn) → turn_by t ≡ turns.Request → ⊥
not-request visit.Outside e = cc
not-request visit.Windows e = cc
not-request visit.Inside e = cc
not-request visit.Program e = cc
not-request visit.Own e = cc
not-request visit.Output e = cc
not-request visit.Over e = cc

-- a request is taken where none is open, and the bytes settle it
at-rest : (s : Shepherd ActionCall) → turn s ≡ turns.Request → (s.stage ≡ Resting) × (settles (taken_of s.received) ≡ true)
at-rest s is = by s.stage (at-turn s turns.Request is (λ e. cc)) where
  settled : (a b c : Bool) → (if a then turns.Request else (if b then (if c then turns.Ended ends.Closed else turns.Ended ends.Cut) else turns.Bytes)) ≡ turns.Request → a ≡ true
  settled true b c e = refl
  settled false true true e = absurd (cc)
  settled false true false e = absurd (cc)
  settled false false c e = absurd (cc)

  by : (stage : Stage ActionCall) → stage_turn stage s.received s.ended ≡ turns.Request → (stage ≡ Resting) × (settles (taken_of s.received) ≡ true)
  by Resting e = (refl, settled (settles (taken_of s.received)) s.ended (length s.received == 0) e)
  by (Serving v call) e = absurd (not-request (visit_turn v) e)
  by (Refusing why bytes) e = absurd (cc)
  by (Over end) e = absurd (cc)

no-output : (received : List ℕ) (ended : Bool) → resting_turn received ended ≡ turns.Output → ⊥
no-output received ended = by (settles (taken_of received)) ended (length received == 0) where
  by : (a b c : Bool) → (if a then turns.Request else (if b then (if c then turns.Ended ends.Closed else turns.Ended ends.Cut) else turns.Bytes)) ≡ turns.Output → ⊥
  by true b c e = cc
  by false true true e = cc
  by false true false e = cc
  by false false c e = cc

output-less : (s : Shepherd ActionCall) → turn s ≡ turns.Output → stage_left (output_of s.stage).1 < stage_left s.stage
unfolding output_of
output-less s is = by s.stage (at-turn s turns.Output is (λ e. cc)) where
  by : (stage : Stage ActionCall) → stage_turn stage s.received s.ended ≡ turns.Output → stage_left (output_of stage).1 < stage_left stage
  by Resting e = absurd (no-output s.received s.ended e)
  by (Serving v call) e = (let less = leave_fewer v (output-turn (visit_turn v) e) in omega (arith, less))
  by (Refusing why last) e = omega arith
  by (Over end) e = absurd (cc)

-- the laws by which steps are counted
pub record LeftLaws : Type 0 where
  pub ask : AskLaws
  pub done : DoneInTime
  pub rests : RestLaw
  pub bytes : (bytes : List ℕ) (head : Head) → taken_of bytes ≡ took.Request head → (0 < head.len) × (head.len ≤ length bytes)

module _ (laws : LeftLaws) (g : SeatGivens) (seat : Seat) (w : SeatWorld) (its : IsCounted w.boot seat) (few : w.store.windows.w ≤ MAX_BRICKS) where
  abbrev s : Shepherd ActionCall
  s = seat.connection

  abbrev E : ShepherdTurn → Shepherd ActionCall
  E t = (event_at (givens_in g w) t (seen_by seat w)).0.connection

  abbrev link : LaneLink
  link = record { lanes = w.store; active = seat.twin }

  abbrev seen : LinkCounts
  seen = counted (lane_link_tally link)

  abbrev before : ℕ
  before = length s.received * steps_each

  outside-less : turn s ≡ turns.Outside → connection_left (E turns.Outside) < connection_left s
  outside-less is = by s.stage refl (open-outside s is) where
    by : (stage : Stage ActionCall) → s.stage ≡ stage → OpenOutside stage → before + stage_left (steps_in (outside lane_replies lane_link_tally) stage link).0 < before + stage_left s.stage
    by Resting at wants = absurd wants
    by (Serving v call) at wants =
        let less = outside-fewer lane_replies lane_link_tally v link wants in
        let here : stage_left s.stage ≡ 4 + steps_left v = ap stage_left at in
        omega (arith, less, here)
    by (Refusing why bytes) at wants = absurd wants
    by (Over end) at wants = absurd wants

  windows-less : turn s ≡ turns.Windows → connection_left (E turns.Windows) < connection_left s
  windows-less is = by s.stage refl (request-turn s turns.Windows is refl) where
    by : (stage : Stage ActionCall) → s.stage ≡ stage → OnVisit stage (λ (v : Visit ActionCall) (call : Option AskedCall). turn_by (visit_turn v) ≡ turns.Windows)
        → before + stage_left (steps_in windows_step stage w.store.windows).0 < before + stage_left s.stage
    by Resting at turned = absurd turned
    by (Serving v call) at turned =
        let less = windows-fewer v w.store.windows (wants-windows v.work (wants v.way) turned) few in
        let here : stage_left s.stage ≡ 4 + steps_left v = ap stage_left at in
        omega (arith, less, here)
    by (Refusing why bytes) at turned = absurd turned
    by (Over end) at turned = absurd turned

  inside-less : turn s ≡ turns.Inside → connection_left (E turns.Inside) < connection_left s
  inside-less is = by s.stage refl its.fits.stage its.tries (request-turn s turns.Inside is refl) where
    by : (stage : Stage ActionCall) → s.stage ≡ stage → StageFits w.boot stage → HasTriesLeft stage → OnVisit stage (λ (v : Visit ActionCall) (call : Option AskedCall). turn_by (visit_turn v) ≡ turns.Inside)
        → before + stage_left (steps_in (step_inside program_steps g.keeps) stage (w.boot, w.since)).0 < before + stage_left s.stage
    by Resting at fits tried turned = absurd turned
    by (Serving v call) at fits tried turned =
        let less = inside-fewer laws.done g.keeps v w.boot w.since its.fits.site fits.1 tried.1 (inside-turn (visit_turn v) turned) in
        let here : stage_left s.stage ≡ 4 + steps_left v = ap stage_left at in
        omega (arith, less, here)
    by (Refusing why bytes) at fits tried turned = absurd turned
    by (Over end) at fits tried turned = absurd turned

  out-less : turn s ≡ turns.Output → connection_left (E turns.Output) < connection_left s
  out-less is = (let less = output-less s is in omega (arith, less))

  -- a request that begins has 2,476 steps left at most
  begun-few : (head : Head) (d : Decision) → decided_by (readings_under g.key) w.boot.start.boot head ≡ d → stage_left (begun_by s.front seen head g.now (arrives_by (service_in g w) g.now d undrawn).0) ≤ 2480
  begun-few head (decided.Refused why) is = omega arith
  begun-few head (decided.Ordered o) is = drawn (drawing g w o).spent where
    asked : (cookie : Option Cookie) → o.cookie ≡ cookie → stage_left (admitted_visit (facts_of (admitted g w o) g.now s.front head) seen (admitted g w o) cookie) ≤ 2480
    asked None has =
        let facts : VisitFacts = facts_of (admitted g w o) g.now s.front head in
        let v : Visit ActionCall = begun facts seen way.Resting Opening in
        let most = unread_few facts seen v refl in
        omega (arith, most)
    asked (Some cookie) has =
        let facts : VisitFacts = facts_of (admitted g w o) g.now s.front head in
        let v : Visit ActionCall = begun facts seen (way.Reading (read_start facts.now (admitted g w o).read cookie)) Reading in
        let most = read_few facts seen (admitted g w o).read cookie v refl (asked-holders laws.ask g.key w.boot.start.boot head o cookie is has) in
        omega (arith, most)

    drawn : (spent : Option ℕ) → stage_left (begun_by s.front seen head g.now (arrival_by g.key (service_in g w).home o g.now (drawing g w o).drawn spent)) ≤ 2480
    drawn (Some serial) = omega arith
    drawn None = asked o.cookie refl

  request-less : turn s ≡ turns.Request → connection_left (E turns.Request) < connection_left s
  unfolding take_request
  request-less is = by (taken_of s.received) refl where
    three : stage_left s.stage ≡ 3
    three = ap stage_left (at-rest s is).0

    by : (t : Taken) → taken_of s.received ≡ t → connection_left (takes_by (service_in g w) seen g.now t s undrawn).0 < connection_left s
    by (took.Request head) at =
        let size = laws.bytes s.received head at in
        let shorter : length (drop head.len s.received) ≡ length s.received - head.len = length-drop head.len s.received in
        let begins = begun-few head ((service_in g w).decides head) refl in
        omega (arith, size.0, size.1, shorter, begins, three)
    by took.Bad at = omega (arith, three)
    by (took.TooLong len lines) at = omega (arith, three)
    by took.NoCoding at = omega (arith, three)
    by (took.BodyTooLong said) at = omega (arith, three)
    by took.More at = absurd (let settled = (at-rest s is).1 in let none = ap settles at in cc)

  -- A step leaves fewer, but of a connection that waits for bytes or has ended.
  pub step-less : turn s ≢ turns.Bytes → ((end : EndKind) → turn s ≢ turns.Ended end) → seat_left (seat_step g seat w).seat < seat_left seat
  unfolding seat_step step
  step-less some going = by (turn s) refl some going where
    behind : (t : ShepherdTurn) → connection_left (E t) < connection_left s → connection_left (gone_alone (making_by g) (E t)).0 < connection_left s
    behind t less = at-most s (E t) (gone_alone (making_by g) (E t)).0 less (gone-less (making_by g) (E t))

    by : (t : ShepherdTurn) → turn s ≡ t → t ≢ turns.Bytes → ((end : EndKind) → t ≢ turns.Ended end) → connection_left (gone_alone (making_by g) (E t)).0 < connection_left s
    by turns.Bytes is some going = absurd (some refl)
    by turns.Request is some going = behind turns.Request (request-less is)
    by turns.Outside is some going = behind turns.Outside (outside-less is)
    by turns.Windows is some going = behind turns.Windows (windows-less is)
    by turns.Inside is some going = behind turns.Inside (inside-less is)
    by turns.Program is some going = alone-goes laws.rests (making_by g) s its.called (ap goes_alone is)
    by turns.Own is some going = alone-goes laws.rests (making_by g) s its.called (ap goes_alone is)
    by turns.Output is some going = behind turns.Output (out-less is)
    by turns.Item is some going = alone-goes laws.rests (making_by g) s its.called (ap goes_alone is)
    by (turns.Ended end) is some going = absurd (going end refl)

-- A take of the windows gives passes to as many bricks behind a step as before.

windows-same : (v : Visit ActionCall) (windows : WindowsValue) → (windows_step v windows).1.w ≡ windows.w
unfolding windows_step
windows-same v windows = by v.way where
  took-so : (order : WriteOrder) (b : Bool)
      → (if b then (record v { way = way.Resting; work = overloaded (full_facts windows.facts) v.work }, refused windows)
      else goes v (way.Writing (write_begun order windows.wq (passes_for order windows))) (taken windows (passes_for order windows))).1.w ≡ windows.w
  took-so order true = refl
  took-so order false = refl

  by : (x : SessionWay) → (windows_by v x windows).1.w ≡ windows.w
  by way.Resting = refl
  by (way.Reading r) = refl
  by (way.Ordered order) = took-so order (nat_lt (open_count windows.facts) windows.wq)
  by (way.Writing write) = refl
  by (way.Settling write) = refl
  by (way.Holding passes) = refl

stage-windows : (stage : Stage ActionCall) (windows : WindowsValue) → (steps_in windows_step stage windows).1.w ≡ windows.w
stage-windows Resting windows = refl
stage-windows (Serving v call) windows = windows-same v windows
stage-windows (Refusing why bytes) windows = refl
stage-windows (Over end) windows = refl

begun-windows : (to : SessionWay) (twin : Option ℕ) (st : LanesState) → (twinned_by (call_held to) twin to st).store.windows ≡ st.windows
begun-windows to twin st = by (call_held to) twin where
  begins : (x : SessionWay) → (begun_there st x).windows ≡ st.windows
  begins way.Resting = refl
  begins (way.Reading r) = refl
  begins (way.Ordered order) = refl
  begins (way.Writing write) = refl
  begins (way.Settling write) = refl
  begins (way.Holding passes) = refl

  by : (o : Option Call) (twin : Option ℕ) → (twinned_by o twin to st).store.windows ≡ st.windows
  by None twin = refl
  by (Some held) None = begins to
  by (Some held) (Some number) = refl

event-windows : (g : SeatGivens) (seat : Seat) (w : SeatWorld) (t : ShepherdTurn) → (event_at (givens_in g w) t (seen_by seat w)).0.windows.w ≡ w.store.windows.w
event-windows g seat w turns.Bytes = refl
event-windows g seat w turns.Request = refl
event-windows g seat w turns.Outside = refl
event-windows g seat w turns.Windows = stage-windows seat.connection.stage w.store.windows
event-windows g seat w turns.Inside = refl
event-windows g seat w turns.Program = refl
event-windows g seat w turns.Own = refl
event-windows g seat w turns.Output = refl
event-windows g seat w turns.Item = refl
event-windows g seat w (turns.Ended end) = refl

pub step-windows : (g : SeatGivens) (seat : Seat) (w : SeatWorld) → (seat_step g seat w).world.store.windows.w ≡ w.store.windows.w
unfolding seat_step step
step-windows g seat w =
    let e : World ActionCall LaneLink = (event_at (givens_in g w) (turn seat.connection) (seen_by seat w)).0 in
    let mid : LanesState = record (e.link.lanes) { windows = e.windows } in
    ap (λ (x : WindowsValue). x.w) (begun-windows (way_in (gone_alone (making_by g) e.connection).0.stage) seat.twin mid)
    ∙ event-windows g seat w (turn seat.connection)

-- A request that is served still had fewer tries than it may have.

-- nothing is asked of what a request asks for
abbrev Asks : AskedCall → Type 0
Asks asked = Unit {0}

abbrev Tries : TriesValue → ActionCall → Type 0
Tries tries program = length tries.tries < MAX_TRIES

abbrev CourseTries : ActionCall → Course → Type 0
CourseTries program course = CourseServes Tries program course

try-tries : (now : HistoryFront) (s : TriesValue) (program : ActionCall) (at : Place) (why : TryCause) (repeats : Bool) → CourseTries program (after_try now s at why repeats)
try-tries now s program at why repeats = by (nat_lt (length s.tries + 1) MAX_TRIES && repeats) refl where
  by : (b : Bool) → (nat_lt (length s.tries + 1) MAX_TRIES && repeats) ≡ b
      → CourseTries program (if b then Goes (with_try s (try_ended now at why)) else Ends (ended_at now (from_of s at) (outcome_by why (s.tries ++ try_ended now at why ∷ [])) None))
  by true is =
      let few = ltb-true (length s.tries + 1) MAX_TRIES (and_parts (nat_lt (length s.tries + 1) MAX_TRIES) repeats is).0 in
      let more : length (s.tries ++ try_ended now at why ∷ []) ≡ length s.tries + 1 = length-append s.tries (try_ended now at why ∷ []) in
      omega (arith, few, more)
  by false is = tt

stop-tries : (now : HistoryFront) (s : TriesValue) (program : ActionCall) (at : Place) (repeats : Bool) (entered : List ComponentNo) (stop : Stop) → CourseTries program (after_stop now s at repeats entered stop)
stop-tries now s program at repeats entered (stops.Sentinel group down) = tt
stop-tries now s program at repeats entered (stops.Hung component fault) = tt
stop-tries now s program at repeats entered (stops.Raised component fault) = tt
stop-tries now s program at repeats entered (stops.Revoked shown) = try-tries now s program at (cause.Revoked shown) repeats

refusal-tries : (now : HistoryFront) (es : List Entry) (s : TriesValue) (program : ActionCall) (at : Place) (repeats : Bool) (refusal : CommitRefusal) → Tries s program
    → CourseTries program (after_refusal now es s at repeats refusal)
refusal-tries now es s program at repeats (commits.Revoked shown) few = try-tries now s program at (cause.Revoked shown) repeats
refusal-tries now es s program at repeats (commits.Conflict conflict) few = try-tries now s program at (cause.Conflict conflict.mark conflict.newest) true
refusal-tries now es s program at repeats (commits.Already place) few = tt
refusal-tries now es s program at repeats (commits.JournalFull full) few = tt
refusal-tries now es s program at repeats commits.KeeperFailed few = tt
refusal-tries now es s program at repeats commits.OutOfMemory few = few

commit-tries : (c : ContainerValue) (tries : TriesValue) (program : ActionCall) (a : AttemptValue) (done : DoneText) (refusal : Option CommitRefusal) → Tries tries program
    → CourseTries program (commits_by c tries a done refusal).course
commit-tries c tries program a done None few = tt
commit-tries c tries program a done (Some refusal) few =
    let after : ContainerValue = after_entry c a.ticket.call (action_of tries done) (Some refusal) in
    refusal-tries (front_at after) after.boot.entries (closed tries) program a.ticket.call.at a.repeats refusal few

stride-tries : (keeps : Bool) (c : ContainerValue) (tries : TriesValue) (program : ActionCall) → Tries tries program → CourseTries program (stride (program_steps program) keeps c tries tries.attempt).course
stride-tries keeps c tries program few = by tries.attempt where
  asks : List Answer → Next
  asks = program_steps program

  stopped : (a : AttemptValue) (stop : Stop) → CourseTries program (after_stop (front_at c) (closed tries) a.ticket.call.at a.repeats a.entered stop)
  stopped a stop = stop-tries (front_at c) (closed tries) program a.ticket.call.at a.repeats a.entered stop

  at : (a : AttemptValue) (x : Next) (o : Option Stop) → CourseTries program (stride_by asks keeps c tries a (came_by x o)).course
  at a (next.Enter component method) None = few
  at a (next.Enter component method) (Some stop) = stopped a stop
  at a (next.Read id) None = few
  at a (next.Read id) (Some stop) = stopped a stop
  at a (next.List table) None = few
  at a (next.List table) (Some stop) = stopped a stop
  at a (next.Put write) None = few
  at a (next.Put write) (Some stop) = stopped a stop
  at a next.Exit None = few
  at a next.Exit (Some stop) = stopped a stop
  at a (next.Done done) o = commit-tries c tries program a done (with_keeper (refusal_of c tries a done) a.ticket.call.writes keeps) few

  by : (o : Option AttemptValue) → CourseTries program (stride asks keeps c tries o).course
  by None = few
  by (Some a) = at a (asked_by asks a) (stop_of_attempt c.boot asks a)

inside-tries : (keeps : Bool) (v : Visit ActionCall) (boot : BootValue) (since : List Event) → IfServed Tries v.work → IfServed Tries (inside program_steps keeps v boot since).visit.work
unfolding inside
inside-tries keeps v boot since few = by v.work few where
  by : (w : Work ActionCall) → IfServed Tries w → IfServed Tries (inside_of program_steps keeps v w (untold boot since)).visit.work
  by Reading its = few
  by Opening its = few
  by (ServingBy tries program) its =
      let c : ContainerValue = untold boot since in
      let s = stride (program_steps program) keeps c tries tries.attempt in
      course-passes Asks Tries v program s.container s.course (stride-tries keeps c tries program its)
  by (Committed place again shown) its = few
  by (Decided became) its = few
  by (Answered fate bytes) its = few
  by (Left fate) its = few

opens-tries : OpensLaw Asks Tries
opens-tries g v asked asks = omega arith

admits-tries : (g : SeatGivens) (w : SeatWorld) → AdmitsLaw Asks Tries g w
admits-tries g w head o is = tt

module _ (g : SeatGivens) (seat : Seat) (w : SeatWorld) (its : HasTriesLeft seat.connection.stage) where
  abbrev from : Shepherd ActionCall
  from = seat.connection

  abbrev over : LaneLink
  over = record { lanes = w.store; active = seat.twin }

  abbrev to : ShepherdTurn → World ActionCall LaneLink
  to t = (event_at (givens_in g w) t (seen_by seat w)).0

  event-tries : (t : ShepherdTurn) → HasTriesLeft (to t).connection.stage
  event-tries turns.Bytes = its
  event-tries turns.Request = request-passes Asks Tries g w (admits-tries g w) from (counted (lane_link_tally over)) its
  event-tries turns.Outside = outside-passes Asks Tries from.stage over its
  event-tries turns.Windows = by-windows-passes Asks Tries from.stage w.store.windows its
  event-tries turns.Inside = go from.stage its where
    go : (stage : Stage ActionCall) → HasTriesLeft stage
        → (let x : Stage ActionCall × (BootValue × List Event) = steps_in (step_inside program_steps g.keeps) stage (w.boot, w.since) in HasTriesLeft x.0)
    go Resting tries = tt
    go (Serving v call) tries = (tries.0, inside-tries g.keeps v w.boot w.since tries.1)
    go (Refusing why bytes) tries = tt
    go (Over end) tries = tt
  event-tries turns.Program = its
  event-tries turns.Own = its
  event-tries turns.Output = output-passes Asks Tries from.stage its
  event-tries turns.Item = its
  event-tries (turns.Ended end) = its

  step-tries : HasTriesLeft (seat_step g seat w).seat.connection.stage
  unfolding seat_step step
  step-tries = gone-passes Asks Tries opens-tries g (to (turn from)).connection (event-tries (turn from))

-- the call of a request is there until its program is made, behind each step
abbrev pub CalledLaw : Type 0
CalledLaw = (g : Givens ActionCall LaneLink) (w : World ActionCall LaneLink) → HasCall w.connection.stage → HasCall (event_of g w).world.connection.stage × HasCall (step g w).world.connection.stage

step-called : CalledLaw → (g : SeatGivens) (seat : Seat) (w : SeatWorld) → HasCall seat.connection.stage → HasCall (seat_step g seat w).seat.connection.stage
unfolding seat_step
step-called called g seat w its = (called (givens_in g w) (seen_by seat w) its).1

-- The steps of a seat are counted behind each of its steps.
pub step-counted : FitLaws → CalledLaw → (g : SeatGivens) (seat : Seat) (w : SeatWorld) → IsCounted w.boot seat → IsCounted (seat_step g seat w).world.boot (seat_step g seat w).seat
step-counted fit called g seat w its = record {
  fits = step-fits fit g seat w its.fits;
  called = step-called called g seat w its.called;
  tries = step-tries g seat w its.tries;
}

pub counted-meanwhile : (old new : BootValue) (seat : Seat) → HasGrown old new → IsCounted old seat → IsCounted new seat
counted-meanwhile old new seat grown its = record { fits = fits-meanwhile old new seat grown its.fits; called = its.called; tries = its.tries }

pub counted-still : (boot : BootValue) (seat new : Seat) → new.connection.stage ≡ seat.connection.stage → IsCounted boot seat → IsCounted boot new
counted-still boot seat new same its = record {
  fits = fits-still boot seat new same its.fits;
  called = subst HasCall (sym same) its.called;
  tries = subst HasTriesLeft (sym same) its.tries;
}

-- The steps of a seat are counted that fits the boot of a container in which its connection goes on.
pub counted-going : (container : ContainerValue) (seat : Seat) → seat.connection.wants_memory ≡ false → GoesOnAtSeat container seat.connection → SeatFits container.boot seat → IsCounted container.boot seat
counted-going container seat sane goes fits = record { fits = fits; called = called seat.connection.stage open-so; tries = tries seat.connection.stage open-so } where
  open-so : IfOpen seat.connection.stage (OpenGoesOn IsAccepted program_steps LaneLinkMakes container)
  open-so = (goes.goes_on sane).opened

  called : (stage : Stage ActionCall) → IfOpen stage (OpenGoesOn IsAccepted program_steps LaneLinkMakes container) → HasCall stage
  called Resting h = tt
  called (Serving v call) h = h.asked
  called (Refusing why bytes) h = tt
  called (Over end) h = tt

  asked : (call : Option AskedCall) → IfSome call Asks
  asked None = tt
  asked (Some call) = tt

  served : (front : Place) (w : Work ActionCall) → IsServedIn IsAccepted program_steps container.boot front w → IfServed Tries w
  served front Reading h = tt
  served front Opening h = tt
  served front (ServingBy tries program) h = h.serving.few
  served front (Committed place again shown) h = tt
  served front (Decided became) h = tt
  served front (Answered fate bytes) h = tt
  served front (Left fate) h = tt

  tries : (stage : Stage ActionCall) → IfOpen stage (OpenGoesOn IsAccepted program_steps LaneLinkMakes container) → HasTriesLeft stage
  tries Resting h = tt
  tries (Serving v call) h = (asked call, served v.facts.front v.work h.goes_on.served)
  tries (Refusing why bytes) h = tt
  tries (Over end) h = tt
