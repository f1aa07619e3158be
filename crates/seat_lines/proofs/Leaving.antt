-- What a step of a connection puts out, and the items that it gives, by the stage of the connection.
use Rattle.std.proofs.Common.{◌≡◌, ◌==◌, ℕ, Bool, true, false, List, [], ◌∷◌, ◌++◌, length, map, Option, Some, None, refl, sym, ap, subst, ◌∙◌, append_assoc, length-append, arith}
use Rattle.std.proofs.lemmas.List.{append-nil}
use Rattle.std.specs.Prelude.{nat_lt, if◌then◌else◌}
use Rattle.auction_calls.specs.declared.action.ActionCall.{ActionCall}
use Rattle.boot_core.specs.Boot.{BootValue}
use Rattle.call_ticket.specs.declared.next.Answer.{Answer}
use Rattle.call_ticket.specs.declared.next.Next.{Next}
use Rattle.container_core.specs.Container.{ContainerValue, events_of}
use Rattle.container_core.specs.declared.history.Event.{Event}
use Rattle.crash_base.specs.declared.numbers.Moment.{Moment}
use Rattle.crash_base.specs.declared.numbers.Place.{Place}
use Rattle.http_wire.specs.Taking.{settles, taken_of}
use Rattle.http_wire.specs.declared.taken.Head.{Head}
use Rattle.http_wire.specs.declared.taken.Taken.{Taken}
use Rattle.http_wire.specs.declared.taken.Taken.TheVariants as took
use Rattle.lane_link.specs.declared.link.LaneLink.{LaneLink}
use Rattle.outcome_items.specs.declared.item.Item.{Item}
use Rattle.outside.specs.Link.{Tally}
use Rattle.outside.specs.declared.link.LinkCounts.{LinkCounts}
use Rattle.request_intake.specs.declared.intake.Arrival.{Arrival}
use Rattle.request_intake.specs.declared.intake.Arrival.TheVariants as arrives
use Rattle.request_visit.specs.Advancing.{departed, response_in}
use Rattle.request_visit.specs.Serving.{closing_of}
use Rattle.request_visit.specs.Stepping.{counted, left_so}
use Rattle.request_visit.specs.Visits.{after_outcome, fate_missed, fate_written, or_over, or_own, overloaded, turn as visit_turn, turn_by as visit_turn_by, with_fate}
use Rattle.request_visit.specs.declared.ready.Ready.TheVariants.{Respond, Write}
use Rattle.request_visit.specs.declared.serving.Closed.{Closed}
use Rattle.request_visit.specs.declared.serving.Closed.TheVariants as closes
use Rattle.request_visit.specs.declared.serving.Closing.{Closing}
use Rattle.request_visit.specs.declared.visit.Fate.{Fate}
use Rattle.request_visit.specs.declared.visit.Turn.{Turn}
use Rattle.request_visit.specs.declared.visit.Turn.TheVariants as visit
use Rattle.request_visit.specs.declared.visit.Visit.{Visit}
use Rattle.request_visit.specs.declared.visit.Work.{Work}
use Rattle.request_visit.specs.declared.visit.Work.TheVariants.{Reading, Opening, Serving as ServingBy, Committed, Decided, Answered, Left}
use Rattle.send_windows.specs.Facts.{full_facts, open_count}
use Rattle.send_windows.specs.Passes.{hushed}
use Rattle.send_windows.specs.Windows.{WindowsValue, after_spend, refused, taken}
use Rattle.send_windows.specs.declared.fact.WindowFact.{WindowFact}
use Rattle.session_cookie.specs.declared.cookie.Cookie.{Cookie}
use Rattle.session_way.specs.Way.{answer_held, passes_for, wants}
use Rattle.session_way.specs.Writing.{passes_spent, write_begun}
use Rattle.session_way.specs.declared.session_read.ReadOutcome.{ReadOutcome}
use Rattle.session_way.specs.declared.session_read.ReadOutcome.TheVariants as read
use Rattle.session_way.specs.declared.session_write.WriteOrder.{WriteOrder}
use Rattle.session_way.specs.declared.session_write.WriteOutcome.{WriteOutcome}
use Rattle.session_way.specs.declared.session_write.WriteOutcome.TheVariants as outcome
use Rattle.session_way.specs.declared.way.SessionWay.{SessionWay}
use Rattle.session_way.specs.declared.way.SessionWay.TheVariants as way
use Rattle.session_way.specs.declared.way.Wants.{Wants}
use Rattle.session_way.specs.declared.way.Wants.TheVariants as wanted
use Rattle.shepherd.specs.Shepherds.{resting_turn, stage_turn, turn, turn_by}
use Rattle.shepherd.specs.Standing.{has_left}
use Rattle.shepherd.specs.Steps.{admitted_visit, begun_by, facts_of, rested}
use Rattle.shepherd.specs.declared.shepherd.EndKind.TheVariants as ends
use Rattle.shepherd.specs.declared.shepherd.Shepherd.{Shepherd}
use Rattle.shepherd.specs.declared.shepherd.ShepherdTurn.{ShepherdTurn}
use Rattle.shepherd.specs.declared.shepherd.ShepherdTurn.TheVariants as turns
use Rattle.shepherd.specs.declared.shepherd.Stage.{Stage}
use Rattle.shepherd.specs.declared.shepherd.Stage.TheVariants.{Resting, Serving, Refusing, Over}
use Rattle.shepherd_steps.specs.Alone.{Making, alone, alone_at, gone_alone, own_stage}
use Rattle.shepherd_steps.specs.Inside.{Course, Goes, Ends, after_course, inside, inside_of, stride, untold}
use Rattle.shepherd_steps.specs.Leaving.{item_by, item_taken, items_in, output_of}
use Rattle.shepherd_steps.specs.Opening.{open_stage}
use Rattle.shepherd_steps.specs.Outside.{Replies, outside}
use Rattle.shepherd_steps.specs.Own.{heard_read, outcome_of_read, own, own_by, told_read}
use Rattle.shepherd_steps.specs.Passes.{goes, outcome_of, takes, windows_by, windows_step}
use Rattle.shepherd_steps.specs.Stepping.{Givens, World, event_at, step, step_inside, steps_in}
use Rattle.shepherd_steps.specs.Taking.{Counts, Service, arrives_by, take_request, takes_by}
use Rattle.seat_steps.specs.Seats.{SeatGivens, SeatOutcome, SeatWorld, givens_in, seat_step, seen_by}
use Rattle.seat_steps.specs.declared.seat.Seat.{Seat}
use Rattle.seat_lines.specs.Items.{outs_at, puts_out}
use Rattle.seat_lines.specs.Lines.{moves}
use Rattle.seat_lines.specs.PuttingOut.{IsSent}

-- a step of others with a request changes nothing of whether its response has left

over_left : {P : Type 0} (full : List WindowFact) (w : Work P) → has_left (overloaded full w) ≡ has_left w
over_left full Reading = refl
over_left full Opening = refl
over_left full (ServingBy tries program) = refl
over_left full (Committed place again shown) = refl
over_left full (Decided became) = refl
over_left full (Answered fate bytes) = refl
over_left full (Left fate) = refl

fate_left : {P : Type 0} (change : Fate → Fate) (w : Work P) → has_left (with_fate change w) ≡ has_left w
fate_left change Reading = refl
fate_left change Opening = refl
fate_left change (ServingBy tries program) = refl
fate_left change (Committed place again shown) = refl
fate_left change (Decided became) = refl
fate_left change (Answered fate bytes) = refl
fate_left change (Left fate) = refl

pub told_left : {P : Type 0} (o : Option WriteOutcome) (v : Visit P) → has_left (after_outcome o v).work ≡ has_left v.work
told_left None v = refl
told_left (Some (outcome.Written cookie)) v = fate_left fate_written v.work
told_left (Some (outcome.Missed causes)) v = fate_left (fate_missed causes) v.work

goes_left : {P : Type 0} (v : Visit P) (to : SessionWay) (windows : WindowsValue) → has_left (goes v to windows).0.work ≡ has_left v.work
goes_left v to windows = told_left (outcome_of (answer_held v.way)) (record v { way = to })

takes_left : {P : Type 0} (v : Visit P) (order : WriteOrder) (windows : WindowsValue) → has_left (takes v order windows).0.work ≡ has_left v.work
takes_left {P} v order windows = by (nat_lt (open_count windows.facts) windows.wq) where
  by : (few : Bool)
      → has_left (if few then (record v { way = way.Resting; work = overloaded (full_facts windows.facts) v.work }, refused windows)
      else goes v (way.Writing (write_begun order windows.wq (passes_for order windows))) (taken windows (passes_for order windows))).0.work ≡ has_left v.work
  by true = over_left (full_facts windows.facts) v.work
  by false = goes_left v (way.Writing (write_begun order windows.wq (passes_for order windows))) (taken windows (passes_for order windows))

way_left : {P : Type 0} (v : Visit P) (w : SessionWay) (windows : WindowsValue) → has_left (windows_by v w windows).0.work ≡ has_left v.work
way_left v way.Resting windows = refl
way_left v (way.Reading r) windows = refl
way_left v (way.Ordered order) windows = takes_left v order windows
way_left v (way.Writing w) windows = refl
way_left v (way.Settling w) windows = goes_left v way.Resting (after_spend windows (passes_spent w))
way_left v (way.Holding passes) windows = goes_left v way.Resting (after_spend windows (map hushed passes))

outside_left : (replies : Replies LaneLink) (tally : LaneLink → Tally) (v : Visit ActionCall) (link : LaneLink) → has_left (outside replies tally v link).0.work ≡ has_left v.work
unfolding outside
outside_left replies tally v link = refl

windows_left : (v : Visit ActionCall) (windows : WindowsValue) → has_left (windows_step v windows).0.work ≡ has_left v.work
unfolding windows_step
windows_left v windows = way_left v v.way windows

closed_late : {P : Type 0} (c : Closed) (v : Visit P) → has_left (left_so c v).work ≡ false
closed_late (closes.Page place again (Respond bytes)) v = refl
closed_late (closes.Page place again (Write order shown)) v = refl
closed_late (closes.Other became) v = refl

course_late : {P : Type 0} (v : Visit P) (program : P) (c : ContainerValue) (to : Course) → has_left (after_course v program c to).work ≡ false
course_late v program c (Goes tries) = refl
course_late v program c (Ends end) =
    let closing : Closing = closing_of v.facts v.lease (events_of c) end in closed_late closing.closed (record v { holds = closing.holds })

work_left : (asks : ActionCall → List Answer → Next) (keeps : Bool) (v : Visit ActionCall) (w : Work ActionCall) (c : ContainerValue) → v.work ≡ w → has_left (inside_of asks keeps v w c).visit.work ≡ has_left w
work_left asks keeps v Reading c is = ap (λ (x : Work ActionCall). has_left x) is
work_left asks keeps v Opening c is = ap (λ (x : Work ActionCall). has_left x) is
work_left asks keeps v (ServingBy tries program) c is =
    let to = stride (asks program) keeps c tries tries.attempt in course_late v program to.container to.course
work_left asks keeps v (Committed place again shown) c is = ap (λ (x : Work ActionCall). has_left x) is
work_left asks keeps v (Decided became) c is = ap (λ (x : Work ActionCall). has_left x) is
work_left asks keeps v (Answered fate bytes) c is = ap (λ (x : Work ActionCall). has_left x) is
work_left asks keeps v (Left fate) c is = ap (λ (x : Work ActionCall). has_left x) is

inside_left : (asks : ActionCall → List Answer → Next) (keeps : Bool) (v : Visit ActionCall) (boot : BootValue) (since : List Event) → has_left (inside asks keeps v boot since).visit.work ≡ has_left v.work
unfolding inside
inside_left asks keeps v boot since = work_left asks keeps v v.work (untold boot since) refl

-- From one stage to another a connection put out these and gave these items: what was sent before, and these, are a
-- response for each item, and what is sent then.
pub record Passes (old : Stage ActionCall) (outs : List (List ℕ)) (items : List Item) (new : Stage ActionCall) (sent : List (List ℕ)) : Type 0 where
  pub responses : List (List ℕ)
  pub more : List (List ℕ)
  pub outs_are : sent ++ outs ≡ responses ++ more
  pub each : length responses ≡ length items
  pub behind : IsSent new more

-- nothing was put out, and nothing given
stays : (old new : Stage ActionCall) (sent : List (List ℕ)) → IsSent new sent → Passes old [] [] new sent
stays old new sent is = record { responses = []; more = sent; outs_are = append-nil sent; each = refl; behind = is }

-- one behind the other: first bytes are put out, and then items are given
pub passes_on : (a b c : Stage ActionCall) (outs : List (List ℕ)) (first second : List Item) (sent : List (List ℕ)) → Passes a outs first b sent → ((more : List (List ℕ)) → IsSent b more → Passes b [] second c more) → Passes a outs (first ++ second) c sent
passes_on a b c outs first second sent one two =
    let after : Passes b [] second c one.more = two one.more one.behind in
    record {
      responses = one.responses ++ after.responses;
      more = after.more;
      outs_are = one.outs_are ∙ (ap (λ (x : List (List ℕ)). one.responses ++ x) (sym (append-nil one.more) ∙ after.outs_are) ∙ sym (append_assoc one.responses after.responses after.more));
      each = omega (arith, length-append one.responses after.responses, length-append first second, one.each, after.each);
      behind = after.behind;
    }

-- the turn of a connection that moves is that of its stage: memory is not wanted
pub at_turn : (s : Shepherd ActionCall) (t : ShepherdTurn) → turn s ≡ t → moves t ≡ true → stage_turn s.stage s.received s.ended ≡ t
at_turn s t is moving = go s.wants_memory is where
  go : (m : Bool) → (if m then turns.Ended ends.OutOfMemory else stage_turn s.stage s.received s.ended) ≡ t → stage_turn s.stage s.received s.ended ≡ t
  go true e = absurd (let none : moves t ≡ false = ap moves (sym e) in cc)
  go false e = e

-- whose step is next for a request that is open is never one of these
abbrev pub is_open_turn : ShepherdTurn → Bool
is_open_turn turns.Bytes = false
is_open_turn turns.Request = false
is_open_turn turns.Outside = true
is_open_turn turns.Windows = true
is_open_turn turns.Inside = true
is_open_turn turns.Program = true
is_open_turn turns.Own = true
is_open_turn turns.Output = true
is_open_turn turns.Item = true
is_open_turn (turns.Ended end) = false

pub open_turn : (x : Turn) → is_open_turn (turn_by x) ≡ true
open_turn visit.Outside = refl
open_turn visit.Windows = refl
open_turn visit.Inside = refl
open_turn visit.Program = refl
open_turn visit.Own = refl
open_turn visit.Output = refl
open_turn visit.Over = refl

-- nor is that of a connection at rest one of a request that is open
rest_turn : (received : List ℕ) (ended : Bool) → is_open_turn (resting_turn received ended) ≡ false
rest_turn received ended = go (settles (taken_of received)) ended (length received == 0) where
  go : (a b c : Bool) → is_open_turn (if a then turns.Request else (if b then (if c then turns.Ended ends.Closed else turns.Ended ends.Cut) else turns.Bytes)) ≡ false
  go true b c = refl
  go false true true = refl
  go false true false = refl
  go false false c = refl

-- the turns at which a response leaves, a program is made, and an item is taken, by how far the request has come
own_no_output : (x : Wants) → turn_by (or_own x) ≡ turns.Output → ⊥
own_no_output wanted.Nothing e = cc
own_no_output wanted.Outside e = cc
own_no_output wanted.Windows e = cc

over_no_output : (x : Wants) → turn_by (or_over x) ≡ turns.Output → ⊥
over_no_output wanted.Nothing e = cc
over_no_output wanted.Outside e = cc
over_no_output wanted.Windows e = cc

over_no_program : (x : Wants) → turn_by (or_over x) ≡ turns.Program → ⊥
over_no_program wanted.Nothing e = cc
over_no_program wanted.Outside e = cc
over_no_program wanted.Windows e = cc

own_no_item : (x : Wants) → turn_by (or_own x) ≡ turns.Item → ⊥
own_no_item wanted.Nothing e = cc
own_no_item wanted.Outside e = cc
own_no_item wanted.Windows e = cc

answered_at : (w : Work ActionCall) (x : Wants) → turn_by (visit_turn_by w x) ≡ turns.Output → (has_left w ≡ false) × (has_left (departed w) ≡ true)
answered_at Reading x e = absurd (own_no_output x e)
answered_at Opening x e = absurd (cc)
answered_at (ServingBy tries program) x e = absurd (cc)
answered_at (Committed place again shown) x e = absurd (own_no_output x e)
answered_at (Decided became) x e = absurd (cc)
answered_at (Answered fate bytes) x e = (refl, refl)
answered_at (Left fate) x e = absurd (over_no_output x e)

opening_at : (w : Work ActionCall) (x : Wants) → turn_by (visit_turn_by w x) ≡ turns.Program → has_left w ≡ false
opening_at Reading x e = refl
opening_at Opening x e = refl
opening_at (ServingBy tries program) x e = refl
opening_at (Committed place again shown) x e = refl
opening_at (Decided became) x e = refl
opening_at (Answered fate bytes) x e = refl
opening_at (Left fate) x e = absurd (over_no_program x e)

item_at : (v : Visit ActionCall) (w : Work ActionCall) (x : Wants) → turn_by (visit_turn_by w x) ≡ turns.Item → (has_left w ≡ true) × (length (items_in v w) ≡ 1)
item_at v Reading x e = absurd (own_no_item x e)
item_at v Opening x e = absurd (cc)
item_at v (ServingBy tries program) x e = absurd (cc)
item_at v (Committed place again shown) x e = absurd (own_no_item x e)
item_at v (Decided became) x e = absurd (cc)
item_at v (Answered fate bytes) x e = absurd (cc)
item_at v (Left fate) x e = (refl, refl)

-- how many responses have left for the request that is open
abbrev pub left_count : Bool → ℕ
left_count left = if left then 1 else 0

counted_as : (sent : List (List ℕ)) (old new : Bool) → new ≡ old → length sent ≡ left_count old → length sent ≡ left_count new
counted_as sent old new same is = is ∙ ap left_count (sym same)

-- a step of others
in_stage : {X : Type 0} (by : Visit ActionCall → X → Visit ActionCall × X) → ((v : Visit ActionCall) (x : X) → has_left (by v x).0.work ≡ has_left v.work) → (stage : Stage ActionCall) (x : X) (sent : List (List ℕ)) → IsSent stage sent → IsSent (steps_in by stage x).0 sent
in_stage by same Resting x sent is = is
in_stage by same (Serving v call) x sent is = counted_as sent (has_left v.work) (has_left (by v x).0.work) (same v x) is
in_stage by same (Refusing why last) x sent is = is
in_stage by same (Over end) x sent is = is

-- a request that is taken
begun_sent : (front : Place) (counts : LinkCounts) (head : Head) (now : Moment) (arrival : Arrival) (sent : List (List ℕ)) → sent ≡ [] → IsSent (begun_by {P = ActionCall} front counts head now arrival) sent
begun_sent front counts head now (arrives.Refused why) sent is = ap length is
begun_sent front counts head now (arrives.SerialsSpent request seen) sent is = ap length is
begun_sent front counts head now (arrives.Admitted a) sent is = by a.cookie where
  by : (cookie : Option Cookie) → IsSent (admitted_visit {P = ActionCall} (facts_of a now front head) counts a cookie) sent
  by None = ap length is
  by (Some cookie) = ap length is

taken_sent : (service : Service) (seen : LinkCounts) (now : Moment) (t : Taken) (s : Shepherd ActionCall) (counts : Counts) (sent : List (List ℕ)) → s.stage ≡ Resting → sent ≡ [] → IsSent (takes_by service seen now t s counts).0.stage sent
taken_sent service seen now (took.Request head) s counts sent at is = begun_sent s.front seen head now (arrives_by service now (service.decides head) counts).0 sent is
taken_sent service seen now took.Bad s counts sent at is = (is, refl)
taken_sent service seen now (took.TooLong len lines) s counts sent at is = (is, refl)
taken_sent service seen now took.NoCoding s counts sent at is = (is, refl)
taken_sent service seen now (took.BodyTooLong said) s counts sent at is = (is, refl)
taken_sent service seen now took.More s counts sent at is = let P : Stage ActionCall → Type 0 = λ x. IsSent x sent in subst P (sym at) is

-- a connection at whose turn a request is taken is at rest
resting_of : (stage : Stage ActionCall) (received : List ℕ) (ended : Bool) → stage_turn stage received ended ≡ turns.Request → stage ≡ Resting
resting_of Resting received ended e = refl
resting_of (Serving v call) received ended e = absurd (let some = open_turn (visit_turn v) in let none = ap is_open_turn e in cc)
resting_of (Refusing why last) received ended e = absurd (cc)
resting_of (Over end) received ended e = absurd (cc)

-- a response that leaves
out_passes : (stage : Stage ActionCall) (received : List ℕ) (ended : Bool) (sent : List (List ℕ)) → stage_turn stage received ended ≡ turns.Output → IsSent stage sent → Passes stage ((output_of stage).0 ∷ []) [] (output_of stage).1 sent
unfolding output_of
out_passes Resting received ended sent e is = absurd (let none = rest_turn received ended in let some = ap is_open_turn e in cc)
out_passes (Serving v call) received ended sent e is =
    let at = answered_at v.work (wants v.way) e in
    let zero : length sent ≡ 0 = is ∙ ap left_count at.0 in
    let one : left_count (has_left (departed v.work)) ≡ 1 = ap left_count at.1 in
    record {
      responses = [];
      more = sent ++ response_in v.work ∷ [];
      outs_are = refl;
      each = refl;
      behind = omega (arith, length-append sent (response_in v.work ∷ []), zero, one);
    }
out_passes (Refusing why last) received ended sent e is = record {
  responses = [];
  more = sent ++ last ∷ [];
  outs_are = refl;
  each = refl;
  behind = ap (λ (x : List (List ℕ)). x ++ last ∷ []) is.0 ∙ ap (λ (x : List ℕ). x ∷ []) is.1;
}
out_passes (Over end) received ended sent e is = absurd (cc)

-- the event at a turn
abbrev outs_of : ShepherdTurn → List ℕ → List (List ℕ)
outs_of t bytes = if puts_out t then bytes ∷ [] else []

abbrev Stepped : Givens ActionCall LaneLink → World ActionCall LaneLink → ShepherdTurn → List (List ℕ) → Type 0
Stepped g w t sent = Passes w.connection.stage (outs_of t (event_at g t w).1) [] (event_at g t w).0.connection.stage sent

event_passes : (g : Givens ActionCall LaneLink) (w : World ActionCall LaneLink) (t : ShepherdTurn) (sent : List (List ℕ)) → turn w.connection ≡ t → moves t ≡ true → IsSent w.connection.stage sent → Stepped g w t sent
unfolding take_request
event_passes g w turns.Bytes sent is moving at = absurd (cc)
event_passes g w turns.Request sent is moving at =
    let rests : w.connection.stage ≡ Resting = resting_of w.connection.stage w.connection.received w.connection.ended (at_turn w.connection turns.Request is refl) in
    let P : Stage ActionCall → Type 0 = λ x. IsSent x sent in
    stays w.connection.stage (event_at g turns.Request w).0.connection.stage sent
    (taken_sent g.service (counted (g.tally w.link)) g.now (taken_of w.connection.received) w.connection w.drawn sent rests (subst P rests at))
event_passes g w turns.Outside sent is moving at =
    stays w.connection.stage (event_at g turns.Outside w).0.connection.stage sent
    (in_stage (outside g.replies g.tally) (λ v link. outside_left g.replies g.tally v link) w.connection.stage w.link sent at)
event_passes g w turns.Windows sent is moving at =
    stays w.connection.stage (event_at g turns.Windows w).0.connection.stage sent
    (in_stage windows_step windows_left w.connection.stage w.windows sent at)
event_passes g w turns.Inside sent is moving at =
    stays w.connection.stage (event_at g turns.Inside w).0.connection.stage sent
    (in_stage (step_inside g.asks g.keeps) (λ v x. inside_left g.asks g.keeps v x.0 x.1) w.connection.stage (w.boot, w.since) sent at)
event_passes g w turns.Program sent is moving at = stays w.connection.stage w.connection.stage sent at
event_passes g w turns.Own sent is moving at = stays w.connection.stage w.connection.stage sent at
event_passes g w turns.Output sent is moving at =
    out_passes w.connection.stage w.connection.received w.connection.ended sent (at_turn w.connection turns.Output is refl) at
event_passes g w turns.Item sent is moving at = stays w.connection.stage w.connection.stage sent at
event_passes g w (turns.Ended end) sent is moving at = absurd (cc)

-- what a connection does by itself

heard_left : (v : Visit ActionCall) (w : SessionWay) → v.work ≡ Reading → has_left (heard_read w v).work ≡ false
heard_left v (way.Reading r) is = by (outcome_of_read r) where
  by : (o : Option ReadOutcome) → has_left (told_read o v).work ≡ false
  by None = ap (λ (x : Work ActionCall). has_left x) is
  by (Some (read.Found lease)) = refl
  by (Some (read.Expired now expiry)) = refl
  by (Some (read.Lost causes)) = refl
heard_left v way.Resting is = refl
heard_left v (way.Ordered order) is = refl
heard_left v (way.Writing w) is = refl
heard_left v (way.Settling w) is = refl
heard_left v (way.Holding passes) is = refl

own_left : (key : List ℕ) (v : Visit ActionCall) (w : Work ActionCall) → v.work ≡ w → has_left (own_by key v w).work ≡ has_left w
own_left key v Reading is = heard_left v v.way is
own_left key v Opening is = ap (λ (x : Work ActionCall). has_left x) is
own_left key v (ServingBy tries program) is = ap (λ (x : Work ActionCall). has_left x) is
own_left key v (Committed place again shown) is = refl
own_left key v (Decided became) is = refl
own_left key v (Answered fate bytes) is = ap (λ (x : Work ActionCall). has_left x) is
own_left key v (Left fate) is = ap (λ (x : Work ActionCall). has_left x) is

own_sent : (key : List ℕ) (stage : Stage ActionCall) (sent : List (List ℕ)) → IsSent stage sent → IsSent (own_stage key stage) sent
unfolding own
own_sent key Resting sent is = is
own_sent key (Serving v call) sent is = counted_as sent (has_left v.work) (has_left (own_by key v v.work).work) (own_left key v v.work refl) is
own_sent key (Refusing why last) sent is = is
own_sent key (Over end) sent is = is

open_sent : (m : Making ActionCall) (stage : Stage ActionCall) (received : List ℕ) (ended : Bool) (sent : List (List ℕ)) → stage_turn stage received ended ≡ turns.Program → IsSent stage sent → IsSent (open_stage m.made m.worker stage) sent
unfolding open_stage
open_sent m Resting received ended sent e is = is
open_sent m (Serving v None) received ended sent e is = is
open_sent m (Serving v (Some asked)) received ended sent e is = is ∙ ap left_count (opening_at v.work (wants v.way) e)
open_sent m (Refusing why last) received ended sent e is = is
open_sent m (Over end) received ended sent e is = is

rested_sent : (close : Bool) → IsSent (rested {P = ActionCall} close) []
rested_sent true = refl
rested_sent false = refl

item_passes : (s : Shepherd ActionCall) (stage : Stage ActionCall) (received : List ℕ) (ended : Bool) (sent : List (List ℕ)) → stage_turn stage received ended ≡ turns.Item → IsSent stage sent → Passes stage [] (item_by s stage).1 (item_by s stage).0.stage sent
item_passes s Resting received ended sent e is = absurd (let none = rest_turn received ended in let some = ap is_open_turn e in cc)
item_passes s (Serving v call) received ended sent e is =
    let at = item_at v v.work (wants v.way) e in
    record {
      responses = sent;
      more = [];
      outs_are = refl;
      each = is ∙ ap left_count at.0 ∙ sym at.1;
      behind = rested_sent v.facts.close;
    }
item_passes s (Refusing why last) received ended sent e is = absurd (cc)
item_passes s (Over end) received ended sent e is = absurd (cc)

alone_passes : (m : Making ActionCall) (s : Shepherd ActionCall) (sent : List (List ℕ)) → IsSent s.stage sent → Passes s.stage [] (alone m s).1 (alone m s).0.stage sent
unfolding alone item_taken
alone_passes m s sent at = by (turn s) refl where
  by : (t : ShepherdTurn) → turn s ≡ t → Passes s.stage [] (alone_at m t s).1 (alone_at m t s).0.stage sent
  by turns.Bytes is = stays s.stage s.stage sent at
  by turns.Request is = stays s.stage s.stage sent at
  by turns.Outside is = stays s.stage s.stage sent at
  by turns.Windows is = stays s.stage s.stage sent at
  by turns.Inside is = stays s.stage s.stage sent at
  by turns.Program is = stays s.stage (open_stage m.made m.worker s.stage) sent (open_sent m s.stage s.received s.ended sent (at_turn s turns.Program is refl) at)
  by turns.Own is = stays s.stage (own_stage m.key s.stage) sent (own_sent m.key s.stage sent at)
  by turns.Output is = stays s.stage s.stage sent at
  by turns.Item is = item_passes s s.stage s.received s.ended sent (at_turn s turns.Item is refl) at
  by (turns.Ended end) is = stays s.stage s.stage sent at

gone_passes : (m : Making ActionCall) (s : Shepherd ActionCall) (sent : List (List ℕ)) → IsSent s.stage sent → Passes s.stage [] (gone_alone m s).1 (gone_alone m s).0.stage sent
unfolding gone_alone
gone_passes m s sent at =
    let first : Shepherd ActionCall × List Item = alone m s in
    let second : Shepherd ActionCall × List Item = alone m first.0 in
    passes_on s.stage first.0.stage second.0.stage [] first.1 second.1 sent (alone_passes m s sent at) (λ more is. alone_passes m first.0 more is)

-- A step of a seat that moves.
pub seat_passes : (g : SeatGivens) (seat : Seat) (w : SeatWorld) (sent : List (List ℕ)) → moves (turn seat.connection) ≡ true → IsSent seat.connection.stage sent
    → (let o : SeatOutcome = seat_step g seat w in Passes seat.connection.stage (outs_at (turn seat.connection) o) o.items o.seat.connection.stage sent)
unfolding seat_step step
seat_passes g seat w sent moving at =
    let t : ShepherdTurn = turn seat.connection in
    let gs : Givens ActionCall LaneLink = givens_in g w in
    let e : World ActionCall LaneLink × List ℕ = event_at gs t (seen_by seat w) in
    passes_on seat.connection.stage e.0.connection.stage (gone_alone gs.making e.0.connection).0.stage (outs_of t e.1) [] (gone_alone gs.making e.0.connection).1 sent
    (event_passes gs (seen_by seat w) t sent refl moving at) (λ more is. gone_passes gs.making e.0.connection more is)
