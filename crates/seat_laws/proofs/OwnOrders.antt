-- A request orders only its own write, behind its commit, and behind each of its steps.
use Rattle.std.proofs.Common.{◌≡◌, ◌≢◌, ◌∙◌, ℕ, Bool, true, false, nat_lt, if◌then◌else◌, List, map, Option, Some, None, refl, sym, ap}
use Rattle.std.specs.Prelude.{All}
use Rattle.std.proofs.lemmas.List.Elements.{All-nil}
use Rattle.auction_calls.specs.declared.action.ActionCall.{ActionCall}
use Rattle.auction_site.specs.Actions.{steps_of}
use Rattle.call_ticket.specs.declared.next.Answer.{Answer}
use Rattle.call_ticket.specs.declared.next.Next.{Next}
use Rattle.container_core.specs.Container.{ContainerValue, events_of}
use Rattle.crash_base.specs.declared.numbers.Place.{Place}
use Rattle.crash_base.specs.declared.numbers.Version.{Version}
use Rattle.http_wire.specs.Taking.{taken_of}
use Rattle.http_wire.specs.declared.taken.Head.{Head}
use Rattle.http_wire.specs.declared.taken.Taken.{Taken}
use Rattle.http_wire.specs.declared.taken.Taken.TheVariants as took
use Rattle.journal_model.specs.declared.entry.DoneText.{DoneText}
use Rattle.lane_link.specs.Links.{lane_link_tally}
use Rattle.lane_link.specs.Twins.{call_held}
use Rattle.lane_link.specs.declared.link.LaneLink.{LaneLink}
use Rattle.outcome_items.specs.declared.item.Holds.{Holds}
use Rattle.outside.specs.declared.link.LinkCounts.{LinkCounts}
use Rattle.request_decisions.specs.declared.decision.Decision.{Decision}
use Rattle.request_decisions.specs.declared.decision.Decision.TheVariants as decided
use Rattle.request_decisions.specs.declared.decision.Order.{Order}
use Rattle.request_intake.specs.Intakes.{admission_of}
use Rattle.request_intake.specs.declared.intake.Admission.{Admission}
use Rattle.request_tries.specs.Ends.{done_of}
use Rattle.request_tries.specs.Serving.{TriesValue}
use Rattle.request_tries.specs.declared.outcome.RequestOutcome.{RequestOutcome}
use Rattle.request_tries.specs.declared.outcome.RequestOutcome.TheVariants as ended
use Rattle.request_visit.specs.Advancing.{after_leaving, departed}
use Rattle.request_visit.specs.Ready.{order_of, ready_by, ready_of, set_in, shown_by}
use Rattle.request_visit.specs.Serving.{closed_with, holds_of}
use Rattle.request_visit.specs.Stepping.{counted, left_so, shown_so}
use Rattle.request_visit.specs.Visits.{overloaded, turn as visit_turn, turn_by as visit_turn_by}
use Rattle.request_visit.specs.declared.ready.Shown.{Shown}
use Rattle.request_visit.specs.declared.visit.Visit.{Visit}
use Rattle.request_visit.specs.declared.visit.Work.{Work}
use Rattle.request_visit.specs.declared.visit.Work.TheVariants.{Reading, Opening, Serving as ServingBy, Committed, Decided, Answered, Left}
use Rattle.send_windows.specs.Facts.{full_facts, open_count}
use Rattle.send_windows.specs.Passes.{hushed}
use Rattle.send_windows.specs.Windows.{WindowsValue, after_spend, refused, taken}
use Rattle.session_cookie.specs.declared.cookie.Cookie.{Cookie}
use Rattle.session_steps.specs.Lent.{BeginsRead, BeginsSo}
use Rattle.session_way.specs.Lease.{value_to_write}
use Rattle.session_way.specs.Reading.{cookie_asked}
use Rattle.session_way.specs.Way.{answer_held, passes_for, settled, wants}
use Rattle.session_way.specs.Writing.{passes_spent, write_begun}
use Rattle.session_way.specs.declared.session_read.ReadOutcome.{ReadOutcome}
use Rattle.session_way.specs.declared.session_read.ReadOutcome.TheVariants as read
use Rattle.session_way.specs.declared.session_write.WriteOrder.{WriteOrder}
use Rattle.session_way.specs.declared.way.SessionWay.{SessionWay}
use Rattle.session_way.specs.declared.way.SessionWay.TheVariants as way
use Rattle.session_way.specs.declared.way.Wants.{Wants}
use Rattle.session_way.specs.declared.way.Wants.TheVariants as wanted
use Rattle.shepherd.specs.Shepherds.{stage_turn, turn, turn_by}
use Rattle.shepherd.specs.Steps.{admitted_visit, begun_by, facts_of, rested}
use Rattle.shepherd.specs.declared.shepherd.AskedCall.{AskedCall}
use Rattle.shepherd.specs.declared.shepherd.Shepherd.{Shepherd}
use Rattle.shepherd.specs.declared.shepherd.ShepherdTurn.{ShepherdTurn}
use Rattle.shepherd.specs.declared.shepherd.ShepherdTurn.TheVariants as turns
use Rattle.shepherd.specs.declared.shepherd.Stage.{Stage}
use Rattle.shepherd.specs.declared.shepherd.Stage.TheVariants.{Resting, Serving, Refusing, Over}
use Rattle.shepherd_steps.specs.Alone.{Making, alone, alone_at, gone_alone, own_stage}
use Rattle.shepherd_steps.specs.Inside.{Course, Ends, Goes, Stride, after_course, inside, inside_of, stride, untold}
use Rattle.shepherd_steps.specs.Leaving.{item_by, item_taken, output_of}
use Rattle.shepherd_steps.specs.Opening.{open_stage, opens}
use Rattle.shepherd_steps.specs.Outside.{outside, way_outside}
use Rattle.shepherd_steps.specs.Own.{heard_read, outcome_of_read, own, own_by, told_read}
use Rattle.shepherd_steps.specs.Passes.{goes, outcome_of, windows_by, windows_step}
use Rattle.shepherd_steps.specs.Stepping.{World, event_at, step, step_inside, steps_in}
use Rattle.shepherd_steps.specs.Taking.{Counts, arrival_by, arrives_by, take_request, takes_by}
use Rattle.ssm_world.specs.Worlds.{nonce_of}
use Rattle.ssm_world.specs.declared.call.Call.{Call}
use Rattle.ssm_world.specs.declared.call.Call.TheVariants as call
use Rattle.seat_steps.specs.Replies.{lane_replies}
use Rattle.seat_steps.specs.Seats.{SeatGivens, SeatWorld, givens_in, making_by, seat_step, seen_by, service_in}
use Rattle.seat_steps.specs.Twinned.{way_in}
use Rattle.seat_steps.specs.declared.seat.Seat.{Seat}
use Rattle.seat_steps.specs.Begins.{begin_steps}
use Rattle.seat_laws.specs.LentSteps.{lent_steps}
use Rattle.seat_laws.specs.Ordering.{HasOrdered, OrdersOwn}
use Rattle.seat_laws.proofs.Drawn.{begin-of, one-begins, turn-on}
use Rattle.seat_laws.proofs.Owing.{Drawn}
use Rattle.seat_laws.proofs.Twinning.{after-way, at-turn}

-- a request has ordered only its own write
abbrev Orders : Visit ActionCall → Type 0
Orders v = (order : WriteOrder) → v.way ≡ way.Ordered order → HasOrdered v order

-- one that has ordered none
orders-none : (v : Visit ActionCall) → ((order : WriteOrder) → v.way ≡ way.Ordered order → ⊥) → Orders v
orders-none v none = λ order e. absurd (none order e)

-- whether a request of this work is committed, and its response is still to be made
abbrev is-committed : Work ActionCall → Bool
is-committed Reading = false
is-committed Opening = false
is-committed (ServingBy tries program) = false
is-committed (Committed place again shown) = true
is-committed (Decided became) = false
is-committed (Answered fate bytes) = false
is-committed (Left fate) = false

-- other work has ordered none
uncommitted : (v : Visit ActionCall) (w : Work ActionCall) → v.work ≡ w → is-committed w ≡ false → Orders v → (order : WriteOrder) → v.way ≡ way.Ordered order → ⊥
uncommitted v w is other orders order e =
    let clash : is-committed v.work ≡ true = ap is-committed (orders order e).committed in
    let none : is-committed v.work ≡ false = ap is-committed is ∙ other in cc

outside-ordered : (to : SessionWay) (link : LaneLink) (order : WriteOrder) → (way_outside lane_replies to link).0 ≡ way.Ordered order → to ≡ way.Ordered order
outside-ordered way.Resting link order e = e
outside-ordered (way.Reading r) link order e = absurd (cc)
outside-ordered (way.Ordered other) link order e = e
outside-ordered (way.Writing w) link order e = absurd (cc)
outside-ordered (way.Settling w) link order e = absurd (cc)
outside-ordered (way.Holding passes) link order e = e

settled-ordered : (to : SessionWay) (order : WriteOrder) → settled to ≡ way.Ordered order → to ≡ way.Ordered order
settled-ordered way.Resting order e = e
settled-ordered (way.Reading r) order e = e
settled-ordered (way.Ordered other) order e = e
settled-ordered (way.Writing w) order e = absurd (cc)
settled-ordered (way.Settling w) order e = e
settled-ordered (way.Holding passes) order e = e

outside-orders : (v : Visit ActionCall) (link : LaneLink) → Orders v → Orders (outside lane_replies lane_link_tally v link).0
unfolding outside
outside-orders v link orders = λ order e.
    let old : HasOrdered v order = orders order (outside-ordered v.way link order e) in
    record { place = old.place; again = old.again; shown = old.shown; committed = old.committed; nonce = old.nonce }

-- behind a step in the windows none is ordered
windows-ordered : (v : Visit ActionCall) (windows : WindowsValue) (order : WriteOrder) → (windows_step v windows).0.way ≡ way.Ordered order → ⊥
unfolding windows_step
windows-ordered v windows order = by v.way refl where
  goes-to : (to : SessionWay) (after : WindowsValue) → (goes v to after).0.way ≡ to
  goes-to to after = after-way (outcome_of (answer_held v.way)) (record v { way = to })

  rests : (after : WindowsValue) → (goes v way.Resting after).0.way ≡ way.Ordered order → ⊥
  rests after e = let clash : way.Resting ≡ way.Ordered order = sym (goes-to way.Resting after) ∙ e in cc

  by : (x : SessionWay) → v.way ≡ x → (windows_by v x windows).0.way ≡ way.Ordered order → ⊥
  by way.Resting is e = let clash : way.Resting ≡ way.Ordered order = sym is ∙ e in cc
  by (way.Reading r) is e = let clash : way.Reading r ≡ way.Ordered order = sym is ∙ e in cc
  by (way.Ordered other) is e = takes (nat_lt (open_count windows.facts) windows.wq) e where
    takes : (b : Bool) → (if b then (record v { way = way.Resting; work = overloaded (full_facts windows.facts) v.work }, refused windows)
        else goes v (way.Writing (write_begun other windows.wq (passes_for other windows))) (taken windows (passes_for other windows))).0.way ≡ way.Ordered order → ⊥
    takes true e = cc
    takes false e =
        let begun : SessionWay = way.Writing (write_begun other windows.wq (passes_for other windows)) in
        let clash : begun ≡ way.Ordered order = sym (goes-to begun (taken windows (passes_for other windows))) ∙ e in cc
  by (way.Writing w) is e = let clash : way.Writing w ≡ way.Ordered order = sym is ∙ e in cc
  by (way.Settling w) is e = rests (after_spend windows (passes_spent w)) e
  by (way.Holding passes) is e = rests (after_spend windows (map hushed passes)) e

-- a step in the container orders the write of its request, where it ends by its commit
inside-orders : (asks : ActionCall → List Answer → Next) (keeps : Bool) (v : Visit ActionCall) (c : ContainerValue) → Orders v → Orders (inside_of asks keeps v v.work c).visit
inside-orders asks keeps v c orders = by v.work refl where
  none : (tries : TriesValue) (program : ActionCall) → v.work ≡ ServingBy tries program → (order : WriteOrder) → v.way ≡ way.Ordered order → ⊥
  none tries program is = uncommitted v (ServingBy tries program) is refl orders

  readied : (tries : TriesValue) (program : ActionCall) (holds : Holds) (place : Place) (again : Bool) (answered : Option DoneText) (value : Option (List ℕ)) → v.work ≡ ServingBy tries program
      → Orders (shown_so place again (ready_by v.facts answered value) (record v { holds = holds }))
  readied tries program holds place again answered None is = λ order e. absurd (none tries program is order e)
  readied tries program holds place again answered (Some value) is = λ order e.
      let same : order_of v.facts value ≡ order = cc in
      record { place = place; again = again; shown = shown_by answered; committed = refl; nonce = sym (ap (λ (o : WriteOrder). o.nonce) same) }

  left : (tries : TriesValue) (program : ActionCall) (holds : Holds) (answered : Option DoneText) (outcome : RequestOutcome) → v.work ≡ ServingBy tries program
      → Orders (left_so (closed_with (λ again. ready_of v.facts v.lease answered) outcome) (record v { holds = holds }))
  left tries program holds answered (ended.Page place again) is =
      readied tries program holds place again answered (value_to_write (set_in answered) v.facts.now v.lease) is
  left tries program holds answered (ended.Sentinel group down) is = λ order e. absurd (none tries program is order e)
  left tries program holds answered (ended.Hung component fault path) is = λ order e. absurd (none tries program is order e)
  left tries program holds answered (ended.Raised component fault path) is = λ order e. absurd (none tries program is order e)
  left tries program holds answered (ended.Revoked made) is = λ order e. absurd (none tries program is order e)
  left tries program holds answered (ended.Conflict made) is = λ order e. absurd (none tries program is order e)
  left tries program holds answered (ended.JournalFull full) is = λ order e. absurd (none tries program is order e)
  left tries program holds answered ended.KeeperFailed is = λ order e. absurd (none tries program is order e)

  course : (tries : TriesValue) (program : ActionCall) (after : ContainerValue) (x : Course) → v.work ≡ ServingBy tries program → Orders (after_course v program after x)
  course tries program after (Goes more) is = λ order e. absurd (none tries program is order e)
  course tries program after (Ends end) is = left tries program (holds_of end) (done_of (events_of after) end) end.outcome is

  by : (w : Work ActionCall) → v.work ≡ w → Orders (inside_of asks keeps v w c).visit
  by Reading is = orders
  by Opening is = orders
  by (ServingBy tries program) is = let s : Stride = stride (asks program) keeps c tries tries.attempt in course tries program s.container s.course is
  by (Committed place again shown) is = orders
  by (Decided became) is = orders
  by (Answered fate bytes) is = orders
  by (Left fate) is = orders

-- what a request does by itself, at its own turn
own-orders : (key : List ℕ) (v : Visit ActionCall) → turn_by (visit_turn v) ≡ turns.Own → Orders v → Orders (own key v)
unfolding own
own-orders key v at orders = by v.work refl where
  none : (w : Work ActionCall) → v.work ≡ w → is-committed w ≡ false → (order : WriteOrder) → v.way ≡ way.Ordered order → ⊥
  none w is other = uncommitted v w is other orders

  told : (o : Option ReadOutcome) → v.work ≡ Reading → Orders (told_read o v)
  told None is = orders
  told (Some (read.Found lease)) is = λ order e. absurd (cc)
  told (Some (read.Expired now expiry)) is = λ order e. absurd (cc)
  told (Some (read.Lost causes)) is = λ order e. absurd (cc)

  heard : (to : SessionWay) → v.work ≡ Reading → Orders (heard_read to v)
  heard way.Resting is = λ order e. absurd (none Reading is refl order e)
  heard (way.Reading r) is = told (outcome_of_read r) is
  heard (way.Ordered other) is = λ order e. absurd (none Reading is refl order e)
  heard (way.Writing w) is = λ order e. absurd (none Reading is refl order e)
  heard (way.Settling w) is = λ order e. absurd (none Reading is refl order e)
  heard (way.Holding passes) is = λ order e. absurd (none Reading is refl order e)

  -- a request that has ordered a write waits for the windows
  waits : (place : Place) (again : Bool) (shown : Shown) (order : WriteOrder) → v.work ≡ Committed place again shown → v.way ≡ way.Ordered order → ⊥
  waits place again shown order is e =
      let committed : Work ActionCall = Committed place again shown in
      let one : turn_by (visit_turn v) ≡ turn_by (visit_turn_by committed (wants v.way)) = ap (λ (w : Work ActionCall). turn_by (visit_turn_by w (wants v.way))) is in
      let two : turn_by (visit_turn_by committed (wants v.way)) ≡ turns.Windows = ap (λ (to : SessionWay). turn_by (visit_turn_by committed (wants to))) e in
      let clash : turns.Own ≡ turns.Windows = sym at ∙ (one ∙ two) in cc

  by : (w : Work ActionCall) → v.work ≡ w → Orders (own_by key v w)
  by Reading is = heard v.way is
  by Opening is = orders
  by (ServingBy tries program) is = orders
  by (Committed place again shown) is = λ order e. absurd (waits place again shown order is e)
  by (Decided became) is = λ order e. absurd (none (Decided became) is refl order e)
  by (Answered fate bytes) is = orders
  by (Left fate) is = orders

own-stage-orders : (s : Shepherd ActionCall) (key : List ℕ) → turn s ≡ turns.Own → OrdersOwn s.stage → OrdersOwn (own_stage key s.stage)
own-stage-orders s key is = go s.stage (at-turn s turns.Own is (λ e. cc)) where
  go : (stage : Stage ActionCall) → stage_turn stage s.received s.ended ≡ turns.Own → OrdersOwn stage → OrdersOwn (own_stage key stage)
  go Resting at orders = tt
  go (Serving v call) at orders = own-orders key v at orders
  go (Refusing why bytes) at orders = tt
  go (Over end) at orders = tt

-- a request whose turn is to make its program opens
opening-alone : (v : Visit ActionCall) → turn_by (visit_turn v) ≡ turns.Program → is-committed v.work ≡ false
opening-alone v at = by v.work (wants v.way) at where
  by : (w : Work ActionCall) (x : Wants) → turn_by (visit_turn_by w x) ≡ turns.Program → is-committed w ≡ false
  by Reading x e = refl
  by Opening x e = refl
  by (ServingBy tries program) x e = refl
  by (Committed place again shown) wanted.Nothing e = absurd (cc)
  by (Committed place again shown) wanted.Outside e = absurd (cc)
  by (Committed place again shown) wanted.Windows e = absurd (cc)
  by (Decided became) x e = refl
  by (Answered fate bytes) x e = refl
  by (Left fate) x e = refl

open-orders : (m : Making ActionCall) (s : Shepherd ActionCall) → turn s ≡ turns.Program → OrdersOwn s.stage → OrdersOwn (open_stage m.made m.worker s.stage)
unfolding open_stage
open-orders m s is = go s.stage (at-turn s turns.Program is (λ e. cc)) where
  by : (v : Visit ActionCall) (call : Option AskedCall) → turn_by (visit_turn v) ≡ turns.Program → Orders v → OrdersOwn (opens m.made m.worker v call)
  by v None at orders = orders
  by v (Some asked) at orders = λ order e. absurd (uncommitted v v.work refl (opening-alone v at) orders order e)

  go : (stage : Stage ActionCall) → stage_turn stage s.received s.ended ≡ turns.Program → OrdersOwn stage → OrdersOwn (open_stage m.made m.worker stage)
  go Resting at orders = tt
  go (Serving v call) at orders = by v call at orders
  go (Refusing why bytes) at orders = tt
  go (Over end) at orders = tt

rested-orders : (close : Bool) → OrdersOwn (rested close)
rested-orders true = tt
rested-orders false = tt

item-orders : (s : Shepherd ActionCall) → OrdersOwn s.stage → OrdersOwn (item_taken s).0.stage
unfolding item_taken
item-orders s orders = by s.stage where
  by : (stage : Stage ActionCall) → OrdersOwn (item_by s stage).0.stage
  by Resting = orders
  by (Serving v call) = rested-orders v.facts.close
  by (Refusing why bytes) = orders
  by (Over end) = orders

once-orders : (m : Making ActionCall) (s : Shepherd ActionCall) → OrdersOwn s.stage → OrdersOwn (alone m s).0.stage
unfolding alone
once-orders m s orders = by (turn s) refl where
  by : (t : ShepherdTurn) → turn s ≡ t → OrdersOwn (alone_at m t s).0.stage
  by turns.Bytes is = orders
  by turns.Request is = orders
  by turns.Outside is = orders
  by turns.Windows is = orders
  by turns.Inside is = orders
  by turns.Program is = open-orders m s is orders
  by turns.Own is = own-stage-orders s m.key is orders
  by turns.Output is = orders
  by turns.Item is = item-orders s orders
  by (turns.Ended end) is = orders

gone-orders : (m : Making ActionCall) (s : Shepherd ActionCall) → OrdersOwn s.stage → OrdersOwn (gone_alone m s).0.stage
unfolding gone_alone
gone-orders m s orders = once-orders m (alone m s).0 (once-orders m s orders)

leaving-orders : (v : Visit ActionCall) → Orders v → Orders (after_leaving v)
leaving-orders v orders = λ order e.
    let old : HasOrdered v order = orders order (settled-ordered v.way order e) in
    record { place = old.place; again = old.again; shown = old.shown; committed = ap (λ (w : Work ActionCall). departed w) old.committed; nonce = old.nonce }

module _ (g : SeatGivens) (seat : Seat) (w : SeatWorld) where
  abbrev s : Shepherd ActionCall
  s = seat.connection

  abbrev E : ShepherdTurn → World ActionCall LaneLink
  E t = (event_at (givens_in g w) t (seen_by seat w)).0

  abbrev seen : LinkCounts
  seen = counted (lane_link_tally (record { lanes = w.store; active = seat.twin }))

  abbrev none-yet : Counts
  none-yet = record { words = 0; serials = 0 }

  admitted-orders : (a : Admission) (head : Head) (cookie : Option Cookie) → OrdersOwn (admitted_visit (facts_of a g.now s.front head) seen a cookie)
  admitted-orders a head None = λ order e. absurd (cc)
  admitted-orders a head (Some cookie) = λ order e. absurd (cc)

  request-orders : OrdersOwn s.stage → OrdersOwn (E turns.Request).connection.stage
  unfolding take_request
  request-orders orders = by (taken_of s.received) where
    spent : (o : Order) (head : Head) (x : Option ℕ) → OrdersOwn (begun_by s.front seen head g.now (arrival_by g.key (service_in g w).home o g.now (Drawn g w o).drawn x))
    spent o head (Some serial) = λ order e. absurd (cc)
    spent o head None = admitted-orders (admission_of g.key (service_in g w).home o g.now (Drawn g w o).drawn) head o.cookie

    decision : (head : Head) (d : Decision) → OrdersOwn (begun_by s.front seen head g.now (arrives_by (service_in g w) g.now d none-yet).0)
    decision head (decided.Refused why) = λ order e. absurd (cc)
    decision head (decided.Ordered o) = spent o head (Drawn g w o).spent

    by : (t : Taken) → OrdersOwn (takes_by (service_in g w) seen g.now t s none-yet).0.stage
    by (took.Request head) = decision head ((service_in g w).decides head)
    by took.Bad = tt
    by (took.TooLong len lines) = tt
    by took.NoCoding = tt
    by (took.BodyTooLong said) = tt
    by took.More = orders

  event-orders : (t : ShepherdTurn) → OrdersOwn s.stage → OrdersOwn (E t).connection.stage
  unfolding inside output_of
  event-orders turns.Bytes orders = orders
  event-orders turns.Request orders = request-orders orders
  event-orders turns.Outside orders = go s.stage orders where
    go : (stage : Stage ActionCall) → OrdersOwn stage → OrdersOwn (steps_in (outside lane_replies lane_link_tally) stage (record { lanes = w.store; active = seat.twin })).0
    go Resting orders = tt
    go (Serving v call) orders = outside-orders v (record { lanes = w.store; active = seat.twin }) orders
    go (Refusing why bytes) orders = tt
    go (Over end) orders = tt
  event-orders turns.Windows orders = go s.stage where
    go : (stage : Stage ActionCall) → OrdersOwn (steps_in windows_step stage w.store.windows).0
    go Resting = tt
    go (Serving v call) = orders-none (windows_step v w.store.windows).0 (windows-ordered v w.store.windows)
    go (Refusing why bytes) = tt
    go (Over end) = tt
  event-orders turns.Inside orders = go s.stage orders where
    go : (stage : Stage ActionCall) → OrdersOwn stage → OrdersOwn (steps_in (step_inside steps_of g.keeps) stage (w.boot, w.since)).0
    go Resting orders = tt
    go (Serving v call) orders = inside-orders steps_of g.keeps v (untold w.boot w.since) orders
    go (Refusing why bytes) orders = tt
    go (Over end) orders = tt
  event-orders turns.Program orders = orders
  event-orders turns.Own orders = orders
  event-orders turns.Output orders = go s.stage orders where
    go : (stage : Stage ActionCall) → OrdersOwn stage → OrdersOwn (output_of stage).1
    go Resting orders = tt
    go (Serving v call) orders = leaving-orders v orders
    go (Refusing why bytes) orders = tt
    go (Over end) orders = tt
  event-orders turns.Item orders = orders
  event-orders (turns.Ended end) orders = orders

  -- Behind its step the request of a seat has ordered only its own write, where it had before.
  pub step-orders : OrdersOwn seat.connection.stage → OrdersOwn (seat_step g seat w).seat.connection.stage
  unfolding seat_step step
  step-orders orders = gone-orders (making_by g) (E (turn s)).connection (event-orders (turn s) orders)

-- the steps by which a call begins, if one does: of each that is held, and has no twin yet, this is so
begins-held : (So : Version → Type 0) (o : Option Call) (twin : Option ℕ) (to : SessionWay) → ((held : Call) → twin ≡ None → call_held to ≡ Some held → So (nonce_of held)) → All (BeginsSo So) (begin_steps o twin to)
begins-held So None twin to so = All-nil (BeginsSo So)
begins-held So (Some held) None way.Resting so = All-nil (BeginsSo So)
begins-held So (Some held) None (way.Reading r) so = one-begins So (BeginsRead r.nonce r.moment (cookie_asked r)) (so (call.Read r) refl refl)
begins-held So (Some held) None (way.Ordered order) so = All-nil (BeginsSo So)
begins-held So (Some held) None (way.Writing w) so = one-begins So (begin-of So w) (so (call.Write w.write) refl refl)
begins-held So (Some held) None (way.Settling w) so = one-begins So (begin-of So w) (so (call.Write w.write) refl refl)
begins-held So (Some held) None (way.Holding passes) so = All-nil (BeginsSo So)
begins-held So (Some held) (Some number) to so = All-nil (BeginsSo So)

-- A step of a seat begins no call but that of what its connection then holds, where that has no twin yet.
pub step-begins-held : (g : SeatGivens) (seat : Seat) (w : SeatWorld) (other : Version) → ((held : Call) → seat.twin ≡ None → call_held (way_in (seat_step g seat w).seat.connection.stage) ≡ Some held → nonce_of held ≢ other)
    → All (BeginsSo (λ (nonce : Version). nonce ≢ other)) (lent_steps g seat w)
unfolding lent_steps
step-begins-held g seat w other unlike =
    let So : Version → Type 0 = λ nonce. nonce ≢ other in
    let after : SessionWay = way_in (seat_step g seat w).seat.connection.stage in
    turn-on So (turn seat.connection) (way_in seat.connection.stage) (record { lanes = w.store; active = seat.twin }) (begin_steps (call_held after) seat.twin after)
    (begins-held So (call_held after) seat.twin after unlike)
