-- The write that a connection owes is the one that was drawn for its request, until it begins.
use Rattle.std.proofs.Common.{◌≡◌, ◌≢◌, ◌⊎◌, inl, inr, ◌∙◌, ◌≤◌, ◌+◌, ℕ, Bool, true, false, nat_lt, if◌then◌else◌, List, map, length, take, ◌==◌, Option, Some, None, Result, refl, sym, ap, subst, arith}
use Rattle.auction_calls.specs.declared.action.ActionCall.{ActionCall}
use Rattle.auction_site.specs.Actions.{steps_of}
use Rattle.container_core.specs.Container.{ContainerValue, events_of}
use Rattle.container_core.specs.History.{entries_in}
use Rattle.crash_base.specs.declared.numbers.Place.{Place}
use Rattle.crash_base.specs.declared.numbers.Version.{Version}
use Rattle.http_wire.specs.Taking.{settles, taken_of}
use Rattle.http_wire.specs.declared.taken.Head.{Head}
use Rattle.http_wire.specs.declared.taken.Taken.{Taken}
use Rattle.http_wire.specs.declared.taken.Taken.TheVariants as took
use Rattle.lane_link.specs.Links.{LaneLinkMakes, lane_link_tally}
use Rattle.lane_link.specs.Twins.{call_held}
use Rattle.lane_link.specs.declared.link.LaneLink.{LaneLink}
use Rattle.outside.specs.declared.link.LinkCounts.{LinkCounts}
use Rattle.request_decisions.specs.Calls.{number_for}
use Rattle.request_decisions.specs.Draws.{drawn_for, is_serial, kinds_of}
use Rattle.request_decisions.specs.declared.decision.Decision.{Decision}
use Rattle.request_decisions.specs.declared.decision.Decision.TheVariants as decided
use Rattle.request_decisions.specs.declared.decision.Order.{Order}
use Rattle.request_decisions.specs.declared.draws.DrawKind.{DrawKind}
use Rattle.request_decisions.specs.declared.draws.DrawKind.TheVariants.{Read, Write}
use Rattle.request_intake.specs.Intakes.{admission_of, nonce_of}
use Rattle.request_intake.specs.declared.intake.Admission.{Admission}
use Rattle.outcome_items.specs.declared.item.Holds.{Holds}
use Rattle.request_tries.specs.Serving.{TriesValue}
use Rattle.call_ticket.specs.declared.next.Answer.{Answer}
use Rattle.call_ticket.specs.declared.next.Next.{Next}
use Rattle.request_visit.specs.Advancing.{after_leaving, departed}
use Rattle.request_visit.specs.Serving.{closing_of}
use Rattle.request_visit.specs.Sessions.{FateTold, HasAnswer, SessionOf, SettlesWith}
use Rattle.request_visit.specs.declared.ready.Shown.{Shown}
use Rattle.request_visit.specs.declared.visit.Fate.{Fate}
use Rattle.request_visit.specs.declared.visit.Fate.TheVariants.{Known, Writing as FateWriting}
use Rattle.journal_model.specs.declared.entry.Entry.{Entry}
use Rattle.ssm_stub.specs.Reads.{ReadState, read_start}
use Rattle.ssm_stub.specs.declared.write_call.WriteRefusal.{WriteRefusal}
use Rattle.ssm_world.specs.Worlds.{nonce_of as nonce_of_call}
use Rattle.ssm_world.specs.declared.call.Call.{Call}
use Rattle.ssm_world.specs.declared.call.Call.TheVariants as call
use Rattle.request_visit.specs.Stepping.{counted, left_so, shown_so}
use Rattle.request_visit.specs.Visits.{after_outcome, fate_missed, fate_written, overloaded, with_fate, turn as visit_turn, turn_by as visit_turn_by}
use Rattle.request_visit.specs.declared.ready.Ready.{Ready}
use Rattle.request_visit.specs.declared.ready.Ready.TheVariants.{Respond, Write as WritesThen}
use Rattle.request_visit.specs.declared.serving.Closed.{Closed}
use Rattle.request_visit.specs.declared.serving.Closed.TheVariants as closes
use Rattle.request_visit.specs.declared.serving.Closing.{Closing}
use Rattle.request_visit.specs.declared.visit.Visit.{Visit}
use Rattle.request_visit.specs.declared.visit.Work.{Work}
use Rattle.request_visit.specs.declared.visit.Work.TheVariants.{Reading, Opening, Serving as ServingBy, Committed, Decided, Answered, Left}
use Rattle.send_windows.specs.Facts.{full_facts, open_count}
use Rattle.send_windows.specs.Passes.{hushed}
use Rattle.send_windows.specs.Windows.{WindowsValue, after_spend, refused, taken}
use Rattle.send_windows.specs.declared.fact.WindowFact.{WindowFact}
use Rattle.session_cookie.specs.declared.cookie.Cookie.{Cookie}
use Rattle.session_way.specs.Way.{answer_held, passes_for, settled, wants}
use Rattle.session_way.specs.Writing.{passes_spent, write_begun}
use Rattle.session_way.specs.declared.session_read.ReadOutcome.{ReadOutcome}
use Rattle.session_way.specs.declared.session_read.ReadOutcome.TheVariants as read
use Rattle.session_way.specs.declared.session_write.WriteOrder.{WriteOrder}
use Rattle.session_way.specs.declared.session_write.WriteOutcome.{WriteOutcome}
use Rattle.session_way.specs.declared.session_write.WriteOutcome.TheVariants as outcome
use Rattle.session_way.specs.declared.way.SessionWay.{SessionWay}
use Rattle.session_way.specs.declared.way.SessionWay.TheVariants as way
use Rattle.session_way.specs.declared.way.Wants.{Wants}
use Rattle.session_way.specs.declared.way.Wants.TheVariants as wanted
use Rattle.shepherd.specs.Shepherds.{stage_turn, turn, turn_by}
use Rattle.shepherd.specs.Going.{OpenGoesOn}
use Rattle.shepherd.specs.Steps.{IfOpen, OnVisit, admitted_visit, begun_by, facts_of, rested}
use Rattle.shepherd.specs.declared.shepherd.AskedCall.{AskedCall}
use Rattle.shepherd.specs.declared.shepherd.EndKind.TheVariants as ends
use Rattle.shepherd.specs.declared.shepherd.Shepherd.{Shepherd}
use Rattle.shepherd.specs.declared.shepherd.ShepherdTurn.{ShepherdTurn}
use Rattle.shepherd.specs.declared.shepherd.ShepherdTurn.TheVariants as turns
use Rattle.shepherd.specs.declared.shepherd.Stage.{Stage}
use Rattle.shepherd.specs.declared.shepherd.Stage.TheVariants.{Resting, Serving, Refusing, Over}
use Rattle.shepherd_steps.specs.Alone.{Making, alone, alone_at, gone_alone, own_stage}
use Rattle.shepherd_steps.specs.Inside.{Course, Ends, Goes, Stride, after_course, inside, inside_of, stride, untold}
use Rattle.shepherd_steps.specs.Leaving.{item_by, item_taken, output_of}
use Rattle.shepherd_steps.specs.Opening.{open_stage, opens}
use Rattle.shepherd_steps.specs.Outside.{outside, way_outside}
use Rattle.shepherd_steps.specs.Own.{heard_read, outcome_of_read, own, own_by, told_read}
use Rattle.shepherd_steps.specs.Passes.{goes, outcome_of, windows_by, windows_step}
use Rattle.shepherd_steps.specs.Stepping.{World, event_at, step, step_inside, steps_in}
use Rattle.shepherd_steps.specs.Taking.{Counts, Drawing, arrival_by, arrives_by, draws, take_request, takes_by}
use Rattle.seat_steps.specs.Going.{GoesOnAtSeat, IsAccepted}
use Rattle.seat_steps.specs.Replies.{lane_replies}
use Rattle.seat_steps.specs.Seats.{SeatGivens, SeatWorld, givens_in, making_by, seat_step, seen_by, service_in}
use Rattle.seat_steps.specs.Twinned.{way_in}
use Rattle.seat_steps.specs.declared.seat.Seat.{Seat}
use Rattle.seat_laws.specs.Ordering.{HasOrdered, OrdersOwn}
use Rattle.seat_laws.specs.Owing.{BeginsWith, IsDrawnIn, if_ordered, owed_by, write_owed}
use Rattle.seat_laws.specs.Standing.{HasTwin, SeatStands}
use Rattle.seat_laws.proofs.Alone.{Stays, gone-in, inside-stays}
use Rattle.seat_laws.proofs.Hearing.{outside-holds}
use Rattle.seat_laws.proofs.Twinning.{OpenOutside, after-way, at-turn, open-outside}
use Rattle.seat_laws.proofs.Drawing.{IsBetween, all-drawn, between, differ, has, read-in, rise, write-in}

-- a request still owes the write of this nonce
abbrev pub Owes : Visit ActionCall → Version → Type 0
Owes v n = owed_by v.work v.way v.facts.write ≡ Some n

-- the turn of a program is that of a request that opens
pub opening-so : (w : Work ActionCall) (x : Wants) → turn_by (visit_turn_by w x) ≡ turns.Program → w ≡ Opening
opening-so Reading wanted.Nothing e = absurd (cc)
opening-so Reading wanted.Outside e = absurd (cc)
opening-so Reading wanted.Windows e = absurd (cc)
opening-so Opening x e = refl
opening-so (ServingBy tries program) x e = absurd (cc)
opening-so (Committed place again shown) wanted.Nothing e = absurd (cc)
opening-so (Committed place again shown) wanted.Outside e = absurd (cc)
opening-so (Committed place again shown) wanted.Windows e = absurd (cc)
opening-so (Decided became) x e = absurd (cc)
opening-so (Answered fate bytes) x e = absurd (cc)
opening-so (Left fate) wanted.Nothing e = absurd (cc)
opening-so (Left fate) wanted.Outside e = absurd (cc)
opening-so (Left fate) wanted.Windows e = absurd (cc)

-- a connection whose turn is to make a program has a request open that opens
pub open-program : (s : Shepherd ActionCall) → turn s ≡ turns.Program → OnVisit s.stage (λ (v : Visit ActionCall) (call : Option AskedCall). turn_by (visit_turn v) ≡ turns.Program)
open-program s is = go s.stage (at-turn s turns.Program is (λ e. cc)) where
  at-rest : (a b c : Bool) → (if a then turns.Request else (if b then (if c then turns.Ended ends.Closed else turns.Ended ends.Cut) else turns.Bytes)) ≡ turns.Program → ⊥
  at-rest true b c e = cc
  at-rest false true true e = cc
  at-rest false true false e = cc
  at-rest false false c e = cc

  go : (stage : Stage ActionCall) → stage_turn stage s.received s.ended ≡ turns.Program → OnVisit stage (λ (v : Visit ActionCall) (call : Option AskedCall). turn_by (visit_turn v) ≡ turns.Program)
  go Resting e = absurd (at-rest (settles (taken_of s.received)) s.ended (length s.received == 0) e)
  go (Serving v call) e = e
  go (Refusing why bytes) e = absurd (cc)
  go (Over end) e = absurd (cc)

-- Nothing that a connection does by itself makes it owe a write.
own-owes : (key : List ℕ) (v : Visit ActionCall) (n : Version) → Owes (own key v) n → Owes v n
unfolding own
own-owes key v n = by v.work refl where
  told : (o : Option ReadOutcome) → v.work ≡ Reading → Owes (told_read o v) n → Owes v n
  told None is e = e
  told (Some (read.Found lease)) is e = subst (λ (w : Work ActionCall). owed_by w v.way v.facts.write ≡ Some n) (sym is) e
  told (Some (read.Expired now expiry)) is e = absurd (cc)
  told (Some (read.Lost causes)) is e = absurd (cc)

  heard : (to : SessionWay) → v.work ≡ Reading → Owes (heard_read to v) n → Owes v n
  heard way.Resting is e = subst (λ (w : Work ActionCall). owed_by w v.way v.facts.write ≡ Some n) (sym is) e
  heard (way.Reading r) is e = told (outcome_of_read r) is e
  heard (way.Ordered order) is e = subst (λ (w : Work ActionCall). owed_by w v.way v.facts.write ≡ Some n) (sym is) e
  heard (way.Writing w) is e = subst (λ (w : Work ActionCall). owed_by w v.way v.facts.write ≡ Some n) (sym is) e
  heard (way.Settling w) is e = subst (λ (w : Work ActionCall). owed_by w v.way v.facts.write ≡ Some n) (sym is) e
  heard (way.Holding passes) is e = subst (λ (w : Work ActionCall). owed_by w v.way v.facts.write ≡ Some n) (sym is) e

  by : (w : Work ActionCall) → v.work ≡ w → Owes (own_by key v w) n → Owes v n
  by Reading is e = heard v.way is e
  by Opening is e = e
  by (ServingBy tries program) is e = e
  by (Committed place again shown) is e = absurd (cc)
  by (Decided became) is e = absurd (cc)
  by (Answered fate bytes) is e = e
  by (Left fate) is e = e

own-stage-owes : (key : List ℕ) (stage : Stage ActionCall) (n : Version) → write_owed (own_stage key stage) ≡ Some n → write_owed stage ≡ Some n
own-stage-owes key Resting n e = e
own-stage-owes key (Serving v call) n e = own-owes key v n e
own-stage-owes key (Refusing why bytes) n e = e
own-stage-owes key (Over end) n e = e

open-owes : (m : Making ActionCall) (s : Shepherd ActionCall) (n : Version) → OnVisit s.stage (λ (v : Visit ActionCall) (call : Option AskedCall). turn_by (visit_turn v) ≡ turns.Program)
    → write_owed (open_stage m.made m.worker s.stage) ≡ Some n → write_owed s.stage ≡ Some n
unfolding open_stage
open-owes m s n = go s.stage where
  by : (v : Visit ActionCall) (call : Option AskedCall) → v.work ≡ Opening → write_owed (opens m.made m.worker v call) ≡ Some n → Owes v n
  by v None is e = e
  by v (Some asked) is e = subst (λ (w : Work ActionCall). owed_by w v.way v.facts.write ≡ Some n) (sym is) e

  go : (stage : Stage ActionCall) → OnVisit stage (λ (v : Visit ActionCall) (call : Option AskedCall). turn_by (visit_turn v) ≡ turns.Program)
      → write_owed (open_stage m.made m.worker stage) ≡ Some n → write_owed stage ≡ Some n
  go Resting at e = e
  go (Serving v call) at e = by v call (opening-so v.work (wants v.way) at) e
  go (Refusing why bytes) at e = e
  go (Over end) at e = e

rested-none : (close : Bool) → write_owed (rested close) ≡ None
rested-none true = refl
rested-none false = refl

item-owes : (s : Shepherd ActionCall) (n : Version) → write_owed (item_taken s).0.stage ≡ Some n → write_owed s.stage ≡ Some n
unfolding item_taken
item-owes s n = by s.stage refl where
  by : (stage : Stage ActionCall) → s.stage ≡ stage → write_owed (item_by s stage).0.stage ≡ Some n → write_owed s.stage ≡ Some n
  by Resting is e = e
  by (Serving v call) is e = absurd (let none = rested-none v.facts.close in cc)
  by (Refusing why bytes) is e = e
  by (Over end) is e = e

once-owes : (m : Making ActionCall) (s : Shepherd ActionCall) (n : Version) → write_owed (alone m s).0.stage ≡ Some n → write_owed s.stage ≡ Some n
unfolding alone
once-owes m s n = by (turn s) refl where
  by : (t : ShepherdTurn) → turn s ≡ t → write_owed (alone_at m t s).0.stage ≡ Some n → write_owed s.stage ≡ Some n
  by turns.Bytes is e = e
  by turns.Request is e = e
  by turns.Outside is e = e
  by turns.Windows is e = e
  by turns.Inside is e = e
  by turns.Program is e = open-owes m s n (open-program s is) e
  by turns.Own is e = own-stage-owes m.key s.stage n e
  by turns.Output is e = e
  by turns.Item is e = item-owes s n e
  by (turns.Ended end) is e = e

pub gone-owes : (m : Making ActionCall) (s : Shepherd ActionCall) (n : Version) → write_owed (gone_alone m s).0.stage ≡ Some n → write_owed s.stage ≡ Some n
unfolding gone_alone
gone-owes m s n e = once-owes m s n (once-owes m (alone m s).0 n e)

-- other work owes no more by another way
other-way : (w : Work ActionCall) (old new : SessionWay) (nonce : Version) → if_ordered new nonce ≡ if_ordered old nonce → owed_by w new nonce ≡ owed_by w old nonce
other-way Reading old new nonce same = refl
other-way Opening old new nonce same = refl
other-way (ServingBy tries program) old new nonce same = refl
other-way (Committed place again shown) old new nonce same = same
other-way (Decided became) old new nonce same = refl
other-way (Answered fate bytes) old new nonce same = refl
other-way (Left fate) old new nonce same = refl

-- nor where it orders nothing
less-way : (w : Work ActionCall) (old new : SessionWay) (nonce n : Version) → if_ordered new nonce ≡ None → owed_by w new nonce ≡ Some n → owed_by w old nonce ≡ Some n
less-way Reading old new nonce n none e = e
less-way Opening old new nonce n none e = e
less-way (ServingBy tries program) old new nonce n none e = e
less-way (Committed place again shown) old new nonce n none e = absurd (let clash : None ≡ Some n = sym none ∙ e in cc)
less-way (Decided became) old new nonce n none e = absurd (cc)
less-way (Answered fate bytes) old new nonce n none e = absurd (cc)
less-way (Left fate) old new nonce n none e = absurd (cc)

outside-way : (to : SessionWay) (link : LaneLink) (nonce : Version) → if_ordered (way_outside lane_replies to link).0 nonce ≡ if_ordered to nonce
outside-way way.Resting link nonce = refl
outside-way (way.Reading r) link nonce = refl
outside-way (way.Ordered order) link nonce = refl
outside-way (way.Writing w) link nonce = refl
outside-way (way.Settling w) link nonce = refl
outside-way (way.Holding passes) link nonce = refl

settled-way : (to : SessionWay) (nonce : Version) → if_ordered (settled to) nonce ≡ if_ordered to nonce
settled-way way.Resting nonce = refl
settled-way (way.Reading r) nonce = refl
settled-way (way.Ordered order) nonce = refl
settled-way (way.Writing w) nonce = refl
settled-way (way.Settling w) nonce = refl
settled-way (way.Holding passes) nonce = refl

-- what is told of a write makes a request owe none
told-owes : (o : Option WriteOutcome) (u : Visit ActionCall) (n : Version) → Owes (after_outcome o u) n → Owes u n
told-owes None u n e = e
told-owes (Some (outcome.Written cookie)) u n e = by u.work e where
  by : (w : Work ActionCall) → owed_by (with_fate fate_written w) u.way u.facts.write ≡ Some n → owed_by w u.way u.facts.write ≡ Some n
  by Reading e = e
  by Opening e = e
  by (ServingBy tries program) e = e
  by (Committed place again shown) e = e
  by (Decided became) e = absurd (cc)
  by (Answered fate bytes) e = absurd (cc)
  by (Left fate) e = absurd (cc)
told-owes (Some (outcome.Missed causes)) u n e = by u.work e where
  by : (w : Work ActionCall) → owed_by (with_fate (fate_missed causes) w) u.way u.facts.write ≡ Some n → owed_by w u.way u.facts.write ≡ Some n
  by Reading e = e
  by Opening e = e
  by (ServingBy tries program) e = e
  by (Committed place again shown) e = e
  by (Decided became) e = absurd (cc)
  by (Answered fate bytes) e = absurd (cc)
  by (Left fate) e = absurd (cc)

full-owes : (full : List WindowFact) (w : Work ActionCall) (old : SessionWay) (nonce n : Version) → owed_by (overloaded full w) way.Resting nonce ≡ Some n → owed_by w old nonce ≡ Some n
full-owes full Reading old nonce n e = e
full-owes full Opening old nonce n e = e
full-owes full (ServingBy tries program) old nonce n e = e
full-owes full (Committed place again shown) old nonce n e = absurd (cc)
full-owes full (Decided became) old nonce n e = absurd (cc)
full-owes full (Answered fate bytes) old nonce n e = absurd (cc)
full-owes full (Left fate) old nonce n e = absurd (cc)

goes-owes : (v : Visit ActionCall) (to : SessionWay) (windows : WindowsValue) (n : Version) → if_ordered to v.facts.write ≡ None → Owes (goes v to windows).0 n → Owes v n
goes-owes v to windows n none e =
    less-way v.work v.way to v.facts.write n none (told-owes (outcome_of (answer_held v.way)) (record v { way = to }) n e)

windows-owes : (v : Visit ActionCall) (windows : WindowsValue) (n : Version) → Owes (windows_step v windows).0 n → Owes v n
unfolding windows_step
windows-owes v windows n = by v.way where
  by : (x : SessionWay) → Owes (windows_by v x windows).0 n → Owes v n
  by way.Resting e = e
  by (way.Reading r) e = e
  by (way.Ordered order) e = takes (nat_lt (open_count windows.facts) windows.wq) e where
    takes : (b : Bool) → Owes (if b then (record v { way = way.Resting; work = overloaded (full_facts windows.facts) v.work }, refused windows)
        else goes v (way.Writing (write_begun order windows.wq (passes_for order windows))) (taken windows (passes_for order windows))).0 n → Owes v n
    takes true e = full-owes (full_facts windows.facts) v.work v.way v.facts.write n e
    takes false e = goes-owes v (way.Writing (write_begun order windows.wq (passes_for order windows))) (taken windows (passes_for order windows)) n refl e
  by (way.Writing w) e = e
  by (way.Settling w) e = goes-owes v way.Resting windows n refl e
  by (way.Holding passes) e = goes-owes v way.Resting windows n refl e

-- nor does a step in the container, which orders the write that was owed
inside-owes : (asks : ActionCall → List Answer → Next) (keeps : Bool) (v : Visit ActionCall) (c : ContainerValue) (n : Version) → Owes (inside_of asks keeps v v.work c).visit n → Owes v n
inside-owes asks keeps v c n = by v.work refl where
  shown : (holds : Holds) (tries : TriesValue) (program : ActionCall) (place : Place) (again : Bool) (ready : Ready) → v.work ≡ ServingBy tries program
      → Owes (shown_so place again ready (record v { holds = holds })) n → Owes v n
  shown holds tries program place again (Respond bytes) is e = absurd (cc)
  shown holds tries program place again (WritesThen order what) is e = subst (λ (w : Work ActionCall). owed_by w v.way v.facts.write ≡ Some n) (sym is) e

  left : (holds : Holds) (tries : TriesValue) (program : ActionCall) (closed : Closed) → v.work ≡ ServingBy tries program → Owes (left_so closed (record v { holds = holds })) n → Owes v n
  left holds tries program (closes.Page place again ready) is e = shown holds tries program place again ready is e
  left holds tries program (closes.Other became) is e = absurd (cc)

  course : (tries : TriesValue) (program : ActionCall) (c : ContainerValue) (course : Course) → v.work ≡ ServingBy tries program → Owes (after_course v program c course) n → Owes v n
  course tries program c (Goes more) is e = subst (λ (w : Work ActionCall). owed_by w v.way v.facts.write ≡ Some n) (sym is) e
  course tries program c (Ends end) is e =
      let closing : Closing = closing_of v.facts v.lease (events_of c) end in left closing.holds tries program closing.closed is e

  by : (w : Work ActionCall) → v.work ≡ w → Owes (inside_of asks keeps v w c).visit n → Owes v n
  by Reading is e = e
  by Opening is e = e
  by (ServingBy tries program) is e =
      let s : Stride = stride (asks program) keeps c tries tries.attempt in course tries program s.container s.course is e
  by (Committed place again shown) is e = e
  by (Decided became) is e = e
  by (Answered fate bytes) is e = e
  by (Left fate) is e = e

leaving-owes : (v : Visit ActionCall) (n : Version) → Owes (after_leaving v) n → Owes v n
leaving-owes v n = by v.work where
  by : (w : Work ActionCall) → owed_by (departed w) (settled v.way) v.facts.write ≡ Some n → owed_by w v.way v.facts.write ≡ Some n
  by Reading e = e
  by Opening e = e
  by (ServingBy tries program) e = e
  by (Committed place again shown) e = sym (settled-way v.way v.facts.write) ∙ e
  by (Decided became) e = absurd (cc)
  by (Answered fate bytes) e = absurd (cc)
  by (Left fate) e = absurd (cc)

-- what was drawn for an order, from no number drawn
abbrev pub Drawn : SeatGivens → SeatWorld → Order → Drawing
Drawn g w o = draws (service_in g w).numbers (drawn_for o) (record { words = 0; serials = 0 })

-- the nonce of this kind that was drawn for an order, where it draws one
pub drawn-between : (g : SeatGivens) (w : SeatWorld) (o : Order) (kind : DrawKind) → is_serial kind ≡ true → has kind (drawn_for o) ≡ true → (Drawn g w o).spent ≡ None
    → IsDrawnIn w (w.serial + (Drawn g w o).counts.serials) (nonce_of (service_in g w).home kind (Drawn g w o).drawn)
drawn-between g w o kind serial there none =
    let all : kinds_of (Drawn g w o).drawn ≡ drawn_for o = all-drawn (service_in g w).numbers (drawn_for o) (record { words = 0; serials = 0 }) none in
    let it : IsBetween (w.serial + 0) (w.serial + (Drawn g w o).counts.serials) (number_for kind (Drawn g w o).drawn) =
    between kind serial (w.serial + 0) (w.serial + (Drawn g w o).counts.serials) (Drawn g w o).drawn (rise w.word w.serial (drawn_for o) (record { words = 0; serials = 0 }))
    (subst (λ (ks : List DrawKind). has kind ks ≡ true) (sym all) there) in
    let above : w.serial + 0 ≤ number_for kind (Drawn g w o).drawn = it.above in
    record { node = refl; boot = refl; from = omega (arith, above); below = it.below }

drawn-differ : (g : SeatGivens) (w : SeatWorld) (o : Order) (cookie : Cookie) → o.cookie ≡ Some cookie → (Drawn g w o).spent ≡ None
    → number_for Read (Drawn g w o).drawn ≢ number_for Write (Drawn g w o).drawn
drawn-differ g w o cookie is none =
    let all : kinds_of (Drawn g w o).drawn ≡ drawn_for o = all-drawn (service_in g w).numbers (drawn_for o) (record { words = 0; serials = 0 }) none in
    differ (w.serial + 0) (w.serial + (Drawn g w o).counts.serials) (Drawn g w o).drawn (rise w.word w.serial (drawn_for o) (record { words = 0; serials = 0 }))
    (subst (λ (ks : List DrawKind). has Read ks ≡ true) (sym all) (read-in o cookie is))
    (subst (λ (ks : List DrawKind). has Write ks ≡ true) (sym all) (write-in o))

module _ (g : SeatGivens) (seat : Seat) (w : SeatWorld) where
  abbrev s : Shepherd ActionCall
  s = seat.connection

  abbrev E : ShepherdTurn → World ActionCall LaneLink
  E t = (event_at (givens_in g w) t (seen_by seat w)).0

  abbrev seen : LinkCounts
  seen = counted (lane_link_tally (record { lanes = w.store; active = seat.twin }))

  abbrev zero : Counts
  zero = record { words = 0; serials = 0 }

  admitted-owes : (o : Order) (head : Head) (n : Version) → (Drawn g w o).spent ≡ None
      → (let a : Admission = admission_of g.key (service_in g w).home o g.now (Drawn g w o).drawn in
      (cookie : Option Cookie) → write_owed (admitted_visit (facts_of a g.now s.front head) seen a cookie) ≡ Some n → IsDrawnIn w (w.serial + (Drawn g w o).counts.serials) n)
  admitted-owes o head n none None e =
      let is : nonce_of (service_in g w).home Write (Drawn g w o).drawn ≡ n = cc in
      subst (IsDrawnIn w (w.serial + (Drawn g w o).counts.serials)) is (drawn-between g w o Write refl (write-in o) none)
  admitted-owes o head n none (Some cookie) e =
      let is : nonce_of (service_in g w).home Write (Drawn g w o).drawn ≡ n = cc in
      subst (IsDrawnIn w (w.serial + (Drawn g w o).counts.serials)) is (drawn-between g w o Write refl (write-in o) none)

  request-owes : (n : Version) → write_owed (E turns.Request).connection.stage ≡ Some n → (write_owed s.stage ≡ Some n) ⊎ IsDrawnIn w (w.serial + (E turns.Request).drawn.serials) n
  unfolding take_request
  request-owes n = by (taken_of s.received) where
    spent : (o : Order) (head : Head) (x : Option ℕ) → (Drawn g w o).spent ≡ x
        → write_owed (begun_by s.front seen head g.now (arrival_by g.key (service_in g w).home o g.now (Drawn g w o).drawn x)) ≡ Some n
        → IsDrawnIn w (w.serial + (Drawn g w o).counts.serials) n
    spent o head (Some serial) is e = absurd (cc)
    spent o head None is e = admitted-owes o head n is o.cookie e

    decision : (head : Head) (d : Decision) → write_owed (begun_by s.front seen head g.now (arrives_by (service_in g w) g.now d zero).0) ≡ Some n
        → IsDrawnIn w (w.serial + (arrives_by (service_in g w) g.now d zero).1.serials) n
    decision head (decided.Refused why) e = absurd (cc)
    decision head (decided.Ordered o) e = spent o head (Drawn g w o).spent refl e

    by : (t : Taken) → write_owed (takes_by (service_in g w) seen g.now t s zero).0.stage ≡ Some n
        → (write_owed s.stage ≡ Some n) ⊎ IsDrawnIn w (w.serial + (takes_by (service_in g w) seen g.now t s zero).1.serials) n
    by (took.Request head) e = inr (decision head ((service_in g w).decides head) e)
    by took.Bad e = absurd (cc)
    by (took.TooLong len lines) e = absurd (cc)
    by took.NoCoding e = absurd (cc)
    by (took.BodyTooLong said) e = absurd (cc)
    by took.More e = inl e

  event-owes : (t : ShepherdTurn) (n : Version) → write_owed (E t).connection.stage ≡ Some n → (write_owed s.stage ≡ Some n) ⊎ IsDrawnIn w (w.serial + (E t).drawn.serials) n
  unfolding outside inside output_of
  event-owes turns.Bytes n e = inl e
  event-owes turns.Request n e = request-owes n e
  event-owes turns.Outside n e = inl (go s.stage e) where
    go : (stage : Stage ActionCall) → write_owed (steps_in (outside lane_replies lane_link_tally) stage (record { lanes = w.store; active = seat.twin })).0 ≡ Some n → write_owed stage ≡ Some n
    go Resting e = e
    go (Serving v call) e =
        let link : LaneLink = record { lanes = w.store; active = seat.twin } in
        sym (other-way v.work v.way (way_outside lane_replies v.way link).0 v.facts.write (outside-way v.way link v.facts.write)) ∙ e
    go (Refusing why bytes) e = e
    go (Over end) e = e
  event-owes turns.Windows n e = inl (go s.stage e) where
    go : (stage : Stage ActionCall) → write_owed (steps_in windows_step stage w.store.windows).0 ≡ Some n → write_owed stage ≡ Some n
    go Resting e = e
    go (Serving v call) e = windows-owes v w.store.windows n e
    go (Refusing why bytes) e = e
    go (Over end) e = e
  event-owes turns.Inside n e = inl (go s.stage e) where
    go : (stage : Stage ActionCall) → write_owed (steps_in (step_inside steps_of g.keeps) stage (w.boot, w.since)).0 ≡ Some n → write_owed stage ≡ Some n
    go Resting e = e
    go (Serving v call) e = inside-owes steps_of g.keeps v (untold w.boot w.since) n e
    go (Refusing why bytes) e = e
    go (Over end) e = e
  event-owes turns.Program n e = inl e
  event-owes turns.Own n e = inl e
  event-owes turns.Output n e = inl (go s.stage e) where
    go : (stage : Stage ActionCall) → write_owed (output_of stage).1 ≡ Some n → write_owed stage ≡ Some n
    go Resting e = e
    go (Serving v call) e = leaving-owes v n e
    go (Refusing why bytes) e = absurd (cc)
    go (Over end) e = e
  event-owes turns.Item n e = inl e
  event-owes (turns.Ended end) n e = inl e

  -- A write that is owed behind a step was owed before it, or drawn in it.
  pub step-owes : (n : Version) → write_owed (seat_step g seat w).seat.connection.stage ≡ Some n
      → (write_owed seat.connection.stage ≡ Some n) ⊎ IsDrawnIn w (seat_step g seat w).world.serial n
  unfolding seat_step step
  step-owes n e = event-owes (turn s) n (gone-owes (making_by g) (E (turn s)).connection n e)

  -- what an event that begins a call does: its nonce was owed, or is drawn now, and is not owed behind it
  record Begun (t : ShepherdTurn) (nonce : Version) : Type 0 where
    from : (write_owed s.stage ≡ Some nonce) ⊎ IsDrawnIn w (w.serial + (E t).drawn.serials) nonce
    over : write_owed (E t).connection.stage ≢ Some nonce

  abbrev Begins : ShepherdTurn → Type 0
  Begins t = (held : Call) → call_held (way_in (E t).connection.stage) ≡ Some held → Begun t (nonce_of_call held)

  -- a way that holds nothing, as before, begins none
  none-begins : (t : ShepherdTurn) → call_held (way_in (E t).connection.stage) ≡ None → Begins t
  none-begins t none held is = absurd (let clash : None ≡ Some held = sym none ∙ is in cc)

  admitted-begins : (o : Order) (head : Head) (held : Call) → (Drawn g w o).spent ≡ None
      → (let a : Admission = admission_of g.key (service_in g w).home o g.now (Drawn g w o).drawn in
      (cookie : Option Cookie) → o.cookie ≡ cookie → call_held (way_in (admitted_visit (facts_of a g.now s.front head) seen a cookie)) ≡ Some held
      → IsDrawnIn w (w.serial + (Drawn g w o).counts.serials) (nonce_of_call held) × (write_owed (admitted_visit (facts_of a g.now s.front head) seen a cookie) ≢ Some (nonce_of_call held)))
  admitted-begins o head held none None is e = absurd (cc)
  admitted-begins o head held none (Some cookie) is e =
      let a : Admission = admission_of g.key (service_in g w).home o g.now (Drawn g w o).drawn in
      let same : held ≡ call.Read (read_start g.now a.read cookie) = cc in
      let nonce : nonce_of_call held ≡ nonce_of (service_in g w).home Read (Drawn g w o).drawn = ap nonce_of_call same in (
        subst (IsDrawnIn w (w.serial + (Drawn g w o).counts.serials)) (sym nonce) (drawn-between g w o Read refl (read-in o cookie is) none),
        (λ owed.
            let both : nonce_of (service_in g w).home Write (Drawn g w o).drawn ≡ nonce_of_call held = cc in
            drawn-differ g w o cookie is none (ap (λ (v : Version). v.serial) (sym (both ∙ nonce)))),
      )

  request-begins : call_held (way_in s.stage) ≡ None → Begins turns.Request
  unfolding take_request
  request-begins free held e = let it = by (taken_of s.received) e in record { from = inr it.0; over = it.1 } where
    spent : (o : Order) (head : Head) (x : Option ℕ) → (Drawn g w o).spent ≡ x
        → (let stage : Stage ActionCall = begun_by s.front seen head g.now (arrival_by g.key (service_in g w).home o g.now (Drawn g w o).drawn x) in
        call_held (way_in stage) ≡ Some held → IsDrawnIn w (w.serial + (Drawn g w o).counts.serials) (nonce_of_call held) × (write_owed stage ≢ Some (nonce_of_call held)))
    spent o head (Some serial) is e = absurd (cc)
    spent o head None is e = admitted-begins o head held is o.cookie refl e

    decision : (head : Head) (d : Decision) → (let stage : Stage ActionCall = begun_by s.front seen head g.now (arrives_by (service_in g w) g.now d zero).0 in
        call_held (way_in stage) ≡ Some held → IsDrawnIn w (w.serial + (arrives_by (service_in g w) g.now d zero).1.serials) (nonce_of_call held) × (write_owed stage ≢ Some (nonce_of_call held)))
    decision head (decided.Refused why) e = absurd (cc)
    decision head (decided.Ordered o) e = spent o head (Drawn g w o).spent refl e

    by : (t : Taken) → call_held (way_in (takes_by (service_in g w) seen g.now t s zero).0.stage) ≡ Some held
        → IsDrawnIn w (w.serial + (takes_by (service_in g w) seen g.now t s zero).1.serials) (nonce_of_call held)
        × (write_owed (takes_by (service_in g w) seen g.now t s zero).0.stage ≢ Some (nonce_of_call held))
    by (took.Request head) e = decision head ((service_in g w).decides head) e
    by took.Bad e = absurd (cc)
    by (took.TooLong len lines) e = absurd (cc)
    by took.NoCoding e = absurd (cc)
    by (took.BodyTooLong said) e = absurd (cc)
    by took.More e = absurd (let clash : None ≡ Some held = sym free ∙ e in cc)

  -- the order of a write is that of its request
  ordered-so : (begin : Option ReadState) (es : List Entry) (v : Visit ActionCall) (order : WriteOrder) → v.way ≡ way.Ordered order
      → SessionOf LaneLinkMakes begin es v.facts v.lease v.cookie v.way v.work → (place : Place) × (again : Bool) × (shown : Shown) × (v.work ≡ Committed place again shown) × (order.nonce ≡ v.facts.write)
  ordered-so begin es v order is so = by v.work refl (subst (λ (to : SessionWay). SessionOf LaneLinkMakes begin es v.facts v.lease v.cookie to v.work) is so) where
    clash : way.Ordered order ≡ way.Resting → ⊥
    clash e = cc

    fate : (HeldSo : WriteOrder → Result Cookie WriteRefusal → Type 0) → ((x : WriteOrder) (y : Result Cookie WriteRefusal) → HeldSo x y → ⊥) → (f : Fate) → FateTold LaneLinkMakes begin es v.facts v.lease v.cookie (way.Ordered order) HeldSo f → ⊥
    fate HeldSo none (Known became) x = clash x.1
    fate HeldSo none (FateWriting place again) x = none x.2.order x.2.answer x.2.held_so

    by : (w : Work ActionCall) → v.work ≡ w → SessionOf LaneLinkMakes begin es v.facts v.lease v.cookie (way.Ordered order) w
        → (place : Place) × (again : Bool) × (shown : Shown) × (v.work ≡ Committed place again shown) × (order.nonce ≡ v.facts.write)
    by Reading at x = absurd (x.2)
    by Opening at x = absurd (clash x.2)
    by (ServingBy tries program) at x = absurd (clash x.2)
    by (Committed place again shown) at x = (place, again, shown, at, ap (λ (o : WriteOrder). o.nonce) x.2.writes ∙ x.2.is_order.nonce_is)
    by (Decided became) at x = absurd (clash x.1)
    by (Answered f bytes) at x = absurd (fate (HasAnswer LaneLinkMakes (way.Ordered order)) (λ a b e. e) f x)
    by (Left f) at x = absurd (fate (SettlesWith LaneLinkMakes (way.Ordered order)) (λ a b e. e) f x)

  -- a write begins by its order
  way-begins : (v : Visit ActionCall) (held : Call) → call_held v.way ≡ None
      → ((order : WriteOrder) → v.way ≡ way.Ordered order → HasOrdered v order)
      → call_held (windows_step v w.store.windows).0.way ≡ Some held → Owes v (nonce_of_call held) × (Owes (windows_step v w.store.windows).0 (nonce_of_call held) → ⊥)
  unfolding windows_step
  way-begins v held free so = by v.way refl where
    rests : (windows : WindowsValue) → call_held (goes v way.Resting windows).0.way ≡ Some held → ⊥
    rests windows e = let clash : None ≡ Some held = sym (ap call_held (after-way (outcome_of (answer_held v.way)) (record v { way = way.Resting }))) ∙ e in cc

    held-none : call_held v.way ≡ Some held → ⊥
    held-none e = let clash : None ≡ Some held = sym free ∙ e in cc

    begins : (order : WriteOrder) → v.way ≡ way.Ordered order
        → (let windows : WindowsValue = w.store.windows in let to : SessionWay = way.Writing (write_begun order windows.wq (passes_for order windows)) in let after : Visit ActionCall = (goes v to (taken windows (passes_for order windows))).0 in
        call_held after.way ≡ Some held → Owes v (nonce_of_call held) × (Owes after (nonce_of_call held) → ⊥))
    begins order is e =
        let windows : WindowsValue = w.store.windows in
        let to : SessionWay = way.Writing (write_begun order windows.wq (passes_for order windows)) in
        let is_held : call_held to ≡ Some held = sym (ap call_held (after-way (outcome_of (answer_held v.way)) (record v { way = to }))) ∙ e in
        let same : held ≡ call.Write (write_begun order windows.wq (passes_for order windows)).write = cc in
        let nonce : nonce_of_call held ≡ order.nonce = ap nonce_of_call same in
        let ordered : HasOrdered v order = so order is in
        let work : v.work ≡ Committed ordered.place ordered.again ordered.shown = ordered.committed in (
          ap (λ (x : Work ActionCall). owed_by x v.way v.facts.write) work ∙ (ap (λ (x : SessionWay). if_ordered x v.facts.write) is ∙ ap (λ (n : Version). Some n) (sym (nonce ∙ ordered.nonce))),
          (λ owed.
              let before : owed_by v.work to v.facts.write ≡ Some (nonce_of_call held) = told-owes (outcome_of (answer_held v.way)) (record v { way = to }) (nonce_of_call held) owed in
              let clash : None ≡ Some (nonce_of_call held) = sym (ap (λ (x : Work ActionCall). owed_by x to v.facts.write) work) ∙ before in
              cc),
        )

    by : (x : SessionWay) → v.way ≡ x → call_held (windows_by v x w.store.windows).0.way ≡ Some held
        → Owes v (nonce_of_call held) × (Owes (windows_by v x w.store.windows).0 (nonce_of_call held) → ⊥)
    by way.Resting is e = absurd (held-none e)
    by (way.Reading r) is e = absurd (held-none e)
    by (way.Ordered order) is e = takes (nat_lt (open_count w.store.windows.facts) w.store.windows.wq) e where
      takes : (b : Bool) → (let after : Visit ActionCall = (if b then (record v { way = way.Resting; work = overloaded (full_facts w.store.windows.facts) v.work }, refused w.store.windows)
          else goes v (way.Writing (write_begun order w.store.windows.wq (passes_for order w.store.windows))) (taken w.store.windows (passes_for order w.store.windows))).0 in
          call_held after.way ≡ Some held → Owes v (nonce_of_call held) × (Owes after (nonce_of_call held) → ⊥))
      takes true e = absurd (cc)
      takes false e = begins order is e
    by (way.Writing x) is e = absurd (held-none e)
    by (way.Settling x) is e = absurd (rests (after_spend w.store.windows (passes_spent x)) e)
    by (way.Holding passes) is e = absurd (rests (after_spend w.store.windows (map hushed passes)) e)

  -- what holds no call holds none once it is settled
  settled-none : (to : SessionWay) → call_held to ≡ None → call_held (settled to) ≡ None
  settled-none way.Resting none = refl
  settled-none (way.Reading r) none = none
  settled-none (way.Ordered order) none = refl
  settled-none (way.Writing x) none = none
  settled-none (way.Settling x) none = none
  settled-none (way.Holding passes) none = refl

  stays-none : (old new : SessionWay) → Stays old new → call_held old ≡ None → call_held new ≡ None
  stays-none old new (inl none) free = none
  stays-none old new (inr same) free = ap call_held same ∙ free

  event-begins : (t : ShepherdTurn) → turn s ≡ t → call_held (way_in s.stage) ≡ None → (turn s ≡ turns.Windows → OrdersOwn s.stage) → Begins t
  unfolding outside inside output_of
  event-begins turns.Bytes at free so held e = none-begins turns.Bytes free held e
  event-begins turns.Request at free so held e = request-begins free held e
  event-begins turns.Outside at free so held e = absurd (go s.stage (open-outside s at) free) where
    go : (stage : Stage ActionCall) → OpenOutside stage → call_held (way_in stage) ≡ None → ⊥
    go Resting wanting none = wanting
    go (Serving v call) wanting none = outside-holds v.way wanting none
    go (Refusing why bytes) wanting none = wanting
    go (Over end) wanting none = wanting
  event-begins turns.Windows at free so held e = let it = go s.stage free (so at) e in record { from = inl it.0; over = it.1 } where
    go : (stage : Stage ActionCall) → call_held (way_in stage) ≡ None → OrdersOwn stage → (let after : Stage ActionCall = (steps_in windows_step stage w.store.windows).0 in
        call_held (way_in after) ≡ Some held → (write_owed stage ≡ Some (nonce_of_call held)) × (write_owed after ≢ Some (nonce_of_call held)))
    go Resting none stands e = absurd (cc)
    go (Serving v call) none stands e = way-begins v held none stands e
    go (Refusing why bytes) none stands e = absurd (cc)
    go (Over end) none stands e = absurd (cc)
  event-begins turns.Inside at free so held e = none-begins turns.Inside (go s.stage free) held e where
    go : (stage : Stage ActionCall) → call_held (way_in stage) ≡ None → call_held (way_in (steps_in (step_inside steps_of g.keeps) stage (w.boot, w.since)).0) ≡ None
    go Resting none = none
    go (Serving v call) none =
        stays-none v.way (inside_of steps_of g.keeps v v.work (untold w.boot w.since)).visit.way (inside-stays steps_of g.keeps v v.work (untold w.boot w.since)) none
    go (Refusing why bytes) none = none
    go (Over end) none = none
  event-begins turns.Program at free so held e = none-begins turns.Program free held e
  event-begins turns.Own at free so held e = none-begins turns.Own free held e
  event-begins turns.Output at free so held e = none-begins turns.Output (go s.stage free) held e where
    go : (stage : Stage ActionCall) → call_held (way_in stage) ≡ None → call_held (way_in (output_of stage).1) ≡ None
    go Resting none = none
    go (Serving v call) none = settled-none v.way none
    go (Refusing why bytes) none = refl
    go (Over end) none = none
  event-begins turns.Item at free so held e = none-begins turns.Item free held e
  event-begins (turns.Ended end) at free so held e = none-begins (turns.Ended end) free held e

  -- A call that begins in a step has a nonce that was owed, or drawn in it, and that is not owed behind it.
  step-begins : call_held (way_in s.stage) ≡ None → (turn s ≡ turns.Windows → OrdersOwn s.stage) → (held : Call) → call_held (way_in (seat_step g seat w).seat.connection.stage) ≡ Some held
      → BeginsWith g seat w (nonce_of_call held)
  unfolding seat_step step
  step-begins free so held e = by (gone-in (making_by g) (E (turn s)).connection) where
    by : Stays (way_in (E (turn s)).connection.stage) (way_in (gone_alone (making_by g) (E (turn s)).connection).0.stage) → BeginsWith g seat w (nonce_of_call held)
    by (inl none) = absurd (let clash : None ≡ Some held = sym none ∙ e in cc)
    by (inr same) =
        let it = event-begins (turn s) refl free so held (sym (ap call_held same) ∙ e) in
        record { from = it.from; over = λ owed. it.over (gone-owes (making_by g) (E (turn s)).connection (nonce_of_call held) owed) }

  -- a request that goes on has ordered only its own write
  open-orders : (container : ContainerValue) (stage : Stage ActionCall) → IfOpen stage (OpenGoesOn IsAccepted steps_of LaneLinkMakes container) → OrdersOwn stage
  open-orders container Resting goes = tt
  open-orders container (Serving v call) goes = λ order is.
      let session = ordered-so goes.begin (entries_in (take v.holds.held (events_of container))) v order is goes.session.so in
      record { place = session.0; again = session.1; shown = session.2; committed = session.3; nonce = session.4 }
  open-orders container (Refusing why bytes) goes = tt
  open-orders container (Over end) goes = tt

  wants-none : turn s ≡ turns.Windows → s.wants_memory ≡ false
  wants-none = go s.wants_memory where
    go : (b : Bool) → (if b then turns.Ended ends.OutOfMemory else stage_turn s.stage s.received s.ended) ≡ turns.Windows → b ≡ false
    go true e = absurd (cc)
    go false e = refl

  -- the same of a seat that stands, and has ordered only its own write
  pub orders-begins : (held : Call) → SeatStands seat w.store → OrdersOwn s.stage → seat.twin ≡ None
      → call_held (way_in (seat_step g seat w).seat.connection.stage) ≡ Some held → BeginsWith g seat w (nonce_of_call held)
  orders-begins held stands orders none e =
      step-begins (subst (λ (twin : Option ℕ). HasTwin (way_in seat.connection.stage) twin w.store) none stands.twin) (λ at. orders) held e

  -- and of one that stands and goes on
  pub stands-begins : (container : ContainerValue) (held : Call) → SeatStands seat w.store → GoesOnAtSeat container seat.connection → seat.twin ≡ None
      → call_held (way_in (seat_step g seat w).seat.connection.stage) ≡ Some held → BeginsWith g seat w (nonce_of_call held)
  stands-begins container held stands goes none e =
      step-begins (subst (λ (twin : Option ℕ). HasTwin (way_in seat.connection.stage) twin w.store) none stands.twin)
      (λ at. open-orders container s.stage (goes.goes_on (wants-none at)).opened) held e
