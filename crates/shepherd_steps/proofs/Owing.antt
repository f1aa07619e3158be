-- After a step the call of a request is still there until its program is made, and what a connection owes is still
-- owed.
use Rattle.std.proofs.Common.{◌≡◌, ◌≢◌, ◌==◌, ℕ, Bool, true, false, not, if◌then◌else◌, List, Option, Some, None, refl, sym, ap, ◌∙◌, subst, length}
use Rattle.boot_core.specs.Boot.{BootValue}
use Rattle.container_core.specs.declared.history.Event.{Event}
use Rattle.crash_base.specs.declared.numbers.Moment.{Moment}
use Rattle.crash_base.specs.declared.numbers.Place.{Place}
use Rattle.http_wire.specs.Taking.{settles, taken_of}
use Rattle.http_wire.specs.declared.taken.Head.{Head}
use Rattle.http_wire.specs.declared.taken.Taken.{Taken}
use Rattle.http_wire.specs.declared.taken.Taken.TheVariants as took
use Rattle.outside.specs.declared.link.LinkCounts.{LinkCounts}
use Rattle.request_intake.specs.declared.intake.Admission.{Admission}
use Rattle.request_intake.specs.declared.intake.Arrival.{Arrival}
use Rattle.request_intake.specs.declared.intake.Arrival.TheVariants as arrives
use Rattle.request_visit.specs.Advancing.{departed}
use Rattle.request_visit.specs.Stepping.{counted}
use Rattle.request_visit.specs.Visits.{or_own, turn as visit_turn, turn_by as visit_turn_by}
use Rattle.request_visit.specs.declared.facts.VisitFacts.{VisitFacts}
use Rattle.request_visit.specs.declared.visit.Turn.{Turn}
use Rattle.request_visit.specs.declared.visit.Turn.TheVariants as visit
use Rattle.request_visit.specs.declared.visit.Visit.{Visit}
use Rattle.request_visit.specs.declared.visit.Work.{Work}
use Rattle.request_visit.specs.declared.visit.Work.TheVariants.{Reading, Opening, Serving as ServingBy, Committed, Decided, Answered, Left}
use Rattle.send_windows.specs.Windows.{WindowsValue}
use Rattle.session_cookie.specs.declared.cookie.Cookie.{Cookie}
use Rattle.session_way.specs.Way.{wants}
use Rattle.session_way.specs.declared.session_read.ReadOutcome.{ReadOutcome}
use Rattle.session_way.specs.declared.session_read.ReadOutcome.TheVariants as read
use Rattle.session_way.specs.declared.way.SessionWay.{SessionWay}
use Rattle.session_way.specs.declared.way.SessionWay.TheVariants as way
use Rattle.session_way.specs.declared.way.Wants.{Wants}
use Rattle.session_way.specs.declared.way.Wants.TheVariants as wanted
use Rattle.shepherd.specs.Shepherds.{stage_turn, turn, turn_by}
use Rattle.shepherd.specs.Standing.{has_left, is_early}
use Rattle.shepherd.specs.Steps.{OnVisit, admitted_visit, begun_by, facts_of}
use Rattle.shepherd.specs.declared.shepherd.AskedCall.{AskedCall}
use Rattle.shepherd.specs.declared.shepherd.EndKind.TheVariants as ends
use Rattle.shepherd.specs.declared.shepherd.Shepherd.{Shepherd}
use Rattle.shepherd.specs.declared.shepherd.ShepherdTurn.{ShepherdTurn}
use Rattle.shepherd.specs.declared.shepherd.ShepherdTurn.TheVariants as turns
use Rattle.shepherd.specs.declared.shepherd.Stage.{Stage}
use Rattle.shepherd.specs.declared.shepherd.Stage.TheVariants.{Resting, Serving, Refusing, Over}
use Rattle.shepherd_steps.specs.Alone.{HasCall, Making, alone, alone_at, goes_alone, gone_alone, own_stage}
use Rattle.shepherd_steps.specs.Events.{event_of, owes}
use Rattle.shepherd_steps.specs.Leaving.{item_by, item_taken, output_of}
use Rattle.shepherd_steps.specs.Opening.{open_stage}
use Rattle.shepherd_steps.specs.Outside.{outside}
use Rattle.shepherd_steps.specs.Own.{heard_read, outcome_of_read, own, own_by, told_read}
use Rattle.shepherd_steps.specs.Passes.{windows_step}
use Rattle.shepherd_steps.specs.Stepping.{Givens, World, event_at, step, step_inside}
use Rattle.shepherd_steps.specs.Taking.{Counts, Service, arrives_by, take_request, takes_by}
use Rattle.shepherd_steps.proofs.AloneEnds.{alone-less, alone-stays}
use Rattle.shepherd_steps.proofs.GoingAlone.{turned-so}
use Rattle.shepherd_steps.proofs.SameWork.{inside-same, outside-same, steps-called, steps-owe, windows-same}

-- a request that was taken has its call, if it is to be served, and owes its response
abbrev Begun : {P : Type 0} → Stage P → Type 0
Begun stage = HasCall stage × (owes stage ≡ true)

admitted-begun : (P : Type 0) (facts : VisitFacts) (counts : LinkCounts) (a : Admission) (cookie : Option Cookie) → Begun (admitted_visit {P = P} facts counts a cookie)
admitted-begun P facts counts a None = ((λ early is. cc), refl)
admitted-begun P facts counts a (Some cookie) = ((λ early is. cc), refl)

arrival-begun : (P : Type 0) (front : Place) (counts : LinkCounts) (head : Head) (now : Moment) (arrival : Arrival) → Begun (begun_by {P = P} front counts head now arrival)
arrival-begun P front counts head now (arrives.Refused why) = ((λ early. absurd (cc)), refl)
arrival-begun P front counts head now (arrives.SerialsSpent request seen) = ((λ early. absurd (cc)), refl)
arrival-begun P front counts head now (arrives.Admitted a) =
    admitted-begun P (facts_of a now front head) counts a a.cookie

taken-begun : {P : Type 0} (service : Service) (seen : LinkCounts) (now : Moment) (taken : Taken) (s : Shepherd P) (counts : Counts) → settles taken ≡ true
    → Begun (takes_by service seen now taken s counts).0.stage
taken-begun {P} service seen now (took.Request head) s counts is =
    arrival-begun P s.front seen head now (arrives_by service now (service.decides head) counts).0
taken-begun service seen now took.Bad s counts is = (tt, refl)
taken-begun service seen now (took.TooLong len lines) s counts is = (tt, refl)
taken-begun service seen now took.NoCoding s counts is = (tt, refl)
taken-begun service seen now (took.BodyTooLong said) s counts is = (tt, refl)
taken-begun service seen now took.More s counts is = absurd (cc)

-- the same of a connection that takes what its bytes begin with, whatever they are
taken-called : {P : Type 0} (service : Service) (seen : LinkCounts) (now : Moment) (taken : Taken) (s : Shepherd P) (counts : Counts) → HasCall s.stage
    → HasCall (takes_by service seen now taken s counts).0.stage
taken-called service seen now (took.Request head) s counts has =
    (taken-begun service seen now (took.Request head) s counts refl).0
taken-called service seen now took.Bad s counts has = tt
taken-called service seen now (took.TooLong len lines) s counts has = tt
taken-called service seen now took.NoCoding s counts has = tt
taken-called service seen now (took.BodyTooLong said) s counts has = tt
taken-called service seen now took.More s counts has = has

taken-owes : {P : Type 0} (service : Service) (seen : LinkCounts) (now : Moment) (taken : Taken) (s : Shepherd P) (counts : Counts) → owes s.stage ≡ true
    → owes (takes_by service seen now taken s counts).0.stage ≡ true
taken-owes service seen now (took.Request head) s counts still =
    (taken-begun service seen now (took.Request head) s counts refl).1
taken-owes service seen now took.Bad s counts still = refl
taken-owes service seen now (took.TooLong len lines) s counts still = refl
taken-owes service seen now took.NoCoding s counts still = refl
taken-owes service seen now (took.BodyTooLong said) s counts still = refl
taken-owes service seen now took.More s counts still = still

-- a request whose response leaves is as early as before
left-early : {P : Type 0} (w : Work P) → is_early (departed w) ≡ is_early w
left-early Reading = refl
left-early Opening = refl
left-early (ServingBy tries program) = refl
left-early (Committed place again shown) = refl
left-early (Decided became) = refl
left-early (Answered fate bytes) = refl
left-early (Left fate) = refl

output-called : {P : Type 0} (stage : Stage P) → HasCall stage → HasCall (output_of stage).1
unfolding output_of
output-called Resting has = tt
output-called (Serving v call) has = λ early. has (sym (left-early v.work) ∙ early)
output-called (Refusing why bytes) has = tt
output-called (Over end) has = tt

event-called : {P L : Type 0} (g : Givens P L) (w : World P L) (t : ShepherdTurn) → HasCall w.connection.stage → HasCall (event_at g t w).0.connection.stage
unfolding take_request
event-called g w turns.Bytes has = has
event-called g w turns.Request has =
    taken-called g.service (counted (g.tally w.link)) g.now (taken_of w.connection.received) w.connection w.drawn has
event-called {P} {L} g w turns.Outside has =
    steps-called (outside g.replies g.tally) (λ (v : Visit P) (link : L). outside-same g.replies g.tally v link) w.connection.stage w.link has
event-called {P} g w turns.Windows has =
    steps-called windows_step (λ (v : Visit P) (windows : WindowsValue). windows-same v windows) w.connection.stage w.windows has
event-called {P} g w turns.Inside has =
    steps-called (step_inside g.asks g.keeps) (λ (v : Visit P) (x : BootValue × List Event). inside-same g.asks g.keeps v x.0 x.1) w.connection.stage (w.boot, w.since) has
event-called g w turns.Program has = has
event-called g w turns.Own has = has
event-called g w turns.Output has = output-called w.connection.stage has
event-called g w turns.Item has = has
event-called g w (turns.Ended end) has = has

event-owes : {P L : Type 0} (g : Givens P L) (w : World P L) (t : ShepherdTurn) → t ≢ turns.Output → owes w.connection.stage ≡ true → owes (event_at g t w).0.connection.stage ≡ true
unfolding take_request
event-owes g w turns.Bytes other still = still
event-owes g w turns.Request other still =
    taken-owes g.service (counted (g.tally w.link)) g.now (taken_of w.connection.received) w.connection w.drawn still
event-owes {P} {L} g w turns.Outside other still =
    steps-owe (outside g.replies g.tally) (λ (v : Visit P) (link : L). outside-same g.replies g.tally v link) w.connection.stage w.link ∙ still
event-owes {P} g w turns.Windows other still =
    steps-owe windows_step (λ (v : Visit P) (windows : WindowsValue). windows-same v windows) w.connection.stage w.windows ∙ still
event-owes {P} g w turns.Inside other still =
    steps-owe (step_inside g.asks g.keeps) (λ (v : Visit P) (x : BootValue × List Event). inside-same g.asks g.keeps v x.0 x.1) w.connection.stage (w.boot, w.since) ∙ still
event-owes g w turns.Program other still = still
event-owes g w turns.Own other still = still
event-owes g w turns.Output other still = absurd (other refl)
event-owes g w turns.Item other still = still
event-owes g w (turns.Ended end) other still = still

-- what a connection does by itself leaves its call, and puts nothing out
alone-called : {P : Type 0} (m : Making P) (s : Shepherd P) → HasCall s.stage → HasCall (alone m s).0.stage
alone-called {P} m s has = by (goes_alone (turn s)) refl where
  by : (b : Bool) → goes_alone (turn s) ≡ b → HasCall (alone m s).0.stage
  by true is = (alone-less m s is has).1
  by false is = subst (λ (x : Shepherd P). HasCall x.stage) (sym (alone-stays m s is)) has

open-owes : {P : Type 0} (m : Making P) (stage : Stage P) → owes stage ≡ true → owes (open_stage m.made m.worker stage) ≡ true
unfolding open_stage
open-owes m Resting still = still
open-owes m (Serving v None) still = still
open-owes m (Serving v (Some asked)) still = refl
open-owes m (Refusing why bytes) still = still
open-owes m (Over end) still = still

read-owes : {P : Type 0} (o : Option ReadOutcome) (v : Visit P) → not (has_left v.work) ≡ true → not (has_left (told_read o v).work) ≡ true
read-owes None v still = still
read-owes (Some (read.Found lease)) v still = refl
read-owes (Some (read.Expired now expiry)) v still = refl
read-owes (Some (read.Lost causes)) v still = refl

heard-owes : {P : Type 0} (v : Visit P) (w : SessionWay) → not (has_left v.work) ≡ true → not (has_left (heard_read w v).work) ≡ true
heard-owes v (way.Reading r) still = read-owes (outcome_of_read r) v still
heard-owes v way.Resting still = refl
heard-owes v (way.Ordered order) still = refl
heard-owes v (way.Writing w) still = refl
heard-owes v (way.Settling w) still = refl
heard-owes v (way.Holding passes) still = refl

work-owes : {P : Type 0} (key : List ℕ) (v : Visit P) (w : Work P) → v.work ≡ w → not (has_left w) ≡ true → not (has_left (own_by key v w).work) ≡ true
work-owes {P} key v Reading is still = heard-owes v v.way (ap (λ (x : Work P). not (has_left x)) is)
work-owes {P} key v Opening is still = ap (λ (x : Work P). not (has_left x)) is
work-owes {P} key v (ServingBy tries program) is still = ap (λ (x : Work P). not (has_left x)) is
work-owes key v (Committed place again shown) is still = refl
work-owes key v (Decided became) is still = refl
work-owes {P} key v (Answered fate bytes) is still = ap (λ (x : Work P). not (has_left x)) is
work-owes key v (Left fate) is still = absurd (cc)

own-owes : {P : Type 0} (key : List ℕ) (stage : Stage P) → owes stage ≡ true → owes (own_stage key stage) ≡ true
unfolding own
own-owes key Resting still = still
own-owes key (Serving v call) still = work-owes key v v.work refl still
own-owes key (Refusing why bytes) still = still
own-owes key (Over end) still = still

-- a request whose item can be taken owes nothing
not-own-item : (x : Wants) → turn_by (or_own x) ≡ turns.Item → ⊥
not-own-item wanted.Nothing e = cc
not-own-item wanted.Outside e = cc
not-own-item wanted.Windows e = cc

pub over-left : {P : Type 0} (w : Work P) (x : Wants) → turn_by (visit_turn_by w x) ≡ turns.Item → has_left w ≡ true
over-left Reading x e = absurd (not-own-item x e)
over-left Opening x e = absurd (cc)
over-left (ServingBy tries program) x e = absurd (cc)
over-left (Committed place again shown) x e = absurd (not-own-item x e)
over-left (Decided became) x e = absurd (cc)
over-left (Answered fate bytes) x e = absurd (cc)
over-left (Left fate) x e = refl

item-owes : {P : Type 0} (s : Shepherd P) (stage : Stage P) → OnVisit stage (λ (v : Visit P) (call : Option AskedCall). turn_by (visit_turn v) ≡ turns.Item)
    → owes stage ≡ true → owes (item_by s stage).0.stage ≡ true
item-owes s Resting turned still = absurd turned
item-owes s (Serving v call) turned still = absurd (let left = over-left v.work (wants v.way) turned in let none = ap not left in cc)
item-owes s (Refusing why bytes) turned still = absurd turned
item-owes s (Over end) turned still = absurd turned

alone-owes : {P : Type 0} (m : Making P) (s : Shepherd P) → owes s.stage ≡ true → owes (alone m s).0.stage ≡ true
unfolding alone item_taken
alone-owes {P} m s still = by (turn s) refl where
  by : (t : ShepherdTurn) → turn s ≡ t → owes (alone_at m t s).0.stage ≡ true
  by turns.Bytes is = still
  by turns.Request is = still
  by turns.Outside is = still
  by turns.Windows is = still
  by turns.Inside is = still
  by turns.Program is = open-owes m s.stage still
  by turns.Own is = own-owes m.key s.stage still
  by turns.Output is = still
  by turns.Item is = item-owes s s.stage (turned-so s turns.Item is refl) still
  by (turns.Ended end) is = still

-- a connection whose turn is to take a request has bytes that settle what they begin with
not-request : (x : Turn) → turn_by x ≡ turns.Request → ⊥
not-request visit.Outside e = cc
not-request visit.Windows e = cc
not-request visit.Inside e = cc
not-request visit.Program e = cc
not-request visit.Own e = cc
not-request visit.Output e = cc
not-request visit.Over e = cc

resting-settles : (settled ended empty : Bool)
    → (if settled then turns.Request else (if ended then (if empty then turns.Ended ends.Closed else turns.Ended ends.Cut) else turns.Bytes)) ≡ turns.Request
    → settled ≡ true
resting-settles true ended empty e = refl
resting-settles false true true e = absurd (cc)
resting-settles false true false e = absurd (cc)
resting-settles false false empty e = absurd (cc)

stage-settles : {P : Type 0} (s : Shepherd P) (stage : Stage P) → stage_turn stage s.received s.ended ≡ turns.Request → settles (taken_of s.received) ≡ true
stage-settles s Resting e = resting-settles (settles (taken_of s.received)) s.ended (length s.received == 0) e
stage-settles s (Serving v call) e = absurd (not-request (visit_turn v) e)
stage-settles s (Refusing why bytes) e = absurd (cc)
stage-settles s (Over end) e = absurd (cc)

request-settles : {P : Type 0} (s : Shepherd P) → turn s ≡ turns.Request → settles (taken_of s.received) ≡ true
request-settles {P} s is = by s.wants_memory is where
  by : (m : Bool) → (if m then turns.Ended ends.OutOfMemory else stage_turn s.stage s.received s.ended) ≡ turns.Request → settles (taken_of s.received) ≡ true
  by true e = absurd (cc)
  by false e = stage-settles s s.stage e

module _ {P L : Type 0} (g : Givens P L) (w : World P L) where
  -- what goes alone after the event
  gone-owes : (s : Shepherd P) → owes s.stage ≡ true → owes (gone_alone g.making s).0.stage ≡ true
  unfolding gone_alone
  gone-owes s still = alone-owes g.making (alone g.making s).0 (alone-owes g.making s still)

  gone-called : (s : Shepherd P) → HasCall s.stage → HasCall (gone_alone g.making s).0.stage
  unfolding gone_alone
  gone-called s has = alone-called g.making (alone g.making s).0 (alone-called g.making s has)

  pub step-called : HasCall w.connection.stage → HasCall (event_of g w).world.connection.stage × HasCall (step g w).world.connection.stage
  unfolding step event_of
  step-called has =
      let mid = event-called g w (turn w.connection) has in
      (mid, gone-called (event_at g (turn w.connection) w).0.connection mid)

  pub step-owes : turn w.connection ≢ turns.Output → owes w.connection.stage ≡ true → owes (step g w).world.connection.stage ≡ true
  unfolding step
  step-owes other still =
      gone-owes (event_at g (turn w.connection) w).0.connection (event-owes g w (turn w.connection) other still)

  request-owes : (t : ShepherdTurn) → t ≡ turns.Request → settles (taken_of w.connection.received) ≡ true → owes (event_at g t w).0.connection.stage ≡ true
  unfolding take_request
  request-owes t is settled =
      subst (λ (u : ShepherdTurn). owes (event_at g u w).0.connection.stage ≡ true) (sym is)
      (taken-begun g.service (counted (g.tally w.link)) g.now (taken_of w.connection.received) w.connection w.drawn settled).1

  pub step-begins : turn w.connection ≡ turns.Request → owes (step g w).world.connection.stage ≡ true
  unfolding step
  step-begins is =
      gone-owes (event_at g (turn w.connection) w).0.connection
      (request-owes (turn w.connection) is (request-settles w.connection is))
