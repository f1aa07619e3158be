-- What a connection does by itself leaves what it does with its session as it is, or ends it.
use Rattle.std.proofs.Common.{◌≡◌, ◌⊎◌, inl, inr, ◌∙◌, ℕ, Bool, true, false, List, Option, Some, None, refl, ap}
use Rattle.auction_calls.specs.declared.action.ActionCall.{ActionCall}
use Rattle.call_ticket.specs.declared.next.Answer.{Answer}
use Rattle.call_ticket.specs.declared.next.Next.{Next}
use Rattle.container_core.specs.Container.{ContainerValue, events_of}
use Rattle.crash_base.specs.declared.numbers.Place.{Place}
use Rattle.lane_link.specs.Twins.{call_held}
use Rattle.request_visit.specs.Serving.{closing_of}
use Rattle.request_visit.specs.Stepping.{after_closing, left_so, shown_so}
use Rattle.request_visit.specs.declared.ready.Ready.{Ready}
use Rattle.request_visit.specs.declared.ready.Ready.TheVariants.{Respond, Write}
use Rattle.request_visit.specs.declared.serving.Closed.{Closed}
use Rattle.request_visit.specs.declared.serving.Closed.TheVariants as closes
use Rattle.request_visit.specs.declared.serving.Closing.{Closing}
use Rattle.request_visit.specs.declared.visit.Visit.{Visit}
use Rattle.request_visit.specs.declared.visit.Work.{Work}
use Rattle.request_visit.specs.declared.visit.Work.TheVariants.{Reading, Opening, Serving as ServingBy, Committed, Decided, Answered, Left}
use Rattle.session_way.specs.declared.session_read.ReadOutcome.{ReadOutcome}
use Rattle.session_way.specs.declared.session_read.ReadOutcome.TheVariants as read
use Rattle.session_way.specs.declared.way.SessionWay.{SessionWay}
use Rattle.session_way.specs.declared.way.SessionWay.TheVariants as way
use Rattle.shepherd.specs.Shepherds.{turn}
use Rattle.shepherd.specs.Steps.{rested}
use Rattle.shepherd.specs.declared.shepherd.Shepherd.{Shepherd}
use Rattle.shepherd.specs.declared.shepherd.ShepherdTurn.{ShepherdTurn}
use Rattle.shepherd.specs.declared.shepherd.ShepherdTurn.TheVariants as turns
use Rattle.shepherd.specs.declared.shepherd.Stage.{Stage}
use Rattle.shepherd.specs.declared.shepherd.Stage.TheVariants.{Resting, Serving, Refusing, Over}
use Rattle.shepherd_steps.specs.Alone.{Making, alone, alone_at, gone_alone, own_stage}
use Rattle.shepherd_steps.specs.Inside.{Course, Ends, Goes, Stride, after_course, inside_of, stride}
use Rattle.shepherd_steps.specs.Leaving.{item_by, item_taken}
use Rattle.shepherd_steps.specs.Opening.{open_stage}
use Rattle.shepherd_steps.specs.Own.{heard_read, outcome_of_read, own, own_by, told_read}
use Rattle.seat_steps.specs.Twinned.{way_in}

-- a way that holds nothing, or that is as it was
abbrev pub Stays : SessionWay → SessionWay → Type 0
Stays old new = (call_held new ≡ None) ⊎ (new ≡ old)

-- a way that rests, or that is as it was
abbrev pub RestsOrStays : SessionWay → SessionWay → Type 0
RestsOrStays old new = (new ≡ way.Resting) ⊎ (new ≡ old)

told-stays : (o : Option ReadOutcome) (v : Visit ActionCall) → RestsOrStays v.way (told_read o v).way
told-stays None v = inr refl
told-stays (Some (read.Found lease)) v = inl refl
told-stays (Some (read.Expired now expiry)) v = inl refl
told-stays (Some (read.Lost causes)) v = inl refl

own-stays : (key : List ℕ) (v : Visit ActionCall) → RestsOrStays v.way (own key v).way
unfolding own
own-stays key v = by v.work where
  heard : (to : SessionWay) → RestsOrStays v.way (heard_read to v).way
  heard way.Resting = inr refl
  heard (way.Reading r) = told-stays (outcome_of_read r) v
  heard (way.Ordered order) = inr refl
  heard (way.Writing w) = inr refl
  heard (way.Settling w) = inr refl
  heard (way.Holding passes) = inr refl

  by : (w : Work ActionCall) → RestsOrStays v.way (own_by key v w).way
  by Reading = heard v.way
  by Opening = inr refl
  by (ServingBy tries program) = inr refl
  by (Committed place again shown) = inr refl
  by (Decided became) = inr refl
  by (Answered fate bytes) = inr refl
  by (Left fate) = inr refl

rested-none : (close : Bool) → way_in (rested close) ≡ way.Resting
rested-none true = refl
rested-none false = refl

own-in : (key : List ℕ) (stage : Stage ActionCall) → RestsOrStays (way_in stage) (way_in (own_stage key stage))
own-in key Resting = inr refl
own-in key (Serving v call) = own-stays key v
own-in key (Refusing why bytes) = inr refl
own-in key (Over end) = inr refl

open-in : (m : Making ActionCall) (stage : Stage ActionCall) → RestsOrStays (way_in stage) (way_in (open_stage m.made m.worker stage))
unfolding open_stage
open-in m Resting = inr refl
open-in m (Serving v None) = inr refl
open-in m (Serving v (Some asked)) = inr refl
open-in m (Refusing why bytes) = inr refl
open-in m (Over end) = inr refl

item-in : (s : Shepherd ActionCall) → RestsOrStays (way_in s.stage) (way_in (item_taken s).0.stage)
unfolding item_taken
item-in s = by s.stage refl where
  by : (stage : Stage ActionCall) → s.stage ≡ stage → RestsOrStays (way_in s.stage) (way_in (item_by s stage).0.stage)
  by Resting is = inr refl
  by (Serving v call) is = inl (rested-none v.facts.close)
  by (Refusing why bytes) is = inr refl
  by (Over end) is = inr refl

once-in : (m : Making ActionCall) (s : Shepherd ActionCall) → RestsOrStays (way_in s.stage) (way_in (alone m s).0.stage)
unfolding alone
once-in m s = by (turn s) where
  by : (t : ShepherdTurn) → RestsOrStays (way_in s.stage) (way_in (alone_at m t s).0.stage)
  by turns.Bytes = inr refl
  by turns.Request = inr refl
  by turns.Outside = inr refl
  by turns.Windows = inr refl
  by turns.Inside = inr refl
  by turns.Program = open-in m s.stage
  by turns.Own = own-in m.key s.stage
  by turns.Output = inr refl
  by turns.Item = item-in s
  by (turns.Ended end) = inr refl

stays-on : (a b c : SessionWay) → RestsOrStays a b → RestsOrStays b c → RestsOrStays a c
stays-on a b c first (inl none) = inl none
stays-on a b c (inl none) (inr same) = inl (same ∙ none)
stays-on a b c (inr is) (inr same) = inr (same ∙ is)

-- So it is until others are to step.
pub gone-rests : (m : Making ActionCall) (s : Shepherd ActionCall) → RestsOrStays (way_in s.stage) (way_in (gone_alone m s).0.stage)
unfolding gone_alone
gone-rests m s =
    stays-on (way_in s.stage) (way_in (alone m s).0.stage) (way_in (alone m (alone m s).0).0.stage) (once-in m s) (once-in m (alone m s).0)

pub gone-in : (m : Making ActionCall) (s : Shepherd ActionCall) → Stays (way_in s.stage) (way_in (gone_alone m s).0.stage)
gone-in m s = by (gone-rests m s) where
  by : RestsOrStays (way_in s.stage) (way_in (gone_alone m s).0.stage) → Stays (way_in s.stage) (way_in (gone_alone m s).0.stage)
  by (inl rests) = inl (ap call_held rests)
  by (inr same) = inr same

closing-stays : (closing : Closing) (v : Visit ActionCall) → Stays v.way (after_closing closing v).way
closing-stays closing v = by closing.closed where
  shown : (place : Place) (again : Bool) (ready : Ready) → Stays v.way (shown_so place again ready (record v { holds = closing.holds })).way
  shown place again (Respond bytes) = inr refl
  shown place again (Write order what) = inl refl

  by : (closed : Closed) → Stays v.way (left_so closed (record v { holds = closing.holds })).way
  by (closes.Page place again ready) = shown place again ready
  by (closes.Other became) = inr refl

course-stays : (v : Visit ActionCall) (program : ActionCall) (c : ContainerValue) (course : Course) → Stays v.way (after_course v program c course).way
course-stays v program c (Goes tries) = inr refl
course-stays v program c (Ends end) = closing-stays (closing_of v.facts v.lease (events_of c) end) v

-- nor does a step in the container begin a call
pub inside-stays : (asks : ActionCall → List Answer → Next) (keeps : Bool) (v : Visit ActionCall) (w : Work ActionCall) (c : ContainerValue) → Stays v.way (inside_of asks keeps v w c).visit.way
inside-stays asks keeps v Reading c = inr refl
inside-stays asks keeps v Opening c = inr refl
inside-stays asks keeps v (ServingBy tries program) c =
    let s : Stride = stride (asks program) keeps c tries tries.attempt in course-stays v program s.container s.course
inside-stays asks keeps v (Committed place again shown) c = inr refl
inside-stays asks keeps v (Decided became) c = inr refl
inside-stays asks keeps v (Answered fate bytes) c = inr refl
inside-stays asks keeps v (Left fate) c = inr refl
