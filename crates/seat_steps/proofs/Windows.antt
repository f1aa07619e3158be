-- The windows of lanes, while a way makes its calls.
use Rattle.std.proofs.Common.{◌≡◌, ◌∙◌, inl, inr, ℕ, ◌+◌, ◌-◌, Bool, true, false, IsTrue, if◌then◌else◌, nat_lt, List, [], ◌∷◌, length, Option, Some, None, Result, Ok, Err, refl, sym, ap, subst}
use Rattle.std.specs.Prelude.{slice_get, IfOk, OnOk, OnErr}
use Rattle.auction_calls.specs.declared.action.ActionCall.{ActionCall}
use Rattle.crash_base.specs.declared.numbers.BrickNo.{BrickNo}
use Rattle.lane_link.specs.Links.{LaneLinkMakes, SpellsPacket, heard_next, lane_link_tally, turned, turned_by, unwanted, wants_to_hear, wants_to_send}
use Rattle.lane_link.specs.declared.link.LaneLink.{LaneLink}
use Rattle.outside.specs.Link.{Made}
use Rattle.request_visit.specs.Stepping.{VisitsWindows}
use Rattle.request_visit.specs.declared.visit.Visit.{Visit}
use Rattle.send_windows.specs.Windows.{WindowsValue}
use Rattle.send_windows.specs.declared.windows.TakeRefusal.{TakeRefusal}
use Rattle.send_windows.specs.declared.windows.TakeRefusal.TheVariants as refusal
use Rattle.session_lanes.specs.Lane.{LaneState, lane_at, with_reply}
use Rattle.session_lanes.specs.Lanes.{HasLanes, LanesState, after_event, asks, hears, listens, turn_of, turn_to, with_lane}
use Rattle.session_lanes.specs.Lent.{LentState, with_windows, without_windows}
use Rattle.session_way.specs.Way.{IsRefused, StepsOutside, StepsWindows}
use Rattle.session_way.specs.declared.way.SessionWay.{SessionWay}
use Rattle.session_way.specs.declared.way.SessionWay.TheVariants as way
use Rattle.shepherd.specs.Steps.{ShepherdSteps, StepsVisit, VisitsOutside}
use Rattle.shepherd.specs.declared.shepherd.Shepherd.{Shepherd}
use Rattle.shepherd.specs.declared.shepherd.Stage.{Stage}
use Rattle.shepherd.specs.declared.shepherd.Stage.TheVariants.{Resting, Serving, Refusing, Over}
use Rattle.ssm_stub.specs.Runs.{call_of, fits, told_of}
use Rattle.ssm_stub.specs.declared.event.StubEvent.{StubEvent}
use Rattle.ssm_stub.specs.declared.event.StubEvent.TheVariants as event
use Rattle.ssm_stub.specs.declared.event.StubNext.{StubNext}
use Rattle.ssm_stub.specs.declared.event.StubNext.TheVariants as next
use Rattle.ssm_world.specs.Worlds.{next_of}
use Rattle.ssm_world.specs.declared.event.Packet.{Packet}
use Rattle.seat_steps.specs.Replies.{HearsSpelled, IsSpelled, packet_bytes}
use Rattle.seat_steps.specs.Twinned.{way_in}
use Rattle.seat_steps.proofs.Functions.{packet-spelled}
use Rattle.ssm_world.specs.declared.call.Call.{Call}
use Rattle.ssm_world.specs.declared.event.WorldEvent.TheVariants.{Send, Deliver}

-- a turn of a call leaves the windows as they are
turn-windows : (st : LanesState) (n : ℕ) (x : StubNext) → (turn_to st n x).windows ≡ st.windows
turn-windows st n (next.Send brick) = go (lane_at st.lanes brick.0) where
  either : (b : Bool) (one other : LanesState) → one.windows ≡ st.windows → other.windows ≡ st.windows → (if b then one else other).windows ≡ st.windows
  either true one other first second = first
  either false one other first second = second

  go : (o : Option LaneState) → (asks st n brick o).windows ≡ st.windows
  go None = refl
  go (Some lane) = either (nat_lt 0 lane.to_drop)
      (with_lane (after_event st (Send n false true)) brick.0 (record lane { to_drop = lane.to_drop - 1 }))
      (with_lane (after_event (after_event st (Send n false true)) (Deliver (length st.world.packets))) brick.0 (with_reply (length st.world.packets + 1) lane))
      refl refl
turn-windows st n (next.Receive brick) = go (lane_at st.lanes brick.0) where
  heard : (lane : LaneState) (queue : List ℕ) → (hears st n brick lane queue).windows ≡ st.windows
  heard lane [] = refl
  heard lane (packet ∷ rest) = refl

  go : (o : Option LaneState) → (listens st n brick o).windows ≡ st.windows
  go None = refl
  go (Some lane) = heard lane lane.queue
turn-windows st n next.Ended = refl

turned-windows : (link : LaneLink) → (turned link).lanes.windows ≡ link.lanes.windows
turned-windows link = go link.active where
  at : (n : ℕ) (o : Option Call) → (turn_of link.lanes n o).windows ≡ link.lanes.windows
  at n None = refl
  at n (Some c) = turn-windows link.lanes n (next_of c)

  go : (o : Option ℕ) → (turned_by link.lanes o).windows ≡ link.lanes.windows
  go None = refl
  go (Some n) = at n (slice_get link.lanes.world.calls n)

either-windows : (link : LaneLink) (brick : BrickNo) (b : Bool) → (if b then turned link else unwanted link brick).lanes.windows ≡ link.lanes.windows
either-windows link brick true = turned-windows link
either-windows link brick false = refl

-- so does each call of the link that an event came of
made-windows : (ask : List ℕ) (x : StubNext) (e : StubEvent) (old new : LaneLink) → Made LaneLinkMakes old (call_of ask x e) new → new.lanes.windows ≡ old.lanes.windows
made-windows ask x e old new made = go x e made where
  go : (x : StubNext) (e : StubEvent) → Made LaneLinkMakes old (call_of ask x e) new → new.lanes.windows ≡ old.lanes.windows
  go (next.Send brick) event.Sent made = ap (λ (l : LaneLink). l.lanes.windows) (sym made.2 ∙ made.1.1) ∙ either-windows old brick (wants_to_send old brick ask)
  go (next.Send brick) (event.Frame came) made = ap (λ (l : LaneLink). l.lanes.windows) (sym made)
  go (next.Send brick) event.Silent made = ap (λ (l : LaneLink). l.lanes.windows) (sym made.2 ∙ made.1.1) ∙ either-windows old brick (wants_to_send old brick ask)
  go (next.Receive brick) event.Sent made = ap (λ (l : LaneLink). l.lanes.windows) (sym made)
  go (next.Receive brick) (event.Frame came) made = ap (λ (l : LaneLink). l.lanes.windows) (sym made.2 ∙ made.1.3) ∙ either-windows old brick (wants_to_hear old brick)
  go (next.Receive brick) event.Silent made = ap (λ (l : LaneLink). l.lanes.windows) (sym made.2 ∙ made.1.1) ∙ either-windows old brick (wants_to_hear old brick)
  go next.Ended e made = ap (λ (l : LaneLink). l.lanes.windows) (sym made)

way-windows : (to after : SessionWay) (old new : LaneLink) → StepsOutside LaneLinkMakes to old after new → new.lanes.windows ≡ old.lanes.windows
way-windows way.Resting after old new steps = absurd steps
way-windows (way.Reading r) after old new steps = let s = steps.2 in made-windows _ _ s.event old new s.made
way-windows (way.Ordered order) after old new steps = absurd steps
way-windows (way.Writing w) after old new steps = let s = steps.2 in made-windows _ _ s.event old new s.made
way-windows (way.Settling w) after old new steps = let s = steps.2 in made-windows _ _ s.event old new s.made
way-windows (way.Holding passes) after old new steps = absurd steps

-- A step outside leaves the windows as they are.
pub outside-windows : (old new : Shepherd ActionCall) (link after : LaneLink) → ShepherdSteps (λ (v w : Visit ActionCall). VisitsOutside LaneLinkMakes lane_link_tally v link w after) old new
    → after.lanes.windows ≡ link.lanes.windows
outside-windows old new link after steps = go old.stage steps.steps where
  go : (stage : Stage ActionCall) → StepsVisit (λ (v w : Visit ActionCall). VisitsOutside LaneLinkMakes lane_link_tally v link w after) stage new.stage → after.lanes.windows ≡ link.lanes.windows
  go Resting h = absurd h
  go (Serving v call) h = way-windows v.way h.0.way link after h.1.steps
  go (Refusing why bytes) h = absurd h
  go (Over end) h = absurd h

some-is : {X : Type 0} {x y : X} → Some x ≡ Some y → x ≡ y
some-is is = cc

-- what comes of the call of a way is spelled
made-spelled : (ask : List ℕ) (x : StubNext) (e : StubEvent) (old new : LaneLink) → Made LaneLinkMakes old (call_of ask x e) new → IsTrue (fits x (told_of e)) → (from : BrickNo) → x ≡ next.Receive from
    → IsSpelled old.lanes (heard_next old from)
made-spelled ask (next.Send brick) e old new made fit from is = absurd (cc)
made-spelled ask (next.Receive brick) event.Sent old new made fit from is = absurd (let e : false ≡ true = fit in cc)
made-spelled ask (next.Receive brick) (event.Frame came) old new made fit from is =
    let same : brick ≡ from = cc in
    let o : Option Packet = slice_get old.lanes.world.packets made.1.0 in
    let spells : SpellsPacket (packet_bytes o) o = subst (λ (b : List ℕ). SpellsPacket b o) (sym (packet-spelled came o made.1.2)) made.1.2 in
    subst (λ (b : BrickNo). IsSpelled old.lanes (heard_next old b)) same (subst (λ (n : Option ℕ). IsSpelled old.lanes n) (sym made.1.1) spells)
made-spelled ask (next.Receive brick) event.Silent old new made fit from is =
    let same : brick ≡ from = cc in
    subst (λ (b : BrickNo). IsSpelled old.lanes (heard_next old b)) same (subst (λ (n : Option ℕ). IsSpelled old.lanes n) (sym made.1.0) tt)
made-spelled ask next.Ended e old new made fit from is = absurd (cc)

way-spelled : (to after : SessionWay) (old new : LaneLink) → StepsOutside LaneLinkMakes to old after new → HearsSpelled to old
way-spelled way.Resting after old new steps = absurd steps
way-spelled (way.Reading r) after old new steps = λ from wants. made-spelled _ _ steps.2.event old new steps.2.made steps.2.fitting from (some-is wants)
way-spelled (way.Ordered order) after old new steps = absurd steps
way-spelled (way.Writing w) after old new steps = λ from wants. made-spelled _ _ steps.2.event old new steps.2.made steps.2.fitting from (some-is wants)
way-spelled (way.Settling w) after old new steps = λ from wants. made-spelled _ _ steps.2.event old new steps.2.made steps.2.fitting from (some-is wants)
way-spelled (way.Holding passes) after old new steps = absurd steps

-- What a connection heard of its link is spelled by its bytes.
pub outside-spelled : (old new : Shepherd ActionCall) (link after : LaneLink) → ShepherdSteps (λ (v w : Visit ActionCall). VisitsOutside LaneLinkMakes lane_link_tally v link w after) old new
    → HearsSpelled (way_in old.stage) link
outside-spelled old new link after steps = go old.stage steps.steps where
  go : (stage : Stage ActionCall) → StepsVisit (λ (v w : Visit ActionCall). VisitsOutside LaneLinkMakes lane_link_tally v link w after) stage new.stage → HearsSpelled (way_in stage) link
  go Resting h = absurd h
  go (Serving v call) h = way-spelled v.way h.0.way link after h.1.steps
  go (Refusing why bytes) h = absurd h
  go (Over end) h = absurd h

-- the laws by which windows that were lent fit
abbrev pub StepFits : Type 0
StepFits = (st : LanesState) (to after : SessionWay) (windows : WindowsValue) → HasLanes st → StepsWindows to st.windows after windows → HasLanes (record st { windows = windows })

abbrev pub RefusedFit : Type 0
RefusedFit = (st : LanesState) (to after : SessionWay) (windows : WindowsValue) (why : TakeRefusal) → HasLanes st → IsRefused to st.windows after windows why → HasLanes (record st { windows = windows })

-- Windows that were lent to a connection can be put back.
pub windows-fit : {X Y : Type 0} → StepFits → RefusedFit → (st : LanesState) (lent : LentState) (given windows : WindowsValue) (old new : Shepherd ActionCall) (answer : Result X Y)
    → lent ≡ without_windows st → given ≡ st.windows → HasLanes st
    → OnOk answer (ShepherdSteps (λ (v w : Visit ActionCall). VisitsWindows v given w windows) old new)
    → OnErr answer (StepsVisit (λ (v w : Visit ActionCall). IsRefused v.way given w.way windows refusal.OutOfMemory) old.stage new.stage)
    → HasLanes (with_windows lent windows)
windows-fit {X} {Y} step refused st lent given windows old new answer is same has ok err =
    subst (λ (l : LentState). HasLanes (with_windows l windows)) (sym is) (by answer ok err) where
      lawful : (v w : Visit ActionCall) → VisitsWindows v given w windows → HasLanes (record st { windows = windows })
      lawful v w visits = elim visits [
        | inl gives ↦ step st v.way w.way windows has (subst (λ (x : WindowsValue). StepsWindows v.way x w.way windows) same gives.step)
        | inr overloads ↦ refused st v.way w.way windows (refusal.Overload overloads.full) has (subst (λ (x : WindowsValue). IsRefused v.way x w.way windows (refusal.Overload overloads.full)) same overloads.refused)
      ]

      steps : (stage : Stage ActionCall) → StepsVisit (λ (v w : Visit ActionCall). VisitsWindows v given w windows) stage new.stage → HasLanes (record st { windows = windows })
      steps Resting h = absurd h
      steps (Serving v call) h = lawful v h.0 h.1
      steps (Refusing why bytes) h = absurd h
      steps (Over end) h = absurd h

      breaks : (stage : Stage ActionCall) → StepsVisit (λ (v w : Visit ActionCall). IsRefused v.way given w.way windows refusal.OutOfMemory) stage new.stage → HasLanes (record st { windows = windows })
      breaks Resting h = absurd h
      breaks (Serving v call) h = refused st v.way h.0.way windows refusal.OutOfMemory has (subst (λ (x : WindowsValue). IsRefused v.way x h.0.way windows refusal.OutOfMemory) same h.1)
      breaks (Refusing why bytes) h = absurd h
      breaks (Over end) h = absurd h

      by : (answer : Result X Y) → OnOk answer (ShepherdSteps (λ (v w : Visit ActionCall). VisitsWindows v given w windows) old new)
          → OnErr answer (StepsVisit (λ (v w : Visit ActionCall). IsRefused v.way given w.way windows refusal.OutOfMemory) old.stage new.stage) → HasLanes (record st { windows = windows })
      by (Ok u) ok err = steps old.stage ok.steps
      by (Err e) ok err = breaks old.stage err

-- what is so of an answer that is Ok, or an error
pub on-ok : {X Y : Type 0} (r : Result X Y) (x : X) (P : Type 0) → r ≡ Ok x → OnOk r P → P
on-ok {X} {Y} r x P is so = subst (λ (a : Result X Y). OnOk a P) is so

pub on-err : {X Y : Type 0} (r : Result X Y) (y : Y) (P : Type 0) → r ≡ Err y → OnErr r P → P
on-err {X} {Y} r y P is so = subst (λ (a : Result X Y). OnErr a P) is so

pub if-ok : {X Y : Type 0} (r : Result X Y) (x : X) (P : X → Type 0) → r ≡ Ok x → IfOk r P → P x
if-ok {X} {Y} r x P is so = subst (λ (a : Result X Y). IfOk a P) is so
