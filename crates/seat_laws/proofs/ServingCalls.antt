-- What stands of a connection with its items stands behind each call that a step of it makes.
use Rattle.std.specs.Prelude.{◌⊎◌}
use Rattle.std.proofs.Common.{◌≡◌, ◌≤◌, ℕ, List, [], ◌∷◌, ◌++◌, append-nil, append_assoc, None, inl, refl, sym, ap, subst}
use Rattle.auction_calls.specs.declared.action.ActionCall.{ActionCall}
use Rattle.auction_site.specs.Actions.{steps_of}
use Rattle.container_core.specs.Container.{ContainerValue, HasGrownBy, events_of}
use Rattle.container_core.specs.declared.history.Event.{Event}
use Rattle.crash_base.specs.declared.numbers.Moment.{Moment}
use Rattle.crash_base.specs.declared.numbers.WorkerNo.{WorkerNo}
use Rattle.http_wire.specs.Taking.{taken_of}
use Rattle.http_wire.specs.declared.taken.Head.{Head}
use Rattle.http_wire.specs.declared.taken.Taken.{Taken}
use Rattle.http_wire.specs.declared.taken.Taken.TheVariants as took
use Rattle.lane_link.specs.Links.{LaneLinkMakes, lane_link_tally}
use Rattle.lane_link.specs.declared.link.LaneLink.{LaneLink}
use Rattle.outcome_items.specs.declared.item.Item.{Item}
use Rattle.outside.specs.Clock.{PlainClockValue}
use Rattle.outside.specs.Random.{PlainGives}
use Rattle.outside.specs.Serials.{PlainLooks}
use Rattle.outside.specs.declared.link.LinkCounts.{LinkCounts}
use Rattle.request_decisions.specs.Drawing.{HasDrawn}
use Rattle.request_decisions.specs.declared.draws.Draw.{Draw}
use Rattle.request_intake.specs.declared.intake.HomeBoot.{HomeBoot}
use Rattle.request_visit.specs.Advancing.{Advances}
use Rattle.request_visit.specs.Stepping.{VisitsInside, VisitsWindows, counted}
use Rattle.request_visit.specs.declared.visit.Visit.{Visit}
use Rattle.send_windows.specs.Windows.{WindowsValue}
use Rattle.session_cookie.specs.declared.cookie.TheConstants.{MAX_HOLDERS}
use Rattle.shepherd.specs.Answering.{heads_in}
use Rattle.shepherd.specs.Shepherds.{turn}
use Rattle.shepherd.specs.Steps.{OpensStage, PutsOut, ShepherdSteps, TakesBy, TakesItem, TakesRequest, VisitsOutside}
use Rattle.shepherd.specs.declared.shepherd.Shepherd.{Shepherd}
use Rattle.shepherd.specs.declared.shepherd.ShepherdTurn.{ShepherdTurn}
use Rattle.shepherd.specs.declared.shepherd.ShepherdTurn.TheVariants as turns
use Rattle.shepherd.specs.declared.shepherd.Stage.{Stage}
use Rattle.site_programs.specs.Errands.{IsMadeOf}
use Rattle.site_programs.specs.declared.maker.SiteMaker.{SiteMaker}
use Rattle.seat_steps.specs.Answering.{heads_at}
use Rattle.seat_steps.specs.Seats.{SeatGivens, givens_in, home_in}
use Rattle.seat_steps.specs.Stepped.{AloneAt, CallsAt, GoesAloneTwice, SeatCalling, calling, clock_told, told_at, world_from}
use Rattle.seat_steps.specs.declared.seat.NextDraws.{NextDraws}

-- what may stand of a connection: over a history, with the heads of its requests, what was drawn for them, its items
abbrev pub OfConnection : Type 1
OfConnection = List Event → List Head → List Draw → List Item → Shepherd ActionCall → Type 0

-- some numbers were drawn, and a serial number looked at that is spent, or none; and so it stands with what was drawn
pub record DrewSo (So : List Draw → Type 0) (drawn : List Draw) (random random_after serials serials_after : ℕ) : Type 0 where
  pub more : List Draw
  pub mid : ℕ
  pub drew : HasDrawn PlainLooks PlainGives serials random more mid random_after
  pub looked : (serials_after ≡ mid) ⊎ ((seen : ℕ) × PlainLooks mid seen None serials_after)
  pub so : So (drawn ++ more)

-- the laws by which it stands behind each call of a step that is made at a moment in a container
pub record CallLaws (key : List ℕ) (now : Moment) (old : ContainerValue) (So : OfConnection) : Type 0 where
  pub taken : (history : List Event) (heads : List Head) (drawn : List Draw) (items : List Item) (s new : Shepherd ActionCall) (counts : LinkCounts) (clock_after : PlainClockValue) (random random_after serials serials_after : ℕ)
      → turn s ≡ turns.Request → clock_told clock_after ≡ now.0
      → TakesRequest clock_told PlainGives PlainLooks key (home_in old.boot) counts s (told_at now) random serials new clock_after random_after serials_after
      → So history heads drawn items s
      → DrewSo (λ ds. So history (heads ++ heads_in (taken_of s.received)) ds items new) drawn random random_after serials serials_after
  pub outside : (history : List Event) (heads : List Head) (drawn : List Draw) (items : List Item) (s new : Shepherd ActionCall) (link after : LaneLink) → turn s ≡ turns.Outside
      → ShepherdSteps (λ (v w : Visit ActionCall). VisitsOutside LaneLinkMakes lane_link_tally v link w after) s new → So history heads drawn items s → So history heads drawn items new
  pub windows : (history : List Event) (heads : List Head) (drawn : List Draw) (items : List Item) (s new : Shepherd ActionCall) (windows after : WindowsValue) → 1 ≤ windows.wq → windows.wq ≤ MAX_HOLDERS
      → ShepherdSteps (λ (v w : Visit ActionCall). VisitsWindows v windows w after) s new → So history heads drawn items s → So history heads drawn items new
  pub inside : (heads : List Head) (drawn : List Draw) (items : List Item) (s new : Shepherd ActionCall) (after : ContainerValue)
      → ShepherdSteps (λ (v w : Visit ActionCall). VisitsInside steps_of v old w after) s new → HasGrownBy old after → So (events_of old) heads drawn items s → So (events_of after) heads drawn items new
  pub out : (history : List Event) (heads : List Head) (drawn : List Draw) (items : List Item) (bytes : List ℕ) (s : Shepherd ActionCall) (stage : Stage ActionCall) → turn s ≡ turns.Output → PutsOut s.stage bytes stage
      → So history heads drawn items s → So history heads drawn items (record s { stage = stage })
  pub advance : (history : List Event) (heads : List Head) (drawn : List Draw) (items : List Item) (s new : Shepherd ActionCall) → turn s ≡ turns.Own
      → ShepherdSteps (λ (v w : Visit ActionCall). Advances key v v.work w) s new → So history heads drawn items s → So history heads drawn items new
  pub opened : (history : List Event) (heads : List Head) (drawn : List Draw) (items : List Item) (s : Shepherd ActionCall) (stage : Stage ActionCall) (worker : WorkerNo) → turn s ≡ turns.Program
      → OpensStage (λ (maker : SiteMaker). IsMadeOf) (record {}) worker s.stage stage → So history heads drawn items s → So history heads drawn items (record s { stage = stage })
  pub item : (history : List Event) (heads : List Head) (drawn : List Draw) (items : List Item) (i : Item) (s : Shepherd ActionCall) (stage : Stage ActionCall) → turn s ≡ turns.Item → TakesItem s.stage i stage
      → So history heads drawn items s → So history heads drawn (items ++ i ∷ []) (record s { front = i.holds.front; stage = stage })

-- the clock tells the moment, whatever the bytes begin with
told-after : (key : List ℕ) (home : HomeBoot) (now : Moment) (counts : LinkCounts) (took_is : Taken) (s new : Shepherd ActionCall) (clock : PlainClockValue) (random random_after serials serials_after : ℕ)
    → ((head : Head) → took_is ≡ took.Request head → clock_told clock ≡ now.0)
    → TakesBy clock_told PlainGives PlainLooks key home counts took_is s (told_at now) random serials new clock random_after serials_after → clock_told clock ≡ now.0
told-after key home now counts (took.Request head) s new clock random random_after serials serials_after told takes = told head refl
told-after key home now counts took.Bad s new clock random random_after serials serials_after told takes = ap clock_told takes.no_reading
told-after key home now counts (took.TooLong len lines) s new clock random random_after serials serials_after told takes = ap clock_told takes.no_reading
told-after key home now counts took.NoCoding s new clock random random_after serials serials_after told takes = ap clock_told takes.no_reading
told-after key home now counts (took.BodyTooLong said) s new clock random random_after serials serials_after told takes = ap clock_told takes.no_reading
told-after key home now counts took.More s new clock random random_after serials serials_after told takes = absurd takes

module _ (g : SeatGivens) (old : ContainerValue) (link : LaneLink) (next : NextDraws) (So : OfConnection) (laws : CallLaws g.key g.now old So) (some : 1 ≤ link.lanes.windows.wq) (few : link.lanes.windows.wq ≤ MAX_HOLDERS)
    (heads : List Head) (drawn : List Draw) (items : List Item) (s : Shepherd ActionCall) (so : So (events_of old) heads drawn items s) where
  abbrev from : SeatCalling
  from = calling g.now s old link next

  -- it stands behind a call, with the heads that were taken and what was drawn
  abbrev pub StandsBehind : List Head → SeatCalling → Type 0
  StandsBehind took m = DrewSo (λ ds. So (events_of m.container) (heads ++ took) ds items m.connection) drawn next.word m.random next.serial m.serials

  -- nothing was taken off the bytes, and nothing drawn
  undrawn : (m : SeatCalling) → m.random ≡ next.word → m.serials ≡ next.serial → So (events_of m.container) heads drawn items m.connection → StandsBehind [] m
  undrawn m word serial here = record {
    more = [];
    mid = next.serial;
    drew = (refl, word);
    looked = inl serial;
    so = subst (λ (ds : List Draw). So (events_of m.container) (heads ++ []) ds items m.connection) (sym (append-nil drawn))
        (subst (λ (hs : List Head). So (events_of m.container) hs drawn items m.connection) (sym (append-nil heads)) here);
  }

  uncalled : (m : SeatCalling) → m ≡ from → StandsBehind [] m
  uncalled m same = subst (StandsBehind []) (sym same) (undrawn from refl refl so)

  -- It stands behind the call at a turn.
  pub call-so : (t : ShepherdTurn) → turn s ≡ t → (m : SeatCalling) (bytes : List ℕ) → HasGrownBy old m.container → CallsAt (givens_in g (world_from old link.lanes next)) t from m bytes → StandsBehind (heads_at t s) m
  call-so turns.Bytes is m bytes grown calls = uncalled m calls.same
  call-so turns.Request is m bytes grown calls =
      let told : clock_told m.clock ≡ g.now.0 =
      told-after g.key (home_in old.boot) g.now (counted (lane_link_tally link)) (taken_of s.received) s m.connection m.clock next.word m.random next.serial m.serials calls.told_is calls.takes in
      subst (λ (c : ContainerValue). DrewSo (λ ds. So (events_of c) (heads ++ heads_in (taken_of s.received)) ds items m.connection) drawn next.word m.random next.serial m.serials) (sym (ap (λ (x : SeatCalling). x.container) calls.rest))
      (laws.taken (events_of old) heads drawn items s m.connection (counted (lane_link_tally link)) m.clock next.word m.random next.serial m.serials is told calls.takes so)
  call-so turns.Outside is m bytes grown calls =
      undrawn m (ap (λ (x : SeatCalling). x.random) calls.rest) (ap (λ (x : SeatCalling). x.serials) calls.rest)
      (subst (λ (c : ContainerValue). So (events_of c) heads drawn items m.connection) (sym (ap (λ (x : SeatCalling). x.container) calls.rest))
      (laws.outside (events_of old) heads drawn items s m.connection link m.link is calls.steps so))
  call-so turns.Windows is m bytes grown calls =
      undrawn m (ap (λ (x : SeatCalling). x.random) calls.rest) (ap (λ (x : SeatCalling). x.serials) calls.rest)
      (subst (λ (c : ContainerValue). So (events_of c) heads drawn items m.connection) (sym (ap (λ (x : SeatCalling). x.container) calls.rest))
      (laws.windows (events_of old) heads drawn items s m.connection link.lanes.windows m.windows some few calls.steps so))
  call-so turns.Inside is m bytes grown calls =
      undrawn m (ap (λ (x : SeatCalling). x.random) calls.rest) (ap (λ (x : SeatCalling). x.serials) calls.rest) (laws.inside heads drawn items s m.connection m.container calls.steps grown so)
  call-so turns.Program is m bytes grown calls = uncalled m calls.same
  call-so turns.Own is m bytes grown calls = uncalled m calls.same
  call-so turns.Output is m bytes grown calls =
      undrawn m (ap (λ (x : SeatCalling). x.random) calls.rest) (ap (λ (x : SeatCalling). x.serials) calls.rest)
      (subst (λ (c : ContainerValue). So (events_of c) heads drawn items m.connection) (sym (ap (λ (x : SeatCalling). x.container) calls.rest))
      (subst (λ (x : Shepherd ActionCall). So (events_of old) heads drawn items x) (sym (ap (λ (x : SeatCalling). x.connection) calls.rest))
      (laws.out (events_of old) heads drawn items bytes s m.connection.stage is calls.puts so)))
  call-so turns.Item is m bytes grown calls = uncalled m calls.same
  call-so (turns.Ended end) is m bytes grown calls = uncalled m calls.same

module _ (key : List ℕ) (worker : WorkerNo) (now : Moment) (old : ContainerValue) (So : OfConnection) (laws : CallLaws key now old So) (history : List Event) (heads : List Head) (drawn : List Draw) where
  unmoved : (items more : List Item) (s new : Shepherd ActionCall) → (new ≡ s) × (more ≡ []) → So history heads drawn items s → So history heads drawn (items ++ more) new
  unmoved items more s new same so =
      subst (λ (is : List Item). So history heads drawn (items ++ is) new) (sym same.1)
      (subst (λ (is : List Item). So history heads drawn is new) (sym (append-nil items)) (subst (λ (x : Shepherd ActionCall). So history heads drawn items x) (sym same.0) so))

  no-item : (items more : List Item) (new : Shepherd ActionCall) → more ≡ [] → So history heads drawn items new → So history heads drawn (items ++ more) new
  no-item items more new none so = unmoved items more new new (refl, none) so

  -- It stands behind what a connection does by itself at a turn.
  pub alone-so : (t : ShepherdTurn) (items more : List Item) (s new : Shepherd ActionCall) → turn s ≡ t → AloneAt key worker t s new more → So history heads drawn items s → So history heads drawn (items ++ more) new
  alone-so turns.Bytes items more s new is goes so = unmoved items more s new goes so
  alone-so turns.Request items more s new is goes so = unmoved items more s new goes so
  alone-so turns.Outside items more s new is goes so = unmoved items more s new goes so
  alone-so turns.Windows items more s new is goes so = unmoved items more s new goes so
  alone-so turns.Inside items more s new is goes so = unmoved items more s new goes so
  alone-so turns.Program items more s new is goes so =
      no-item items more new goes.items_are (subst (λ (x : Shepherd ActionCall). So history heads drawn items x) (sym goes.rest) (laws.opened history heads drawn items s new.stage worker is goes.opens so))
  alone-so turns.Own items more s new is goes so = no-item items more new goes.items_are (laws.advance history heads drawn items s new is goes.steps so)
  alone-so turns.Output items more s new is goes so = unmoved items more s new goes so
  alone-so turns.Item items more s new is goes so =
      subst (λ (gives : List Item). So history heads drawn (items ++ gives) new) (sym goes.items_are)
      (subst (λ (x : Shepherd ActionCall). So history heads drawn (items ++ goes.item ∷ []) x) (sym goes.rest) (laws.item history heads drawn items goes.item s new.stage is goes.takes so))
  alone-so (turns.Ended end) items more s new is goes so = unmoved items more s new goes so

  -- It stands behind what a connection does by itself until others are to step.
  pub twice-so : (items more : List Item) (s new : Shepherd ActionCall) → GoesAloneTwice key worker s new more → So history heads drawn items s → So history heads drawn (items ++ more) new
  twice-so items more s new goes so =
      let first : So history heads drawn (items ++ goes.first) goes.between = alone-so (turn s) items goes.first s goes.between refl goes.once so in
      let second : So history heads drawn ((items ++ goes.first) ++ goes.second) new = alone-so (turn goes.between) (items ++ goes.first) goes.second goes.between new refl goes.twice first in
      subst (λ (gives : List Item). So history heads drawn (items ++ gives) new) (sym goes.items_are)
      (subst (λ (is : List Item). So history heads drawn is new) (append_assoc items goes.first goes.second) second)
