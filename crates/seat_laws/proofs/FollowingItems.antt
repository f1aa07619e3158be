-- The items of a connection follow on one another behind each of its steps: a step gives one item at most, and that is
-- of a request which began behind the item before.
use Rattle.std.specs.Prelude.{◌⊎◌}
use Rattle.std.proofs.Common.{[], ◌≡◌, ◌≤◌, ◌∙◌, inl, inr, Bool, true, false, nat_lt, if◌then◌else◌, List, ◌∷◌, ◌++◌, append-nil, Option, Some, None, refl, sym, ap, subst}
use Rattle.auction_calls.specs.declared.action.ActionCall.{ActionCall}
use Rattle.auction_site.specs.Actions.{steps_of}
use Rattle.container_core.specs.Container.{ContainerValue}
use Rattle.crash_base.specs.declared.numbers.Place.{Place}
use Rattle.lane_link.specs.Links.{LaneLinkMakes, lane_link_tally}
use Rattle.lane_link.specs.declared.link.LaneLink.{LaneLink}
use Rattle.outcome_items.specs.declared.item.Holds.{Holds}
use Rattle.outcome_items.specs.declared.item.Item.{Item}
use Rattle.request_visit.specs.Advancing.{after_leaving, departed, item_of}
use Rattle.request_visit.specs.Visits.{after_outcome, overloaded, turn as visit_turn}
use Rattle.request_visit.specs.declared.visit.Turn.{Turn}
use Rattle.request_visit.specs.declared.visit.Turn.TheVariants as visit
use Rattle.request_visit.specs.declared.visit.Visit.{Visit}
use Rattle.request_visit.specs.declared.visit.Work.{Work}
use Rattle.request_visit.specs.declared.visit.Work.TheVariants.{Reading, Opening, Serving as ServingBy, Committed, Decided, Answered, Left}
use Rattle.send_windows.specs.Facts.{full_facts, open_count}
use Rattle.send_windows.specs.Windows.{WindowsValue, refused, taken}
use Rattle.served_items.specs.Following.{FollowOn}
use Rattle.session_way.specs.Way.{answer_held, passes_for}
use Rattle.session_way.specs.Writing.{write_begun}
use Rattle.session_way.specs.declared.session_write.WriteOutcome.{WriteOutcome}
use Rattle.session_way.specs.declared.session_write.WriteOutcome.TheVariants as outcome
use Rattle.session_way.specs.declared.way.SessionWay.{SessionWay}
use Rattle.session_way.specs.declared.way.SessionWay.TheVariants as way
use Rattle.shepherd.specs.Going.{OpenGoesOn}
use Rattle.shepherd.specs.Shepherds.{turn, turn_by}
use Rattle.shepherd.specs.Standing.{IsOpen, last_front}
use Rattle.shepherd.specs.Steps.{IfOpen, rested}
use Rattle.shepherd.specs.declared.shepherd.AskedCall.{AskedCall}
use Rattle.shepherd.specs.declared.shepherd.Shepherd.{Shepherd}
use Rattle.shepherd.specs.declared.shepherd.ShepherdTurn.{ShepherdTurn}
use Rattle.shepherd.specs.declared.shepherd.ShepherdTurn.TheVariants as turns
use Rattle.shepherd.specs.declared.shepherd.Stage.{Stage}
use Rattle.shepherd.specs.declared.shepherd.Stage.TheVariants.{Resting, Serving, Refusing, Over}
use Rattle.shepherd_steps.specs.Alone.{Making, alone, alone_at, gone_alone, own_stage}
use Rattle.shepherd_steps.specs.Leaving.{item_by, item_taken, items_in, output_of}
use Rattle.shepherd_steps.specs.Opening.{open_stage}
use Rattle.shepherd_steps.specs.Outside.{outside}
use Rattle.shepherd_steps.specs.Passes.{goes, outcome_of, windows_by, windows_step}
use Rattle.shepherd_steps.specs.Stepping.{step}
use Rattle.seat_steps.specs.Going.{GoesOnAtSeat, IsAccepted}
use Rattle.seat_steps.specs.Replies.{lane_replies}
use Rattle.seat_steps.specs.Seats.{SeatGivens, SeatWorld, making_by, seat_step}
use Rattle.seat_steps.specs.declared.seat.Seat.{Seat}
use Rattle.seat_laws.specs.Serving.{Course, SeatServes}
use Rattle.seat_laws.proofs.TellingReads.{Bears, BearsBy, E, inside-bears, k, open-bears, own-bears, resting-tells}

-- what a connection gives by itself is one item at most

module _ (P : Item → Type 0) where
  abbrev pub Few : List Item → Type 0
  Few items = (items ≡ []) ⊎ ((i : Item) × P i × (items ≡ i ∷ []))

  items-few : (v : Visit ActionCall) (w : Work ActionCall) → BearsBy P v w → Few (items_in v w)
  items-few v Reading b = inl refl
  items-few v Opening b = inl refl
  items-few v (ServingBy tries program) b = inl refl
  items-few v (Committed place again shown) b = inl refl
  items-few v (Decided became) b = inl refl
  items-few v (Answered fate bytes) b = inl refl
  items-few v (Left fate) b = inr (item_of v fate, b, refl)

  item-few : (s : Shepherd ActionCall) → Bears P s.stage → Few (item_taken s).1
  unfolding item_taken
  item-few s bears = by s.stage bears where
    by : (stage : Stage ActionCall) → Bears P stage → Few (item_by s stage).1
    by Resting b = inl refl
    by (Serving v call) b = items-few v v.work b
    by (Refusing why bytes) b = inl refl
    by (Over end) b = inl refl

  module _ (m : Making ActionCall) where
    once-few : (s : Shepherd ActionCall) → Bears P s.stage → Few (alone m s).1
    unfolding alone
    once-few s bears = by (turn s) where
      by : (t : ShepherdTurn) → Few (alone_at m t s).1
      by turns.Bytes = inl refl
      by turns.Request = inl refl
      by turns.Outside = inl refl
      by turns.Windows = inl refl
      by turns.Inside = inl refl
      by turns.Program = inl refl
      by turns.Own = inl refl
      by turns.Output = inl refl
      by turns.Item = item-few s bears
      by (turns.Ended end) = inl refl

    -- behind a request it gives none
    rested-none : (s : Shepherd ActionCall) (close : Bool) → (alone m (record s { stage = rested close })).1 ≡ []
    unfolding alone item_taken
    rested-none s close = by (turn (record s { stage = rested close })) where
      over : (c : Bool) → (item_by (record s { stage = rested close }) (rested c)).1 ≡ []
      over true = refl
      over false = refl

      by : (t : ShepherdTurn) → (alone_at m t (record s { stage = rested close })).1 ≡ []
      by turns.Bytes = refl
      by turns.Request = refl
      by turns.Outside = refl
      by turns.Windows = refl
      by turns.Inside = refl
      by turns.Program = refl
      by turns.Own = refl
      by turns.Output = refl
      by turns.Item = over close
      by (turns.Ended end) = refl

    no-more : (first second : List Item) → second ≡ [] → Few first → Few (first ++ second)
    no-more first second none few = subst Few (sym (ap (λ (xs : List Item). first ++ xs) none ∙ append-nil first)) few

    pub gone-few : (s : Shepherd ActionCall) → Bears P s.stage → Few (gone_alone m s).1
    unfolding gone_alone alone item_taken
    gone-few s bears = by (turn s) where
      given : (stage : Stage ActionCall) → Bears P stage → Few ((item_by s stage).1 ++ (alone m (item_by s stage).0).1)
      given Resting b = once-few s bears
      given (Serving v call) b = no-more (items_in v v.work) (alone m (record s { front = v.holds.front; stage = rested v.facts.close })).1 (rested-none (record s { front = v.holds.front }) v.facts.close) (items-few v v.work b)
      given (Refusing why bytes) b = once-few s bears
      given (Over end) b = once-few s bears

      by : (t : ShepherdTurn) → Few ((alone_at m t s).1 ++ (alone m (alone_at m t s).0).1)
      by turns.Bytes = once-few s bears
      by turns.Request = once-few s bears
      by turns.Outside = once-few s bears
      by turns.Windows = once-few s bears
      by turns.Inside = once-few s bears
      by turns.Program = once-few (record s { stage = open_stage m.made m.worker s.stage }) (open-bears P m s.stage bears)
      by turns.Own = once-few (record s { stage = own_stage m.key s.stage }) (own-bears P m.key s.stage bears)
      by turns.Output = once-few s bears
      by turns.Item = given s.stage bears
      by (turns.Ended end) = once-few s bears

-- an item follows on a front, by when the container was held for it
abbrev Behind : Place → Holds → Type 0
Behind front h = (front.0 ≤ h.from.0) × (h.from.0 ≤ h.front.0)

abbrev FollowsFrom : Place → Item → Type 0
FollowsFrom front i = Behind front i.holds

-- so does the item of the request that is open, behind each event

module _ (front : Place) (v : Visit ActionCall) (q : Behind front v.holds) where
  abbrev H : Visit ActionCall → Type 0
  H x = BearsBy (FollowsFrom front) x x.work

  any : (x : Visit ActionCall) → Behind front x.holds → (w : Work ActionCall) → BearsBy (FollowsFrom front) x w
  any x so Reading = tt
  any x so Opening = tt
  any x so (ServingBy tries program) = tt
  any x so (Committed place again shown) = tt
  any x so (Decided became) = tt
  any x so (Answered fate bytes) = tt
  any x so (Left fate) = so

  as-it-is : H v
  as-it-is = any v q v.work

  outside-follows : (link : LaneLink) → H (outside lane_replies lane_link_tally v link).0
  unfolding outside
  outside-follows link = any (outside lane_replies lane_link_tally v link).0 q v.work

  windows-follows : (windows : WindowsValue) → H (windows_step v windows).0
  unfolding windows_step
  windows-follows windows = by v.way where
    told : (x : Option WriteOutcome) (to : SessionWay) → H (after_outcome x (record v { way = to }))
    told None to = let x : Visit ActionCall = after_outcome None (record v { way = to }) in any x q x.work
    told (Some (outcome.Written cookie)) to = let x : Visit ActionCall = after_outcome (Some (outcome.Written cookie)) (record v { way = to }) in any x q x.work
    told (Some (outcome.Missed causes)) to = let x : Visit ActionCall = after_outcome (Some (outcome.Missed causes)) (record v { way = to }) in any x q x.work

    by : (x : SessionWay) → H (windows_by v x windows).0
    by way.Resting = as-it-is
    by (way.Reading r) = as-it-is
    by (way.Ordered order) = takes (nat_lt (open_count windows.facts) windows.wq) where
      takes : (b : Bool) → H (if b then (record v { way = way.Resting; work = overloaded (full_facts windows.facts) v.work }, refused windows)
          else goes v (way.Writing (write_begun order windows.wq (passes_for order windows))) (taken windows (passes_for order windows))).0
      takes true = any (record v { way = way.Resting; work = overloaded (full_facts windows.facts) v.work }) q (overloaded (full_facts windows.facts) v.work)
      takes false = told (outcome_of (answer_held v.way)) (way.Writing (write_begun order windows.wq (passes_for order windows)))
    by (way.Writing w) = as-it-is
    by (way.Settling w) = told (outcome_of (answer_held v.way)) way.Resting
    by (way.Holding passes) = told (outcome_of (answer_held v.way)) way.Resting

  leaving-follows : H (after_leaving v)
  leaving-follows = any (after_leaving v) q (departed v.work)

module _ (g : SeatGivens) (seat : Seat) (w : SeatWorld) (front : Place) where
  abbrev P : Item → Type 0
  P = FollowsFrom front

  serving-follows : (v : Visit ActionCall) (call : Option AskedCall) → Behind front v.holds → (t : Turn) → Bears P (E g seat w (Serving v call) false (turn_by t)).connection.stage
  unfolding output_of
  serving-follows v call q visit.Outside = outside-follows front v q (record { lanes = w.store; active = seat.twin })
  serving-follows v call q visit.Windows = windows-follows front v q w.store.windows
  serving-follows v call q visit.Inside = inside-bears P v (as-it-is front v q) g.keeps w.boot w.since
  serving-follows v call q visit.Program = as-it-is front v q
  serving-follows v call q visit.Own = as-it-is front v q
  serving-follows v call q visit.Output = leaving-follows front v q
  serving-follows v call q visit.Over = as-it-is front v q

  stage-follows : (stage : Stage ActionCall) → IfOpen stage (λ v call. Behind front v.holds) → Bears P (E g seat w stage false (turn (k g seat w stage false))).connection.stage
  unfolding output_of
  stage-follows Resting q = resting-tells g seat w P (turn (k g seat w Resting false))
  stage-follows (Serving v call) q = serving-follows v call q (visit_turn v)
  stage-follows (Refusing why bytes) q = tt
  stage-follows (Over end) q = tt

  one-follows : (stage : Stage ActionCall) (wants : Bool) → (wants ≡ false → IfOpen stage (λ v call. Behind front v.holds)) → Few P (gone_alone (making_by g) (E g seat w stage wants (turn (k g seat w stage wants))).connection).1
  unfolding gone_alone alone
  one-follows stage true q = inl refl
  one-follows stage false q = gone-few P (making_by g) (E g seat w stage false (turn (k g seat w stage false))).connection (stage-follows stage (q refl))

  seat-follows : (seat.connection.wants_memory ≡ false → IfOpen seat.connection.stage (λ v call. Behind front v.holds)) → Few P (seat_step g seat w).items
  unfolding seat_step step
  seat-follows q = one-follows seat.connection.stage seat.connection.wants_memory q

-- one more item behind those that follow on one another
joins : (front : Place) (items : List Item) (i : Item) → FollowsFrom (last_front front items) i → FollowOn front items → FollowOn front (items ++ i ∷ [])
joins front [] i behind h = (behind.0, behind.1, tt)
joins front (j ∷ items) i behind h = (h.0, h.1, joins j.holds.front items i behind h.2)

-- The items of a connection that serves its requests follow on one another behind its step.
pub items-follow : (g : SeatGivens) (seat : Seat) (w : SeatWorld) (old : ContainerValue) (c : Course) → GoesOnAtSeat old seat.connection → SeatServes g.key w.boot w.since g.now c seat.connection
    → FollowOn (record { 0 = 0 }) c.items → FollowOn (record { 0 = 0 }) (c.items ++ (seat_step g seat w).items)
items-follow g seat w old c goes serves h = by (seat-follows g seat w (last_front zero c.items) begins) where
  zero : Place
  zero = record { 0 = 0 }

  begins : seat.connection.wants_memory ≡ false → IfOpen seat.connection.stage (λ v call. Behind (last_front zero c.items) v.holds)
  begins has = let going = goes.goes_on has in at seat.connection.stage going.opened serves.answers.stands.is_open where
    at : (stage : Stage ActionCall) → IfOpen stage (λ v call. OpenGoesOn IsAccepted steps_of LaneLinkMakes old v call) → IsOpen seat.connection.front stage serves.answers.stands.opened serves.answers.stands.sent
        → IfOpen stage (λ v call. Behind (last_front zero c.items) v.holds)
    at Resting going stands = tt
    at (Serving v call) going stands =
        (subst (λ (p : Place). p.0 ≤ v.holds.from.0) (stands.front_is ∙ serves.answers.stands.front_is) going.goes_on.from, going.goes_on.front)
    at (Refusing why bytes) going stands = tt
    at (Over end) going stands = tt

  by : Few (FollowsFrom (last_front zero c.items)) (seat_step g seat w).items → FollowOn zero (c.items ++ (seat_step g seat w).items)
  by (inl none) = subst (λ (xs : List Item). FollowOn zero (c.items ++ xs)) (sym none) (subst (FollowOn zero) (sym (append-nil c.items)) h)
  by (inr (i, behind, is)) = subst (λ (xs : List Item). FollowOn zero (c.items ++ xs)) (sym is) (joins zero c.items i behind h)

-- An item's tries began no earlier than the container was last held for the item before.
pub follows-next : (front : Place) (before behind : List Item) (i next : Item) → FollowOn front (before ++ i ∷ next ∷ behind) → i.holds.front.0 ≤ next.holds.from.0
follows-next front [] behind i next h = h.2.0
follows-next front (j ∷ before) behind i next h = follows-next j.holds.front before behind i next h.2
