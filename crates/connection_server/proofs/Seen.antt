-- What a call has seen of what its course tells: it stays seen, and so is what a further item tells that the link
-- counted.
use Rattle.std.proofs.Common.{◌≡◌, false, List, [], ◌∷◌, ◌++◌, arith, refl, sym, ap, subst, true≢false}
use Rattle.auction_calls.specs.declared.action.ActionCall.{ActionCall}
use Rattle.outcome_items.specs.declared.item.Item.{Item}
use Rattle.outside.specs.Link.{Made, Tallied, Tally}
use Rattle.outside.specs.declared.link.LinkCounts.{LinkCounts}
use Rattle.outside.specs.declared.link.LinkEvent.{LinkEvent}
use Rattle.request_visit.specs.Advancing.{IsItemOf}
use Rattle.request_visit.specs.Stepping.{counted}
use Rattle.request_visit.specs.declared.visit.Visit.{Visit}
use Rattle.request_visit.specs.declared.visit.Work.{Work}
use Rattle.request_visit.specs.declared.visit.Work.TheVariants.{Reading, Opening, Serving as ServingBy, Committed, Decided, Answered, Left}
use Rattle.served_connections.specs.Courses.{Course}
use Rattle.served_items.specs.Counting.{AreReached, StageCounts, last_counts}
use Rattle.session_way.specs.Way.{BreaksOffOutside, StepsOutside}
use Rattle.session_way.specs.declared.way.SessionWay.{SessionWay}
use Rattle.session_way.specs.declared.way.SessionWay.TheVariants as way
use Rattle.served_connections.specs.Stopping.{IsUnsent}
use Rattle.shepherd.specs.Standing.{has_left}
use Rattle.shepherd.specs.Steps.{OnVisit, StepsVisit, TakesItem, VisitsOutside}
use Rattle.shepherd.specs.declared.shepherd.Stage.{Stage}
use Rattle.shepherd.specs.declared.shepherd.Stage.TheVariants as stages
use Rattle.connection_server.specs.Stands.{HasSeen, Stand}

pub reached_here : (counts : LinkCounts) → AreReached counts counts
reached_here counts = record { hushed = omega arith; got = omega arith }

pub reached_on : (first mid last : LinkCounts) → AreReached first mid → AreReached mid last → AreReached first last
reached_on first mid last a b = record { hushed = omega (arith, a.hushed, b.hushed); got = omega (arith, a.got, b.got) }

-- what a link has counted does not fall over its calls
module _ {L : Type 0} (makes : L → LinkEvent → L → Type 0) (tally : L → Tally) (tallies : (old new : L) (event : LinkEvent) → makes old event new → Tallied event (tally old) (tally new)) where
  made_counts : (old : L) (events : List LinkEvent) (new : L) → Made makes old events new → AreReached (counted (tally old)) (counted (tally new))
  made_counts old [] new made = subst (λ (l : L). AreReached (counted (tally old)) (counted (tally l))) made (reached_here (counted (tally old)))
  made_counts old (event ∷ events) new made =
      let told = tallies old made.0 event made.1 in
      reached_on (counted (tally old)) (counted (tally made.0)) (counted (tally new))
      (record { hushed = told.hushed_never_falls.least; got = told.got_never_falls.least }) (made_counts made.0 events new made.2)

  steps_count : (w x : SessionWay) (old new : L) → StepsOutside makes w old x new → AreReached (counted (tally old)) (counted (tally new))
  steps_count way.Resting x old new steps = absurd steps
  steps_count (way.Reading r) x old new steps = made_counts old _ new steps.2.made
  steps_count (way.Ordered order) x old new steps = absurd steps
  steps_count (way.Writing w) x old new steps = made_counts old _ new steps.2.made
  steps_count (way.Settling w) x old new steps = made_counts old _ new steps.2.made
  steps_count (way.Holding passes) x old new steps = absurd steps

  breaks_count : (w : SessionWay) (old new : L) → BreaksOffOutside makes w old new → AreReached (counted (tally old)) (counted (tally new))
  breaks_count way.Resting old new breaks = absurd breaks
  breaks_count (way.Reading r) old new breaks = made_counts old breaks.last new breaks.made
  breaks_count (way.Ordered order) old new breaks = absurd breaks
  breaks_count (way.Writing w) old new breaks = made_counts old breaks.last new breaks.made
  breaks_count (way.Settling w) old new breaks = made_counts old breaks.last new breaks.made
  breaks_count (way.Holding passes) old new breaks = absurd breaks

  pub step_counts : (stage after : Stage ActionCall) (old new : L) → StepsVisit (λ v w. VisitsOutside makes tally v old w new) stage after → AreReached (counted (tally old)) (counted (tally new))
  step_counts stages.Resting after old new steps = absurd steps
  step_counts (stages.Serving v call) after old new steps = steps_count v.way steps.0.way old new steps.1.steps
  step_counts (stages.Refusing why bytes) after old new steps = absurd steps
  step_counts (stages.Over end) after old new steps = absurd steps

  pub break_counts : (stage : Stage ActionCall) (old new : L) → OnVisit stage (λ v call. BreaksOffOutside makes v.way old new) → AreReached (counted (tally old)) (counted (tally new))
  break_counts stages.Resting old new breaks = absurd breaks
  break_counts (stages.Serving v call) old new breaks = breaks_count v.way old new breaks
  break_counts (stages.Refusing why bytes) old new breaks = absurd breaks
  break_counts (stages.Over end) old new breaks = absurd breaks

-- what an item tells that its link counted is what its request saw last
item_counts : (v : Visit ActionCall) (i : Item) → IsItemOf v v.work i → i.counts ≡ v.counts
item_counts v i is = by v.work is where
  by : (x : Work ActionCall) → IsItemOf v x i → i.counts ≡ v.counts
  by Reading is = absurd is
  by Opening is = absurd is
  by (ServingBy tries program) is = absurd is
  by (Committed place again shown) is = absurd is
  by (Decided became) is = absurd is
  by (Answered fate bytes) is = absurd is
  by (Left fate) is = ap (λ (x : Item). x.counts) is

-- where an item can be taken, the response of its request has left
pub unsent_no_item : (stage after : Stage ActionCall) (i : Item) → TakesItem stage i after → IsUnsent stage → ⊥
unsent_no_item stages.Resting after i takes unsent = takes
unsent_no_item (stages.Serving v call) after i takes unsent = by v.work takes.0 unsent where
  by : (x : Work ActionCall) → IsItemOf v x i → has_left x ≡ false → ⊥
  by Reading is left = is
  by Opening is left = is
  by (ServingBy tries program) is left = is
  by (Committed place again shown) is left = is
  by (Decided became) is left = is
  by (Answered fate bytes) is left = is
  by (Left fate) is left = true≢false left
unsent_no_item (stages.Refusing why bytes) after i takes unsent = takes
unsent_no_item (stages.Over end) after i takes unsent = takes

-- so the link has counted that much
counted_for : (last counts : LinkCounts) (i : Item) (stage after : Stage ActionCall) → TakesItem stage i after → StageCounts last counts stage → AreReached i.counts counts
counted_for last counts i stages.Resting after takes h = absurd takes
counted_for last counts i (stages.Serving v call) after takes h = subst (λ (c : LinkCounts). AreReached c counts) (sym (item_counts v i takes.0)) h.seen
counted_for last counts i (stages.Refusing why bytes) after takes h = absurd takes
counted_for last counts i (stages.Over end) after takes h = absurd takes

-- what the last item tells that the link counted
pub last_is : (begin : LinkCounts) (items : List Item) (i : Item) → last_counts begin (items ++ i ∷ []) ≡ i.counts
last_is begin [] i = refl
last_is begin (j ∷ items) i = last_is j.counts items i

-- with an item, what a call has seen is what it had seen before
pub saw_item : (begun now : Stand) (c : Course) (i : Item) (last counts : LinkCounts) (stage after : Stage ActionCall) → TakesItem stage i after → StageCounts last counts stage → AreReached counts now.counts
    → HasSeen begun now c → HasSeen begun now (record c { items = c.items ++ i ∷ [] })
saw_item begun now c i last counts stage after takes stands on saw = record {
  spent = saw.spent;
  full = saw.full;
  counted = subst (λ (least : LinkCounts). AreReached least now.counts) (sym (last_is begun.counts c.items i))
      (reached_on i.counts counts now.counts (counted_for last counts i stage after takes stands) on);
}
