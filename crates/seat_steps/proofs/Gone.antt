-- What is left of a seat that is given up.
use Rattle.std.proofs.Common.{◌≡◌, ◌∙◌, true, false, Option, Some, None, refl, sym, ap, subst}
use Rattle.std.specs.Option.{option_map}
use Rattle.auction_calls.specs.declared.action.ActionCall.{ActionCall}
use Rattle.outcome_items.specs.declared.item.Item.{Item}
use Rattle.request_visit.specs.Advancing.{IsItemOf}
use Rattle.request_visit.specs.Stepping.{IsGivenBack, dropped}
use Rattle.request_visit.specs.Visits.{after_outcome, turn as visit_turn, turn_by as visit_turn_by}
use Rattle.request_visit.specs.declared.visit.Visit.{Visit}
use Rattle.request_visit.specs.declared.visit.Work.{Work}
use Rattle.request_visit.specs.declared.visit.Work.TheVariants.{Reading, Opening, Serving as ServingBy, Committed, Decided, Answered, Left}
use Rattle.send_windows.specs.Windows.{WindowsValue}
use Rattle.session_lanes.specs.Lanes.{HasLanes, LanesState}
use Rattle.session_lanes.specs.Lent.{LentState, with_windows, without_windows}
use Rattle.session_way.specs.Way.{after_give_back, answer_held, held, wants}
use Rattle.session_way.specs.Writing.{answer_of_write}
use Rattle.session_way.specs.declared.session_write.WriteOutcome.{WriteOutcome}
use Rattle.session_way.specs.declared.session_write.WriteOutcome.TheVariants as outcome
use Rattle.session_way.specs.declared.way.SessionWay.{SessionWay}
use Rattle.session_way.specs.declared.way.Wants.TheVariants as wanted
use Rattle.session_way.specs.declared.way.SessionWay.TheVariants as way
use Rattle.shepherd.specs.Shepherds.{is_over}
use Rattle.shepherd.specs.Steps.{GivesBack, TakesItem, dropped_stage}
use Rattle.shepherd.specs.declared.shepherd.Stage.{Stage}
use Rattle.shepherd.specs.declared.shepherd.Stage.TheVariants.{Resting, Serving, Refusing, Over}
use Rattle.shepherd_steps.specs.Passes.{outcome_of}
use Rattle.seat_steps.specs.Gone.{IsItemLeft, SeatGone, item_by_work, item_left, stage_gone, visit_gone}
use Rattle.seat_steps.specs.Twinned.{way_in}

-- the outcome of an answer is what the write came to
outcome-is : (o : Option WriteOutcome) → outcome_of (option_map answer_of_write o) ≡ o
outcome-is None = refl
outcome-is (Some (outcome.Written cookie)) = refl
outcome-is (Some (outcome.Missed causes)) = refl

back-is : (v w : Visit ActionCall) → IsGivenBack (record v { work = dropped v.work }) w → w ≡ visit_gone v
back-is v w back =
    back.new_is ∙ ap (λ (o : Option WriteOutcome). after_outcome o (record v { way = way.Resting; work = dropped v.work }))
    (sym (outcome-is back.outcome) ∙ ap outcome_of back.is_outcome)

-- a request that holds nothing any more
rests : (o : Option WriteOutcome) (v : Visit ActionCall) → v.way ≡ way.Resting → (after_outcome o v).way ≡ way.Resting
rests None v is = is
rests (Some (outcome.Written cookie)) v is = is
rests (Some (outcome.Missed causes)) v is = is

item-is : (v : Visit ActionCall) (w : Work ActionCall) (i : Item) → IsItemOf v w i → item_by_work v w ≡ Some i
item-is v Reading i is = absurd is
item-is v Opening i is = absurd is
item-is v (ServingBy tries program) i is = absurd is
item-is v (Committed place again shown) i is = absurd is
item-is v (Decided became) i is = absurd is
item-is v (Answered fate bytes) i is = absurd is
item-is v (Left fate) i is = ap (λ (x : Item). Some x) (sym is)

none-is : (v : Visit ActionCall) (w : Work ActionCall) → v.way ≡ way.Resting → v.work ≡ w → is_over (visit_turn v) ≡ false → item_by_work v w ≡ None
none-is v w rests is none = by w (sym (ap is_over (ap (λ (x : SessionWay). visit_turn_by v.work (wants x)) rests ∙ ap (λ (x : Work ActionCall). visit_turn_by x wanted.Nothing) is)) ∙ none) where
  by : (w : Work ActionCall) → is_over (visit_turn_by w wanted.Nothing) ≡ false → item_by_work v w ≡ None
  by Reading never = refl
  by Opening never = refl
  by (ServingBy tries program) never = refl
  by (Committed place again shown) never = refl
  by (Decided became) never = refl
  by (Answered fate bytes) never = refl
  by (Left fate) never = absurd (let e : true ≡ false = never in cc)

-- of a stage at which no request is open no item is left
nothing : (stage bare : Stage ActionCall) → ((i : Item) (after : Stage ActionCall) → TakesItem bare i after → ⊥) → stage ≡ bare → (item : Option Item) → IsItemLeft stage item → item ≡ None
nothing stage bare none is None left = refl
nothing stage bare none is (Some i) left = absurd (none i left.0 (subst (λ (s : Stage ActionCall). TakesItem s i left.0) is left.1))

-- the item that is left of a connection whose call was given up and whose passes were given back
pub left-is : (old stage : Stage ActionCall) (windows after : WindowsValue) (item : Option Item) → GivesBack (dropped_stage old) windows stage after → IsItemLeft stage item
    → (after ≡ after_give_back windows (held (way_in old))) × (item ≡ item_left old)
left-is Resting stage windows after item back left = (back.1, nothing stage Resting (λ i after takes. takes) back.0 item left)
left-is (Serving v call) stage windows after item back left =
    let is : stage ≡ Serving (visit_gone v) call = back.2 ∙ ap (λ (w : Visit ActionCall). Serving w call) (back-is v back.0 back.1.back) in
    (back.1.windows_are, by item (subst (λ (s : Stage ActionCall). IsItemLeft s item) is left)) where
      by : (item : Option Item) → IsItemLeft (Serving (visit_gone v) call) item → item ≡ item_by_work (visit_gone v) (visit_gone v).work
      by None none = sym (none-is (visit_gone v) (visit_gone v).work (rests (outcome_of (answer_held v.way)) (record v { way = way.Resting; work = dropped v.work }) refl) refl none)
      by (Some i) takes = sym (item-is (visit_gone v) (visit_gone v).work i takes.1.0)
left-is (Refusing why bytes) stage windows after item back left = (back.1, nothing stage (Refusing why bytes) (λ i after takes. takes) back.0 item left)
left-is (Over end) stage windows after item back left = (back.1, nothing stage (Over end) (λ i after takes. takes) back.0 item left)

-- the law by which windows fit to which passes were given back
abbrev pub BackFits : Type 0
BackFits = (st : LanesState) (to : SessionWay) → HasLanes st → HasLanes (record st { windows = after_give_back st.windows (held to) })

pub back-fit : BackFits → (st : LanesState) (lent : LentState) (given windows : WindowsValue) (old stage : Stage ActionCall) → lent ≡ without_windows st → given ≡ st.windows → HasLanes st
    → GivesBack (dropped_stage old) given stage windows → HasLanes (with_windows lent windows)
back-fit law st lent given windows old stage is same has back =
    let after : windows ≡ after_give_back st.windows (held (way_in old)) = given_back old back ∙ ap (λ (w : WindowsValue). after_give_back w (held (way_in old))) same in
    subst (λ (l : LentState). HasLanes (with_windows l windows)) (sym is)
    (subst (λ (w : WindowsValue). HasLanes (record st { windows = w })) (sym after) (law st (way_in old) has)) where
      given_back : (old : Stage ActionCall) → GivesBack (dropped_stage old) given stage windows → windows ≡ after_give_back given (held (way_in old))
      given_back Resting back = back.1
      given_back (Serving v call) back = back.1.windows_are
      given_back (Refusing why bytes) back = back.1
      given_back (Over end) back = back.1

-- What is left is what the function says.
pub gone-is : (old stage : Stage ActionCall) (st store : LanesState) (lent : LentState) (given windows : WindowsValue) (item : Option Item) → lent ≡ without_windows st → given ≡ st.windows
    → store ≡ with_windows lent windows → GivesBack (dropped_stage old) given stage windows → IsItemLeft stage item
    → (let left : SeatGone = record { store = store; item = item } in left) ≡ stage_gone old st
unfolding stage_gone
gone-is old stage st store lent given windows item is same put back left =
    let both = left-is old stage given windows item back left in
    let after : windows ≡ after_give_back st.windows (held (way_in old)) = both.0 ∙ ap (λ (w : WindowsValue). after_give_back w (held (way_in old))) same in
    let stores : store ≡ record st { windows = after_give_back st.windows (held (way_in old)) } =
    put ∙ (ap (λ (l : LentState). with_windows l windows) is ∙ ap (λ (w : WindowsValue). let x : LanesState = record st { windows = w } in x) after) in
    λ l. record { store = stores l; item = both.1 l }
