-- The items of connections that are given up.
use Rattle.std.proofs.Common.{◌≡◌, ℕ, List, [], ◌∷◌, ◌++◌, length, Option, Some, None, refl, sym, ap, ◌∙◌, length-append, arith}
use Rattle.std.proofs.lemmas.List.{append-nil}
use Rattle.std.specs.List.{flat_map}
use Rattle.auction_calls.specs.declared.action.ActionCall.{ActionCall}
use Rattle.outcome_items.specs.declared.item.Item.{Item}
use Rattle.request_visit.specs.Stepping.{dropped}
use Rattle.request_visit.specs.declared.visit.Visit.{Visit}
use Rattle.request_visit.specs.declared.visit.Work.{Work}
use Rattle.request_visit.specs.declared.visit.Work.TheVariants.{Reading, Opening, Serving as ServingBy, Committed, Decided, Answered, Left}
use Rattle.session_lanes.specs.Lanes.{LanesState}
use Rattle.session_way.specs.Way.{answer_held}
use Rattle.session_way.specs.declared.way.SessionWay.TheVariants as way
use Rattle.shepherd.specs.Standing.{has_left}
use Rattle.shepherd.specs.declared.shepherd.EndKind.TheVariants as ends
use Rattle.shepherd.specs.declared.shepherd.Stage.{Stage}
use Rattle.shepherd.specs.declared.shepherd.Stage.TheVariants.{Resting, Serving, Refusing, Over}
use Rattle.shepherd_steps.specs.Passes.{outcome_of}
use Rattle.seat_steps.specs.Gone.{item_by_work, item_left, seat_gone, stage_gone, visit_gone}
use Rattle.seat_steps.specs.declared.seat.Seat.{Seat}
use Rattle.seat_lines.specs.Giving.{items_at_giving_up, items_if, left_by}
use Rattle.seat_lines.specs.PuttingOut.{HasAccounted, HasPutOut, IsSent}
use Rattle.seat_lines.proofs.Leaving.{left_count, told_left}

dropped_left : (w : Work ActionCall) → has_left (dropped w) ≡ has_left w
dropped_left Reading = refl
dropped_left Opening = refl
dropped_left (ServingBy tries program) = refl
dropped_left (Committed place again shown) = refl
dropped_left (Decided became) = refl
dropped_left (Answered fate bytes) = refl
dropped_left (Left fate) = refl

gone_left : (v : Visit ActionCall) → has_left (visit_gone v).work ≡ has_left v.work
gone_left v = told_left (outcome_of (answer_held v.way)) (record v { way = way.Resting; work = dropped v.work }) ∙ dropped_left v.work

item_count : (v : Visit ActionCall) (w : Work ActionCall) → length (items_if (item_by_work v w)) ≡ left_count (has_left w)
item_count v Reading = refl
item_count v Opening = refl
item_count v (ServingBy tries program) = refl
item_count v (Committed place again shown) = refl
item_count v (Decided became) = refl
item_count v (Answered fate bytes) = refl
item_count v (Left fate) = refl

-- what was sent behind the responses of the items, and the item that is left
accounted : (outs : List (List ℕ)) (items : List Item) (responses sent : List (List ℕ)) (stage : Stage ActionCall) → outs ≡ responses ++ sent → length responses ≡ length items → IsSent stage sent → HasAccounted outs (items ++ items_if (item_left stage))
accounted outs items responses sent Resting are each is = record {
  responses = responses;
  end = ends.Closed;
  outs_are = are ∙ ap (λ (x : List (List ℕ)). responses ++ x) is;
  each = each ∙ ap length (sym (append-nil items));
}
accounted outs items responses sent (Serving v call) are each is =
    let gone : Visit ActionCall = visit_gone v in
    let one : length (items_if (item_by_work gone gone.work)) ≡ length sent = item_count gone gone.work ∙ (ap left_count (gone_left v) ∙ sym is) in
    record {
      responses = responses ++ sent;
      end = ends.Closed;
      outs_are = are ∙ sym (append-nil (responses ++ sent));
      each = omega (arith, length-append responses sent, length-append items (items_if (item_by_work gone gone.work)), each, one);
    }
accounted outs items responses sent (Refusing why last) are each is = record {
  responses = responses;
  end = ends.Closed;
  outs_are = are ∙ ap (λ (x : List (List ℕ)). responses ++ x) is.0;
  each = each ∙ ap length (sym (append-nil items));
}
accounted outs items responses sent (Over end) are each is = record {
  responses = responses;
  end = end;
  outs_are = are ∙ ap (λ (x : List (List ℕ)). responses ++ x) is;
  each = each ∙ ap length (sym (append-nil items));
}

pub gone_told : (n : ℕ) (outs : List (List ℕ)) (items : List Item) (seat : Seat) (st : LanesState) → HasPutOut n outs items (Some seat) [] → HasAccounted outs (items ++ items_if (seat_gone seat st).item)
unfolding stage_gone
gone_told n outs items seat st told = accounted outs items told.responses told.sent seat.connection.stage told.outs_are told.each told.behind.0

pub items_given : (seats : List (Option Seat)) (st : LanesState) → items_at_giving_up seats st ≡ flat_map left_by seats
unfolding stage_gone
items_given [] st = refl
items_given (None ∷ seats) st = items_given seats st
items_given (Some seat ∷ seats) st = ap (λ (x : List Item). left_by (Some seat) ++ x) (items_given seats (seat_gone seat st).store)
