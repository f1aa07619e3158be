-- A connection that is given up gives the item of a request whose response has left.
use Rattle.std.proofs.Common.{◌≡◌, ◌∙◌, ℕ, true, List, [], ◌∷◌, ◌++◌, Option, Some, refl, sym, ap, subst}
use Rattle.auction_calls.specs.declared.action.ActionCall.{ActionCall}
use Rattle.container_core.specs.declared.history.Event.{Event}
use Rattle.http_wire.specs.declared.taken.Head.{Head}
use Rattle.outcome_items.specs.declared.item.Item.{Item}
use Rattle.request_visit.proofs.Marking.{dropped_marks}
use Rattle.request_visit.proofs.Saying.{dropped_says}
use Rattle.request_visit.specs.Advancing.{IsItemOf, item_of}
use Rattle.request_visit.specs.Stepping.{dropped}
use Rattle.request_visit.specs.Visits.{turn_by as visit_turn_by}
use Rattle.request_visit.specs.declared.visit.Fate.{Fate}
use Rattle.request_visit.specs.declared.visit.Visit.{Visit}
use Rattle.request_visit.specs.declared.visit.Work.{Work}
use Rattle.request_visit.specs.declared.visit.Work.TheVariants.{Reading, Opening, Serving as ServingBy, Committed, Decided, Answered, Left}
use Rattle.session_way.specs.Way.{answer_held, wants}
use Rattle.session_way.specs.declared.way.SessionWay.{SessionWay}
use Rattle.session_way.specs.declared.way.SessionWay.TheVariants as way
use Rattle.shepherd.specs.Shepherds.{is_over}
use Rattle.shepherd.specs.Standing.{has_left, is_early}
use Rattle.shepherd.specs.Steps.{TakesItem, rested}
use Rattle.shepherd.specs.declared.shepherd.AskedCall.{AskedCall}
use Rattle.shepherd.specs.declared.shepherd.Shepherd.{Shepherd}
use Rattle.shepherd.specs.declared.shepherd.Stage.{Stage}
use Rattle.shepherd.specs.declared.shepherd.Stage.TheVariants.{Resting, Serving, Refusing, Over}
use Rattle.shepherd_steps.specs.Passes.{outcome_of}
use Rattle.seat_steps.proofs.AnsweringSteps.{AnswerLaws, rested-hears}
use Rattle.seat_steps.proofs.PassesSaid.{back-goes, back-then, given-back, told-left, told-way}
use Rattle.seat_steps.proofs.Visiting.{Goes, open-goes}
use Rattle.seat_steps.specs.Answering.{IsAnsweredAt, SeatAnswers}
use Rattle.seat_steps.specs.Gone.{item_by_work, item_left, visit_gone}

-- giving up a call leaves how far its request has come

left-still : (w : Work ActionCall) → has_left (dropped w) ≡ has_left w
left-still Reading = refl
left-still Opening = refl
left-still (ServingBy tries program) = refl
left-still (Committed place again shown) = refl
left-still (Decided became) = refl
left-still (Answered fate bytes) = refl
left-still (Left fate) = refl

early-still : (w : Work ActionCall) → is_early (dropped w) ≡ is_early w
early-still Reading = refl
early-still Opening = refl
early-still (ServingBy tries program) = refl
early-still (Committed place again shown) = refl
early-still (Decided became) = refl
early-still (Answered fate bytes) = refl
early-still (Left fate) = refl

answered-still : (w : Work ActionCall) (to : SessionWay) → IsAnsweredAt w to → IsAnsweredAt (dropped w) to
answered-still Reading to h = h
answered-still Opening to h = h
answered-still (ServingBy tries program) to h = h
answered-still (Committed place again shown) to h = h
answered-still (Decided became) to h = h
answered-still (Answered fate bytes) to h = h
answered-still (Left fate) to h = h

left-fate : (w : Work ActionCall) → has_left w ≡ true → (fate : Fate) × (w ≡ Left fate)
left-fate Reading e = absurd (cc)
left-fate Opening e = absurd (cc)
left-fate (ServingBy tries program) e = absurd (cc)
left-fate (Committed place again shown) e = absurd (cc)
left-fate (Decided became) e = absurd (cc)
left-fate (Answered fate bytes) e = absurd (cc)
left-fate (Left fate) e = (fate, refl)

-- an item is left where the response has left
item-fate : (v : Visit ActionCall) (w : Work ActionCall) (i : Item) → item_by_work v w ≡ Some i → (fate : Fate) × (w ≡ Left fate) × (item_of v fate ≡ i)
item-fate v Reading i e = absurd (cc)
item-fate v Opening i e = absurd (cc)
item-fate v (ServingBy tries program) i e = absurd (cc)
item-fate v (Committed place again shown) i e = absurd (cc)
item-fate v (Decided became) i e = absurd (cc)
item-fate v (Answered fate bytes) i e = absurd (cc)
item-fate v (Left fate) i e = let same : item_of v fate ≡ i = cc in (fate, refl, same)

dropped-goes : (key : List ℕ) (history : List Event) (v : Visit ActionCall) → Goes key history v (record v { work = dropped v.work })
dropped-goes key history v = record {
  facts = refl;
  left = λ e. sym (left-still v.work) ∙ e;
  early = λ e. sym (early-still v.work) ∙ e;
  still = λ marks sent h m says. record {
    marks = marks;
    marked = dropped_marks marks v.cookie v.way v.work m;
    says = dropped_says key history sent v says;
    hears = record { heard = h.heard; answered = answered-still v.work v.way h.answered };
  };
}

module _ (laws : AnswerLaws) (key : List ℕ) (history : List Event) (fed : List ℕ) (heads : List Head) (written : List ℕ) (items : List Item) (s : Shepherd ActionCall) (i : Item) where
  opened-gone : (v : Visit ActionCall) (call : Option AskedCall) → s.stage ≡ Serving v call → item_by_work (visit_gone v) (visit_gone v).work ≡ Some i → SeatAnswers key history fed heads written items s
      → (after : Shepherd ActionCall) × SeatAnswers key history fed heads written (items ++ i ∷ []) after
  opened-gone v call was is h =
      let still : Visit ActionCall = record v { work = dropped v.work } in
      let to : Visit ActionCall = given-back still in
      let fate : (f : Fate) × (to.work ≡ Left f) × (item_of to f ≡ i) = item-fate to to.work i is in
      let has : has_left still.work ≡ true = sym (told-left (outcome_of (answer_held still.way)) (record still { way = way.Resting })) ∙ ap has_left fate.1 in
      let before : (f : Fate) × (still.work ≡ Left f) = left-fate still.work has in
      let first : SeatAnswers key history fed heads written items (record s { stage = Serving still call }) =
      open-goes key history fed heads written items s v still call call was (dropped-goes key history v) (λ asked e. asked ((dropped-goes key history v).early e)) h in
      let goes : Goes key history still to = back-goes laws.plain key history still (back-then laws.plain key history still before.0 before.1) in
      let second : SeatAnswers key history fed heads written items (record s { stage = Serving to call }) =
      open-goes key history fed heads written items (record s { stage = Serving still call }) still to call call refl goes (λ asked e. asked (goes.early e)) first in
      let takes : TakesItem {P = ActionCall} (Serving to call) i (rested to.facts.close) = (subst (λ (w : Work ActionCall). IsItemOf to w i) (sym fate.1) (sym fate.2), refl) in
      let over : is_over (visit_turn_by to.work (wants to.way)) ≡ true =
      ap (λ (w : Work ActionCall). is_over (visit_turn_by w (wants to.way))) fate.1
      ∙ ap (λ (x : SessionWay). is_over (visit_turn_by {P = ActionCall} (Left fate.0) (wants x))) (told-way (outcome_of (answer_held still.way)) (record still { way = way.Resting })) in (
        record s { front = i.holds.front; stage = rested to.facts.close },
        record {
          stands = laws.item_stands fed heads written items i (record s { stage = Serving to call }) (rested to.facts.close) takes second.stands;
          answers = laws.item_answers key history heads written items i (record s { stage = Serving to call }) (rested to.facts.close) over takes second.answers;
          hears = rested-hears laws key history fed heads written s to.facts.close;
        },
      )

  -- The item of a connection that is given up is that of its last request.
  pub gone-answers : item_left s.stage ≡ Some i → SeatAnswers key history fed heads written items s → (after : Shepherd ActionCall) × SeatAnswers key history fed heads written (items ++ i ∷ []) after
  gone-answers is h = by s.stage refl is where
    by : (x : Stage ActionCall) → s.stage ≡ x → item_left x ≡ Some i → (after : Shepherd ActionCall) × SeatAnswers key history fed heads written (items ++ i ∷ []) after
    by Resting was e = absurd (cc)
    by (Serving v call) was e = opened-gone v call was e h
    by (Refusing why bytes) was e = absurd (cc)
    by (Over end) was e = absurd (cc)
