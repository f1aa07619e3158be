-- What stands of a connection stands with the item that is left where it is given up.
use Rattle.std.proofs.Common.{◌≡◌, ◌≢◌, ◌∙◌, Bool, true, false, List, [], ◌∷◌, ◌++◌, append-nil, Option, Some, None, Result, Ok, Err, refl, sym, ap, subst}
use Rattle.std.specs.Option.{option_map}
use Rattle.auction_calls.specs.declared.action.ActionCall.{ActionCall}
use Rattle.crash_base.specs.declared.numbers.Place.{Place}
use Rattle.outcome_items.specs.declared.item.Item.{Item}
use Rattle.request_visit.specs.Advancing.{IsItemOf, item_of}
use Rattle.request_visit.specs.Stepping.{dropped}
use Rattle.request_visit.specs.Visits.{after_outcome, fate_missed, fate_written, turn_by as visit_turn_by, with_fate}
use Rattle.request_visit.specs.declared.visit.Fate.{Fate}
use Rattle.request_visit.specs.declared.visit.Fate.TheVariants.{Writing}
use Rattle.request_visit.specs.declared.visit.Visit.{Visit}
use Rattle.request_visit.specs.declared.visit.Work.{Work}
use Rattle.request_visit.specs.declared.visit.Work.TheVariants.{Reading, Opening, Serving as ServingBy, Committed, Decided, Answered, Left}
use Rattle.send_windows.specs.Windows.{WindowsValue}
use Rattle.session_cookie.specs.declared.cookie.Cookie.{Cookie}
use Rattle.session_way.specs.Marks.{marks_by}
use Rattle.session_way.specs.Way.{after_give_back, answer_held, held, wants}
use Rattle.session_way.specs.Writing.{answer_of_write}
use Rattle.session_way.specs.declared.session_write.WriteOutcome.{WriteOutcome}
use Rattle.session_way.specs.declared.session_write.WriteOutcome.TheVariants as outcome
use Rattle.session_way.specs.declared.way.SessionWay.{SessionWay}
use Rattle.session_way.specs.declared.way.SessionWay.TheVariants as way
use Rattle.shepherd.specs.Shepherds.{has_item, is_over}
use Rattle.shepherd.specs.Standing.{has_left}
use Rattle.shepherd.specs.Steps.{GivesBack, HasAnswerIfOpen, HasLeftIfOpen, TakesItem, dropped_stage, rested}
use Rattle.shepherd.specs.declared.shepherd.AskedCall.{AskedCall}
use Rattle.shepherd.specs.declared.shepherd.Shepherd.{Shepherd}
use Rattle.shepherd.specs.declared.shepherd.Stage.{Stage}
use Rattle.shepherd.specs.declared.shepherd.Stage.TheVariants.{Resting, Serving, Refusing, Over}
use Rattle.shepherd_steps.specs.Passes.{outcome_of}
use Rattle.ssm_stub.specs.Writes.{WriteState, write_answer}
use Rattle.ssm_stub.specs.declared.write_call.WriteRefusal.{WriteRefusal}
use Rattle.ssm_stub.specs.declared.write_call.WriteRefusal.TheVariants as refusal
use Rattle.seat_steps.specs.Answering.{HearsItsWrite, IsAnsweredAt, StageHears}
use Rattle.seat_steps.specs.Gone.{item_by_work, item_left, visit_gone}
use Rattle.seat_laws.proofs.Twinning.{after-way}

-- a write has no answer that it ran out of memory
abbrev pub AnswersPlainly : Type 0
AnswersPlainly = (here : WriteState) → write_answer here ≢ Some (Err refusal.OutOfMemory)

-- what is told of a write is its answer
told-so : (a : Option (Result Cookie WriteRefusal)) → a ≢ Some (Err refusal.OutOfMemory) → option_map answer_of_write (outcome_of a) ≡ a
told-so None plain = refl
told-so (Some (Ok cookie)) plain = refl
told-so (Some (Err (refusal.Missed causes))) plain = refl
told-so (Some (Err refusal.OutOfMemory)) plain = absurd (plain refl)

held-plain : AnswersPlainly → (to : SessionWay) → answer_held to ≢ Some (Err refusal.OutOfMemory)
held-plain law way.Resting = λ is. cc
held-plain law (way.Reading r) = λ is. cc
held-plain law (way.Ordered order) = λ is. cc
held-plain law (way.Writing w) = law w.write
held-plain law (way.Settling w) = law w.write
held-plain law (way.Holding passes) = λ is. cc

-- passes that are given back leave their mark
back-marks : (windows : WindowsValue) (to : SessionWay) → (after_give_back windows (held to)).history ≡ windows.history ++ marks_by to way.Resting
back-marks windows way.Resting = sym (append-nil windows.history)
back-marks windows (way.Reading r) = sym (append-nil windows.history)
back-marks windows (way.Ordered order) = sym (append-nil windows.history)
back-marks windows (way.Writing w) = refl
back-marks windows (way.Settling w) = refl
back-marks windows (way.Holding passes) = refl

-- another fate leaves how far a request has come
with-left : (change : Fate → Fate) (w : Work ActionCall) → has_left (with_fate change w) ≡ has_left w
with-left change Reading = refl
with-left change Opening = refl
with-left change (ServingBy tries program) = refl
with-left change (Committed place again shown) = refl
with-left change (Decided became) = refl
with-left change (Answered fate bytes) = refl
with-left change (Left fate) = refl

told-left : (o : Option WriteOutcome) (v : Visit ActionCall) → has_left (after_outcome o v).work ≡ has_left v.work
told-left None v = refl
told-left (Some (outcome.Written cookie)) v = with-left fate_written v.work
told-left (Some (outcome.Missed causes)) v = with-left (fate_missed causes) v.work

-- an item is left where the response has left
item-fate : (v : Visit ActionCall) (w : Work ActionCall) (i : Item) → item_by_work v w ≡ Some i → (fate : Fate) × (w ≡ Left fate) × (item_of v fate ≡ i)
item-fate v Reading i e = absurd (cc)
item-fate v Opening i e = absurd (cc)
item-fate v (ServingBy tries program) i e = absurd (cc)
item-fate v (Committed place again shown) i e = absurd (cc)
item-fate v (Decided became) i e = absurd (cc)
item-fate v (Answered fate bytes) i e = absurd (cc)
item-fate v (Left fate) i e = let same : item_of v fate ≡ i = cc in (fate, refl, same)

-- a write that a response waited for has its answer, also where its call is given up
answered-then : (w : Work ActionCall) (to : SessionWay) (place : Place) (again : Bool) → IsAnsweredAt w to → dropped w ≡ Left (Writing place again) → answer_held to ≢ None
answered-then Reading to place again has e = absurd (cc)
answered-then Opening to place again has e = absurd (cc)
answered-then (ServingBy tries program) to place again has e = absurd (cc)
answered-then (Committed place again_too shown) to other again has e = absurd (cc)
answered-then (Decided became) to place again has e = absurd (cc)
answered-then (Answered fate bytes) to place again has e = absurd (cc)
answered-then (Left fate) to place again has e = subst (λ (x : Work ActionCall). IsAnsweredAt x to) e has

-- giving up a call leaves how far its request has come
dropped-left : (w : Work ActionCall) → has_left (dropped w) ≡ has_left w
dropped-left Reading = refl
dropped-left Opening = refl
dropped-left (ServingBy tries program) = refl
dropped-left (Committed place again shown) = refl
dropped-left (Decided became) = refl
dropped-left (Answered fate bytes) = refl
dropped-left (Left fate) = refl

-- one whose response has left has an item
by-left : (v : Visit ActionCall) (w : Work ActionCall) → has_left w ≡ true → (i : Item) × (item_by_work v w ≡ Some i)
by-left v Reading e = absurd (cc)
by-left v Opening e = absurd (cc)
by-left v (ServingBy tries program) e = absurd (cc)
by-left v (Committed place again shown) e = absurd (cc)
by-left v (Decided became) e = absurd (cc)
by-left v (Answered fate bytes) e = absurd (cc)
by-left v (Left fate) e = (item_of v fate, refl)

-- Where a response has left, an item is left.
pub left-item : (stage : Stage ActionCall) (v : Visit ActionCall) (call : Option AskedCall) → stage ≡ Serving v call → has_left v.work ≡ true → (i : Item) × (item_left stage ≡ Some i)
left-item stage v call is left =
    let still : Visit ActionCall = record v { way = way.Resting; work = dropped v.work } in
    let i : (i : Item) × (item_by_work (visit_gone v) (visit_gone v).work ≡ Some i) =
    by-left (visit_gone v) (visit_gone v).work (told-left (outcome_of (answer_held v.way)) still ∙ (dropped-left v.work ∙ left)) in
    (i.0, ap item_left is ∙ i.1)

rested-hears : (close : Bool) → StageHears (rested close)
rested-hears true = tt
rested-hears false = tt

-- the laws by which something stands of a connection that is given up, with its items
pub record GoneLaws (So : List Item → Shepherd ActionCall → Type 0) : Type 0 where
  pub given_up : (items : List Item) (s : Shepherd ActionCall) → So items s → So items (record s { stage = dropped_stage s.stage })
  pub given_back : (items : List Item) (s : Shepherd ActionCall) (stage : Stage ActionCall) (windows after : WindowsValue) → GivesBack s.stage windows stage after → HasLeftIfOpen s.stage → HasAnswerIfOpen s.stage
      → So items s → So items (record s { stage = stage })
  pub item : (items : List Item) (i : Item) (s : Shepherd ActionCall) (stage : Stage ActionCall) → has_item s.stage ≡ true → TakesItem s.stage i stage
      → So items s → So (items ++ i ∷ []) (record s { front = i.holds.front; stage = stage })

module _ (So : List Item → Shepherd ActionCall → Type 0) (laws : GoneLaws So) (plain : AnswersPlainly) (windows : WindowsValue) (items : List Item) (s : Shepherd ActionCall) (i : Item) where
  -- it stands with the item, and waits for no write
  abbrev pub StandsGone : Type 0
  StandsGone = (after : Shepherd ActionCall) × StageHears after.stage × So (items ++ i ∷ []) after

  opened-gone : (v : Visit ActionCall) (call : Option AskedCall) → s.stage ≡ Serving v call → item_by_work (visit_gone v) (visit_gone v).work ≡ Some i → HearsItsWrite v → So items s → StandsGone
  opened-gone v call was is hears so =
      let still : Visit ActionCall = record v { work = dropped v.work } in
      let bare : Visit ActionCall = record still { way = way.Resting } in
      let told : Option WriteOutcome = outcome_of (answer_held v.way) in
      let to : Visit ActionCall = visit_gone v in
      let after : WindowsValue = after_give_back windows (held v.way) in
      let fate : (f : Fate) × (to.work ≡ Left f) × (item_of to f ≡ i) = item-fate to to.work i is in
      let has : has_left still.work ≡ true = sym (told-left told bare) ∙ ap has_left fate.1 in
      let first : So items (record s { stage = Serving still call }) =
      subst (λ (x : Stage ActionCall). So items (record s { stage = dropped_stage x })) was (laws.given_up items s so) in
      let gives : GivesBack {P = ActionCall} (Serving still call) windows (Serving to call) after = (
        to,
        record {
          back = record { outcome = told; is_outcome = told-so (answer_held v.way) (held-plain plain v.way); new_is = refl };
          windows_are = refl;
          marks = back-marks windows v.way;
        },
        refl,
      ) in
      let second : So items (record s { stage = Serving to call }) =
      laws.given_back items (record s { stage = Serving still call }) (Serving to call) windows after gives has (λ place again e. answered-then v.work v.way place again hears.answered e) first in
      let takes : TakesItem {P = ActionCall} (Serving to call) i (rested to.facts.close) = (subst (λ (w : Work ActionCall). IsItemOf to w i) (sym fate.1) (sym fate.2), refl) in
      let over : is_over (visit_turn_by to.work (wants to.way)) ≡ true =
      ap (λ (w : Work ActionCall). is_over (visit_turn_by w (wants to.way))) fate.1
      ∙ ap (λ (x : SessionWay). is_over (visit_turn_by {P = ActionCall} (Left fate.0) (wants x))) (after-way told bare) in (
        record s { front = i.holds.front; stage = rested to.facts.close },
        rested-hears to.facts.close,
        laws.item items i (record s { stage = Serving to call }) (rested to.facts.close) over takes second,
      )

  -- The item of a connection that is given up is that of its last request.
  pub gone-so : item_left s.stage ≡ Some i → StageHears s.stage → So items s → StandsGone
  gone-so is hears so = by s.stage refl is hears where
    by : (x : Stage ActionCall) → s.stage ≡ x → item_left x ≡ Some i → StageHears x → StandsGone
    by Resting was e h = absurd (cc)
    by (Serving v call) was e h = opened-gone v call was e h so
    by (Refusing why bytes) was e h = absurd (cc)
    by (Over end) was e h = absurd (cc)
