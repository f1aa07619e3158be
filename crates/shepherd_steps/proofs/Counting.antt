-- A step gives the item of each request that it closes, and no other.
use Rattle.std.proofs.Common.{◌≡◌, ◌+◌, ℕ, Bool, true, false, List, length, length-append, Option, Some, None, refl, ◌∙◌, arith}
use Rattle.request_visit.specs.Visits.{turn as visit_turn}
use Rattle.request_visit.specs.declared.visit.Visit.{Visit}
use Rattle.request_visit.specs.declared.visit.Work.{Work}
use Rattle.request_visit.specs.declared.visit.Work.TheVariants.{Reading, Opening, Serving as ServingBy, Committed, Decided, Answered, Left}
use Rattle.session_way.specs.Way.{wants}
use Rattle.shepherd.specs.Shepherds.{turn, turn_by}
use Rattle.shepherd.specs.Standing.{has_left}
use Rattle.shepherd.specs.Steps.{OnVisit, rested}
use Rattle.shepherd.specs.declared.shepherd.AskedCall.{AskedCall}
use Rattle.shepherd.specs.declared.shepherd.Shepherd.{Shepherd}
use Rattle.shepherd.specs.declared.shepherd.ShepherdTurn.{ShepherdTurn}
use Rattle.shepherd.specs.declared.shepherd.ShepherdTurn.TheVariants as turns
use Rattle.shepherd.specs.declared.shepherd.Stage.{Stage}
use Rattle.shepherd.specs.declared.shepherd.Stage.TheVariants.{Resting, Serving, Refusing, Over}
use Rattle.shepherd_steps.specs.Alone.{Making, alone, alone_at, gone_alone, own_stage}
use Rattle.shepherd_steps.specs.Events.{event_of, requests_open}
use Rattle.shepherd_steps.specs.Leaving.{item_by, item_taken, items_in}
use Rattle.shepherd_steps.specs.Opening.{open_stage}
use Rattle.shepherd_steps.specs.Stepping.{Givens, World, event_at, step}
use Rattle.shepherd_steps.proofs.GoingAlone.{turned-so}
use Rattle.shepherd_steps.proofs.Owing.{over-left}

none-more : (n : ℕ) → 0 + n ≡ n
none-more n = omega arith

open-same : {P : Type 0} (m : Making P) (stage : Stage P) → requests_open (open_stage m.made m.worker stage) ≡ requests_open stage
unfolding open_stage
open-same m Resting = refl
open-same m (Serving v None) = refl
open-same m (Serving v (Some asked)) = refl
open-same m (Refusing why bytes) = refl
open-same m (Over end) = refl

own-same : {P : Type 0} (key : List ℕ) (stage : Stage P) → requests_open (own_stage key stage) ≡ requests_open stage
own-same key Resting = refl
own-same key (Serving v call) = refl
own-same key (Refusing why bytes) = refl
own-same key (Over end) = refl

left-one : {P : Type 0} (v : Visit P) (w : Work P) → has_left w ≡ true → length (items_in v w) ≡ 1
left-one v Reading left = absurd (cc)
left-one v Opening left = absurd (cc)
left-one v (ServingBy tries program) left = absurd (cc)
left-one v (Committed place again shown) left = absurd (cc)
left-one v (Decided became) left = absurd (cc)
left-one v (Answered fate bytes) left = absurd (cc)
left-one v (Left fate) left = refl

none-open : (P : Type 0) (close : Bool) → requests_open (rested {P = P} close) ≡ 0
none-open P true = refl
none-open P false = refl

item-one : {P : Type 0} (s : Shepherd P) (stage : Stage P) → OnVisit stage (λ (v : Visit P) (call : Option AskedCall). turn_by (visit_turn v) ≡ turns.Item)
    → length (item_by s stage).1 + requests_open (item_by s stage).0.stage ≡ requests_open stage
item-one s Resting turned = absurd turned
item-one {P} s (Serving v call) turned =
    let one = left-one v v.work (over-left v.work (wants v.way) turned) in
    let none = none-open P v.facts.close in
    omega arith
item-one s (Refusing why bytes) turned = absurd turned
item-one s (Over end) turned = absurd turned

alone-items : {P : Type 0} (m : Making P) (s : Shepherd P) → length (alone m s).1 + requests_open (alone m s).0.stage ≡ requests_open s.stage
unfolding alone item_taken
alone-items {P} m s = by (turn s) refl where
  by : (t : ShepherdTurn) → turn s ≡ t → length (alone_at m t s).1 + requests_open (alone_at m t s).0.stage ≡ requests_open s.stage
  by turns.Bytes is = none-more (requests_open s.stage)
  by turns.Request is = none-more (requests_open s.stage)
  by turns.Outside is = none-more (requests_open s.stage)
  by turns.Windows is = none-more (requests_open s.stage)
  by turns.Inside is = none-more (requests_open s.stage)
  by turns.Program is = none-more (requests_open (open_stage m.made m.worker s.stage)) ∙ open-same m s.stage
  by turns.Own is = none-more (requests_open (own_stage m.key s.stage)) ∙ own-same m.key s.stage
  by turns.Output is = none-more (requests_open s.stage)
  by turns.Item is = item-one s s.stage (turned-so s turns.Item is refl)
  by (turns.Ended end) is = none-more (requests_open s.stage)

gone-items : {P : Type 0} (m : Making P) (s : Shepherd P) → length (gone_alone m s).1 + requests_open (gone_alone m s).0.stage ≡ requests_open s.stage
unfolding gone_alone
gone-items m s =
    let first = alone-items m s in
    let second = alone-items m (alone m s).0 in
    let both = length-append (alone m s).1 (alone m (alone m s).0).1 in
    omega arith

pub step-items : {P L : Type 0} (g : Givens P L) (w : World P L) → length (step g w).items + requests_open (step g w).world.connection.stage ≡ requests_open (event_of g w).world.connection.stage
unfolding step event_of
step-items g w = gone-items g.making (event_at g (turn w.connection) w).0.connection
