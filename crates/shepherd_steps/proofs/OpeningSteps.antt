-- The stage after a program was made, and what leaves, are those that the functions give.
use Rattle.std.proofs.Common.{◌≡◌, ℕ, List, [], ◌∷◌, Some, None, sym, ap, ◌∙◌}
use Rattle.std.specs.Option.{option_map}
use Rattle.auction_calls.specs.declared.action.ActionCall.{ActionCall}
use Rattle.crash_base.specs.declared.numbers.WorkerNo.{WorkerNo}
use Rattle.outcome_items.specs.declared.item.Item.{Item}
use Rattle.request_decisions.specs.Calls.{call_by}
use Rattle.request_visit.specs.Advancing.{IsItemOf, response_in, value_of}
use Rattle.request_visit.specs.declared.visit.Visit.{Visit}
use Rattle.request_visit.specs.declared.visit.Work.{Work}
use Rattle.request_visit.specs.declared.visit.Work.TheVariants.{Reading, Opening, Serving as ServingBy, Committed, Decided, Answered, Left}
use Rattle.shepherd.specs.Steps.{OpensStage, PutsOut, TakesItem, rested}
use Rattle.shepherd.specs.declared.shepherd.Shepherd.{Shepherd}
use Rattle.shepherd.specs.declared.shepherd.Stage.{Stage}
use Rattle.shepherd.specs.declared.shepherd.Stage.TheVariants.{Resting, Serving, Refusing, Over}
use Rattle.shepherd_steps.specs.Leaving.{item_by, item_taken, items_in, output_of}
use Rattle.shepherd_steps.specs.Opening.{MakesJust, open_stage, served_by}

pub open-fixed : {P M : Type 0} (makes : M → ActionCall → List ℕ → P → Type 0) (maker : M) (made : ActionCall → List ℕ × P) (worker : WorkerNo) (old new : Stage P)
    → MakesJust makes maker made → OpensStage makes maker worker old new → new ≡ open_stage made worker old
unfolding open_stage
open-fixed makes maker made worker Resting new just opened = absurd opened
open-fixed makes maker made worker (Serving v None) new just opened = absurd opened
open-fixed {P} makes maker made worker (Serving v (Some asked)) new just opened =
    let by = opened.1 in
    opened.2
    ∙ (ap (λ (w : Visit P). Serving w None) by.new_is
    ∙ ap (λ (m : List ℕ × P). Serving (served_by worker v asked m) None)
    (sym (just (call_by asked.call (option_map value_of v.lease)) by.text by.program by.made)))
open-fixed makes maker made worker (Refusing why bytes) new just opened = absurd opened
open-fixed makes maker made worker (Over end) new just opened = absurd opened

pub output-fixed : {P : Type 0} (old : Stage P) (bytes : List ℕ) (new : Stage P) → PutsOut old bytes new → (bytes, new) ≡ output_of old
unfolding output_of
output-fixed Resting bytes new puts = absurd puts
output-fixed {P} (Serving v call) bytes new puts =
    ap (λ (b : List ℕ). (b, new)) puts.0 ∙ ap (λ (s : Stage P). (response_in v.work, s)) puts.1
output-fixed {P} (Refusing why last) bytes new puts =
    ap (λ (b : List ℕ). (b, new)) puts.0 ∙ ap (λ (s : Stage P). (last, s)) puts.1
output-fixed (Over end) bytes new puts = absurd puts

-- an item is the one that its request has
one-item : {P : Type 0} (v : Visit P) (w : Work P) (i : Item) → IsItemOf v w i → (i ∷ [] ≡ items_in v w) × (i.holds ≡ v.holds)
one-item v Reading i is = absurd is
one-item v Opening i is = absurd is
one-item v (ServingBy tries program) i is = absurd is
one-item v (Committed place again shown) i is = absurd is
one-item v (Decided became) i is = absurd is
one-item v (Answered fate bytes) i is = absurd is
one-item v (Left fate) i is = (ap (λ (x : Item). x ∷ []) is, ap (λ (x : Item). x.holds) is)

item-so : {P : Type 0} (s : Shepherd P) (old : Stage P) (i : Item) (new : Stage P) → TakesItem old i new
    → (record s { front = i.holds.front; stage = new }, i ∷ []) ≡ item_by s old
item-so s Resting i new takes = absurd takes
item-so {P} s (Serving v call) i new takes =
    let one = one-item v v.work i takes.0 in
    ap (λ (h : Rattle.outcome_items.specs.declared.item.Holds.Holds). (record s { front = h.front; stage = new }, i ∷ [])) one.1
    ∙ (ap (λ (x : Stage P). (record s { front = v.holds.front; stage = x }, i ∷ [])) takes.1
    ∙ ap (λ (l : List Item). (record s { front = v.holds.front; stage = rested v.facts.close }, l)) one.0)
item-so s (Refusing why bytes) i new takes = absurd takes
item-so s (Over end) i new takes = absurd takes

pub item-fixed : {P : Type 0} (s : Shepherd P) (i : Item) (new : Stage P) → TakesItem s.stage i new
    → (record s { front = i.holds.front; stage = new }, i ∷ []) ≡ item_taken s
unfolding item_taken
item-fixed s i new takes = item-so s s.stage i new takes
