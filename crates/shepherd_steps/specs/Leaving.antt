-- What leaves a connection: the bytes that are put out, and the items that are taken.
use Rattle.std.specs.Prelude.{ℕ, List, [], ◌∷◌}
use Rattle.outcome_items.specs.declared.item.Item.{Item}
use Rattle.request_visit.specs.Advancing.{after_leaving, item_of, response_in}
use Rattle.request_visit.specs.declared.visit.Visit.{Visit}
use Rattle.request_visit.specs.declared.visit.Work.{Work}
use Rattle.request_visit.specs.declared.visit.Work.TheVariants.{Reading, Opening, Serving as ServingBy, Committed, Decided, Answered, Left}
use Rattle.shepherd.specs.Steps.{rested}
use Rattle.shepherd.specs.declared.shepherd.EndKind.TheVariants as ends
use Rattle.shepherd.specs.declared.shepherd.Shepherd.{Shepherd}
use Rattle.shepherd.specs.declared.shepherd.Stage.{Stage}
use Rattle.shepherd.specs.declared.shepherd.Stage.TheVariants.{Resting, Serving, Refusing, Over}

-- The bytes that a connection puts out, and the stage after.
unfoldable pub output_of : {P : Type 0} → Stage P → List ℕ × Stage P
output_of Resting = ([], Resting)
output_of (Serving v call) = (response_in v.work, Serving (after_leaving v) call)
output_of (Refusing why last) = (last, Over (ends.Refused why))
output_of (Over end) = ([], Over end)

-- the items of a request of this work: one, where its response has left
abbrev pub items_in : {P : Type 0} → Visit P → Work P → List Item
items_in v Reading = []
items_in v Opening = []
items_in v (ServingBy tries program) = []
items_in v (Committed place again shown) = []
items_in v (Decided became) = []
items_in v (Answered fate bytes) = []
items_in v (Left fate) = item_of v fate ∷ []

-- the connection behind the request that is open, and its item
abbrev pub item_by : {P : Type 0} → Shepherd P → Stage P → Shepherd P × List Item
item_by s Resting = (s, [])
item_by s (Serving v call) = (record s { front = v.holds.front; stage = rested v.facts.close }, items_in v v.work)
item_by s (Refusing why bytes) = (s, [])
item_by s (Over end) = (s, [])

-- The connection once the item of the request that is open was taken, and that item.
unfoldable pub item_taken : {P : Type 0} → Shepherd P → Shepherd P × List Item
item_taken s = item_by s s.stage
