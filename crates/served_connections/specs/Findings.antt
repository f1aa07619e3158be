-- What the items of a connection and the request that is open tell of one kind, in order.
use Rattle.std.specs.Prelude.{◌≡◌, ◌≤◌, List, ◌++◌, length, Option, None, option_to_list}
use Rattle.std.specs.List.{flat_map}
use Rattle.http_wire.specs.declared.taken.Head.{Head}
use Rattle.outcome_items.specs.declared.item.Item.{Item}
use Rattle.outcome_items.specs.declared.outcome.ItemOutcome.{ItemOutcome}
use Rattle.request_visit.specs.declared.visit.Fate.{Fate}
use Rattle.request_visit.specs.declared.visit.Fate.TheVariants.{Known, Writing}
use Rattle.request_visit.specs.declared.visit.Work.{Work}
use Rattle.request_visit.specs.declared.visit.Work.TheVariants.{Reading, Opening, Serving as ServingBy, Committed, Decided, Answered, Left}
use Rattle.shepherd.specs.declared.shepherd.Stage.{Stage}
use Rattle.shepherd.specs.declared.shepherd.Stage.TheVariants.{Resting, Serving, Refusing, Over}

-- what is told of a request so far, of the kind that `tell` finds in what became of it
abbrev pub found_by_fate : {A : Type 0} → (ItemOutcome → Option A) → Fate → Option A
found_by_fate tell (Known became) = tell became
found_by_fate tell (Writing place again) = None

-- the same, by how far it has come
abbrev pub found_by : {A P : Type 0} → (ItemOutcome → Option A) → Work P → Option A
found_by tell Reading = None
found_by tell Opening = None
found_by tell (ServingBy tries program) = None
found_by tell (Committed place again shown) = None
found_by tell (Decided became) = tell became
found_by tell (Answered fate bytes) = found_by_fate tell fate
found_by tell (Left fate) = found_by_fate tell fate

-- the same of the request that is open, if one is
abbrev pub found_at : {A P : Type 0} → (ItemOutcome → Option A) → Stage P → Option A
found_at tell Resting = None
found_at tell (Serving v call) = found_by tell v.work
found_at tell (Refusing why bytes) = None
found_at tell (Over end) = None

-- what items tell of this kind, in order
abbrev pub found_in_all : {A : Type 0} → (ItemOutcome → Option A) → List Item → List A
found_in_all tell items = flat_map (λ (i : Item). option_to_list (tell i.outcome)) items

-- A connection found these: those that its items tell of, in order, and the one of the request that is open.
abbrev pub Finds : {A P : Type 0} → (ItemOutcome → Option A) → List A → List Item → Stage P → Type 0
Finds tell found items stage = found ≡ found_in_all tell items ++ option_to_list (found_at tell stage)

-- These are those that items tell of, in order, and one more at most where a request is open.
pub record AreFoundFor {A : Type 0} (tell : ItemOutcome → Option A) (found : List A) (items : List Item) (opened : List Head) : Type 0 where
  pub more : List A
  pub found_are : found ≡ found_in_all tell items ++ more
  pub few : length more ≤ length opened
