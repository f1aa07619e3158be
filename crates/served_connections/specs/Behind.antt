-- How many entries the journal had when the container was first held for each item.
use Rattle.std.specs.Prelude.{◌≢◌, ◌≤◌, ℕ, List, All}
use Rattle.outcome_items.specs.declared.item.Item.{Item}
use Rattle.request_tries.specs.Serving.{TriesValue, begun_at}
use Rattle.request_visit.specs.declared.visit.Visit.{Visit}
use Rattle.request_visit.specs.declared.visit.Work.{Work}
use Rattle.request_visit.specs.declared.visit.Work.TheVariants.{Reading, Opening, Serving as ServingBy, Committed, Decided, Answered, Left}
use Rattle.shepherd.specs.Steps.{IfOpen}
use Rattle.shepherd.specs.declared.shepherd.Shepherd.{Shepherd}

-- An item begins behind so many entries: the journal had at least as many when the container was first held for it, if
-- it was.
abbrev pub ItemBehind : ℕ → Item → Type 0
ItemBehind least i = i.holds.held ≢ 0 → least ≤ i.holds.from.0

-- a request is in the container by tries, and this is so of them; or it is not there
abbrev pub IfTries : {P : Type 0} → Work P → (TriesValue → Type 0) → Type 0
IfTries Reading So = Unit {0}
IfTries Opening So = Unit {0}
IfTries (ServingBy tries program) So = So tries
IfTries (Committed place again shown) So = Unit {0}
IfTries (Decided became) So = Unit {0}
IfTries (Answered fate bytes) So = Unit {0}
IfTries (Left fate) So = Unit {0}

-- A request begins behind so many entries: its first try did, or is to begin now, in a journal of this length; and so
-- did its first hold.
pub record BeginsBehind {P : Type 0} (least entries : ℕ) (v : Visit P) : Type 0 where
  pub tries : IfTries v.work (λ tries. least ≤ begun_at tries entries)
  pub from : v.holds.held ≢ 0 → least ≤ v.holds.from.0

-- The items of a connection begin behind so many entries, and so does the request that is open, in a journal of this
-- length.
pub record Beginning {P : Type 0} (least entries : ℕ) (items : List Item) (s : Shepherd P) : Type 0 where
  pub least_is : least ≤ entries
  pub each : All (ItemBehind least) items
  pub is_open : IfOpen s.stage (λ v call. BeginsBehind least entries v)
