-- A request that nothing has hindered so far.
use Rattle.std.specs.Prelude.{◌≡◌, Bool}
use Rattle.crash_base.specs.declared.numbers.BrickNo.{BrickNo}
use Rattle.crash_base.specs.declared.numbers.Place.{Place}
use Rattle.request_tries.specs.declared.outcome.RequestOutcome.TheVariants.{Page}
use Rattle.session_way.specs.declared.way.SessionWay.{SessionWay}
use Rattle.session_way.specs.declared.way.SessionWay.TheVariants as way
use Rattle.outcome_items.specs.declared.outcome.ItemOutcome.{ItemOutcome}
use Rattle.outcome_items.specs.declared.outcome.ItemOutcome.TheVariants as item
use Rattle.request_visit.specs.declared.visit.Fate.{Fate}
use Rattle.request_visit.specs.declared.visit.Fate.TheVariants.{Known, Writing}
use Rattle.request_visit.specs.declared.visit.Visit.{Visit}
use Rattle.request_visit.specs.declared.visit.Work.{Work}
use Rattle.request_visit.specs.declared.visit.Work.TheVariants.{Reading, Opening, Serving, Committed, Decided, Answered, Left}
use Rattle.unhindered_requests.specs.Bricks.{BricksServe, HasStored, HoldersServe, MayFind, MayStore}

-- The bricks that serve do so: none that is asked has a cause against it. Of a write that is settled this is left open.
abbrev pub Serve : (BrickNo → Bool) → SessionWay → Type 0
Serve serves way.Resting = Unit {0}
Serve serves (way.Reading r) = HoldersServe serves r.asks
Serve serves (way.Ordered order) = Unit {0}
Serve serves (way.Writing w) = BricksServe serves w.write.asks
Serve serves (way.Settling w) = Unit {0}
Serve serves (way.Holding passes) = Unit {0}

-- a session is read, and may still be found
abbrev pub MayBeFound : (BrickNo → Bool) → SessionWay → Type 0
MayBeFound serves way.Resting = ⊥
MayBeFound serves (way.Reading r) = MayFind serves r
MayBeFound serves (way.Ordered order) = ⊥
MayBeFound serves (way.Writing w) = ⊥
MayBeFound serves (way.Settling w) = ⊥
MayBeFound serves (way.Holding passes) = ⊥

-- a session is to be written, or is written and may still be stored
abbrev pub MayBeStored : (BrickNo → Bool) → SessionWay → Type 0
MayBeStored serves way.Resting = ⊥
MayBeStored serves (way.Reading r) = ⊥
MayBeStored serves (way.Ordered order) = Unit {0}
MayBeStored serves (way.Writing w) = MayStore serves w.write
MayBeStored serves (way.Settling w) = ⊥
MayBeStored serves (way.Holding passes) = ⊥

-- a session was stored, and its write is held still
abbrev pub WasStored : SessionWay → Type 0
WasStored way.Resting = ⊥
WasStored (way.Reading r) = ⊥
WasStored (way.Ordered order) = ⊥
WasStored (way.Writing w) = HasStored w.write
WasStored (way.Settling w) = HasStored w.write
WasStored (way.Holding passes) = ⊥

-- this became of a request: a page
abbrev pub IsPage : ItemOutcome → Type 0
IsPage became = (place : Place) × (again : Bool) × (became ≡ item.Ended (Page place again))

-- what is told of a request so far is a page; where its session is written, that was stored
abbrev pub TellsPage : SessionWay → Fate → Type 0
TellsPage w (Known became) = IsPage became
TellsPage w (Writing place again) = WasStored w

-- the same, by how far the request has come
abbrev pub IsUnhinderedBy : {P : Type 0} → (BrickNo → Bool) → SessionWay → Work P → Type 0
IsUnhinderedBy serves w Reading = MayBeFound serves w
IsUnhinderedBy serves w Opening = Unit {0}
IsUnhinderedBy serves w (Serving tries program) = Unit {0}
IsUnhinderedBy serves w (Committed place again shown) = MayBeStored serves w
IsUnhinderedBy serves w (Decided became) = ⊥
IsUnhinderedBy serves w (Answered fate bytes) = TellsPage w fate
IsUnhinderedBy serves w (Left fate) = TellsPage w fate

-- Nothing has hindered a request so far, while these bricks serve: its session may still be found, and may still be
-- stored; it is served; or it is shown a page.
abbrev pub IsUnhindered : {P : Type 0} → (BrickNo → Bool) → Visit P → Type 0
IsUnhindered serves v = IsUnhinderedBy serves v.way v.work
