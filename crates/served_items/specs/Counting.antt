-- What a link counted from item to item of a connection, by the causes that the items tell.
use Rattle.std.specs.Prelude.{◌≤◌, List, [], ◌∷◌}
use Rattle.outcome_items.specs.declared.item.Item.{Item}
use Rattle.outside.specs.declared.link.LinkCounts.{LinkCounts}
use Rattle.request_visit.specs.Counts.{CountsStand, HasCounted, causes_of, noted_by}
use Rattle.request_visit.specs.declared.visit.Visit.{Visit}
use Rattle.shepherd.specs.declared.shepherd.Shepherd.{Shepherd}
use Rattle.shepherd.specs.declared.shepherd.Stage.{Stage}
use Rattle.shepherd.specs.declared.shepherd.Stage.TheVariants.{Resting, Serving, Refusing, Over}

-- A link that had counted this has counted at least that much.
pub record AreReached (least now : LinkCounts) : Type 0 where
  pub hushed : least.hushed ≤ now.hushed
  pub got : least.got ≤ now.got

-- Items count on behind what a link had counted: at each, the link has counted at least what it had at the item before,
-- and what the causes say that the item tells.
abbrev pub CountOn : LinkCounts → List Item → Type 0
CountOn begin [] = Unit {0}
CountOn begin (i ∷ items) = HasCounted (noted_by (causes_of i.outcome)) begin i.counts × CountOn i.counts items

-- what the last of these items tells that the link counted, or else this
abbrev pub last_counts : LinkCounts → List Item → LinkCounts
last_counts begin [] = begin
last_counts begin (i ∷ items) = last_counts i.counts items

-- The request that is open began when the link had counted at least this much. Its counts stand since then, and the
-- link has counted at least what the request saw last.
pub record OpenCounts {P : Type 0} (last now : LinkCounts) (v : Visit P) : Type 0 where
  pub begin : LinkCounts
  pub since : AreReached last begin
  pub stands : CountsStand begin v
  pub seen : AreReached v.counts now

-- the same of a stage: where no request is open, the link has counted at least this much
abbrev pub StageCounts : {P : Type 0} → LinkCounts → LinkCounts → Stage P → Type 0
StageCounts last now Resting = AreReached last now
StageCounts last now (Serving v call) = OpenCounts last now v
StageCounts last now (Refusing why bytes) = AreReached last now
StageCounts last now (Over end) = AreReached last now

-- The items of a connection count on behind what its link had counted when it began; and so does the request that is
-- open, behind the last item. The link has counted at least what the connection saw last.
pub record Counting {P : Type 0} (begin now : LinkCounts) (items : List Item) (s : Shepherd P) : Type 0 where
  pub count_on : CountOn begin items
  pub is_open : StageCounts (last_counts begin items) now s.stage
