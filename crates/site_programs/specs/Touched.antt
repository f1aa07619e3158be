-- Why tries of the site's requests did not commit.
use Rattle.std.specs.Prelude.{◌≡◌, ℕ, true}
use Rattle.auction_calls.specs.declared.action.Action.{Action}
use Rattle.auction_site.specs.Reached.{reach_of}
use Rattle.call_attempts.specs.Attempt.{table_in}
use Rattle.crash_base.specs.declared.numbers.ComponentNo.{ComponentNo}
use Rattle.reach_laws.specs.Uses.{MayEnter, MayEnterGroup, has_table}
use Rattle.request_tries.specs.declared.outcome.Try.{Try}
use Rattle.request_tries.specs.declared.outcome.TryCause.{TryCause}
use Rattle.request_tries.specs.declared.outcome.TryCause.TheVariants.{Revoked, Conflict}

-- A cause is within the reach of an action: the group that is shown is of a component that the action may enter, and
-- what is shown is of a table that it reaches.
abbrev pub IsReached : Action → TryCause → Type 0
IsReached a (Revoked shown) = MayEnterGroup a shown.group
IsReached a (Conflict mark newest) = has_table (reach_of a) (table_in mark) ≡ true

-- the same of the cause of a try
abbrev pub TryIsReached : Action → Try → Type 0
TryIsReached a t = IsReached a t.cause

-- an action may enter a component by some method
abbrev pub MayGoThrough : Action → ComponentNo → Type 0
MayGoThrough a component = (method : ℕ) × MayEnter a component method
