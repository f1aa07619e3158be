-- What is made of a call, and what that asks of a container.
use Rattle.std.specs.Prelude.{◌≡◌, ℕ, List}
use Rattle.auction_calls.specs.declared.action.ActionCall.{ActionCall}
use Rattle.auction_calls.specs.Texts.{Spells}
use Rattle.auction_rows.specs.Parts.{site_parts}
use Rattle.auction_site.specs.Actions.{steps_of}
use Rattle.boot_core.specs.declared.boot.Start.{Start}
use Rattle.request_tries.specs.Ends.{Errand}

-- This is made of a call: a text that spells it, as only a call in its ranges is spelled, and the program of the call.
pub record IsMadeOf (call : ActionCall) (text : List ℕ) (program : ActionCall) : Type 0 where
  pub spelled : Spells text call
  pub program_is : program ≡ call

-- An errand asks a container of the site for a call: the container was started with the site's parts, the errand's text
-- spells the call, and its program makes the steps of the call.
pub record AsksSite (start : Start) (errand : Errand) (call : ActionCall) : Type 0 where
  pub parts_are : start.deployment ≡ site_parts
  pub spelled : Spells errand.text call
  pub steps_are : errand.asks ≡ steps_of call
