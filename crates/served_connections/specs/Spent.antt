-- The serial numbers that were looked at for the requests of a connection, and found spent.
use Rattle.std.specs.Prelude.{◌≤◌, ℕ, List, Option, Some, None}
use Rattle.outcome_items.specs.declared.outcome.ItemOutcome.{ItemOutcome}
use Rattle.outcome_items.specs.declared.outcome.ItemOutcome.TheVariants as item
use Rattle.outside.specs.declared.serials.TheConstants.{SERIALS_END}
use Rattle.request_decisions.specs.Drawing.{HasDrawn}
use Rattle.request_decisions.specs.declared.draws.Draw.{Draw}
use Rattle.request_intake.specs.Intakes.{Gives, Looks}

-- the serial number that was found spent for a request, if that is what became of it
abbrev pub spent_in : ItemOutcome → Option ℕ
spent_in (item.Refused why) = None
spent_in (item.SerialsSpent seen) = Some seen
spent_in (item.Expired now expiry) = None
spent_in (item.Lost causes) = None
spent_in (item.Ended end) = None
spent_in (item.Overload place again full) = None
spent_in (item.Missed place again causes) = None

-- A serial number was found spent: some numbers were drawn, one after another, and it was looked at behind them.
pub record IsFoundSpent {R S : Type 0} (gives : Gives R) (looks : Looks S) (random : R) (serials : S) (seen : ℕ) (random_after : R) (serials_after : S) : Type 0 where
  pub drawn : List Draw
  pub before : S
  pub drew : HasDrawn looks gives serials random drawn before random_after
  pub looked : looks before seen None serials_after
  pub past : SERIALS_END ≤ seen
