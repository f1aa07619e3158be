-- Requests that have ordered the write of their session.
use Rattle.std.specs.Prelude.{◌≡◌, Bool}
use Rattle.auction_calls.specs.declared.action.ActionCall.{ActionCall}
use Rattle.crash_base.specs.declared.numbers.Place.{Place}
use Rattle.request_visit.specs.declared.ready.Shown.{Shown}
use Rattle.request_visit.specs.declared.visit.Visit.{Visit}
use Rattle.request_visit.specs.declared.visit.Work.TheVariants.{Committed}
use Rattle.session_way.specs.declared.session_write.WriteOrder.{WriteOrder}
use Rattle.session_way.specs.declared.way.SessionWay.TheVariants.{Ordered}
use Rattle.shepherd.specs.declared.shepherd.Stage.{Stage}
use Rattle.shepherd.specs.declared.shepherd.Stage.TheVariants.{Resting, Serving, Refusing, Over}

-- a request that has ordered this write is committed, and the order has the nonce that was drawn for its write
pub record HasOrdered (v : Visit ActionCall) (order : WriteOrder) : Type 0 where
  pub place : Place
  pub again : Bool
  pub shown : Shown
  pub committed : v.work ≡ Committed place again shown
  pub nonce : order.nonce ≡ v.facts.write

-- The request that is open, if one is, has ordered only its own write, and that behind its commit.
abbrev pub OrdersOwn : Stage ActionCall → Type 0
OrdersOwn Resting = Unit {0}
OrdersOwn (Serving v call) = (order : WriteOrder) → v.way ≡ Ordered order → HasOrdered v order
OrdersOwn (Refusing why bytes) = Unit {0}
OrdersOwn (Over end) = Unit {0}
