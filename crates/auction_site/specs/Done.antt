-- What an item is after its auction.
use Rattle.std.specs.Prelude.{◌≡◌, ℕ, Some}
use Rattle.auction_rows.specs.declared.rows.ItemRow.{ItemRow}
use Rattle.auction_rules.specs.declared.refusal.RuleRefusal.TheVariants.{AuctionOver}
use Rattle.auction_rules.specs.Rules.{bid_refusal, buy_refusal, close_refusal}

-- Each bid on an item is refused, each purchase of it, and its seller's close, since its auction is over.
pub record IsOver (item : ItemRow) : Type 0 where
  pub bid : (user amount now : ℕ) → bid_refusal item user amount now ≡ Some AuctionOver
  pub buy : (user now : ℕ) → buy_refusal item user now ≡ Some AuctionOver
  pub close : close_refusal item item.seller ≡ Some AuctionOver
