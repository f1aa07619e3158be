-- What an offer leaves in the rows.
use Rattle.std.specs.Prelude.{◌≡◌, ℕ, ◌+◌, ◌*◌, false, List, Some}
use Rattle.crash_base.specs.declared.rows.RowWrite.{RowWrite}
use Rattle.auction_rows.specs.declared.rows.ItemRow.{ItemRow}
use Rattle.auction_rows.specs.declared.rows.ItemState.TheVariants.{Running}
use Rattle.auction_rows.specs.declared.rows.UserRow.{UserRow}
use Rattle.auction_rows.specs.Ids.{category_counter, entry_id, item_id, items_counter, own_item_id, user_id}
use Rattle.auction_rows.specs.Reading.{entry_of, item_of, own_item_of, user_of}
use Rattle.auction_site.specs.Accepted.{Counts}
use Rattle.auction_site.specs.Coherent.{row_at}
use Rattle.auction_site.specs.Outcomes.{Offer}

-- A new item is among rows: running for its hours from the moment on, with the fields of its offer and nothing bid,
-- sold or said, as this entry of its category and as the next own item of its seller. The counters have its numbers.
pub record IsOffered (rows : List RowWrite) (seller now : ℕ) (offer : Offer) (number entry : ℕ) (user : UserRow) : Type 0 where
  pub item : ItemRow
  pub there : row_at rows item_of (item_id number) ≡ Some item
  pub running : item.state ≡ Running
  pub seller_is : item.seller ≡ seller
  pub title : item.title ≡ offer.title
  pub category : item.category ≡ offer.category
  pub start : item.start ≡ offer.start
  pub buy_now : item.buy_now ≡ offer.buy_now
  pub bids : item.bids ≡ 0
  pub best : item.best ≡ 0
  pub best_bidder : item.best_bidder ≡ 0
  pub buyer : item.buyer ≡ 0
  pub given : item.given ≡ record { by_buyer = false; by_seller = false }
  pub ends : item.ends.0 ≡ now + offer.hours * 3600000
  pub listed : row_at rows entry_of (entry_id offer.category entry) ≡ Some (record { item = number })
  pub owned : row_at rows own_item_of (own_item_id seller (user.items + 1)) ≡ Some (record { item = number })
  pub counted : row_at rows user_of (user_id seller) ≡ Some (record user { items = user.items + 1 })
  pub items : Counts rows items_counter number
  pub entries : Counts rows (category_counter offer.category) entry
