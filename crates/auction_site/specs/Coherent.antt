-- Rows that fit together: each item, its bids, and the counter of items.
use Rattle.std.specs.Prelude.{◌≡◌, ◌⊎◌, ◌↔◌, ℕ, ◌/◌, ◌^◌, ◌<◌, ◌≤◌, List, Option, Some, None, IsSome}
use Rattle.std.specs.Option.{option_and_then}
use Rattle.crash_base.specs.declared.row_id.RowId.{RowId}
use Rattle.crash_base.specs.declared.rows.RowWrite.{RowWrite}
use Rattle.crash_base.specs.Rows.{row_in}
use Rattle.auction_rows.specs.Bounds.{IsItem, IsCounter}
use Rattle.auction_rows.specs.declared.rows.BidRow.{BidRow}
use Rattle.auction_rows.specs.declared.rows.CounterRow.{CounterRow}
use Rattle.auction_rows.specs.declared.rows.ItemRow.{ItemRow}
use Rattle.auction_rows.specs.declared.rows.TheConstants.{BID_TABLE}
use Rattle.auction_rows.specs.Ids.{items_counter, item_id, bid_id}
use Rattle.auction_rows.specs.Reading.{bid_of, counter_of, item_of}
use Rattle.auction_site.specs.declared.limits.TheConstants.{LAST_BID}

-- the row of an id, where it is there and its bytes spell one
abbrev pub row_at : {T : Type 0} → List RowWrite → (List ℕ → Option T) → RowId → Option T
row_at rows spells id = option_and_then spells (row_in rows id)

-- the bid of this number on an item
abbrev pub bid_at : List RowWrite → ℕ → ℕ → Option BidRow
bid_at rows item n = row_at rows bid_of (bid_id item n)

-- the count of a counter, which is 0 where it is missing
abbrev pub count_of : Option CounterRow → ℕ
count_of None = 0
count_of (Some counter) = counter.count

-- how many items were offered
abbrev pub item_count : List RowWrite → ℕ
item_count rows = count_of (row_at rows counter_of items_counter)

-- an item without a bid
abbrev pub HasNoBid : ItemRow → Type 0
HasNoBid item = (item.bids ≡ 0) × (item.best ≡ 0) × (item.best_bidder ≡ 0)

-- an item whose best bid is one of those on it
pub record HasBest (rows : List RowWrite) (number : ℕ) (item : ItemRow) : Type 0 where
  pub n : ℕ
  pub bid : BidRow
  pub from_one : 1 ≤ n
  pub to_last : n ≤ item.bids
  pub there : bid_at rows number n ≡ Some bid
  pub amount : item.best ≡ bid.amount
  pub bidder : item.best_bidder ≡ bid.bidder

-- The bids on an item have the numbers from 1 to its count of bids. Each is of an amount of its own, and none is of
-- more than the item's best. The item's best and its best bidder are those of one of them, or there is no bid and
-- both are 0.
pub record AreBidsOn (rows : List RowWrite) (number : ℕ) (item : ItemRow) : Type 0 where
  pub few : item.bids ≤ LAST_BID
  pub numbered : (n : ℕ) → n ≤ LAST_BID
      → IsSome (row_in rows (bid_id number n)) ↔ ((1 ≤ n) × (n ≤ item.bids))
  pub spelled : (n : ℕ) → 1 ≤ n → n ≤ item.bids
      → (bid : BidRow) × (bid_at rows number n ≡ Some bid) × (bid.amount ≤ item.best)
  pub differ : (n m : ℕ) (bid other : BidRow) → 1 ≤ n → n ≤ item.bids → 1 ≤ m → m ≤ item.bids
      → bid_at rows number n ≡ Some bid → bid_at rows number m ≡ Some other
      → bid.amount ≡ other.amount → n ≡ m
  pub best : HasNoBid item ⊎ HasBest rows number item

-- an item is among rows: its row spells it, its number is counted, and it has just its bids
pub record IsCoherentItem (rows : List RowWrite) (number : ℕ) (item : ItemRow) : Type 0 where
  pub there : row_at rows item_of (item_id number) ≡ Some item
  pub in_range : IsItem item
  pub counted : number ≤ item_count rows
  pub bids : AreBidsOn rows number item

-- Rows are coherent: each item is, each bid is on a number that the counter of items counts, and that counter
-- is spelled.
pub record IsCoherent (rows : List RowWrite) : Type 0 where
  pub items : (number : ℕ) → IsSome (row_in rows (item_id number))
      → (item : ItemRow) × IsCoherentItem rows number item
  pub bids : (key : ℕ) → IsSome (row_in rows (record { table = BID_TABLE; key = key }))
      → key / 2 ^ 20 ≤ item_count rows
  pub counter : IsSome (row_in rows items_counter)
      → (counter : CounterRow) × (row_at rows counter_of items_counter ≡ Some counter) × IsCounter counter

-- a bid on an item that is of no less than each other one
pub record IsGreatestBid (rows : List RowWrite) (number : ℕ) (item : ItemRow) (n : ℕ) (bid : BidRow) : Type 0 where
  pub from_one : 1 ≤ n
  pub to_last : n ≤ item.bids
  pub there : bid_at rows number n ≡ Some bid
  pub greatest : (m : ℕ) (other : BidRow) → 1 ≤ m → m ≤ item.bids → bid_at rows number m ≡ Some other
      → other.amount ≤ bid.amount

-- Rows agree with others on the items, the bids and the counter of items.
pub record AgreeOnItems (rows others : List RowWrite) : Type 0 where
  pub items : (number : ℕ) → row_in others (item_id number) ≡ row_in rows (item_id number)
  pub bids : (key : ℕ) → row_in others (record { table = BID_TABLE; key = key }) ≡ row_in rows (record { table = BID_TABLE; key = key })
  pub counter : row_in others items_counter ≡ row_in rows items_counter

-- An amount is too low for the bids on an item: it is below the start, or some bid is of no less.
abbrev pub IsTooLowFor : List RowWrite → ℕ → ItemRow → ℕ → Type 0
IsTooLowFor rows number item amount =
    (amount < item.start) ⊎ ((n : ℕ) × (bid : BidRow) × (1 ≤ n) × (n ≤ item.bids)
    × (bid_at rows number n ≡ Some bid) × (amount ≤ bid.amount))
