-- When signing in and each action that writes is accepted, and when a bid is too low, by the rows of the site.
use Rattle.std.specs.Prelude.{◌≡◌, ◌≢◌, ◌⊎◌, ℕ, ◌+◌, ◌-◌, ◌^◌, ◌<◌, ◌≤◌, List, ◌++◌, Some, None}
use Rattle.sha2.specs.Sha256.{sha256}
use Rattle.crash_base.specs.declared.row_id.RowId.{RowId}
use Rattle.crash_base.specs.declared.rows.RowWrite.{RowWrite}
use Rattle.crash_base.specs.Rows.{row_in}
use Rattle.auction_rows.specs.declared.rows.CategoryRow.{CategoryRow}
use Rattle.auction_rows.specs.declared.rows.CounterRow.{CounterRow}
use Rattle.auction_rows.specs.declared.rows.ItemRow.{ItemRow}
use Rattle.auction_rows.specs.declared.rows.ItemState.TheVariants.{Running, Sold}
use Rattle.auction_rows.specs.declared.rows.NameRow.{NameRow}
use Rattle.auction_rows.specs.declared.rows.UserRow.{UserRow}
use Rattle.auction_rows.specs.Ids.{user_id, name_id, users_counter, items_counter, categories_counter, category_counter, item_id, category_id}
use Rattle.auction_rows.specs.Reading.{user_of, name_of, counter_of, item_of, category_of}
use Rattle.auction_rules.specs.Rules.{other_side, IsRunning, IsTooLow, IsNotForSale, IsOnASide, HasGiven}
use Rattle.auction_site.specs.Coherent.{row_at, IsTooLowFor}
use Rattle.auction_site.specs.Outcomes.{Offer}

-- A counter tells a count: that of its row, or 0 where it has none.
abbrev pub Counts : List RowWrite → RowId → ℕ → Type 0
Counts rows id n =
    ((row_in rows id ≡ None) × (n ≡ 0))
    ⊎ ((counter : CounterRow) × (row_at rows counter_of id ≡ Some counter) × (counter.count ≡ n))

-- A name may be registered after so many users: no row has its id, and the next number is below 2^32.
pub record MayRegister (rows : List RowWrite) (name : List ℕ) (users : ℕ) : Type 0 where
  pub free : row_in rows (name_id name) ≡ None
  pub counted : Counts rows users_counter users
  pub few : users < 2 ^ 32 - 1

-- Who gives a name and a password may sign in: a row has the key of the name and is of this name, its user is there,
-- and the SHA-256 of the user's salt and the password is the user's digest.
pub record MaySignIn (rows : List RowWrite) (name password : List ℕ) (found : NameRow) (user : UserRow) : Type 0 where
  pub there : row_at rows name_of (name_id name) ≡ Some found
  pub same_name : found.name ≡ name
  pub user_there : row_at rows user_of (user_id found.user) ≡ Some user
  pub known : sha256 (user.salt ++ password) ≡ user.digest

-- A user may add a category after so many: it is user 1, and the next number is below 2^32.
pub record MayAddCategory (rows : List RowWrite) (user categories : ℕ) : Type 0 where
  pub editor : user ≡ 1
  pub counted : Counts rows categories_counter categories
  pub few : categories < 2 ^ 32 - 1

-- A user may offer an item, after so many items and so many entries of its category. It is sold at once for
-- no price or for one that is not below its start, its category is there, and each next number is below 2^32.
pub record MaySell (rows : List RowWrite) (seller : ℕ) (offer : Offer) (items entries : ℕ) (user : UserRow) : Type 0 where
  pub signed : seller ≢ 0
  pub priced : (offer.buy_now ≡ 0) ⊎ (offer.start ≤ offer.buy_now)
  pub category : CategoryRow
  pub category_there : row_at rows category_of (category_id offer.category) ≡ Some category
  pub items_counted : Counts rows items_counter items
  pub few_items : items < 2 ^ 32 - 1
  pub entries_counted : Counts rows (category_counter offer.category) entries
  pub few_entries : entries < 2 ^ 32 - 1
  pub there : row_at rows user_of (user_id seller) ≡ Some user
  pub few_own_items : user.items < 2 ^ 32 - 1

-- A user may bid an amount on an item at a moment: it is running and another's, the amount is not too low,
-- and the number of the bid is below 2^20.
pub record MayBid (rows : List RowWrite) (user now number amount : ℕ) (item : ItemRow) : Type 0 where
  pub signed : user ≢ 0
  pub there : row_at rows item_of (item_id number) ≡ Some item
  pub running : IsRunning item now
  pub other : item.seller ≢ user
  pub enough : ¬ IsTooLow item amount
  pub few : item.bids < 2 ^ 20 - 1

-- A user bids too low on an item at a moment: it is running and another's, and the amount is below its start
-- or some bid on it is of no less.
pub record BidsTooLow (rows : List RowWrite) (user now number amount : ℕ) (item : ItemRow) : Type 0 where
  pub signed : user ≢ 0
  pub there : row_at rows item_of (item_id number) ≡ Some item
  pub running : IsRunning item now
  pub other : item.seller ≢ user
  pub low : IsTooLowFor rows number item amount

-- A user may buy an item at a moment: it is running, another's, and still sold at once.
pub record MayBuy (rows : List RowWrite) (user now number : ℕ) (item : ItemRow) : Type 0 where
  pub signed : user ≢ 0
  pub there : row_at rows item_of (item_id number) ≡ Some item
  pub running : IsRunning item now
  pub other : item.seller ≢ user
  pub for_sale : ¬ IsNotForSale item

-- a user may close an item that is the user's own, and neither closed nor sold
pub record MayClose (rows : List RowWrite) (user number : ℕ) (item : ItemRow) : Type 0 where
  pub signed : user ≢ 0
  pub there : row_at rows item_of (item_id number) ≡ Some item
  pub own : item.seller ≡ user
  pub still_open : item.state ≡ Running

-- A user may give feedback on an item about another user. It is sold, the user is on a side and has given
-- none, the other side is there, and the number of the feedback is below 2^20.
pub record MayGiveFeedback (rows : List RowWrite) (user number : ℕ) (item : ItemRow) (about : UserRow) : Type 0 where
  pub signed : user ≢ 0
  pub there : row_at rows item_of (item_id number) ≡ Some item
  pub sold : item.state ≡ Sold
  pub side : IsOnASide item user
  pub first : ¬ HasGiven item user
  pub about_there : row_at rows user_of (user_id (other_side item user)) ≡ Some about
  pub few : about.good + about.bad < 2 ^ 20 - 1
