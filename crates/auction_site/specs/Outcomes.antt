-- What each action writes and answers where nothing refuses it. The rows stand in the order of the writes.
use Rattle.std.specs.Prelude.{ℕ, ◌+◌, ◌*◌, ◌==◌, Bool, true, false, if◌then◌else◌, List, [], ◌∷◌, ◌++◌, codes}
use Rattle.std.specs.Fmt.{decimal}
use Rattle.sha2.specs.Sha256.{sha256}
use Rattle.crash_base.specs.declared.row_id.RowId.{RowId}
use Rattle.crash_base.specs.declared.rows.RowWrite.{RowWrite}
use Rattle.action_plans.specs.declared.plan.Outcome.{Outcome}
use Rattle.auction_calls.specs.declared.action.FormKind.{FormKind}
use Rattle.auction_calls.specs.declared.action.FormKind.TheVariants as kind
use Rattle.auction_calls.specs.Texts.{kind_text}
use Rattle.auction_rows.specs.declared.rows.CategoryRow.{CategoryRow}
use Rattle.auction_rows.specs.declared.rows.ItemRow.{ItemRow}
use Rattle.auction_rows.specs.declared.rows.ItemState.{ItemState}
use Rattle.auction_rows.specs.declared.rows.ItemState.TheVariants as state
use Rattle.auction_rows.specs.declared.rows.UserRow.{UserRow}
use Rattle.auction_rows.specs.Ids.{user_id, name_id, users_counter, items_counter, categories_counter, category_counter, item_id, category_id, bid_id, entry_id, feedback_id, own_item_id}
use Rattle.auction_rows.specs.Spelling.{u64_bytes, user_bytes, name_bytes, counter_bytes, item_bytes, category_bytes, bid_bytes, entry_bytes, feedback_bytes, own_item_bytes}
use Rattle.auction_rules.specs.Rules.{other_side}
use Rattle.auction_site.specs.declared.limits.TheConstants.{HOUR}
use Rattle.auction_site.specs.Answers.{shows, shows_with_session, answered}
use Rattle.page_text.specs.declared.page_line.PageLine.{PageLine}
use Rattle.page_text.specs.declared.page_line.PageLine.TheVariants.{Para, Link, Form}

-- a row of these bytes
abbrev pub row : RowId → List ℕ → RowWrite
row id bytes = record { id = id; bytes = bytes }

-- the row of a counter
abbrev pub counter_row : RowId → ℕ → RowWrite
counter_row id count = row id (counter_bytes (record { count = count }))

-- who is signed in
abbrev pub home_text : ℕ → List ℕ
home_text user = if user == 0 then codes "Signed out" else codes "User " ++ decimal user

-- Home: who is signed in, and where the categories are.
abbrev pub home : ℕ → Outcome
home user = answered (shows 200 (codes "Auctions") (
    Para (home_text user)
    ∷ Link (codes "/categories") (codes "Categories") ∷ []))

-- the SHA-256 of a salt and a password
abbrev pub digest_of : List ℕ → List ℕ → List ℕ
digest_of salt password = sha256 (salt ++ password)

-- a user with no items, and no feedback yet
abbrev pub new_user : List ℕ → List ℕ → List ℕ → UserRow
new_user name password salt = record {
  name = name;
  salt = salt;
  digest = digest_of salt password;
  good = 0;
  bad = 0;
  items = 0;
}

-- Register: the counter, the user and the name; the session is the new user's.
unfoldable pub registered : List ℕ → List ℕ → ℕ → ℕ → ℕ → Outcome
registered name password fresh now user = record {
  writes =
      counter_row users_counter user
      ∷ row (user_id user) (user_bytes (new_user name password (u64_bytes fresh)))
      ∷ row (name_id name) (name_bytes (record { name = name; user = user })) ∷ [];
  done = shows_with_session user now (codes "Welcome " ++ name) [];
}

-- Sign in: the session is that of the user.
abbrev pub signed_in : List ℕ → ℕ → ℕ → Outcome
signed_in name now user = answered (shows_with_session user now (codes "Welcome " ++ name) [])

-- Sign out: the session is that of no user.
abbrev pub signed_out : ℕ → Outcome
signed_out now = answered (shows_with_session 0 now (codes "Signed out") [])

-- a link to a category
abbrev pub category_link : ℕ → CategoryRow → PageLine
category_link category found = Link (codes "/category/" ++ decimal category) found.name

-- Categories: a page of links.
abbrev pub categories_shown : List PageLine → Outcome
categories_shown links = answered (shows 200 (codes "Categories") links)

-- Add category: a category of this number.
unfoldable pub category_added : List ℕ → ℕ → Outcome
category_added name category = record {
  writes =
      counter_row categories_counter category
      ∷ row (category_id category) (category_bytes (record { name = name })) ∷ [];
  done = shows 200 (codes "Category " ++ decimal category) [];
}

-- the best bid, or the start where that is 0
abbrev pub price : ItemRow → ℕ
price item = if item.best == 0 then item.start else item.best

-- a link to an item, with its price
abbrev pub priced_link : ℕ → ItemRow → PageLine
priced_link number item =
    Link (codes "/item/" ++ decimal number) (item.title ++ codes ", " ++ decimal (price item))

-- Browse: a page of links under the name of the category.
abbrev pub category_shown : CategoryRow → List PageLine → Outcome
category_shown category links = answered (shows 200 category.name links)

-- what has become of an item
abbrev pub state_text : ItemRow → List ℕ
state_text item = by_state item.state
  where
    by_state : ItemState → List ℕ
    by_state state.Running = codes "Running until " ++ decimal item.ends.0
    by_state state.Closed = codes "Closed"
    by_state state.Sold = codes "Sold to user " ++ decimal item.buyer

-- Item: its seller, its price, and what has become of it.
abbrev pub item_shown : ItemRow → UserRow → Outcome
item_shown item seller = answered (shows 200 item.title (
    Para (codes "Seller " ++ seller.name)
    ∷ Para (codes "Price " ++ decimal (price item))
    ∷ Para (state_text item) ∷ []))

-- User: how often feedback was good, and how often bad.
abbrev pub user_shown : UserRow → Outcome
user_shown user = answered (shows 200 user.name (
    Para (codes "Good " ++ decimal user.good) ∷ Para (codes "Bad " ++ decimal user.bad) ∷ []))

-- a link to an own item
abbrev pub item_link : ℕ → ItemRow → PageLine
item_link number item = Link (codes "/item/" ++ decimal number) item.title

-- About: a page of links under the name of the user.
abbrev pub user_items_shown : UserRow → List PageLine → Outcome
user_items_shown user links = answered (shows 200 user.name links)

-- what a seller offers
pub record Offer : Type 0 where
  pub title : List ℕ
  pub category : ℕ
  pub start : ℕ
  pub buy_now : ℕ
  pub hours : ℕ

-- a new item: it has no bid, and its auction ends the hours of the offer from now
abbrev pub new_item : ℕ → ℕ → Offer → ItemRow
new_item seller now offer = record {
  state = state.Running;
  seller = seller;
  category = offer.category;
  start = offer.start;
  buy_now = offer.buy_now;
  best = 0;
  best_bidder = 0;
  bids = 0;
  ends = record { 0 = now + offer.hours * HOUR };
  buyer = 0;
  given = record { by_buyer = false; by_seller = false };
  title = offer.title;
}

-- the user, who has offered so many items
abbrev pub with_items : UserRow → ℕ → UserRow
with_items user items = record user { items = items }

-- Sell: an item of this number, as this entry of its category, and as the next own item of its seller.
unfoldable pub offered : ℕ → ℕ → Offer → ℕ → ℕ → UserRow → Outcome
offered seller now offer item entry user = record {
  writes =
      counter_row items_counter item
      ∷ counter_row (category_counter offer.category) entry
      ∷ row (item_id item) (item_bytes (new_item seller now offer))
      ∷ row (entry_id offer.category entry) (entry_bytes (record { item = item }))
      ∷ row (user_id seller) (user_bytes (with_items user (user.items + 1)))
      ∷ row (own_item_id seller (user.items + 1)) (own_item_bytes (record { item = item })) ∷ [];
  done = shows 200 (codes "Item " ++ decimal item) [];
}

-- the item after a bid
abbrev pub with_bid : ItemRow → ℕ → ℕ → ItemRow
with_bid item bidder amount =
    record item { best = amount; best_bidder = bidder; bids = item.bids + 1 }

-- Bid: the next bid on the item, and its best.
unfoldable pub bid_made : ℕ → ℕ → ℕ → ℕ → ItemRow → Outcome
bid_made bidder now number amount item = record {
  writes =
      row (bid_id number (item.bids + 1))
      (bid_bytes (record { bidder = bidder; amount = amount; moment = record { 0 = now } }))
      ∷ row (item_id number) (item_bytes (with_bid item bidder amount)) ∷ [];
  done = shows 200 (codes "Bid " ++ decimal (item.bids + 1) ++ codes " on item " ++ decimal number) [];
}

-- the item sold to a buyer
abbrev pub sold_to : ItemRow → ℕ → ItemRow
sold_to item buyer = record item { state = state.Sold; buyer = buyer }

-- Buy: the item is sold to the user.
unfoldable pub bought : ℕ → ℕ → ItemRow → Outcome
bought buyer number item = record {
  writes = row (item_id number) (item_bytes (sold_to item buyer)) ∷ [];
  done = shows 200 (codes "Bought item " ++ decimal number) [];
}

-- the item at the end of its auction: sold to the best bidder, or closed where nothing was bid
abbrev pub after_close : ItemRow → ItemRow
after_close item =
    if item.best == 0 then record item { state = state.Closed } else sold_to item item.best_bidder

-- Close: the auction of the item ends.
unfoldable pub closed : ℕ → ItemRow → Outcome
closed number item = record {
  writes = row (item_id number) (item_bytes (after_close item)) ∷ [];
  done = shows 200 (codes "Closed item " ++ decimal number) [];
}

-- the user with one feedback more
abbrev pub with_feedback : UserRow → Bool → UserRow
with_feedback user true = record user { good = user.good + 1 }
with_feedback user false = record user { bad = user.bad + 1 }

-- the item with the mark of a user who gave feedback: the buyer's mark, or else the seller's
abbrev pub with_given : ItemRow → ℕ → ItemRow
with_given item user = record item {
  given =
      if item.buyer == user then record (item.given) { by_buyer = true }
      else record (item.given) { by_seller = true };
}

-- Feedback: the next one about the other side of the sale, and the item with the user's mark.
unfoldable pub feedback_given : ℕ → ℕ → Bool → List ℕ → ItemRow → UserRow → Outcome
feedback_given from number good text item about = record {
  writes =
      row (feedback_id (other_side item from) (about.good + about.bad + 1))
      (feedback_bytes (record { from = from; item = number; good = good; text = text }))
      ∷ row (user_id (other_side item from)) (user_bytes (with_feedback about good))
      ∷ row (item_id number) (item_bytes (with_given item from)) ∷ [];
  done = shows 200 (codes "Thanks") [];
}

-- where a form is sent
abbrev pub form_address : FormKind → List ℕ
form_address kind.Category = codes "/categories"
form_address other = codes "/" ++ kind_text other

-- the names of the fields of a form
abbrev pub form_fields : FormKind → List (List ℕ)
form_fields kind.Register = codes "name" ∷ codes "password" ∷ []
form_fields kind.SignIn = codes "name" ∷ codes "password" ∷ []
form_fields kind.SignOut = []
form_fields kind.Category = codes "name" ∷ []
form_fields kind.Sell =
    codes "title" ∷ codes "category" ∷ codes "start" ∷ codes "buy_now" ∷ codes "hours" ∷ []
form_fields kind.Bid = codes "item" ∷ codes "amount" ∷ []
form_fields kind.Buy = codes "item" ∷ []
form_fields kind.Close = codes "item" ∷ []
form_fields kind.Feedback = codes "item" ∷ codes "good" ∷ codes "text" ∷ []

-- the line of a form, with its token
abbrev pub form_line : FormKind → List ℕ → PageLine
form_line kind token = Form (form_address kind) token (form_fields kind)

-- Form: a form with its token. Whoever is not signed in gets a session of no user.
abbrev pub form_shown : ℕ → ℕ → List ℕ → FormKind → Outcome
form_shown user now token kind = answered (
    if user == 0 then shows_with_session 0 now (codes "Form " ++ kind_text kind) (form_line kind token ∷ [])
    else shows 200 (codes "Form " ++ kind_text kind) (form_line kind token ∷ []))
