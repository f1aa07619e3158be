-- Under which ids the rows stand.
use Rattle.std.specs.Prelude.{ℕ, ◌+◌, ◌*◌, ◌^◌, List, take}
use Rattle.std.specs.Int.{w64, from_be_bytes}
use Rattle.sha2.specs.Sha256.{sha256}
use Rattle.crash_base.specs.declared.row_id.RowId.{RowId}
use Rattle.auction_rows.specs.declared.rows.TheConstants.{USER_TABLE, NAME_TABLE, COUNTER_TABLE, ITEM_TABLE, CATEGORY_TABLE, BID_TABLE, ENTRY_TABLE, FEEDBACK_TABLE, OWN_ITEM_TABLE}

-- a user, by number
abbrev pub user_id : ℕ → RowId
user_id user = record { table = USER_TABLE; key = user }

-- a name, by the first eight bytes of its SHA-256
unfoldable pub name_id : List ℕ → RowId
name_id name = record { table = NAME_TABLE; key = from_be_bytes w64 (take 8 (sha256 name)) }

-- the counter of users
abbrev pub users_counter : RowId
users_counter = record { table = COUNTER_TABLE; key = 1 }

-- the counter of items
abbrev pub items_counter : RowId
items_counter = record { table = COUNTER_TABLE; key = 2 }

-- the counter of categories
abbrev pub categories_counter : RowId
categories_counter = record { table = COUNTER_TABLE; key = 3 }

-- the counter of the items in a category
abbrev pub category_counter : ℕ → RowId
category_counter category = record { table = COUNTER_TABLE; key = 2 ^ 32 + category }

-- an item, by number
abbrev pub item_id : ℕ → RowId
item_id item = record { table = ITEM_TABLE; key = item }

-- a category, by number
abbrev pub category_id : ℕ → RowId
category_id category = record { table = CATEGORY_TABLE; key = category }

-- the bid of this number on an item
abbrev pub bid_id : ℕ → ℕ → RowId
bid_id item n = record { table = BID_TABLE; key = item * 2 ^ 20 + n }

-- the entry of this number in a category
abbrev pub entry_id : ℕ → ℕ → RowId
entry_id category n = record { table = ENTRY_TABLE; key = category * 2 ^ 32 + n }

-- the feedback of this number about a user
abbrev pub feedback_id : ℕ → ℕ → RowId
feedback_id user n = record { table = FEEDBACK_TABLE; key = user * 2 ^ 20 + n }

-- the item of this number that a user offers
abbrev pub own_item_id : ℕ → ℕ → RowId
own_item_id user n = record { table = OWN_ITEM_TABLE; key = user * 2 ^ 32 + n }
