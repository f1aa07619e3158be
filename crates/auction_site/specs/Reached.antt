-- Which components each action may enter, and which tables it may read, list and put.
use Rattle.std.specs.Prelude.{ℕ, ◌==◌, Bool, true, List, [], ◌∷◌}
use Rattle.std.specs.List.{list_any}
use Rattle.call_ticket.specs.declared.next.Next.{Next}
use Rattle.call_ticket.specs.declared.next.Next.TheVariants as next
use Rattle.auction_calls.specs.declared.action.Action.{Action}
use Rattle.auction_calls.specs.declared.action.Action.TheVariants as action
use Rattle.auction_rows.specs.declared.components.TheConstants.{WEB, USERS, NUMBERS, ITEMS, CATEGORIES, BIDS, PURCHASES, FEEDBACK}
use Rattle.auction_rows.specs.declared.rows.TheConstants.{USER_TABLE, NAME_TABLE, COUNTER_TABLE, ITEM_TABLE, CATEGORY_TABLE, BID_TABLE, ENTRY_TABLE, FEEDBACK_TABLE, OWN_ITEM_TABLE}

-- the components that may be entered, and the tables of the rows that may be read, listed and put
pub record Reach : Type 0 where
  pub enters : List ℕ
  pub reads : List ℕ
  pub lists : List ℕ
  pub puts : List ℕ

-- whether a number is one of these
abbrev pub is_among : List ℕ → ℕ → Bool
is_among ns n = list_any (λ m. m == n) ns

-- Whether a step stays within a reach. Every component may be left, and every call be done.
abbrev pub stays_within : Reach → Next → Bool
stays_within r (next.Enter c m) = is_among r.enters c.0
stays_within r (next.Read id) = is_among r.reads id.table
stays_within r (next.List t) = is_among r.lists t
stays_within r (next.Put w) = is_among r.puts w.id.table
stays_within r next.Exit = true
stays_within r (next.Done d) = true

-- Web alone, and no row
abbrev pub web_alone : Reach
web_alone = record { enters = WEB ∷ []; reads = []; lists = []; puts = [] }

-- Register: a name and the counter are read; the counter, the user and the name are put.
abbrev pub registering : Reach
registering = record {
  enters = WEB ∷ USERS ∷ NUMBERS ∷ [];
  reads = NAME_TABLE ∷ COUNTER_TABLE ∷ [];
  lists = [];
  puts = COUNTER_TABLE ∷ USER_TABLE ∷ NAME_TABLE ∷ [];
}

-- Sell: a category, two counters and the user are read; the counters, the item, its entry, the user and the own item
-- are put.
abbrev pub selling : Reach
selling = record {
  enters = WEB ∷ CATEGORIES ∷ NUMBERS ∷ USERS ∷ ITEMS ∷ [];
  reads = CATEGORY_TABLE ∷ COUNTER_TABLE ∷ USER_TABLE ∷ [];
  lists = [];
  puts = COUNTER_TABLE ∷ ITEM_TABLE ∷ ENTRY_TABLE ∷ USER_TABLE ∷ OWN_ITEM_TABLE ∷ [];
}

-- Buy and Close: an item is read and put, through Purchases.
abbrev pub ending : Reach
ending = record {
  enters = WEB ∷ PURCHASES ∷ ITEMS ∷ [];
  reads = ITEM_TABLE ∷ [];
  lists = [];
  puts = ITEM_TABLE ∷ [];
}

-- Feedback: an item and the other user are read; the feedback, that user and the item are put.
abbrev pub judging : Reach
judging = record {
  enters = WEB ∷ FEEDBACK ∷ ITEMS ∷ USERS ∷ [];
  reads = ITEM_TABLE ∷ USER_TABLE ∷ [];
  lists = [];
  puts = FEEDBACK_TABLE ∷ USER_TABLE ∷ ITEM_TABLE ∷ [];
}

-- a page that is made of rows of these tables, and puts none
abbrev pub showing : List ℕ → List ℕ → Reach
showing enters reads = record { enters = enters; reads = reads; lists = []; puts = [] }

-- How far each action reaches. No page puts a row, and the table of categories alone is listed.
abbrev pub reach_of : Action → Reach
reach_of action.Home = web_alone
reach_of (action.Register name password) = registering
reach_of (action.SignIn name password) = showing (WEB ∷ USERS ∷ []) (NAME_TABLE ∷ USER_TABLE ∷ [])
reach_of action.SignOut = web_alone
reach_of action.Categories =
    record { enters = WEB ∷ CATEGORIES ∷ []; reads = []; lists = CATEGORY_TABLE ∷ []; puts = [] }
reach_of (action.AddCategory name) = record {
  enters = WEB ∷ NUMBERS ∷ CATEGORIES ∷ [];
  reads = COUNTER_TABLE ∷ [];
  lists = [];
  puts = COUNTER_TABLE ∷ CATEGORY_TABLE ∷ [];
}
reach_of (action.Browse category page) =
    showing (WEB ∷ CATEGORIES ∷ NUMBERS ∷ ITEMS ∷ []) (CATEGORY_TABLE ∷ COUNTER_TABLE ∷ ENTRY_TABLE ∷ ITEM_TABLE ∷ [])
reach_of (action.Item item) = showing (WEB ∷ ITEMS ∷ USERS ∷ []) (ITEM_TABLE ∷ USER_TABLE ∷ [])
reach_of (action.User user) = showing (WEB ∷ USERS ∷ []) (USER_TABLE ∷ [])
reach_of action.About = showing (WEB ∷ USERS ∷ ITEMS ∷ []) (USER_TABLE ∷ OWN_ITEM_TABLE ∷ ITEM_TABLE ∷ [])
reach_of (action.Sell title category start buy_now hours) = selling
reach_of (action.Bid item amount) = record {
  enters = WEB ∷ BIDS ∷ ITEMS ∷ [];
  reads = ITEM_TABLE ∷ [];
  lists = [];
  puts = BID_TABLE ∷ ITEM_TABLE ∷ [];
}
reach_of (action.Buy item) = ending
reach_of (action.Close item) = ending
reach_of (action.Feedback item good text) = judging
reach_of (action.Form kind) = web_alone
