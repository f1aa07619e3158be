-- What the writes of actions change of items, of bids and of the counter of items.
use Rattle.std.proofs.Common.{◌≡◌, ◌≢◌, ℕ, ◌+◌, ◌*◌, ◌^◌, ◌==◌, Bool, true, false, cond, List, [], ◌∷◌, Option, Some, refl, ◌∙◌, arith}
use Rattle.std.proofs.lemmas.Bool.Decides.{nat_tests}
use Rattle.crash_base.specs.declared.rows.RowWrite.{RowWrite}
use Rattle.crash_base.specs.Rows.{put_all, row_in}
use Rattle.crash_base.proofs.Ordering.{row_in-put_all}
use Rattle.auction_rows.specs.Ids.{name_id, items_counter, item_id}
use Rattle.auction_rows.specs.Spelling.{item_bytes, bid_bytes, counter_bytes}
use Rattle.auction_rows.specs.declared.rows.BidRow.{BidRow}
use Rattle.auction_rows.specs.declared.rows.ItemRow.{ItemRow}
use Rattle.auction_rows.specs.declared.rows.UserRow.{UserRow}
use Rattle.auction_site.specs.Outcomes.{Offer, row, new_item, with_bid, with_given, sold_to, after_close, registered, category_added, offered, bid_made, bought, closed, feedback_given}
use Rattle.auction_site.specs.Coherent.{AgreeOnItems}
use Rattle.auction_site.proofs.Coherence.{bid_key}
use Rattle.auction_site.proofs.Changes.{Replaces, AddsBid, AddsItem}

-- a row that was put at this number
pub at_here : (n : ℕ) (new old : Option (List ℕ)) → cond (n == n) new old ≡ new
at_here n new old = let same : (n == n) ≡ true = grind (arith, nat_tests) in rw same refl

-- and at another one
at_other : (n m : ℕ) (new old : Option (List ℕ)) → n ≢ m → cond (m == n) new old ≡ old
at_other n m new old apart = let other : (m == n) ≡ false = grind (arith, nat_tests) in rw other refl

-- the counter of items is not that of a category
other_counter : (category : ℕ) (new old : Option (List ℕ)) → cond (2 ^ 32 + category == 2) new old ≡ old
other_counter category new old = let other : (2 ^ 32 + category == 2) ≡ false = grind (arith, nat_tests) in rw other refl

pub registered_same : (rows : List RowWrite) (name password : List ℕ) (fresh now user : ℕ)
    → AgreeOnItems rows (put_all (registered name password fresh now user).writes rows)
unfolding registered name_id
registered_same rows name password fresh now user =
    let ws : List RowWrite = (registered name password fresh now user).writes in
    record {
      items = λ n. row_in-put_all ws rows (item_id n);
      bids = λ key. row_in-put_all ws rows (bid_key key);
      counter = row_in-put_all ws rows items_counter;
    }

pub category_same : (rows : List RowWrite) (name : List ℕ) (category : ℕ) → AgreeOnItems rows (put_all (category_added name category).writes rows)
unfolding category_added
category_same rows name category =
    let ws : List RowWrite = (category_added name category).writes in
    record {
      items = λ n. row_in-put_all ws rows (item_id n);
      bids = λ key. row_in-put_all ws rows (bid_key key);
      counter = row_in-put_all ws rows items_counter;
    }

item_replaces : (rows : List RowWrite) (number : ℕ) (other : ItemRow) → Replaces rows (put_all (row (item_id number) (item_bytes other) ∷ []) rows) number other
item_replaces rows number other =
    let ws : List RowWrite = row (item_id number) (item_bytes other) ∷ [] in
    record {
      here = row_in-put_all ws rows (item_id number) ∙ at_here number (Some (item_bytes other)) (row_in rows (item_id number));
      others = λ n apart. row_in-put_all ws rows (item_id n) ∙ at_other n number (Some (item_bytes other)) (row_in rows (item_id n)) apart;
      bids = λ key. row_in-put_all ws rows (bid_key key);
      counter = row_in-put_all ws rows items_counter;
    }

pub bought_replaces : (rows : List RowWrite) (user number : ℕ) (item : ItemRow)
    → Replaces rows (put_all (bought user number item).writes rows) number (sold_to item user)
unfolding bought
bought_replaces rows user number item = item_replaces rows number (sold_to item user)

pub closed_replaces : (rows : List RowWrite) (number : ℕ) (item : ItemRow) → Replaces rows (put_all (closed number item).writes rows) number (after_close item)
unfolding closed
closed_replaces rows number item = item_replaces rows number (after_close item)

pub given_replaces : (rows : List RowWrite) (user number : ℕ) (good : Bool) (text : List ℕ) (item : ItemRow) (about : UserRow)
    → Replaces rows (put_all (feedback_given user number good text item about).writes rows) number (with_given item user)
unfolding feedback_given
given_replaces rows user number good text item about =
    let ws : List RowWrite = (feedback_given user number good text item about).writes in
    let new : Option (List ℕ) = Some (item_bytes (with_given item user)) in
    record {
      here = row_in-put_all ws rows (item_id number) ∙ at_here number new (row_in rows (item_id number));
      others = λ n apart. row_in-put_all ws rows (item_id n) ∙ at_other n number new (row_in rows (item_id n)) apart;
      bids = λ key. row_in-put_all ws rows (bid_key key);
      counter = row_in-put_all ws rows items_counter;
    }

-- a bid of a user at a moment
abbrev pub bid_row : ℕ → ℕ → ℕ → BidRow
bid_row bidder amount now = record { bidder = bidder; amount = amount; moment = record { 0 = now } }

pub bid_adds : (rows : List RowWrite) (user now number amount : ℕ) (item : ItemRow)
    → AddsBid rows (put_all (bid_made user now number amount item).writes rows) number item (bid_row user amount now)
unfolding bid_made
bid_adds rows user now number amount item =
    let ws : List RowWrite = (bid_made user now number amount item).writes in
    let new : Option (List ℕ) = Some (item_bytes (with_bid item user amount)) in
    let added : Option (List ℕ) = Some (bid_bytes (bid_row user amount now)) in
    let key : ℕ = number * 2 ^ 20 + (item.bids + 1) in
    record {
      here = row_in-put_all ws rows (item_id number) ∙ at_here number new (row_in rows (item_id number));
      others = λ n apart. row_in-put_all ws rows (item_id n) ∙ at_other n number new (row_in rows (item_id n)) apart;
      added = row_in-put_all ws rows (bid_key key) ∙ at_here key added (row_in rows (bid_key key));
      bids = λ k apart. row_in-put_all ws rows (bid_key k) ∙ at_other k key added (row_in rows (bid_key k)) apart;
      counter = row_in-put_all ws rows items_counter;
    }

pub offer_adds : (rows : List RowWrite) (seller now : ℕ) (offer : Offer) (item entry : ℕ) (user : UserRow)
    → AddsItem rows (put_all (offered seller now offer item entry user).writes rows) item (new_item seller now offer)
unfolding offered
offer_adds rows seller now offer item entry user =
    let ws : List RowWrite = (offered seller now offer item entry user).writes in
    let new : Option (List ℕ) = Some (item_bytes (new_item seller now offer)) in
    let count : Option (List ℕ) = Some (counter_bytes (record { count = item })) in
    record {
      counter = row_in-put_all ws rows items_counter ∙ other_counter offer.category (Some (counter_bytes (record { count = entry }))) count;
      here = row_in-put_all ws rows (item_id item) ∙ at_here item new (row_in rows (item_id item));
      others = λ n apart. row_in-put_all ws rows (item_id n) ∙ at_other n item new (row_in rows (item_id n)) apart;
      bids = λ key. row_in-put_all ws rows (bid_key key);
    }
