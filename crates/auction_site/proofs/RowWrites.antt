-- What comes of each action writes rows of their tables, in bytes.
use Rattle.std.proofs.Common.{◌≡◌, ℕ, zero, suc, ◌+◌, ◌^◌, ◌<◌, Bool, true, false, cond, List, [], ◌∷◌, ◌++◌, Option, Some, None, All, refl, subst, arith, option_and_then}
use Rattle.std.proofs.lemmas.List.Elements.{All-nil, All-cons, All-head, All-tail}
use Rattle.std.specs.Prelude.{slice_index}
use Rattle.sha2.specs.Sha256.{digest_bytes, final_hash, initial_hash_256, sha256}
use Rattle.crash_base.specs.declared.row_id.RowId.{RowId}
use Rattle.crash_base.specs.declared.rows.RowWrite.{RowWrite}
use Rattle.crash_base.specs.RowId.{same_id}
use Rattle.crash_base.specs.Rows.{row_in}
use Rattle.auction_calls.specs.Calls.{is_text, is_user_name}
use Rattle.byte_fields.proofs.FieldBytes.{append_are, u32_are, u64_are}
use Rattle.auction_rows.specs.declared.rows.AuctionRow.{AuctionRow}
use Rattle.auction_rows.specs.declared.rows.AuctionRow.TheVariants as a
use Rattle.auction_rows.specs.declared.rows.BidRow.{BidRow}
use Rattle.auction_rows.specs.declared.rows.CategoryRow.{CategoryRow}
use Rattle.auction_rows.specs.declared.rows.CounterRow.{CounterRow}
use Rattle.auction_rows.specs.declared.rows.EntryRow.{EntryRow}
use Rattle.auction_rows.specs.declared.rows.FeedbackRow.{FeedbackRow}
use Rattle.auction_rows.specs.declared.rows.ItemRow.{ItemRow}
use Rattle.auction_rows.specs.declared.rows.NameRow.{NameRow}
use Rattle.auction_rows.specs.declared.rows.OwnItemRow.{OwnItemRow}
use Rattle.auction_rows.specs.declared.rows.UserRow.{UserRow}
use Rattle.auction_rows.specs.Bounds.{AreBytes, IsItem, IsRow, IsUser}
use Rattle.auction_rows.specs.Ids.{user_id, name_id, item_id, category_id, bid_id, entry_id, feedback_id, own_item_id}
use Rattle.auction_rows.specs.Reading.{user_of, item_of}
use Rattle.auction_rows.specs.Spelling.{u32_bytes, u64_bytes, user_bytes, item_bytes, row_bytes, table_of}
use Rattle.auction_rows.proofs.ExactRows.{item_exact}
use Rattle.auction_rows.proofs.RowBytes.{IsUserOfBytes, user_are, user_read, name_are, counter_are, item_are, category_are, bid_are, entry_are, feedback_are, own_item_are}
use Rattle.auction_rules.specs.Rules.{other_side}
use Rattle.auction_site.specs.declared.limits.TheConstants.{LAST_BID, LAST_FEEDBACK}
use Rattle.auction_site.specs.Coherent.{row_at}
use Rattle.auction_site.specs.Outcomes.{Offer, row, counter_row, new_user, new_item, with_items, registered, category_added, offered, bid_made, with_bid, bought, sold_to, closed, after_close, feedback_given, with_feedback, with_given}
use Rattle.auction_site.specs.Written.{HaveBytes, SpellsARow}
use Rattle.auction_site.proofs.Bounds.{with_items_is, with_feedback_is, category_is, feedback_is, name_is}
use Rattle.auction_site.proofs.Ranges.{with_bid_range, sold_to_range, with_given_range, after_close_range}
use Rattle.auction_site.proofs.Signing.{new_user_range}

-- the bytes of a row among rows of bytes
bytes_in : (rows : List RowWrite) (id : RowId) (bytes : List ℕ) → HaveBytes rows → row_in rows id ≡ Some bytes → AreBytes bytes
bytes_in [] id bytes all is = absurd (cc)
bytes_in (r ∷ rs) id bytes all is = by_id (same_id r.id id) is (bytes_in rs id bytes (All-tail (λ (w : RowWrite). AreBytes w.bytes) r rs all))
  where
    by_id : (here : Bool) → cond here (Some r.bytes) (row_in rs id) ≡ Some bytes → (row_in rs id ≡ Some bytes → AreBytes bytes) → AreBytes bytes
    by_id true e later =
        let same : r.bytes ≡ bytes = cc in
        subst AreBytes same (All-head (λ (w : RowWrite). AreBytes w.bytes) r rs all)
    by_id false e later = later e

-- a row that is at an id is within its bounds, where each row within its bytes is
in_bounds : {T : Type 0} (Bounds : T → Type 0) (spells : List ℕ → Option T) → ((bytes : List ℕ) (x : T) → AreBytes bytes → spells bytes ≡ Some x → Bounds x)
    → (rows : List RowWrite) (id : RowId) (x : T) → HaveBytes rows → row_at rows spells id ≡ Some x → Bounds x
in_bounds {T = T} Bounds spells exact rows id x all is = by_bytes (row_in rows id) refl is
  where
    by_bytes : (bytes : Option (List ℕ)) → row_in rows id ≡ bytes → option_and_then spells bytes ≡ Some x → Bounds x
    by_bytes None at e = absurd (cc)
    by_bytes (Some bytes) at e = exact bytes x (bytes_in rows id bytes all at) e

pub user_in_bounds : (rows : List RowWrite) (id : RowId) (user : UserRow) → HaveBytes rows → row_at rows user_of id ≡ Some user → IsUserOfBytes user
user_in_bounds = in_bounds IsUserOfBytes user_of user_read

pub item_in_bounds : (rows : List RowWrite) (id : RowId) (item : ItemRow) → HaveBytes rows → row_at rows item_of id ≡ Some item → IsItem item
item_in_bounds = in_bounds IsItem item_of (λ bytes x are is. (item_exact.takes bytes x are is).0)

-- a write spells a row, in numbers that bytes may be
pub record SpellsInBytes (w : RowWrite) : Type 0 where
  pub spells : SpellsARow w
  pub are : AreBytes w.bytes

-- each of these writes does
abbrev pub EachSpells : List RowWrite → Type 0
EachSpells [] = Unit {0}
EachSpells (w ∷ ws) = SpellsInBytes w × EachSpells ws

pub all_spell : (ws : List RowWrite) → EachSpells ws → All SpellsInBytes ws
all_spell [] each = All-nil SpellsInBytes
all_spell (w ∷ ws) each = All-cons SpellsInBytes w ws each.0 (all_spell ws each.1)

-- a row, in its bytes
row_spells : (id : RowId) (any : AuctionRow) → id.table ≡ table_of any → IsRow any → AreBytes (row_bytes any) → SpellsInBytes (row id (row_bytes any))
row_spells id any table is are = record {
  spells = (any, record { table_is = table; in_range = is; bytes_are = refl });
  are = are;
}

counter_spells : (key count : ℕ) → count < 2 ^ 64 → SpellsInBytes (counter_row (record { table = 3; key = key }) count)
counter_spells key count few =
    let counter : CounterRow = record { count = count } in
    row_spells (record { table = 3; key = key }) (a.Counter counter) refl (record { count = few }) (counter_are counter)

user_spells : (number : ℕ) (user : UserRow) → IsUserOfBytes user → SpellsInBytes (row (user_id number) (user_bytes user))
user_spells number user is = row_spells (user_id number) (a.User user) refl is.within (user_are user is)

item_spells : (number : ℕ) (item : ItemRow) → IsItem item → SpellsInBytes (row (item_id number) (item_bytes item))
item_spells number item is = row_spells (item_id number) (a.Item item) refl is (item_are item is.within)

-- a number below 2^32 is one of a counter
small : (n : ℕ) → n < 2 ^ 32 → n < 2 ^ 64
small n few = omega (arith, few)

-- the bytes of a digest
words_are : (words : List ℕ) (size : ℕ) → AreBytes (digest_bytes words size)
unfolding digest_bytes u32_bytes
words_are words zero = All-nil (λ byte. byte < 2 ^ 8)
words_are words (suc size) = append_are (digest_bytes words size) (u32_bytes (slice_index words size)) (words_are words size) (u32_are (slice_index words size))

digest_are : (message : List ℕ) → AreBytes (sha256 message)
unfolding sha256
digest_are message = words_are (final_hash initial_hash_256 message) 8

new_user_of_bytes : (name password : List ℕ) (fresh : ℕ) → is_user_name name ≡ true → IsUserOfBytes (new_user name password (u64_bytes fresh))
new_user_of_bytes name password fresh is = record {
  within = new_user_range name password fresh is;
  salt = u64_are fresh;
  digest = digest_are (u64_bytes fresh ++ password);
}

pub registered_writes : (name password : List ℕ) (fresh now user : ℕ) → is_user_name name ≡ true → user < 2 ^ 32
    → EachSpells (registered name password fresh now user).writes
unfolding registered name_id
registered_writes name password fresh now user is low =
    let known : UserRow = new_user name password (u64_bytes fresh) in
    let named : NameRow = record { name = name; user = user } in
    let named_is = name_is named is in (
      counter_spells 1 user (small user low),
      (
        user_spells user known (new_user_of_bytes name password fresh is),
        (row_spells (name_id name) (a.Name named) refl (record { within = named_is; user = low }) (name_are named named_is), tt),
      ),
    )

pub category_writes : (name : List ℕ) (category : ℕ) → is_text 1 40 name ≡ true → category < 2 ^ 32
    → EachSpells (category_added name category).writes
unfolding category_added
category_writes name category is low =
    let added : CategoryRow = record { name = name } in
    let added_is = category_is added is in (
      counter_spells 3 category (small category low),
      (row_spells (category_id category) (a.Category added) refl (record { within = added_is }) (category_are added added_is), tt),
    )

pub with_items_range : (user : UserRow) (items : ℕ) → IsUser user → items < 2 ^ 32 → IsUser (with_items user items)
with_items_range user items is few = record {
  within = with_items_is user items is.within;
  salt = is.salt;
  digest = is.digest;
  good = is.good;
  bad = is.bad;
  items = few;
}

with_items_of_bytes : (user : UserRow) (items : ℕ) → IsUserOfBytes user → items < 2 ^ 32 → IsUserOfBytes (with_items user items)
with_items_of_bytes user items is few = record {
  within = with_items_range user items is.within few;
  salt = is.salt;
  digest = is.digest;
}

pub offered_writes : (seller now : ℕ) (offer : Offer) (item entry : ℕ) (user : UserRow) → IsItem (new_item seller now offer)
    → item < 2 ^ 32 → entry < 2 ^ 32 → IsUserOfBytes user → user.items + 1 < 2 ^ 32
    → EachSpells (offered seller now offer item entry user).writes
unfolding offered
offered_writes seller now offer item entry user is low entry_low user_is few =
    let listed : EntryRow = record { item = item } in
    let own : OwnItemRow = record { item = item } in (
      counter_spells 2 item (small item low),
      (
        counter_spells (2 ^ 32 + offer.category) entry (small entry entry_low),
        (
          item_spells item (new_item seller now offer) is,
          (
            row_spells (entry_id offer.category entry) (a.Entry listed) refl (record { item = low }) (entry_are listed),
            (
              user_spells seller (with_items user (user.items + 1)) (with_items_of_bytes user (user.items + 1) user_is few),
              (row_spells (own_item_id seller (user.items + 1)) (a.OwnItem own) refl (record { item = low }) (own_item_are own), tt),
            ),
          ),
        ),
      ),
    )

pub bid_writes : (user now number amount : ℕ) (item : ItemRow) → IsItem item → user < 2 ^ 32 → now < 2 ^ 64 → amount < 2 ^ 64
    → item.bids < LAST_BID → EachSpells (bid_made user now number amount item).writes
unfolding bid_made
bid_writes user now number amount item is low early less few =
    let made : BidRow = record { bidder = user; amount = amount; moment = record { 0 = now } } in (
      row_spells (bid_id number (item.bids + 1)) (a.Bid made) refl (record { bidder = low; amount = less; moment = early }) (bid_are made),
      (item_spells number (with_bid item user amount) (with_bid_range item user amount is low less few), tt),
    )

pub bought_writes : (user number : ℕ) (item : ItemRow) → IsItem item → user < 2 ^ 32 → EachSpells (bought user number item).writes
unfolding bought
bought_writes user number item is low =
    (item_spells number (sold_to item user) (sold_to_range item user is low), tt)

pub closed_writes : (number : ℕ) (item : ItemRow) → IsItem item → EachSpells (closed number item).writes
unfolding closed
closed_writes number item is = (item_spells number (after_close item) (after_close_range item is), tt)

pub with_feedback_range : (user : UserRow) (good : Bool) → IsUser user → user.good + user.bad < LAST_FEEDBACK → IsUser (with_feedback user good)
with_feedback_range user true is few = record {
  within = with_feedback_is user true is.within;
  salt = is.salt;
  digest = is.digest;
  good = omega (arith, few);
  bad = is.bad;
  items = is.items;
}
with_feedback_range user false is few = record {
  within = with_feedback_is user false is.within;
  salt = is.salt;
  digest = is.digest;
  good = is.good;
  bad = omega (arith, few);
  items = is.items;
}

with_feedback_of_bytes : (user : UserRow) (good : Bool) → IsUserOfBytes user → user.good + user.bad < LAST_FEEDBACK → IsUserOfBytes (with_feedback user good)
with_feedback_of_bytes user true is few = record {
  within = with_feedback_range user true is.within few;
  salt = is.salt;
  digest = is.digest;
}
with_feedback_of_bytes user false is few = record {
  within = with_feedback_range user false is.within few;
  salt = is.salt;
  digest = is.digest;
}

pub feedback_writes : (user number : ℕ) (good : Bool) (text : List ℕ) (item : ItemRow) (about : UserRow)
    → is_text 0 200 text ≡ true → user < 2 ^ 32 → number < 2 ^ 32 → IsItem item → IsUserOfBytes about → about.good + about.bad < LAST_FEEDBACK
    → EachSpells (feedback_given user number good text item about).writes
unfolding feedback_given
feedback_writes user number good text item about is low item_low item_is about_is few =
    let said : FeedbackRow = record { from = user; item = number; good = good; text = text } in
    let said_is = feedback_is said is in (
      row_spells (feedback_id (other_side item user) (about.good + about.bad + 1)) (a.Feedback said) refl (record { within = said_is; from = low; item = item_low }) (feedback_are said said_is),
      (
        user_spells (other_side item user) (with_feedback about good) (with_feedback_of_bytes about good about_is few),
        (item_spells number (with_given item user) (with_given_range item user item_is), tt),
      ),
    )
