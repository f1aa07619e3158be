-- What actions leave in the rows is read back from them.
use Rattle.std.proofs.Common.{◌≡◌, ℕ, ◌+◌, ◌-◌, ◌*◌, ◌^◌, ◌<◌, Bool, true, false, List, Option, Some, refl, inr, ap, ◌∙◌, arith, option_and_then}
use Rattle.crash_base.specs.declared.row_id.RowId.{RowId}
use Rattle.crash_base.specs.declared.rows.RowWrite.{RowWrite}
use Rattle.crash_base.specs.Rows.{put_all, row_in}
use Rattle.crash_base.proofs.Ordering.{row_in-put_all}
use Rattle.auction_calls.specs.Calls.{is_text}
use Rattle.auction_rows.specs.Bounds.{IsItem, IsUser}
use Rattle.auction_rows.specs.Ids.{categories_counter, category_counter, category_id, entry_id, feedback_id, item_id, items_counter, name_id, own_item_id, user_id, users_counter}
use Rattle.auction_rows.specs.Reading.{bid_of, category_of, counter_of, entry_of, feedback_of, item_of, own_item_of, user_of}
use Rattle.auction_rows.specs.Spelling.{category_bytes, counter_bytes, entry_bytes, feedback_bytes, own_item_bytes, user_bytes}
use Rattle.auction_rows.specs.declared.rows.CategoryRow.{CategoryRow}
use Rattle.auction_rows.specs.declared.rows.CounterRow.{CounterRow}
use Rattle.auction_rows.specs.declared.rows.EntryRow.{EntryRow}
use Rattle.auction_rows.specs.declared.rows.FeedbackRow.{FeedbackRow}
use Rattle.auction_rows.specs.declared.rows.ItemRow.{ItemRow}
use Rattle.auction_rows.specs.declared.rows.OwnItemRow.{OwnItemRow}
use Rattle.auction_rows.specs.declared.rows.UserRow.{UserRow}
use Rattle.auction_rows.proofs.ExactRows.{bid_exact, category_exact, counter_exact, entry_exact, feedback_exact, item_exact, own_item_exact, user_exact}
use Rattle.auction_rules.specs.Rules.{other_side}
use Rattle.auction_site.specs.Accepted.{Counts}
use Rattle.auction_site.specs.Coherent.{row_at, bid_at}
use Rattle.auction_site.specs.Offered.{IsOffered}
use Rattle.auction_site.specs.Outcomes.{Offer, after_close, bid_made, bought, category_added, closed, feedback_given, new_item, offered, registered, sold_to, with_bid, with_feedback, with_given, with_items}
use Rattle.auction_site.proofs.Bounds.{category_is, feedback_is}
use Rattle.auction_site.proofs.Put.{at_here, bid_adds, bid_row, bought_replaces, closed_replaces, given_replaces, offer_adds}
use Rattle.auction_site.proofs.Ranges.{after_close_range, sold_to_range, with_bid_range, with_given_range}
use Rattle.auction_site.proofs.RowWrites.{with_feedback_range, with_items_range}

-- a counter that was put tells its count
counts : (rows : List RowWrite) (id : RowId) (n : ℕ) → row_in rows id ≡ Some (counter_bytes (record { count = n })) → n < 2 ^ 64 → Counts rows id n
counts rows id n is few =
    let counter : CounterRow = record { count = n } in
    inr (counter, ap (option_and_then counter_of) is ∙ counter_exact.again counter (record { count = few }), refl)

pub registered_counts : (name password : List ℕ) (fresh now user : ℕ) (rows : List RowWrite) → user < 2 ^ 32
    → Counts (put_all (registered name password fresh now user).writes rows) users_counter user
unfolding registered name_id
registered_counts name password fresh now user rows low =
    let ws : List RowWrite = (registered name password fresh now user).writes in
    counts (put_all ws rows) users_counter user (row_in-put_all ws rows users_counter) (omega (arith, low))

pub categories_left : (name : List ℕ) (category : ℕ) (rows : List RowWrite) → category < 2 ^ 64
    → Counts (put_all (category_added name category).writes rows) categories_counter category
unfolding category_added
categories_left name category rows few =
    let ws : List RowWrite = (category_added name category).writes in
    counts (put_all ws rows) categories_counter category (row_in-put_all ws rows categories_counter) few

pub good_more : (about : UserRow) → with_feedback about true ≡ record about { good = about.good + 1 }
good_more about = refl

pub bad_more : (about : UserRow) → with_feedback about false ≡ record about { bad = about.bad + 1 }
bad_more about = refl

pub category_left : (name : List ℕ) (category : ℕ) (rows : List RowWrite) → is_text 1 40 name ≡ true
    → row_at (put_all (category_added name category).writes rows) category_of (category_id category) ≡ Some (record { name = name })
unfolding category_added
category_left name category rows is =
    let ws : List RowWrite = (category_added name category).writes in
    let added : CategoryRow = record { name = name } in
    let new : Option (List ℕ) = Some (category_bytes added) in
    ap (option_and_then category_of) (row_in-put_all ws rows (category_id category) ∙ at_here category new (row_in rows (category_id category)))
    ∙ category_exact.again added (record { within = category_is added is })

pub bought_left : (user number : ℕ) (item : ItemRow) (rows : List RowWrite) → IsItem item → user < 2 ^ 32
    → row_at (put_all (bought user number item).writes rows) item_of (item_id number) ≡ Some (sold_to item user)
bought_left user number item rows is low =
    ap (option_and_then item_of) (bought_replaces rows user number item).here ∙ item_exact.again (sold_to item user) (sold_to_range item user is low)

pub closed_left : (number : ℕ) (item : ItemRow) (rows : List RowWrite) → IsItem item
    → row_at (put_all (closed number item).writes rows) item_of (item_id number) ≡ Some (after_close item)
closed_left number item rows is =
    ap (option_and_then item_of) (closed_replaces rows number item).here ∙ item_exact.again (after_close item) (after_close_range item is)

pub bid_left : (user now number amount : ℕ) (item : ItemRow) (rows : List RowWrite) → IsItem item → user < 2 ^ 32 → now < 2 ^ 64
    → amount < 2 ^ 64 → item.bids < 2 ^ 20 - 1
    → (row_at (put_all (bid_made user now number amount item).writes rows) item_of (item_id number) ≡ Some (with_bid item user amount))
    × (bid_at (put_all (bid_made user now number amount item).writes rows) number (item.bids + 1) ≡ Some (bid_row user amount now))
bid_left user now number amount item rows is low early less few =
    let adds = bid_adds rows user now number amount item in (
      ap (option_and_then item_of) adds.here ∙ item_exact.again (with_bid item user amount) (with_bid_range item user amount is low less (omega (arith, few))),
      ap (option_and_then bid_of) adds.added ∙ bid_exact.again (bid_row user amount now) (record { bidder = low; amount = less; moment = early }),
    )

pub feedback_left : (user number : ℕ) (good : Bool) (text : List ℕ) (item : ItemRow) (about : UserRow) (rows : List RowWrite) → IsItem item → IsUser about
    → about.good + about.bad < 2 ^ 20 - 1 → is_text 0 200 text ≡ true → user < 2 ^ 32 → number < 2 ^ 32
    → (row_at (put_all (feedback_given user number good text item about).writes rows) item_of (item_id number) ≡ Some (with_given item user))
    × (row_at (put_all (feedback_given user number good text item about).writes rows) user_of (user_id (other_side item user)) ≡ Some (with_feedback about good))
    × (row_at (put_all (feedback_given user number good text item about).writes rows) feedback_of (feedback_id (other_side item user) (about.good + about.bad + 1))
    ≡ Some (record { from = user; item = number; good = good; text = text }))
unfolding feedback_given
feedback_left user number good text item about rows is about_is few text_is low item_low =
    let ws : List RowWrite = (feedback_given user number good text item about).writes in
    let other : ℕ = other_side item user in
    let told : FeedbackRow = record { from = user; item = number; good = good; text = text } in
    let key : ℕ = other * 2 ^ 20 + (about.good + about.bad + 1) in
    let new_user : Option (List ℕ) = Some (user_bytes (with_feedback about good)) in
    let new : Option (List ℕ) = Some (feedback_bytes told) in
    let id : RowId = feedback_id other (about.good + about.bad + 1) in (
      ap (option_and_then item_of) (given_replaces rows user number good text item about).here ∙ item_exact.again (with_given item user) (with_given_range item user is),
      ap (option_and_then user_of) (row_in-put_all ws rows (user_id other) ∙ at_here other new_user (row_in rows (user_id other)))
          ∙ user_exact.again (with_feedback about good) (with_feedback_range about good about_is (omega (arith, few))),
      ap (option_and_then feedback_of) (row_in-put_all ws rows id ∙ at_here key new (row_in rows id))
          ∙ feedback_exact.again told (record { within = feedback_is told text_is; from = low; item = item_low }),
    )

pub offer_left : (seller now : ℕ) (offer : Offer) (item entry : ℕ) (user : UserRow) (rows : List RowWrite) → IsItem (new_item seller now offer) → IsUser user
    → user.items + 1 < 2 ^ 32 → item < 2 ^ 32 → entry < 2 ^ 32
    → IsOffered (put_all (offered seller now offer item entry user).writes rows) seller now offer item entry user
unfolding offered
offer_left seller now offer item entry user rows is user_is few low entry_low =
    let ws : List RowWrite = (offered seller now offer item entry user).writes in
    let number : EntryRow = record { item = item } in
    let own : OwnItemRow = record { item = item } in
    let entry_key : ℕ = offer.category * 2 ^ 32 + entry in
    let own_key : ℕ = seller * 2 ^ 32 + (user.items + 1) in
    let other : UserRow = with_items user (user.items + 1) in
    let entry_at : RowId = entry_id offer.category entry in
    let own_at : RowId = own_item_id seller (user.items + 1) in
    let entries_key : ℕ = 2 ^ 32 + offer.category in
    let entries_at : RowId = category_counter offer.category in
    record {
      item = new_item seller now offer;
      there = ap (option_and_then item_of) (offer_adds rows seller now offer item entry user).here ∙ item_exact.again (new_item seller now offer) is;
      running = refl;
      seller_is = refl;
      title = refl;
      category = refl;
      start = refl;
      buy_now = refl;
      bids = refl;
      best = refl;
      best_bidder = refl;
      buyer = refl;
      given = refl;
      ends = refl;
      listed = ap (option_and_then entry_of) (row_in-put_all ws rows entry_at ∙ at_here entry_key (Some (entry_bytes number)) (row_in rows entry_at))
          ∙ entry_exact.again number (record { item = low });
      owned = ap (option_and_then own_item_of) (row_in-put_all ws rows own_at ∙ at_here own_key (Some (own_item_bytes own)) (row_in rows own_at))
          ∙ own_item_exact.again own (record { item = low });
      counted = ap (option_and_then user_of) (row_in-put_all ws rows (user_id seller) ∙ at_here seller (Some (user_bytes other)) (row_in rows (user_id seller)))
          ∙ user_exact.again other (with_items_range user (user.items + 1) user_is few);
      items = counts (put_all ws rows) items_counter item (offer_adds rows seller now offer item entry user).counter (omega (arith, low));
      entries = counts (put_all ws rows) entries_at entry
          (row_in-put_all ws rows entries_at ∙ at_here entries_key (Some (counter_bytes (record { count = entry }))) _) (omega (arith, entry_low));
    }
