-- The numbers of calls, and of the items and bids that actions write, are in range.
use Rattle.std.proofs.Common.{◌≡◌, ℕ, ◌^◌, ◌==◌, ◌≤◌, ◌<◌, ◌&&◌, nat_lt, nat_le, Bool, true, false, cond, not, [], ◌∷◌, None, refl, arith}
use Rattle.std.proofs.lemmas.Bool.{and_parts}
use Rattle.std.proofs.lemmas.Bool.Decides.{nat_tests}
use Rattle.crash_base.specs.Refusals.{first_of, only_if}
use Rattle.auction_calls.specs.Calls.{is_between, is_id, is_text, is_action, is_sized, is_call}
use Rattle.auction_calls.specs.declared.action.ActionCall.{ActionCall}
use Rattle.auction_rows.specs.Bounds.{is_item, IsItem}
use Rattle.auction_rows.specs.declared.rows.ItemRow.{ItemRow}
use Rattle.auction_rows.specs.declared.rows.ItemState.TheVariants.{Closed}
use Rattle.auction_rules.specs.declared.refusal.RuleRefusal.{RuleRefusal}
use Rattle.auction_rules.specs.declared.refusal.RuleRefusal.TheVariants.{AuctionOver, OwnItem, BidTooLow}
use Rattle.auction_rules.specs.Rules.{bid_refusal, is_running, is_too_low}
use Rattle.auction_site.specs.declared.limits.TheConstants.{LAST_BID}
use Rattle.auction_site.specs.Outcomes.{Offer, new_item, with_bid, sold_to, after_close, with_given}
use Rattle.auction_site.proofs.Bounds.{new_item_is, with_bid_is, sold_to_is, with_given_is, after_close_is}

-- the numbers of a call
pub record AreNumbers (call : ActionCall) : Type 0 where
  pub user : call.user < 2 ^ 32
  pub now : call.now.0 < 2 ^ 62

-- the action of a call is in its range
pub call_action : (call : ActionCall) → is_call call ≡ true → is_action call.action ≡ true
call_action call is = (and_parts (is_action call.action) (nat_lt call.now.0 (2 ^ 62) && is_sized call) is).0

pub call_numbers : (call : ActionCall) → is_call call ≡ true → AreNumbers call
call_numbers call is =
    let rest = (and_parts (is_action call.action) (nat_lt call.now.0 (2 ^ 62) && is_sized call) is).1 in
    let two = and_parts (nat_lt call.now.0 (2 ^ 62)) (is_sized call) rest in
    let now = two.0 in
    let user = (and_parts (nat_le call.user 4294967295) _ two.1).0 in
    record { user = grind (arith, nat_tests); now = grind (arith, nat_tests) }

-- a number between two
pub between : (least most n : ℕ) → is_between least most n ≡ true → (least ≤ n) × (n ≤ most)
between least most n is =
    let two = and_parts (nat_le least n) (nat_le n most) is in
    let low = two.0 in
    let high = two.1 in
    ((grind (arith, nat_tests)), (grind (arith, nat_tests)))

-- an offer whose fields are in range
pub record IsOffer (offer : Offer) : Type 0 where
  pub title : is_text 1 80 offer.title ≡ true
  pub category : offer.category < 2 ^ 32
  pub start : offer.start < 2 ^ 64
  pub buy_now : offer.buy_now < 2 ^ 64
  pub hours : offer.hours ≤ 720

pub offer_is : (offer : Offer)
    → (is_text 1 80 offer.title && (is_id offer.category && (is_between 1 4000000000 offer.start && (nat_le offer.buy_now 4000000000 && is_between 1 720 offer.hours)))) ≡ true
    → IsOffer offer
offer_is offer is =
    let one = and_parts (is_text 1 80 offer.title) _ is in
    let two = and_parts (is_id offer.category) _ one.1 in
    let three = and_parts (is_between 1 4000000000 offer.start) _ two.1 in
    let four = and_parts (nat_le offer.buy_now 4000000000) (is_between 1 720 offer.hours) three.1 in
    let category = (between 1 4294967295 offer.category two.0).1 in
    let start = (between 1 4000000000 offer.start three.0).1 in
    let buy_now = four.0 in
    record {
      title = one.0;
      category = omega (arith, category);
      start = omega (arith, start);
      buy_now = grind (arith, nat_tests);
      hours = (between 1 720 offer.hours four.1).1;
    }

pub new_item_range : (seller now : ℕ) (offer : Offer) → seller < 2 ^ 32 → now < 2 ^ 62 → IsOffer offer → IsItem (new_item seller now offer)
new_item_range seller now offer low early is = record {
  within = new_item_is seller now offer is.title;
  seller = low;
  category = is.category;
  start = is.start;
  buy_now = is.buy_now;
  best = omega arith;
  best_bidder = omega arith;
  bids = omega arith;
  ends = let few = is.hours in omega (arith, few, early);
  buyer = omega arith;
}

pub with_bid_range : (item : ItemRow) (bidder amount : ℕ) → IsItem item → bidder < 2 ^ 32 → amount < 2 ^ 64 → item.bids < LAST_BID
    → IsItem (with_bid item bidder amount)
with_bid_range item bidder amount is low less few = record {
  within = with_bid_is item bidder amount is.within;
  seller = is.seller;
  category = is.category;
  start = is.start;
  buy_now = is.buy_now;
  best = less;
  best_bidder = low;
  bids = omega (arith, few);
  ends = is.ends;
  buyer = is.buyer;
}

pub sold_to_range : (item : ItemRow) (buyer : ℕ) → IsItem item → buyer < 2 ^ 32 → IsItem (sold_to item buyer)
sold_to_range item buyer is low = record {
  within = sold_to_is item buyer is.within;
  seller = is.seller;
  category = is.category;
  start = is.start;
  buy_now = is.buy_now;
  best = is.best;
  best_bidder = is.best_bidder;
  bids = is.bids;
  ends = is.ends;
  buyer = low;
}

pub with_given_range : (item : ItemRow) (user : ℕ) → IsItem item → IsItem (with_given item user)
with_given_range item user is = record {
  within = with_given_is item user is.within;
  seller = is.seller;
  category = is.category;
  start = is.start;
  buy_now = is.buy_now;
  best = is.best;
  best_bidder = is.best_bidder;
  bids = is.bids;
  ends = is.ends;
  buyer = is.buyer;
}

-- an item is in range where it is closed or sold
closed_range : (item : ItemRow) (none : Bool) → IsItem item → is_item (cond none (record item { state = Closed }) (sold_to item item.best_bidder)) ≡ true
    → IsItem (cond none (record item { state = Closed }) (sold_to item item.best_bidder))
closed_range item true is within = record {
  within = within;
  seller = is.seller;
  category = is.category;
  start = is.start;
  buy_now = is.buy_now;
  best = is.best;
  best_bidder = is.best_bidder;
  bids = is.bids;
  ends = is.ends;
  buyer = is.buyer;
}
closed_range item false is within = sold_to_range item item.best_bidder is is.best_bidder

pub after_close_range : (item : ItemRow) → IsItem item → IsItem (after_close item)
after_close_range item is = closed_range item (item.best == 0) is (after_close_is item is.within)

-- an item that is the same in its bids
pub record HasSameBids (item other : ItemRow) : Type 0 where
  pub bids : other.bids ≡ item.bids
  pub best : other.best ≡ item.best
  pub bidder : other.best_bidder ≡ item.best_bidder

pub after_close_same : (item : ItemRow) → HasSameBids item (after_close item)
after_close_same item = by_bid (item.best == 0)
  where
    by_bid : (none : Bool) → HasSameBids item (cond none (record item { state = Closed }) (sold_to item item.best_bidder))
    by_bid true = record { bids = refl; best = refl; bidder = refl }
    by_bid false = record { bids = refl; best = refl; bidder = refl }

-- of three refusals, of which none holds, the last does not
last_passes : (a b c : Bool) (x y z : RuleRefusal) → first_of (only_if a x ∷ only_if b y ∷ only_if c z ∷ []) ≡ None → c ≡ false
last_passes true b c x y z is = absurd (cc)
last_passes false true c x y z is = absurd (cc)
last_passes false false true x y z is = absurd (cc)
last_passes false false false x y z is = refl

-- a bid that is not refused is of more than the best
pub bid_allowed : (item : ItemRow) (user amount now : ℕ) → bid_refusal item user amount now ≡ None → item.best < amount
bid_allowed item user amount now is =
    let high : is_too_low item amount ≡ false =
    last_passes (not (is_running item now)) (item.seller == user) (is_too_low item amount) AuctionOver OwnItem BidTooLow is in
    grind (arith, nat_tests)
