-- What was done is refused where it is tried again.
use Rattle.std.proofs.Common.{◌≡◌, ◌≢◌, ℕ, ◌==◌, ◌≤◌, ◌&&◌, ◌||◌, nat_lt, nat_le, not, Bool, true, false, cond, [], ◌∷◌, Option, Some, refl, ap, inl, inr, arith}
use Rattle.std.proofs.lemmas.Bool.Decides.{nat_tests}
use Rattle.crash_base.specs.Refusals.{first_of, only_if}
use Rattle.auction_rows.specs.declared.rows.GivenFeedback.{GivenFeedback}
use Rattle.auction_rows.specs.declared.rows.ItemRow.{ItemRow}
use Rattle.auction_rows.specs.declared.rows.ItemState.{ItemState}
use Rattle.auction_rows.specs.declared.rows.ItemState.TheVariants.{Running, Closed, Sold}
use Rattle.auction_rules.specs.declared.refusal.RuleRefusal.{RuleRefusal}
use Rattle.auction_rules.specs.declared.refusal.RuleRefusal.TheVariants.{AuctionOver, OwnItem, BidTooLow, NotSold, NotAllowed, AlreadyGiven}
use Rattle.auction_rules.specs.Rules.{is_open, is_sold, bid_refusal, feedback_refusal, IsOnASide, IsRunning}
use Rattle.auction_site.specs.Done.{IsOver}
use Rattle.auction_site.specs.Outcomes.{after_close, sold_to, with_bid, with_given}

-- a number is itself
same_number : (n : ℕ) → (n == n) ≡ true
same_number n = grind (arith, nat_tests)

pub sold_is_over : (item : ItemRow) (buyer : ℕ) → IsOver (sold_to item buyer)
sold_is_over item buyer = record {
  bid = λ user amount now. refl;
  buy = λ user now. refl;
  close = rw (same_number item.seller) refl;
}

closed_is_over : (item : ItemRow) → IsOver (record item { state = Closed })
closed_is_over item = record {
  bid = λ user amount now. refl;
  buy = λ user now. refl;
  close = rw (same_number item.seller) refl;
}

pub after_close_is_over : (item : ItemRow) → IsOver (after_close item)
after_close_is_over item = by_bid (item.best == 0)
  where
    by_bid : (none : Bool) → IsOver (cond none (record item { state = Closed }) (sold_to item item.best_bidder))
    by_bid true = closed_is_over item
    by_bid false = sold_is_over item item.best_bidder

-- the feedback of a side, by whether it is the buyer and whether it is the seller
abbrev marked : GivenFeedback → Bool → GivenFeedback
marked given buys = cond buys (record given { by_buyer = true }) (record given { by_seller = true })

-- whether a side has given feedback
abbrev mark_of : GivenFeedback → Bool → Bool
mark_of given buys = cond buys given.by_buyer given.by_seller

-- why feedback is refused, by the state, by whether the user buys and sells, and by what was given
abbrev refusal_of : ItemState → Bool → Bool → GivenFeedback → Option RuleRefusal
refusal_of state buys sells given =
    first_of (only_if (not (is_sold state)) NotSold ∷ only_if (not (buys || sells)) NotAllowed ∷ only_if (mark_of given buys) AlreadyGiven ∷ [])

twice : (state : ItemState) (buys sells : Bool) (given : GivenFeedback) → state ≡ Sold → (buys || sells) ≡ true
    → refusal_of state buys sells (marked given buys) ≡ Some AlreadyGiven
twice Running buys sells given sold side = absurd (cc)
twice Closed buys sells given sold side = absurd (cc)
twice Sold true sells given sold side = refl
twice Sold false true given sold side = refl
twice Sold false false given sold side = absurd (cc)

-- who is on a side buys or sells
on_a_side : (item : ItemRow) (user : ℕ) → IsOnASide item user → ((item.buyer == user) || (item.seller == user)) ≡ true
on_a_side item user (inl seller) = grind (arith, nat_tests)
on_a_side item user (inr buyer) = grind (arith, nat_tests)

pub feedback_once : (item : ItemRow) (user : ℕ) → item.state ≡ Sold → IsOnASide item user
    → feedback_refusal (with_given item user) user ≡ Some AlreadyGiven
feedback_once item user sold side = twice item.state (item.buyer == user) (item.seller == user) item.given sold (on_a_side item user side)

-- The other side is refused as before: it is not the buyer where the first one is, and where the first one
-- is not, it is the buyer or on no side.
as_before : (state : ItemState) (buys sells first : Bool) (given : GivenFeedback) → (buys && first) ≡ false → (buys || (first || not sells)) ≡ true
    → refusal_of state buys sells (marked given first) ≡ refusal_of state buys sells given
as_before Running buys sells first given apart side = refl
as_before Closed buys sells first given apart side = refl
as_before Sold true sells true given apart side = absurd (cc)
as_before Sold true sells false given apart side = refl
as_before Sold false sells true given apart side = refl
as_before Sold false true false given apart side = absurd (cc)
as_before Sold false false false given apart side = refl

pub other_as_before : (item : ItemRow) (user other : ℕ) → IsOnASide item user → other ≢ user
    → feedback_refusal (with_given item user) other ≡ feedback_refusal item other
other_as_before item user other side apart =
    as_before item.state (item.buyer == other) (item.seller == other) (item.buyer == user) item.given not_both (one_of side)
  where
    not_both : ((item.buyer == other) && (item.buyer == user)) ≡ false
    not_both = grind (arith, nat_tests)

    one_of : IsOnASide item user → ((item.buyer == other) || ((item.buyer == user) || not (item.seller == other))) ≡ true
    one_of (inl seller) = grind (arith, nat_tests)
    one_of (inr buyer) = grind (arith, nat_tests)

-- of three refusals, of which the third alone holds, it is the answer
third_alone : (over own low : Bool) → over ≡ false → own ≡ false → low ≡ true
    → first_of (only_if over AuctionOver ∷ only_if own OwnItem ∷ only_if low BidTooLow ∷ []) ≡ Some BidTooLow
third_alone over own low a b c = rw (a, b, c) refl

open_state : (state : ItemState) → state ≡ Running → is_open state ≡ true
open_state state is = ap is_open is

pub no_more_is_low : (item : ItemRow) (bidder amount user other now : ℕ) → IsRunning item now → item.seller ≢ user → other ≤ amount
    → bid_refusal (with_bid item bidder amount) user other now ≡ Some BidTooLow
no_more_is_low item bidder amount user other now running apart few =
    let opened : is_open item.state ≡ true = open_state item.state running.is_open in
    let before = running.before in
    third_alone (not (is_open item.state && nat_lt now item.ends.0)) (item.seller == user) (nat_le other amount || nat_lt other item.start)
    (grind (arith, nat_tests)) (grind (arith, nat_tests)) (grind (arith, nat_tests))
