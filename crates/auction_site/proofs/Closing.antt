-- The close of an item sells it to the bidder of its greatest bid.
use Rattle.std.proofs.Common.{◌≡◌, ◌⊎◌, ℕ, ◌==◌, ◌≤◌, false, List, Some, refl, ap, subst, ◌∙◌, inl, inr, arith}
use Rattle.std.proofs.lemmas.Bool.Decides.{nat_tests}
use Rattle.crash_base.specs.declared.rows.RowWrite.{RowWrite}
use Rattle.auction_rows.specs.Ids.{item_id}
use Rattle.auction_rows.specs.Reading.{item_of}
use Rattle.auction_rows.specs.declared.rows.BidRow.{BidRow}
use Rattle.auction_rows.specs.declared.rows.ItemRow.{ItemRow}
use Rattle.auction_rows.specs.declared.rows.ItemState.TheVariants.{Closed}
use Rattle.auction_site.specs.Coherent.{row_at, bid_at, HasNoBid, HasBest, AreBidsOn, IsCoherent, IsGreatestBid}
use Rattle.auction_site.specs.Outcomes.{after_close, sold_to}
use Rattle.auction_site.proofs.Coherence.{same_some, the_item}

-- what an item is after its close, by its best bid
by_amount : (item : ItemRow) (bidder : ℕ) → 1 ≤ item.best → item.best_bidder ≡ bidder → after_close item ≡ sold_to item bidder
by_amount item bidder some is =
    let test : (item.best == 0) ≡ false = grind (arith, nat_tests) in
    rw (test, is) refl

pub closes_to_the_greatest : (rows : List RowWrite) (number n : ℕ) (item : ItemRow) (bid : BidRow) → IsCoherent rows
    → row_at rows item_of (item_id number) ≡ Some item → IsGreatestBid rows number item n bid → 1 ≤ bid.amount
    → after_close item ≡ sold_to item bid.bidder
closes_to_the_greatest rows number n item bid coherent is great some = by_best bids.best
  where
    bids : AreBidsOn rows number item
    bids = (the_item rows number item coherent is).bids

    by_best : HasNoBid item ⊎ HasBest rows number item → after_close item ≡ sold_to item bid.bidder
    by_best (inl none) =
        let first = great.from_one in
        let last = great.to_last in
        let count = none.0 in
        absurd (omega (arith, first, last, count))
    by_best (inr has) =
        let most = great.greatest has.n has.bid has.from_one has.to_last has.there in
        let spelled = bids.spelled n great.from_one great.to_last in
        let same : spelled.0 ≡ bid = same_some (bid_at rows number n) spelled.0 bid spelled.1 great.there in
        let less : bid.amount ≤ item.best = subst (λ (x : BidRow). x.amount ≤ item.best) same spelled.2 in
        let best = has.amount in
        let amounts : has.bid.amount ≡ bid.amount = omega (arith, most, less, best) in
        let one : has.n ≡ n = bids.differ has.n n has.bid bid has.from_one has.to_last great.from_one great.to_last has.there great.there amounts in
        let both : has.bid ≡ bid = same_some (bid_at rows number n) has.bid bid (subst (λ k. bid_at rows number k ≡ Some has.bid) one has.there) great.there in
        by_amount item bid.bidder (omega (arith, some, less)) (has.bidder ∙ ap (λ (x : BidRow). x.bidder) both)

pub closes_without_a_bid : (rows : List RowWrite) (number : ℕ) (item : ItemRow) → IsCoherent rows
    → row_at rows item_of (item_id number) ≡ Some item → item.bids ≡ 0 → after_close item ≡ record item { state = Closed }
closes_without_a_bid rows number item coherent is none = by_best (the_item rows number item coherent is).bids.best
  where
    by_best : HasNoBid item ⊎ HasBest rows number item → after_close item ≡ record item { state = Closed }
    by_best (inl no_bid) = rw (no_bid.1) refl
    by_best (inr has) =
        let first = has.from_one in
        let last = has.to_last in
        absurd (omega (arith, first, last, none))
