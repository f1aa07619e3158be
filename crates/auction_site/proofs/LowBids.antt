-- Over coherent rows a bid is refused as too low exactly where it is below the start, or some bid is of no less.
use Rattle.std.proofs.Common.{◌≡◌, ◌≢◌, ◌⊎◌, ◌↔◌, ℕ, ◌==◌, ◌≤◌, nat_lt, not, Bool, true, false, List, [], ◌∷◌, Some, refl, ap, subst, inl, inr, arith}
use Rattle.std.proofs.lemmas.Bool.Decides.{nat_tests}
use Rattle.crash_base.specs.declared.rows.RowWrite.{RowWrite}
use Rattle.crash_base.specs.Refusals.{first_of, only_if}
use Rattle.auction_rows.specs.Ids.{item_id}
use Rattle.auction_rows.specs.Reading.{item_of}
use Rattle.auction_rows.specs.declared.rows.BidRow.{BidRow}
use Rattle.auction_rows.specs.declared.rows.ItemRow.{ItemRow}
use Rattle.auction_rules.specs.declared.refusal.RuleRefusal.TheVariants.{AuctionOver, OwnItem, BidTooLow}
use Rattle.auction_rules.specs.Rules.{bid_refusal, is_running, is_too_low}
use Rattle.auction_site.specs.Coherent.{row_at, bid_at, HasNoBid, HasBest, IsCoherent, IsTooLowFor}
use Rattle.auction_site.proofs.Coherence.{same_some, the_item}

-- of three refusals, of which the first two do not hold, the third is the answer exactly where it holds
only_low : (over own low : Bool) → over ≡ false → own ≡ false
    → (first_of (only_if over AuctionOver ∷ only_if own OwnItem ∷ only_if low BidTooLow ∷ []) ≡ Some BidTooLow) ↔ (low ≡ true)
only_low true own low first second = absurd (cc)
only_low false true low first second = absurd (cc)
only_low false false true first second = (λ is. refl, λ is. refl)
only_low false false false first second = (λ is. absurd (cc), λ is. absurd (cc))

-- an amount that is tested as too low is no more than some bid, or below the start
low_bid : (rows : List RowWrite) (number amount : ℕ) (item : ItemRow) → HasNoBid item ⊎ HasBest rows number item → 1 ≤ amount
    → is_too_low item amount ≡ true → IsTooLowFor rows number item amount
low_bid rows number amount item best some low = by_start (nat_lt amount item.start) refl
  where
    by_best : HasNoBid item ⊎ HasBest rows number item → amount ≤ item.best → IsTooLowFor rows number item amount
    by_best (inl none) few = let no_best = none.1 in absurd (omega (arith, no_best, few, some))
    by_best (inr has) few =
        let same = has.amount in
        inr (has.n, has.bid, has.from_one, has.to_last, has.there, omega (arith, few, same))

    by_start : (below : Bool) → nat_lt amount item.start ≡ below → IsTooLowFor rows number item amount
    by_start true below = inl (grind (arith, nat_tests))
    by_start false not_below = by_best best (grind (arith, nat_tests))

-- and the other way round
bid_is_low : (rows : List RowWrite) (number amount : ℕ) (item : ItemRow)
    → ((n : ℕ) → 1 ≤ n → n ≤ item.bids → (bid : BidRow) × (bid_at rows number n ≡ Some bid) × (bid.amount ≤ item.best))
    → IsTooLowFor rows number item amount → is_too_low item amount ≡ true
bid_is_low rows number amount item spelled (inl below) = grind (arith, nat_tests)
bid_is_low rows number amount item spelled (inr some) =
    let n : ℕ = some.0 in
    let best = spelled n some.2 some.3 in
    let same : best.0 ≡ some.1 = same_some (bid_at rows number n) best.0 some.1 best.1 some.4 in
    let few : some.1.amount ≤ item.best = subst (λ (bid : BidRow). bid.amount ≤ item.best) same best.2 in
    let less : amount ≤ some.1.amount = some.5 in
    let low : amount ≤ item.best = omega (arith, few, less) in
    grind (arith, nat_tests)

pub low_bids : (rows : List RowWrite) (number user amount now : ℕ) (item : ItemRow) → IsCoherent rows
    → row_at rows item_of (item_id number) ≡ Some item → is_running item now ≡ true → item.seller ≢ user → 1 ≤ amount
    → (bid_refusal item user amount now ≡ Some BidTooLow) ↔ IsTooLowFor rows number item amount
low_bids rows number user amount now item coherent is running other some =
    let known = the_item rows number item coherent is in
    let own : (item.seller == user) ≡ false = grind (arith, nat_tests) in
    let over : not (is_running item now) ≡ false = ap not running in
    let answer = only_low (not (is_running item now)) (item.seller == user) (is_too_low item amount) over own in (
      λ refused. low_bid rows number amount item known.bids.best some (answer.0 refused),
      λ low. answer.1 (bid_is_low rows number amount item known.bids.spelled low),
    )
