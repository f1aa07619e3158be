-- Rows stay coherent where an item is replaced, where a bid is added to it, and where an item is added.
use Rattle.std.specs.Prelude.{IsSome}
use Rattle.std.proofs.Common.{◌≡◌, ◌≢◌, ◌⊎◌, ◌↔◌, ℕ, ◌+◌, ◌*◌, ◌/◌, ◌^◌, ◌==◌, ◌≤◌, ◌<◌, Bool, true, false, List, Some, refl, ap, sym, subst, ◌∙◌, inl, inr, arith, option_and_then}
use Rattle.std.proofs.lemmas.Bool.Decides.{nat_tests}
use Rattle.crash_base.specs.declared.rows.RowWrite.{RowWrite}
use Rattle.crash_base.specs.Rows.{row_in}
use Rattle.auction_rows.specs.Bounds.{IsItem, IsBid}
use Rattle.auction_rows.specs.Ids.{items_counter, item_id, bid_id}
use Rattle.auction_rows.specs.Reading.{bid_of, counter_of, item_of}
use Rattle.auction_rows.specs.Spelling.{item_bytes, bid_bytes, counter_bytes}
use Rattle.auction_rows.specs.declared.rows.BidRow.{BidRow}
use Rattle.auction_rows.specs.declared.rows.ItemRow.{ItemRow}
use Rattle.auction_site.specs.declared.limits.TheConstants.{LAST_BID}
use Rattle.auction_site.specs.Coherent.{row_at, bid_at, count_of, item_count, HasNoBid, HasBest, AreBidsOn, IsCoherentItem, IsCoherent}
use Rattle.auction_site.specs.Outcomes.{with_bid}
use Rattle.auction_rows.proofs.ExactRows.{item_exact, bid_exact, counter_exact}
use Rattle.auction_site.proofs.Coherence.{IsThere, same_some, the_item, SameBids, bids_moved, counter_moved, count_moved, bid_key, changed_coherent}

-- one item is replaced, and no other one, no bid and not the counter of items
pub record Replaces (rows after : List RowWrite) (number : ℕ) (other : ItemRow) : Type 0 where
  pub here : row_in after (item_id number) ≡ Some (item_bytes other)
  pub others : (n : ℕ) → n ≢ number → row_in after (item_id n) ≡ row_in rows (item_id n)
  pub bids : (key : ℕ) → row_in after (bid_key key) ≡ row_in rows (bid_key key)
  pub counter : row_in after items_counter ≡ row_in rows items_counter

-- by one with as many bids, and the same best one
pub replaced : (rows after : List RowWrite) (number : ℕ) (item other : ItemRow) → IsCoherent rows → row_at rows item_of (item_id number) ≡ Some item
    → IsItem other → other.bids ≡ item.bids → other.best ≡ item.best → other.best_bidder ≡ item.best_bidder
    → Replaces rows after number other → IsCoherent after
replaced rows after number item other coherent is in_range count best bidder replaces =
    changed_coherent rows after number coherent (record {
      item = other;
      coherent = record {
        there = ap (option_and_then item_of) replaces.here ∙ item_exact.again other in_range;
        in_range = in_range;
        counted = omega (arith, as_many, few);
        bids = bids_moved rows after number item other count best bidder (same number) known.bids;
      };
      others = replaces.others;
      other_bids = λ n apart. same n;
      more = omega (arith, as_many);
      bids = bids;
      counter = counter_moved rows after replaces.counter coherent.counter;
    })
  where
    known : IsCoherentItem rows number item
    known = the_item rows number item coherent is

    few : number ≤ item_count rows
    few = known.counted

    as_many : item_count after ≡ item_count rows
    as_many = count_moved rows after replaces.counter

    same : (n : ℕ) → SameBids rows after n
    same n m small = replaces.bids (n * 2 ^ 20 + m)

    bids : (key : ℕ) → IsSome (row_in after (bid_key key)) → key / 2 ^ 20 ≤ item_count after
    bids key is = let old = coherent.bids key (subst IsThere (replaces.bids key) is) in omega (arith, as_many, old)

-- a bid is added to an item, and no other row is changed of items, of bids and the counter of items
pub record AddsBid (rows after : List RowWrite) (number : ℕ) (item : ItemRow) (bid : BidRow) : Type 0 where
  pub here : row_in after (item_id number) ≡ Some (item_bytes (with_bid item bid.bidder bid.amount))
  pub others : (n : ℕ) → n ≢ number → row_in after (item_id n) ≡ row_in rows (item_id n)
  pub added : row_in after (bid_id number (item.bids + 1)) ≡ Some (bid_bytes bid)
  pub bids : (key : ℕ) → key ≢ number * 2 ^ 20 + (item.bids + 1) → row_in after (bid_key key) ≡ row_in rows (bid_key key)
  pub counter : row_in after items_counter ≡ row_in rows items_counter

-- a bid on an item is the new one, or one from before, of less
abbrev IsNewOrLess : List RowWrite → ℕ → ItemRow → BidRow → ℕ → BidRow → Type 0
IsNewOrLess rows number item bid n found =
    ((n ≡ item.bids + 1) × (found.amount ≡ bid.amount))
    ⊎ ((n ≤ item.bids) × (bid_at rows number n ≡ Some found) × (found.amount < bid.amount))

-- the bids on an item with a bid more, which is of more than the best before
bids_added : (rows after : List RowWrite) (number : ℕ) (item : ItemRow) (bid : BidRow) → AreBidsOn rows number item → IsBid bid
    → item.bids < LAST_BID → item.best < bid.amount → AddsBid rows after number item bid
    → AreBidsOn after number (with_bid item bid.bidder bid.amount)
bids_added rows after number item bid bids in_range few more adds =
    record { few = omega (arith, few); numbered = numbered; spelled = spelled; differ = differ; best = inr best }
  where
    new : bid_at after number (item.bids + 1) ≡ Some bid
    new = ap (option_and_then bid_of) adds.added ∙ bid_exact.again bid in_range

    old : (n : ℕ) → n ≢ item.bids + 1 → row_in after (bid_id number n) ≡ row_in rows (bid_id number n)
    old n apart = adds.bids (number * 2 ^ 20 + n) (let other : number * 2 ^ 20 + n ≢ number * 2 ^ 20 + (item.bids + 1) = omega (arith, apart) in other)

    numbered_by : (n : ℕ) (same : Bool) → (n == item.bids + 1) ≡ same → n ≤ LAST_BID
        → IsSome (row_in after (bid_id number n)) ↔ ((1 ≤ n) × (n ≤ item.bids + 1))
    numbered_by n true same small =
        let one : n ≡ item.bids + 1 = grind (arith, nat_tests) in
        let P : ℕ → Type 0 = λ k. IsSome (row_in after (bid_id number k)) in
        (λ is. (omega (arith, one), omega (arith, one)), λ two. subst P (sym one) (subst IsThere (sym adds.added) refl))
    numbered_by n false other small =
        let apart : n ≢ item.bids + 1 = grind (arith, nat_tests) in
        let before = bids.numbered n small in (
          λ is. let two = before.0 (subst IsThere (old n apart) is) in (two.0, let last = two.1 in omega (arith, last)),
          λ two. subst IsThere (sym (old n apart)) (before.1 (two.0, let last = two.1 in omega (arith, last, apart))),
        )

    numbered : (n : ℕ) → n ≤ LAST_BID → IsSome (row_in after (bid_id number n)) ↔ ((1 ≤ n) × (n ≤ item.bids + 1))
    numbered n small = numbered_by n (n == item.bids + 1) refl small

    spelled_by : (n : ℕ) (same : Bool) → (n == item.bids + 1) ≡ same → 1 ≤ n → n ≤ item.bids + 1
        → (found : BidRow) × (bid_at after number n ≡ Some found) × (found.amount ≤ bid.amount)
    spelled_by n true same first last =
        let one : n ≡ item.bids + 1 = grind (arith, nat_tests) in
        let P : ℕ → Type 0 = λ k. bid_at after number k ≡ Some bid in
        (bid, subst P (sym one) new, omega arith)
    spelled_by n false other first last =
        let apart : n ≢ item.bids + 1 = grind (arith, nat_tests) in
        let before = bids.spelled n first (omega (arith, last, apart)) in
        let less = before.2 in
        (before.0, ap (option_and_then bid_of) (old n apart) ∙ before.1, omega (arith, less, more))

    spelled : (n : ℕ) → 1 ≤ n → n ≤ item.bids + 1 → (found : BidRow) × (bid_at after number n ≡ Some found) × (found.amount ≤ bid.amount)
    spelled n first last = spelled_by n (n == item.bids + 1) refl first last

    either_by : (n : ℕ) (same : Bool) → (n == item.bids + 1) ≡ same → (found : BidRow) → 1 ≤ n → n ≤ item.bids + 1
        → bid_at after number n ≡ Some found → IsNewOrLess rows number item bid n found
    either_by n true same found first last is =
        let one : n ≡ item.bids + 1 = grind (arith, nat_tests) in
        let P : ℕ → Type 0 = λ k. bid_at after number k ≡ Some found in
        let here : bid_at after number (item.bids + 1) ≡ Some found = subst P one is in
        let alike : found ≡ bid = same_some (bid_at after number (item.bids + 1)) found bid here new in
        inl (one, ap (λ (b : BidRow). b.amount) alike)
    either_by n false other found first last is =
        let apart : n ≢ item.bids + 1 = grind (arith, nat_tests) in
        let few : n ≤ item.bids = omega (arith, last, apart) in
        let here : bid_at rows number n ≡ Some found = ap (option_and_then bid_of) (sym (old n apart)) ∙ is in
        let before = bids.spelled n first few in
        let known = before.1 in
        let alike : before.0 ≡ found = cc in
        let less : before.0.amount ≤ item.best = before.2 in
        let amount : before.0.amount ≡ found.amount = ap (λ (b : BidRow). b.amount) alike in
        inr (few, here, omega (arith, less, amount, more))

    differ : (n m : ℕ) (found next : BidRow) → 1 ≤ n → n ≤ item.bids + 1 → 1 ≤ m → m ≤ item.bids + 1
        → bid_at after number n ≡ Some found → bid_at after number m ≡ Some next → found.amount ≡ next.amount → n ≡ m
    differ n m found next n_first n_last m_first m_last n_is m_is amount =
        by_both (either_by n (n == item.bids + 1) refl found n_first n_last n_is) (either_by m (m == item.bids + 1) refl next m_first m_last m_is)
      where
        by_both : IsNewOrLess rows number item bid n found → IsNewOrLess rows number item bid m next → n ≡ m
        by_both (inl a) (inl b) = a.0 ∙ sym b.0
        by_both (inl a) (inr b) = let x = a.1 in let y = b.2 in absurd (omega (arith, x, y, amount))
        by_both (inr a) (inl b) = let x = a.2 in let y = b.1 in absurd (omega (arith, x, y, amount))
        by_both (inr a) (inr b) = bids.differ n m found next n_first a.0 m_first b.0 a.1 b.1 amount

    best : HasBest after number (with_bid item bid.bidder bid.amount)
    best = record { n = item.bids + 1; bid = bid; from_one = omega arith; to_last = omega arith; there = new; amount = refl; bidder = refl }

pub bid_added : (rows after : List RowWrite) (number : ℕ) (item : ItemRow) (bid : BidRow) → IsCoherent rows
    → row_at rows item_of (item_id number) ≡ Some item → IsItem (with_bid item bid.bidder bid.amount) → IsBid bid
    → item.bids < LAST_BID → item.best < bid.amount → AddsBid rows after number item bid → IsCoherent after
bid_added rows after number item bid coherent is in_range bid_in_range few more adds =
    changed_coherent rows after number coherent (record {
      item = with_bid item bid.bidder bid.amount;
      coherent = record {
        there = ap (option_and_then item_of) adds.here ∙ item_exact.again (with_bid item bid.bidder bid.amount) in_range;
        in_range = in_range;
        counted = omega (arith, as_many, counted);
        bids = bids_added rows after number item bid known.bids bid_in_range few more adds;
      };
      others = adds.others;
      other_bids = other_bids;
      more = omega (arith, as_many);
      bids = bids;
      counter = counter_moved rows after adds.counter coherent.counter;
    })
  where
    known : IsCoherentItem rows number item
    known = the_item rows number item coherent is

    counted : number ≤ item_count rows
    counted = known.counted

    as_many : item_count after ≡ item_count rows
    as_many = count_moved rows after adds.counter

    other_bids : (n : ℕ) → n ≢ number → SameBids rows after n
    other_bids n apart m small =
        adds.bids (n * 2 ^ 20 + m) (let other : n * 2 ^ 20 + m ≢ number * 2 ^ 20 + (item.bids + 1) = omega (arith, apart, small, few) in other)

    bids_by : (key : ℕ) (same : Bool) → (key == number * 2 ^ 20 + (item.bids + 1)) ≡ same → IsSome (row_in after (bid_key key))
        → key / 2 ^ 20 ≤ item_count after
    bids_by key true same is =
        let one : key ≡ number * 2 ^ 20 + (item.bids + 1) = grind (arith, nat_tests) in
        omega (arith, one, few, as_many, counted)
    bids_by key false other is =
        let apart : key ≢ number * 2 ^ 20 + (item.bids + 1) = grind (arith, nat_tests) in
        let before = coherent.bids key (subst IsThere (adds.bids key apart) is) in
        omega (arith, as_many, before)

    bids : (key : ℕ) → IsSome (row_in after (bid_key key)) → key / 2 ^ 20 ≤ item_count after
    bids key is = bids_by key (key == number * 2 ^ 20 + (item.bids + 1)) refl is

-- an item is added, which is the next by the counter of items, and no other item and no bid is changed
pub record AddsItem (rows after : List RowWrite) (number : ℕ) (item : ItemRow) : Type 0 where
  pub counter : row_in after items_counter ≡ Some (counter_bytes (record { count = number }))
  pub here : row_in after (item_id number) ≡ Some (item_bytes item)
  pub others : (n : ℕ) → n ≢ number → row_in after (item_id n) ≡ row_in rows (item_id n)
  pub bids : (key : ℕ) → row_in after (bid_key key) ≡ row_in rows (bid_key key)

pub item_added : (rows after : List RowWrite) (number : ℕ) (item : ItemRow) → IsCoherent rows → item_count rows + 1 ≡ number
    → number < 2 ^ 64 → IsItem item → HasNoBid item → AddsItem rows after number item → IsCoherent after
item_added rows after number item coherent next low in_range none adds =
    changed_coherent rows after number coherent (record {
      item = item;
      coherent = record {
        there = ap (option_and_then item_of) adds.here ∙ item_exact.again item in_range;
        in_range = in_range;
        counted = omega (arith, many);
        bids = record { few = omega (arith, no_bid); numbered = numbered; spelled = spelled; differ = differ; best = inl none };
      };
      others = adds.others;
      other_bids = λ n apart. same n;
      more = omega (arith, many, next);
      bids = bids;
      counter = λ is. (record { count = number }, counted, record { count = low });
    })
  where
    no_bid : item.bids ≡ 0
    no_bid = none.0

    counted : row_at after counter_of items_counter ≡ Some (record { count = number })
    counted = ap (option_and_then counter_of) adds.counter ∙ counter_exact.again (record { count = number }) (record { count = low })

    many : item_count after ≡ number
    many = ap count_of counted

    same : (n : ℕ) → SameBids rows after n
    same n m small = adds.bids (n * 2 ^ 20 + m)

    numbered : (n : ℕ) → n ≤ LAST_BID → IsSome (row_in after (bid_id number n)) ↔ ((1 ≤ n) × (n ≤ item.bids))
    numbered n small = (
      λ is. let old = coherent.bids (number * 2 ^ 20 + n) (subst IsThere (same number n small) is) in absurd (omega (arith, old, next, small)),
      λ two. let first = two.0 in let last = two.1 in absurd (omega (arith, first, last, no_bid)),
    )

    spelled : (n : ℕ) → 1 ≤ n → n ≤ item.bids → (bid : BidRow) × (bid_at after number n ≡ Some bid) × (bid.amount ≤ item.best)
    spelled n first last = absurd (omega (arith, first, last, no_bid))

    differ : (n m : ℕ) (bid other : BidRow) → 1 ≤ n → n ≤ item.bids → 1 ≤ m → m ≤ item.bids
        → bid_at after number n ≡ Some bid → bid_at after number m ≡ Some other → bid.amount ≡ other.amount → n ≡ m
    differ n m bid other n_first n_last m_first m_last n_is m_is amount = absurd (omega (arith, n_first, n_last, no_bid))

    bids : (key : ℕ) → IsSome (row_in after (bid_key key)) → key / 2 ^ 20 ≤ item_count after
    bids key is = let old = coherent.bids key (subst IsThere (adds.bids key) is) in omega (arith, many, old, next)
