-- Rows stay coherent where they are the same, or change at one item.
use Rattle.std.specs.Prelude.{IsSome}
use Rattle.std.proofs.Common.{◌≡◌, ◌≢◌, ◌⊎◌, ◌↔◌, ℕ, ◌+◌, ◌*◌, ◌/◌, ◌^◌, ◌==◌, ◌≤◌, Bool, true, false, List, Option, Some, None, refl, ap, sym, subst, ◌∙◌, inl, inr, arith, option_and_then}
use Rattle.std.proofs.lemmas.Bool.Decides.{nat_tests}
use Rattle.crash_base.specs.declared.row_id.RowId.{RowId}
use Rattle.crash_base.specs.declared.rows.RowWrite.{RowWrite}
use Rattle.crash_base.specs.declared.row_id.TheConstants.{SERVICE_TABLE}
use Rattle.crash_base.specs.Rows.{put, row_in}
use Rattle.crash_base.proofs.Ordering.{row_in-put}
use Rattle.auction_rows.specs.Bounds.{IsCounter}
use Rattle.auction_rows.specs.Ids.{items_counter, item_id, bid_id}
use Rattle.auction_rows.specs.Reading.{bid_of, counter_of, item_of}
use Rattle.auction_rows.specs.declared.rows.BidRow.{BidRow}
use Rattle.auction_rows.specs.declared.rows.CounterRow.{CounterRow}
use Rattle.auction_rows.specs.declared.rows.ItemRow.{ItemRow}
use Rattle.auction_rows.specs.declared.rows.TheConstants.{BID_TABLE}
use Rattle.auction_site.specs.declared.limits.TheConstants.{LAST_BID}
use Rattle.auction_site.specs.Coherent.{row_at, bid_at, count_of, item_count, HasNoBid, HasBest, AreBidsOn, IsCoherentItem, IsCoherent, AgreeOnItems}

-- a row has bytes
abbrev pub IsThere : Option (List ℕ) → Type 0
IsThere bytes = IsSome bytes

-- the bytes of a row, where some spell one
pub there : {T : Type 0} (spells : List ℕ → Option T) (bytes : Option (List ℕ)) (x : T) → option_and_then spells bytes ≡ Some x → IsSome bytes
there spells None x is = absurd (cc)
there spells (Some bytes) x is = refl

-- an option is but one value
pub same_some : {T : Type 0} (o : Option T) (a b : T) → o ≡ Some a → o ≡ Some b → a ≡ b
same_some o a b x y = cc

-- an item among coherent rows is coherent
pub the_item : (rows : List RowWrite) (number : ℕ) (item : ItemRow) → IsCoherent rows → row_at rows item_of (item_id number) ≡ Some item
    → IsCoherentItem rows number item
the_item rows number item coherent is =
    let found = coherent.items number (there item_of (row_in rows (item_id number)) item is) in
    let known = found.1 in
    subst (λ x. IsCoherentItem rows number x) (same_some (row_at rows item_of (item_id number)) found.0 item known.there is) known

-- each bid on an item is the same among other rows
abbrev pub SameBids : List RowWrite → List RowWrite → ℕ → Type 0
SameBids rows after number = (n : ℕ) → n ≤ LAST_BID → row_in after (bid_id number n) ≡ row_in rows (bid_id number n)

-- the bids on an item are those on one that has as many, and the same best
pub bids_moved : (rows after : List RowWrite) (number : ℕ) (item other : ItemRow) → other.bids ≡ item.bids → other.best ≡ item.best
    → other.best_bidder ≡ item.best_bidder → SameBids rows after number → AreBidsOn rows number item → AreBidsOn after number other
bids_moved rows after number item other count best bidder same bids =
    record { few = omega (arith, count, bids.few); numbered = numbered; spelled = spelled; differ = differ; best = by_best bids.best }
  where
    within : (n : ℕ) → n ≤ other.bids → n ≤ item.bids
    within n few = omega (arith, count, few)

    small : (n : ℕ) → n ≤ other.bids → n ≤ LAST_BID
    small n few = let most = bids.few in omega (arith, count, few, most)

    moved : (n : ℕ) → n ≤ other.bids → bid_at after number n ≡ bid_at rows number n
    moved n few = ap (option_and_then bid_of) (same n (small n few))

    numbered : (n : ℕ) → n ≤ LAST_BID → IsSome (row_in after (bid_id number n)) ↔ ((1 ≤ n) × (n ≤ other.bids))
    numbered n few =
        let old = bids.numbered n few in (
          λ is. let two = old.0 (subst IsThere (same n few) is) in (two.0, omega (arith, count, two.1)),
          λ two. subst IsThere (sym (same n few)) (old.1 (two.0, within n two.1)),
        )

    spelled : (n : ℕ) → 1 ≤ n → n ≤ other.bids → (bid : BidRow) × (bid_at after number n ≡ Some bid) × (bid.amount ≤ other.best)
    spelled n first last =
        let old = bids.spelled n first (within n last) in
        (old.0, moved n last ∙ old.1, omega (arith, best, old.2))

    differ : (n m : ℕ) (bid next : BidRow) → 1 ≤ n → n ≤ other.bids → 1 ≤ m → m ≤ other.bids
        → bid_at after number n ≡ Some bid → bid_at after number m ≡ Some next → bid.amount ≡ next.amount → n ≡ m
    differ n m bid next n_first n_last m_first m_last n_is m_is amount =
        bids.differ n m bid next n_first (within n n_last) m_first (within m m_last) (sym (moved n n_last) ∙ n_is) (sym (moved m m_last) ∙ m_is) amount

    by_best : HasNoBid item ⊎ HasBest rows number item → HasNoBid other ⊎ HasBest after number other
    by_best (inl none) = inl (count ∙ none.0, best ∙ none.1, bidder ∙ none.2)
    by_best (inr has) =
        let last : has.n ≤ other.bids = let old = has.to_last in omega (arith, count, old) in
        inr (record { n = has.n; bid = has.bid; from_one = has.from_one; to_last = last; there = moved has.n last ∙ has.there; amount = best ∙ has.amount; bidder = bidder ∙ has.bidder })

-- an item that is the same among other rows, of as many items or more
pub item_moved : (rows after : List RowWrite) (number : ℕ) (item : ItemRow) → row_in after (item_id number) ≡ row_in rows (item_id number)
    → SameBids rows after number → item_count rows ≤ item_count after → IsCoherentItem rows number item → IsCoherentItem after number item
item_moved rows after number item same bids more known = record {
  there = ap (option_and_then item_of) same ∙ known.there;
  in_range = known.in_range;
  counted = let few = known.counted in omega (arith, few, more);
  bids = bids_moved rows after number item item refl refl refl bids known.bids;
}

-- the counter of items is spelled
abbrev pub HasCounter : List RowWrite → Type 0
HasCounter rows = IsSome (row_in rows items_counter) → (counter : CounterRow) × (row_at rows counter_of items_counter ≡ Some counter) × IsCounter counter

-- a counter that is the same
pub counter_moved : (rows after : List RowWrite) → row_in after items_counter ≡ row_in rows items_counter → HasCounter rows → HasCounter after
counter_moved rows after same has is =
    let old = has (subst IsThere same is) in
    (old.0, ap (option_and_then counter_of) same ∙ old.1, old.2)

-- as many items
pub count_moved : (rows after : List RowWrite) → row_in after items_counter ≡ row_in rows items_counter → item_count after ≡ item_count rows
count_moved rows after same = ap (λ (o : Option (List ℕ)). count_of (option_and_then counter_of o)) same

-- the id of a bid, by its key
abbrev pub bid_key : ℕ → RowId
bid_key key = record { table = BID_TABLE; key = key }

pub same_coherent : (rows after : List RowWrite) → AgreeOnItems rows after → IsCoherent rows → IsCoherent after
same_coherent rows after same coherent = record { items = items; bids = bids; counter = counter_moved rows after same.counter coherent.counter }
  where
    items : (number : ℕ) → IsSome (row_in after (item_id number)) → (item : ItemRow) × IsCoherentItem after number item
    items number is =
        let old = coherent.items number (subst IsThere (same.items number) is) in
        let more : item_count rows ≤ item_count after = let as_many = count_moved rows after same.counter in omega (arith, as_many) in
        (old.0, item_moved rows after number old.0 (same.items number) (λ n few. same.bids (number * 2 ^ 20 + n)) more old.1)

    bids : (key : ℕ) → IsSome (row_in after (bid_key key)) → key / 2 ^ 20 ≤ item_count after
    bids key is =
        let old = coherent.bids key (subst IsThere (same.bids key) is) in
        let as_many = count_moved rows after same.counter in
        omega (arith, as_many, old)

-- a row of the service's own table is none of another table
other_table : (w : RowWrite) (rows : List RowWrite) (id : RowId) → w.id.table ≡ SERVICE_TABLE → SERVICE_TABLE ≢ id.table
    → row_in (put w rows) id ≡ row_in rows id
other_table w rows id is apart =
    let other : (w.id.table == id.table) ≡ false = grind (arith, nat_tests) in
    row_in-put w rows id ∙ rw other refl

pub service_coherent : (rows : List RowWrite) (w : RowWrite) → w.id.table ≡ SERVICE_TABLE → IsCoherent rows → IsCoherent (put w rows)
service_coherent rows w is = same_coherent rows (put w rows) (record {
  items = λ n. other_table w rows (item_id n) is (omega arith);
  bids = λ key. other_table w rows (bid_key key) is (omega arith);
  counter = other_table w rows items_counter is (omega arith);
})

-- Rows after others are changed at one item, at its bids, and at the counter of items.
pub record ChangesAt (rows after : List RowWrite) (number : ℕ) : Type 0 where
  pub item : ItemRow
  pub coherent : IsCoherentItem after number item
  pub others : (n : ℕ) → n ≢ number → row_in after (item_id n) ≡ row_in rows (item_id n)
  pub other_bids : (n : ℕ) → n ≢ number → SameBids rows after n
  pub more : item_count rows ≤ item_count after
  pub bids : (key : ℕ) → IsSome (row_in after (bid_key key)) → key / 2 ^ 20 ≤ item_count after
  pub counter : HasCounter after

pub changed_coherent : (rows after : List RowWrite) (number : ℕ) → IsCoherent rows → ChangesAt rows after number → IsCoherent after
changed_coherent rows after number coherent changes = record { items = items; bids = changes.bids; counter = changes.counter }
  where
    by_number : (n : ℕ) (same : Bool) → (n == number) ≡ same → IsSome (row_in after (item_id n)) → (item : ItemRow) × IsCoherentItem after n item
    by_number n true same is =
        let one : number ≡ n = grind (arith, nat_tests) in
        subst (λ k. (item : ItemRow) × IsCoherentItem after k item) one (changes.item, changes.coherent)
    by_number n false other is =
        let apart : n ≢ number = grind (arith, nat_tests) in
        let old = coherent.items n (subst IsThere (changes.others n apart) is) in
        (old.0, item_moved rows after n old.0 (changes.others n apart) (changes.other_bids n apart) changes.more old.1)

    items : (n : ℕ) → IsSome (row_in after (item_id n)) → (item : ItemRow) × IsCoherentItem after n item
    items n is = by_number n (n == number) refl is
