-- Over coherent rows the site answers that a bid is too low exactly where some bid is of no less, or the start is more.
use Rattle.std.proofs.Common.{◌≡◌, ◌≢◌, ◌↔◌, ℕ, ◌==◌, ◌≤◌, nat_le, Bool, true, false, List, length, Option, Some, None, Ok, Err, refl, ap, arith}
use Rattle.crash_base.specs.declared.row_id.RowId.{RowId}
use Rattle.crash_base.specs.declared.rows.RowWrite.{RowWrite}
use Rattle.crash_base.specs.Rows.{row_in}
use Rattle.journal_model.specs.declared.entry.DoneText.{DoneText}
use Rattle.page_text.specs.Escapes.{escaped}
use Rattle.page_text.specs.Pages.{page_bytes, title_bytes, heading_bytes}
use Rattle.auction_rows.specs.declared.rows.ItemRow.{ItemRow}
use Rattle.auction_rows.specs.Ids.{item_id}
use Rattle.auction_rows.specs.Reading.{item_of}
use Rattle.auction_rules.specs.declared.refusal.RuleRefusal.{RuleRefusal}
use Rattle.auction_rules.specs.declared.refusal.RuleRefusal.TheVariants.{AuctionOver, OwnItem, BidTooLow, NotForSale, NotSold, NotAllowed, AlreadyGiven}
use Rattle.auction_rules.specs.Rules.{bid_refusal, is_running, IsRunning, IsTooLow}
use Rattle.auction_site.specs.declared.limits.TheConstants.{LAST_BID}
use Rattle.auction_site.specs.Answers.{bad_row, sign_in_first, not_there, no_more_numbers, rule_answer}
use Rattle.auction_site.specs.Coherent.{row_at, IsCoherent, IsTooLowFor}
use Rattle.auction_site.specs.Found.{Found, and_then, refused_if, refused_by, spelled, spelled_or, the_row}
use Rattle.auction_site.specs.Rules.{bid}
use Rattle.auction_site.specs.Accepted.{BidsTooLow}
use Rattle.auction_site.proofs.Exactly.{is_zero_not, is_not_zero}
use Rattle.auction_site.proofs.Finding.{if_found, row_found}
use Rattle.auction_site.proofs.LowBids.{low_bids}
use Rattle.auction_site.proofs.Accepting.{then_found, then_refused, if_passes, row_is_found}

-- the answer that a bid is too low
abbrev low_answer : DoneText
low_answer = rule_answer BidTooLow

-- what is refused is refused at once, or later by what was found
refuses : {A B : Type 0} (found : Found A) (g : A → Found B) (done : DoneText) (G : Type 0) → and_then found g ≡ Err done
    → (found ≡ Err done → G) → ((x : A) → found ≡ Ok x → g x ≡ Err done → G) → G
refuses (Ok x) g done G is here later = later x refl is
refuses (Err other) g done G is here later = here cc

-- two answers of one status and one size of page
same_status : (a b : DoneText) → a ≡ b → a.status ≡ b.status
same_status a b is = ap (λ (d : DoneText). d.status) is

same_size : (a b : DoneText) → a ≡ b → length a.page ≡ length b.page
same_size a b is = ap (λ (d : DoneText). length d.page) is

-- only one of the rules' answers is this one
only_too_low : (refusal : RuleRefusal) → rule_answer refusal ≡ low_answer → refusal ≡ BidTooLow
unfolding page_bytes title_bytes heading_bytes escaped
only_too_low AuctionOver is = let size = same_size (rule_answer AuctionOver) low_answer is in absurd (omega (arith, size))
only_too_low OwnItem is = let size = same_size (rule_answer OwnItem) low_answer is in absurd (omega (arith, size))
only_too_low BidTooLow is = refl
only_too_low NotForSale is = let size = same_size (rule_answer NotForSale) low_answer is in absurd (omega (arith, size))
only_too_low NotSold is = let size = same_size (rule_answer NotSold) low_answer is in absurd (omega (arith, size))
only_too_low NotAllowed is = let status = same_status (rule_answer NotAllowed) low_answer is in absurd (omega (arith, status))
only_too_low AlreadyGiven is = let size = same_size (rule_answer AlreadyGiven) low_answer is in absurd (omega (arith, size))

not_numbers : no_more_numbers ≢ low_answer
unfolding page_bytes title_bytes heading_bytes escaped
not_numbers = λ is. let size = same_size no_more_numbers low_answer is in absurd (omega (arith, size))

not_signed : sign_in_first ≢ low_answer
not_signed = λ is. let status = same_status sign_in_first low_answer is in absurd (omega (arith, status))

not_missing : not_there ≢ low_answer
not_missing = λ is. let status = same_status not_there low_answer is in absurd (omega (arith, status))

not_bad : (id : RowId) → bad_row id ≢ low_answer
not_bad id = λ is. let status = same_status (bad_row id) low_answer is in absurd (omega (arith, status))

-- a test that refuses does so with its answer
if_refused : (test : Bool) (done other : DoneText) → refused_if test done ≡ Err other → done ≡ other
if_refused true done other is = cc
if_refused false done other is = absurd (cc)

by_refused : (refusal : Option RuleRefusal) → refused_by refusal ≡ Err low_answer → refusal ≡ Some BidTooLow
by_refused None is = absurd (cc)
by_refused (Some refusal) is = ap Some (only_too_low refusal (answers (rule_answer refusal) low_answer is))
  where
    answers : (a b : DoneText) → refused_if true a ≡ Err b → a ≡ b
    answers a b e = cc

by_low : (refusal : Option RuleRefusal) → refusal ≡ Some BidTooLow → refused_by refusal ≡ Err low_answer
by_low refusal is = ap refused_by is

-- an answer that refuses a row is this one
row_refused : (a b : DoneText) (row : Found ItemRow) → row ≡ Err a → row ≡ Err b → a ≡ b
row_refused a b row one other = cc

-- a missing row is not answered so
row_not_refused : (id : RowId) (bytes : Option (List ℕ)) → spelled_or item_of id not_there bytes ≢ Err low_answer
row_not_refused id None = λ is. not_missing (row_refused not_there low_answer (spelled_or item_of id not_there None) refl is)
row_not_refused id (Some bytes) = by_row (item_of bytes)
  where
    by_row : (row : Option ItemRow) → spelled id row ≢ Err low_answer
    by_row None = λ is. not_bad id (row_refused (bad_row id) low_answer (spelled id None) refl is)
    by_row (Some row) = λ is. absurd (cc)

-- when a bid is refused as too low
abbrev LowRule : Type 0
LowRule = (item : ItemRow) (user amount now : ℕ)
    → (bid_refusal item user amount now ≡ Some BidTooLow) ↔ (IsRunning item now × (item.seller ≢ user) × IsTooLow item amount)

-- when an item is running
abbrev RunningRule : Type 0
RunningRule = (item : ItemRow) (now : ℕ) → (is_running item now ≡ true) ↔ IsRunning item now

pub answers_too_low : LowRule → RunningRule → (rows : List RowWrite) (user now number amount : ℕ) → IsCoherent rows → 1 ≤ amount
    → (bid user now number amount rows ≡ Err (rule_answer BidTooLow)) ↔ ((item : ItemRow) × BidsTooLow rows user now number amount item)
unfolding bid
answers_too_low low_rule running_rule rows user now number amount coherent some = (to, from)
  where
    low_of : (item : ItemRow) → row_at rows item_of (item_id number) ≡ Some item → IsRunning item now → item.seller ≢ user
        → (bid_refusal item user amount now ≡ Some BidTooLow) ↔ IsTooLowFor rows number item amount
    low_of item there running other = low_bids rows number user amount now item coherent there ((running_rule item now).1 running) other some

    refused : user ≢ 0 → (item : ItemRow) → row_at rows item_of (item_id number) ≡ Some item → bid_refusal item user amount now ≡ Some BidTooLow
        → BidsTooLow rows user now number amount item
    refused signed item there is =
        let known = (low_rule item user amount now).0 is in
        record { signed = signed; there = there; running = known.0; other = known.1; low = (low_of item there known.0 known.1).0 is }

    to : bid user now number amount rows ≡ Err (rule_answer BidTooLow) → (item : ItemRow) × BidsTooLow rows user now number amount item
    to is =
        let G : Type 0 = (item : ItemRow) × BidsTooLow rows user now number amount item in
        refuses (refused_if (user == 0) sign_in_first) _ low_answer G is
        (λ e. absurd (not_signed (if_refused (user == 0) sign_in_first low_answer e))) (λ signed f1 e1.
        refuses (the_row rows item_of (item_id number)) _ low_answer G e1
        (λ e. absurd (row_not_refused (item_id number) (row_in rows (item_id number)) e)) (λ item f2 e2.
        refuses (refused_by (bid_refusal item user amount now)) _ low_answer G e2
        (λ e. (
          item,
          refused (is_not_zero user (if_found (user == 0) sign_in_first signed f1)) item (row_found rows item_of (item_id number) not_there item f2)
              (by_refused (bid_refusal item user amount now) e),
        )) (λ allowed f3 e3.
        refuses (refused_if (nat_le LAST_BID item.bids) no_more_numbers) _ low_answer G e3
        (λ e. absurd (not_numbers (if_refused (nat_le LAST_BID item.bids) no_more_numbers low_answer e))) (λ numbered f4 e4. absurd (cc)))))

    from : ((item : ItemRow) × BidsTooLow rows user now number amount item) → bid user now number amount rows ≡ Err (rule_answer BidTooLow)
    from all =
        let item : ItemRow = all.0 in
        let low = all.1 in
        let none : bid_refusal item user amount now ≡ Some BidTooLow = (low_of item low.there low.running low.other).1 low.low in
        then_found (refused_if (user == 0) sign_in_first) _ tt (Err low_answer) (if_passes (user == 0) sign_in_first (is_zero_not user low.signed)) (
        then_found (the_row rows item_of (item_id number)) _ item (Err low_answer) (row_is_found rows item_of (item_id number) not_there item low.there) (
        then_refused (refused_by (bid_refusal item user amount now)) _ low_answer (by_low (bid_refusal item user amount now) none)))
