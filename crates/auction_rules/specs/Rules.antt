-- The rules of the auction: when an action on an item is refused, and why.
use Rattle.std.specs.Prelude.{◌≡◌, ◌≢◌, ◌⊎◌, ℕ, ◌<◌, ◌≤◌, ◌==◌, ◌&&◌, ◌||◌, nat_lt, nat_le, not, Bool, true, false, if◌then◌else◌, [], ◌∷◌, Option}
use Rattle.crash_base.specs.Refusals.{first_of, only_if}
use Rattle.auction_rows.specs.declared.rows.ItemRow.{ItemRow}
use Rattle.auction_rows.specs.declared.rows.ItemState.{ItemState}
use Rattle.auction_rows.specs.declared.rows.ItemState.TheVariants.{Running, Closed, Sold}
use Rattle.auction_rules.specs.declared.refusal.RuleRefusal.{RuleRefusal}
use Rattle.auction_rules.specs.declared.refusal.RuleRefusal.TheVariants.{AuctionOver, OwnItem, BidTooLow, NotForSale, NotSold, NotAllowed, AlreadyGiven}

-- whether this is the state of an item that is neither closed nor sold
abbrev pub is_open : ItemState → Bool
is_open Running = true
is_open Closed = false
is_open Sold = false

-- whether this is the state of a sold item
abbrev pub is_sold : ItemState → Bool
is_sold Running = false
is_sold Closed = false
is_sold Sold = true

-- An item is running: its state is Running, and its auction has not ended.
abbrev pub is_running : ItemRow → ℕ → Bool
is_running item now = is_open item.state && nat_lt now item.ends.0

-- A bid is too low: its amount is not above the best, or it is below the start.
abbrev pub is_too_low : ItemRow → ℕ → Bool
is_too_low item amount = nat_le amount item.best || nat_lt amount item.start

-- An item is not sold at once: it has no price for that, or the best bid has come to it.
abbrev pub is_not_for_sale : ItemRow → Bool
is_not_for_sale item = (item.buy_now == 0) || nat_le item.buy_now item.best

-- whether a user is on a side of a sale
abbrev pub is_on_a_side : ItemRow → ℕ → Bool
is_on_a_side item user = (item.buyer == user) || (item.seller == user)

-- The other side of a sale: the seller for the buyer, and the buyer for the seller. Who is both
-- counts as the buyer.
abbrev pub other_side : ItemRow → ℕ → ℕ
other_side item user = if item.buyer == user then item.seller else item.buyer

-- Whether a side of a sale has given its feedback. Who is both counts as the buyer.
abbrev pub has_given : ItemRow → ℕ → Bool
has_given item user = if item.buyer == user then item.given.by_buyer else item.given.by_seller

-- why a bid of a user is refused: of an item, a user, an amount and a moment
abbrev pub bid_refusal : ItemRow → ℕ → ℕ → ℕ → Option RuleRefusal
bid_refusal item user amount now =
    first_of (only_if (not (is_running item now)) AuctionOver
    ∷ only_if (item.seller == user) OwnItem
    ∷ only_if (is_too_low item amount) BidTooLow ∷ [])

-- why it is refused that a user buys an item at once, at a moment
abbrev pub buy_refusal : ItemRow → ℕ → ℕ → Option RuleRefusal
buy_refusal item user now =
    first_of (only_if (not (is_running item now)) AuctionOver
    ∷ only_if (item.seller == user) OwnItem
    ∷ only_if (is_not_for_sale item) NotForSale ∷ [])

-- why it is refused that a user closes an item
abbrev pub close_refusal : ItemRow → ℕ → Option RuleRefusal
close_refusal item user =
    first_of (only_if (not (item.seller == user)) NotAllowed
    ∷ only_if (not (is_open item.state)) AuctionOver ∷ [])

-- why a user's feedback on a sale is refused
abbrev pub feedback_refusal : ItemRow → ℕ → Option RuleRefusal
feedback_refusal item user =
    first_of (only_if (not (is_sold item.state)) NotSold
    ∷ only_if (not (is_on_a_side item user)) NotAllowed
    ∷ only_if (has_given item user) AlreadyGiven ∷ [])

-- an item is running
pub record IsRunning (item : ItemRow) (now : ℕ) : Type 0 where
  pub is_open : item.state ≡ Running
  pub before : now < item.ends.0

-- An amount is bid too low: no more than the best, or less than the start.
abbrev pub IsTooLow : ItemRow → ℕ → Type 0
IsTooLow item amount = (amount ≤ item.best) ⊎ (amount < item.start)

-- An item is not sold at once: for no price, or for one that the best bid has come to.
abbrev pub IsNotForSale : ItemRow → Type 0
IsNotForSale item = (item.buy_now ≡ 0) ⊎ (item.buy_now ≤ item.best)

-- a user is the seller or the buyer
abbrev pub IsOnASide : ItemRow → ℕ → Type 0
IsOnASide item user = (item.seller ≡ user) ⊎ (item.buyer ≡ user)

-- The user's own mark is set: the buyer's for the buyer, and the seller's for a seller who is not.
abbrev pub HasGiven : ItemRow → ℕ → Type 0
HasGiven item user =
    ((item.buyer ≡ user) × (item.given.by_buyer ≡ true))
    ⊎ ((item.buyer ≢ user) × (item.given.by_seller ≡ true))
