-- The laws of rows of any table.
use Rattle.std.proofs.Common.{◌≡◌, ◌↔◌, ℕ, ◌==◌, Bool, true, false, cond, List, Option, Some, None, refl, ap, subst, ◌∙◌, arith}
use Rattle.std.specs.Option.{option_map}
use Rattle.std.proofs.lemmas.Bool.Decides.{nat_tests}
use Rattle.auction_rows.specs.declared.rows.AuctionRow.{AuctionRow}
use Rattle.auction_rows.specs.declared.rows.AuctionRow.TheVariants as row
use Rattle.auction_rows.specs.declared.rows.TheConstants.{USER_TABLE, NAME_TABLE, COUNTER_TABLE, ITEM_TABLE, CATEGORY_TABLE, BID_TABLE, ENTRY_TABLE, FEEDBACK_TABLE, OWN_ITEM_TABLE}
use Rattle.auction_rows.specs.Bounds.{AreBytes, IsRow, Spells}
use Rattle.auction_rows.specs.Reading.{row_of}
use Rattle.auction_rows.specs.Spelling.{row_bytes, table_of}
use Rattle.auction_rows.proofs.Exact.{IsExactRow}
use Rattle.auction_rows.proofs.ExactRows.{user_exact, name_exact, counter_exact, item_exact, category_exact, bid_exact, entry_exact, feedback_exact, own_item_exact}

-- what a row that is there was made of
made_of : {A : Type 0} (make : A → AuctionRow) (o : Option A) (r : AuctionRow) → option_map make o ≡ Some r → (x : A) × (o ≡ Some x) × (make x ≡ r)
made_of make None r e = cc
made_of make (Some x) r e = (x, refl, cc)

-- a kind of rows
record IsKind {A : Type 0} (tag : ℕ) (make : A → AuctionRow) (spell : A → List ℕ) (IsIn : A → Type 0) : Type 0 where
  table_is : (x : A) → tag ≡ table_of (make x)
  in_range : (x : A) → IsIn x → IsRow (make x)
  bytes_are : (x : A) → spell x ≡ row_bytes (make x)

-- one kind more
kind : {A : Type 0} {read : List ℕ → Option A} {spell : A → List ℕ} {IsIn : A → Type 0} (tag : ℕ) (make : A → AuctionRow) → IsKind tag make spell IsIn → IsExactRow read spell IsIn → (table : ℕ) (bytes : List ℕ) (r : AuctionRow) (later : Option AuctionRow) → AreBytes bytes → (later ≡ Some r → Spells table bytes r) → cond (table == tag) (option_map make (read bytes)) later ≡ Some r → Spells table bytes r
kind {A} {read} {spell} {IsIn} tag make k exact table bytes r later are next e = go (table == tag) refl e
  where
    go : (b : Bool) → (table == tag) ≡ b → cond b (option_map make (read bytes)) later ≡ Some r → Spells table bytes r
    go false t e = next e
    go true t e =
        let same : table ≡ tag = grind (arith, nat_tests) in
        let (x, xe, re) = made_of make (read bytes) r e in
        let s = exact.takes bytes x are xe in
        subst (Spells table bytes) re (record { table_is = same ∙ k.table_is x; in_range = k.in_range x s.0; bytes_are = s.1 ∙ k.bytes_are x })

pub row_spelled : (table : ℕ) (bytes : List ℕ) (r : AuctionRow) → AreBytes bytes → row_of table bytes ≡ Some r → Spells table bytes r
unfolding row_of
row_spelled table bytes r are e =
    kind USER_TABLE row.User (record { table_is = λ x. refl; in_range = λ x h. h; bytes_are = λ x. refl }) user_exact table bytes r _ are (
    kind NAME_TABLE row.Name (record { table_is = λ x. refl; in_range = λ x h. h; bytes_are = λ x. refl }) name_exact table bytes r _ are (
    kind COUNTER_TABLE row.Counter (record { table_is = λ x. refl; in_range = λ x h. h; bytes_are = λ x. refl }) counter_exact table bytes r _ are (
    kind ITEM_TABLE row.Item (record { table_is = λ x. refl; in_range = λ x h. h; bytes_are = λ x. refl }) item_exact table bytes r _ are (
    kind CATEGORY_TABLE row.Category (record { table_is = λ x. refl; in_range = λ x h. h; bytes_are = λ x. refl }) category_exact table bytes r _ are (
    kind BID_TABLE row.Bid (record { table_is = λ x. refl; in_range = λ x h. h; bytes_are = λ x. refl }) bid_exact table bytes r _ are (
    kind ENTRY_TABLE row.Entry (record { table_is = λ x. refl; in_range = λ x h. h; bytes_are = λ x. refl }) entry_exact table bytes r _ are (
    kind FEEDBACK_TABLE row.Feedback (record { table_is = λ x. refl; in_range = λ x h. h; bytes_are = λ x. refl }) feedback_exact table bytes r _ are (
    kind OWN_ITEM_TABLE row.OwnItem (record { table_is = λ x. refl; in_range = λ x h. h; bytes_are = λ x. refl }) own_item_exact table bytes r None are (λ n. cc))))))))) e

pub row_again : (r : AuctionRow) → IsRow r → row_of (table_of r) (row_bytes r) ≡ Some r
unfolding row_of
row_again (row.User x) h = ap (option_map row.User) (user_exact.again x h)
row_again (row.Name x) h = ap (option_map row.Name) (name_exact.again x h)
row_again (row.Counter x) h = ap (option_map row.Counter) (counter_exact.again x h)
row_again (row.Item x) h = ap (option_map row.Item) (item_exact.again x h)
row_again (row.Category x) h = ap (option_map row.Category) (category_exact.again x h)
row_again (row.Bid x) h = ap (option_map row.Bid) (bid_exact.again x h)
row_again (row.Entry x) h = ap (option_map row.Entry) (entry_exact.again x h)
row_again (row.Feedback x) h = ap (option_map row.Feedback) (feedback_exact.again x h)
row_again (row.OwnItem x) h = ap (option_map row.OwnItem) (own_item_exact.again x h)

-- what spells a row is read as it
pub spelled_read : (table : ℕ) (bytes : List ℕ) (r : AuctionRow) → Spells table bytes r → row_of table bytes ≡ Some r
spelled_read table bytes r s = ap (λ t. row_of t bytes) s.table_is ∙ ap (row_of (table_of r)) s.bytes_are ∙ row_again r s.in_range

-- where bytes spell no row
pub none_spelled : (table : ℕ) (bytes : List ℕ) → AreBytes bytes → (row_of table bytes ≡ None) ↔ ((r : AuctionRow) → Spells table bytes r → ⊥)
none_spelled table bytes are =
    let go : (o : Option AuctionRow) → row_of table bytes ≡ o → ((r : AuctionRow) → Spells table bytes r → ⊥) → o ≡ None = elim [
      | None ↦ λ e h. refl
      | Some r ↦ λ e h. absurd (h r (row_spelled table bytes r are e))
    ] in
    (λ e r s. let back = spelled_read table bytes r s in cc, go (row_of table bytes) refl)
