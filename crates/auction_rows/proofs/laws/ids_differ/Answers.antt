use Rattle.std.proofs.Common.{◌≡◌, ℕ, ◌+◌, ◌*◌, ◌^◌, ◌<◌, ap, arith}
use Rattle.crash_base.specs.declared.row_id.RowId.{RowId}
use Rattle.auction_rows.proofs.laws.ids_differ.Goals as goal

key_of : RowId → ℕ
key_of id = id.key

short : (a n b m : ℕ) → n < 2 ^ 20 → m < 2 ^ 20 → a * 2 ^ 20 + n ≡ b * 2 ^ 20 + m → (a ≡ b) × (n ≡ m)
short a n b m p q e = (omega arith, omega arith)

long : (a n b m : ℕ) → n < 2 ^ 32 → m < 2 ^ 32 → a * 2 ^ 32 + n ≡ b * 2 ^ 32 + m → (a ≡ b) × (n ≡ m)
long a n b m p q e = (omega arith, omega arith)

pub returns-clause-bids : goal.returns-clause-bids
unfolding key_of
returns-clause-bids c = λ a n b m p q e. short a n b m p q (ap key_of e)

pub returns-clause-entries : goal.returns-clause-entries
unfolding key_of
returns-clause-entries c = λ a n b m p q e. long a n b m p q (ap key_of e)

pub returns-clause-feedback : goal.returns-clause-feedback
unfolding key_of
returns-clause-feedback c = λ a n b m p q e. short a n b m p q (ap key_of e)

pub returns-clause-own_items : goal.returns-clause-own_items
unfolding key_of
returns-clause-own_items c = λ a n b m p q e. long a n b m p q (ap key_of e)

far : (category k : ℕ) → k < 4 → 2 ^ 32 + category ≡ k → ⊥
far category k few e = omega arith

pub returns-clause-counters : goal.returns-clause-counters
unfolding key_of
returns-clause-counters c = λ category. (λ e. far category 1 (omega arith) (ap key_of e), λ e. far category 2 (omega arith) (ap key_of e), λ e. far category 3 (omega arith) (ap key_of e))

pub returns-clause-categories : goal.returns-clause-categories
unfolding key_of
returns-clause-categories c = λ a b e. let keys : 2 ^ 32 + a ≡ 2 ^ 32 + b = ap key_of e in omega arith
