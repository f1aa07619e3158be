-- The laws by which requests are ordered, and what is known of an order.
use Rattle.std.proofs.Common.{◌≡◌, ◌↔◌, ℕ, true, List, subst}
use Rattle.auction_calls.specs.Calls.{is_action}
use Rattle.http_wire.specs.declared.taken.Head.{Head}
use Rattle.request_decisions.specs.Decisions.{IsDecided, IsOrdered}
use Rattle.request_decisions.specs.declared.decision.Decision.TheVariants as decided
use Rattle.request_decisions.specs.declared.decision.Order.{Order}
use Rattle.shepherd_steps.specs.Deciding.{ReadRightly, Readings, decided_by}
use Rattle.seat_steps.proofs.Functions.{CookieLaw, NoneLaw, TokenLaw, reads-rightly}
use Rattle.seat_steps.specs.Seats.{readings_under}

pub record OrderLaws : Type 0 where
  pub rightly : (key : List ℕ) → ReadRightly key (readings_under key)
  pub decides : (key : List ℕ) (readings : Readings) (boot : ℕ) (head : Head) → ReadRightly key readings → IsDecided key boot head (decided_by readings boot head)
  pub in_range : (key : List ℕ) (boot : ℕ) (head : Head) (o : Order) → IsDecided key boot head (decided.Ordered o) → is_action o.action ≡ true
  pub exact : (key : List ℕ) (boot : ℕ) (head : Head) (o : Order) → IsDecided key boot head (decided.Ordered o) → IsOrdered key boot head o

-- the same, from the laws that tell them
pub order-laws : CookieLaw → NoneLaw → TokenLaw → ((key : List ℕ) (readings : Readings) (boot : ℕ) (head : Head) → ReadRightly key readings → IsDecided key boot head (decided_by readings boot head))
    → ((key : List ℕ) (boot : ℕ) (head : Head) (o : Order) → IsDecided key boot head (decided.Ordered o) → is_action o.action ≡ true)
    → ((key : List ℕ) (boot : ℕ) (head : Head) (o : Order) → IsDecided key boot head (decided.Ordered o) ↔ IsOrdered key boot head o) → OrderLaws
order-laws cookie none token decides in_range exact = record {
  rightly = reads-rightly cookie none token;
  decides = decides;
  in_range = in_range;
  exact = λ key boot head o ordered. (exact key boot head o).0 ordered;
}

-- an order is decided so
pub order-decided : OrderLaws → (key : List ℕ) (boot : ℕ) (head : Head) (o : Order) → decided_by (readings_under key) boot head ≡ decided.Ordered o → IsDecided key boot head (decided.Ordered o)
order-decided laws key boot head o is = subst (IsDecided key boot head) is (laws.decides key (readings_under key) boot head (laws.rightly key))
