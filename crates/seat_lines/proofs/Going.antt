-- Connections that go on.
use Rattle.std.proofs.Common.{◌≡◌, ℕ, ◌+◌, ◌-◌, ◌≤◌, inl, inr, List, [], ◌∷◌, ◌++◌, suc, length, Option, Some, None, subst, sym, ap, ◌∙◌, arith, length-append}
use Rattle.std.specs.Prelude.{replicate, slice_set, All}
use Rattle.std.proofs.lemmas.Bool.{cases_lt}
use Rattle.std.proofs.lemmas.List.{append_assoc, get_or_past}
use Rattle.std.proofs.lemmas.List.Elements.{All-append, All-replicate, All-set, All-weaker}
use Rattle.auction_calls.specs.declared.action.ActionCall.{ActionCall}
use Rattle.container_core.specs.Container.{ContainerValue}
use Rattle.shepherd.specs.declared.shepherd.Shepherd.{Shepherd}
use Rattle.seat_steps.specs.Going.{GoesOnAtSeat}
use Rattle.seat_steps.specs.declared.seat.Seat.{Seat}
use Rattle.seat_lines.specs.Site.{IsGoingIn, padded, seat_at}

pub going_set : (container : ContainerValue) (seats : List (Option Seat)) (n : ℕ) (seat : Option Seat) → IsGoingIn container seat → All (IsGoingIn container) seats → All (IsGoingIn container) (slice_set seats n seat)
going_set container seats n seat goes all = All-set (IsGoingIn container) seats n seat goes all

pub going_at : (container : ContainerValue) (seats : List (Option Seat)) (n : ℕ) → All (IsGoingIn container) seats → IsGoingIn container (seat_at seats n)
going_at container seats n all = elim (cases_lt n (length seats)) [
  | inl within ↦ all n None within
  | inr past ↦ (let P : Option Seat → Type 0 = λ x. IsGoingIn container x in subst P (sym (get_or_past seats n None past)) tt)
]

pub going_more : (container : ContainerValue) (seats : List (Option Seat)) → All (IsGoingIn container) seats → All (IsGoingIn container) (seats ++ None ∷ [])
going_more container seats all = All-append (IsGoingIn container) seats (replicate 1 None) all (All-replicate (IsGoingIn container) 1 None tt)

-- a place for the next number changes nothing of the connections with a place for each
pub padded_more : (seats : List (Option Seat)) (n : ℕ) → length seats ≤ n → padded (seats ++ None ∷ []) n ≡ padded seats n
padded_more seats n below =
    let rest : ℕ → List (Option Seat) = λ k. replicate k None in
    let now : n + 1 - length (seats ++ None ∷ []) ≡ n - length seats = omega (arith, length-append seats (None ∷ []), below) in
    let before : suc (n - length seats) ≡ n + 1 - length seats = omega (arith, below) in
    ap (λ k. (seats ++ None ∷ []) ++ rest k) now ∙ append_assoc seats (None ∷ []) (rest (n - length seats)) ∙ ap (λ k. seats ++ rest k) before

-- connections go on where each does that went on
pub going_meanwhile : (old new : ContainerValue) → ((s : Shepherd ActionCall) → GoesOnAtSeat old s → GoesOnAtSeat new s) → (seats : List (Option Seat)) → All (IsGoingIn old) seats → All (IsGoingIn new) seats
going_meanwhile old new each seats all = All-weaker (IsGoingIn old) (IsGoingIn new) (λ x. go x) seats all
  where
    go : (x : Option Seat) → IsGoingIn old x → IsGoingIn new x
    go None goes = tt
    go (Some seat) goes = each seat.connection goes
