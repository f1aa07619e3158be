-- A request that is ordered is admitted, while serial numbers are left.
use Rattle.std.proofs.Common.{arith, ◌≡◌, ◌<◌, ℕ, List, Option, refl, subst}
use Rattle.http_wire.specs.declared.taken.Head.{Head}
use Rattle.outside.specs.declared.serials.TheConstants.{SERIALS_END}
use Rattle.request_decisions.specs.Decisions.{IsDecided}
use Rattle.request_decisions.specs.declared.decision.Decision.{Decision}
use Rattle.request_decisions.specs.declared.decision.Decision.TheVariants as decided
use Rattle.request_decisions.specs.declared.decision.Order.{Order}
use Rattle.crash_base.specs.declared.numbers.RequestNo.{RequestNo}
use Rattle.request_intake.specs.Intakes.{Gives, Looks, TakesIn, TakesInBy, TakesInOrder}
use Rattle.request_intake.specs.declared.intake.Admission.{Admission}
use Rattle.request_intake.specs.declared.intake.Arrival.{Arrival}
use Rattle.request_intake.specs.declared.intake.Arrival.TheVariants.{Refused, SerialsSpent, Admitted}
use Rattle.request_intake.specs.declared.intake.HomeBoot.{HomeBoot}
use Rattle.request_intake.specs.declared.intake.Intake.{Intake}

-- the law that a request has one decision
abbrev pub DecidedOnce : Type 0
DecidedOnce = (key : List ℕ) (boot : ℕ) (head : Head) (decision other : Decision) → IsDecided key boot head decision → IsDecided key boot head other → decision ≡ other

module _ {R S : Type 0} (gives : Gives R) (looks : Looks S) where
  by_arrival : (key : List ℕ) (home : HomeBoot) (o : Order) (i : Intake) (random random_after : R) (serials serials_after : S) (arrival : Arrival) → i.arrival ≡ arrival
      → ((request : Option RequestNo) (seen : ℕ) → arrival ≡ SerialsSpent request seen → seen < SERIALS_END)
      → TakesInOrder gives looks key home o i.now random serials i.drawn arrival random_after serials_after → (a : Admission) × (arrival ≡ Admitted a)
  by_arrival key home o i random random_after serials serials_after (Refused why) is left takes = absurd takes
  by_arrival key home o i random random_after serials serials_after (SerialsSpent request seen) is left takes =
      let few = left request seen refl in
      let past = takes.0.past in
      absurd (omega (arith, few, past))
  by_arrival key home o i random random_after serials serials_after (Admitted a) is left takes = (a, refl)

  -- an order is taken in so
  pub is_admitted : (law : DecidedOnce) (key : List ℕ) (home : HomeBoot) (head : Head) (random random_after : R) (serials serials_after : S) (i : Intake) (o : Order)
      → TakesIn gives looks key home head random serials i random_after serials_after → IsDecided key home.boot head (decided.Ordered o)
      → ((request : Option RequestNo) (seen : ℕ) → i.arrival ≡ SerialsSpent request seen → seen < SERIALS_END) → (a : Admission) × (i.arrival ≡ Admitted a)
  is_admitted law key home head random random_after serials serials_after i o takes ordered left =
      let same = law key home.boot head takes.decision (decided.Ordered o) takes.decided ordered in
      by_arrival key home o i random random_after serials serials_after i.arrival refl left
      (subst (λ (d : Decision). TakesInBy gives looks key home d random serials i random_after serials_after) same takes.follows)
