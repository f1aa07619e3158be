-- The states of items and the feedback that was given are exact fields.
use Rattle.std.proofs.Common.{◌≡◌, ℕ, zero, suc, Bool, true, false, Some, refl, ap, arith}
use Rattle.std.proofs.lemmas.Grind.{common_steps}
use Rattle.byte_fields.specs.Reading.{byte_as}
use Rattle.byte_fields.specs.Spelling.{u8_bytes}
use Rattle.byte_fields.proofs.Exact.{IsExact}
use Rattle.byte_fields.proofs.ExactFields.{byte_exact}
use Rattle.auction_rows.specs.declared.rows.GivenFeedback.{GivenFeedback}
use Rattle.auction_rows.specs.declared.rows.ItemState.{ItemState}
use Rattle.auction_rows.specs.declared.rows.ItemState.TheVariants.{Running, Closed, Sold}
use Rattle.auction_rows.specs.Reading.{state_of, given_of}
use Rattle.auction_rows.specs.Spelling.{state_number, given_number}

pub state_exact : IsExact (byte_as state_of) (λ x. u8_bytes (state_number x)) (λ x. Unit {0})
state_exact = byte_exact state_of state_number from back
  where
    from : (n : ℕ) (x : ItemState) → state_of n ≡ Some x → n ≡ state_number x
    from zero x e = let same : Running ≡ x = cc in ap state_number same
    from (suc zero) x e = let same : Closed ≡ x = cc in ap state_number same
    from (suc (suc zero)) x e = let same : Sold ≡ x = cc in ap state_number same
    from (suc (suc (suc n))) x e = absurd (grind (arith, common_steps))

    back : (x : ItemState) → state_of (state_number x) ≡ Some x
    back Running = refl
    back Closed = refl
    back Sold = refl

given : Bool → Bool → GivenFeedback
given by_buyer by_seller = record { by_buyer = by_buyer; by_seller = by_seller }

pub given_exact : IsExact (byte_as given_of) (λ x. u8_bytes (given_number x)) (λ x. Unit {0})
unfolding given
given_exact = byte_exact given_of given_number from (λ x. back x.by_buyer x.by_seller)
  where
    from : (n : ℕ) (x : GivenFeedback) → given_of n ≡ Some x → n ≡ given_number x
    from zero x e = let same : given false false ≡ x = cc in ap given_number same
    from (suc zero) x e = let same : given true false ≡ x = cc in ap given_number same
    from (suc (suc zero)) x e = let same : given false true ≡ x = cc in ap given_number same
    from (suc (suc (suc zero))) x e = let same : given true true ≡ x = cc in ap given_number same
    from (suc (suc (suc (suc n)))) x e = absurd (grind (arith, common_steps))

    back : (b s : Bool) → given_of (given_number (given b s)) ≡ Some (given b s)
    back false false = refl
    back true false = refl
    back false true = refl
    back true true = refl
