-- How the asks of a read stand that has answered.
use Rattle.std.proofs.Common.{◌≡◌, ℕ, true, false, List, Option, Some, None, refl, sym, ap, ◌∙◌}
use Rattle.std.specs.Prelude.{slice_get, position}
use Rattle.std.specs.Option.{option_and_then}
use Rattle.session_cookie.specs.declared.cookie.Holder.{Holder}
use Rattle.ssm_stub.specs.declared.ask.Ask.{Ask}
use Rattle.ssm_stub.specs.declared.ear.Outcome.{Outcome}
use Rattle.ssm_stub.specs.declared.ear.Outcome.TheVariants as outcome
use Rattle.ssm_stub.specs.declared.ear.Ear.{Ear}
use Rattle.ssm_stub.specs.declared.ear.Ear.TheVariants.{Open, Heard}
use Rattle.ssm_stub.specs.declared.reply.ReadReply.{ReadReply}
use Rattle.ssm_stub.specs.declared.reply.ReadReply.TheVariants as get
use Rattle.ssm_stub.specs.Turns.{is_open, turn_at, turn_with, turn_in_order}
use Rattle.ssm_stub.specs.Reads.{value_by, value_of, is_found, found_in}
use Rattle.ssm_world.proofs.Positions.{Passes, position_passes, position_none}

-- a value that was found is in what was heard of one that was asked
pub record FoundAt (asks : List (Ask Holder ReadReply)) (value : List ℕ) : Type 0 where
  pub place : ℕ
  pub ask : Ask Holder ReadReply
  pub there : slice_get asks place ≡ Some ask
  pub ear_is : ask.ear ≡ Heard (outcome.Answered (get.Found value))

value_ear : (ear : Ear ReadReply) (value : List ℕ) → value_by ear ≡ Some value → ear ≡ Heard (outcome.Answered (get.Found value))
value_ear (Open stage) value is = absurd (cc)
value_ear (Heard outcome.Silent) value is = absurd (cc)
value_ear (Heard outcome.Strayed) value is = absurd (cc)
value_ear (Heard (outcome.Answered (get.Crashed i))) value is = absurd (cc)
value_ear (Heard (outcome.Answered (get.Swept m))) value is = absurd (cc)
value_ear (Heard (outcome.Answered (get.Found x))) value is = let same : x ≡ value = cc in ap (λ v. Heard (outcome.Answered (get.Found v))) same

pub found_at : (asks : List (Ask Holder ReadReply)) (value : List ℕ) → found_in asks ≡ Some value → FoundAt asks value
found_at asks value is = go (position is_found asks) is
  where
    look : (at : ℕ) (o : Option (Ask Holder ReadReply)) → slice_get asks at ≡ o → option_and_then value_of o ≡ Some value → FoundAt asks value
    look at None there e = absurd (cc)
    look at (Some ask) there e = record { place = at; ask = ask; there = there; ear_is = value_ear ask.ear value e }

    go : (o : Option ℕ) → option_and_then (λ at. option_and_then value_of (slice_get asks at)) o ≡ Some value → FoundAt asks value
    go None e = absurd (cc)
    go (Some at) e = look at (slice_get asks at) refl e

unfound_value : (ask : Ask Holder ReadReply) → is_found ask ≡ false → value_of ask ≡ None
unfound_value ask is = go (value_of ask) is
  where
    go : (o : Option (List ℕ)) → elim o [ None ↦ false | Some value ↦ true ] ≡ false → o ≡ None
    go None e = refl
    go (Some value) e = absurd (cc)

-- where no value was found, none of those that were asked gave one
pub none_found : (asks : List (Ask Holder ReadReply)) → found_in asks ≡ None → (i : ℕ) (ask : Ask Holder ReadReply) → slice_get asks i ≡ Some ask → value_of ask ≡ None
none_found asks is i ask there = go (position is_found asks) refl is
  where
    gives : (o : Option (List ℕ)) → elim o [ None ↦ false | Some value ↦ true ] ≡ true → o ≡ None → ⊥
    gives None e none = cc
    gives (Some value) e none = cc

    go : (o : Option ℕ) → position is_found asks ≡ o → option_and_then (λ at. option_and_then value_of (slice_get asks at)) o ≡ None → value_of ask ≡ None
    go None at_none e = unfound_value ask (position_none is_found asks at_none i ask there)
    go (Some at) at_some e =
        let found : Passes is_found asks at = position_passes is_found asks at at_some in
        absurd (gives (value_of found.item) found.passes (ap (option_and_then value_of) (sym found.there) ∙ e))

-- where no turn is left, each has its outcome
pub record HasOutcome (ask : Ask Holder ReadReply) : Type 0 where
  pub outcome : Outcome ReadReply
  pub ear_is : ask.ear ≡ Heard outcome

closed_outcome : (ask : Ask Holder ReadReply) → is_open ask ≡ false → HasOutcome ask
closed_outcome ask is = go ask.ear refl is
  where
    go : (ear : Ear ReadReply) → ask.ear ≡ ear → elim ear [ Open stage ↦ true | Heard ended ↦ false ] ≡ false → HasOutcome ask
    go (Open stage) at e = absurd (cc)
    go (Heard ended) at e = record { outcome = ended; ear_is = at }

pub all_ended : (asks : List (Ask Holder ReadReply)) → turn_in_order asks ≡ None → (i : ℕ) (ask : Ask Holder ReadReply) → slice_get asks i ≡ Some ask → HasOutcome ask
all_ended asks is i ask there = go (position is_open asks) refl is
  where
    opens : (at : ℕ) (item : Ask Holder ReadReply) (ear : Ear ReadReply) → elim ear [ Open stage ↦ true | Heard ended ↦ false ] ≡ true → turn_with at item ear ≡ None → ⊥
    opens at item (Open stage) e none = cc
    opens at item (Heard ended) e none = cc

    go : (o : Option ℕ) → position is_open asks ≡ o → option_and_then (turn_at asks) o ≡ None → HasOutcome ask
    go None at_none e = closed_outcome ask (position_none is_open asks at_none i ask there)
    go (Some at) at_some e =
        let found : Passes is_open asks at = position_passes is_open asks at at_some in
        absurd (opens at found.item found.item.ear found.passes (ap (option_and_then (λ (x : Ask Holder ReadReply). turn_with at x x.ear)) (sym found.there) ∙ e))
