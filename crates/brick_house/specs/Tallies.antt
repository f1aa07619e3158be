-- The counts of a link to a house never fall, and rise by what an event adds to them.
use Rattle.std.proofs.Common.{◌≡◌, sym, refl, subst, ℕ, List, Option, Some, None}
use Rattle.std.specs.Option.{option_and_then}
use Rattle.ssm_frames.specs.declared.frame.Frame.{Frame}
use Rattle.ssm_frames.specs.Reading.{decode_of}
use Rattle.brick_store.specs.Bricks.{BrickValue, reply}
use Rattle.outside.specs.declared.link.LinkEvent.{LinkEvent}
use Rattle.outside.specs.declared.link.LinkEvent.TheVariants.{Sends, SendsInSilence, Gets, HearsSilence, WantsToSend, WantsToReceive}
use Rattle.outside.specs.Link.{Tallied}
use Rattle.link_lanes.specs.Tallies.{sent_tallied, unsent_tallied, got_tallied, unheard_tallied, unmade_tallied, untaken_tallied}
use Rattle.brick_house.specs.HouseLinks.{LaneValue, with_reply, asked, given, silent, HouseLinkValue, house_tally, HouseMakes}

pub asked_counts : (b : BrickValue) (bytes : List ℕ) (lane : LaneValue) → (asked b bytes lane).silences ≡ lane.silences
asked_counts b bytes lane = go (option_and_then (reply b) (decode_of bytes)) where
  go : (found : Option Frame) → (with_reply found lane).silences ≡ lane.silences
  go None = refl
  go (Some answer) = refl

abbrev pub silences : LaneValue → ℕ
silences lane = lane.silences

pub house_tallies : (old new : HouseLinkValue) (event : LinkEvent) → HouseMakes old event new → Tallied event (house_tally old) (house_tally new)
house_tallies old new (Sends to frame) (there, (b, of, is)) =
    (let P : HouseLinkValue → Type 0 = λ s. Tallied (Sends to frame) (house_tally old) (house_tally s) in
    subst P (sym is) (sent_tallied silences (asked b frame) (asked_counts b frame) old.bricks to frame))
house_tallies old new (SendsInSilence to frame) (none, fit, is) =
    (let P : HouseLinkValue → Type 0 = λ s. Tallied (SendsInSilence to frame) (house_tally old) (house_tally s) in
    subst P (sym is) (unsent_tallied silences silent (λ lane. refl) old.bricks to frame fit))
house_tallies old new (Gets from frame) (gives, fits, is) =
    (let P : HouseLinkValue → Type 0 = λ s. Tallied (Gets from frame) (house_tally old) (house_tally s) in
    subst P (sym is) (got_tallied silences given (λ lane. refl) old.bricks from frame fits))
house_tallies old new (HearsSilence from) (quiet, fit, is) =
    (let P : HouseLinkValue → Type 0 = λ s. Tallied (HearsSilence from) (house_tally old) (house_tally s) in
    subst P (sym is) (unheard_tallied silences silent (λ lane. refl) old.bricks from fit))
house_tallies old new (WantsToSend to frame) is =
    (let P : HouseLinkValue → Type 0 = λ s. Tallied (WantsToSend to frame) (house_tally old) (house_tally s) in
    subst P (sym is) (unmade_tallied (house_tally old) to frame))
house_tallies old new (WantsToReceive from) is =
    (let P : HouseLinkValue → Type 0 = λ s. Tallied (WantsToReceive from) (house_tally old) (house_tally s) in
    subst P (sym is) (untaken_tallied (house_tally old) from))
