-- The counts of the link in memory never fall, and rise by what an event adds to them.
use Rattle.std.proofs.Common.{◌≡◌, sym, refl, subst, ℕ, ◌-◌, Bool, true, false, nat_lt, if◌then◌else◌, List, [], ◌∷◌, ◌++◌, Option, Some, None}
use Rattle.ssm_frames.specs.declared.frame.Frame.{Frame}
use Rattle.ssm_frames.specs.Reading.{decode_of}
use Rattle.brick_store.specs.Bricks.{answered, reply}
use Rattle.outside.specs.declared.link.LinkEvent.{LinkEvent}
use Rattle.outside.specs.declared.link.LinkEvent.TheVariants.{Sends, SendsInSilence, Gets, HearsSilence, WantsToSend, WantsToReceive}
use Rattle.outside.specs.Link.{Tallied}
use Rattle.link_lanes.specs.Tallies.{sent_tallied, unsent_tallied, got_tallied, unheard_tallied, unmade_tallied, untaken_tallied}
use Rattle.link_memory.specs.Lane.{LaneValue, with_reply_if, reached, asked, given, silent}
use Rattle.link_memory.specs.Script.{ScriptValue, script_tally, ScriptMakes}

asked_counts : (bytes : List ℕ) (lane : LaneValue) → (asked bytes lane).silences ≡ lane.silences
asked_counts bytes lane = go (nat_lt 0 lane.to_drop) (decode_of bytes) where
  replied : (lose : Bool) (reply : Frame) (l : LaneValue) → (if lose then record l { to_lose = l.to_lose - 1; made = l.made ++ reply ∷ [] } else record l { made = l.made ++ reply ∷ []; queue = l.queue ++ reply ∷ [] }).silences ≡ l.silences
  replied true reply l = refl
  replied false reply l = refl

  kept : (found : Option Frame) (l : LaneValue) → (with_reply_if found l).silences ≡ l.silences
  kept None l = refl
  kept (Some reply) l = replied (nat_lt 0 l.to_lose) reply l

  came : (found : Option Frame) → (reached found lane).silences ≡ lane.silences
  came None = refl
  came (Some frame) = kept (reply lane.brick frame) (record lane { brick = answered lane.brick frame })

  go : (dropped : Bool) (found : Option Frame) → (if dropped then record lane { to_drop = lane.to_drop - 1 } else reached found lane).silences ≡ lane.silences
  go true found = refl
  go false found = came found

abbrev silences : LaneValue → ℕ
silences lane = lane.silences

pub script_tallies : (old new : ScriptValue) (event : LinkEvent) → ScriptMakes old event new → Tallied event (script_tally old) (script_tally new)
script_tallies old new (Sends to frame) (there, is) =
    (let P : ScriptValue → Type 0 = λ s. Tallied (Sends to frame) (script_tally old) (script_tally s) in
    subst P (sym is) (sent_tallied silences (asked frame) (asked_counts frame) old to frame))
script_tallies old new (SendsInSilence to frame) (none, fit, is) =
    (let P : ScriptValue → Type 0 = λ s. Tallied (SendsInSilence to frame) (script_tally old) (script_tally s) in
    subst P (sym is) (unsent_tallied silences silent (λ lane. refl) old to frame fit))
script_tallies old new (Gets from frame) (gives, fits, is) =
    (let P : ScriptValue → Type 0 = λ s. Tallied (Gets from frame) (script_tally old) (script_tally s) in
    subst P (sym is) (got_tallied silences given (λ lane. refl) old from frame fits))
script_tallies old new (HearsSilence from) (quiet, fit, is) =
    (let P : ScriptValue → Type 0 = λ s. Tallied (HearsSilence from) (script_tally old) (script_tally s) in
    subst P (sym is) (unheard_tallied silences silent (λ lane. refl) old from fit))
script_tallies old new (WantsToSend to frame) is =
    (let P : ScriptValue → Type 0 = λ s. Tallied (WantsToSend to frame) (script_tally old) (script_tally s) in
    subst P (sym is) (unmade_tallied (script_tally old) to frame))
script_tallies old new (WantsToReceive from) is =
    (let P : ScriptValue → Type 0 = λ s. Tallied (WantsToReceive from) (script_tally old) (script_tally s) in
    subst P (sym is) (untaken_tallied (script_tally old) from))
