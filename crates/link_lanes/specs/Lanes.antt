-- The lanes of a link, by the numbers of their bricks, and what a silence or a frame makes of them.
use Rattle.std.specs.Prelude.{◌≡◌, ℕ, ◌+◌, ◌-◌, ◌^◌, ◌<◌, min, nat_lt, if◌then◌else◌, List, [], ◌∷◌, Option, Some, None, slice_get, slice_set}
use Rattle.std.specs.Option.{option_map, option_map_or}
use Rattle.crash_base.specs.declared.numbers.BrickNo.{BrickNo}
use Rattle.ssm_frames.specs.declared.frame.Frame.{Frame}
use Rattle.ssm_frames.specs.Reading.{decode_of}
use Rattle.ssm_frames.specs.Spelling.{encode_of}
use Rattle.outside.specs.Faults.{counted}
use Rattle.outside.specs.Link.{Tally}

-- What a link has of its bricks: the lanes of bricks 1, 2 and so on, the silences of all numbers without a brick, those
-- of all numbers, and how many frames came.
pub record LanesValue (L : Type 0) : Type 0 where
  pub lanes : List L
  pub unknown : ℕ
  pub hushed : ℕ
  pub got : ℕ

-- the lane of the brick of a number among these, if it is one
abbrev pub lane_in : {L : Type 0} → List L → ℕ → Option L
lane_in lanes brick = if nat_lt 0 brick then slice_get lanes (brick - 1) else None

-- the lane of the brick of a number, if it is one of the link's
abbrev pub lane_of : {L : Type 0} → LanesValue L → ℕ → Option L
lane_of link brick = lane_in link.lanes brick

-- the link with this lane of the brick of a number, or as it was
abbrev pub with_lane : {L : Type 0} → LanesValue L → ℕ → Option L → LanesValue L
with_lane link brick None = link
with_lane link brick (Some lane) = record link { lanes = slice_set link.lanes (brick - 1) lane }

-- the link after the lane of a brick changed so
abbrev pub on_lane : {L : Type 0} → BrickNo → (L → L) → LanesValue L → LanesValue L
on_lane brick change link = with_lane link brick.0 (option_map change (lane_of link brick.0))

-- How often the brick of a number was silent, where this is what a lane counts of it: all numbers without a brick are
-- counted together.
abbrev pub silences_by : {L : Type 0} → (L → ℕ) → LanesValue L → ℕ → ℕ
silences_by silences link brick = option_map_or silences (lane_of link brick) link.unknown

-- what the link counted
abbrev pub tally_by : {L : Type 0} → (L → ℕ) → LanesValue L → Tally
tally_by silences link =
    record { silences = silences_by silences link; hushed = link.hushed; got = link.got }

-- a link after a silence of a number whose lane is this: where it has none, the silence is counted with those of all
-- such numbers
abbrev pub more_unknown : {L : Type 0} → Option L → LanesValue L → LanesValue L
more_unknown None link = record link { unknown = counted link.unknown }
more_unknown (Some lane) link = link

-- A link after the brick of a number was silent, which makes this of its lane, or the number has no brick.
abbrev pub hushed_with : {L : Type 0} → (L → L) → BrickNo → LanesValue L → LanesValue L
hushed_with silent brick link =
    more_unknown (lane_of link brick.0)
    (on_lane brick silent (record link { hushed = counted link.hushed }))

-- A link after a frame of a brick came, which makes this of its lane.
abbrev pub given_with : {L : Type 0} → (L → L) → BrickNo → LanesValue L → LanesValue L
given_with given brick link = on_lane brick given (record link { got = counted link.got })

-- The silences of a number, and those of all, are counts below 2^64.
pub record SilencesFit (tally : Tally) (brick : BrickNo) : Type 0 where
  pub of_brick : tally.silences brick.0 < 2 ^ 64
  pub of_all : tally.hushed < 2 ^ 64

-- These bytes spell the first reply of a queue, and are decoded to it.
abbrev pub IsFirst : List ℕ → List Frame → Type 0
IsFirst bytes [] = ⊥
IsFirst bytes (reply ∷ rest) = (bytes ≡ encode_of reply) × (decode_of bytes ≡ Some reply)

-- So many more, up to the last value of a count.
abbrev pub raised : ℕ → ℕ → ℕ
raised n more = min (n + more) (2 ^ 64 - 1)
