-- What is counted of all calls: silences, and frames.
use Rattle.std.specs.Prelude.{ℕ, zero, suc, ◌<◌, ◌^◌, List, slice_get, slice_set, Option, Some, None}
use lib.ListN.{replicate}
use Rattle.outside.specs.Faults.{NeverFalls, Rose, counted}

-- How often each brick was silent to a call, in order of number, and how often a number without a brick was; how often
-- any was; and how many frames calls heard. A count stays at its last value.
pub record CountsState : Type 0 where
  pub silences : List ℕ
  pub unknown : ℕ
  pub hushed : ℕ
  pub got : ℕ

-- the counts of so many bricks before any call
abbrev pub new_counts : ℕ → CountsState
new_counts bricks = record { silences = replicate bricks 0; unknown = 0; hushed = 0; got = 0 }

-- this count, or that of all numbers without a brick
abbrev pub or_unknown : Option ℕ → ℕ → ℕ
or_unknown None unknown = unknown
or_unknown (Some count) unknown = count

-- How often the brick of a number was silent. All numbers without a brick have one count.
abbrev pub silences_of : CountsState → ℕ → ℕ
silences_of counts zero = counts.unknown
silences_of counts (suc place) = or_unknown (slice_get counts.silences place) counts.unknown

-- the counts after the brick at a place, which was silent so often, was silent once more
abbrev pub silent_at : ℕ → Option ℕ → CountsState → CountsState
silent_at place None counts = record counts { unknown = counted counts.unknown; hushed = counted counts.hushed }
silent_at place (Some count) counts =
    record counts { silences = slice_set counts.silences place (counted count); hushed = counted counts.hushed }

-- the counts after the brick of a number was silent once more
abbrev pub silent_by : ℕ → CountsState → CountsState
silent_by zero counts = silent_at 0 None counts
silent_by (suc place) counts = silent_at place (slice_get counts.silences place) counts

-- the counts after a call heard one frame more
abbrev pub frame_got : CountsState → CountsState
frame_got counts = record counts { got = counted counts.got }

-- each count is below 2^64
pub record CountsFit (counts : CountsState) : Type 0 where
  pub silences : (brick : ℕ) → silences_of counts brick < 2 ^ 64
  pub hushed : counts.hushed < 2 ^ 64
  pub got : counts.got < 2 ^ 64

-- the silences of the brick of a number, and those of all, have risen
pub record SilenceRose (brick : ℕ) (old new : CountsState) : Type 0 where
  pub silences : Rose (silences_of old brick) (silences_of new brick)
  pub hushed : Rose old.hushed new.hushed

-- no count falls
pub record CountsGrow (old new : CountsState) : Type 0 where
  pub silences : (brick : ℕ) → NeverFalls (silences_of old brick) (silences_of new brick)
  pub hushed : NeverFalls old.hushed new.hushed
  pub got : NeverFalls old.got new.got
