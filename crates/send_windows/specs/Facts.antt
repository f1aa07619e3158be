-- Bricks with their windows.
use Rattle.std.specs.Prelude.{◌≤◌, ℕ, ◌+◌, ◌-◌, ◌/◌, ◌%◌, ◌==◌, nat_lt, not, Bool, if◌then◌else◌, List, ◌++◌, length, map, filter, take, drop, Option, Some, None}
use Rattle.std.specs.List.{list_any, find, fold, range_with_len}
use Rattle.crash_base.specs.declared.numbers.BrickNo.{BrickNo}
use Rattle.send_windows.specs.declared.fact.TheConstants.{FIRST_WINDOW, LEAST_WINDOW, LARGEST_WINDOW}
use Rattle.send_windows.specs.declared.fact.WindowFact.{WindowFact}
use Rattle.send_windows.specs.declared.pass.Pass.{Pass}
use Rattle.send_windows.specs.declared.pass.PassMark.{PassMark}
use Rattle.send_windows.specs.declared.pass.PassMark.TheVariants.{Unheard, Answered, Silent}
use Rattle.send_windows.specs.Passes.{unheard}

-- A window after a pass with this mark was spent: an answer adds 1, up to 64, and silence halves it,
-- rounded down, to no less than 1.
abbrev pub window_after : ℕ → PassMark → ℕ
window_after window Unheard = window
window_after window Answered = if nat_lt window LARGEST_WINDOW then window + 1 else LARGEST_WINDOW
window_after window Silent = if nat_lt (window / 2) LEAST_WINDOW then LEAST_WINDOW else window / 2

-- whether a window is open: fewer passes are in flight than it; else it is full
abbrev pub is_open : WindowFact → Bool
is_open fact = nat_lt fact.in_flight fact.window

-- the fact of a brick, where it is one of these
abbrev pub fact_of : List WindowFact → BrickNo → Option WindowFact
fact_of facts brick = find (λ (fact : WindowFact). fact.brick.0 == brick.0) facts

-- a brick after these passes were given: one more is in flight where one of them is to it
abbrev pub given : List Pass → WindowFact → WindowFact
given passes fact =
    if list_any (λ (pass : Pass). pass.brick.0 == fact.brick.0) passes
    then record fact { in_flight = fact.in_flight + 1 }
    else fact

-- a brick after this pass was spent: where the pass is to it, its window goes by the mark, and one
-- less is in flight, where there was one
abbrev pub spent : Pass → WindowFact → WindowFact
spent pass fact =
    if pass.brick.0 == fact.brick.0
    then record fact { window = window_after fact.window pass.mark; in_flight = fact.in_flight - 1 }
    else fact

-- a pass to a brick whose fact this is, where it has one and its window is open
abbrev pub open_pass : BrickNo → Option WindowFact → Option Pass
open_pass brick None = None
open_pass brick (Some fact) = if is_open fact then Some (unheard brick) else None

-- bricks after passes were spent, the first first
abbrev pub all_spent : List WindowFact → List Pass → List WindowFact
all_spent facts passes =
    fold (λ (now : List WindowFact) (pass : Pass). map (spent pass) now) facts passes

-- the facts gone round from brick number (first mod n) + 1, of n bricks
abbrev pub round_from : ℕ → List WindowFact → List WindowFact
round_from first facts = drop (first % length facts) facts ++ take (first % length facts) facts

-- a pass to each of those whose windows are open
abbrev pub open_passes : List WindowFact → List Pass
open_passes facts = map (λ (fact : WindowFact). unheard fact.brick) (filter is_open facts)

-- how many windows are open
abbrev pub open_count : List WindowFact → ℕ
open_count facts = length (filter is_open facts)

-- those whose windows are full
abbrev pub full_facts : List WindowFact → List WindowFact
full_facts = filter (λ (fact : WindowFact). not (is_open fact))

-- the brick of this number before anything was sent to it
abbrev pub first_fact : ℕ → WindowFact
first_fact number =
    record { brick = record { 0 = number }; window = FIRST_WINDOW; in_flight = 0 }

-- bricks 1 to so many, before anything was sent to them
abbrev pub first_facts : ℕ → List WindowFact
first_facts bricks = map first_fact (range_with_len 1 bricks)

-- The window is from 1 to 64, and at most 64 passes are in flight.
pub record IsWithinLimits (fact : WindowFact) : Type 0 where
  pub least : LEAST_WINDOW ≤ fact.window
  pub largest : fact.window ≤ LARGEST_WINDOW
  pub few_in_flight : fact.in_flight ≤ LARGEST_WINDOW
