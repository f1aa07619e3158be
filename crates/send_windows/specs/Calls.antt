-- Calls of windows, and what windows are after a list of them.
use Rattle.std.specs.Prelude.{ℕ, ◌+◌, ◌-◌, ◌==◌, nat_lt, if◌then◌else◌, List, [], ◌∷◌, length, filter, Option, Some, None}
use Rattle.std.specs.List.{fold, flat_map}
use Rattle.crash_base.specs.declared.numbers.BrickNo.{BrickNo}
use Rattle.send_windows.specs.declared.fact.TheConstants.{FIRST_WINDOW}
use Rattle.send_windows.specs.declared.fact.WindowFact.{WindowFact}
use Rattle.send_windows.specs.declared.pass.Pass.{Pass}
use Rattle.send_windows.specs.declared.pass.PassMark.TheVariants as mark
use Rattle.send_windows.specs.Facts.{open_count, window_after}
use Rattle.send_windows.specs.Passes.{with_mark}
use Rattle.send_windows.specs.Windows.{WindowsValue, pass_tried, after_try, chosen, taken, refused, after_pass, after_spend}

-- A call that may change windows. One that wanted memory in vain is none, since it changes nothing.
pub data WindowCall : Type 0 where
  TryPass : (brick : BrickNo) → WindowCall
  Take : (first : ℕ) → WindowCall
  Answered : (pass : Pass) → WindowCall
  Silent : (pass : Pass) → WindowCall
  Spend : (passes : List Pass) → WindowCall

-- windows after a take, given or refused
abbrev pub after_take : WindowsValue → ℕ → WindowsValue
after_take s first =
    if nat_lt (open_count s.facts) s.wq then refused s else taken s (chosen s first)

-- windows after a call
abbrev pub after_call : WindowsValue → WindowCall → WindowsValue
after_call s (TryPass brick) = after_try s brick
after_call s (Take first) = after_take s first
after_call s (Answered pass) = after_pass s (with_mark pass mark.Answered)
after_call s (Silent pass) = after_pass s (with_mark pass mark.Silent)
after_call s (Spend passes) = after_spend s passes

-- windows after calls, the first first
abbrev pub after_calls : WindowsValue → List WindowCall → WindowsValue
after_calls s calls = fold after_call s calls

-- the pass in a list, where there is one
abbrev pub pass_or_none : Option Pass → List Pass
pass_or_none None = []
pass_or_none (Some pass) = pass ∷ []

-- the passes that a call gives
abbrev pub given_by : WindowsValue → WindowCall → List Pass
given_by s (TryPass brick) = pass_or_none (pass_tried s brick)
given_by s (Take first) = if nat_lt (open_count s.facts) s.wq then [] else chosen s first
given_by s (Answered pass) = []
given_by s (Silent pass) = []
given_by s (Spend passes) = []

-- the passes that a call spends, each with its mark
abbrev pub spent_by : WindowCall → List Pass
spent_by (TryPass brick) = []
spent_by (Take first) = []
spent_by (Answered pass) = with_mark pass mark.Answered ∷ []
spent_by (Silent pass) = with_mark pass mark.Silent ∷ []
spent_by (Spend passes) = passes

-- the passes among these that are to a brick
abbrev pub passes_to : BrickNo → List Pass → List Pass
passes_to brick passes = filter (λ (pass : Pass). pass.brick.0 == brick.0) passes

-- The window of a brick by the passes to it that were spent, the first first: 4 before any, and then
-- by the mark of each.
abbrev pub window_of : List Pass → ℕ
window_of passes =
    fold (λ (window : ℕ) (pass : Pass). window_after window pass.mark) FIRST_WINDOW passes

-- how many passes to a brick are in flight after a call, where so many were before it: one more for
-- each that it gave, and one less for each that it spent, but never less than 0
abbrev pub in_flight_after : BrickNo → ℕ → WindowsValue → WindowCall → ℕ
in_flight_after brick in_flight s call =
    (in_flight + length (passes_to brick (given_by s call))) - length (passes_to brick (spent_by call))

-- how many passes to a brick are in flight after calls, where so many were before them
abbrev pub in_flight_after_calls : BrickNo → ℕ → WindowsValue → List WindowCall → ℕ
in_flight_after_calls brick in_flight s [] = in_flight
in_flight_after_calls brick in_flight s (call ∷ calls) =
    in_flight_after_calls brick (in_flight_after brick in_flight s call) (after_call s call) calls

-- The fact of a brick by calls of windows to which nothing had been sent: its window is that of the
-- passes to it that were spent, and in flight are those given less those spent.
abbrev pub fact_by_calls : WindowsValue → List WindowCall → BrickNo → WindowFact
fact_by_calls s calls brick =
    record {
      brick = brick;
      window = window_of (passes_to brick (flat_map spent_by calls));
      in_flight = in_flight_after_calls brick 0 s calls;
    }
