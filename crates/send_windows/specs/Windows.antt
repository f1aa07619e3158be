-- Windows on bricks, and what the calls do to them.
use Rattle.std.specs.Prelude.{◌≡◌, ◌≤◌, ◌<◌, All, ℕ, Bool, List, [], ◌∷◌, ◌++◌, length, map, take, slice_get, Option, Some, None}
use Rattle.std.specs.List.{range_with_len}
use Rattle.std.specs.Option.{option_map}
use Rattle.crash_base.specs.declared.numbers.BrickNo.{BrickNo}
use Rattle.send_windows.specs.declared.fact.TheConstants.{MAX_BRICKS}
use Rattle.send_windows.specs.declared.fact.WindowFact.{WindowFact}
use Rattle.send_windows.specs.declared.history.WindowMark.{WindowMark}
use Rattle.send_windows.specs.declared.history.WindowMark.TheVariants.{Opened, Taken, Refused, Spent}
use Rattle.send_windows.specs.declared.pass.Pass.{Pass}
use Rattle.send_windows.specs.declared.windows.TakeRefusal.{TakeRefusal}
use Rattle.send_windows.specs.declared.windows.TakeRefusal.TheVariants.{Overload, OutOfMemory}
use Rattle.send_windows.specs.Facts.{fact_of, given, spent, all_spent, round_from, open_pass, open_passes, open_count, full_facts, first_facts, IsWithinLimits}
use Rattle.send_windows.specs.Passes.{AreUnheard, HaveDistinctBricks}

-- Windows: how many passes a take gives at most and at least, whether single passes may be tried,
-- each brick in order of number, and the history.
pub record WindowsValue : Type 0 where
  pub w : ℕ
  pub wq : ℕ
  pub holds : Bool
  pub facts : List WindowFact
  pub history : List WindowMark

-- The bricks are 1 to n in order, at most 16; a take gives passes to at least wq and at most w of
-- them; each is within the limits of a window; and the history begins with these numbers.
pub record KeepLimits (s : WindowsValue) : Type 0 where
  pub some : 1 ≤ s.wq
  pub enough : s.wq ≤ s.w
  pub within : s.w ≤ length s.facts
  pub few : length s.facts ≤ MAX_BRICKS
  pub numbered : map (λ (fact : WindowFact). fact.brick.0) s.facts ≡ range_with_len 1 (length s.facts)
  pub limits : All IsWithinLimits s.facts
  pub opened : slice_get s.history 0 ≡ Some (Opened (length s.facts) s.w s.wq s.holds)

-- windows on bricks 1 to n, none of which was sent anything
abbrev pub new_windows : ℕ → ℕ → ℕ → Bool → WindowsValue
new_windows bricks w wq holds =
    record {
      w = w;
      wq = wq;
      holds = holds;
      facts = first_facts bricks;
      history = Opened bricks w wq holds ∷ [];
    }

-- the brick is one of these
pub record HasBrick (s : WindowsValue) (brick : BrickNo) : Type 0 where
  pub least : 1 ≤ brick.0
  pub most : brick.0 ≤ length s.facts

-- the window of a brick
abbrev pub window_in : WindowsValue → BrickNo → Option ℕ
window_in s brick = option_map (λ (fact : WindowFact). fact.window) (fact_of s.facts brick)

-- how many passes to a brick are in flight
abbrev pub in_flight_in : WindowsValue → BrickNo → Option ℕ
in_flight_in s brick = option_map (λ (fact : WindowFact). fact.in_flight) (fact_of s.facts brick)

-- the pass that a try gives: None where in flight is at least the window
abbrev pub pass_tried : WindowsValue → BrickNo → Option Pass
pass_tried s brick = open_pass brick (fact_of s.facts brick)

-- windows after these passes were given; the history is told nothing
abbrev pub with_given : WindowsValue → List Pass → WindowsValue
with_given s passes = record s { facts = map (given passes) s.facts }

-- windows after a single pass was given or not
abbrev pub with_tried : WindowsValue → Option Pass → WindowsValue
with_tried s None = s
with_tried s (Some pass) = with_given s (pass ∷ [])

-- windows after a single pass was tried
abbrev pub after_try : WindowsValue → BrickNo → WindowsValue
after_try s brick = with_tried s (pass_tried s brick)

-- the passes that a take gives: to the first w bricks whose windows are open, gone round from the
-- stated number
abbrev pub chosen : WindowsValue → ℕ → List Pass
chosen s first = take s.w (open_passes (round_from first s.facts))

-- from wq to w passes to distinct bricks, of which nothing is known
pub record AreTaken (wq : ℕ) (w : ℕ) (passes : List Pass) : Type 0 where
  pub unheard : AreUnheard passes
  pub distinct : HaveDistinctBricks passes
  pub enough : wq ≤ length passes
  pub most : length passes ≤ w

-- windows after these passes were taken together
abbrev pub taken : WindowsValue → List Pass → WindowsValue
taken s passes =
    record s {
      facts = map (given passes) s.facts;
      history = s.history ++ Taken (length passes) ∷ [];
    }

-- windows after passes were refused
abbrev pub refused : WindowsValue → WindowsValue
refused s = record s { history = s.history ++ Refused ∷ [] }

-- A take was refused: fewer than wq windows are open, each full one is told in order, and the history
-- alone changed; or there was no memory, and nothing changed.
abbrev pub RefusedAs : WindowsValue → WindowsValue → TakeRefusal → Type 0
RefusedAs old new (Overload full) =
    (open_count old.facts < old.wq) × (full ≡ full_facts old.facts) × (new ≡ refused old)
RefusedAs old new OutOfMemory = new ≡ old

-- windows after a single pass was spent; the history is told nothing
abbrev pub after_pass : WindowsValue → Pass → WindowsValue
after_pass s pass = record s { facts = map (spent pass) s.facts }

-- windows after passes were spent together
abbrev pub after_spend : WindowsValue → List Pass → WindowsValue
after_spend s passes =
    record s { facts = all_spent s.facts passes; history = s.history ++ Spent ∷ [] }
