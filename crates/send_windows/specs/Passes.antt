-- Passes and their marks.
use Rattle.std.specs.Prelude.{◌≡◌, ◌≢◌, All, ℕ, List, [], ◌∷◌, slice_set, slice_get, Option, Some, None}
use Rattle.crash_base.specs.declared.numbers.BrickNo.{BrickNo}
use Rattle.send_windows.specs.declared.pass.Pass.{Pass}
use Rattle.send_windows.specs.declared.pass.PassMark.{PassMark}
use Rattle.send_windows.specs.declared.pass.PassMark.TheVariants.{Unheard, Answered, Silent}

-- a pass to a brick of which nothing is known yet
abbrev pub unheard : BrickNo → Pass
unheard brick = record { brick = brick; mark = Unheard }

-- the pass with another mark
abbrev pub with_mark : Pass → PassMark → Pass
with_mark pass mark = record pass { mark = mark }

-- passes with this one, which stands at a place, marked so
abbrev pub marked_at : List Pass → ℕ → PassMark → Option Pass → List Pass
marked_at passes at mark None = passes
marked_at passes at mark (Some pass) = slice_set passes at (with_mark pass mark)

-- passes with the one at a place marked so
abbrev pub marked : List Pass → ℕ → PassMark → List Pass
marked passes at mark = marked_at passes at mark (slice_get passes at)

-- Silent in place of Unheard
abbrev pub hushed_mark : PassMark → PassMark
hushed_mark Unheard = Silent
hushed_mark Answered = Answered
hushed_mark Silent = Silent

-- the pass, marked Silent where it was unheard
abbrev pub hushed : Pass → Pass
hushed pass = with_mark pass (hushed_mark pass.mark)

-- each pass was heard
abbrev pub AreHeard : List Pass → Type 0
AreHeard = All (λ (pass : Pass). pass.mark ≢ Unheard)

-- of each pass nothing is known
abbrev pub AreUnheard : List Pass → Type 0
AreUnheard = All (λ (pass : Pass). pass.mark ≡ Unheard)

-- no two passes are to one brick
abbrev pub HaveDistinctBricks : List Pass → Type 0
HaveDistinctBricks [] = Unit {0}
HaveDistinctBricks (pass ∷ passes) =
    All (λ (other : Pass). pass.brick.0 ≢ other.brick.0) passes × HaveDistinctBricks passes
