-- Passes are given only to bricks whose windows are open.
use Rattle.std.proofs.Common.{◌≡◌, ◌∙◌, ap, arith, ℕ, ◌+◌, ◌%◌, ◌≤◌, Bool, List, ◌++◌, length, take, drop, length-append, length-take}
use Rattle.std.specs.List.{count_by}
use Rattle.std.specs.Prelude.{filter}
use Rattle.std.proofs.lemmas.List.Elements.{filter-append}
use Rattle.std.proofs.lemmas.List.Sums.{count_by-le-length}
use Rattle.std.proofs.lemmas.List.{length-map, take-append-drop}
use Rattle.crash_base.specs.declared.numbers.BrickNo.{BrickNo}
use Rattle.send_windows.specs.declared.fact.WindowFact.{WindowFact}
use Rattle.send_windows.specs.declared.pass.Pass.{Pass}
use Rattle.send_windows.specs.Facts.{is_open, open_count, open_passes, round_from}
use Rattle.send_windows.specs.Passes.{unheard}
use Rattle.send_windows.specs.Windows.{WindowsValue, chosen}
use Rattle.ssm_stub.specs.Ends.{bricks_of}

-- as many windows are open in two parts as in both
in_parts : (xs ys : List WindowFact) → open_count (xs ++ ys) ≡ open_count xs + open_count ys
in_parts xs ys = ap length (filter-append is_open xs ys) ∙ length-append (filter is_open xs) (filter is_open ys)

-- of the bricks that passes are given to, no more serve than windows are open
pub serving_open : (serves : BrickNo → Bool) (s : WindowsValue) (first : ℕ) → count_by serves (bricks_of (chosen s first)) ≤ open_count s.facts
serving_open serves s first =
    let at : ℕ = first % length s.facts in
    let all : List Pass = open_passes (round_from first s.facts) in
    let some = count_by-le-length serves (bricks_of (chosen s first)) in
    let passes : length (bricks_of (chosen s first)) ≡ length (chosen s first) = length-map (chosen s first) (λ (pass : Pass). pass.brick) in
    let most = length-take s.w all in
    let passed : length all ≡ open_count (drop at s.facts ++ take at s.facts) = length-map (filter is_open (drop at s.facts ++ take at s.facts)) (λ (fact : WindowFact). unheard fact.brick) in
    let round = in_parts (drop at s.facts) (take at s.facts) in
    let parts = in_parts (take at s.facts) (drop at s.facts) in
    let whole : open_count (take at s.facts ++ drop at s.facts) ≡ open_count s.facts = ap open_count (take-append-drop at s.facts) in
    omega (arith, some, passes, most, passed, round, parts, whole)
