-- What the refusal of passes says of windows, written out.
use Rattle.std.specs.Prelude.{filter, nat_lt, not}
use Rattle.std.specs.List.{range_with_len}
use Rattle.std.proofs.Common.{◌≡◌, ◌≤◌, ◌<◌, ◌∙◌, Bool, ℕ, List, [], ◌∷◌, ◌++◌, All, Some, length, map, slice_get, sym}
use Rattle.std.proofs.lemmas.List.{append_assoc}
use Rattle.std.proofs.lemmas.List.Elements.{All-weaker}
use Rattle.send_windows.specs.Facts.{IsWithinLimits}
use Rattle.send_windows.specs.declared.fact.TheConstants.{LARGEST_WINDOW, LEAST_WINDOW, MAX_BRICKS}
use Rattle.send_windows.specs.declared.fact.WindowFact.{WindowFact}
use Rattle.send_windows.specs.declared.history.WindowMark.{WindowMark}
use Rattle.send_windows.specs.declared.history.WindowMark.TheVariants as mark
use Rattle.connection_server.specs.Refusing.{WereRefused}

-- Windows were full where passes were refused: fewer were open than a write needs, and these are all others.
abbrev pub FullAtRefusal : List WindowMark → List WindowFact → Type 0
FullAtRefusal history full =
    (before : List WindowMark) × (since : List WindowMark)
    × (history ≡ before ++ mark.Refused ∷ since)
    × ((facts : List WindowFact) × (w : ℕ) × (wq : ℕ) × (holds : Bool)
    × (slice_get before 0 ≡ Some (mark.Opened (length facts) w wq holds))
    × (1 ≤ wq) × (wq ≤ w) × (w ≤ length facts) × (length facts ≤ MAX_BRICKS)
    × (map (λ (fact : WindowFact). fact.brick.0) facts ≡ range_with_len 1 (length facts))
    × All (λ (fact : WindowFact). (LEAST_WINDOW ≤ fact.window) × (fact.window ≤ LARGEST_WINDOW) × (fact.in_flight ≤ LARGEST_WINDOW)) facts
    × (length (filter (λ (fact : WindowFact). nat_lt fact.in_flight fact.window) facts) < wq)
    × (full ≡ filter (λ (fact : WindowFact). not (nat_lt fact.in_flight fact.window)) facts))

-- what a refusal that was seen says
pub full_at : (history : List WindowMark) (full : List WindowFact) → WereRefused history full → FullAtRefusal history full
full_at history full r = (
  r.windows.history,
  r.behind.0,
  sym r.behind.1 ∙ append_assoc r.windows.history (mark.Refused ∷ []) r.behind.0,
  (
    r.windows.facts,
    r.windows.w,
    r.windows.wq,
    r.windows.holds,
    r.limits.opened,
    r.limits.some,
    r.limits.enough,
    r.limits.within,
    r.limits.few,
    r.limits.numbered,
    All-weaker IsWithinLimits (λ (fact : WindowFact). (LEAST_WINDOW ≤ fact.window) × (fact.window ≤ LARGEST_WINDOW) × (fact.in_flight ≤ LARGEST_WINDOW))
        (λ fact is. (is.least, is.largest, is.few_in_flight)) r.windows.facts r.limits.limits,
    r.few,
    r.full_are,
  ),
)
