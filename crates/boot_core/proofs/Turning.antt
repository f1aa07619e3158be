-- One touch after the other.
use Rattle.std.proofs.Common.{◌≡◌, ℕ, ◌+◌, ◌<◌, ◌≤◌, true, false, cond, List, length, drop, get_or, Some, None, ap, ◌∙◌, add-one}
use Rattle.std.proofs.Math.Seq.{drop-cons}
use Rattle.std.proofs.lemmas.List.{drop_all}
use Rattle.journal_model.specs.declared.entry.Entry.{Entry}
use Rattle.journal_model.specs.declared.entry.Touch.{Touch}
use Rattle.journal_model.specs.Stale.{is_stale, stale_by, stale_in}

-- the touch at an index and those after it
stale_turn : (es : List Entry) (ts : List Touch) (i : ℕ) (d : Touch) → i < length ts → stale_in es (drop i ts) ≡ cond (is_stale es (get_or ts i d)) (Some (stale_by es (get_or ts i d))) (stale_in es (drop (i + 1) ts))
stale_turn es ts i d within = rw (add-one) (ap (stale_in es) (drop-cons ts i d within))

pub stale_here : (es : List Entry) (ts : List Touch) (i : ℕ) (d : Touch) → i < length ts → is_stale es (get_or ts i d) ≡ true → stale_in es (drop i ts) ≡ Some (stale_by es (get_or ts i d))
stale_here es ts i d within is = stale_turn es ts i d within ∙ ap (λ b. cond b (Some (stale_by es (get_or ts i d))) (stale_in es (drop (i + 1) ts))) is

pub stale_past : (es : List Entry) (ts : List Touch) (i : ℕ) (d : Touch) → i < length ts → is_stale es (get_or ts i d) ≡ false → stale_in es (drop i ts) ≡ stale_in es (drop (i + 1) ts)
stale_past es ts i d within is = stale_turn es ts i d within ∙ ap (λ b. cond b (Some (stale_by es (get_or ts i d))) (stale_in es (drop (i + 1) ts))) is

pub stale_none_left : (es : List Entry) (ts : List Touch) (i : ℕ) → length ts ≤ i → stale_in es (drop i ts) ≡ None
stale_none_left es ts i past = ap (stale_in es) (drop_all i ts past)
