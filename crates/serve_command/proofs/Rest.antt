-- What is written of a line, and what is left of it.
use Rattle.std.proofs.Common.{◌≡◌, ℕ, ◌+◌, ◌-◌, List, ◌++◌, length, take, drop, Option, ap, sym, ◌∙◌}
use Rattle.std.proofs.lemmas.List.{drop-drop, take-append-drop}
use Rattle.outside.specs.Sink.{appended}
use Rattle.outside.proofs.Prefixes.{appended_more, rest_whole}

-- k bytes more were written of what was left behind the first i
pub rest_step : (o n m : Option (List ℕ)) (bytes : List ℕ) (i k : ℕ) → appended n (drop i bytes) ≡ o
    → m ≡ appended n (take k (take (length bytes - i) (drop i bytes))) → appended m (drop (i + k) bytes) ≡ o
rest_step o n m bytes i k same written =
    ap (λ x. appended x (drop (i + k) bytes)) written
    ∙ ap (λ r. appended (appended n (take k r)) (drop (i + k) bytes)) (rest_whole bytes i)
    ∙ appended_more n (take k (drop i bytes)) (drop (i + k) bytes)
    ∙ ap (λ r. appended n (take k (drop i bytes) ++ r)) (sym (drop-drop k i bytes))
    ∙ ap (appended n) (take-append-drop k (drop i bytes))
    ∙ same
