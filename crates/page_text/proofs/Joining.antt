-- Bytes that are written piece by piece.
use Rattle.std.proofs.Common.{◌≡◌, ℕ, List, ◌++◌, ap, ◌∙◌}
use Rattle.std.proofs.lemmas.List.{append_assoc}

regroup : (start a x b y c : List ℕ) → start ++ (a ++ x) ++ (b ++ y) ++ c ≡ start ++ (a ++ x ++ b ++ y ++ c)
regroup start a x b y c = simp append_assoc

-- two pieces with a text each, and a last piece, each written behind what was there
pub joined : (a x b y c start one two three : List ℕ) → one ≡ start ++ (a ++ x) → two ≡ one ++ (b ++ y) → three ≡ two ++ c
    → three ≡ start ++ (a ++ x ++ b ++ y ++ c)
joined a x b y c start one two three first second third =
    third ∙ ap (λ l. l ++ c) (second ∙ ap (λ l. l ++ (b ++ y)) first) ∙ regroup start a x b y c
