-- A list that was pushed to begins with what it was.
use Rattle.std.proofs.Common.{◌≡◌, List, [], ◌∷◌, ◌++◌, sym, ◌∙◌, append-nil}
use mathlib.Core.List.{IsPrefix}

pub prefix_same : {X : Type 0} (xs ys : List X) → ys ≡ xs → IsPrefix xs ys
prefix_same xs ys e = ([], append-nil xs ∙ sym e)

pub prefix_more : {X : Type 0} (xs ys : List X) (x : X) → ys ≡ xs ++ x ∷ [] → IsPrefix xs ys
prefix_more xs ys x e = (x ∷ [], sym e)
