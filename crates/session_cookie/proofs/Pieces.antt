-- Bytes that are written piece by piece.
use Rattle.std.proofs.Common.{◌≡◌, ℕ, ◌+◌, ◌<◌, List, ◌++◌, length, take, get_or, sym, ap, ◌∙◌}
use Rattle.std.proofs.lemmas.List.{take_more, flat_map_more}
use Rattle.std.specs.List.{flat_map}

-- the piece of one item more
pub flat_more : {X : Type 0} (f : X → List ℕ) (start now new : List ℕ) (xs : List X) (i : ℕ) (d : X) → i < length xs
    → now ≡ start ++ flat_map f (take i xs) → new ≡ now ++ f (get_or xs i d) → new ≡ start ++ flat_map f (take (i + 1) xs)
flat_more f start now new xs i d within so_far more =
    more ∙ ap (λ bytes. bytes ++ f (get_or xs i d)) so_far ∙ flat_map_more f start (take i xs) (get_or xs i d)
    ∙ ap (λ ys. start ++ flat_map f ys) (sym (take_more xs i d within))
