-- Lists built an item at a time.
use Rattle.std.proofs.Common.{◌≡◌, ◌∙◌, ap, ℕ, ◌+◌, ◌<◌, List, [], ◌∷◌, ◌++◌, length, take, get_or, filter_map, length-append, Option, Some, None, append-nil}
use Rattle.std.specs.List.{cons_option}
use Rattle.std.proofs.lemmas.List.{take_more}
use Rattle.std.proofs.lemmas.List.Elements.{filter_map-append}

filter_map_more : {X Y : Type 0} (h : X → Option Y) (xs : List X) (i : ℕ) (d : X) → i < length xs → filter_map h (take (i + 1) xs) ≡ filter_map h (take i xs) ++ cons_option (h (get_or xs i d)) []
filter_map_more h xs i d within =
    ap (filter_map h) (take_more xs i d within) ∙ filter_map-append h (take i xs) (get_or xs i d ∷ [])

-- one more that has an image
pub filter_map_adds : {X Y : Type 0} (h : X → Option Y) (xs : List X) (i : ℕ) (d : X) (y : Y) → i < length xs → h (get_or xs i d) ≡ Some y → filter_map h (take (i + 1) xs) ≡ filter_map h (take i xs) ++ y ∷ []
filter_map_adds h xs i d y within is =
    filter_map_more h xs i d within ∙ ap (λ o. filter_map h (take i xs) ++ cons_option o []) is

-- one more that has none
pub filter_map_passes : {X Y : Type 0} (h : X → Option Y) (xs : List X) (i : ℕ) (d : X) → i < length xs → h (get_or xs i d) ≡ None → filter_map h (take (i + 1) xs) ≡ filter_map h (take i xs)
filter_map_passes h xs i d within is =
    filter_map_more h xs i d within
    ∙ (ap (λ o. filter_map h (take i xs) ++ cons_option o []) is ∙ append-nil (filter_map h (take i xs)))

-- and so their number grows by one
pub filter_map_counts : {X Y : Type 0} (h : X → Option Y) (xs : List X) (i : ℕ) (d : X) (y : Y) → i < length xs → h (get_or xs i d) ≡ Some y → length (filter_map h (take (i + 1) xs)) ≡ length (filter_map h (take i xs)) + 1
filter_map_counts h xs i d y within is =
    ap length (filter_map_adds h xs i d y within is) ∙ length-append (filter_map h (take i xs)) (y ∷ [])
