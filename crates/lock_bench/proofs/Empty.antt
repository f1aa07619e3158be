-- No events begin any.
use Rattle.std.proofs.Common.{◌≡◌, List, [], ◌++◌, ap}
use mathlib.Core.List.{IsPrefix}

pub empty_begins : {X : Type 0} (xs ys : List X) → xs ≡ [] → IsPrefix xs ys
empty_begins xs ys none = (ys, ap (λ l. l ++ ys) none)
