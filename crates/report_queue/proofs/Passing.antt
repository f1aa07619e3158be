-- Passes that are added.
use Rattle.std.proofs.Common.{◌≡◌, List, [], ◌∷◌, ◌++◌, sym, subst}
use Rattle.std.proofs.lemmas.List.Elements.{All-nil, All-push}
use Rattle.atomic_table.specs.Seated.{TableId}
use Rattle.report_queue.specs.Passes.{AreTo, PassValue}

module _ {V : Type 0} (queue : TableId) (knows : V) where
  abbrev whole : PassValue V
  whole = record { queue = queue; knows = knows }

  pub none_are : (passes : List (PassValue V)) → passes ≡ [] → AreTo queue knows passes
  none_are passes none = subst (AreTo queue knows) (sym none) (All-nil (λ (pass : PassValue V). pass ≡ whole))

  pub one_more : (old new : List (PassValue V)) (pass : PassValue V) → new ≡ old ++ pass ∷ [] → AreTo queue knows old → pass ≡ whole → AreTo queue knows new
  one_more old new pass added all is = subst (AreTo queue knows) (sym added) (All-push (λ (p : PassValue V). p ≡ whole) old pass all is)
