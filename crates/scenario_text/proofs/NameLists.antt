-- The names of a report: what words say together, and what spells them.
use Rattle.std.proofs.Common.{◌≡◌, ◌≤◌, ℕ, List, [], ◌∷◌, length, Some, refl, ap, ◌∙◌, subst, arith}
use Rattle.std.specs.Option.{option_map}
use Rattle.std.specs.List.{All}
use Rattle.std.proofs.lemmas.List.Elements.{All-nil, All-cons, All-head, All-tail}
use Rattle.crash_base.proofs.Options.{then_some, map_some}
use Rattle.scenario_text.specs.Fields.{name_of}
use Rattle.scenario_text.specs.FieldSpelling.{IsName, AreNames}
use Rattle.scenario_text.specs.Arguments.{names_of, some_names}
use Rattle.scenario_text.proofs.Splits.{AreWhole}
use Rattle.scenario_text.proofs.OneWord.{name_read, name_spelled}
use Rattle.scenario_text.proofs.WordKinds.{named_whole}

-- words that say names are these names
names_spelled : (words names : List (List ℕ)) → names_of words ≡ Some names → (words ≡ names) × All IsName names
names_spelled [] names h = let e : [] ≡ names = cc in (e, subst (All IsName) e (All-nil IsName))
names_spelled (word ∷ words) names h =
    let (name, here, later) = then_some (λ name. option_map (λ more. name ∷ more) (names_of words)) (name_of word) names h in
    let (more, rest, made) = map_some (λ more. name ∷ more) (names_of words) names later in
    let (w, first) = name_spelled word name here in
    let (ws, others) = names_spelled words more rest in
    (ap (λ x. x ∷ words) w ∙ ap (λ xs. name ∷ xs) ws ∙ made, subst (All IsName) made (All-cons IsName name more first others))

-- words that say one name or more are these names
pub some_spelled : (words names : List (List ℕ)) → some_names words ≡ Some names → (words ≡ names) × AreNames names
some_spelled [] names h = cc
some_spelled (word ∷ words) names h =
    let (same, each) = names_spelled (word ∷ words) names h in
    let some : 1 ≤ length (word ∷ words) = omega arith in
    (same, (subst (λ ns. 1 ≤ length ns) same some, each))

-- and names say themselves
pub names_read : (names : List (List ℕ)) → All IsName names → names_of names ≡ Some names
names_read [] h = refl
names_read (name ∷ names) h = rw (name_read name (All-head IsName name names h), names_read names (All-tail IsName name names h)) refl

-- they have no space
pub names_whole : (names : List (List ℕ)) → All IsName names → AreWhole names
names_whole [] h = tt
names_whole (name ∷ names) h = (named_whole name (All-head IsName name names h), names_whole names (All-tail IsName name names h))
