-- Names that are found among those of a deployment.
use Rattle.std.proofs.Common.{◌≡◌, ℕ, suc, ◌+◌, ◌<◌, List, [], ◌∷◌, length, map, Option, Some, None, option_map, inl, inr, refl, sym, ap, ◌∙◌, subst, arith, if◌then◌else◌, bytes_eq, slice_get, zero}
use Rattle.std.specs.List.{All, enumerate_from, position}
use Rattle.std.specs.Option.{option_and_then}
use Rattle.std.proofs.lemmas.Option.{get_or_from_slice_get, slice_get-map, slice_get_within, slice_get_cases}
use Rattle.crash_base.proofs.Positions.{position-cons, position-some}
use Rattle.crash_base.specs.declared.scope.TheConstants.{MAX_GROUPS}
use Rattle.deployment.specs.declared.parts.ComponentPart.{ComponentPart}
use Rattle.deployment.specs.declared.parts.Parts.{Parts}
use Rattle.deployment.specs.Groups.{group_of}
use Rattle.deployment.specs.Parts.{component_no, named}
use Rattle.journal_model.specs.declared.entry.Entry.{Entry}
use Rattle.journal_model.specs.declared.status.GroupStatus.{GroupStatus}
use Rattle.journal_model.specs.Reboots.{status_of}
use Rattle.naming_table.specs.declared.binding.Binding.{Binding}
use Rattle.naming_table.specs.declared.bound.BoundName.{BoundName}
use Rattle.naming_table.specs.Binding.{bound_name, names_of, binding_of, component_binding, binding_in}
use Rattle.naming_table.specs.Names.{NamesValue, status_at, binding_now, Follows}

-- a search among the names is one among the components
position-names : (parts : Parts) (name : List ℕ) (n : ℕ) (cs : List ComponentPart) → position (λ b. bytes_eq b.name name) (map (bound_name parts) (enumerate_from n cs)) ≡ named cs name
position-names parts name n [] = refl
position-names parts name n (c ∷ cs) =
    let bs = map (bound_name parts) (enumerate_from (n + 1) cs) in
    position-cons (λ (b : BoundName). bytes_eq b.name name) (bound_name parts (n, c)) bs
    ∙ ap (λ o. if bytes_eq c.name name then Some 0 else option_map suc o) (position-names parts name (n + 1) cs)
    ∙ sym (position-cons (λ (d : ComponentPart). bytes_eq d.name name) c cs)

slice_get-enumerate_from : {X : Type 0} (n : ℕ) (xs : List X) (i : ℕ) (x : X) → slice_get xs i ≡ Some x → slice_get (enumerate_from n xs) i ≡ Some (n + i, x)
slice_get-enumerate_from n [] i x is = absurd (cc)
slice_get-enumerate_from {X} n (y ∷ ys) zero x is =
    let same : y ≡ x = cc in
    let number : n ≡ n + 0 = omega arith in
    ap (λ (z : X). Some (n, z)) same ∙ ap (λ (m : ℕ). Some (m, x)) number
slice_get-enumerate_from {X} n (y ∷ ys) (suc i) x is =
    let number : (n + 1) + i ≡ n + suc i = omega arith in
    slice_get-enumerate_from (n + 1) ys i x is ∙ ap (λ (m : ℕ). Some (m, x)) number

-- the name of a component is at its number
slice_get-names_of : (parts : Parts) (c : ℕ) (part : ComponentPart) → slice_get parts.components c ≡ Some part → slice_get (names_of parts) c ≡ Some (bound_name parts (c, part))
slice_get-names_of parts c part is =
    let number : 0 + c ≡ c = omega arith in
    slice_get-map (bound_name parts) (enumerate_from 0 parts.components) c
    ∙ ap (option_map (bound_name parts)) (slice_get-enumerate_from 0 parts.components c part is ∙ ap (λ (m : ℕ). Some (m, part)) number)

-- the component of a name is there
pub named_part : (components : List ComponentPart) (name : List ℕ) (c : ℕ) → named components name ≡ Some c → (part : ComponentPart) × (slice_get components c ≡ Some part)
named_part components name c is =
    let found = position-some (λ (d : ComponentPart). bytes_eq d.name name) components c is in
    let within : c < length components = omega (arith, found.0, found.1) in
    elim (slice_get_cases components c).1 [ inl part ↦ (part.0, part.2) | inr past ↦ absurd (omega (arith, past.0)) ]

-- a name of a deployment is bound to its component, with the status that its group has in the names
pub binding_now-names_of : (names : NamesValue) (parts : Parts) (name : List ℕ) → names.bound ≡ names_of parts
    → binding_now names name ≡ option_map (λ c. component_binding parts c (status_at names (group_of parts c))) (named parts.components name)
binding_now-names_of names parts name same =
    ap (λ (bound : List BoundName). option_and_then (λ c. option_map (binding c) (slice_get bound c)) (position (λ b. bytes_eq b.name name) bound)) same
    ∙ ap (option_and_then (λ c. option_map (binding c) (slice_get (names_of parts) c))) (position-names parts name 0 parts.components)
    ∙ go (named parts.components name) refl
  where
    binding : ℕ → BoundName → Binding
    binding c b = binding_of (component_no c) b.group (status_at names b.group.0)

    go : (o : Option ℕ) → named parts.components name ≡ o → option_and_then (λ c. option_map (binding c) (slice_get (names_of parts) c)) o ≡ option_map (λ c. component_binding parts c (status_at names (group_of parts c))) o
    go None is = refl
    go (Some c) is = let part = named_part parts.components name c is in ap (option_map (binding c)) (slice_get-names_of parts c part.0 part.1)

-- whose group has a number of a group, where the names have only such
group_within : (names : NamesValue) (parts : Parts) (name : List ℕ) (c : ℕ) → All (λ b. b.group.0 < MAX_GROUPS) names.bound → names.bound ≡ names_of parts
    → named parts.components name ≡ Some c → group_of parts c < MAX_GROUPS
group_within names parts name c groups same is =
    let part = named_part parts.components name c is in
    let b = bound_name parts (c, part.0) in
    let here : slice_get names.bound c ≡ Some b = ap (λ (bound : List BoundName). slice_get bound c) same ∙ slice_get-names_of parts c part.0 part.1 in
    let P : BoundName → Type 0 = λ d. d.group.0 < MAX_GROUPS in
    subst P (get_or_from_slice_get names.bound c b b here) (groups c b (slice_get_within names.bound c b here))

-- and as the journal has it, where the names follow one
pub binding_follows : (names : NamesValue) (parts : Parts) (es : List Entry) (name : List ℕ) → All (λ b. b.group.0 < MAX_GROUPS) names.bound → Follows names parts es → binding_now names name ≡ binding_in parts es name
binding_follows names parts es name groups follows = binding_now-names_of names parts name follows.bound ∙ go (named parts.components name) refl
  where
    go : (o : Option ℕ) → named parts.components name ≡ o → option_map (λ c. component_binding parts c (status_at names (group_of parts c))) o ≡ option_map (λ c. component_binding parts c (status_of es (group_of parts c))) o
    go None is = refl
    go (Some c) is = ap (λ (s : GroupStatus). Some (component_binding parts c s)) (follows.statuses (group_of parts c) (group_within names parts name c groups follows.bound is))
