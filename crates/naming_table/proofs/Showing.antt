-- What a binding shows of a component and its group.
use Rattle.std.proofs.Common.{◌≡◌, ◌≢◌, ℕ, ◌<◌, List, length, Bool, Option, Some, None, option_map, refl, ap, ◌∙◌, bytes_eq}
use Rattle.std.specs.List.{All}
use Rattle.std.proofs.lemmas.Option.{get_or_from_slice_get, slice_get_within}
use Rattle.std.proofs.lemmas.Slice.Eq.{bytes_eq-Decides}
use Rattle.crash_base.specs.declared.numbers.Place.{Place}
use Rattle.crash_base.proofs.Positions.{position-passes}
use Rattle.deployment.specs.declared.parts.ComponentPart.{ComponentPart}
use Rattle.deployment.specs.declared.parts.Parts.{Parts}
use Rattle.deployment.specs.Groups.{group_no, group_of}
use Rattle.deployment.specs.Parts.{component_no, named}
use Rattle.deployment.proofs.Soundness.{unnamed, map_none}
use Rattle.journal_model.specs.declared.entry.Entry.{Entry}
use Rattle.journal_model.specs.Reboots.{generation, down_of, status_of}
use Rattle.naming_table.specs.declared.binding.Binding.{Binding}
use Rattle.naming_table.specs.declared.binding.Binding.TheVariants.{Live, Sentinel}
use Rattle.naming_table.specs.Binding.{live_unless, component_binding, binding_in}
use Rattle.naming_table.proofs.Finding.{named_part}

abbrev binding_after : Parts → List Entry → ℕ → Binding
binding_after parts es c = component_binding parts c (status_of es (group_of parts c))

pub binding_none : (parts : Parts) (es : List Entry) (name : List ℕ) → binding_in parts es name ≡ None → All (λ c. c.name ≢ name) parts.components
binding_none parts es name none = unnamed parts.components name (map_none (binding_after parts es) (named parts.components name) none)

pub none_binding : (parts : Parts) (es : List Entry) (name : List ℕ) → All (λ c. c.name ≢ name) parts.components → binding_in parts es name ≡ None
none_binding parts es name others = go (named parts.components name) refl
  where
    go : (o : Option ℕ) → named parts.components name ≡ o → binding_in parts es name ≡ None
    go None is = ap (option_map (binding_after parts es)) is
    go (Some c) is =
        let p : ComponentPart → Bool = λ d. bytes_eq d.name name in
        let part = named_part parts.components name c is in
        let same : part.0.name ≡ name = (bytes_eq-Decides part.0.name name).0 (position-passes p parts.components c part.0 is part.1) in
        let within : c < length parts.components = slice_get_within parts.components c part.0 part.1 in
        let here = get_or_from_slice_get parts.components c part.0 part.0 part.1 in
        absurd (others c part.0 within (ap (λ (d : ComponentPart). d.name) here ∙ same))

pub binding_up : (parts : Parts) (es : List Entry) (name : List ℕ) (c : ℕ) → named parts.components name ≡ Some c → down_of es (group_of parts c) ≡ None → binding_in parts es name ≡ Some (Live (record { 0 = c }) (generation es (group_of parts c)))
binding_up parts es name c found up =
    ap (option_map (binding_after parts es)) found ∙ ap (λ o. Some (live_unless (component_no c) (group_no (group_of parts c)) (generation es (group_of parts c)) o)) up

pub binding_down : (parts : Parts) (es : List Entry) (name : List ℕ) (c : ℕ) (place : Place) → named parts.components name ≡ Some c → down_of es (group_of parts c) ≡ Some place → binding_in parts es name ≡ Some (Sentinel (group_no (group_of parts c)) place)
binding_down parts es name c place found down =
    ap (option_map (binding_after parts es)) found ∙ ap (λ o. Some (live_unless (component_no c) (group_no (group_of parts c)) (generation es (group_of parts c)) o)) down
