-- Head lines build the parts of a deployment.
use Rattle.std.proofs.Common.{◌≡◌, ℕ, ◌<◌, ◌≤◌, false, List, [], ◌∷◌, ◌++◌, length, Option, Some, None, is_some, refl, sym, subst, arith}
use Rattle.crash_base.specs.declared.scope.TheConstants.{MAX_GROUPS}
use Rattle.deployment.specs.declared.parts.TheConstants.{MAX_METHODS}
use Rattle.deployment.specs.declared.parts.ComponentPart.{ComponentPart}
use Rattle.deployment.specs.declared.parts.Parts.{Parts}
use Rattle.deployment.specs.declared.parts.Reference.{Reference}
use Rattle.deployment.specs.declared.parts.TablePart.{TablePart}
use Rattle.deployment.specs.Parts.{named, owner_of}
use Rattle.deployment.specs.Refusals.{deploy_refusal}
use Rattle.deployment.specs.Sound.{HaveOwnNames}
use Rattle.deployment.proofs.Growing.{component_added, reference_added, table_added}
use Rattle.deployment.proofs.Soundness.{sound_from_none, none_from_sound}
use Rattle.line_steps.specs.Head.{plain}

none_here : {A : Type 0} (o : Option A) → is_some o ≡ false → o ≡ None
none_here None h = refl
none_here (Some a) h = cc

apart_alone : (name : List ℕ) → HaveOwnNames (plain name).methods
apart_alone name = λ i j d lt within same. omega arith

pub component_accepted : (parts : Parts) (name : List ℕ) (components : List ComponentPart) → deploy_refusal parts ≡ None → length parts.components < MAX_GROUPS → is_some (named parts.components name) ≡ false → components ≡ parts.components ++ plain name ∷ [] → deploy_refusal (record parts { components = components }) ≡ None
component_accepted parts name components none room new made =
    let few : length (plain name).methods ≤ MAX_METHODS = omega arith in
    let P : List ComponentPart → Type 0 = λ cs. deploy_refusal (record parts { components = cs }) ≡ None in
    subst P (sym made) (none_from_sound (record parts { components = parts.components ++ plain name ∷ [] }) (component_added parts (plain name) (sound_from_none parts none) room (none_here (named parts.components name) new) few (apart_alone name)))

pub table_accepted : (parts : Parts) (t : TablePart) (tables : List TablePart) → deploy_refusal parts ≡ None → 0 < t.table → is_some (owner_of parts.tables t.table) ≡ false → t.owner.0 < length parts.components → tables ≡ parts.tables ++ t ∷ [] → deploy_refusal (record parts { tables = tables }) ≡ None
table_accepted parts t tables none own new owned made =
    let P : List TablePart → Type 0 = λ ts. deploy_refusal (record parts { tables = ts }) ≡ None in
    subst P (sym made) (none_from_sound (record parts { tables = parts.tables ++ t ∷ [] }) (table_added parts t (sound_from_none parts none) own (none_here (owner_of parts.tables t.table) new) owned))

pub reference_accepted : (parts : Parts) (r : Reference) (references : List Reference) → deploy_refusal parts ≡ None → r.from.0 < length parts.components → r.to.0 < length parts.components → references ≡ parts.references ++ r ∷ [] → deploy_refusal (record parts { references = references }) ≡ None
reference_accepted parts r references none from to made =
    let P : List Reference → Type 0 = λ rs. deploy_refusal (record parts { references = rs }) ≡ None in
    subst P (sym made) (none_from_sound (record parts { references = parts.references ++ r ∷ [] }) (reference_added parts r (sound_from_none parts none) from to))
