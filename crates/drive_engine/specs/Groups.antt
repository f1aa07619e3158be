-- The recovery groups that a descriptor text describes, and what is read and written until a command ends.
use Rattle.std.specs.Prelude.{Option, ◌≡◌, ◌≢◌, ℕ, suc, Bool, true, false, List, [], ◌∷◌, ◌++◌, Ok, Err, codes}
use Rattle.std.specs.Fmt.{decimal}
use Rattle.outside.specs.Sink.{appended, AppendsPrefix}
use Rattle.deployment.specs.Groups.{group_of}
use Rattle.deployment.specs.declared.parts.ComponentPart.{ComponentPart}
use Rattle.deployment.specs.declared.parts.Parts.{Parts}
use Rattle.descriptor_text.specs.Text.{IsAnswer}
use Rattle.descriptor_text.specs.declared.refusals.TextRefusal.{TextRefusal}
use Rattle.descriptor_text.specs.declared.refusals.TextRefusal.TheVariants as refusals
use Rattle.drive_engine.specs.declared.ending.Ending.{Ending}
use Rattle.drive_engine.specs.declared.ending.Ending.TheVariants as endings
use Rattle.drive_engine.specs.declared.groups.TheConstants.{MAX_DESCRIPTOR_BYTES}
use Rattle.drive_engine.specs.Exchange.{Exchange, IsRead, IsWritten, IsPartlyWritten, IsTooLong, WritesNothing}

-- the line of a component: its name, a space, and the number of its group
abbrev pub group_line : List ℕ → ℕ → List ℕ
group_line name group = name ++ codes " " ++ decimal group ++ codes "\n"

-- the lines of components, the first of which has this number
abbrev pub lines_from : Parts → ℕ → List ComponentPart → List ℕ
lines_from parts c [] = []
lines_from parts c (part ∷ rest) =
    group_line part.name (group_of parts c) ++ lines_from parts (suc c) rest

-- One line for each component of a deployment, in order.
abbrev pub groups_text : Parts → List ℕ
groups_text parts = lines_from parts 0 parts.components

-- the text describes a deployment of these parts
abbrev pub IsDeployment : List ℕ → Parts → Type 0
IsDeployment text parts = IsAnswer text (Ok parts)

-- The text describes no deployment, and this is why.
pub record IsRefused (text : List ℕ) : Type 0 where
  pub cause : TextRefusal
  pub found : cause ≢ refusals.OutOfMemory
  pub answer : IsAnswer text (Err cause)

-- A descriptor text was read, and the lines of its deployment were written.
pub record WritesGroups (x : Exchange) : Type 0 where
  pub text : List ℕ
  pub read : IsRead MAX_DESCRIPTOR_BYTES x text
  pub parts : Parts
  pub deployment : IsDeployment text parts
  pub written : IsWritten x (groups_text parts)

-- A descriptor text was read, and a prefix of the lines of its deployment was written.
pub record WritesGroupsPrefix (x : Exchange) : Type 0 where
  pub text : List ℕ
  pub read : IsRead MAX_DESCRIPTOR_BYTES x text
  pub parts : Parts
  pub deployment : IsDeployment text parts
  pub prefix : IsPartlyWritten x (groups_text parts)

-- A descriptor text was read that describes no deployment.
pub record RefusesDescriptors (x : Exchange) : Type 0 where
  pub text : List ℕ
  pub read : IsRead MAX_DESCRIPTOR_BYTES x text
  pub refused : IsRefused text

-- A text has more bytes than descriptors may have, and nothing was written.
pub record HasTooManyBytes (x : Exchange) : Type 0 where
  pub long : IsTooLong MAX_DESCRIPTOR_BYTES x
  pub silent : WritesNothing x

-- whether nothing was written until this ending
abbrev pub is_silent : Ending → Bool
is_silent endings.Done = false
is_silent endings.UnknownCommand = true
is_silent (endings.LineRefused n) = false
is_silent endings.ReadFailed = true
is_silent endings.WriteFailed = false
is_silent endings.KeeperFailed = false
is_silent (endings.BadRow id) = false
is_silent (endings.LineTooLong n) = true
is_silent endings.OutOfMemory = false
is_silent endings.DescriptorsRefused = true
is_silent endings.BootsSpent = false
is_silent endings.ScenarioTooLong = false

-- The lines of a deployment of these parts were written up to this ending.
abbrev pub WritesLines : Ending → Parts → Option (List ℕ) → Option (List ℕ) → Type 0
WritesLines endings.Done parts before after = after ≡ appended before (groups_text parts)
WritesLines endings.UnknownCommand parts before after = ⊥
WritesLines (endings.LineRefused n) parts before after = ⊥
WritesLines endings.ReadFailed parts before after = ⊥
WritesLines endings.WriteFailed parts before after = AppendsPrefix before after (groups_text parts)
WritesLines endings.KeeperFailed parts before after = ⊥
WritesLines (endings.BadRow id) parts before after = ⊥
WritesLines (endings.LineTooLong n) parts before after = ⊥
WritesLines endings.OutOfMemory parts before after = after ≡ before
WritesLines endings.DescriptorsRefused parts before after = ⊥
WritesLines endings.BootsSpent parts before after = ⊥
WritesLines endings.ScenarioTooLong parts before after = ⊥

-- A descriptor text came to this ending: its deployment's lines were written so, or it describes none.
abbrev pub ListsText : Ending → List ℕ → Option (List ℕ) → Option (List ℕ) → Type 0
ListsText endings.Done text before after =
    (parts : Parts) × IsDeployment text parts × (after ≡ appended before (groups_text parts))
ListsText endings.UnknownCommand text before after = ⊥
ListsText (endings.LineRefused n) text before after = ⊥
ListsText endings.ReadFailed text before after = ⊥
ListsText endings.WriteFailed text before after =
    (parts : Parts) × IsDeployment text parts × AppendsPrefix before after (groups_text parts)
ListsText endings.KeeperFailed text before after = ⊥
ListsText (endings.BadRow id) text before after = ⊥
ListsText (endings.LineTooLong n) text before after = ⊥
ListsText endings.OutOfMemory text before after = after ≡ before
ListsText endings.DescriptorsRefused text before after = IsRefused text
ListsText endings.BootsSpent text before after = ⊥
ListsText endings.ScenarioTooLong text before after = ⊥
