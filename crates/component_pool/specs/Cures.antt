-- What a reboot of a level cures.
use Rattle.std.specs.Prelude.{ℕ, nat_le, Bool, false, if◌then◌else◌, List, Option, Some, None}
use Rattle.std.specs.List.{list_any}
use Rattle.crash_base.specs.declared.numbers.Level.{Level}
use Rattle.crash_base.specs.declared.numbers.Level.TheVariants.{Group, App, Process, Human}
use Rattle.crash_base.specs.declared.scope.Scope.{Scope}
use Rattle.crash_base.specs.declared.scope.Scope.TheVariants as scopes

-- how wide a level is, from the narrowest on; which group it names does not count
abbrev pub width : Level → ℕ
width (Group g) = 0
width App = 1
width Process = 2
width Human = 3

-- whether a reboot of a level cures what is cured by another one: it does where it is as wide or wider
abbrev pub cures : Level → Level → Bool
cures level cured_by = nat_le (width cured_by) (width level)

-- whether one of these reboots cures what is cured by a level
abbrev pub one_cures : List Level → Level → Bool
one_cures reboots cured_by = list_any (λ level. cures level cured_by) reboots

-- the level at which a scope is rebooted
abbrev pub level_of : Scope → Level
level_of (scopes.Group g) = Group g
level_of scopes.App = App

-- whether the widest of some reboots cures what is cured by a level; where there was none, nothing is cured
abbrev pub widest_cures : Option Level → Level → Bool
widest_cures None cured_by = false
widest_cures (Some widest) cured_by = cures widest cured_by

-- the widest of some reboots and one more
abbrev pub wider : Option Level → Level → Level
wider None level = level
wider (Some widest) level = if cures widest level then widest else level
