-- Where a path leads by one method and by another.
use Rattle.std.proofs.Common.{◌≡◌, ◌≢◌, Option, Some, None, refl}
use Rattle.http_wire.specs.declared.taken.MethodKind.{MethodKind}
use Rattle.http_wire.specs.declared.taken.MethodKind.TheVariants.{Get, HeadOnly, Post, Other}
use Rattle.site_routes.specs.PathActions.{routed_by, routed_to}
use Rattle.site_routes.specs.declared.path_actions.PathActions.{PathActions}
use Rattle.site_routes.specs.declared.path_actions.PathActions.TheVariants.{Read, Write, Both}
use Rattle.site_routes.specs.declared.routed.Routed.TheVariants.{NotThere}

-- a path with actions leads somewhere by each method
pub is_there : (method : MethodKind) (actions : PathActions) → routed_by method actions ≢ NotThere
is_there Get (Read asked) h = cc
is_there Get (Write asked) h = cc
is_there Get (Both read written) h = cc
is_there HeadOnly (Read asked) h = cc
is_there HeadOnly (Write asked) h = cc
is_there HeadOnly (Both read written) h = cc
is_there Post (Read asked) h = cc
is_there Post (Write asked) h = cc
is_there Post (Both read written) h = cc
is_there Other (Read asked) h = cc
is_there Other (Write asked) h = cc
is_there Other (Both read written) h = cc

pub nowhere : (found : Option PathActions) (method second : MethodKind)
    → routed_to method found ≡ NotThere → routed_to second found ≡ NotThere
nowhere None method second h = refl
nowhere (Some actions) method second h = absurd (is_there method actions h)

pub same_by_head : (found : Option PathActions) → routed_to HeadOnly found ≡ routed_to Get found
same_by_head None = refl
same_by_head (Some actions) = refl
