-- What a form shows is what is read of it.
use Rattle.std.proofs.Common.{◌≡◌, ◌↔◌, ℕ, List, [], ◌∷◌, map, true, refl}
use Rattle.auction_calls.specs.BadFields.{field_text}
use Rattle.auction_calls.specs.declared.action.FormKind.{FormKind}
use Rattle.auction_calls.specs.declared.action.FormKind.TheVariants as kind
use Rattle.auction_calls.specs.declared.call_field.CallField.TheVariants as call
use Rattle.auction_site.specs.Outcomes.{form_address, form_fields}
use Rattle.http_wire.specs.declared.taken.MethodKind.{MethodKind}
use Rattle.http_wire.specs.declared.taken.MethodKind.TheVariants.{Post}
use Rattle.site_routes.specs.PathActions.{routed}
use Rattle.site_routes.specs.Paths.{HasId, asks, path_of}
use Rattle.site_routes.specs.declared.path_actions.SiteAction.{SiteAction}
use Rattle.site_routes.specs.declared.routed.Routed.TheVariants as lead
use Rattle.action_fields.specs.Names.{field_name}
use Rattle.action_fields.specs.Table.{FieldRead, fields_of}
use Rattle.action_fields.specs.declared.form_field.FormField.TheVariants as form_field
use Rattle.form_laws.specs.Forms.{filled_for}

pub shown : (which : FormKind) (query form : List ℕ)
    → map (λ (f : FieldRead). field_name f.name) (fields_of (filled_for which) query form) ≡ form_fields which
unfolding field_name
shown kind.Register query form = refl
shown kind.SignIn query form = refl
shown kind.SignOut query form = refl
shown kind.Category query form = refl
shown kind.Sell query form = refl
shown kind.Bid query form = refl
shown kind.Buy query form = refl
shown kind.Close query form = refl
shown kind.Feedback query form = refl

abbrev pub AtTheirPaths : Type 0
AtTheirPaths =
    (path : List ℕ) (method : MethodKind) (asked : SiteAction)
    → (routed path method ≡ lead.Action asked) ↔ ((path ≡ path_of asked) × (asks method asked ≡ true) × HasId asked)

pub sent : AtTheirPaths → (which : FormKind) → routed (form_address which) Post ≡ lead.Action (filled_for which)
sent paths kind.Register = (paths (form_address kind.Register) Post (filled_for kind.Register)).1 (refl, refl, tt)
sent paths kind.SignIn = (paths (form_address kind.SignIn) Post (filled_for kind.SignIn)).1 (refl, refl, tt)
sent paths kind.SignOut = (paths (form_address kind.SignOut) Post (filled_for kind.SignOut)).1 (refl, refl, tt)
sent paths kind.Category = (paths (form_address kind.Category) Post (filled_for kind.Category)).1 (refl, refl, tt)
sent paths kind.Sell = (paths (form_address kind.Sell) Post (filled_for kind.Sell)).1 (refl, refl, tt)
sent paths kind.Bid = (paths (form_address kind.Bid) Post (filled_for kind.Bid)).1 (refl, refl, tt)
sent paths kind.Buy = (paths (form_address kind.Buy) Post (filled_for kind.Buy)).1 (refl, refl, tt)
sent paths kind.Close = (paths (form_address kind.Close) Post (filled_for kind.Close)).1 (refl, refl, tt)
sent paths kind.Feedback = (paths (form_address kind.Feedback) Post (filled_for kind.Feedback)).1 (refl, refl, tt)

pub alike : map field_text (call.Name ∷ call.Password ∷ call.Category ∷ call.Page ∷ call.Item ∷ call.Title
    ∷ call.Start ∷ call.BuyNow ∷ call.Hours ∷ call.Amount ∷ call.Text ∷ [])
    ≡ map field_name (form_field.Name ∷ form_field.Password ∷ form_field.Category ∷ form_field.Page ∷ form_field.Item
    ∷ form_field.Title ∷ form_field.Start ∷ form_field.BuyNow ∷ form_field.Hours ∷ form_field.Amount ∷ form_field.Text ∷ [])
unfolding field_name
alike = refl
