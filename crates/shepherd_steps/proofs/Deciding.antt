-- A request is decided as the function says.
use Rattle.std.proofs.Common.{ℕ, Bool, true, false, List, Option, Some, None, Result, Ok, Err, refl}
use Rattle.action_fields.specs.Asked.{asked_action}
use Rattle.action_fields.specs.Reading.{token_in}
use Rattle.action_fields.specs.declared.form_field.FormField.{FormField}
use Rattle.auction_calls.specs.declared.action.Action.{Action}
use Rattle.http_wire.specs.declared.taken.Head.{Head}
use Rattle.http_wire.specs.declared.taken.MethodKind.{MethodKind}
use Rattle.http_wire.specs.declared.taken.MethodKind.TheVariants.{Get, HeadOnly, Post, Other}
use Rattle.request_decisions.specs.Decisions.{IsAccepted, IsByFields, IsByForm, IsByMethod, IsByRoute, IsDecided, IsTokenOf, IsTokenText, target_path, target_query}
use Rattle.session_cookie.specs.declared.cookie.Cookie.{Cookie}
use Rattle.site_routes.specs.PathActions.{routed}
use Rattle.site_routes.specs.declared.path_actions.SiteAction.{SiteAction}
use Rattle.site_routes.specs.declared.routed.Routed.{Routed}
use Rattle.site_routes.specs.declared.routed.Routed.TheVariants as lead
use Rattle.shepherd_steps.specs.Deciding.{ReadRightly, Readings, accepted_by, by_fields, by_form, by_method, by_route, decided_by, token_by, token_read}

module _ (key : List ℕ) (readings : Readings) (rightly : ReadRightly key readings) where
  accepted-so : (text : Option (List ℕ)) → IsAccepted key text (accepted_by readings text)
  accepted-so None = refl
  accepted-so (Some text) = rightly.cookies text

  read-so : (cookie : Cookie) (text : Result (List ℕ) FormField) → IsTokenText key cookie text (token_read readings cookie text)
  read-so cookie (Ok text) = rightly.tokens cookie text
  read-so cookie (Err field) = refl

  token-so : (accepted : Option Cookie) (form : List ℕ) → IsTokenOf key accepted form (token_by readings accepted form)
  token-so None form = refl
  token-so (Some cookie) form = read-so cookie (token_in form)

  method-so : (boot : ℕ) (method : MethodKind) (form : List ℕ) (asked : Action) (accepted : Option Cookie)
      → IsByMethod key boot method form asked accepted (by_method readings boot method form asked accepted)
  method-so boot Get form asked accepted = refl
  method-so boot HeadOnly form asked accepted = refl
  method-so boot Other form asked accepted = refl
  method-so boot Post form asked accepted =
      record { token = token_by readings accepted form; read = token-so accepted form; decided = refl }

  fields-so : (boot : ℕ) (head : Head) (asked : Result Action FormField) → IsByFields key boot head asked (by_fields readings boot head asked)
  fields-so boot head (Err field) = refl
  fields-so boot head (Ok asked) = record {
    cookie = accepted_by readings head.cookie;
    accepted = accepted-so head.cookie;
    decided = method-so boot head.method head.body asked (accepted_by readings head.cookie);
  }

  form-so : (boot : ℕ) (head : Head) (asked : SiteAction) (multipart : Bool) → IsByForm key boot head asked multipart (by_form readings boot head asked multipart)
  form-so boot head asked true = refl
  form-so boot head asked false = fields-so boot head (asked_action asked (target_query head.target) head.body)

  route-so : (boot : ℕ) (head : Head) (to : Routed) → IsByRoute key boot head to (by_route readings boot head to)
  route-so boot head lead.NotThere = refl
  route-so boot head (lead.NotAllowed allow) = refl
  route-so boot head (lead.Action asked) = form-so boot head asked head.multipart

  pub decided-so : (boot : ℕ) (head : Head) → IsDecided key boot head (decided_by readings boot head)
  unfolding IsDecided decided_by
  decided-so boot head = route-so boot head (routed (target_path head.target) head.method)
