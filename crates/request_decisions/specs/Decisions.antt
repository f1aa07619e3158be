-- What is decided of a request, in the order of the decisions.
use Rattle.std.specs.Prelude.{◌≡◌, ◌==◌, ℕ, Bool, true, false, if◌then◌else◌, List, Option, Some, None, Result, Ok, Err}
use Rattle.std.specs.List.{after_first, before_first}
use Rattle.crash_base.specs.declared.numbers.RequestNo.{RequestNo}
use Rattle.auction_calls.specs.declared.action.Action.{Action}
use Rattle.http_wire.specs.declared.taken.Head.{Head}
use Rattle.http_wire.specs.declared.taken.MethodKind.{MethodKind}
use Rattle.http_wire.specs.declared.taken.MethodKind.TheVariants.{Get, HeadOnly, Post, Other}
use Rattle.session_cookie.specs.Text.{IsTextOf}
use Rattle.session_cookie.specs.Token.{IsReadAs, IsRequest, token_of}
use Rattle.session_cookie.specs.declared.cookie.Cookie.{Cookie}
use Rattle.site_routes.specs.PathActions.{routed}
use Rattle.site_routes.specs.declared.path_actions.SiteAction.{SiteAction}
use Rattle.site_routes.specs.declared.routed.Routed.{Routed}
use Rattle.site_routes.specs.declared.routed.Routed.TheVariants as lead
use Rattle.action_fields.specs.Asked.{asked_action}
use Rattle.action_fields.specs.Reading.{token_in}
use Rattle.action_fields.specs.declared.form_field.FormField.{FormField}
use Rattle.action_fields.specs.declared.form_field.FormField.TheVariants.{Token}
use Rattle.request_decisions.specs.declared.decision.Decision.{Decision}
use Rattle.request_decisions.specs.declared.decision.Decision.TheVariants.{Refused, Ordered}
use Rattle.request_decisions.specs.declared.decision.Order.{Order}
use Rattle.request_decisions.specs.declared.decision.Refusal.TheVariants as refusal

-- the path of a target: what stands before its first `?`
unfoldable pub target_path : List ℕ → List ℕ
target_path target = before_first (λ byte. byte == 63) target

-- its query: what stands behind that
unfoldable pub target_query : List ℕ → List ℕ
target_query target = after_first (λ byte. byte == 63) target

-- The cookie that is accepted: the one whose text under the key this is, and none where it is the text of none.
abbrev pub IsAccepted : List ℕ → Option (List ℕ) → Option Cookie → Type 0
IsAccepted key None cookie = cookie ≡ None
IsAccepted key (Some text) (Some cookie) = IsTextOf key cookie text
IsAccepted key (Some text) None = (cookie : Cookie) → ¬ IsTextOf key cookie text

-- what the text of a token is read as, in the session of a cookie
abbrev pub IsTokenText : List ℕ → Cookie → Result (List ℕ) FormField → Option RequestNo → Type 0
IsTokenText key cookie (Ok text) token = IsReadAs key cookie.key text token
IsTokenText key cookie (Err field) token = token ≡ None

-- The request whose token a form has: one of the session of the cookie that was accepted, and none without that cookie.
abbrev pub IsTokenOf : List ℕ → Option Cookie → List ℕ → Option RequestNo → Type 0
IsTokenOf key None form token = token ≡ None
IsTokenOf key (Some cookie) form token = IsTokenText key cookie (token_in form) token

-- an order
abbrev pub ordered : Action → Option RequestNo → Option Cookie → Decision
ordered asked number accepted = Ordered (record { action = asked; number = number; cookie = accepted })

-- what is decided of a POST whose fields are good, by the request of its token: it must be there, and of this boot
abbrev pub by_token : ℕ → Action → Option Cookie → Option RequestNo → Decision
by_token boot asked accepted None = Refused (refusal.BadForm Token)
by_token boot asked accepted (Some request) =
    if request.boot == boot then ordered asked (Some request) accepted else Refused (refusal.StaleForm request.boot boot)

-- A POST whose fields are good is decided by its token.
pub record IsPosted (key : List ℕ) (boot : ℕ) (form : List ℕ) (asked : Action) (accepted : Option Cookie) (decision : Decision) : Type 0 where
  pub token : Option RequestNo
  pub read : IsTokenOf key accepted form token
  pub decided : decision ≡ by_token boot asked accepted token

-- a request whose fields are good and whose cookie was accepted is decided by its method
abbrev pub IsByMethod : List ℕ → ℕ → MethodKind → List ℕ → Action → Option Cookie → Decision → Type 0
IsByMethod key boot Get form asked accepted decision = decision ≡ ordered asked None accepted
IsByMethod key boot HeadOnly form asked accepted decision = decision ≡ ordered asked None accepted
IsByMethod key boot Other form asked accepted decision = decision ≡ ordered asked None accepted
IsByMethod key boot Post form asked accepted decision = IsPosted key boot form asked accepted decision

-- A request whose fields are good is decided with the cookie that is accepted.
pub record IsAsked (key : List ℕ) (boot : ℕ) (head : Head) (asked : Action) (decision : Decision) : Type 0 where
  pub cookie : Option Cookie
  pub accepted : IsAccepted key head.cookie cookie
  pub decided : IsByMethod key boot head.method head.body asked cookie decision

-- a request is decided by its fields
abbrev pub IsByFields : List ℕ → ℕ → Head → Result Action FormField → Decision → Type 0
IsByFields key boot head (Err field) decision = decision ≡ Refused (refusal.BadForm field)
IsByFields key boot head (Ok asked) decision = IsAsked key boot head asked decision

-- a request that leads to an action is decided by whether its form is understood, and then by its fields
abbrev pub IsByForm : List ℕ → ℕ → Head → SiteAction → Bool → Decision → Type 0
IsByForm key boot head asked true decision = decision ≡ Refused refusal.Multipart
IsByForm key boot head asked false decision =
    IsByFields key boot head (asked_action asked (target_query head.target) head.body) decision

-- a request is decided by where it leads
abbrev pub IsByRoute : List ℕ → ℕ → Head → Routed → Decision → Type 0
IsByRoute key boot head lead.NotThere decision = decision ≡ Refused refusal.NotThere
IsByRoute key boot head (lead.NotAllowed allow) decision = decision ≡ Refused (refusal.NotAllowed allow)
IsByRoute key boot head (lead.Action asked) decision = IsByForm key boot head asked head.multipart decision

-- A request is decided so: under the service's key, in this boot.
unfoldable pub IsDecided : List ℕ → ℕ → Head → Decision → Type 0
IsDecided key boot head decision = IsByRoute key boot head (routed (target_path head.target) head.method) decision

-- An order has the number of its form's token, which was written for the session of its cookie, in this boot.
pub record HasTokenOfSession (key : List ℕ) (boot : ℕ) (form : List ℕ) (o : Order) : Type 0 where
  pub cookie : Cookie
  pub request : RequestNo
  pub cookie_is : o.cookie ≡ Some cookie
  pub number_is : o.number ≡ Some request
  pub in_range : IsRequest request
  pub in_boot : request.boot ≡ boot
  pub token : token_in form ≡ Ok (token_of key cookie.key request)

-- the number of an order is that of its token where it is a POST, and else it has none
abbrev pub IsNumbered : List ℕ → ℕ → MethodKind → List ℕ → Order → Type 0
IsNumbered key boot Get form o = o.number ≡ None
IsNumbered key boot HeadOnly form o = o.number ≡ None
IsNumbered key boot Other form o = o.number ≡ None
IsNumbered key boot Post form o = HasTokenOfSession key boot form o

-- A request asks for an action with a cookie: it leads there, its form is not in parts, each field is good, and this is
-- the cookie that is accepted.
pub record AsksFor (key : List ℕ) (head : Head) (action : Action) (cookie : Option Cookie) : Type 0 where
  pub asked : SiteAction
  pub leads : routed (target_path head.target) head.method ≡ lead.Action asked
  pub whole : head.multipart ≡ false
  pub read : asked_action asked (target_query head.target) head.body ≡ Ok action
  pub accepted : IsAccepted key head.cookie cookie

-- A request is to be served by an order: it asks for its action with its cookie, and has its number.
pub record IsOrdered (key : List ℕ) (boot : ℕ) (head : Head) (o : Order) : Type 0 where
  pub asks : AsksFor key head o.action o.cookie
  pub numbered : IsNumbered key boot head.method head.body o
