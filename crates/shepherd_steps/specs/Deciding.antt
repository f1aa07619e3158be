-- What is decided of a request, as a function of what the text of a cookie and that of a token are read as.
use Rattle.std.specs.Prelude.{ℕ, Bool, true, false, List, Option, Some, None, Result, Ok, Err}
use Rattle.action_fields.specs.Asked.{asked_action}
use Rattle.action_fields.specs.Reading.{token_in}
use Rattle.action_fields.specs.declared.form_field.FormField.{FormField}
use Rattle.auction_calls.specs.declared.action.Action.{Action}
use Rattle.crash_base.specs.declared.numbers.RequestNo.{RequestNo}
use Rattle.http_wire.specs.declared.taken.Head.{Head}
use Rattle.http_wire.specs.declared.taken.MethodKind.{MethodKind}
use Rattle.http_wire.specs.declared.taken.MethodKind.TheVariants.{Get, HeadOnly, Post, Other}
use Rattle.request_decisions.specs.Decisions.{IsAccepted, by_token, ordered, target_path, target_query}
use Rattle.request_decisions.specs.declared.decision.Decision.{Decision}
use Rattle.request_decisions.specs.declared.decision.Decision.TheVariants.{Refused}
use Rattle.request_decisions.specs.declared.decision.Refusal.TheVariants as refusal
use Rattle.session_cookie.specs.Token.{IsReadAs}
use Rattle.session_cookie.specs.declared.cookie.Cookie.{Cookie}
use Rattle.site_routes.specs.PathActions.{routed}
use Rattle.site_routes.specs.declared.path_actions.SiteAction.{SiteAction}
use Rattle.site_routes.specs.declared.routed.Routed.{Routed}
use Rattle.site_routes.specs.declared.routed.Routed.TheVariants as lead

-- What a text is read as: as a cookie; and, in the session of a cookie, as the token of a request.
pub record Readings : Type 0 where
  pub cookies : List ℕ → Option Cookie
  pub tokens : Cookie → List ℕ → Option RequestNo

-- A text is read as the cookie whose text under the key it is, and as the request whose token of the session it is.
pub record ReadRightly (key : List ℕ) (readings : Readings) : Type 0 where
  pub cookies : (text : List ℕ) → IsAccepted key (Some text) (readings.cookies text)
  pub tokens : (cookie : Cookie) (text : List ℕ) → IsReadAs key cookie.key text (readings.tokens cookie text)

-- the cookie that is accepted, if a request bears one
abbrev pub accepted_by : Readings → Option (List ℕ) → Option Cookie
accepted_by readings None = None
accepted_by readings (Some text) = readings.cookies text

-- the request of a token's text, if the form has one
abbrev pub token_read : Readings → Cookie → Result (List ℕ) FormField → Option RequestNo
token_read readings cookie (Ok text) = readings.tokens cookie text
token_read readings cookie (Err field) = None

-- the request whose token a form has, in the session of the cookie that was accepted
abbrev pub token_by : Readings → Option Cookie → List ℕ → Option RequestNo
token_by readings None form = None
token_by readings (Some cookie) form = token_read readings cookie (token_in form)

-- what is decided of a request whose fields are good, by its method
abbrev pub by_method : Readings → ℕ → MethodKind → List ℕ → Action → Option Cookie → Decision
by_method readings boot Get form asked accepted = ordered asked None accepted
by_method readings boot HeadOnly form asked accepted = ordered asked None accepted
by_method readings boot Other form asked accepted = ordered asked None accepted
by_method readings boot Post form asked accepted = by_token boot asked accepted (token_by readings accepted form)

-- what is decided of a request by its fields
abbrev pub by_fields : Readings → ℕ → Head → Result Action FormField → Decision
by_fields readings boot head (Err field) = Refused (refusal.BadForm field)
by_fields readings boot head (Ok asked) =
    by_method readings boot head.method head.body asked (accepted_by readings head.cookie)

-- what is decided of a request that leads to an action, by whether its form is understood
abbrev pub by_form : Readings → ℕ → Head → SiteAction → Bool → Decision
by_form readings boot head asked true = Refused refusal.Multipart
by_form readings boot head asked false =
    by_fields readings boot head (asked_action asked (target_query head.target) head.body)

-- what is decided of a request by where it leads
abbrev pub by_route : Readings → ℕ → Head → Routed → Decision
by_route readings boot head lead.NotThere = Refused refusal.NotThere
by_route readings boot head (lead.NotAllowed allow) = Refused (refusal.NotAllowed allow)
by_route readings boot head (lead.Action asked) = by_form readings boot head asked head.multipart

-- What is decided of a request in a boot.
unfoldable pub decided_by : Readings → ℕ → Head → Decision
decided_by readings boot head = by_route readings boot head (routed (target_path head.target) head.method)
