-- A request has one decision.
use Rattle.std.proofs.Common.{◌≡◌, ◌≢◌, ℕ, Bool, true, false, List, Option, Some, None, Result, Ok, Err, refl, ap, sym, subst, ◌∙◌}
use Rattle.crash_base.specs.declared.numbers.RequestNo.{RequestNo}
use Rattle.crash_base.specs.declared.numbers.SessionKey.{SessionKey}
use Rattle.auction_calls.specs.declared.action.Action.{Action}
use Rattle.http_wire.specs.declared.taken.Head.{Head}
use Rattle.http_wire.specs.declared.taken.MethodKind.{MethodKind}
use Rattle.http_wire.specs.declared.taken.MethodKind.TheVariants.{Get, HeadOnly, Post, Other}
use Rattle.session_cookie.specs.Text.{IsAnswer, IsTextOf}
use Rattle.session_cookie.specs.Token.{IsReadAs, IsRequest, token_of}
use Rattle.session_cookie.specs.declared.codec.CookieRefusal.{CookieRefusal}
use Rattle.session_cookie.specs.declared.codec.CookieRefusal.TheVariants.{OutOfMemory}
use Rattle.session_cookie.specs.declared.cookie.Cookie.{Cookie}
use Rattle.site_routes.specs.PathActions.{routed}
use Rattle.site_routes.specs.declared.path_actions.SiteAction.{SiteAction}
use Rattle.site_routes.specs.declared.routed.Routed.{Routed}
use Rattle.site_routes.specs.declared.routed.Routed.TheVariants as lead
use Rattle.action_fields.specs.Asked.{asked_action}
use Rattle.action_fields.specs.Reading.{token_in}
use Rattle.action_fields.specs.declared.form_field.FormField.{FormField}
use Rattle.request_decisions.specs.Decisions.{IsAccepted, IsAsked, IsByFields, IsByForm, IsByMethod, IsByRoute, IsDecided, IsTokenOf, IsTokenText, by_token, target_path, target_query}
use Rattle.request_decisions.specs.declared.decision.Decision.{Decision}

-- a text that is a cookie is decoded to it
abbrev pub CookiesDecodeBack : Type 0
CookiesDecodeBack =
    (key text : List ℕ) (cookie : Cookie) (a : Result Cookie CookieRefusal)
    → IsTextOf key cookie text → IsAnswer key text a → a ≢ Err OutOfMemory → a ≡ Ok cookie

-- a text is the token of one request
abbrev pub TokensAreOfOneRequest : Type 0
TokensAreOfOneRequest =
    (key other_key : List ℕ) (session other_session : SessionKey) (r other : RequestNo)
    → IsRequest r → IsRequest other → token_of key session r ≡ token_of other_key other_session other → r ≡ other

module _ (back : CookiesDecodeBack) (alone : TokensAreOfOneRequest) (key : List ℕ) (boot : ℕ) where
  one_cookie : (text : Option (List ℕ)) (a b : Option Cookie) → IsAccepted key text a → IsAccepted key text b → a ≡ b
  one_cookie None a b x y = x ∙ sym y
  one_cookie (Some text) (Some c) (Some d) x y =
      let same : ◌≡◌ {A = Result Cookie CookieRefusal} (Ok c) (Ok d) = back key text d (Ok c) y x (λ e. cc) in cc
  one_cookie (Some text) (Some c) None x y = absurd (y c x)
  one_cookie (Some text) None (Some d) x y = absurd (x d y)
  one_cookie (Some text) None None x y = refl

  one_request : (session : SessionKey) (text : List ℕ) (a b : Option RequestNo) → IsReadAs key session text a → IsReadAs key session text b → a ≡ b
  one_request session text (Some r) (Some q) x y = ap (λ n. Some n) (alone key key session session r q x.0 y.0 (sym x.1 ∙ y.1))
  one_request session text (Some r) None x y = absurd (y r x.0 x.1)
  one_request session text None (Some q) x y = absurd (x q y.0 y.1)
  one_request session text None None x y = refl

  one_read : (cookie : Cookie) (text : Result (List ℕ) FormField) (a b : Option RequestNo) → IsTokenText key cookie text a → IsTokenText key cookie text b → a ≡ b
  one_read cookie (Ok text) a b x y = one_request cookie.key text a b x y
  one_read cookie (Err which) a b x y = x ∙ sym y

  one_token : (accepted : Option Cookie) (form : List ℕ) (a b : Option RequestNo) → IsTokenOf key accepted form a → IsTokenOf key accepted form b → a ≡ b
  one_token None form a b x y = x ∙ sym y
  one_token (Some cookie) form a b x y = one_read cookie (token_in form) a b x y

  one_by_method : (method : MethodKind) (form : List ℕ) (asked : Action) (accepted : Option Cookie) (d e : Decision)
      → IsByMethod key boot method form asked accepted d → IsByMethod key boot method form asked accepted e → d ≡ e
  one_by_method Get form asked accepted d e x y = x ∙ sym y
  one_by_method HeadOnly form asked accepted d e x y = x ∙ sym y
  one_by_method Other form asked accepted d e x y = x ∙ sym y
  one_by_method Post form asked accepted d e x y =
      x.decided ∙ ap (by_token boot asked accepted) (one_token accepted form x.token y.token x.read y.read) ∙ sym y.decided

  one_asked : (head : Head) (asked : Action) (d e : Decision) → IsAsked key boot head asked d → IsAsked key boot head asked e → d ≡ e
  one_asked head asked d e x y =
      let same : x.cookie ≡ y.cookie = one_cookie head.cookie x.cookie y.cookie x.accepted y.accepted in
      one_by_method head.method head.body asked y.cookie d e
      (subst (λ (k : Option Cookie). IsByMethod key boot head.method head.body asked k d) same x.decided) y.decided

  one_by_fields : (head : Head) (read : Result Action FormField) (d e : Decision) → IsByFields key boot head read d → IsByFields key boot head read e → d ≡ e
  one_by_fields head (Err which) d e x y = x ∙ sym y
  one_by_fields head (Ok asked) d e x y = one_asked head asked d e x y

  one_by_form : (head : Head) (asked : SiteAction) (parts : Bool) (d e : Decision) → IsByForm key boot head asked parts d → IsByForm key boot head asked parts e → d ≡ e
  one_by_form head asked true d e x y = x ∙ sym y
  one_by_form head asked false d e x y = one_by_fields head (asked_action asked (target_query head.target) head.body) d e x y

  one_by_route : (head : Head) (leads : Routed) (d e : Decision) → IsByRoute key boot head leads d → IsByRoute key boot head leads e → d ≡ e
  one_by_route head lead.NotThere d e x y = x ∙ sym y
  one_by_route head (lead.NotAllowed allow) d e x y = x ∙ sym y
  one_by_route head (lead.Action asked) d e x y = one_by_form head asked head.multipart d e x y

pub one_decision : CookiesDecodeBack → TokensAreOfOneRequest → (key : List ℕ) (boot : ℕ) (head : Head) (d e : Decision)
    → IsDecided key boot head d → IsDecided key boot head e → d ≡ e
unfolding IsDecided
one_decision back alone key boot head d e x y =
    one_by_route back alone key boot head (routed (target_path head.target) head.method) d e x y
