-- A request is ordered exactly where nothing refuses it.
use Rattle.std.proofs.Common.{◌≡◌, ◌↔◌, ℕ, ◌==◌, Bool, true, false, cond, List, Option, Some, None, Result, Ok, Err, refl, sym, ap, subst, ◌∙◌}
use Rattle.std.proofs.lemmas.Bool.{eq-eqb, eqb-true}
use Rattle.crash_base.specs.declared.numbers.RequestNo.{RequestNo}
use Rattle.auction_calls.specs.Calls.{is_action}
use Rattle.auction_calls.specs.declared.action.Action.{Action}
use Rattle.http_wire.specs.declared.taken.Head.{Head}
use Rattle.http_wire.specs.declared.taken.MethodKind.{MethodKind}
use Rattle.http_wire.specs.declared.taken.MethodKind.TheVariants.{Get, HeadOnly, Post, Other}
use Rattle.session_cookie.specs.Text.{IsTextOf}
use Rattle.session_cookie.specs.declared.codec.CookieRefusal.{CookieRefusal}
use Rattle.session_cookie.specs.declared.cookie.Cookie.{Cookie}
use Rattle.site_routes.specs.PathActions.{routed}
use Rattle.site_routes.specs.Paths.{HasId, asks, path_of}
use Rattle.site_routes.specs.declared.path_actions.SiteAction.{SiteAction}
use Rattle.site_routes.specs.declared.routed.Routed.{Routed}
use Rattle.site_routes.specs.declared.routed.Routed.TheVariants as lead
use Rattle.action_fields.specs.Asked.{asked_action}
use Rattle.action_fields.specs.Reading.{token_in}
use Rattle.action_fields.specs.Said.{IsSaid, route_of}
use Rattle.action_fields.specs.declared.form_field.FormField.{FormField}
use Rattle.request_decisions.specs.Decisions.{AsksFor, HasTokenOfSession, IsAccepted, IsByFields, IsByForm, IsByMethod, IsByRoute, IsDecided, IsNumbered, IsOrdered, IsTokenOf, IsTokenText, by_token, ordered, target_path, target_query}
use Rattle.request_decisions.specs.declared.decision.Decision.{Decision}
use Rattle.request_decisions.specs.declared.decision.Decision.TheVariants.{Refused, Ordered}
use Rattle.request_decisions.specs.declared.decision.Order.{Order}
use Rattle.request_decisions.specs.declared.decision.Refusal.TheVariants as refusal
use Rattle.request_decisions.proofs.One.{CookiesDecodeBack}

same_order : (o p : Order) → Ordered o ≡ Ordered p → o ≡ p
same_order o p e = cc

-- what is decided of a request that asks for an action
pub asked_back : (key : List ℕ) (boot : ℕ) (head : Head) (action : Action) (cookie : Option Cookie) (d : Decision)
    → AsksFor key head action cookie → IsByMethod key boot head.method head.body action cookie d → IsDecided key boot head d
unfolding IsDecided
asked_back key boot head action cookie d h decided =
    subst (λ (leads : Routed). IsByRoute key boot head leads d) (sym h.leads)
    (subst (λ (parts : Bool). IsByForm key boot head h.asked parts d) (sym h.whole)
    (subst (λ (read : Result Action FormField). IsByFields key boot head read d) (sym h.read)
    (record { cookie = cookie; accepted = h.accepted; decided = decided })))

module _ (key : List ℕ) (boot : ℕ) (o : Order) where
  by_text : (form : List ℕ) (cookie : Cookie) (request : RequestNo) (text : Result (List ℕ) FormField) → token_in form ≡ text
      → IsTokenText key cookie text (Some request) → o.cookie ≡ Some cookie → o.number ≡ Some request → request.boot ≡ boot
      → HasTokenOfSession key boot form o
  by_text form cookie request (Ok text) read is cookie_is number_is here = record {
    cookie = cookie;
    request = request;
    cookie_is = cookie_is;
    number_is = number_is;
    in_range = is.0;
    in_boot = here;
    token = read ∙ ap (λ (t : List ℕ). Ok t) is.1;
  }
  by_text form cookie request (Err which) read is cookie_is number_is here = absurd (cc)

  by_cookie : (form : List ℕ) (accepted : Option Cookie) (request : RequestNo) → IsTokenOf key accepted form (Some request)
      → o.cookie ≡ accepted → o.number ≡ Some request → request.boot ≡ boot → HasTokenOfSession key boot form o
  by_cookie form None request is cookie_is number_is here = absurd (cc)
  by_cookie form (Some cookie) request is cookie_is number_is here =
      by_text form cookie request (token_in form) refl is cookie_is number_is here

  -- an order has the action and the cookie that it was decided by, and its number
  abbrev Has : MethodKind → List ℕ → Action → Option Cookie → Type 0
  Has method form asked accepted = (o.action ≡ asked) × (o.cookie ≡ accepted) × IsNumbered key boot method form o

  by_boot : (form : List ℕ) (asked : Action) (accepted : Option Cookie) (request : RequestNo) (test : Bool) → (request.boot == boot) ≡ test
      → IsTokenOf key accepted form (Some request)
      → Ordered o ≡ cond test (ordered asked (Some request) accepted) (Refused (refusal.StaleForm request.boot boot))
      → Has Post form asked accepted
  by_boot form asked accepted request false e is h = absurd (cc)
  by_boot form asked accepted request true e is h =
      let same : o ≡ record { action = asked; number = Some request; cookie = accepted } = same_order o _ h in
      let cookie_is : o.cookie ≡ accepted = ap (λ (p : Order). p.cookie) same in (
        ap (λ (p : Order). p.action) same,
        cookie_is,
        by_cookie form accepted request is cookie_is (ap (λ (p : Order). p.number) same) (eqb-true request.boot boot e),
      )

  by_request : (form : List ℕ) (asked : Action) (accepted : Option Cookie) (token : Option RequestNo)
      → IsTokenOf key accepted form token → Ordered o ≡ by_token boot asked accepted token → Has Post form asked accepted
  by_request form asked accepted None is h = absurd (cc)
  by_request form asked accepted (Some request) is h = by_boot form asked accepted request (request.boot == boot) refl is h

  without : (asked : Action) (accepted : Option Cookie) → Ordered o ≡ ordered asked None accepted
      → (o.action ≡ asked) × (o.cookie ≡ accepted) × (o.number ≡ None)
  without asked accepted h =
      let same : o ≡ record { action = asked; number = None; cookie = accepted } = same_order o _ h in
      (ap (λ (p : Order). p.action) same, ap (λ (p : Order). p.cookie) same, ap (λ (p : Order). p.number) same)

  by_method : (method : MethodKind) (form : List ℕ) (asked : Action) (accepted : Option Cookie)
      → IsByMethod key boot method form asked accepted (Ordered o) → Has method form asked accepted
  by_method Get form asked accepted h = without asked accepted h
  by_method HeadOnly form asked accepted h = without asked accepted h
  by_method Other form asked accepted h = without asked accepted h
  by_method Post form asked accepted h = by_request form asked accepted h.token h.read h.decided

  by_fields : (head : Head) (asked : SiteAction) (read : Result Action FormField)
      → routed (target_path head.target) head.method ≡ lead.Action asked → head.multipart ≡ false
      → asked_action asked (target_query head.target) head.body ≡ read
      → IsByFields key boot head read (Ordered o) → IsOrdered key boot head o
  by_fields head asked (Err which) leads whole read h = absurd (cc)
  by_fields head asked (Ok action) leads whole read h =
      let has = by_method head.method head.body action h.cookie h.decided in
      let asks : AsksFor key head o.action o.cookie = record {
        asked = asked;
        leads = leads;
        whole = whole;
        read = read ∙ ap (λ (a : Action). Ok a) (sym has.0);
        accepted = subst (λ (c : Option Cookie). IsAccepted key head.cookie c) (sym has.1) h.accepted;
      } in
      record { asks = asks; numbered = has.2 }

  by_form : (head : Head) (asked : SiteAction) (parts : Bool) → head.multipart ≡ parts
      → routed (target_path head.target) head.method ≡ lead.Action asked
      → IsByForm key boot head asked parts (Ordered o) → IsOrdered key boot head o
  by_form head asked true whole leads h = absurd (cc)
  by_form head asked false whole leads h =
      by_fields head asked (asked_action asked (target_query head.target) head.body) leads whole refl h

  by_route : (head : Head) (leads : Routed) → routed (target_path head.target) head.method ≡ leads
      → IsByRoute key boot head leads (Ordered o) → IsOrdered key boot head o
  by_route head lead.NotThere e h = absurd (cc)
  by_route head (lead.NotAllowed allow) e h = absurd (cc)
  by_route head (lead.Action asked) e h = by_form head asked head.multipart refl e h

  -- back: the order of what nothing refuses
  same_parts : (number : Option RequestNo) → o.number ≡ number → Ordered o ≡ ordered o.action number o.cookie
  same_parts number e = ap (λ (n : Option RequestNo). ordered o.action n o.cookie) e

  token_reads : (form : List ℕ) (h : HasTokenOfSession key boot form o) → IsTokenOf key o.cookie form (Some h.request)
  token_reads form h =
      subst (λ (c : Option Cookie). IsTokenOf key c form (Some h.request)) (sym h.cookie_is)
      (subst (λ (t : Result (List ℕ) FormField). IsTokenText key h.cookie t (Some h.request)) (sym h.token) (h.in_range, refl))

  token_decides : (request : RequestNo) → request.boot ≡ boot → o.number ≡ Some request
      → Ordered o ≡ by_token boot o.action o.cookie (Some request)
  token_decides request here number_is =
      same_parts (Some request) number_is
      ∙ ap (λ (test : Bool). cond test (ordered o.action (Some request) o.cookie) (Refused (refusal.StaleForm request.boot boot)))
      (sym (eq-eqb request.boot boot here))

  numbered_back : (method : MethodKind) (form : List ℕ) → IsNumbered key boot method form o
      → IsByMethod key boot method form o.action o.cookie (Ordered o)
  numbered_back Get form h = same_parts None h
  numbered_back HeadOnly form h = same_parts None h
  numbered_back Other form h = same_parts None h
  numbered_back Post form h = record {
    token = Some h.request;
    read = token_reads form h;
    decided = token_decides h.request h.in_boot h.number_is;
  }

pub orders_exact : (key : List ℕ) (boot : ℕ) (head : Head) (o : Order)
    → IsDecided key boot head (Ordered o) ↔ IsOrdered key boot head o
unfolding IsDecided
orders_exact key boot head o = (
  by_route key boot o head (routed (target_path head.target) head.method) refl,
  λ h. asked_back key boot head o.action o.cookie (Ordered o) h.asks (numbered_back key boot o head.method head.body h.numbered),
)

pub posts_have_tokens : (key : List ℕ) (boot : ℕ) (head : Head) (o : Order)
    → IsDecided key boot head (Ordered o) → head.method ≡ Post → HasTokenOfSession key boot head.body o
posts_have_tokens key boot head o h posted =
    subst (λ (method : MethodKind). IsNumbered key boot method head.body o) posted ((orders_exact key boot head o).0 h).numbered

-- an action is at its path, with an id
abbrev pub AtTheirPaths : Type 0
AtTheirPaths =
    (path : List ℕ) (method : MethodKind) (asked : SiteAction)
    → (routed path method ≡ lead.Action asked) ↔ ((path ≡ path_of asked) × (asks method asked ≡ true) × HasId asked)

-- an action is read where it is said and in its ranges
abbrev pub AreReadExactly : Type 0
AreReadExactly =
    (asked : SiteAction) (query form : List ℕ) (action : Action) → HasId asked
    → (asked_action asked query form ≡ Ok action) ↔ ((route_of action ≡ asked) × IsSaid action query form × (is_action action ≡ true))

pub in_range : AtTheirPaths → AreReadExactly → (key : List ℕ) (boot : ℕ) (head : Head) (o : Order)
    → IsDecided key boot head (Ordered o) → is_action o.action ≡ true
in_range at_paths exactly key boot head o h =
    let is = ((orders_exact key boot head o).0 h).asks in
    let at = (at_paths (target_path head.target) head.method is.asked).0 is.leads in
    ((exactly is.asked (target_query head.target) head.body o.action at.2).0 is.read).2

-- the cookie that is accepted is the one whose text is there
module _ (key : List ℕ) (cookie : Cookie) where
  text_there : (text : Option (List ℕ)) (c : Option Cookie) → IsAccepted key text c → c ≡ Some cookie
      → (t : List ℕ) × (text ≡ Some t) × IsTextOf key cookie t
  text_there None c accepted e = absurd (cc)
  text_there (Some t) None accepted e = absurd (cc)
  text_there (Some t) (Some d) accepted e =
      let same : d ≡ cookie = cc in
      (t, refl, subst (λ (x : Cookie). IsTextOf key x t) same accepted)

  text_taken : CookiesDecodeBack → (text : Option (List ℕ)) (c : Option Cookie) (t : List ℕ) → IsAccepted key text c → text ≡ Some t
      → IsTextOf key cookie t → c ≡ Some cookie
  text_taken back None c t accepted e is = absurd (cc)
  text_taken back (Some u) None t accepted e is =
      let same : t ≡ u = cc in absurd (accepted cookie (subst (λ (x : List ℕ). IsTextOf key cookie x) same is))
  text_taken back (Some u) (Some d) t accepted e is =
      let same : t ≡ u = cc in
      let here : IsTextOf key cookie u = subst (λ (x : List ℕ). IsTextOf key cookie x) same is in
      let one : ◌≡◌ {A = Result Cookie CookieRefusal} (Ok d) (Ok cookie) = back key u cookie (Ok d) here accepted (λ no_memory. cc) in
      cc

pub text_of_cookie : (key : List ℕ) (boot : ℕ) (head : Head) (o : Order) (cookie : Cookie)
    → IsDecided key boot head (Ordered o) → o.cookie ≡ Some cookie → (text : List ℕ) × (head.cookie ≡ Some text) × IsTextOf key cookie text
text_of_cookie key boot head o cookie h e =
    text_there key cookie head.cookie o.cookie ((orders_exact key boot head o).0 h).asks.accepted e

pub cookie_of_text : CookiesDecodeBack → (key : List ℕ) (boot : ℕ) (head : Head) (o : Order) (cookie : Cookie) (text : List ℕ)
    → IsDecided key boot head (Ordered o) → head.cookie ≡ Some text → IsTextOf key cookie text → o.cookie ≡ Some cookie
cookie_of_text back key boot head o cookie text h e is =
    text_taken key cookie back head.cookie o.cookie text ((orders_exact key boot head o).0 h).asks.accepted e is
