-- Each refusal comes where it is so, in its order.
use Rattle.std.proofs.Common.{◌≡◌, ◌≢◌, ◌↔◌, ℕ, ◌+◌, ◌≤◌, ◌==◌, Bool, true, false, cond, List, Option, Some, None, Result, Ok, Err, refl, sym, ap, subst, arith}
use Rattle.std.proofs.lemmas.Bool.{ne_eqb}
use Rattle.crash_base.specs.declared.numbers.RequestNo.{RequestNo}
use Rattle.auction_calls.specs.declared.action.Action.{Action}
use Rattle.http_wire.specs.declared.taken.Head.{Head}
use Rattle.http_wire.specs.declared.taken.MethodKind.{MethodKind}
use Rattle.http_wire.specs.declared.taken.MethodKind.TheVariants.{Get, HeadOnly, Post, Other}
use Rattle.session_cookie.specs.declared.cookie.Cookie.{Cookie}
use Rattle.site_routes.specs.PathActions.{routed}
use Rattle.site_routes.specs.declared.path_actions.SiteAction.{SiteAction}
use Rattle.site_routes.specs.declared.routed.Routed.{Routed}
use Rattle.site_routes.specs.declared.routed.Routed.TheVariants as lead
use Rattle.action_fields.specs.Asked.{asked_action}
use Rattle.action_fields.specs.declared.form_field.FormField.{FormField}
use Rattle.action_fields.specs.declared.form_field.FormField.TheVariants.{Token}
use Rattle.request_decisions.specs.Decisions.{AsksFor, IsByFields, IsByForm, IsByMethod, IsByRoute, IsDecided, IsTokenOf, by_token, ordered, target_path, target_query}
use Rattle.request_decisions.specs.declared.decision.Decision.{Decision}
use Rattle.request_decisions.specs.declared.decision.Decision.TheVariants.{Refused, Ordered}
use Rattle.request_decisions.specs.declared.decision.Refusal.TheVariants as refusal
use Rattle.request_decisions.proofs.Orders.{asked_back}

-- how many decisions let a request pass before it was decided so
abbrev rank : Decision → ℕ
rank (Refused refusal.NotThere) = 0
rank (Refused (refusal.NotAllowed allow)) = 1
rank (Refused refusal.Multipart) = 2
rank (Refused (refusal.BadForm field)) = 3
rank (Refused (refusal.StaleForm token_boot boot)) = 4
rank (Ordered o) = 5

later : (n m : ℕ) (d e : Decision) → n ≤ rank d → rank e ≡ m → m + 1 ≤ n → d ≡ e → ⊥
later n m d e high is less same = let at : rank d ≡ rank e = ap rank same in absurd (omega arith)

module _ (key : List ℕ) (boot : ℕ) (head : Head) (d : Decision) where
  by_boot : (asked : Action) (accepted : Option Cookie) (request : RequestNo) (test : Bool)
      → 3 ≤ rank (cond test (ordered asked (Some request) accepted) (Refused (refusal.StaleForm request.boot boot)))
  by_boot asked accepted request true = omega arith
  by_boot asked accepted request false = omega arith

  by_request : (asked : Action) (accepted : Option Cookie) (token : Option RequestNo) → 3 ≤ rank (by_token boot asked accepted token)
  by_request asked accepted None = omega arith
  by_request asked accepted (Some request) = by_boot asked accepted request (request.boot == boot)

  by_method : (method : MethodKind) (form : List ℕ) (asked : Action) (accepted : Option Cookie)
      → IsByMethod key boot method form asked accepted d → 3 ≤ rank d
  by_method Get form asked accepted h = subst (λ (e : Decision). 3 ≤ rank e) (sym h) (omega arith)
  by_method HeadOnly form asked accepted h = subst (λ (e : Decision). 3 ≤ rank e) (sym h) (omega arith)
  by_method Other form asked accepted h = subst (λ (e : Decision). 3 ≤ rank e) (sym h) (omega arith)
  by_method Post form asked accepted h = subst (λ (e : Decision). 3 ≤ rank e) (sym h.decided) (by_request asked accepted h.token)

  by_fields : (read : Result Action FormField) → IsByFields key boot head read d → 3 ≤ rank d
  by_fields (Err field) h = subst (λ (e : Decision). 3 ≤ rank e) (sym h) (omega arith)
  by_fields (Ok asked) h = by_method head.method head.body asked h.cookie h.decided

  by_form : (asked : SiteAction) (parts : Bool) → IsByForm key boot head asked parts d → 2 ≤ rank d
  by_form asked true h = subst (λ (e : Decision). 2 ≤ rank e) (sym h) (omega arith)
  by_form asked false h = let high = by_fields (asked_action asked (target_query head.target) head.body) h in omega arith

  parts_exact : (asked : SiteAction) (parts : Bool) → IsByForm key boot head asked parts d → (d ≡ Refused refusal.Multipart) ↔ (parts ≡ true)
  parts_exact asked true h = (λ e. refl, λ e. h)
  parts_exact asked false h =
      let high = by_fields (asked_action asked (target_query head.target) head.body) h in
      (λ e. absurd (later 3 2 d (Refused refusal.Multipart) high refl (omega arith) e), λ e. absurd (cc))

  nowhere_exact : (leads : Routed) → IsByRoute key boot head leads d → (d ≡ Refused refusal.NotThere) ↔ (leads ≡ lead.NotThere)
  nowhere_exact lead.NotThere h = (λ e. refl, λ e. h)
  nowhere_exact (lead.NotAllowed allow) h = (λ e. absurd (cc), λ e. absurd (cc))
  nowhere_exact (lead.Action asked) h =
      (λ e. absurd (later 2 0 d (Refused refusal.NotThere) (by_form asked head.multipart h) refl (omega arith) e), λ e. absurd (cc))

  method_exact : (allow : ℕ) (leads : Routed) → IsByRoute key boot head leads d
      → (d ≡ Refused (refusal.NotAllowed allow)) ↔ (leads ≡ lead.NotAllowed allow)
  method_exact allow lead.NotThere h = (λ e. absurd (cc), λ e. absurd (cc))
  method_exact allow (lead.NotAllowed other) h = (λ e. cc, λ e. cc)
  method_exact allow (lead.Action asked) h =
      (λ e. absurd (later 2 1 d (Refused (refusal.NotAllowed allow)) (by_form asked head.multipart h) refl (omega arith) e), λ e. absurd (cc))

  in_parts : (leads : Routed) → IsByRoute key boot head leads d → d ≡ Refused refusal.Multipart
      → (asked : SiteAction) × (leads ≡ lead.Action asked) × (head.multipart ≡ true)
  in_parts lead.NotThere h e = absurd (cc)
  in_parts (lead.NotAllowed allow) h e = absurd (cc)
  in_parts (lead.Action asked) h e = (asked, refl, (parts_exact asked head.multipart h).0 e)

-- the refusal of each request that calls for one
module _ (key : List ℕ) (boot : ℕ) (head : Head) where
  pub nowhere : IsDecided key boot head (Refused refusal.NotThere) ↔ (routed (target_path head.target) head.method ≡ lead.NotThere)
  unfolding IsDecided
  nowhere = (
    λ h. (nowhere_exact key boot head (Refused refusal.NotThere) (routed (target_path head.target) head.method) h).0 refl,
    λ e. subst (λ (leads : Routed). IsByRoute key boot head leads (Refused refusal.NotThere)) (sym e) refl,
  )

  pub not_allowed : (allow : ℕ) → IsDecided key boot head (Refused (refusal.NotAllowed allow))
      ↔ (routed (target_path head.target) head.method ≡ lead.NotAllowed allow)
  unfolding IsDecided
  not_allowed allow = (
    λ h. (method_exact key boot head (Refused (refusal.NotAllowed allow)) allow (routed (target_path head.target) head.method) h).0 refl,
    λ e. subst (λ (leads : Routed). IsByRoute key boot head leads (Refused (refusal.NotAllowed allow))) (sym e) refl,
  )

  pub parts : IsDecided key boot head (Refused refusal.Multipart)
      ↔ ((asked : SiteAction) × (routed (target_path head.target) head.method ≡ lead.Action asked) × (head.multipart ≡ true))
  unfolding IsDecided
  parts = (
    λ h. in_parts key boot head (Refused refusal.Multipart) (routed (target_path head.target) head.method) h refl,
    λ e. subst (λ (leads : Routed). IsByRoute key boot head leads (Refused refusal.Multipart)) (sym e.1)
        (subst (λ (test : Bool). IsByForm key boot head e.0 test (Refused refusal.Multipart)) (sym e.2) refl),
  )

  pub bad_field : (asked : SiteAction) (field : FormField) → routed (target_path head.target) head.method ≡ lead.Action asked
      → head.multipart ≡ false → asked_action asked (target_query head.target) head.body ≡ Err field
      → IsDecided key boot head (Refused (refusal.BadForm field))
  unfolding IsDecided
  bad_field asked field leads whole read =
      subst (λ (l : Routed). IsByRoute key boot head l (Refused (refusal.BadForm field))) (sym leads)
      (subst (λ (test : Bool). IsByForm key boot head asked test (Refused (refusal.BadForm field))) (sym whole)
      (subst (λ (r : Result Action FormField). IsByFields key boot head r (Refused (refusal.BadForm field))) (sym read) refl))

  posted : (action : Action) (cookie : Option Cookie) (token : Option RequestNo) (d : Decision) → AsksFor key head action cookie
      → head.method ≡ Post → IsTokenOf key cookie head.body token → d ≡ by_token boot action cookie token → IsDecided key boot head d
  posted action cookie token d asks post read decided =
      asked_back key boot head action cookie d asks
      (subst (λ (method : MethodKind). IsByMethod key boot method head.body action cookie d) (sym post)
      (record { token = token; read = read; decided = decided }))

  pub bad_token : (action : Action) (cookie : Option Cookie) → AsksFor key head action cookie → head.method ≡ Post
      → IsTokenOf key cookie head.body None → IsDecided key boot head (Refused (refusal.BadForm Token))
  bad_token action cookie asks post read = posted action cookie None (Refused (refusal.BadForm Token)) asks post read refl

  pub old_token : (action : Action) (cookie : Option Cookie) (request : RequestNo) → AsksFor key head action cookie → head.method ≡ Post
      → IsTokenOf key cookie head.body (Some request) → request.boot ≢ boot
      → IsDecided key boot head (Refused (refusal.StaleForm request.boot boot))
  old_token action cookie request asks post read other =
      posted action cookie (Some request) (Refused (refusal.StaleForm request.boot boot)) asks post read
      (ap (λ (test : Bool). cond test (ordered action (Some request) cookie) (Refused (refusal.StaleForm request.boot boot)))
      (sym (ne_eqb request.boot boot other)))
