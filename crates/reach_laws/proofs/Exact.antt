-- How far an action reaches is how far the calls of its number go.
use Rattle.std.proofs.Common.{◌≡◌, ◌↔◌, ◌⊎◌, ℕ, ◌==◌, ◌||◌, Bool, true, false, List, [], ◌∷◌, Option, Some, None, refl, sym, ap, subst, slice_get, ◌∙◌, inl, inr, arith}
use Rattle.std.proofs.lemmas.Bool.Decides.{nat_tests}
use Rattle.crash_base.specs.declared.numbers.ComponentNo.{ComponentNo}
use Rattle.call_ticket.specs.declared.next.Next.{Next}
use Rattle.call_ticket.specs.declared.next.Next.TheVariants as next
use Rattle.action_plans.specs.declared.plan.Through.{Through}
use Rattle.auction_calls.specs.declared.action.Action.{Action}
use Rattle.auction_calls.specs.declared.action.Action.TheVariants as action
use Rattle.auction_calls.specs.Texts.{action_number}
use Rattle.auction_rows.specs.declared.components.TheConstants.{WEB, CALL}
use Rattle.auction_site.specs.Actions.{steps_of, through_of}
use Rattle.auction_site.specs.Reached.{Reach, is_among, stays_within, reach_of, web_alone}
use Rattle.auction_site.proofs.Reaching.{call_stays}
use Rattle.reach_laws.specs.Uses.{Use, Enters, Reads, Lists, Puts, use_of, allows, ComesTo, has_table, OwnsTable, MayEnter}
use Rattle.reach_laws.proofs.Entered.{enters_so}
use Rattle.reach_laws.proofs.Sampled.{Each, Uses, EntersBy, EntersInner, EntersOwner}
use Rattle.reach_laws.proofs.Samples.{is_used}

-- the reaches by the numbers of their actions
abbrev reaches : List Reach
reaches =
    web_alone ∷ reach_of action.Home ∷ reach_of (action.Register [] []) ∷ reach_of (action.SignIn [] []) ∷ reach_of action.SignOut
    ∷ reach_of action.Categories ∷ reach_of (action.AddCategory []) ∷ reach_of (action.Browse 0 0) ∷ reach_of (action.Item 0)
    ∷ reach_of (action.User 0) ∷ reach_of action.About ∷ reach_of (action.Sell [] 0 0 0 0) ∷ reach_of (action.Bid 0 0)
    ∷ reach_of (action.Buy 0) ∷ reach_of (action.Close 0) ∷ reach_of (action.Feedback 0 true []) ∷ web_alone ∷ []

numbered : (a : Action) → slice_get reaches (action_number a) ≡ Some (reach_of a)
numbered action.Home = refl
numbered (action.Register name password) = refl
numbered (action.SignIn name password) = refl
numbered action.SignOut = refl
numbered action.Categories = refl
numbered (action.AddCategory name) = refl
numbered (action.Browse category page) = refl
numbered (action.Item item) = refl
numbered (action.User user) = refl
numbered action.About = refl
numbered (action.Sell title category start buy_now hours) = refl
numbered (action.Bid item amount) = refl
numbered (action.Buy item) = refl
numbered (action.Close item) = refl
numbered (action.Feedback item good text) = refl
numbered (action.Form kind) = refl

same_reach : (a b : Action) → action_number a ≡ action_number b → reach_of a ≡ reach_of b
same_reach a b is =
    let both : Some (reach_of a) ≡ Some (reach_of b) = sym (numbered a) ∙ ap (slice_get reaches) is ∙ numbered b in
    cc

use_stays : (r : Reach) (u : Use) (x : Next) → use_of x ≡ Some u → stays_within r x ≡ true → allows r u ≡ true
use_stays r u (next.Enter c m) is stays =
    let same : Enters c.0 ≡ u = cc in
    subst (λ v. allows r v ≡ true) same stays
use_stays r u (next.Read id) is stays =
    let same : Reads id.table ≡ u = cc in
    subst (λ v. allows r v ≡ true) same stays
use_stays r u (next.List t) is stays =
    let same : Lists t ≡ u = cc in
    subst (λ v. allows r v ≡ true) same stays
use_stays r u (next.Put w) is stays =
    let same : Puts w.id.table ≡ u = cc in
    subst (λ v. allows r v ≡ true) same stays
use_stays r u next.Exit is stays = absurd (cc)
use_stays r u (next.Done d) is stays = absurd (cc)

came_is_allowed : (a : Action) (u : Use) → Uses (action_number a) u → allows (reach_of a) u ≡ true
came_is_allowed a u s =
    subst (λ r. allows r u ≡ true) (same_reach s.call.action a s.of_number)
    (use_stays (reach_of s.call.action) u (steps_of s.call s.answers) s.step (call_stays s.call s.answers))

each_among : (P : ℕ → Type 0) (ns : List ℕ) (n : ℕ) → Each P ns → is_among ns n ≡ true → P n
each_among P [] n each is = absurd (cc)
each_among P (m ∷ ms) n each is = by (m == n) refl (each_among P ms n each.1) is
  where
    by : (here : Bool) → (m == n) ≡ here → (is_among ms n ≡ true → P n) → (here || is_among ms n) ≡ true → P n
    by true test later among = let same : m ≡ n = grind (arith, nat_tests) in subst P same each.0
    by false test later among = later among

allowed_is_come : (a : Action) (u : Use) → allows (reach_of a) u ≡ true → Uses (action_number a) u
allowed_is_come a (Enters c) is = each_among (λ n. Uses (action_number a) (Enters n)) (reach_of a).enters c (is_used a).enters is
allowed_is_come a (Reads t) is = each_among (λ n. Uses (action_number a) (Reads n)) (reach_of a).reads t (is_used a).reads is
allowed_is_come a (Lists t) is = each_among (λ n. Uses (action_number a) (Lists n)) (reach_of a).lists t (is_used a).lists is
allowed_is_come a (Puts t) is = each_among (λ n. Uses (action_number a) (Puts n)) (reach_of a).puts t (is_used a).puts is

pub uses_exact : (a : Action) (u : Use) → (allows (reach_of a) u ≡ true) ↔ ComesTo (action_number a) (λ (x : Next). use_of x ≡ Some u)
uses_exact a u = (allowed_is_come a u, came_is_allowed a u)

-- what actions go through, by their numbers
abbrev throughs : List (Option Through)
throughs =
    None ∷ None ∷ None ∷ None ∷ None ∷ None ∷ None ∷ None ∷ None ∷ None ∷ None ∷ None
    ∷ through_of (action.Bid 0 0) ∷ through_of (action.Buy 0) ∷ through_of (action.Close 0)
    ∷ through_of (action.Feedback 0 true []) ∷ None ∷ []

numbered_through : (a : Action) → slice_get throughs (action_number a) ≡ Some (through_of a)
numbered_through action.Home = refl
numbered_through (action.Register name password) = refl
numbered_through (action.SignIn name password) = refl
numbered_through action.SignOut = refl
numbered_through action.Categories = refl
numbered_through (action.AddCategory name) = refl
numbered_through (action.Browse category page) = refl
numbered_through (action.Item item) = refl
numbered_through (action.User user) = refl
numbered_through action.About = refl
numbered_through (action.Sell title category start buy_now hours) = refl
numbered_through (action.Bid item amount) = refl
numbered_through (action.Buy item) = refl
numbered_through (action.Close item) = refl
numbered_through (action.Feedback item good text) = refl
numbered_through (action.Form kind) = refl

same_through : (a b : Action) → action_number a ≡ action_number b → through_of a ≡ through_of b
same_through a b is =
    let both : Some (through_of a) ≡ Some (through_of b) = sym (numbered_through a) ∙ ap (slice_get throughs) is ∙ numbered_through b in
    cc

-- the same of an action that goes through this and has this reach
abbrev MayEnterBy : Option Through → Reach → ComponentNo → ℕ → Type 0
MayEnterBy through r c m =
    ((c.0 ≡ WEB) × (m ≡ CALL)) ⊎ ((through ≡ Some (record { component = c; method = m })) ⊎ (OwnsTable r c × (m ≡ CALL)))

came_may_enter : (a : Action) (c : ComponentNo) (m : ℕ) → ComesTo (action_number a) (λ (x : Next). x ≡ next.Enter c m) → MayEnter a c m
came_may_enter a c m s =
    subst (λ t. MayEnterBy t (reach_of a) c m) (same_through s.call.action a s.of_number)
    (subst (λ r. MayEnterBy (through_of s.call.action) r c m) (same_reach s.call.action a s.of_number)
    (enters_so s.call s.answers c m s.step))

in_either : (p q : Bool) (G : Type 0) → (p ≡ true → G) → (q ≡ true → G) → (p || q) ≡ true → G
in_either true q G left right is = left refl
in_either false q G left right is = right is

owner_entered : (a : Action) (t : ℕ) → has_table (reach_of a) t ≡ true → EntersOwner (action_number a) t
owner_entered a t =
    in_either (is_among (reach_of a).reads t) (is_among (reach_of a).lists t || is_among (reach_of a).puts t) (EntersOwner (action_number a) t)
    (each_among (EntersOwner (action_number a)) (reach_of a).reads t (is_used a).owners_read)
    (in_either (is_among (reach_of a).lists t) (is_among (reach_of a).puts t) (EntersOwner (action_number a) t)
    (each_among (EntersOwner (action_number a)) (reach_of a).lists t (is_used a).owners_listed)
    (each_among (EntersOwner (action_number a)) (reach_of a).puts t (is_used a).owners_put))

may_enter_comes : (a : Action) (c : ComponentNo) (m : ℕ) → MayEnter a c m → ComesTo (action_number a) (λ (x : Next). x ≡ next.Enter c m)
may_enter_comes a c m (inl web) =
    subst (λ k. EntersBy (action_number a) k m) (sym web.0) (subst (λ j. EntersBy (action_number a) 0 j) (sym web.1) (is_used a).web)
may_enter_comes a c m (inr (inl is)) = subst (EntersInner (action_number a)) is (is_used a).inner
may_enter_comes a c m (inr (inr owns)) =
    subst (λ j. EntersBy (action_number a) c.0 j) (sym owns.1) (owner_entered a owns.0.table owns.0.reached c owns.0.owned)

pub methods_exact : (a : Action) (c : ComponentNo) (m : ℕ) → MayEnter a c m ↔ ComesTo (action_number a) (λ (x : Next). x ≡ next.Enter c m)
methods_exact a c m = (may_enter_comes a c m, came_may_enter a c m)
