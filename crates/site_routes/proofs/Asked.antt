-- Where paths and methods lead, from the action and from the path.
use Rattle.std.proofs.Common.{◌≡◌, ◌≢◌, ℕ, ◌<◌, ◌^◌, ◌==◌, ◌||◌, nat_lt, Bool, true, false, not, cond, List, ◌++◌, drop, Option, Some, None, codes, refl, ap, sym, ◌∙◌, subst, inl, inr, arith}
use Rattle.std.specs.Fmt.{decimal}
use Rattle.std.proofs.lemmas.Bool.{or_parts}
use Rattle.std.proofs.lemmas.Bool.Decides.{nat_tests}
use Rattle.auction_calls.specs.Reading.{kind_of}
use Rattle.auction_calls.specs.declared.action.FormKind.{FormKind}
use Rattle.auction_calls.proofs.ExactFields.{kind_found}
use Rattle.decimal_digits.specs.Digits.{plain_number}
use Rattle.decimal_digits.proofs.Written.{plain_is_decimal}
use Rattle.http_wire.specs.Response.{allow_field}
use Rattle.http_wire.specs.declared.taken.MethodKind.{MethodKind}
use Rattle.http_wire.specs.declared.taken.MethodKind.TheVariants.{Get, HeadOnly, Post, Other}
use Rattle.site_routes.specs.PathActions.{actions_at, actions_by, actions_of, browsed, id_of, id_in, item_read, kind_actions, routed, routed_by, routed_to, text_size, user_read}
use Rattle.site_routes.specs.Paths.{HasId, IsId, asks, is_action, is_read, methods_field, path_of}
use Rattle.site_routes.specs.Routes.{site_route}
use Rattle.site_routes.specs.declared.path_actions.PathActions.{PathActions}
use Rattle.site_routes.specs.declared.path_actions.PathActions.TheVariants.{Read, Write, Both}
use Rattle.site_routes.specs.declared.path_actions.SiteAction.{SiteAction}
use Rattle.site_routes.specs.declared.path_actions.SiteAction.TheVariants as action
use Rattle.site_routes.specs.declared.routed.Routed.TheVariants.{Action, NotThere, NotAllowed}
use Rattle.site_routes.specs.declared.site_route.SiteRoute.{SiteRoute}
use Rattle.site_routes.specs.declared.site_route.SiteRoute.TheVariants.{Home, Register, SignIn, SignOut, Categories, Category, Item, User, About, Sell, Bid, Buy, Close, Feedback, Form}
use Rattle.site_routes.proofs.Methods.{is_there}
use Rattle.site_routes.proofs.Paths.{Has, has_action}
use Rattle.site_routes.proofs.Reached.{Takes, reached}

-- the path is that of an action which only shows a page, or of one which does more
abbrev IsReadAt : List ℕ → SiteAction → Type 0
IsReadAt path asked = (path ≡ path_of asked) × HasId asked × (is_read asked ≡ true)

abbrev IsWriteAt : List ℕ → SiteAction → Type 0
IsWriteAt path asked = (path ≡ path_of asked) × HasId asked × (is_read asked ≡ false)

-- the path is that of each of these actions
abbrev AreAt : List ℕ → PathActions → Type 0
AreAt path (Read asked) = IsReadAt path asked
AreAt path (Write asked) = IsWriteAt path asked
AreAt path (Both read written) = IsReadAt path read × IsWriteAt path written

same_actions : (a b : PathActions) → Some a ≡ Some b → a ≡ b
same_actions a b e = cc

same_action : (a b : SiteAction) → Action a ≡ Action b → a ≡ b
same_action a b e = cc

-- these are actions of the path, and so those that are the same
moved : (path : List ℕ) (a b : PathActions) → Some a ≡ Some b → AreAt path a → AreAt path b
moved path a b e h = subst (AreAt path) (same_actions a b e) h

id_range : (n : ℕ) → (n == 0 || nat_lt 4294967295 n) ≡ false → IsId n
id_range n h =
    let g = or_parts (n == 0) (nat_lt 4294967295 n) h in
    (above n g.0, below n g.1)
  where
    above : (m : ℕ) → (m == 0) ≡ false → 0 < m
    above m e = grind (arith, nat_tests)

    below : (m : ℕ) → nat_lt 4294967295 m ≡ false → m < 2 ^ 32
    below m e = grind (arith, nat_tests)

-- a text that is an id is its digits
id_is : (text : List ℕ) (id : ℕ) → id_of text ≡ Some id → (text ≡ decimal id) × IsId id
id_is text id e = by_number (plain_number text) refl e
  where
    by_test : (n : ℕ) (c : Bool) → (n == 0 || nat_lt 4294967295 n) ≡ c → plain_number text ≡ Some n → cond c None (Some n) ≡ Some id → (text ≡ decimal id) × IsId id
    by_test n true out is e = absurd (cc)
    by_test n false within is e =
        let same : n ≡ id = cc in
        ((plain_is_decimal text n is).0 ∙ ap decimal same, subst IsId same (id_range n within))

    by_number : (found : Option ℕ) → plain_number text ≡ found → id_in found ≡ Some id → (text ≡ decimal id) × IsId id
    by_number None is e = absurd (cc)
    by_number (Some n) is e = by_test n (n == 0 || nat_lt 4294967295 n) refl is e

category_is : (path rest : List ℕ) (found : Option ℕ) (actions : PathActions) → path ≡ codes "/category/" ++ rest → id_of rest ≡ found → browsed found ≡ Some actions → AreAt path actions
category_is path rest None actions is at_none e = absurd (cc)
category_is path rest (Some id) actions is at_id e =
    let d = id_is rest id at_id in
    moved path (Read (action.Browse id)) actions e (is ∙ ap (λ t. codes "/category/" ++ t) d.0, d.1, refl)

item_is : (path rest : List ℕ) (found : Option ℕ) (actions : PathActions) → path ≡ codes "/item/" ++ rest → id_of rest ≡ found → item_read found ≡ Some actions → AreAt path actions
item_is path rest None actions is at_none e = absurd (cc)
item_is path rest (Some id) actions is at_id e =
    let d = id_is rest id at_id in
    moved path (Read (action.Item id)) actions e (is ∙ ap (λ t. codes "/item/" ++ t) d.0, d.1, refl)

user_is : (path rest : List ℕ) (found : Option ℕ) (actions : PathActions) → path ≡ codes "/user/" ++ rest → id_of rest ≡ found → user_read found ≡ Some actions → AreAt path actions
user_is path rest None actions is at_none e = absurd (cc)
user_is path rest (Some id) actions is at_id e =
    let d = id_is rest id at_id in
    moved path (Read (action.User id)) actions e (is ∙ ap (λ t. codes "/user/" ++ t) d.0, d.1, refl)

form_is : (path rest : List ℕ) (found : Option FormKind) (actions : PathActions) → path ≡ codes "/form/" ++ rest → kind_of rest ≡ found → kind_actions found ≡ Some actions → AreAt path actions
form_is path rest None actions is at_none e = absurd (cc)
form_is path rest (Some kind) actions is at_kind e =
    moved path (Read (action.Form kind)) actions e (is ∙ ap (λ t. codes "/form/" ++ t) (kind_found rest kind at_kind), tt, refl)

-- the actions of a path that takes a route are at the path
by_route : (path : List ℕ) (route : SiteRoute) (actions : PathActions) → Takes route path → actions_of route (drop (text_size route) path) ≡ Some actions → AreAt path actions
by_route path Home actions is e = moved path (Read action.Home) actions e (is, tt, refl)
by_route path Register actions is e = moved path (Write action.Register) actions e (is, tt, refl)
by_route path SignIn actions is e = moved path (Write action.SignIn) actions e (is, tt, refl)
by_route path SignOut actions is e = moved path (Write action.SignOut) actions e (is, tt, refl)
by_route path Categories actions is e =
    moved path (Both action.Categories action.AddCategory) actions e ((is, tt, refl), (is, tt, refl))
by_route path Category actions (rest, is) e =
    category_is path rest (id_of rest) actions is refl (subst (λ p. browsed (id_of (drop 10 p)) ≡ Some actions) is e)
by_route path Item actions (rest, is) e =
    item_is path rest (id_of rest) actions is refl (subst (λ p. item_read (id_of (drop 6 p)) ≡ Some actions) is e)
by_route path User actions (rest, is) e =
    user_is path rest (id_of rest) actions is refl (subst (λ p. user_read (id_of (drop 6 p)) ≡ Some actions) is e)
by_route path About actions is e = moved path (Read action.About) actions e (is, tt, refl)
by_route path Sell actions is e = moved path (Write action.Sell) actions e (is, tt, refl)
by_route path Bid actions is e = moved path (Write action.Bid) actions e (is, tt, refl)
by_route path Buy actions is e = moved path (Write action.Buy) actions e (is, tt, refl)
by_route path Close actions is e = moved path (Write action.Close) actions e (is, tt, refl)
by_route path Feedback actions is e = moved path (Write action.Feedback) actions e (is, tt, refl)
by_route path Form actions (rest, is) e =
    form_is path rest (kind_of rest) actions is refl (subst (λ p. kind_actions (kind_of (drop 6 p)) ≡ Some actions) is e)

-- the actions of a path are at the path
are_at : (path : List ℕ) (actions : PathActions) → actions_at path ≡ Some actions → AreAt path actions
are_at path actions e = by_found (site_route path) refl e
  where
    by_found : (found : Option SiteRoute) → site_route path ≡ found → actions_by path found ≡ Some actions → AreAt path actions
    by_found None is e = absurd (cc)
    by_found (Some route) is e = by_route path route actions (reached path route is) e

-- what is asked for is at the path, and the method asks for it
abbrev pub IsAsked : List ℕ → MethodKind → SiteAction → Type 0
IsAsked path method asked = (path ≡ path_of asked) × (asks method asked ≡ true) × HasId asked

read_asked : (path : List ℕ) (found asked : SiteAction) → Action found ≡ Action asked → IsReadAt path found → IsAsked path Get asked
read_asked path found asked e h = subst (IsAsked path Get) (same_action found asked e) (h.0, h.2, h.1)

write_asked : (path : List ℕ) (found asked : SiteAction) → Action found ≡ Action asked → IsWriteAt path found → IsAsked path Post asked
write_asked path found asked e h =
    subst (IsAsked path Post) (same_action found asked e) (h.0, ap not h.2, h.1)

by_method : (path : List ℕ) (method : MethodKind) (actions : PathActions) (asked : SiteAction) → AreAt path actions → routed_by method actions ≡ Action asked → IsAsked path method asked
by_method path Get (Read found) asked h e = read_asked path found asked e h
by_method path Get (Write found) asked h e = absurd (cc)
by_method path Get (Both read written) asked h e = read_asked path read asked e h.0
by_method path HeadOnly (Read found) asked h e = read_asked path found asked e h
by_method path HeadOnly (Write found) asked h e = absurd (cc)
by_method path HeadOnly (Both read written) asked h e = read_asked path read asked e h.0
by_method path Post (Read found) asked h e = absurd (cc)
by_method path Post (Write found) asked h e = write_asked path found asked e h
by_method path Post (Both read written) asked h e = write_asked path written asked e h.1
by_method path Other actions asked h e = absurd (cc)

-- an action that a path and a method lead to is at the path, and the method asks for it
pub led_back : (path : List ℕ) (method : MethodKind) (asked : SiteAction) → routed path method ≡ Action asked → IsAsked path method asked
led_back path method asked e = by_found (actions_at path) refl e
  where
    by_found : (found : Option PathActions) → actions_at path ≡ found → routed_to method found ≡ Action asked → IsAsked path method asked
    by_found None is e = absurd (cc)
    by_found (Some actions) is e = by_method path method actions asked (are_at path actions is) e

-- what a method asks for, of actions that have this one
answered : (method : MethodKind) (actions : PathActions) (asked : SiteAction) → Has actions asked → asks method asked ≡ true → routed_by method actions ≡ Action asked
answered Get (Read found) asked h is = ap Action h.0
answered Get (Write found) asked h is = absurd (let no : true ≡ false = sym is ∙ h.1 in cc)
answered Get (Both read written) asked (inl h) is = ap Action h.0
answered Get (Both read written) asked (inr h) is = absurd (let no : true ≡ false = sym is ∙ h.1 in cc)
answered HeadOnly (Read found) asked h is = ap Action h.0
answered HeadOnly (Write found) asked h is = absurd (let no : true ≡ false = sym is ∙ h.1 in cc)
answered HeadOnly (Both read written) asked (inl h) is = ap Action h.0
answered HeadOnly (Both read written) asked (inr h) is = absurd (let no : true ≡ false = sym is ∙ h.1 in cc)
answered Post (Read found) asked h is = absurd (let no : true ≡ false = sym is ∙ ap not h.1 in cc)
answered Post (Write found) asked h is = ap Action h.0
answered Post (Both read written) asked (inl h) is = absurd (let no : true ≡ false = sym is ∙ ap not h.1 in cc)
answered Post (Both read written) asked (inr h) is = ap Action h.0
answered Other actions asked h is = absurd (let no : false ≡ true = is in cc)

-- the path of an action leads to it, by a method that asks for it
pub led_to : (path : List ℕ) (method : MethodKind) (asked : SiteAction) → IsAsked path method asked → routed path method ≡ Action asked
led_to path method asked (is, wanted, id) =
    let (actions, found, has) = has_action asked id in
    ap (λ p. routed p method) is ∙ ap (routed_to method) found ∙ answered method actions asked has wanted

-- a path that leads nowhere is that of no action
pub no_path : (path : List ℕ) (method : MethodKind) → routed path method ≡ NotThere → (asked : SiteAction) → HasId asked → path ≢ path_of asked
no_path path method nowhere asked id is =
    let (actions, found, has) = has_action asked id in
    is_there method actions (sym (ap (λ p. routed p method) is ∙ ap (routed_to method) found) ∙ nowhere)

-- and a path that is that of no action leads nowhere
pub leads_nowhere : (path : List ℕ) (method : MethodKind) → ((asked : SiteAction) → HasId asked → path ≢ path_of asked) → routed path method ≡ NotThere
leads_nowhere path method none = by_found (actions_at path) refl
  where
    by_actions : (actions : PathActions) → AreAt path actions → routed_by method actions ≡ NotThere
    by_actions (Read asked) h = absurd (none asked h.1 h.0)
    by_actions (Write asked) h = absurd (none asked h.1 h.0)
    by_actions (Both read written) h = absurd (none read h.0.1 h.0.0)

    by_found : (found : Option PathActions) → actions_at path ≡ found → routed_to method found ≡ NotThere
    by_found None is = refl
    by_found (Some actions) is = by_actions actions (are_at path actions is)

-- the methods that are allowed at a path
named : (found : Option PathActions) (method : MethodKind) (allow : ℕ) → routed_to method found ≡ NotAllowed allow
    → allow_field allow ≡ methods_field (is_action (routed_to Get found)) (is_action (routed_to Post found))
unfolding allow_field
named None method allow e = absurd (cc)
named (Some (Read asked)) Get allow e = absurd (cc)
named (Some (Read asked)) HeadOnly allow e = absurd (cc)
named (Some (Read asked)) Post allow e = let n : 1 ≡ allow = cc in subst (λ m. allow_field m ≡ codes "Allow: GET, HEAD\r\n") n refl
named (Some (Read asked)) Other allow e = let n : 1 ≡ allow = cc in subst (λ m. allow_field m ≡ codes "Allow: GET, HEAD\r\n") n refl
named (Some (Write asked)) Get allow e = let n : 2 ≡ allow = cc in subst (λ m. allow_field m ≡ codes "Allow: POST\r\n") n refl
named (Some (Write asked)) HeadOnly allow e = let n : 2 ≡ allow = cc in subst (λ m. allow_field m ≡ codes "Allow: POST\r\n") n refl
named (Some (Write asked)) Post allow e = absurd (cc)
named (Some (Write asked)) Other allow e = let n : 2 ≡ allow = cc in subst (λ m. allow_field m ≡ codes "Allow: POST\r\n") n refl
named (Some (Both read written)) Get allow e = absurd (cc)
named (Some (Both read written)) HeadOnly allow e = absurd (cc)
named (Some (Both read written)) Post allow e = absurd (cc)
named (Some (Both read written)) Other allow e = let n : 3 ≡ allow = cc in subst (λ m. allow_field m ≡ codes "Allow: GET, HEAD, POST\r\n") n refl

pub methods_are_named : (path : List ℕ) (method : MethodKind) (allow : ℕ) → routed path method ≡ NotAllowed allow
    → allow_field allow ≡ methods_field (is_action (routed path Get)) (is_action (routed path Post))
methods_are_named path method allow e = named (actions_at path) method allow e
