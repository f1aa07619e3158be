-- The path of a route that was found.
use Rattle.std.proofs.Common.{◌≡◌, ◌⊎◌, ℕ, ◌==◌, Bool, true, false, cond, List, [], ◌∷◌, ◌++◌, Option, Some, None, option_map, codes, refl, ap, sym, ◌∙◌, subst, inl, inr}
use Rattle.std.specs.Str.{is_utf8}
use Rattle.matchit.specs.Rows.{RowsOf, param_token}
use Rattle.matchit.specs.Router.{RouteOf}
use Rattle.site_routes.specs.Routes.{first_fit, fits, site, site_route}
use Rattle.site_routes.specs.declared.site_route.SiteRoute.{SiteRoute}
use Rattle.site_routes.specs.declared.site_route.SiteRoute.TheVariants.{Home, Register, SignIn, SignOut, Categories, Category, Item, User, About, Sell, Bid, Buy, Close, Feedback, Form}
use Rattle.site_routes.proofs.Apart.{first_byte}
use Rattle.site_routes.proofs.Plain.{HasFit}

-- no token of these is a parameter
abbrev no_param : List ℕ → Bool
no_param [] = true
no_param (x ∷ text) = cond (x == param_token) false (no_param text)

-- the first token is none, nor is one behind it
first_is_none : (x : ℕ) (text : List ℕ) → no_param (x ∷ text) ≡ true → ((x == param_token) ≡ false) × (no_param text ≡ true)
first_is_none x text h = by_test (x == param_token) refl h
  where
    by_test : (c : Bool) → (x == param_token) ≡ c → cond c false (no_param text) ≡ true → ((x == param_token) ≡ false) × (no_param text ≡ true)
    by_test true is e = absurd (cc)
    by_test false is e = (is, e)

-- a path that fits a text is the text
literal : (text path : List ℕ) → no_param text ≡ true → fits text path ≡ true → path ≡ text
literal [] [] plain fit = refl
literal [] (b ∷ path) plain fit = absurd (cc)
literal (x ∷ text) [] plain fit = absurd (cc)
literal (x ∷ text) (b ∷ path) plain fit =
    let none = first_is_none x text plain in
    let byte = first_byte x b text path none.0 fit in
    ap (λ c. c ∷ path) (sym byte.0) ∙ ap (λ p. x ∷ p) (literal text path none.1 byte.1)

-- a path that fits a text and a parameter begins with the text
ended : (text path : List ℕ) → no_param text ≡ true → fits (text ++ param_token ∷ []) path ≡ true → (rest : List ℕ) × (path ≡ text ++ rest)
ended [] path plain fit = (path, refl)
ended (x ∷ text) [] plain fit = absurd (cc)
ended (x ∷ text) (b ∷ path) plain fit =
    let none = first_is_none x text plain in
    let byte = first_byte x b (text ++ param_token ∷ []) path none.0 fit in
    let (rest, is) = ended text path none.1 byte.1 in
    (rest, ap (λ c. c ∷ path) (sym byte.0) ∙ ap (λ p. x ∷ p) is)

-- the paths of a route: its text, or what begins with it
abbrev pub Takes : SiteRoute → List ℕ → Type 0
Takes Home path = path ≡ codes "/"
Takes Register path = path ≡ codes "/register"
Takes SignIn path = path ≡ codes "/signin"
Takes SignOut path = path ≡ codes "/signout"
Takes Categories path = path ≡ codes "/categories"
Takes Category path = (rest : List ℕ) × (path ≡ codes "/category/" ++ rest)
Takes Item path = (rest : List ℕ) × (path ≡ codes "/item/" ++ rest)
Takes User path = (rest : List ℕ) × (path ≡ codes "/user/" ++ rest)
Takes About path = path ≡ codes "/about"
Takes Sell path = path ≡ codes "/sell"
Takes Bid path = path ≡ codes "/bid"
Takes Buy path = path ≡ codes "/buy"
Takes Close path = path ≡ codes "/close"
Takes Feedback path = path ≡ codes "/feedback"
Takes Form path = (rest : List ℕ) × (path ≡ codes "/form/" ++ rest)

-- a path that fits a row is one of its route, for each of these rows
abbrev AllTake : List ℕ → RowsOf (RouteOf SiteRoute) → Type 0
AllTake path [] = Unit {0}
AllTake path ((pattern, route) ∷ rows) = (fits pattern path ≡ true → Takes route.value path) × AllTake path rows

all_take : (path : List ℕ) → AllTake path site
all_take path = (
  literal (codes "/about") path refl,
  (
    literal (codes "/bid") path refl,
    (
      literal (codes "/buy") path refl,
      (
        literal (codes "/categories") path refl,
        (
          ended (codes "/category/") path refl,
          (
            literal (codes "/close") path refl,
            (
              literal (codes "/feedback") path refl,
              (
                ended (codes "/form/") path refl,
                (
                  ended (codes "/item/") path refl,
                  (
                    literal (codes "/register") path refl,
                    (
                      literal (codes "/sell") path refl,
                      (
                        literal (codes "/signin") path refl,
                        (
                          literal (codes "/signout") path refl,
                          (ended (codes "/user/") path refl, (literal (codes "/") path refl, tt)),
                        ),
                      ),
                    ),
                  ),
                ),
              ),
            ),
          ),
        ),
      ),
    ),
  ),
)

takes_of : (rows : RowsOf (RouteOf SiteRoute)) (path : List ℕ) (route : RouteOf SiteRoute) → AllTake path rows → HasFit rows path route → Takes route.value path
takes_of [] path route all fit = absurd fit
takes_of ((pattern, found) ∷ rows) path route all (inl here) =
    subst (λ (r : RouteOf SiteRoute). Takes r.value path) here.1 (all.0 here.0)
takes_of ((pattern, found) ∷ rows) path route all (inr more) = takes_of rows path route all.1 more

-- what is found is a row that fits
first_has : (rows : RowsOf (RouteOf SiteRoute)) (path : List ℕ) (route : RouteOf SiteRoute) → first_fit rows path ≡ Some route → HasFit rows path route
first_has [] path route is = absurd (cc)
first_has ((pattern, found) ∷ rows) path route is =
    by_test (fits pattern path) refl is (λ later. first_has rows path route later)
  where
    by_test : (c : Bool) → fits pattern path ≡ c → cond c (Some found) (first_fit rows path) ≡ Some route
        → (first_fit rows path ≡ Some route → HasFit rows path route)
        → ((fits pattern path ≡ true) × (found ≡ route)) ⊎ HasFit rows path route
    by_test true fit e later = inl (fit, (let s : Some found ≡ Some route = e in cc))
    by_test false fit e later = inr (later e)

-- a path that leads to a route is one of its paths
pub reached : (path : List ℕ) (route : SiteRoute) → site_route path ≡ Some route → Takes route path
unfolding site_route
reached path route is = by_text (is_utf8 path) is
  where
    by_found : (found : Option (RouteOf SiteRoute)) → first_fit site path ≡ found → option_map (λ (r : RouteOf SiteRoute). r.value) found ≡ Some route → Takes route path
    by_found None at_none e = absurd (cc)
    by_found (Some row) at_row e =
        let same : row.value ≡ route = (let s : Some row.value ≡ Some route = e in cc) in
        subst (λ r. Takes r path) same (takes_of site path row (all_take path) (first_has site path row at_row))

    by_text : (c : Bool) → cond c (option_map (λ (r : RouteOf SiteRoute). r.value) (first_fit site path)) None ≡ Some route → Takes route path
    by_text true e = by_found (first_fit site path) refl e
    by_text false e = absurd (cc)
