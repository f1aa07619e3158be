-- What a router does with routes that it does not refuse.
use Rattle.std.proofs.Common.{◌≡◌, ◌≢◌, List, [], ◌∷◌, Some, None, Result, Ok, Err, inl, inr, refl, ap, sym, ◌∙◌}
use Rattle.std.specs.Option.{option_and_then}
use Rattle.matchit.proofs.OnLiterals.{matchit_on_literals}
use Rattle.matchit.specs.Route.{Scan, parse_route}
use Rattle.matchit.specs.Router.{InsertsRead}
use Rattle.matchit.specs.declared.error.InsertError.{InsertError}
use Rattle.matchit.specs.declared.error.InsertError.TheVariants.{Conflict, InvalidParam, InvalidParamSegment, InvalidCatchAll, OutOfMemory}
use Rattle.site_routes.specs.Inserting.{SiteRows, inserted, route_text, with_route}
use Rattle.site_routes.specs.Routes.{site}
use Rattle.site_routes.specs.declared.site_route.SiteRoute.{SiteRoute}
use Rattle.site_routes.specs.declared.site_route.SiteRoute.TheVariants.{Home, Register, SignIn, SignOut, Categories, Category, Item, User, About, Sell, Bid, Buy, Close, Feedback, Form}

-- what an insert that was done leaves
done : (read : Result Scan InsertError) (route : SiteRoute) (old new : SiteRows) (u : Unit {0})
    → InsertsRead read route old new (Ok u) → with_route read route old ≡ Some new
done (Ok scan) route old new u (free, is) = rw free (ap Some (sym is))
done (Err error) route old new u (same, inl other) = absurd (cc)
done (Err error) route old new u (same, inr other) = absurd (cc)

-- an insert of what is not refused fails for want of memory alone
fails : (read : Result Scan InsertError) (route : SiteRoute) (old new : SiteRows) (error : InsertError)
    → InsertsRead read route old new (Err error) → with_route read route old ≢ None → error ≡ OutOfMemory
fails (Ok scan) route old new (Conflict with) (same, (row, is, text)) taken = absurd (taken (rw is refl))
fails (Ok scan) route old new OutOfMemory refused taken = refl
fails (Ok scan) route old new InvalidParamSegment (same, never) taken = absurd never
fails (Ok scan) route old new InvalidParam (same, never) taken = absurd never
fails (Ok scan) route old new InvalidCatchAll (same, never) taken = absurd never
fails (Err other) route old new error refused taken = absurd (taken refl)

-- where an insert was done, the routes behind it are still to be inserted
pub goes_on : (route : SiteRoute) (routes : List SiteRoute) (old new : SiteRows) (u : Unit {0})
    → InsertsRead (parse_route (route_text route)) route old new (Ok u) → inserted routes new ≡ inserted (route ∷ routes) old
unfolding inserted
goes_on route routes old new u h =
    sym (ap (option_and_then (inserted routes)) (done (parse_route (route_text route)) route old new u h))

-- where it failed, there was no memory
pub only_memory : (route : SiteRoute) (routes : List SiteRoute) (old new : SiteRows) (error : InsertError)
    → InsertsRead (parse_route (route_text route)) route old new (Err error) → inserted (route ∷ routes) old ≢ None → error ≡ OutOfMemory
unfolding inserted
only_memory route routes old new error h taken =
    fails (parse_route (route_text route)) route old new error h
    (λ none. taken (ap (option_and_then (inserted routes)) none))

-- the routes in the order in which they are inserted
abbrev pub all_routes : List SiteRoute
all_routes =
    Home ∷ Register ∷ SignIn ∷ SignOut ∷ Categories ∷ Category ∷ Item ∷ User ∷ About ∷ Sell ∷ Bid ∷ Buy ∷ Close ∷ Feedback ∷ Form ∷ []

-- none of them is refused
site_is_taken : inserted all_routes [] ≡ Some site
unfolding matchit_on_literals inserted
site_is_taken = refl

pub none_refused : (rows : SiteRows) → rows ≡ [] → inserted all_routes rows ≢ None
none_refused rows is none =
    let taken : Some site ≡ None = sym site_is_taken ∙ ap (inserted all_routes) (sym is) ∙ none in cc

-- so what they leave is the site
pub leaves_site : (rows new : SiteRows) → rows ≡ [] → Some new ≡ inserted all_routes rows → new ≡ site
leaves_site rows new is left =
    let same : Some new ≡ Some site = left ∙ ap (inserted all_routes) is ∙ site_is_taken in cc

-- behind the last route nothing is to be inserted
pub none_left : (routes : List SiteRoute) (rows : SiteRows) → routes ≡ [] → Some rows ≡ inserted routes rows
unfolding inserted
none_left routes rows is = ap (λ left. inserted left rows) (sym is)
