-- What is drawn for an order, and in which order.
use Rattle.std.specs.Prelude.{◌≡◌, ◌&&◌, Bool, true, false, if◌then◌else◌, is_none, is_some, List, [], ◌∷◌, ◌++◌, map}
use Rattle.auction_calls.specs.declared.action.Action.{Action}
use Rattle.auction_calls.specs.declared.action.Action.TheVariants as action
use Rattle.request_decisions.specs.declared.decision.Decision.{Decision}
use Rattle.request_decisions.specs.declared.decision.Decision.TheVariants.{Refused, Ordered}
use Rattle.request_decisions.specs.declared.decision.Order.{Order}
use Rattle.request_decisions.specs.declared.draws.Draw.{Draw}
use Rattle.request_decisions.specs.declared.draws.DrawKind.{DrawKind}
use Rattle.request_decisions.specs.declared.draws.DrawKind.TheVariants.{Request, Token, KeyWord, Fresh, Read, Write}

-- whether an action shows a form
abbrev pub shows_form : Action → Bool
shows_form action.Home = false
shows_form (action.Register name password) = false
shows_form (action.SignIn name password) = false
shows_form action.SignOut = false
shows_form action.Categories = false
shows_form (action.AddCategory name) = false
shows_form (action.Browse category page) = false
shows_form (action.Item item) = false
shows_form (action.User user) = false
shows_form action.About = false
shows_form (action.Sell title category start buy_now hours) = false
shows_form (action.Bid item amount) = false
shows_form (action.Buy item) = false
shows_form (action.Close item) = false
shows_form (action.Feedback item good text) = false
shows_form (action.Form kind) = true

-- whether a new session begins: a form is shown, and no cookie was accepted
abbrev pub begins_session : Order → Bool
begins_session o = shows_form o.action && is_none o.cookie

-- these draws, where a test holds
abbrev pub where_so : Bool → List DrawKind → List DrawKind
where_so test kinds = if test then kinds else []

-- What is drawn for an order, in this order: the number of a GET; that of the token of a form; the two words of a new
-- key; the fresh word; the nonce of a read, where a cookie was accepted; and the nonce of a write, whether or not one
-- follows.
unfoldable pub drawn_for : Order → List DrawKind
drawn_for o =
    where_so (is_none o.number) (Request ∷ [])
    ++ (where_so (shows_form o.action) (Token ∷ [])
    ++ (where_so (begins_session o) (KeyWord ∷ KeyWord ∷ [])
    ++ (Fresh ∷ where_so (is_some o.cookie) (Read ∷ [])
    ++ (Write ∷ []))))

-- what is drawn for a request: nothing, where it was refused
abbrev pub drawn_by : Decision → List DrawKind
drawn_by (Refused why) = []
drawn_by (Ordered o) = drawn_for o

-- whether a serial number is drawn for this, which may be spent, and else a random word, which never is
abbrev pub is_serial : DrawKind → Bool
is_serial Request = true
is_serial Token = true
is_serial KeyWord = false
is_serial Fresh = false
is_serial Read = true
is_serial Write = true

-- what these numbers were drawn for
abbrev pub kinds_of : List Draw → List DrawKind
kinds_of drawn = map (λ (d : Draw). d.kind) drawn

-- All that an order draws was drawn, in its order.
abbrev pub AreDrawn : Order → List Draw → Type 0
AreDrawn o drawn = kinds_of drawn ≡ drawn_for o

-- What was drawn of these until a serial number was spent: what comes before that one, and nothing behind it.
pub record AreCutShort (kinds : List DrawKind) (drawn : List Draw) : Type 0 where
  pub spent : DrawKind
  pub behind : List DrawKind
  pub kinds_are : kinds ≡ kinds_of drawn ++ spent ∷ behind
  pub of_serials : is_serial spent ≡ true
