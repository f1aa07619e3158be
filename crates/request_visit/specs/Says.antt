-- What the response of a request says, by what became of it.
use Rattle.std.specs.Prelude.{◌≡◌, ◌≤◌, ℕ, Bool, List, Option, None, length, take}
use Rattle.crash_base.specs.declared.numbers.Place.{Place}
use Rattle.container_core.specs.History.{entries_in}
use Rattle.container_core.specs.declared.history.Event.{Event}
use Rattle.journal_model.specs.declared.entry.Entry.{Entry}
use Rattle.session_cookie.specs.declared.cookie.Cookie.{Cookie}
use Rattle.session_way.specs.Way.{answer_held}
use Rattle.session_way.specs.declared.way.SessionWay.{SessionWay}
use Rattle.request_tries.specs.declared.outcome.RequestOutcome.TheVariants.{Page}
use Rattle.site_responses.specs.Responses.{response}
use Rattle.outcome_items.specs.Answers.{IsPage, IsTextWhere, answer_of, shown_by_entry}
use Rattle.outcome_items.specs.declared.outcome.ItemOutcome.{ItemOutcome}
use Rattle.outcome_items.specs.declared.outcome.ItemOutcome.TheVariants as item
use Rattle.request_visit.specs.Advancing.{IsShown, cookie_in}
use Rattle.request_visit.specs.Ready.{shown_by}
use Rattle.request_visit.specs.declared.facts.VisitFacts.{VisitFacts}
use Rattle.request_visit.specs.declared.visit.Fate.{Fate}
use Rattle.request_visit.specs.declared.visit.Fate.TheVariants.{Known, Writing}
use Rattle.request_visit.specs.declared.visit.Visit.{Visit}
use Rattle.request_visit.specs.declared.visit.Work.{Work}
use Rattle.request_visit.specs.declared.visit.Work.TheVariants.{Reading, Opening, Serving, Committed, Decided, Answered, Left}

-- the bytes are the response of a request of which this became, and that sets this cookie, if any
pub record RespondsTo (key : List ℕ) (es : List Entry) (facts : VisitFacts) (cookie : Option Cookie) (became : ItemOutcome) (bytes : List ℕ) : Type 0 where
  pub text : Option (List ℕ)
  pub text_is : IsTextWhere key cookie text
  pub bytes_are : bytes ≡ response (answer_of (shown_by_entry es became) text became) facts.close facts.head_only

-- The bytes are the response of a request whose write has its answer, and that is told so once its passes are spent.
pub record RespondsSoFar (key : List ℕ) (es : List Entry) (facts : VisitFacts) (cookie : Option Cookie) (w : SessionWay) (place : Place) (again : Bool) (bytes : List ℕ) : Type 0 where
  pub no_cookie : cookie ≡ None
  pub is_shown : IsShown key facts (shown_by (shown_by_entry es (item.Ended (Page place again)))) (cookie_in (answer_held w)) bytes

-- the bytes are the response of a request, by what is told of it so far
abbrev pub FateSays : List ℕ → List Entry → VisitFacts → Option Cookie → SessionWay → List ℕ → Fate → Type 0
FateSays key es facts cookie w bytes (Known became) = RespondsTo key es facts cookie became bytes
FateSays key es facts cookie w bytes (Writing place again) = RespondsSoFar key es facts cookie w place again bytes

-- What is so of the response of a request, by how far it has come, over the journal as it was when the container was
-- last held for it; these bytes have left, if any have.
abbrev pub SaysOf : {P : Type 0} → List ℕ → List Entry → VisitFacts → Option Cookie → SessionWay → List ℕ → Work P → Type 0
SaysOf key es facts cookie w out Reading = cookie ≡ None
SaysOf key es facts cookie w out Opening = cookie ≡ None
SaysOf key es facts cookie w out (Serving tries program) = cookie ≡ None
SaysOf key es facts cookie w out (Committed place again shown) =
    (cookie ≡ None) × (shown ≡ shown_by (shown_by_entry es (item.Ended (Page place again))))
SaysOf key es facts cookie w out (Decided became) = (cookie ≡ None) × (IsPage became → ⊥)
SaysOf key es facts cookie w out (Answered fate bytes) = FateSays key es facts cookie w bytes fate
SaysOf key es facts cookie w out (Left fate) = FateSays key es facts cookie w out fate

-- The response of a request says what became of it, as the history shows.
pub record Says {P : Type 0} (key : List ℕ) (history : List Event) (out : List ℕ) (v : Visit P) : Type 0 where
  pub within : v.holds.held ≤ length history
  pub says : SaysOf key (entries_in (take v.holds.held history)) v.facts v.cookie v.way out v.work
