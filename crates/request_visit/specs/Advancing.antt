-- What a request becomes by itself: by what it heard, by its response, and by its end.
use Rattle.std.specs.Prelude.{◌≡◌, ℕ, Bool, List, [], Option, Some, None, Result, Ok, Err}
use Rattle.std.specs.Option.{option_map}
use Rattle.session_cookie.specs.Text.{IsTextOf}
use Rattle.session_cookie.specs.declared.cookie.Cookie.{Cookie}
use Rattle.ssm_stub.specs.Reads.{ReadState, read_answer}
use Rattle.ssm_stub.specs.declared.write_call.WriteRefusal.{WriteRefusal}
use Rattle.session_way.specs.Reading.{answer_of_read}
use Rattle.session_way.specs.Way.{answer_held, settled}
use Rattle.session_way.specs.declared.lease.SessionLease.{SessionLease}
use Rattle.session_way.specs.declared.session_read.ReadOutcome.{ReadOutcome}
use Rattle.session_way.specs.declared.session_read.ReadOutcome.TheVariants as read
use Rattle.session_way.specs.declared.way.SessionWay.{SessionWay}
use Rattle.session_way.specs.declared.way.SessionWay.TheVariants as way
use Rattle.site_responses.specs.Responses.{response}
use Rattle.site_responses.specs.declared.answer.SiteAnswer.TheVariants as answer
use Rattle.crash_base.specs.declared.numbers.Place.{Place}
use Rattle.request_tries.specs.declared.outcome.RequestOutcome.TheVariants.{Page}
use Rattle.outcome_items.specs.Answers.{answer_of}
use Rattle.outcome_items.specs.declared.item.Item.{Item}
use Rattle.outcome_items.specs.declared.outcome.ItemOutcome.{ItemOutcome}
use Rattle.outcome_items.specs.declared.outcome.ItemOutcome.TheVariants as item
use Rattle.request_visit.specs.Ready.{shown_response}
use Rattle.request_visit.specs.declared.facts.VisitFacts.{VisitFacts}
use Rattle.request_visit.specs.declared.ready.Shown.{Shown}
use Rattle.request_visit.specs.declared.visit.Fate.{Fate}
use Rattle.request_visit.specs.declared.visit.Fate.TheVariants.{Known, Writing}
use Rattle.request_visit.specs.declared.visit.Visit.{Visit}
use Rattle.request_visit.specs.declared.visit.Work.{Work}
use Rattle.request_visit.specs.declared.visit.Work.TheVariants.{Reading, Opening, Serving, Committed, Decided, Answered, Left}

-- a request by what the read of its session came to
abbrev pub after_read : {P : Type 0} → ReadOutcome → Visit P → Visit P
after_read (read.Found lease) v = record v { lease = Some lease; way = way.Resting; work = Opening }
after_read (read.Expired now expiry) v = record v { way = way.Resting; work = Decided (item.Expired now expiry) }
after_read (read.Lost causes) v = record v { way = way.Resting; work = Decided (item.Lost causes) }

-- a session that was found has the key and the expiry of its cookie
abbrev pub IsOfRead : ReadState → ReadOutcome → Type 0
IsOfRead r (read.Found lease) = (lease.key ≡ r.key) × (lease.expiry ≡ r.expiry)
IsOfRead r (read.Expired now expiry) = Unit {0}
IsOfRead r (read.Lost causes) = Unit {0}

-- A request heard what its read came to.
pub record HearsRead {P : Type 0} (r : ReadState) (old new : Visit P) : Type 0 where
  pub outcome : ReadOutcome
  pub is_outcome : read_answer r ≡ Some (answer_of_read outcome)
  pub of_read : IsOfRead r outcome
  pub new_is : new ≡ after_read outcome old

-- the same, by what is done with its session; where nothing is read, it has none
abbrev pub HearsReadOf : {P : Type 0} → SessionWay → Visit P → Visit P → Type 0
HearsReadOf (way.Reading r) old new = HearsRead r old new
HearsReadOf way.Resting old new = new ≡ record old { work = Opening }
HearsReadOf (way.Ordered order) old new = new ≡ record old { work = Opening }
HearsReadOf (way.Writing w) old new = new ≡ record old { work = Opening }
HearsReadOf (way.Settling w) old new = new ≡ record old { work = Opening }
HearsReadOf (way.Holding passes) old new = new ≡ record old { work = Opening }

-- the cookie of an answer, if it is one
abbrev pub cookie_in : Option (Result Cookie WriteRefusal) → Option Cookie
cookie_in None = None
cookie_in (Some (Ok cookie)) = Some cookie
cookie_in (Some (Err refusal)) = None

-- The response to a request that is committed, by the cookie that was written, if one was: the page, which sets the
-- cookie of this text; or that the client may try again.
abbrev pub IsShown : List ℕ → VisitFacts → Shown → Option Cookie → List ℕ → Type 0
IsShown key facts shown None bytes = bytes ≡ response answer.TryAgain facts.close facts.head_only
IsShown key facts shown (Some cookie) bytes =
    (text : List ℕ) × IsTextOf key cookie text × (bytes ≡ shown_response facts shown text)

-- the response to a request that shows no page of an entry
abbrev pub decided_response : VisitFacts → ItemOutcome → List ℕ
decided_response facts became = response (answer_of None None became) facts.close facts.head_only

-- A request that is committed heard what its write came to, and its response was made.
pub record HearsWrite {P : Type 0} (key : List ℕ) (old : Visit P) (place : Place) (again : Bool) (shown : Shown) (new : Visit P) : Type 0 where
  pub bytes : List ℕ
  pub is_shown : IsShown key old.facts shown (cookie_in (answer_held old.way)) bytes
  pub new_is : new ≡ record old { work = Answered (Writing place again) bytes }

-- a request whose response was made, where it shows no page of an entry
abbrev pub responded : {P : Type 0} → ItemOutcome → Visit P → Visit P
responded became v = record v { work = Answered (Known became) (decided_response v.facts became) }

-- A request advanced by itself: it heard what its read came to, or its write; or its response was made. At any other
-- stage nothing is to be done.
abbrev pub Advances : {P : Type 0} → List ℕ → Visit P → Work P → Visit P → Type 0
Advances key old Reading new = HearsReadOf old.way old new
Advances key old Opening new = new ≡ old
Advances key old (Serving tries program) new = new ≡ old
Advances key old (Committed place again shown) new = HearsWrite key old place again shown new
Advances key old (Decided became) new = new ≡ responded became old
Advances key old (Answered fate bytes) new = new ≡ old
Advances key old (Left fate) new = new ≡ old

-- the response that a request lets go, if it has one
abbrev pub response_in : {P : Type 0} → Work P → List ℕ
response_in Reading = []
response_in Opening = []
response_in (Serving tries program) = []
response_in (Committed place again shown) = []
response_in (Decided became) = []
response_in (Answered fate bytes) = bytes
response_in (Left fate) = []

-- the work of a request whose response has left
abbrev pub departed : {P : Type 0} → Work P → Work P
departed Reading = Reading
departed Opening = Opening
departed (Serving tries program) = Serving tries program
departed (Committed place again shown) = Committed place again shown
departed (Decided became) = Decided became
departed (Answered fate bytes) = Left fate
departed (Left fate) = Left fate

-- a request whose response has left: a write of its session is settled from now on
abbrev pub after_leaving : {P : Type 0} → Visit P → Visit P
after_leaving v = record v { way = settled v.way; work = departed v.work }

-- what became of a request, by its fate
abbrev pub outcome_in : Fate → ItemOutcome
outcome_in (Known became) = became
outcome_in (Writing place again) = item.Ended (Page place again)

-- the value of a session
abbrev pub value_of : SessionLease → List ℕ
value_of lease = lease.value

-- the item of a request of which this became
abbrev pub item_of : {P : Type 0} → Visit P → Fate → Item
item_of v fate = record {
  outcome = outcome_in fate;
  request = v.facts.request;
  holds = v.holds;
  counts = v.counts;
  moment = v.facts.now;
  value = option_map value_of v.lease;
  cookie = v.cookie;
}

-- The item of a request whose response has left.
abbrev pub IsItemOf : {P : Type 0} → Visit P → Work P → Item → Type 0
IsItemOf v Reading item = ⊥
IsItemOf v Opening item = ⊥
IsItemOf v (Serving tries program) item = ⊥
IsItemOf v (Committed place again shown) item = ⊥
IsItemOf v (Decided became) item = ⊥
IsItemOf v (Answered fate bytes) item = ⊥
IsItemOf v (Left fate) item = item ≡ item_of v fate
