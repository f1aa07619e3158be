-- What a request becomes by itself, as a function of the service's key.
use Rattle.std.specs.Prelude.{ℕ, List, ◌++◌, Option, Some, None, Result, Ok, Err}
use Rattle.std.specs.Option.{option_and_then}
use Rattle.base64.specs.Engines.{url_safe_no_pad}
use Rattle.base64.specs.GeneralPurpose.{encode_of}
use Rattle.request_visit.specs.Advancing.{after_read, cookie_in, responded}
use Rattle.request_visit.specs.Ready.{shown_response}
use Rattle.request_visit.specs.declared.facts.VisitFacts.{VisitFacts}
use Rattle.request_visit.specs.declared.ready.Shown.{Shown}
use Rattle.request_visit.specs.declared.visit.Fate.TheVariants.{Writing}
use Rattle.request_visit.specs.declared.visit.Visit.{Visit}
use Rattle.request_visit.specs.declared.visit.Work.{Work}
use Rattle.request_visit.specs.declared.visit.Work.TheVariants.{Reading, Opening, Serving, Committed, Decided, Answered, Left}
use Rattle.session_cookie.specs.Cookie.{cookie_fields}
use Rattle.session_cookie.specs.Text.{tag_of}
use Rattle.session_cookie.specs.declared.cookie.Cookie.{Cookie}
use Rattle.session_way.specs.Way.{answer_held}
use Rattle.session_way.specs.declared.session_read.ReadOutcome.{ReadOutcome}
use Rattle.session_way.specs.declared.session_read.ReadOutcome.TheVariants as read
use Rattle.session_way.specs.declared.way.SessionWay.{SessionWay}
use Rattle.session_way.specs.declared.way.SessionWay.TheVariants as way
use Rattle.site_responses.specs.Responses.{response}
use Rattle.site_responses.specs.declared.answer.SiteAnswer.TheVariants as answer
use Rattle.ssm_stub.specs.Reads.{ReadState, read_answer}
use Rattle.ssm_stub.specs.declared.read_call.ReadRefusal.{ReadRefusal}
use Rattle.ssm_stub.specs.declared.read_call.ReadRefusal.TheVariants as refusal

-- what a read came to, by its answer; without memory it came to nothing
abbrev pub outcome_by : ReadState → Result (List ℕ) ReadRefusal → Option ReadOutcome
outcome_by r (Ok value) = Some (read.Found (record { key = r.key; value = value; expiry = r.expiry }))
outcome_by r (Err (refusal.Expired now expiry)) = Some (read.Expired now expiry)
outcome_by r (Err (refusal.Lost causes)) = Some (read.Lost causes)
outcome_by r (Err refusal.OutOfMemory) = None

-- what a read came to so far
abbrev pub outcome_of_read : ReadState → Option ReadOutcome
outcome_of_read r = option_and_then (outcome_by r) (read_answer r)

-- a request that is told what its read came to, if to anything
abbrev pub told_read : {P : Type 0} → Option ReadOutcome → Visit P → Visit P
told_read None v = v
told_read (Some outcome) v = after_read outcome v

-- a request that heard its read; where nothing is read, it has no session
abbrev pub heard_read : {P : Type 0} → SessionWay → Visit P → Visit P
heard_read (way.Reading r) v = told_read (outcome_of_read r) v
heard_read way.Resting v = record v { work = Opening }
heard_read (way.Ordered order) v = record v { work = Opening }
heard_read (way.Writing w) v = record v { work = Opening }
heard_read (way.Settling w) v = record v { work = Opening }
heard_read (way.Holding passes) v = record v { work = Opening }

-- the text of a cookie under a key
abbrev pub cookie_text : List ℕ → Cookie → List ℕ
cookie_text key cookie = encode_of url_safe_no_pad (cookie_fields cookie ++ tag_of key cookie)

-- the response to a request that is committed, by the cookie that was written, if one was
abbrev pub response_by : List ℕ → VisitFacts → Shown → Option Cookie → List ℕ
response_by key facts shown None = response answer.TryAgain facts.close facts.head_only
response_by key facts shown (Some cookie) = shown_response facts shown (cookie_text key cookie)

-- what a request of this work becomes by itself
abbrev pub own_by : {P : Type 0} → List ℕ → Visit P → Work P → Visit P
own_by key v Reading = heard_read v.way v
own_by key v Opening = v
own_by key v (Serving tries program) = v
own_by key v (Committed place again shown) =
    record v { work = Answered (Writing place again) (response_by key v.facts shown (cookie_in (answer_held v.way))) }
own_by key v (Decided became) = responded became v
own_by key v (Answered fate bytes) = v
own_by key v (Left fate) = v

-- What a request becomes by itself, under the service's key: it hears its read, or its response is made.
unfoldable pub own : {P : Type 0} → List ℕ → Visit P → Visit P
own key v = own_by key v v.work
