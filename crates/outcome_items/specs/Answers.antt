-- What is answered for each outcome: `answer_of` is the table of answers.
use Rattle.std.specs.Prelude.{◌≡◌, ℕ, Bool, true, false, List, Option, Some, None}
use Rattle.journal_model.specs.declared.entry.DoneText.{DoneText}
use Rattle.journal_model.specs.declared.entry.Entry.{Entry}
use Rattle.http_wire.specs.declared.taken.Head.{Head}
use Rattle.http_wire.specs.declared.taken.MethodKind.{MethodKind}
use Rattle.http_wire.specs.declared.taken.MethodKind.TheVariants.{Get, HeadOnly, Post, Other}
use Rattle.session_cookie.specs.Text.{IsTextOf}
use Rattle.session_cookie.specs.declared.cookie.Cookie.{Cookie}
use Rattle.request_decisions.specs.declared.decision.Refusal.{Refusal}
use Rattle.request_decisions.specs.declared.decision.Refusal.TheVariants as refusal
use Rattle.site_responses.specs.declared.answer.SiteAnswer.{SiteAnswer}
use Rattle.site_responses.specs.declared.answer.SiteAnswer.TheVariants as answer
use Rattle.site_responses.specs.Responses.{failed_page, response}
use Rattle.request_tries.specs.Ends.{done_at}
use Rattle.request_tries.specs.declared.outcome.RequestOutcome.{RequestOutcome}
use Rattle.request_tries.specs.declared.outcome.RequestOutcome.TheVariants.{Page, Sentinel, Hung, Raised, Revoked, Conflict, JournalFull, KeeperFailed}
use Rattle.outcome_items.specs.declared.item.Item.{Item}
use Rattle.outcome_items.specs.declared.outcome.ItemOutcome.{ItemOutcome}
use Rattle.outcome_items.specs.declared.outcome.ItemOutcome.TheVariants.{Refused, SerialsSpent, Expired, Lost, Ended, Overload, Missed}

-- the answer to a request that is refused at once
abbrev pub answer_of_refusal : Refusal → SiteAnswer
answer_of_refusal refusal.NotThere = answer.NotThere
answer_of_refusal (refusal.NotAllowed allow) = answer.NotAllowed allow
answer_of_refusal refusal.Multipart = answer.Multipart
answer_of_refusal (refusal.BadForm field) = answer.BadForm field
answer_of_refusal (refusal.StaleForm token_boot boot) = answer.StaleForm

-- The answer to a request that is committed: what its entry answers, with the cookie's text where the session was
-- written. An entry without an action counts as one that answers that it failed.
abbrev pub answer_of_page : Option DoneText → Option (List ℕ) → SiteAnswer
answer_of_page (Some d) cookie = answer.Page d.status d.page cookie
answer_of_page None cookie = answer.Page 500 failed_page cookie

-- the answer to a request that came to an end in the container
abbrev pub answer_of_end : Option DoneText → Option (List ℕ) → RequestOutcome → SiteAnswer
answer_of_end what cookie (Page place again) = answer_of_page what cookie
answer_of_end what cookie (Sentinel group down) = answer.TryAgain
answer_of_end what cookie (Hung component fault path) = answer.Failed
answer_of_end what cookie (Raised component fault path) = answer.Failed
answer_of_end what cookie (Revoked tries) = answer.TryAgain
answer_of_end what cookie (Conflict tries) = answer.TryAgain
answer_of_end what cookie (JournalFull full) = answer.TryAgain
answer_of_end what cookie KeeperFailed = answer.TryAgain

-- The answer to a request, by what became of it: of a page what its entry answers, and the text of the cookie that it
-- sets.
abbrev pub answer_of : Option DoneText → Option (List ℕ) → ItemOutcome → SiteAnswer
answer_of what cookie (Refused why) = answer_of_refusal why
answer_of what cookie (SerialsSpent seen) = answer.TryAgain
answer_of what cookie (Expired now expiry) = answer.Expired
answer_of what cookie (Lost causes) = answer.Lost
answer_of what cookie (Ended end) = answer_of_end what cookie end
answer_of what cookie (Overload place again full) = answer.TryAgain
answer_of what cookie (Missed place again causes) = answer.TryAgain

-- a request came to an end in the container that is a page
abbrev pub IsPageEnd : RequestOutcome → Type 0
IsPageEnd (Page place again) = Unit {0}
IsPageEnd (Sentinel group down) = ⊥
IsPageEnd (Hung component fault path) = ⊥
IsPageEnd (Raised component fault path) = ⊥
IsPageEnd (Revoked tries) = ⊥
IsPageEnd (Conflict tries) = ⊥
IsPageEnd (JournalFull full) = ⊥
IsPageEnd KeeperFailed = ⊥

-- a request is answered by a page of its entry
abbrev pub IsPage : ItemOutcome → Type 0
IsPage (Refused why) = ⊥
IsPage (SerialsSpent seen) = ⊥
IsPage (Expired now expiry) = ⊥
IsPage (Lost causes) = ⊥
IsPage (Ended end) = IsPageEnd end
IsPage (Overload place again full) = ⊥
IsPage (Missed place again causes) = ⊥

-- a component that a request entered in the container did not come back, or failed
abbrev pub IsFaultEnd : RequestOutcome → Type 0
IsFaultEnd (Page place again) = ⊥
IsFaultEnd (Sentinel group down) = ⊥
IsFaultEnd (Hung component fault path) = Unit {0}
IsFaultEnd (Raised component fault path) = Unit {0}
IsFaultEnd (Revoked tries) = ⊥
IsFaultEnd (Conflict tries) = ⊥
IsFaultEnd (JournalFull full) = ⊥
IsFaultEnd KeeperFailed = ⊥

-- the same of an outcome
abbrev pub IsFault : ItemOutcome → Type 0
IsFault (Refused why) = ⊥
IsFault (SerialsSpent seen) = ⊥
IsFault (Expired now expiry) = ⊥
IsFault (Lost causes) = ⊥
IsFault (Ended end) = IsFaultEnd end
IsFault (Overload place again full) = ⊥
IsFault (Missed place again causes) = ⊥

-- the session that a request came with is gone
abbrev pub HasNoSession : ItemOutcome → Type 0
HasNoSession (Refused why) = ⊥
HasNoSession (SerialsSpent seen) = ⊥
HasNoSession (Expired now expiry) = Unit {0}
HasNoSession (Lost causes) = Unit {0}
HasNoSession (Ended end) = ⊥
HasNoSession (Overload place again full) = ⊥
HasNoSession (Missed place again causes) = ⊥

-- what a page's entry in a journal answers
abbrev pub shown_by_end : List Entry → RequestOutcome → Option DoneText
shown_by_end es (Page place again) = done_at es place
shown_by_end es (Sentinel group down) = None
shown_by_end es (Hung component fault path) = None
shown_by_end es (Raised component fault path) = None
shown_by_end es (Revoked tries) = None
shown_by_end es (Conflict tries) = None
shown_by_end es (JournalFull full) = None
shown_by_end es KeeperFailed = None

-- the same of an outcome
abbrev pub shown_by_entry : List Entry → ItemOutcome → Option DoneText
shown_by_entry es (Refused why) = None
shown_by_entry es (SerialsSpent seen) = None
shown_by_entry es (Expired now expiry) = None
shown_by_entry es (Lost causes) = None
shown_by_entry es (Ended end) = shown_by_end es end
shown_by_entry es (Overload place again full) = None
shown_by_entry es (Missed place again causes) = None

-- the text of a cookie under the service's key, if there is a cookie
abbrev pub IsTextWhere : List ℕ → Option Cookie → Option (List ℕ) → Type 0
IsTextWhere key None text = text ≡ None
IsTextWhere key (Some cookie) None = ⊥
IsTextWhere key (Some cookie) (Some text) = IsTextOf key cookie text

-- whether a request asks for the head of its response alone
abbrev pub is_head_only : MethodKind → Bool
is_head_only Get = false
is_head_only HeadOnly = true
is_head_only Post = false
is_head_only Other = false

-- The bytes are the response to a request with this item: under the service's key, over the journal as it was when the
-- container was last held for it.
pub record IsResponse (key : List ℕ) (es : List Entry) (item : Item) (head : Head) (bytes : List ℕ) : Type 0 where
  pub text : Option (List ℕ)
  pub text_is : IsTextWhere key item.cookie text
  pub bytes_are : bytes ≡ response (answer_of (shown_by_entry es item.outcome) text item.outcome) head.close (is_head_only head.method)
