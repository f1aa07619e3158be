-- What follows the commit of a request: its response, or first the write of its session.
use Rattle.std.specs.Prelude.{ℕ, List, Option, Some, None}
use Rattle.journal_model.specs.declared.entry.DoneText.{DoneText}
use Rattle.journal_model.specs.declared.entry.SessionChange.{SessionChange}
use Rattle.journal_model.specs.declared.entry.SessionChange.TheVariants.{Keep, Set}
use Rattle.session_way.specs.Lease.{expiry_at, value_to_write}
use Rattle.session_way.specs.declared.lease.SessionLease.{SessionLease}
use Rattle.session_way.specs.declared.session_write.WriteOrder.{WriteOrder}
use Rattle.site_responses.specs.Responses.{failed_page, response}
use Rattle.site_responses.specs.declared.answer.SiteAnswer.TheVariants as answer
use Rattle.outcome_items.specs.Answers.{answer_of_page}
use Rattle.request_visit.specs.declared.facts.VisitFacts.{VisitFacts}
use Rattle.request_visit.specs.declared.ready.Ready.{Ready}
use Rattle.request_visit.specs.declared.ready.Ready.TheVariants.{Respond, Write}
use Rattle.request_visit.specs.declared.ready.Shown.{Shown}

-- the value that an action sets the session to, if it sets one
abbrev pub set_by : SessionChange → Option (List ℕ)
set_by Keep = None
set_by (Set value) = Some value

-- the value that an entry sets the session to: one without an action keeps it
abbrev pub set_in : Option DoneText → Option (List ℕ)
set_in None = None
set_in (Some done) = set_by done.session

-- what an entry shows: one without an action that it failed
abbrev pub shown_by : Option DoneText → Shown
shown_by None = record { status = 500; page = failed_page }
shown_by (Some done) = record { status = done.status; page = done.page }

-- the order by which a value is written for a request
abbrev pub order_of : VisitFacts → List ℕ → WriteOrder
order_of facts value =
    record { nonce = facts.write; key = facts.key; value = value; expiry = expiry_at facts.now }

-- the response that shows a page, and sets the cookie of this text
abbrev pub shown_response : VisitFacts → Shown → List ℕ → List ℕ
shown_response facts shown text = response (answer.Page shown.status shown.page (Some text)) facts.close facts.head_only

-- what follows, by the value that is to be written, if one is
abbrev pub ready_by : VisitFacts → Option DoneText → Option (List ℕ) → Ready
ready_by facts done None = Respond (response (answer_of_page done None) facts.close facts.head_only)
ready_by facts done (Some value) = Write (order_of facts value) (shown_by done)

-- What follows the commit of an entry that answers this: the session is written where the action sets it, and where
-- it was read and its lease is due; then the response waits for the write. Else it is made at once.
abbrev pub ready_of : VisitFacts → Option SessionLease → Option DoneText → Ready
ready_of facts lease done = ready_by facts done (value_to_write (set_in done) facts.now lease)
