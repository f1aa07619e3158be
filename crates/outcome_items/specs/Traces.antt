-- What an item tells of what was done for its request: in the container, and in the windows.
use Rattle.std.specs.Prelude.{◌≡◌, Bool, true, false, List, [], ◌∷◌, slice_get, Option, Some, None, Result, Ok, Err}
use Rattle.std.specs.List.{flat_map}
use Rattle.crash_base.specs.declared.numbers.Place.{Place}
use Rattle.crash_base.specs.declared.numbers.RequestNo.{RequestNo}
use Rattle.boot_core.specs.declared.refusals.CommitRefusal.TheVariants as commits
use Rattle.boot_core.specs.declared.refusals.Refused.{Refused as Refusal}
use Rattle.journal_model.specs.declared.entry.Entry.{Entry}
use Rattle.container_core.specs.declared.history.Event.{Event}
use Rattle.container_core.specs.declared.history.Event.TheVariants.{Added, KeeperFailed as FailedMark}
use Rattle.session_cookie.specs.declared.cookie.Cookie.{Cookie}
use Rattle.send_windows.specs.declared.history.WindowMark.{WindowMark}
use Rattle.send_windows.specs.declared.history.WindowMark.TheVariants as mark
use Rattle.request_tries.specs.declared.outcome.RequestOutcome.{RequestOutcome}
use Rattle.request_tries.specs.declared.outcome.RequestOutcome.TheVariants.{Page, Sentinel, Hung, Raised, Revoked, Conflict, JournalFull, KeeperFailed}
use Rattle.outcome_items.specs.declared.item.Item.{Item}
use Rattle.outcome_items.specs.declared.outcome.ItemOutcome.{ItemOutcome}
use Rattle.outcome_items.specs.declared.outcome.ItemOutcome.TheVariants.{Refused, SerialsSpent, Expired, Lost, Ended, Overload, Missed}

-- an entry as an event, if there is one
abbrev pub added_if : Option Entry → List Event
added_if None = []
added_if (Some e) = Added e ∷ []

-- the event of the entry at a place, where no earlier call of the request added it
abbrev pub entry_added : List Entry → Place → Bool → List Event
entry_added es place true = []
entry_added es place false = added_if (slice_get es place.0)

-- the mark of a keeper that failed, at a commit of a request
abbrev pub mark_of : Option RequestNo → List Event
mark_of None = []
mark_of (Some request) = FailedMark request ∷ []

-- what an end in the container adds to its history, where the journal is this one
abbrev pub events_of_end : List Entry → Option RequestNo → RequestOutcome → List Event
events_of_end es request (Page place again) = entry_added es place again
events_of_end es request (Sentinel group down) = []
events_of_end es request (Hung component fault path) = []
events_of_end es request (Raised component fault path) = []
events_of_end es request (Revoked tries) = []
events_of_end es request (Conflict tries) = []
events_of_end es request (JournalFull full) = []
events_of_end es request KeeperFailed = mark_of request

-- what an outcome adds to the history of the container
abbrev pub events_of_outcome : List Entry → Option RequestNo → ItemOutcome → List Event
events_of_outcome es request (Refused why) = []
events_of_outcome es request (SerialsSpent seen) = []
events_of_outcome es request (Expired now expiry) = []
events_of_outcome es request (Lost causes) = []
events_of_outcome es request (Ended end) = events_of_end es request end
events_of_outcome es request (Overload place again full) = entry_added es place again
events_of_outcome es request (Missed place again causes) = entry_added es place again

-- The events that a request added to the history of the container, by its item: its own entry, where that is new; the
-- mark of the keeper that failed; and else none.
abbrev pub event_trace : List Entry → Item → List Event
event_trace es item = events_of_outcome es item.request item.outcome

-- the events that the requests of these items added, in order
abbrev pub event_traces : List Entry → List Item → List Event
event_traces es items = flat_map (event_trace es) items

-- passes that were taken and spent, where a cookie is set
abbrev pub marks_of_write : Option Cookie → List WindowMark
marks_of_write None = []
marks_of_write (Some cookie) = mark.Taken 0 ∷ mark.Spent ∷ []

-- what a request did to the windows, by its outcome and the cookie that it sets
abbrev pub marks_of_outcome : Option Cookie → ItemOutcome → List WindowMark
marks_of_outcome cookie (Refused why) = []
marks_of_outcome cookie (SerialsSpent seen) = []
marks_of_outcome cookie (Expired now expiry) = []
marks_of_outcome cookie (Lost causes) = []
marks_of_outcome cookie (Ended end) = marks_of_write cookie
marks_of_outcome cookie (Overload place again full) = mark.Refused ∷ []
marks_of_outcome cookie (Missed place again causes) = mark.Taken 0 ∷ mark.Spent ∷ []

-- The marks that a request left in the history of the windows, by its item: passes refused; or taken, and then spent.
-- How many were taken is left out.
abbrev pub window_trace : Item → List WindowMark
window_trace item = marks_of_outcome item.cookie item.outcome

-- the marks that the requests of these items left, in order
abbrev pub window_traces : List Item → List WindowMark
window_traces items = flat_map window_trace items

-- a mark, with the number of passes left out
abbrev pub uncounted : WindowMark → WindowMark
uncounted (mark.Opened bricks w wq holds) = mark.Opened bricks w wq holds
uncounted (mark.Taken n) = mark.Taken 0
uncounted mark.Refused = mark.Refused
uncounted mark.Spent = mark.Spent

-- whether passes were taken
abbrev pub is_taken : WindowMark → Bool
is_taken (mark.Opened bricks w wq holds) = false
is_taken (mark.Taken n) = true
is_taken mark.Refused = false
is_taken mark.Spent = false

-- whether passes were spent
abbrev pub is_spent : WindowMark → Bool
is_spent (mark.Opened bricks w wq holds) = false
is_spent (mark.Taken n) = false
is_spent mark.Refused = false
is_spent mark.Spent = true

-- whether an earlier call of the request had committed it, if it is committed
abbrev pub again_in_end : RequestOutcome → Option Bool
again_in_end (Page place again) = Some again
again_in_end (Sentinel group down) = None
again_in_end (Hung component fault path) = None
again_in_end (Raised component fault path) = None
again_in_end (Revoked tries) = None
again_in_end (Conflict tries) = None
again_in_end (JournalFull full) = None
again_in_end KeeperFailed = None

-- the same of an outcome
abbrev pub again_in : ItemOutcome → Option Bool
again_in (Refused why) = None
again_in (SerialsSpent seen) = None
again_in (Expired now expiry) = None
again_in (Lost causes) = None
again_in (Ended end) = again_in_end end
again_in (Overload place again full) = Some again
again_in (Missed place again causes) = Some again

-- the commit of a request was refused since it had committed already
abbrev pub IsAlready : Result Place Refusal → Type 0
IsAlready (Ok place) = ⊥
IsAlready (Err refused) = (place : Place) × (refused.cause ≡ commits.Already place)

-- whether a request never came to the container
abbrev pub is_outside : ItemOutcome → Bool
is_outside (Refused why) = true
is_outside (SerialsSpent seen) = true
is_outside (Expired now expiry) = true
is_outside (Lost causes) = true
is_outside (Ended end) = false
is_outside (Overload place again full) = false
is_outside (Missed place again causes) = false
